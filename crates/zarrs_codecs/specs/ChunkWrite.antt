-- What a write in part leaves through a chain.
use Rattle.zarrs_codec.specs.StorageState.{StorageState}
use Rattle.std.specs.Prelude.{◌≡◌, ℕ, Bool, false, Option, Some, None, List, length, map, Result, Ok, Err, IfErr, OnOk, IsOkAnd, ◌+◌, ◌≤◌, All, Vec}
use Rattle.zarrs_chunk.specs.Answer.{◌>>=◌, Answers, memory, memory_or_fault, seen}
use Rattle.zarrs_chunk.specs.ChunkShape.{product}
use Rattle.zarrs_chunk.specs.Region.{Region}
use Rattle.zarrs_chunk.specs.Selection.{Selection, bounds_of}
use Rattle.zarrs_chunk.specs.declared.codec_error.CodecError.{CodecError}
use Rattle.zarrs_data_type.specs.Form.{form_of}
use Rattle.zarrs_data_type.specs.Element.{Chunk}
use Rattle.zarrs_data_type.specs.declared.endianness.Endianness.{Endianness}
use Rattle.zarrs_data_type.specs.ElementType.{ElementType}
use Rattle.zarrs_array_bytes.specs.Chunks.{fill_chunk}
use Rattle.zarrs_array_bytes.specs.Elements.{elements}
use Rattle.zarrs_array_bytes.specs.Held.{Held}
use Rattle.zarrs_codec.specs.ArrayWriter.{ArrayWriter}
use Rattle.zarrs_codec.specs.BytesToBytesCodec.{BytesCodecs}
use Rattle.zarrs_codec.specs.ChunkEdits.{data_checked, data_places, with_elements, edited_chunk}
use Rattle.zarrs_array_to_array.specs.ArrayToArrayCodec.{ArrayMapping}
use Rattle.zarrs_bytes.specs.BytesCodec.{spelling}
use Rattle.zarrs_bytes.specs.PartialRead.{place_size}
use Rattle.zarrs_bytes.specs.PartialWrite.{bytes_left, filled_chunk, with_place_bytes}
use Rattle.zarrs_chain_meaning.specs.ArrayStages.{arrays_map}
use Rattle.zarrs_chain_meaning.specs.ChunkForm.{ChunkForm}
use Rattle.zarrs_codecs.specs.ChunkRead.{form_in_place}
use Rattle.zarrs_chain_meaning.specs.CodecMeaning.{chain_meaning}
use Rattle.zarrs_codecs.specs.PartialDecoder.{chunk_reader}
use Rattle.std.proofs.Common.{Global}
use Rattle.zarrs_chunk.specs.Runs.{joined_runs, places_in}
use Rattle.zarrs_array_bytes.specs.Validity.{data_fit, validity}
use Rattle.zarrs_codec.specs.declared.capabilities.PartialEncoderCapability.{PartialEncoderCapability}
use Rattle.zarrs_chain_meaning.specs.Chain.{chain_writes}

-- The value that new elements at these places leave, or the first error. Where nothing is stored, it is that of the chunk of fill elements with the new ones. Of a stored value it is, over `bytes` without bytes-to-bytes codecs, the value with the bytes of the places, as they go through the array-to-array codecs, replaced, and with zeros before those that lie behind its end; else that of the chunk that it stands for, with the new elements.
abbrev pub value_left : {B : Type 0} → BytesCodecs B → ChunkForm B → Option (Option Endianness) → Option (List ℕ) → List ℕ → Held → Result (List ℕ) CodecError
value_left f form order None places new = (chain_meaning form.chain).value f form.sizes form.type form.fill (with_elements form.type (filled_chunk form.sizes form.type form.fill) places new)
value_left f form None (Some value) places new = do
  chunk ← (chain_meaning form.chain).chunk f form.sizes form.type form.fill value
  (chain_meaning form.chain).value f form.sizes form.type form.fill (with_elements form.type chunk places new)
value_left f form (Some order) (Some value) places new = do
  m ← arrays_map form.type form.chain.array_to_array form.sizes
  Ok (with_place_bytes (place_size form.type) value (map m.to places) (spelling order form.type (elements form.type (length places) new)))

-- The value that new elements at a selection leave of what is stored, or the first error: the selection's; that of the new elements; of what decodes the stored value; of what encodes the chunk with the new elements.
abbrev pub selection_left : {B : Type 0} → BytesCodecs B → ChunkForm B → Option (Option Endianness) → Option (List ℕ) → Selection → Held → Result (List ℕ) CodecError
selection_left f form order stored selection new = do
  places ← data_places form.sizes form.type selection new
  value_left f form order stored places new

-- the same, in place where the chain writes in place
abbrev pub stored_written : {B : Type 0} → BytesCodecs B → ChunkForm B → Option (List ℕ) → Selection → Held → Result (List ℕ) CodecError
stored_written f form stored selection new = selection_left f form (form_in_place form) stored selection new

-- the chunk that an edit starts from, or the first error: the one that the stored value stands for; where there is none, one of fill elements
abbrev pub started_chunk : {B : Type 0} → BytesCodecs B → ChunkForm B → Option (List ℕ) → Result Chunk CodecError
started_chunk f form None = fill_chunk form.type (product form.sizes) form.fill
started_chunk f form (Some value) = (chain_meaning form.chain).chunk f form.sizes form.type form.fill value

-- where new elements at a selection go through array-to-array codecs, or the first error: the selection's; that of the new elements
abbrev pub written_places : ElementType → List ArrayMapping → List ℕ → Selection → Held → Result (List ℕ) CodecError
written_places type arrays sizes selection new = do
  places ← data_places sizes type selection new
  m ← arrays_map type arrays sizes
  Ok (map m.to places)

-- the writer of a chunk of this form, where these bytes are sure: it leaves of a selection and new elements what `stored_written` says
abbrev pub chunk_writer : {B : Type 0} → BytesCodecs B → ChunkForm B → Option (ℕ → Bool) → Bool → ArrayWriter
chunk_writer f form sure in_part = record {
  reads = λ stored. chunk_reader f form false sure stored in_part;
  checks = data_checked form.sizes form.type;
  written = stored_written f form;
}

-- ---- in the words of chunks

-- an edit of what is stored starts from this chunk: the one that the value stands for; where there is none, one of fill elements
abbrev pub EditStarts : {B : Type 0} → BytesCodecs B → ChunkForm B → Option (List ℕ) → Chunk → Type 0
EditStarts f form None chunk = chunk ≡ filled_chunk form.sizes form.type form.fill
EditStarts f form (Some value) chunk = (chain_meaning form.chain).Stands f form.sizes form.type form.fill value chunk

-- the value is written for the chunk; nothing for nothing
abbrev pub IsStoredFor : {B : Type 0} → BytesCodecs B → ChunkForm B → Option (List ℕ) → Option Chunk → Type 0
IsStoredFor f form None None = Unit {0}
IsStoredFor f form (Some value) (Some chunk) = (chain_meaning form.chain).Written f form.sizes form.type form.fill value chunk
IsStoredFor f form _ _ = ⊥

-- Where an edit of what is stored starts from a chunk, it is accepted exactly where the selection is in bounds, the new elements fit it and a value is written for the chunk with these; the value afterwards is that one, the last write of a place standing. Else the first error is answered. Only a lack of memory or a failure of the handle may come in its place, a failure behind the errors of the selection and of the elements, which leave the handle as it was.
pub record EditsStored {B : Type 0} (f : BytesCodecs B) (form : ChunkForm B) (before after : StorageState) (selection : Selection) (new : Held) (result : Result (Unit {0}) CodecError) : Type 0 where
  pub found : OnOk result ((chunk : Chunk) → EditStarts f form before.value chunk → IsOkAnd (edited_chunk form.sizes form.type chunk selection new) (λ edited. IsStoredFor f form after.value (Some edited)))
  pub only : (chunk : Chunk) (value : List ℕ) → EditStarts f form before.value chunk → IsOkAnd (edited_chunk form.sizes form.type chunk selection new) ((chain_meaning form.chain).Written f form.sizes form.type form.fill value)
      → Answers memory_or_fault (λ _. after.value) result (Ok (Some value))
  pub exact : Answers memory_or_fault (λ _. after.value) result (seen Some (stored_written f form before.value selection new))
  pub indexer_first : IfErr (bounds_of selection form.sizes) (λ cause. Answers memory (λ done. done) result (Err cause))
  pub checked_first : IfErr (data_checked form.sizes form.type selection new) (λ cause. Answers memory (λ done. done) result (Err cause))
  pub untouched : IfErr (data_checked form.sizes form.type selection new) (λ _. after ≡ before)

-- ---- what calls give

-- the check of new elements at a selection
abbrev pub form_checked : {B : Type 0} → ChunkForm B → Selection → Held → Result (Unit {0}) CodecError
form_checked form selection new = data_checked form.sizes form.type selection new

-- where they go through the array-to-array codecs
abbrev pub form_written : {B : Type 0} → ChunkForm B → Selection → Held → Result (List ℕ) CodecError
form_written form selection new = written_places form.type form.chain.array_to_array form.sizes selection new

-- all codecs of the chain encode a part
abbrev pub encodes_parts : {B : Type 0} → (B → PartialEncoderCapability) → ChunkForm B → Bool
encodes_parts writes form = (chain_writes writes form.chain).partial_encode

-- each run ends within the chunk
abbrev pub RunsInside : {B : Type 0} → ChunkForm B → List (ℕ × ℕ) → Type 0
RunsInside form runs = All (λ run. run.0 + run.1 ≤ product form.sizes) runs

-- there is one new element of the type for each place of the runs
abbrev pub FitsRuns : {B : Type 0} → ChunkForm B → List (ℕ × ℕ) → Held → Type 0
FitsRuns form runs new = data_fit form.type (length (joined_runs runs)) new ≡ Ok tt

-- there is one new element of the type for each place of a vector of runs
abbrev pub FitsPlacesIn : ElementType → Held → Vec (ℕ × ℕ) Global → Type 0
FitsPlacesIn type new runs = data_fit type (length (places_in runs)) new ≡ Ok tt

-- the value afterwards is the one that new elements at a selection leave, in place or by the whole value; or the first error is answered
abbrev pub WritesSelection : {B : Type 0} → BytesCodecs B → ChunkForm B → Option (Option Endianness) → (before after : StorageState) → Selection → Held → Result (Unit {0}) CodecError → Type 0
WritesSelection f form order before after selection new result =
    Answers memory_or_fault (λ _. after.value) result (seen Some (selection_left f form order before.value selection new))

-- where the selection is rejected, this is what is answered, or a lack of memory
abbrev pub WriteRefusedAtSelection : {B : Type 0} → ChunkForm B → Selection → Result (Unit {0}) CodecError → Type 0
WriteRefusedAtSelection form selection result = IfErr (bounds_of selection form.sizes) (λ cause. Answers memory (λ done. done) result (Err cause))

-- where the new elements are rejected, this is what is answered, or a lack of memory
abbrev pub RefusedAtData : {B : Type 0} → ChunkForm B → Selection → Held → Result (Unit {0}) CodecError → Type 0
RefusedAtData form selection new result = IfErr (form_checked form selection new) (λ cause. Answers memory (λ done. done) result (Err cause))

-- and the handle is as it was
abbrev pub UntouchedAtData : {B : Type 0} → ChunkForm B → Selection → Held → (before after : StorageState) → Type 0
UntouchedAtData form selection new before after = IfErr (form_checked form selection new) (λ _. after ≡ before)

-- What a write of new elements at a selection gives, in place with this byte order or by the whole value: the value afterwards is the one that they leave, or the first error is answered; what the selection or the elements are rejected for comes before the handle is asked, which is left as it was.
pub record WritesChunk {B : Type 0} (f : BytesCodecs B) (form : ChunkForm B) (order : Option (Option Endianness)) (before after : StorageState) (selection : Selection) (new : Held) (result : Result (Unit {0}) CodecError) : Type 0 where
  pub answer : WritesSelection f form order before after selection new result
  pub indexer_first : WriteRefusedAtSelection form selection result
  pub checked_first : RefusedAtData form selection new result
  pub untouched : UntouchedAtData form selection new before after

-- one new element for each place of a region is lent: they fit, and so do those that are lent, which are the same
pub record LendsData (type : ElementType) (region : Region) (new lent : Held) : Type 0 where
  pub fit : data_fit type (product region.lengths) new ≡ Ok tt
  pub valid : validity type (product region.lengths) lent ≡ Ok tt
  pub same : elements type (product region.lengths) lent ≡ elements type (product region.lengths) new

-- whatever is stored, new elements at a selection leave what these leave at the places of these runs of the chunk that the array-to-bytes codec gets, which has these sizes
abbrev pub LeavesThere : {B : Type 0} → BytesCodecs B → ChunkForm B → List ℕ → Option Endianness → Selection → Held → List (ℕ × ℕ) → Held → Type 0
LeavesThere f form encoded order selection new runs held =
    (stored : Option (List ℕ)) → selection_left f form (Some order) stored selection new ≡ Ok (bytes_left order (form_of encoded form.type form.fill) stored (joined_runs runs) held)
