-- What a read through a chain rests on where its bytes are planned.
use Rattle.std.specs.Prelude.{◌≡◌, ℕ, true, Option, Some, None, List, length, slice_index, Result, Ok, if◌then◌else◌}
use Rattle.std.specs.List.{All}
use Rattle.zarrs_chunk.specs.Answer.{◌>>=◌}
use Rattle.zarrs_chunk.specs.Selection.{Selection}
use Rattle.zarrs_chunk.specs.declared.codec_error.CodecError.{CodecError}
use Rattle.zarrs_codec.specs.ByteRanges.{SameByte}
use Rattle.zarrs_codec.specs.BytesToBytesCodec.{BytesCodecs}
use Rattle.zarrs_chain_meaning.specs.Chain.{taken_form}
use Rattle.zarrs_codecs.specs.ChunkRead.{asks_in_part, encoded_places, read_rests_on, reads_places, stored_read}
use Rattle.zarrs_chain_meaning.specs.ChunkForm.{ChunkForm}
use Rattle.zarrs_codecs.specs.CodecPart.{codec_rests_on}

-- The numbers of the bytes that a read of a selection asks for, whatever is stored, where it asks for the bytes of its places alone; else none. Or the first error.
abbrev pub planned_bytes : {B : Type 0} → BytesCodecs B → ChunkForm B → Selection → Result (Option (List ℕ)) CodecError
planned_bytes f form selection = do
  places ← encoded_places form.type form.chain.array_to_array form.sizes selection
  taken ← taken_form f form.chain form.sizes form.type form.fill
  numbers ← codec_rests_on f form.chain.array_to_bytes taken.0 form.type form.fill None places
  Ok (if reads_places form.chain.bytes_to_bytes form.chain.array_to_bytes then Some numbers else None)

-- these are the planned bytes
abbrev pub ArePlanned : {B : Type 0} → BytesCodecs B → ChunkForm B → Selection → List ℕ → Type 0
ArePlanned f form selection numbers = planned_bytes f form selection ≡ Ok (Some numbers)

-- Two values that both have all planned bytes, and the same ones, are read alike.
abbrev pub PlannedReadsAlike : {B : Type 0} → BytesCodecs B → Type 0
PlannedReadsAlike {B} f =
    (form : ChunkForm B) (value other : List ℕ) (selection : Selection) (numbers : List ℕ)
    → ArePlanned f form selection numbers → All (SameByte value other) numbers
    → stored_read f form (Some value) selection ≡ stored_read f form (Some other) selection

-- Two values of one length that are the same at the planned bytes, as far as they reach, are read alike, or fail by the same cause.
abbrev pub SizedReadsAlike : {B : Type 0} → BytesCodecs B → Type 0
SizedReadsAlike {B} f =
    (form : ChunkForm B) (value other : List ℕ) (selection : Selection) (numbers : List ℕ)
    → ArePlanned f form selection numbers → length value ≡ length other → All (λ number. slice_index value number ≡ slice_index other number) numbers
    → stored_read f form (Some value) selection ≡ stored_read f form (Some other) selection

-- A read asks for a part of the value alone, and for the bytes with these numbers.
pub record AsksFor {B : Type 0} (f : BytesCodecs B) (form : ChunkForm B) (stored : Option (List ℕ)) (selection : Selection) (numbers : List ℕ) : Type 0 where
  pub in_part : asks_in_part form.chain.bytes_to_bytes form.chain.array_to_bytes ≡ true
  pub asked : read_rests_on f form stored selection ≡ Ok (Some numbers)

-- Of whatever is stored, a read asks for the planned bytes.
abbrev pub PlannedIsAsked : {B : Type 0} → BytesCodecs B → Type 0
PlannedIsAsked {B} f =
    (form : ChunkForm B) (stored : Option (List ℕ)) (selection : Selection) (numbers : List ℕ)
    → ArePlanned f form selection numbers → AsksFor f form stored selection numbers
