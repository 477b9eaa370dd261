-- Windows that are read in part, and those that are cut out of the whole.
use Rattle.std.proofs.Common.{◌≡◌, ℕ, true, Option, Some, List, length, Result, Ok, Err, ap, sym, ◌∙◌, refl, subst}
use Rattle.std.specs.Prelude.{◌<◌, IsOk}
use Rattle.std.specs.List.{All}
use Rattle.zarrs_codecs.specs.Answer.{◌>>=◌, AnswersBy, Excused, memory, memory_or_fault, seen}
use Rattle.zarrs_codecs.specs.ChunkShape.{product}
use Rattle.zarrs_codecs.specs.Region.{Region}
use Rattle.zarrs_codecs.specs.Selection.{Selection, places_of}
use Rattle.zarrs_codecs.specs.CodecError.{CodecError}
use Rattle.zarrs_codecs.specs.Element.{Chunk}
use Rattle.zarrs_codecs.specs.ElementType.{ElementType}
use Rattle.zarrs_codecs.specs.Chunks.{selected_chunk}
use Rattle.zarrs_codecs.specs.Elements.{elements, select}
use Rattle.zarrs_codecs.specs.Held.{Held}
use Rattle.zarrs_codecs.specs.SameBytes.{is_same_held}
use Rattle.zarrs_codecs.specs.Tight.{IsTight}
use Rattle.zarrs_codecs.specs.Validity.{Holds, validity}
use Rattle.zarrs_codecs.specs.BytesToBytesCodec.{BytesCodecs}
use Rattle.zarrs_codecs.specs.PartialDecoderCapability.{PartialDecoderCapability}
use Rattle.zarrs_codecs.specs.ChunkForm.{ChunkForm}
use Rattle.zarrs_codecs.specs.CodecMeaning.{ChainStands}
use Rattle.zarrs_codecs.specs.Laws.{IsChainOfMappings}
use Rattle.zarrs_codecs.specs.ChunkRead.{stored_read}
use Rattle.zarrs_codecs.specs.ChunkSource.{Source, source_made}
use Rattle.zarrs_codecs.specs.MadeCoder.{made_read}
use Rattle.zarrs_codecs.specs.ReadLaws.{StandingIsOpened}
use Rattle.zarrs_codecs.proofs.MadeCoders.{passes, stops}
use Rattle.zarrs_uses.specs.Windows.{ReadsWindow}

-- ---- where no decoder is made

pub unmade : {B : Type 0} (f : BytesCodecs B) (reads : B → PartialDecoderCapability) (form : ChunkForm B) (stored : Option (List ℕ)) (selection : Selection) (e : CodecError) → Excused (memory_or_fault e) (source_made f reads form stored ≡ Err e)
    → AnswersBy memory_or_fault (Holds form.type) (Err e) (made_read f reads form stored selection)
unmade f reads form stored selection e h = λ quiet. stops (source_made f reads form stored) (stored_read f form stored selection) e (h quiet)

-- an error isn't an answer
no_error : (e : CodecError) (P : Type 0) → IsOk (let refused : Result Source CodecError = Err e in refused) → P
no_error e P h = absurd cc

-- of a value that stands for a chunk, only an excuse is a reason for that
pub unopened : {B : Type 0} (f : BytesCodecs B) (reads : B → PartialDecoderCapability) (form : ChunkForm B) (stored : Option (List ℕ)) (selection : Selection) (e : CodecError) → Excused (memory_or_fault e) (source_made f reads form stored ≡ Err e)
    → IsChainOfMappings form.chain → All (λ size. 0 < size) form.sizes → StandingIsOpened f → ReadsWindow f form stored selection (Err e)
unopened f reads form stored selection e refused mappings positive law value chunk is stands = λ quiet.
    let made : IsOk (source_made f reads form stored) = subst (λ (s : Option (List ℕ)). IsOk (source_made f reads form s)) (sym is) (law reads form value chunk mappings positive stands) in
    no_error e _ (subst (λ (r : Result Source CodecError). IsOk r) (refused quiet) made)

-- ---- where one is

-- the decoder's chunk is ours
pub read_so : {B : Type 0} (f : BytesCodecs B) (form chunk : ChunkForm B) (stored value : Option (List ℕ)) (selection : Selection) (r : Result Held CodecError) → form ≡ chunk → stored ≡ value → ReadsWindow f form stored selection r → ReadsWindow f chunk value selection r
read_so {B} f form chunk stored value selection r same_form same_value h =
    subst (λ (v : Option (List ℕ)). ReadsWindow f chunk v selection r) same_value (subst (λ (k : ChunkForm B). ReadsWindow f k stored selection r) same_form h)

pub made_so : {B : Type 0} (f : BytesCodecs B) (reads : B → PartialDecoderCapability) (form chunk : ChunkForm B) (stored value : Option (List ℕ)) (selection : Selection) (r : Result Held CodecError) (source : Source) → form ≡ chunk → stored ≡ value → source_made f reads chunk value ≡ Ok source
    → AnswersBy memory_or_fault (Holds form.type) r (stored_read f form stored selection) → AnswersBy memory_or_fault (Holds chunk.type) r (made_read f reads chunk value selection)
made_so {B} f reads form chunk stored value selection r source same_form same_value made h =
    let ours : AnswersBy memory_or_fault (Holds chunk.type) r (stored_read f chunk value selection) =
    subst (λ (v : Option (List ℕ)). AnswersBy memory_or_fault (Holds chunk.type) r (stored_read f chunk v selection)) same_value
    (subst (λ (k : ChunkForm B). AnswersBy memory_or_fault (Holds k.type) r (stored_read f k stored selection)) same_form h) in
    subst (λ (due : Result Chunk CodecError). AnswersBy memory_or_fault (Holds chunk.type) r due) (sym (passes (source_made f reads chunk value) source (stored_read f chunk value selection) made)) ours

-- ---- both

-- what is cut out of a container is what is selected of the chunk that it holds
cut_is : (type : ElementType) (sizes : List ℕ) (selection : Selection) (held : Held) (chunk : Chunk) → Holds type held chunk → length chunk ≡ product sizes → selected_chunk type sizes selection held ≡ seen (select chunk) (places_of selection sizes)
cut_is type sizes selection held chunk holds count = at (places_of selection sizes)
  where
    valid : validity type (product sizes) held ≡ Ok tt
    valid = subst (λ (n : ℕ). validity type n held ≡ Ok tt) count holds.valid

    are : elements type (product sizes) held ≡ chunk
    are = subst (λ (n : ℕ). elements type n held ≡ chunk) count holds.elements_are

    at : (places : Result (List ℕ) CodecError) → (places >>= λ ps. validity type (product sizes) held >>= λ _. let it : Result Chunk CodecError = Ok (select (elements type (product sizes) held) ps) in it) ≡ seen (select chunk) places
    at (Ok ps) = rw (valid, are) refl
    at (Err e) = refl

-- two that hold what is due hold the same
same_due : (type : ElementType) (read cut : Held) (due : Result Chunk CodecError) (Same : Type 0) → ((chunk : Chunk) → Holds type read chunk → Holds type cut chunk → Same)
    → AnswersBy memory_or_fault (Holds type) (Ok read) due → AnswersBy memory (Holds type) (Ok cut) due → Same
same_due type read cut (Ok chunk) Same law one other = law chunk one other
same_due type read cut (Err e) Same law one other = absurd one

pub windows_same : {B : Type 0} (f : BytesCodecs B) (form : ChunkForm B) (value : List ℕ) (chunk : Chunk) (window : Region) (selection : Selection) (whole read cut : Held)
    → ChainStands f form.chain form.sizes form.type form.fill value chunk → Holds form.type whole chunk → selection ≡ Selection.subset window
    → ReadsWindow f form (Some value) (Selection.subset window) (Ok read) → AnswersBy memory (Holds form.type) (Ok cut) (selected_chunk form.type form.sizes selection whole) → IsTight form.type read → IsTight form.type cut
    → ((type : ElementType) (a b : Held) (chunk : Chunk) → IsTight type a → IsTight type b → Holds type a chunk → Holds type b chunk → is_same_held a b ≡ true) → is_same_held read cut ≡ true
windows_same f form value chunk window selection whole read cut stands holds box reads cuts tight tight_cut law =
    same_due form.type read cut (seen (select chunk) (places_of (Selection.subset window) form.sizes)) (is_same_held read cut ≡ true) (λ c one other. law form.type read cut c tight tight_cut one other) (reads value chunk refl stands)
    (subst (λ (due : Result Chunk CodecError). AnswersBy memory (Holds form.type) (Ok cut) due) (cut_is form.type form.sizes selection whole chunk holds stands.elements.count_is ∙ ap (λ (s : Selection). seen (select chunk) (places_of s form.sizes)) box) cuts)

-- a copy of a window is the same one
pub same_box : (copy window : Region) → ◌≡◌ {A = Result Region CodecError} (Ok window) (Ok copy) → Selection.subset copy ≡ Selection.subset window
same_box copy window e = ap Selection.subset (let same : copy ≡ window = cc in same)
