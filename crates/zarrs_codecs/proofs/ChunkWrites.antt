-- What a write in part leaves through a chain.
use Rattle.std.proofs.Common.{◌≡◌, ℕ, ◌<◌, ◌||◌, Bool, true, false, Option, Some, None, List, length, replicate, Result, Ok, Err, refl, ap, sym, ◌∙◌, subst}
use Rattle.std.specs.List.{All}
use Rattle.std.specs.Prelude.{IsOkAnd}
use Rattle.std.proofs.lemmas.List.{length-replicate}
use Rattle.std.proofs.lemmas.List.Elements.{All-replicate}
use Rattle.zarrs_chunk.specs.Answer.{demand, Answers, memory, fault, memory_or_fault}
use Rattle.zarrs_chunk.specs.ChunkShape.{product}
use Rattle.zarrs_chunk.specs.declared.codec_error.CodecError.{CodecError}
use Rattle.zarrs_chunk.specs.declared.codec_error.CodecError.TheVariants.{InvalidFillValue}
use Rattle.zarrs_data_type.specs.Element.{Chunk, fill_element, IsElement}
use Rattle.zarrs_data_type.specs.ElementType.{ElementType}
use Rattle.zarrs_data_type.specs.FillValue.{fill_fits}
use Rattle.zarrs_data_type.proofs.FillLemmas.{fill_element-IsElement}
use Rattle.zarrs_array_bytes.specs.Chunks.{fill_chunk, update_at_places}
use Rattle.zarrs_array_bytes.specs.Elements.{elements}
use Rattle.zarrs_array_bytes.specs.Held.{Held}
use Rattle.zarrs_array_bytes.specs.Validity.{Holds, data_fit, data_mismatch, sizes_fit, validity}
use Rattle.zarrs_array_bytes.proofs.ElementLaw.{AreElements-elements}
use Rattle.zarrs_array_bytes.proofs.WriteLemmas.{length-update}
use Rattle.zarrs_codec.specs.BytesToBytesCodec.{BytesCodecs}
use Rattle.zarrs_codec.specs.ChunkEdits.{with_elements}
use Rattle.zarrs_bytes.specs.BytesCodec.{IsChunk}
use Rattle.zarrs_bytes.specs.PartialWrite.{filled_chunk}
use Rattle.zarrs_chain_meaning.specs.Chain.{held_value}
use Rattle.zarrs_chain_meaning.specs.ChunkForm.{ChunkForm}
use Rattle.zarrs_codecs.specs.ChunkWrite.{started_chunk, value_left}
use Rattle.zarrs_chain_meaning.specs.Laws.{IsChainOfMappings}
use Rattle.zarrs_bytes.proofs.Coding.{ok, bind_ok}
use Rattle.zarrs_array_bytes.proofs.UpdatedLemmas.{length-elements}
use Rattle.zarrs_chain_meaning.proofs.ArraySteps.{ok_is}
use Rattle.zarrs_chain_meaning.proofs.ChainRelations.{held_value_is}
use Rattle.zarrs_chain_meaning.proofs.CodecLaws.{chain_read_found}
use Rattle.zarrs_codecs.proofs.PartialCalls.{held_of}
use Rattle.zarrs_array_bytes.proofs.UpdateCalls.{All-update}
use Rattle.zarrs_chain_meaning.specs.CodecMeaning.{chain_meaning}

-- ---- new elements in a container

updated_so : (type : ElementType) (count : ℕ) (places : List ℕ) (held new : Held) → validity type count held ≡ Ok tt → data_fit type (length places) new ≡ Ok tt → update_at_places type count places held new ≡ Ok (with_elements type (elements type count held) places new)
updated_so type count places held new valid fit = rw (valid, fit) refl

-- the value of the updated container is that of the chunk with the new elements
pub value_answer : {B X : Type 0} (view : X → List ℕ) (result : Result X CodecError) (f : BytesCodecs B) (form : ChunkForm B) (held edited new : Held) (places : List ℕ) → validity form.type (product form.sizes) held ≡ Ok tt → data_fit form.type (length places) new ≡ Ok tt
    → IsOkAnd (update_at_places form.type (product form.sizes) places held new) (Holds form.type edited) → Answers memory view result (held_value f form.chain form.sizes form.type form.fill edited)
    → Answers memory view result ((chain_meaning form.chain).value f form.sizes form.type form.fill (with_elements form.type (elements form.type (product form.sizes) held) places new))
value_answer view result f form held edited new places valid fit u h =
    let n = product form.sizes in
    let old = elements form.type n held in
    let chunk = with_elements form.type old places new in
    let holds : Holds form.type edited chunk = subst (λ (r : Result Chunk CodecError). IsOkAnd r (Holds form.type edited)) (updated_so form.type n places held new valid fit) u in
    let long : length chunk ≡ n = length-update old places (elements form.type (length places) new) ∙ length-elements form.type n held in
    subst (λ (x : Result (List ℕ) CodecError). Answers memory view result x) (held_value_is f form.chain form.sizes form.type form.fill edited chunk holds long) h

-- ---- what an edit starts from

filled_so : (type : ElementType) (count : ℕ) (fill : List ℕ) (chunk : Chunk) → fill_chunk type count fill ≡ Ok chunk → replicate count (fill_element type fill) ≡ chunk
filled_so type count fill chunk e =
    let a = bind_ok (demand (fill_fits type fill) InvalidFillValue) _ chunk e in
    let b = bind_ok (sizes_fit type count) _ chunk a.2 in
    ok_is _ _ b.2

started_count : {B : Type 0} (f : BytesCodecs B) (form : ChunkForm B) (stored : Option (List ℕ)) → IsChainOfMappings form.chain → All (λ size. 0 < size) form.sizes → (chunk : Chunk) → started_chunk f form stored ≡ Ok chunk → length chunk ≡ product form.sizes
started_count f form None is positive chunk e =
    ap length (sym (filled_so form.type (product form.sizes) form.fill chunk e)) ∙ length-replicate (product form.sizes) (fill_element form.type form.fill)
started_count f form (Some value) is positive chunk e =
    (chain_read_found f form.chain is form.sizes form.type form.fill value chunk positive e).elements.count_is

-- a container of the chunk that an edit starts from
pub started_held : {B : Type 0} (f : BytesCodecs B) (form : ChunkForm B) (stored : Option (List ℕ)) (held : Held) → IsChainOfMappings form.chain → All (λ size. 0 < size) form.sizes → IsOkAnd (started_chunk f form stored) (Holds form.type held)
    → (started_chunk f form stored ≡ ok (elements form.type (product form.sizes) held)) × (validity form.type (product form.sizes) held ≡ Ok tt)
started_held f form stored held is positive h = held_of form.type (product form.sizes) held (started_chunk f form stored) (started_count f form stored is positive) h

left_is : {B : Type 0} (f : BytesCodecs B) (form : ChunkForm B) (stored : Option (List ℕ)) (chunk : Chunk) (places : List ℕ) (new : Held) → started_chunk f form stored ≡ ok chunk → value_left f form None stored places new ≡ (chain_meaning form.chain).value f form.sizes form.type form.fill (with_elements form.type chunk places new)
left_is f form None chunk places new e = ap (λ (c : Chunk). (chain_meaning form.chain).value f form.sizes form.type form.fill (with_elements form.type c places new)) (filled_so form.type (product form.sizes) form.fill chunk e)
left_is f form (Some value) chunk places new e = rw e refl

weaker : {X V : Type 0} (view : X → V) (r : Result X CodecError) (expected : Result V CodecError) → Answers memory view r expected → Answers memory_or_fault view r expected
weaker view (Ok x) expected h = h
weaker view (Err e) expected h = λ m. h (first_false (memory e) (fault e) m)
  where
    first_false : (a b : Bool) → (a || b) ≡ false → a ≡ false
    first_false true b h = absurd cc
    first_false false b h = refl

-- the value that is left is the one of the chunk that an edit starts from
pub left_answer : {B X : Type 0} (view : X → List ℕ) (result : Result X CodecError) (f : BytesCodecs B) (form : ChunkForm B) (stored : Option (List ℕ)) (chunk : Chunk) (places : List ℕ) (new : Held) → started_chunk f form stored ≡ ok chunk
    → Answers memory view result ((chain_meaning form.chain).value f form.sizes form.type form.fill (with_elements form.type chunk places new)) → Answers memory_or_fault view result (value_left f form None stored places new)
left_answer view result f form stored chunk places new e h =
    weaker view result (value_left f form None stored places new) (subst (λ (x : Result (List ℕ) CodecError). Answers memory view result x) (sym (left_is f form stored chunk places new e)) h)

-- ---- elements of a chunk with new elements

-- they are of the type, where the old and the new ones are
pub edited_is : (sizes : List ℕ) (type : ElementType) (chunk : Chunk) (places : List ℕ) (new : Held) → IsChunk type (product sizes) chunk → data_fit type (length places) new ≡ Ok tt → IsChunk type (product sizes) (with_elements type chunk places new)
edited_is sizes type chunk places new is fit = record {
  count_is = length-update chunk places (elements type (length places) new) ∙ is.count_is;
  each = All-update (IsElement type) chunk places (elements type (length places) new) is.each (AreElements-elements data_mismatch type (length places) new fit);
}

-- fill elements are of the type
pub filled_is : (sizes : List ℕ) (type : ElementType) (fill : List ℕ) → fill_fits type fill ≡ true → IsChunk type (product sizes) (filled_chunk sizes type fill)
filled_is sizes type fill fits = record {
  count_is = length-replicate (product sizes) (fill_element type fill);
  each = All-replicate (IsElement type) (product sizes) (fill_element type fill) (fill_element-IsElement type fill fits);
}
