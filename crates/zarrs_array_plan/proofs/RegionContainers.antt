-- Containers of a region's elements, part by part.
use Rattle.std.proofs.Common.{◌≡◌, ◌∙◌, ℕ, ◌^◌, true, Ok, Err, Result, IfOk, IsOkAnd, List, ◌∷◌, length, replicate, arith, refl, ap, sym, subst, eq-eqb}
use Rattle.std.proofs.lemmas.List.{length-replicate}
use Rattle.zarrs_chunk.specs.Answer.{◌>>=◌, demand, AnswersBy, GivesBy, memory, no_refusal}
use Rattle.zarrs_chunk.specs.ChunkShape.{product}
use Rattle.zarrs_chunk.specs.Region.{Region}
use Rattle.zarrs_chunk.specs.Selection.{subset, places_of}
use Rattle.zarrs_chunk.specs.Tuples.{is_box_inside}
use Rattle.zarrs_chunk.specs.declared.codec_error.CodecError.{CodecError}
use Rattle.zarrs_chunk.specs.declared.codec_error.CodecError.TheVariants.{InvalidBytesLength, InvalidFillValue}
use Rattle.zarrs_chunk.proofs.Inside.{lt_test, is_box_inside-lengths}
use Rattle.zarrs_data_type.specs.Element.{Chunk, Element, absent, fill_element}
use Rattle.zarrs_data_type.specs.FillValue.{fill_fits}
use Rattle.zarrs_data_type.specs.ElementType.{ElementType}
use Rattle.zarrs_array_bytes.specs.Chunks.{fill_chunk, chunk_update, selected_chunk}
use Rattle.zarrs_array_bytes.specs.Elements.{elements}
use Rattle.zarrs_array_bytes.specs.Held.{Held}
use Rattle.zarrs_array_bytes.specs.Update.{update}
use Rattle.zarrs_array_bytes.specs.Validity.{levels_fit, sizes_fit, validity, data_fit, data_mismatch, Holds}
use Rattle.zarrs_array_bytes.proofs.PresentAnswers.{fits_too}
use Rattle.zarrs_array_bytes.proofs.UpdatedLemmas.{length-elements}
use Rattle.zarrs_array_bytes.proofs.ValidLemmas.{both_ok}
use Rattle.zarrs_array_bytes.proofs.WriteLemmas.{length-update}
use Rattle.zarrs_grid.specs.JoinedParts.{HasChunks}
use Rattle.zarrs_grid.specs.Parts.{box_in_region}
use Rattle.zarrs_grid.specs.RegionElements.{elements_of_part, places_in_region, region_elements, chunk_element}
use Rattle.zarrs_grid.specs.RegionWrites.{new_of_part}
use Rattle.zarrs_grid.specs.declared.chunk_part.ChunkPart.{ChunkPart}
use Rattle.zarrs_grid.proofs.Cut.{listed_touches}
use Rattle.zarrs_grid.proofs.PartPlaces.{part_count, length-places, length-elements as length-part}
use Rattle.zarrs_grid.proofs.PartsJoined.{part_joined, all_joined}
use Rattle.zarrs_grid.proofs.Tuples.{part_in_region}
use Rattle.zarrs_array_plan.specs.Joined.{IsRegionPart, HoldsChunks, BeginsRegion, JoinsPart, CutsPart, AllChunksMakeTheRegion}

-- a container of so many elements is new data for as many places
valid_data : (t : ElementType) (n : ℕ) (h : Held) → validity t n h ≡ Ok tt → data_fit t n h ≡ Ok tt
valid_data t n h v = fits_too InvalidBytesLength data_mismatch t n h (both_ok (sizes_fit t n) (levels_fit InvalidBytesLength t n h) v).1

-- ---- what is answered where no error is due

answered : {T : Type 0} {V : Type 0} (R : T → V → Type 0) (Q : T → Type 0) (r : Result T CodecError) (expected : Result V CodecError) (v : V)
    → expected ≡ Ok v → ((it : T) → R it v → Q it) → AnswersBy memory R r expected
    → AnswersBy memory (λ it _. Q it) r (no_refusal {E = CodecError})
answered R Q (Ok it) expected v e f answers = f it (subst (λ x. IsOkAnd x (R it)) e answers)
answered R Q (Err error) expected v e f answers = λ ne. let never : ⊥ = cc (answers ne) in absurd never

-- ---- a part of a region

module _ (chunk_shape : List ℕ) (region : Region) (part : ChunkPart) (own : IsRegionPart chunk_shape region part) where
  abbrev numbers : List ℕ
  numbers = part.chunk.items

  abbrev places : List ℕ
  places = places_in_region chunk_shape region numbers

  abbrev size : ℕ
  size = product region.lengths

  -- it lies in the region
  there : is_box_inside region.lengths (box_in_region chunk_shape region numbers).starts (box_in_region chunk_shape region numbers).lengths ≡ true
  there = part_in_region chunk_shape numbers region.starts region.lengths (listed_touches chunk_shape region numbers own.grid own.touched)

  -- so no error is due for its places
  placed : places_of (subset part.in_region) region.lengths ≡ Ok places
  placed =
      let box = box_in_region chunk_shape region numbers in
      let axes = is_box_inside-lengths region.lengths box.starts box.lengths there in
      rw (own.is.in_region, eq-eqb (length box.starts) (length region.lengths) axes.0, there, lt_test size (2 ^ 64) own.counted) refl

  places_long : length places ≡ part_count chunk_shape numbers region.starts region.lengths
  places_long = length-places chunk_shape numbers region.starts region.lengths (listed_touches chunk_shape region numbers own.grid own.touched)

  module _ (type : ElementType) (element : List ℕ → Element) (chunks : List (List ℕ)) (answer content : Held)
      (begun : HoldsChunks type element chunk_shape region chunks answer)
      (read : Holds type content (elements_of_part element chunk_shape region numbers)) where
    abbrev new : Chunk
    new = elements_of_part element chunk_shape region numbers

    as_many : length new ≡ length places
    as_many =
        length-part chunk_shape numbers region.starts region.lengths (listed_touches chunk_shape region numbers own.grid own.touched)
        (chunk_element element chunk_shape numbers)
        ∙ sym places_long

    joined_is : chunk_update type region.lengths (subset part.in_region) answer content ≡ Ok (update (elements type size answer) places new)
    joined_is =
        let valid : validity type (length places) content ≡ Ok tt = subst (λ n. validity type n content ≡ Ok tt) as_many read.valid in
        let are : elements type (length places) content ≡ new = subst (λ n. elements type n content ≡ new) as_many read.elements_are in
        rw (placed, begun.valid, valid_data type (length places) content valid, are) refl

    joined_holds : (held : Held) → Holds type held (update (elements type size answer) places new)
        → HoldsChunks type element chunk_shape region (numbers ∷ chunks) held
    joined_holds held h =
        let long : length (update (elements type size answer) places new) ≡ size =
        length-update (elements type size answer) places new ∙ length-elements type size answer in
        let are : elements type size held ≡ update (elements type size answer) places new =
        subst (λ n. elements type n held ≡ update (elements type size answer) places new) long h.elements_are in
        record {
          valid = subst (λ n. validity type n held ≡ Ok tt) long h.valid;
          has = subst (HasChunks element chunk_shape region (numbers ∷ chunks)) (sym are)
              (part_joined element chunk_shape region numbers chunks (elements type size answer) own.grid own.touched begun.has);
        }

pub part_joins : (type : ElementType) (region : Region) (part : ChunkPart) (answer content : Held) (result : Result Held CodecError)
    → GivesBy (Holds type) result (chunk_update type region.lengths (subset part.in_region) answer content)
    → JoinsPart type region part answer content result
part_joins type region part answer content result given = λ element chunk_shape chunks own begun read. record {
  is = answered (Holds type) (HoldsChunks type element chunk_shape region (part.chunk.items ∷ chunks)) result
      (chunk_update type region.lengths (subset part.in_region) answer content)
      (update (elements type (product region.lengths) answer) (places_in_region chunk_shape region part.chunk.items)
      (elements_of_part element chunk_shape region part.chunk.items))
      (joined_is chunk_shape region part own type element chunks answer content begun read)
      (joined_holds chunk_shape region part own type element chunks answer content begun read) given.is;
  no_fault = given.no_fault;
}

pub part_cuts : (type : ElementType) (region : Region) (part : ChunkPart) (new : Held) (result : Result Held CodecError)
    → GivesBy (Holds type) result (selected_chunk type region.lengths (subset part.in_region) new)
    → CutsPart type region part new result
part_cuts type region part new result given = λ chunk_shape own valid.
    let cut : selected_chunk type region.lengths (subset part.in_region) new
    ≡ Ok (new_of_part chunk_shape region part.chunk.items (elements type (product region.lengths) new) absent) =
    rw (placed chunk_shape region part own, valid) refl in
    subst (λ (expected : Result Chunk CodecError). GivesBy (Holds type) result expected) cut given

-- ---- the beginning and the end

both_passed : (r s : Result (Unit {0}) CodecError) (chunk : Chunk) (P : Chunk → Type 0) → IsOkAnd (r >>= λ _. (s >>= λ _. Ok chunk)) P → P chunk
both_passed (Ok u) (Ok v) chunk P h = h
both_passed (Ok u) (Err e) chunk P h = absurd h
both_passed (Err e) s chunk P h = absurd h

pub filled_valid : (type : ElementType) (count n : ℕ) (fill : List ℕ) (result : Result Held CodecError) → n ≡ count
    → AnswersBy memory (Holds type) result (fill_chunk type count fill) → IfOk result (λ held. validity type n held ≡ Ok tt)
filled_valid type count n fill (Ok held) e answers =
    let chunk = replicate count (fill_element type fill) in
    let h : Holds type held chunk = both_passed (demand (fill_fits type fill) InvalidFillValue) (sizes_fit type count) chunk (Holds type held) answers in
    subst (λ k. validity type k held ≡ Ok tt) (length-replicate count (fill_element type fill) ∙ sym e) h.valid
filled_valid type count n fill (Err error) e answers = tt

pub region_begins : (type : ElementType) (region : Region) (result : Result Held CodecError)
    → IfOk result (λ held. validity type (product region.lengths) held ≡ Ok tt) → BeginsRegion type region result
region_begins type region (Ok held) valid = λ element chunk_shape. record {
  valid = valid;
  has = record {
    long = length-elements type (product region.lengths) held;
    each = λ place default l c. absurd (omega (arith, c.1));
  };
}
region_begins type region (Err e) valid = λ element chunk_shape. tt

pub all_make : AllChunksMakeTheRegion
all_make type element chunk_shape region chunks held g all h =
    let are = all_joined element chunk_shape region chunks (elements type (product region.lengths) held) g all h.has in
    let long : product region.lengths ≡ length (region_elements element region) =
    sym (length-elements type (product region.lengths) held) ∙ ap (λ (c : Chunk). length c) are in
    record {
      valid = subst (λ n. validity type n held ≡ Ok tt) long h.valid;
      elements_are = subst (λ n. elements type n held ≡ region_elements element region) long are;
    }
