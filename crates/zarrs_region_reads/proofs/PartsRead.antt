-- Chunks as far as they were read, and the elements of a region of them.
use Rattle.std.proofs.Common.{◌≡◌, ◌∙◌, ℕ, ◌<◌, true, List, length, map, get_or, replicate, Result, Ok, arith, refl, ap, sym}
use Rattle.std.specs.List.{Contains, range_with_len}
use Rattle.std.proofs.lemmas.List.{ext_get_or, get_or-map, length-map, length-replicate}
use Rattle.std.proofs.lemmas.List.FromFn.{get_or-map-range_with_len}
use Rattle.std.proofs.lemmas.Simd.{map-map}
use Rattle.zarrs_array_bytes.specs.Elements.{select}
use Rattle.zarrs_array_bytes.specs.Update.{update}
use Rattle.zarrs_array_bytes.proofs.UpdateLaw.{written}
use Rattle.zarrs_chunk.specs.ChunkShape.{product}
use Rattle.zarrs_chunk.specs.Indices.{box_tuple}
use Rattle.zarrs_chunk.specs.Levels.{box_places}
use Rattle.zarrs_chunk.specs.Region.{Region}
use Rattle.zarrs_chunk.specs.Tuples.{box_tuples, is_box_inside}
use Rattle.zarrs_chunk.specs.declared.codec_error.CodecError.{CodecError}
use Rattle.zarrs_chunk.proofs.BoxTuples.{length-box_tuples}
use Rattle.zarrs_chunk.proofs.Inside.{is_box_inside-lengths}
use Rattle.zarrs_chunk.proofs.NumberedTuples.{box_tuples-numbered}
use Rattle.zarrs_chunk.proofs.Rising.{Rises-below, Rises-box}
use Rattle.zarrs_data_type.specs.Element.{Chunk, Element, absent}
use Rattle.zarrs_grid.specs.JoinedParts.{chunk_of_place}
use Rattle.zarrs_grid.specs.Parts.{part_lengths, starts_in_chunk}
use Rattle.zarrs_grid.specs.RegionElements.{chunk_element, elements_of_part, places_in_chunk, region_elements}
use Rattle.zarrs_grid.specs.Touched.{FitsGrid, touched_chunks}
use Rattle.zarrs_grid.proofs.BoxPlaces.{box_count, box_places_apart}
use Rattle.zarrs_grid.proofs.Cut.{listed_touches}
use Rattle.zarrs_grid.proofs.PartPlaces.{element_at, found_in_part, same_there}
use Rattle.zarrs_grid.proofs.PartsJoined.{place_listed}
use Rattle.zarrs_grid.proofs.Tuples.{part_in_chunk}
use Rattle.zarrs_array_plan.specs.ChunkArrays.{element_by_chunks}
use Rattle.zarrs_array_plan.proofs.ChunksRead.{parts_read}
use Rattle.zarrs_region_reads.specs.RegionRead.{chunk_read, read_elements}

-- ---- what is written at a box's places is found there

module _ (sizes starts lengths : List ℕ) (within : is_box_inside sizes starts lengths ≡ true) (old new : Chunk) (long : length old ≡ product sizes) (count : length new ≡ product lengths) where
  abbrev places : List ℕ
  places = box_places sizes starts lengths

  abbrev found : ℕ → Element
  found place = get_or (update old places new) place absent

  as_many : length places ≡ product lengths
  as_many = box_count sizes starts lengths within

  found_at : (k : ℕ) → k < product lengths → found (get_or places k 0) ≡ get_or new k absent
  found_at k l =
      let below : get_or places k 0 < product sizes = Rises-below 0 (product sizes) places (Rises-box sizes starts lengths within) k 0 (omega (arith, l, as_many)) in
      written old new places (get_or places k 0) absent k (omega (arith, below, long)) (as_many ∙ sym count) (omega (arith, l, as_many)) refl
      (λ j h m. box_places_apart sizes starts lengths within j k h (omega (arith, m, as_many)))

  pub selected_again : select (update old places new) places ≡ new
  selected_again =
      ext_get_or absent (select (update old places new) places) new (length-map places found ∙ as_many ∙ sym count)
      (λ k l.
      let below : k < product lengths = omega (arith, l, length-map places found, as_many) in
      get_or-map found places k 0 absent (omega (arith, below, as_many)) ∙ found_at k below)

-- ---- a chunk of which a part was read

-- it has the part's elements
pub read_again : (shape : List ℕ) (region : Region) (read : List ℕ → Result Chunk CodecError) (numbers : List ℕ) (chunk : Chunk) → FitsGrid shape region
    → Contains (touched_chunks shape region) numbers → read numbers ≡ Ok chunk
    → length chunk ≡ length (box_tuples (starts_in_chunk shape numbers region.starts) (part_lengths shape numbers region.starts region.lengths))
    → chunk ≡ elements_of_part (element_by_chunks shape (chunk_read shape region read)) shape region numbers
read_again shape region read numbers chunk g c is count =
    let starts = starts_in_chunk shape numbers region.starts in
    let lengths = part_lengths shape numbers region.starts region.lengths in
    let within = part_in_chunk shape numbers region.starts region.lengths (listed_touches shape region numbers g c) in
    let axes = is_box_inside-lengths shape starts lengths within in
    let blank = replicate (product shape) absent in
    sym (parts_read (chunk_read shape region read) shape region numbers g c
    ∙ ap (λ (r : Result Chunk CodecError). select (update blank (places_in_chunk shape region numbers) (read_elements r)) (places_in_chunk shape region numbers)) is
    ∙ selected_again shape starts lengths within blank chunk (length-replicate (product shape) absent)
    (count ∙ length-box_tuples starts lengths (axes.0 ∙ sym axes.1)))

-- ---- regions whose parts are the same

-- the element at a place of a region
region_at : (element : List ℕ → Element) (region : Region) (place : ℕ) → length region.starts ≡ length region.lengths → place < product region.lengths
    → get_or (region_elements element region) place absent ≡ element (box_tuple region.starts region.lengths place)
region_at element region place axes l =
    let tuple = box_tuple region.starts region.lengths in
    ap (λ (xs : Chunk). get_or xs place absent)
    (ap (map element) (box_tuples-numbered region.starts region.lengths axes) ∙ map-map element tuple (range_with_len 0 (product region.lengths)))
    ∙ get_or-map-range_with_len (λ k. element (tuple k)) 0 (product region.lengths) place place absent l (omega arith)

-- two arrays whose elements are the same in each part of a region have the same region
pub same_parts : (element other : List ℕ → Element) (shape : List ℕ) (region : Region) → FitsGrid shape region
    → ((numbers : List ℕ) → Contains (touched_chunks shape region) numbers
    → elements_of_part element shape region numbers ≡ elements_of_part other shape region numbers)
    → region_elements element region ≡ region_elements other region
same_parts element other shape region g each =
    let axes = g.starts ∙ sym g.lengths in
    let tuples = box_tuples region.starts region.lengths in
    let long = length-box_tuples region.starts region.lengths axes in
    ext_get_or absent (region_elements element region) (region_elements other region) (length-map tuples element ∙ sym (length-map tuples other))
    (λ place l.
    let below : place < product region.lengths = omega (arith, l, length-map tuples element, long) in
    let numbers = chunk_of_place shape region place in
    let c = place_listed shape region place g below in
    let r = listed_touches shape region numbers g c in
    let there = found_in_part shape region.starts region.lengths place g.positive g.starts g.lengths below r in
    let same = same_there shape numbers region.starts region.lengths r there.0 place there.1 there.2 in
    region_at element region place axes below
    ∙ ap element (sym same)
    ∙ sym (element_at shape numbers region.starts region.lengths r (chunk_element element shape numbers) there.0 absent there.1)
    ∙ ap (λ (xs : Chunk). get_or xs there.0 absent) (each numbers c)
    ∙ element_at shape numbers region.starts region.lengths r (chunk_element other shape numbers) there.0 absent there.1
    ∙ ap other same
    ∙ sym (region_at other region place axes below))
