-- The parts of a region cut it.
use Rattle.std.proofs.Common.{◌≡◌, min, max, ℕ, suc, ◌+◌, ◌-◌, ◌*◌, ◌<◌, ◌∙◌, true, Ok, List, [], ◌∷◌, length, arith, refl, ap, sym, subst, eq-eqb}
use Rattle.std.specs.Prelude.{Result}
use Rattle.std.specs.List.{All, Contains}
use Rattle.std.proofs.lemmas.Bool.{and_from}
use Rattle.std.proofs.lemmas.List.Elements.{All-head, All-tail}
use Rattle.zarrs_chunk.proofs.Inside.{lt_test}
use Rattle.zarrs_grid.proofs.OneAxis.{begins_before, ends_behind, some_touched}
use Rattle.zarrs_chunk.specs.Indices.{indices_behind}
use Rattle.zarrs_chunk.specs.Region.{Region}
use Rattle.zarrs_chunk.specs.Tuples.{is_tuple_inside}
use Rattle.zarrs_chunk.proofs.BoxLaws.{from_box, into_box}
use Rattle.zarrs_chunk.specs.declared.codec_error.CodecError.{CodecError}
use Rattle.zarrs_grid.specs.ChunkTuples.{quotients}
use Rattle.zarrs_grid.specs.GridLaws.{TouchedHaveElements, IsPartOfBoth, IsInOnePart, PartsCutTheRegion, PartsHavePlaces}
use Rattle.zarrs_grid.specs.Parts.{starts_in_region, part_lengths, box_in_chunk, box_in_region}
use Rattle.zarrs_grid.specs.Touched.{FitsGrid, touched, touched_counts, touched_chunks, is_in_box, checked_touched}
use Rattle.zarrs_grid.proofs.BoxPlaces.{box_placed}
use Rattle.zarrs_grid.proofs.Tuples.{InBox, Touches, in_box, from_in_box, from_box_test, quotients_touched, touches, part_in_chunk, part_in_region, same_element, is_in_region, behind_in_box, chunk_of_part, chunk_with, chunk_with-touches, offsets, offset_inside, offset_there}

pub length-quotients : (shape tuple : List ℕ) → length tuple ≡ length shape → length (quotients shape tuple) ≡ length shape
length-quotients [] [] e = refl
length-quotients [] (index ∷ tuple) e = absurd (omega arith)
length-quotients (size ∷ shape) [] e = absurd (omega arith)
length-quotients (size ∷ shape) (index ∷ tuple) e = ap suc (length-quotients shape tuple (omega arith))

length-touched_counts : (shape starts lengths : List ℕ) → length starts ≡ length shape → length lengths ≡ length shape
    → length (touched_counts shape starts lengths) ≡ length shape
length-touched_counts [] starts lengths e f = refl
length-touched_counts (size ∷ shape) [] lengths e f = absurd (omega arith)
length-touched_counts (size ∷ shape) (start ∷ starts) [] e f = absurd (omega arith)
length-touched_counts (size ∷ shape) (start ∷ starts) (len ∷ lengths) e f =
    ap suc (length-touched_counts shape starts lengths (omega arith) (omega arith))

touched_axes : (shape : List ℕ) (region : Region) → FitsGrid shape region
    → length (quotients shape region.starts) ≡ length (touched_counts shape region.starts region.lengths)
touched_axes shape region g =
    length-quotients shape region.starts g.starts ∙ sym (length-touched_counts shape region.starts region.lengths g.starts g.lengths)

-- a chunk that is listed lies in the box of those that are touched, and the other way round
pub listed : (shape : List ℕ) (region : Region) (numbers : List ℕ) → FitsGrid shape region → Contains (touched_chunks shape region) numbers
    → InBox (quotients shape region.starts) (touched_counts shape region.starts region.lengths) numbers
listed shape region numbers g c =
    let axes = touched_axes shape region g in
    in_box (quotients shape region.starts) (touched_counts shape region.starts region.lengths) numbers axes
    (from_box (quotients shape region.starts) (touched_counts shape region.starts region.lengths) numbers axes c)

pub into_listed : (shape : List ℕ) (region : Region) (numbers : List ℕ) → FitsGrid shape region
    → InBox (quotients shape region.starts) (touched_counts shape region.starts region.lengths) numbers
    → Contains (touched_chunks shape region) numbers
into_listed shape region numbers g r =
    into_box (quotients shape region.starts) (touched_counts shape region.starts region.lengths) numbers (touched_axes shape region g)
    (from_in_box (quotients shape region.starts) (touched_counts shape region.starts region.lengths) numbers r)

pub listed_touches : (shape : List ℕ) (region : Region) (numbers : List ℕ) → FitsGrid shape region
    → Contains (touched_chunks shape region) numbers → Touches shape numbers region.starts region.lengths
listed_touches shape region numbers g c =
    touches shape region.starts region.lengths numbers g.positive g.starts g.lengths (listed shape region numbers g c)

-- a chunk in the box that was found is one of them
found_is : (found : Result Region CodecError) (one other : Region) → found ≡ Ok one → found ≡ Ok other → one ≡ other
found_is found one other a b = cc

pub known_chunk : {shape numbers : List ℕ} {region chunks : Region} → FitsGrid shape region → checked_touched shape region ≡ Ok chunks
    → is_in_box chunks.starts chunks.lengths numbers ≡ true → Contains (touched_chunks shape region) numbers
known_chunk {shape} {numbers} {region} {chunks} g e h =
    let expected : checked_touched shape region ≡ Ok (touched shape region) = rw (eq-eqb (length region.starts) (length shape) g.starts) refl in
    let is = found_is (checked_touched shape region) chunks (touched shape region) e expected in
    let test = subst (λ (box : Region). is_in_box box.starts box.lengths numbers ≡ true) is h in
    into_listed shape region numbers g (from_box_test (touched shape region).starts (touched shape region).lengths numbers test)

-- ---- a tuple of each chunk that is touched

-- the first tuple of a part
first : List ℕ → List ℕ
first [] = []
first (size ∷ shape) = 0 ∷ first shape

first_inside : (shape starts lengths numbers : List ℕ) → All (λ size. 0 < size) shape → length starts ≡ length shape → length lengths ≡ length shape
    → InBox (quotients shape starts) (touched_counts shape starts lengths) numbers
    → is_tuple_inside (part_lengths shape numbers starts lengths) (first shape) ≡ true
unfolding first
first_inside [] [] [] [] p e f r = refl
first_inside [] [] [] (number ∷ numbers) p e f r = absurd r
first_inside [] [] (len ∷ lengths) numbers p e f r = absurd (omega arith)
first_inside [] (start ∷ starts) lengths numbers p e f r = absurd (omega arith)
first_inside (size ∷ shape) [] lengths numbers p e f r = absurd (omega arith)
first_inside (size ∷ shape) (start ∷ starts) [] numbers p e f r = absurd (omega arith)
first_inside (size ∷ shape) (start ∷ starts) (len ∷ lengths) [] p e f r = absurd r
first_inside (size ∷ shape) (start ∷ starts) (len ∷ lengths) (number ∷ numbers) p e f r =
    let some = All-head (λ size. 0 < size) size shape p in
    let begins = begins_before size start len number some r.1 r.0 in
    let ends = ends_behind size start number some r.0 in
    and_from _ _ (lt_test _ _ (on_axis (number * size) size start len some begins ends (some_touched size start len number r.1 r.0)))
    (first_inside shape starts lengths numbers (All-tail (λ size. 0 < size) size shape p) (omega arith) (omega arith) r.2)
  where
    on_axis : (base size start len : ℕ) → 0 < size → base < start + len → start < base + size → 0 < len
        → 0 < min (start + len) (base + size) - max start base
    on_axis base size start len p h l i = omega arith

pub touched_have : TouchedHaveElements
touched_have shape region numbers g = (
  (λ c.
      let r = listed_touches shape region numbers g c in
      let offset = first shape in
      let inside = first_inside shape region.starts region.lengths numbers g.positive g.starts g.lengths (listed shape region numbers g c) in
      let tuple = indices_behind region.starts (indices_behind (starts_in_region shape numbers region.starts) offset) in
      let axes : length region.starts ≡ length region.lengths = g.starts ∙ sym g.lengths in
      let here = behind_in_box region.starts region.lengths (indices_behind (starts_in_region shape numbers region.starts) offset) axes
      (is_in_region shape numbers region.starts region.lengths offset r inside) in
      let listed = into_box region.starts region.lengths tuple axes (from_in_box region.starts region.lengths tuple here) in
      (tuple, listed, chunk_of_part shape numbers region.starts region.lengths offset r inside)),
  (λ h.
      let axes : length region.starts ≡ length region.lengths = g.starts ∙ sym g.lengths in
      let here = in_box region.starts region.lengths h.0 axes (from_box region.starts region.lengths h.0 axes h.1) in
      let touched = quotients_touched shape region.starts region.lengths h.0 g.positive g.starts here in
      subst (Contains (touched_chunks shape region)) h.2 (into_listed shape region (quotients shape h.0) g touched)),
)

-- ---- the cut

part_of_both : (shape : List ℕ) (region : Region) (numbers : List ℕ) → Touches shape numbers region.starts region.lengths
    → IsPartOfBoth shape region numbers
part_of_both shape region numbers r = record {
  in_chunk = part_in_chunk shape numbers region.starts region.lengths r;
  in_region = part_in_region shape numbers region.starts region.lengths r;
  same = λ offset h. same_element shape numbers region.starts region.lengths offset r h;
}

in_one_part : (shape : List ℕ) (region : Region) (tuple : List ℕ) → FitsGrid shape region → is_tuple_inside region.lengths tuple ≡ true
    → IsInOnePart shape region tuple
in_one_part shape region tuple g h = record {
  chunk = into_listed shape region (chunk_with shape region.starts tuple) g (chunk_with-touches shape region.starts region.lengths tuple g.positive g.starts g.lengths h);
  part = (
    offsets shape (chunk_with shape region.starts tuple) region.starts tuple,
    record {
      inside = offset_inside shape region.starts region.lengths tuple g.positive g.starts g.lengths h;
      from_start = offset_there shape region.starts region.lengths tuple g.starts g.lengths h;
    },
  );
  no_other = λ numbers offset c is.
      sym (ap (λ t. quotients shape (indices_behind region.starts t)) (sym is.from_start)
      ∙ chunk_of_part shape numbers region.starts region.lengths offset (listed_touches shape region numbers g c) is.inside);
}

pub parts_cut : PartsCutTheRegion
parts_cut shape region g = record {
  parts = λ numbers c. part_of_both shape region numbers (listed_touches shape region numbers g c);
  tuples = λ tuple h. in_one_part shape region tuple g h;
}

pub parts_placed : PartsHavePlaces
parts_placed shape region numbers g c =
    let both = part_of_both shape region numbers (listed_touches shape region numbers g c) in
    record {
      in_chunk = box_placed shape (box_in_chunk shape region numbers) both.in_chunk;
      in_region = box_placed region.lengths (box_in_region shape region numbers) both.in_region;
    }
