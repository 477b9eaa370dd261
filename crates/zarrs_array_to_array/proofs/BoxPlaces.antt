-- The places of a box, by their numbers, and boxes that keep their elements.
use Rattle.std.proofs.Common.{◌≡◌, ◌==◌, ℕ, suc, ◌<◌, true, List, [], ◌∷◌, length, get_or, map, Ok, arith, refl, ap, ◌∙◌, sym}
use Rattle.std.specs.List.{range_with_len}
use Rattle.std.proofs.lemmas.Bool.{eq-eqb}
use Rattle.std.proofs.lemmas.List.{length-map}
use Rattle.std.proofs.lemmas.List.FromFn.{get_or-map-range_with_len}
use Rattle.std.proofs.lemmas.Simd.{map-map}
use Rattle.zarrs_chunk.specs.ChunkShape.{product}
use Rattle.zarrs_chunk.specs.Indices.{tuple_of_number, indices_behind, box_tuple}
use Rattle.zarrs_chunk.specs.Region.{Region}
use Rattle.zarrs_chunk.specs.Selection.{subset, bounds_of}
use Rattle.zarrs_chunk.specs.Tuples.{row_major, box_tuples, is_box_inside, is_tuple_inside}
use Rattle.zarrs_chunk.proofs.BoxTuples.{length-box_tuples}
use Rattle.zarrs_chunk.proofs.Inside.{is_box_inside-at, is_box_inside-lengths, is_tuple_inside-all, is_tuple_inside-at}
use Rattle.zarrs_chunk.proofs.NumberedTuples.{box_tuples-numbered, index_behind, tuple_of_number-inside, length-tuple_of_number}
use Rattle.zarrs_chunk.proofs.Products.{product_positive}
use Rattle.zarrs_codec.specs.CoordinateMap.{CoordinateMap, IsCoordinateMap, same_places}
use Rattle.zarrs_array_to_array.proofs.BoxNumbers.{factors_positive}
use Rattle.zarrs_array_to_array.proofs.CoordinateMaps.{same_places_map}

-- ---- the tuples of a box by their numbers

pub length-indices_behind : (starts tuple : List ℕ) → length tuple ≡ length starts → length (indices_behind starts tuple) ≡ length starts
length-indices_behind [] [] e = refl
length-indices_behind [] (index ∷ tuple) e = absurd (omega arith)
length-indices_behind (start ∷ starts) [] e = absurd (omega arith)
length-indices_behind (start ∷ starts) (index ∷ tuple) e = ap suc (length-indices_behind starts tuple (omega arith))

length-box_tuple : (starts lengths : List ℕ) (k : ℕ) → length starts ≡ length lengths → length (box_tuple starts lengths k) ≡ length starts
length-box_tuple starts lengths k e = length-indices_behind starts (tuple_of_number lengths k) (length-tuple_of_number lengths k ∙ sym e)

pub box_tuple-inside : (sizes starts lengths : List ℕ) (k : ℕ) → is_box_inside sizes starts lengths ≡ true → k < product lengths → is_tuple_inside sizes (box_tuple starts lengths k) ≡ true
box_tuple-inside sizes starts lengths k h l =
    let axes = is_box_inside-lengths sizes starts lengths h in
    let same : length starts ≡ length lengths = axes.0 ∙ sym axes.1 in
    let tuple : List ℕ = tuple_of_number lengths k in
    let here : is_tuple_inside lengths tuple ≡ true = tuple_of_number-inside lengths k l in
    is_tuple_inside-all sizes (box_tuple starts lengths k) (length-box_tuple starts lengths k same ∙ axes.0)
    (λ axis m.
    let at = index_behind starts tuple axis (omega (arith, axes.0)) (length-tuple_of_number lengths k ∙ sym same) in
    let below = is_tuple_inside-at lengths tuple axis here (omega (arith, axes.1)) in
    let end = is_box_inside-at sizes starts lengths axis h m in
    omega (arith, at, below, end))

pub length-window_places : (sizes starts lengths : List ℕ) → length starts ≡ length lengths → length (map (row_major sizes) (box_tuples starts lengths)) ≡ product lengths
length-window_places sizes starts lengths e = length-map (box_tuples starts lengths) (row_major sizes) ∙ length-box_tuples starts lengths e

pub window_place : (sizes starts lengths : List ℕ) (k : ℕ) → length starts ≡ length lengths → k < product lengths → get_or (map (row_major sizes) (box_tuples starts lengths)) k 0 ≡ row_major sizes (box_tuple starts lengths k)
window_place sizes starts lengths k e l =
    ap (λ ts. get_or (map (row_major sizes) ts) k 0) (box_tuples-numbered starts lengths e)
    ∙ ap (λ ns. get_or ns k 0) (map-map (row_major sizes) (box_tuple starts lengths) (range_with_len 0 (product lengths)))
    ∙ get_or-map-range_with_len (λ j. row_major sizes (box_tuple starts lengths j)) 0 (product lengths) k k 0 l (omega arith)

pub bounds_from : (sizes : List ℕ) (region : Region) → is_box_inside sizes region.starts region.lengths ≡ true → bounds_of (subset region) sizes ≡ Ok tt
bounds_from sizes region h =
    let axes = is_box_inside-lengths sizes region.starts region.lengths h in
    rw (eq-eqb (length region.starts) (length sizes) axes.0, h) refl

-- the places of a box of a chunk of these sizes, in row-major order
abbrev pub box_places : List ℕ → Region → List ℕ
box_places sizes region = map (row_major sizes) (box_tuples region.starts region.lengths)

box_count : (sizes : List ℕ) (region : Region) → is_box_inside sizes region.starts region.lengths ≡ true → length (box_places sizes region) ≡ product region.lengths
box_count sizes region h =
    let axes = is_box_inside-lengths sizes region.starts region.lengths h in
    length-window_places sizes region.starts region.lengths (axes.0 ∙ sym axes.1)

-- ---- boxes that keep their elements

-- What is done to chunks of these sizes takes a box of them to a box of chunks of as many elements: the elements of the first, as a chunk of its own lengths, are moved by `part`, and are then those of the second one.
pub record KeepsBox (sizes : List ℕ) (m : CoordinateMap) (region : Region) (there : List ℕ × Region) (part : CoordinateMap) : Type 0 where
  pub count : product there.0 ≡ product sizes
  pub inside : is_box_inside there.0 there.1.starts there.1.lengths ≡ true
  pub part_is : IsCoordinateMap region.lengths part
  pub lengths : part.encoded ≡ there.1.lengths
  pub places : (index : ℕ) → index < product region.lengths → get_or (box_places there.0 there.1) (part.to index) 0 ≡ m.to (get_or (box_places sizes region) index 0)

-- a box with the same places, where places stay
pub same_box : (sizes : List ℕ) (m : CoordinateMap) (region : Region) (there : List ℕ × Region) → ((place : ℕ) → m.to place ≡ place) → product there.0 ≡ product sizes
    → is_box_inside sizes region.starts region.lengths ≡ true → is_box_inside there.0 there.1.starts there.1.lengths ≡ true → box_places there.0 there.1 ≡ box_places sizes region
    → KeepsBox sizes m region there (same_places there.1.lengths)
same_box sizes m region there stay count inside there_inside same =
    let counts : product there.1.lengths ≡ product region.lengths = sym (box_count there.0 there.1 there_inside) ∙ ap length same ∙ box_count sizes region inside in
    record {
      count = count;
      inside = there_inside;
      part_is = same_places_map region.lengths there.1.lengths counts (λ p. factors_positive there.1.lengths (let q = product_positive region.lengths p in omega (arith, q, counts)));
      lengths = refl;
      places = λ k l. ap (λ ps. get_or ps k 0) same ∙ sym (stay (get_or (box_places sizes region) k 0));
    }
