-- A box with its axes in another order has the same elements.
use Rattle.std.proofs.Common.{◌≡◌, ℕ, ◌+◌, ◌<◌, true, List, length, get_or, arith, refl, ap, ap₂, ◌∙◌, sym}
use Rattle.std.proofs.lemmas.List.{ext_get_or}
use Rattle.zarrs_chunk.specs.ChunkShape.{product}
use Rattle.zarrs_chunk.specs.Indices.{tuple_of_number, indices_behind, box_tuple}
use Rattle.zarrs_chunk.specs.Region.{Region}
use Rattle.zarrs_chunk.specs.Tuples.{row_major, is_box_inside, is_tuple_inside}
use Rattle.zarrs_chunk.proofs.Inside.{is_box_inside-all, is_box_inside-at, is_box_inside-lengths}
use Rattle.zarrs_chunk.proofs.NumberedTuples.{index_behind, tuple_of_number-inside, tuple_of_number-row_major, length-tuple_of_number}
use Rattle.zarrs_metadata.specs.Orders.{IsOrder}
use Rattle.zarrs_array_to_array.specs.Orders.{permuted}
use Rattle.zarrs_array_to_array.specs.TransposeMeaning.{permuted_region, transpose_box}
use Rattle.zarrs_array_to_array.specs.Transpose.{transposed_place, transposition}
use Rattle.zarrs_array_to_array.proofs.BoxPlaces.{KeepsBox, box_places, box_tuple-inside, length-indices_behind, window_place}
use Rattle.zarrs_array_to_array.proofs.Orders.{length-permuted, permuted_at, permuted_inside, permuted_product}
use Rattle.zarrs_array_to_array.proofs.Transposition.{transposed_tuple, transposition_map}

pub permuted-behind : (order starts tuple : List ℕ) → IsOrder order → length order ≡ length starts → length tuple ≡ length starts → indices_behind (permuted order starts) (permuted order tuple) ≡ permuted order (indices_behind starts tuple)
permuted-behind order starts tuple o e t =
    let both : length (permuted order tuple) ≡ length (permuted order starts) = length-permuted order tuple ∙ sym (length-permuted order starts) in
    ext_get_or 0 (indices_behind (permuted order starts) (permuted order tuple)) (permuted order (indices_behind starts tuple))
    (length-indices_behind (permuted order starts) (permuted order tuple) both ∙ length-permuted order starts ∙ sym (length-permuted order (indices_behind starts tuple)))
    (λ i l.
    let k : i < length order = omega (arith, length-indices_behind (permuted order starts) (permuted order tuple) both, length-permuted order starts) in
    let b : get_or order i 0 < length order = o.below i k in
    index_behind (permuted order starts) (permuted order tuple) i (omega (arith, length-permuted order starts)) both
    ∙ ap₂ (λ a c. a + c) (permuted_at order starts i k) (permuted_at order tuple i k)
    ∙ sym (permuted_at order (indices_behind starts tuple) i k ∙ index_behind starts tuple (get_or order i 0) (omega arith) t))

pub permuted_box : (order sizes starts lengths : List ℕ) → IsOrder order → length order ≡ length sizes → is_box_inside sizes starts lengths ≡ true → is_box_inside (permuted order sizes) (permuted order starts) (permuted order lengths) ≡ true
permuted_box order sizes starts lengths o e h =
    is_box_inside-all (permuted order sizes) (permuted order starts) (permuted order lengths) (length-permuted order starts ∙ sym (length-permuted order sizes)) (length-permuted order lengths ∙ sym (length-permuted order sizes))
    (λ i l.
    let k : i < length order = omega (arith, length-permuted order sizes) in
    let b = o.below i k in
    rw (permuted_at order sizes i k, permuted_at order starts i k, permuted_at order lengths i k) (is_box_inside-at sizes starts lengths (get_or order i 0) h (omega arith)))

module _ (order sizes : List ℕ) (region : Region) (o : IsOrder order) (axes : length order ≡ length sizes) (inside : is_box_inside sizes region.starts region.lengths ≡ true) where
  -- the place of a number of the permuted box
  pub permuted_place : (k : ℕ) → k < product region.lengths
      → get_or (box_places (permuted order sizes) (permuted_region order region)) (transposed_place order region.lengths k) 0 ≡ transposed_place order sizes (get_or (box_places sizes region) k 0)
  permuted_place k l =
      let both = is_box_inside-lengths sizes region.starts region.lengths inside in
      let same : length region.starts ≡ length region.lengths = both.0 ∙ sym both.1 in
      let order_starts : length order ≡ length region.starts = axes ∙ sym both.0 in
      let order_lengths : length order ≡ length region.lengths = axes ∙ sym both.1 in
      let tuple : List ℕ = tuple_of_number region.lengths k in
      let tuple_in : is_tuple_inside region.lengths tuple ≡ true = tuple_of_number-inside region.lengths k l in
      let moved_in : is_tuple_inside (permuted order region.lengths) (permuted order tuple) ≡ true = permuted_inside order region.lengths tuple o order_lengths tuple_in in
      let part_map = transposition_map order region.lengths o order_lengths in
      let below : transposed_place order region.lengths k < product (permuted order region.lengths) = (let b = part_map.places.to_below k l in omega (arith, b, part_map.count)) in
      let permuted_same : length (permuted order region.starts) ≡ length (permuted order region.lengths) = length-permuted order region.starts ∙ sym (length-permuted order region.lengths) in
      window_place (permuted order sizes) (permuted order region.starts) (permuted order region.lengths) (transposed_place order region.lengths k) permuted_same below
      ∙ ap (λ t. row_major (permuted order sizes) (indices_behind (permuted order region.starts) t)) (tuple_of_number-row_major (permuted order region.lengths) (permuted order tuple) moved_in)
      ∙ ap (row_major (permuted order sizes)) (permuted-behind order region.starts tuple o order_starts (length-tuple_of_number region.lengths k ∙ sym same))
      ∙ sym (ap (transposed_place order sizes) (window_place sizes region.starts region.lengths k same l)
      ∙ transposed_tuple order sizes o axes (box_tuple region.starts region.lengths k) (box_tuple-inside sizes region.starts region.lengths k inside l))

  pub transposed_box_kept : KeepsBox sizes (transposition order sizes) region (transpose_box order sizes region) (transposition order region.lengths)
  transposed_box_kept =
      let both = is_box_inside-lengths sizes region.starts region.lengths inside in
      record {
        count = permuted_product order sizes o axes;
        inside = permuted_box order sizes region.starts region.lengths o axes inside;
        part_is = transposition_map order region.lengths o (axes ∙ sym both.1);
        lengths = refl;
        places = λ k l. permuted_place k l;
      }
