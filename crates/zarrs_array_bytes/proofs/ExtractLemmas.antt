-- What is extracted holds the elements at those places.
use Rattle.std.proofs.Common.{◌≡◌, ℕ, ◌*◌, ◌<◌, List, [], length, map, slice_index, get_or, Ok, refl, sym, ap, ◌∙◌, arith, add-one}
use Rattle.std.specs.List.{All, flat_map, range_with_len}
use Rattle.std.proofs.lemmas.List.{get_or-map, length-map}
use Rattle.std.proofs.lemmas.List.FromFn.{fill_by_all, get_or-map-range_with_len}
use Rattle.std.proofs.lemmas.Nat.{row_fits}
use Rattle.zarrs_chunk.specs.declared.codec_error.CodecError.TheVariants.{InvalidBytesLength}
use Rattle.zarrs_data_type.specs.ElementType.{ElementType, fixed, text, bytes, optional, element_size}
use Rattle.zarrs_data_type.specs.Element.{Element, absent, plain}
use Rattle.zarrs_array_bytes.specs.Held.{Raw, Held, flen, vlen, masked}
use Rattle.zarrs_array_bytes.specs.Elements.{piece, cut, under_flag, element_at, elements, select}
use Rattle.zarrs_array_bytes.specs.Validity.{LengthRefusal, sizes_fit, levels_fit, Holds}
use Rattle.zarrs_array_bytes.specs.Extracted.{container_selection, IsSmall}
use Rattle.zarrs_array_bytes.proofs.RunLemmas.{piece_is}
use Rattle.zarrs_array_bytes.proofs.ElementLemmas.{piece_at, length-flat_map_sized, cut_at, length_ends, length_piece}
use Rattle.zarrs_array_bytes.proofs.ValidLemmas.{both_ok, then_ok, length_found, length_due, sizes_from_small}

-- elements read by a function, and those selected from a list
same_selection : (f g : ℕ → Element) (n : ℕ) (ps : List ℕ) → All (λ p. p < n) ps → ((k : ℕ) → k < length ps → f k ≡ g (get_or ps k 0))
    → map f (range_with_len 0 (length ps)) ≡ select (map g (range_with_len 0 n)) ps
same_selection f g n ps inside each =
    let chosen : ℕ → Element = λ p. get_or (map g (range_with_len 0 n)) p absent in
    sym (fill_by_all f (map chosen ps) (length ps) absent (length-map ps chosen) (λ k l.
    get_or-map chosen ps k 0 absent l ∙ get_or-map-range_with_len g 0 n (get_or ps k 0) (get_or ps k 0) absent (inside k 0 l) (omega arith) ∙ sym (each k l)))

module _ (refusal : LengthRefusal) where
  pieces_whole : (w c : ℕ) (n : ℕ) (r : Raw) (ps : List ℕ) → length r.items ≡ n * element_size w c → All (λ p. p < n) ps
      → (k : ℕ) → k < length ps → length (piece (element_size w c) r.items (get_or ps k 0)) ≡ element_size w c
  pieces_whole w c n r ps count inside k l =
      length_piece (element_size w c) (get_or ps k 0) r.items (rw count (row_fits (get_or ps k 0) (element_size w c) n (element_size w c) (inside k 0 l) (omega arith)))

  pub extracted_at : (t : ElementType) (n : ℕ) (h : Held) (ps : List ℕ) → levels_fit refusal t n h ≡ Ok tt → All (λ p. p < n) ps
      → (k : ℕ) → k < length ps → element_at t (container_selection t h ps) k ≡ element_at t h (get_or ps k 0)
  extracted_at (fixed w c s) n (flen r) ps fit inside k l =
      let size : ℕ = element_size w c in
      ap plain (piece_is size k (flat_map (piece size r.items) ps) ∙ piece_at (piece size r.items) size ps k 0 (pieces_whole w c n r ps (length_found refusal _ _ fit) inside) l)
  extracted_at (fixed w c s) n (vlen r os) ps fit inside k l = cc
  extracted_at (fixed w c s) n (masked h m) ps fit inside k l = cc
  extracted_at text n (vlen r os) ps fit inside k l = rw add-one (ap plain (cut_at (cut os r.items) [] 0 ps k 0 refl l))
  extracted_at text n (flen r) ps fit inside k l = cc
  extracted_at text n (masked h m) ps fit inside k l = cc
  extracted_at bytes n (vlen r os) ps fit inside k l = rw add-one (ap plain (cut_at (cut os r.items) [] 0 ps k 0 refl l))
  extracted_at bytes n (flen r) ps fit inside k l = cc
  extracted_at bytes n (masked h m) ps fit inside k l = cc
  extracted_at (optional t) n (masked h m) ps fit inside k l =
      let below : levels_fit refusal t n h ≡ Ok tt = (both_ok _ _ fit).1 in
      let mask : slice_index (map (slice_index m.items) ps) k ≡ slice_index m.items (get_or ps k 0) = get_or-map (slice_index m.items) ps k 0 0 l in
      let rest : element_at t (container_selection t h ps) k ≡ element_at t h (get_or ps k 0) = extracted_at t n h ps below inside k l in
      ap (λ b. under_flag b (element_at t (container_selection t h ps) k)) mask ∙ ap (under_flag (slice_index m.items (get_or ps k 0))) rest
  extracted_at (optional t) n (flen r) ps fit inside k l = cc
  extracted_at (optional t) n (vlen r os) ps fit inside k l = cc

  pub extracted_fits : (t : ElementType) (n : ℕ) (h : Held) (ps : List ℕ) → levels_fit refusal t n h ≡ Ok tt → All (λ p. p < n) ps → levels_fit refusal t (length ps) (container_selection t h ps) ≡ Ok tt
  extracted_fits (fixed w c s) n (flen r) ps fit inside =
      let size : ℕ = element_size w c in
      length_due refusal _ _ (length-flat_map_sized (piece size r.items) size ps 0 (pieces_whole w c n r ps (length_found refusal _ _ fit) inside))
  extracted_fits (fixed w c s) n (vlen r os) ps fit inside = cc
  extracted_fits (fixed w c s) n (masked h m) ps fit inside = cc
  extracted_fits text n (vlen r os) ps fit inside = length_due refusal _ _ (omega (arith, length_ends 0 (map (cut os r.items) ps), length-map ps (cut os r.items)))
  extracted_fits text n (flen r) ps fit inside = cc
  extracted_fits text n (masked h m) ps fit inside = cc
  extracted_fits bytes n (vlen r os) ps fit inside = length_due refusal _ _ (omega (arith, length_ends 0 (map (cut os r.items) ps), length-map ps (cut os r.items)))
  extracted_fits bytes n (flen r) ps fit inside = cc
  extracted_fits bytes n (masked h m) ps fit inside = cc
  extracted_fits (optional t) n (masked h m) ps fit inside =
      then_ok _ _ (length_due refusal _ _ (length-map ps (slice_index m.items))) (extracted_fits t n h ps (both_ok _ _ fit).1 inside)
  extracted_fits (optional t) n (flen r) ps fit inside = cc
  extracted_fits (optional t) n (vlen r os) ps fit inside = cc

-- what is extracted holds the selection
pub extracted_holds : (t : ElementType) (n : ℕ) (h : Held) (ps : List ℕ) → levels_fit InvalidBytesLength t n h ≡ Ok tt → All (λ p. p < n) ps → sizes_fit t (length ps) ≡ Ok tt
    → Holds t (container_selection t h ps) (select (elements t n h) ps)
extracted_holds t n h ps fit inside sizes =
    let chosen : ℕ → Element = λ p. get_or (elements t n h) p absent in
    let count : length (map chosen ps) ≡ length ps = length-map ps chosen in
    record {
      valid = rw count (then_ok _ _ sizes (extracted_fits InvalidBytesLength t n h ps fit inside));
      elements_are = rw count (same_selection (element_at t (container_selection t h ps)) (element_at t h) n ps inside (extracted_at InvalidBytesLength t n h ps fit inside));
    }

-- the same of a container in memory
pub small_holds : (t : ElementType) (n : ℕ) (h a : Held) (ps : List ℕ) → levels_fit InvalidBytesLength t n h ≡ Ok tt → All (λ p. p < n) ps → IsSmall a → container_selection t h ps ≡ a → Holds t a (select (elements t n h) ps)
small_holds t n h a ps fit inside small is =
    let sizes : sizes_fit t (length ps) ≡ Ok tt = sizes_from_small InvalidBytesLength t (length ps) a (rw is at (extracted_fits InvalidBytesLength t n h ps fit inside)) small in
    rw (← is) (extracted_holds t n h ps fit inside sizes)
