-- A container of fill values holds them.
use Rattle.std.proofs.Common.{◌≡◌, ℕ, ◌+◌, ◌*◌, ◌<◌, Bool, true, false, ◌||◌, if◌then◌else◌, List, [], length, map, replicate, get_or, Ok, refl, sym, ap, ◌∙◌, arith, add-one, eqb-true}
use Rattle.std.specs.List.{between}
use Rattle.std.proofs.lemmas.Bool.{false≢true}
use Rattle.std.proofs.lemmas.List.{get_or-replicate, length-replicate, length-map}
use Rattle.std.proofs.lemmas.List.FromFn.{fill_by_all}
use Rattle.zarrs_chunk.specs.declared.codec_error.CodecError.TheVariants.{InvalidBytesLength}
use Rattle.zarrs_data_type.specs.ElementType.{ElementType, fixed, text, bytes, optional, element_size}
use Rattle.zarrs_data_type.specs.FillValue.{fill_fits, is_null, front_of}
use Rattle.zarrs_data_type.specs.Element.{Element, absent, present, plain, fill_element}
use Rattle.zarrs_array_bytes.specs.Held.{Held, masked, owned_bytes}
use Rattle.zarrs_array_bytes.specs.Elements.{under_flag, element_at}
use Rattle.zarrs_array_bytes.specs.Validity.{LengthRefusal, sizes_fit, levels_fit, Holds}
use Rattle.zarrs_array_bytes.specs.Pieces.{bytes_with_offsets}
use Rattle.zarrs_array_bytes.specs.Filled.{copies, blank_elements, container_fill}
use Rattle.zarrs_array_bytes.specs.SameBytesLaws.{both_true}
use Rattle.zarrs_array_bytes.proofs.FillLemmas.{length-copies}
use Rattle.zarrs_array_bytes.proofs.RunLemmas.{piece_is}
use Rattle.zarrs_array_bytes.proofs.ElementLemmas.{piece_at, cut_at, length_ends}
use Rattle.zarrs_array_bytes.proofs.ValidLemmas.{length_due, then_ok}

count_of : (n : ℕ) (x : ℕ) → length (replicate n x) ≡ n
count_of n x = length-replicate n x

or_right : (b c : Bool) → b || c ≡ true → b ≡ false → c ≡ true
or_right true c h e = absurd (false≢true (sym e))
or_right false c h e = h

-- each of the copies is the one that was copied
copied_at : (bs : List ℕ) (n k : ℕ) → k < n → get_or (replicate n bs) k bs ≡ bs
copied_at bs n k l = get_or-replicate n k bs bs l

cuts_fit : (bs : List ℕ) (n : ℕ) → length (bytes_with_offsets (λ part. part) (replicate n bs)).1 ≡ n + 1
cuts_fit bs n = omega (arith, length_ends 0 (map (λ part. part) (replicate n bs)), length-map (replicate n bs) (λ part. part), length-replicate n bs)

copy_at : (bs : List ℕ) (n k : ℕ) → k < n → between (get_or (bytes_with_offsets (λ part. part) (replicate n bs)).1 k 0) (get_or (bytes_with_offsets (λ part. part) (replicate n bs)).1 (k + 1) 0) (copies bs n) ≡ bs
copy_at bs n k l = rw add-one (cut_at (λ part. part) [] 0 (replicate n bs) k bs refl (omega (arith, length-replicate n bs)) ∙ copied_at bs n k l)

module _ (refusal : LengthRefusal) where
  pub blank_fits : (t : ElementType) (n : ℕ) → levels_fit refusal t n (blank_elements t n) ≡ Ok tt
  blank_fits (fixed w c s) n = length_due refusal _ _ (count_of (n * element_size w c) 0)
  blank_fits text n = length_due refusal _ _ (count_of (n + 1) 0)
  blank_fits bytes n = length_due refusal _ _ (count_of (n + 1) 0)
  blank_fits (optional t) n = then_ok _ _ (length_due refusal _ _ (count_of n 0)) (blank_fits t n)

  either_fits : (t : ElementType) (n : ℕ) (b : Bool) (h g : Held) → levels_fit refusal t n h ≡ Ok tt → (b ≡ false → levels_fit refusal t n g ≡ Ok tt)
      → levels_fit refusal (optional t) n (if b then masked h (owned_bytes (replicate n 0)) else masked g (owned_bytes (replicate n 1))) ≡ Ok tt
  either_fits t n true h g first second = then_ok _ _ (length_due refusal _ _ (count_of n 0)) first
  either_fits t n false h g first second = then_ok _ _ (length_due refusal _ _ (count_of n 1)) (second refl)

  pub filled_fits : (t : ElementType) (n : ℕ) (bs : List ℕ) → fill_fits t bs ≡ true → levels_fit refusal t n (container_fill t n bs) ≡ Ok tt
  filled_fits (fixed w c s) n bs h =
      let size : ℕ = element_size w c in
      let each : length bs ≡ size = eqb-true _ _ h in
      length_due refusal _ _ (length-copies bs n ∙ ap (λ k. n * k) each)
  filled_fits text n bs h = length_due refusal _ _ (cuts_fit bs n)
  filled_fits bytes n bs h = length_due refusal _ _ (cuts_fit bs n)
  filled_fits (optional t) n bs h =
      either_fits t n (is_null bs) (blank_elements t n) (container_fill t n (front_of bs)) (blank_fits t n) (λ e. filled_fits t n (front_of bs) (both_true _ _ (or_right _ _ h e)).1)

either_at : (t : ElementType) (n k : ℕ) (b : Bool) (h g : Held) (e : Element) → k < n → (b ≡ false → element_at t g k ≡ e)
    → element_at (optional t) (if b then masked h (owned_bytes (replicate n 0)) else masked g (owned_bytes (replicate n 1))) k ≡ (if b then absent else present e)
either_at t n k true h g e l second = ap (λ m. under_flag m (element_at t h k)) (get_or-replicate n k 0 0 l)
either_at t n k false h g e l second = ap (λ m. under_flag m (element_at t g k)) (get_or-replicate n k 1 0 l) ∙ ap present (second refl)

filled_at : (t : ElementType) (n : ℕ) (bs : List ℕ) → fill_fits t bs ≡ true → (k : ℕ) → k < n → element_at t (container_fill t n bs) k ≡ fill_element t bs
filled_at (fixed w c s) n bs h k l =
    let size : ℕ = element_size w c in
    let each : length bs ≡ size = eqb-true _ _ h in
    let number : length (replicate n bs) ≡ n = length-replicate n bs in
    ap plain (piece_is size k (copies bs n) ∙ piece_at (λ part. part) size (replicate n bs) k bs (λ i e. ap length (copied_at bs n i (omega arith)) ∙ each) (omega arith) ∙ copied_at bs n k l)
filled_at text n bs h k l = ap plain (copy_at bs n k l)
filled_at bytes n bs h k l = ap plain (copy_at bs n k l)
filled_at (optional t) n bs h k l =
    either_at t n k (is_null bs) (blank_elements t n) (container_fill t n (front_of bs)) (fill_element t (front_of bs)) l (λ e. filled_at t n (front_of bs) (both_true _ _ (or_right _ _ h e)).1 k l)

pub filled_holds : (t : ElementType) (n : ℕ) (bs : List ℕ) (a : Held) → fill_fits t bs ≡ true → sizes_fit t n ≡ Ok tt → container_fill t n bs ≡ a → Holds t a (replicate n (fill_element t bs))
filled_holds t n bs a h sizes is =
    let count : length (replicate n (fill_element t bs)) ≡ n = length-replicate n (fill_element t bs) in
    rw (← is) (record {
      valid = rw count (then_ok _ _ sizes (filled_fits InvalidBytesLength t n bs h));
      elements_are = rw count (sym (fill_by_all (element_at t (container_fill t n bs)) (replicate n (fill_element t bs)) n absent count (λ k l. get_or-replicate n k (fill_element t bs) absent l ∙ sym (filled_at t n bs h k l))));
    })
