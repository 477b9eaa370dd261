-- What follows where a container has the kind and the count of a type.
use Rattle.std.proofs.Common.{◌≡◌, ℕ, ◌+◌, ◌*◌, ◌<◌, ◌^◌, ◌==◌, zero, suc, Bool, true, false, List, [], ◌∷◌, length, map, slice_index, get_or, Global, arith, Some, Ok, Err, Result, refl, eqb-true, eq-eqb, lt-ltb}
use Rattle.std.specs.List.{list_all, All}
use Rattle.std.specs.Cow.{cow_slice_items}
use Rattle.std.specs.declared.borrow.CowSlice.{CowSlice}
use Rattle.std.specs.declared.borrow.CowSlice.TheVariants as cow
use Rattle.std.proofs.lemmas.List.Elements.{All-tail}
use Rattle.zarrs_chunk.specs.Answer.{demand, ◌>>=◌}
use Rattle.zarrs_chunk.specs.declared.codec_error.CodecError.{CodecError}
use Rattle.zarrs_data_type.specs.ElementType.{ElementType, fixed, text, bytes, optional, element_size, fixed_size_of, inner_of}
use Rattle.zarrs_array_bytes.specs.Held.{Raw, Held, flen, vlen, masked, raw_of}
use Rattle.zarrs_array_bytes.specs.Validity.{LengthRefusal, levels_fit, length_is, sizes_fit}
use Rattle.zarrs_array_bytes.specs.Extracted.{IsSmall}
use Rattle.zarrs_array_bytes.specs.SameBytesLaws.{both_true}

pub demand_ok : (b : Bool) (e : CodecError) → demand b e ≡ Ok tt → b ≡ true
demand_ok true e h = refl
demand_ok false e h = cc

-- both steps of two that pass
pub both_ok : (r s : Result (Unit {0}) CodecError) → r >>= (λ _. s) ≡ Ok tt → (r ≡ Ok tt) × (s ≡ Ok tt)
both_ok (Ok u) s h = (refl, h)
both_ok (Err e) s h = cc

pub then_ok : (r s : Result (Unit {0}) CodecError) → r ≡ Ok tt → s ≡ Ok tt → r >>= (λ _. s) ≡ Ok tt
then_ok r s e f = rw e f

pub length_found : (refusal : LengthRefusal) (m n : ℕ) → length_is refusal m n ≡ Ok tt → m ≡ n
length_found refusal m n h = eqb-true m n (demand_ok (m == n) _ h)

pub length_due : (refusal : LengthRefusal) (m n : ℕ) → m ≡ n → length_is refusal m n ≡ Ok tt
length_due refusal m n e = rw (eq-eqb m n e) refl

pub fixed_fits : (refusal : LengthRefusal) (t : ElementType) (n : ℕ) (r : Raw) (size : ℕ) → levels_fit refusal t n (flen r) ≡ Ok tt → fixed_size_of t ≡ Some size → length r.items ≡ n * size
fixed_fits refusal (fixed w c s) n r size h e =
    let is : element_size w c ≡ size = cc in
    rw (← is) (length_found refusal _ _ h)
fixed_fits refusal text n r size h e = cc
fixed_fits refusal bytes n r size h e = cc
fixed_fits refusal (optional t) n r size h e = cc

pub variable_fits : (refusal : LengthRefusal) (t : ElementType) (n : ℕ) (r : Raw) (os : List ℕ) → levels_fit refusal t n (vlen r os) ≡ Ok tt → length os ≡ n + 1
variable_fits refusal (fixed w c s) n r os h = cc
variable_fits refusal text n r os h = length_found refusal _ _ h
variable_fits refusal bytes n r os h = length_found refusal _ _ h
variable_fits refusal (optional t) n r os h = cc

pub masked_fits : (refusal : LengthRefusal) (t : ElementType) (n : ℕ) (h : Held) (m : Raw) → levels_fit refusal t n (masked h m) ≡ Ok tt → length m.items ≡ n
masked_fits refusal (fixed w c s) n h m e = cc
masked_fits refusal text n h m e = cc
masked_fits refusal bytes n h m e = cc
masked_fits refusal (optional t) n h m e = length_found refusal _ _ (both_ok _ _ e).0

pub inner_fits : (refusal : LengthRefusal) (t u : ElementType) (n : ℕ) (h : Held) (m : Raw) → levels_fit refusal t n (masked h m) ≡ Ok tt → inner_of t ≡ Some u → levels_fit refusal u n h ≡ Ok tt
inner_fits refusal (fixed w c s) u n h m e i = cc
inner_fits refusal text u n h m e i = cc
inner_fits refusal bytes u n h m e i = cc
inner_fits refusal (optional t) u n h m e i =
    let is : t ≡ u = cc in
    rw (← is) (both_ok _ _ e).1

-- borrowed or owned, the bytes are the same
pub raw_items : (b : CowSlice ℕ Global) → cow_slice_items b ≡ (raw_of b).items
raw_items (cow.Borrowed r) = refl
raw_items (cow.Owned v) = refl

-- mask bytes at places are mask bytes
pub list_all-at : (test : ℕ → Bool) (xs : List ℕ) (i : ℕ) → list_all test xs ≡ true → i < length xs → test (get_or xs i 0) ≡ true
list_all-at test [] i h l = absurd (omega arith)
list_all-at test (x ∷ xs) zero h l = (both_true _ _ h).0
list_all-at test (x ∷ xs) (suc i) h l = list_all-at test xs i (both_true _ _ h).1 (omega arith)

pub list_all-picked : (test : ℕ → Bool) (xs ps : List ℕ) → list_all test xs ≡ true → All (λ p. p < length xs) ps → list_all test (map (slice_index xs) ps) ≡ true
list_all-picked test xs [] h inside = refl
list_all-picked test xs (p ∷ ps) h inside =
    rw (list_all-at test xs p h (inside 0 (let z : ℕ = 0 in z) (omega arith))) (list_all-picked test xs ps h (All-tail (λ q. q < length xs) p ps inside))

-- what has so many elements, and lies in memory, has a size
pub sizes_from_small : (refusal : LengthRefusal) (t : ElementType) (n : ℕ) (h : Held) → levels_fit refusal t n h ≡ Ok tt → IsSmall h → sizes_fit t n ≡ Ok tt
sizes_from_small refusal (fixed w c s) n (flen r) fit small = rw (lt-ltb (n * element_size w c) (2 ^ 64) (omega (arith, length_found refusal _ _ fit))) refl
sizes_from_small refusal (fixed w c s) n (vlen r os) fit small = cc
sizes_from_small refusal (fixed w c s) n (masked h m) fit small = cc
sizes_from_small refusal text n (vlen r os) fit small = rw (lt-ltb (n + 1) (2 ^ 64) (omega (arith, length_found refusal _ _ fit))) refl
sizes_from_small refusal text n (flen r) fit small = cc
sizes_from_small refusal text n (masked h m) fit small = cc
sizes_from_small refusal bytes n (vlen r os) fit small = rw (lt-ltb (n + 1) (2 ^ 64) (omega (arith, length_found refusal _ _ fit))) refl
sizes_from_small refusal bytes n (flen r) fit small = cc
sizes_from_small refusal bytes n (masked h m) fit small = cc
sizes_from_small refusal (optional t) n (masked h m) fit small =
    let below : levels_fit refusal t n h ≡ Ok tt = (both_ok _ _ fit).1 in
    sizes_from_small refusal t n h below small
sizes_from_small refusal (optional t) n (flen r) fit small = cc
sizes_from_small refusal (optional t) n (vlen r os) fit small = cc
