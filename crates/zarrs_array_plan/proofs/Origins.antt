-- Where chunks begin.
use Rattle.std.proofs.Common.{◌≡◌, ℕ, zero, suc, ◌+◌, ◌*◌, ◌<◌, ◌≤◌, ◌^◌, true, List, [], ◌∷◌, length, get_or, arith, subst}
use Rattle.std.specs.Int.{div_ceil}
use Rattle.std.specs.List.{All}
use Rattle.std.proofs.Math.Nat.{mul-le-mul_right}
use Rattle.std.proofs.lemmas.Bool.{and_parts}
use Rattle.std.proofs.lemmas.Grind.{div_ceil_times}
use Rattle.std.proofs.lemmas.List.Elements.{All-head, All-tail}
use Rattle.zarrs_chunk.specs.Tuples.{is_tuple_inside}
use Rattle.zarrs_chunk.proofs.Inside.{from_lt_test}
use Rattle.zarrs_array_plan.specs.ArrayForm.{IsArrayForm, grid_shape}

-- a chunk of an axis begins inside it
pub begins_inside : (size chunk number : ℕ) → 0 < chunk → number < div_ceil size chunk → number * chunk < size
begins_inside size chunk number p l =
    let above : (number + 1) * chunk ≤ div_ceil size chunk * chunk = mul-le-mul_right chunk (omega arith) in
    let below = (div_ceil_times size chunk p).1 in
    omega (arith, above, below)

-- so it begins where 64 bits hold it
pub origin_fits : (shape chunk_shape numbers : List ℕ) → length shape ≡ length chunk_shape → All (λ size. size < 2 ^ 64) shape
    → All (λ size. 0 < size) chunk_shape → is_tuple_inside (grid_shape shape chunk_shape) numbers ≡ true
    → (axis : ℕ) → axis < length chunk_shape → get_or numbers axis 0 * get_or chunk_shape axis 0 < 2 ^ 64
origin_fits [] [] numbers e s p h = λ axis l. absurd (omega arith)
origin_fits [] (chunk ∷ chunks) numbers e s p h = absurd (omega arith)
origin_fits (size ∷ shape) [] numbers e s p h = absurd (omega arith)
origin_fits (size ∷ shape) (chunk ∷ chunks) [] e s p h = absurd (cc)
origin_fits (size ∷ shape) (chunk ∷ chunks) (number ∷ numbers) e s p h =
    let both = and_parts _ _ h in
    let some = All-head (λ size. 0 < size) chunk chunks p in
    let small = All-head (λ size. size < 2 ^ 64) size shape s in
    let begins = begins_inside size chunk number some (from_lt_test _ _ both.0) in
    let rest = origin_fits shape chunks numbers (omega arith) (All-tail (λ size. size < 2 ^ 64) size shape s) (All-tail (λ size. 0 < size) chunk chunks p) both.1 in
    λ axis. elim axis as (λ k. k < length (chunk ∷ chunks) → get_or (number ∷ numbers) k 0 * get_or (chunk ∷ chunks) k 0 < 2 ^ 64) [
      | zero ↦ (λ l. omega (arith, begins, small))
      | suc k ↦ (λ l. rest k (omega arith))
    ]

-- the same of slices that have these numbers
pub origin_ready : (shape chunk_shape numbers : List ℕ) {grid chunks : List ℕ} → chunks ≡ chunk_shape → grid ≡ grid_shape shape chunk_shape
    → is_tuple_inside grid numbers ≡ true → IsArrayForm shape chunk_shape → All (λ size. 0 < size) chunks
    → (axis : ℕ) → axis < length chunks → get_or numbers axis 0 * get_or chunks axis 0 < 2 ^ 64
origin_ready shape chunk_shape numbers {grid} {chunks} e g h form positive =
    let inside : is_tuple_inside (grid_shape shape chunk_shape) numbers ≡ true = subst (λ (sizes : List ℕ). is_tuple_inside sizes numbers ≡ true) g h in
    let some : All (λ size. 0 < size) chunk_shape = subst (All (λ size. 0 < size)) e positive in
    rw e (origin_fits shape chunk_shape numbers form.axes form.small some inside)
