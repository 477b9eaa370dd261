-- Errors of codecs are no faults of a handle.
use Rattle.std.proofs.Common.{◌≡◌, nat_lt, ℕ, ◌/◌, ◌^◌, Bool, true, false, List, [], ◌∷◌, length, Ok, Err, Result, refl, if◌then◌else◌}
use Rattle.std.specs.List.{list_all}
use Rattle.zarrs_chunk.specs.Answer.{◌>>=◌, demand, checked_u64, Answers, memory, fault, is_fault, seen}
use Rattle.zarrs_chunk.specs.ChunkShape.{product}
use Rattle.zarrs_chunk.specs.declared.codec_error.CodecError.{CodecError}
use Rattle.zarrs_chunk.specs.declared.codec_error.CodecError.TheVariants.{Overflow, ReshapeDimension, ReshapeElements, Storage}
use Rattle.zarrs_array_to_array.specs.Orders.{permuted}
use Rattle.zarrs_metadata.specs.Dims.{Dim, size, auto, input_dims}
use Rattle.zarrs_array_to_array.specs.Reshape.{reshaped, axes_product, dims_told, counts_agree, others_of, sizes_with}

pub no_fault_from : {T V : Type 0} (view : T → V) (r : Result T CodecError) (expected : Result V CodecError) → Answers memory view r expected → is_fault expected ≡ false → is_fault r ≡ false
no_fault_from view (Ok x) expected h n = refl
no_fault_from view (Err e) expected h n = go e expected h n
  where
    go : {V : Type 0} (e : CodecError) (expected : Result V CodecError) → (memory e ≡ false → expected ≡ Err e) → is_fault expected ≡ false → fault e ≡ false
    go (Storage x) expected h n = absurd (let is : expected ≡ Err (Storage x) = h refl in let bad : true ≡ false = (rw is at n) in cc)
    go _ expected h n = refl

pub bind_no_fault : {A B : Type 0} (r : Result A CodecError) (f : A → Result B CodecError) → is_fault r ≡ false → ((x : A) → is_fault (f x) ≡ false) → is_fault (r >>= f) ≡ false
bind_no_fault (Ok x) f h g = g x
bind_no_fault (Err e) f h g = h

pub demand_no_fault : (passed : Bool) (cause : CodecError) → fault cause ≡ false → is_fault (demand passed cause) ≡ false
demand_no_fault true cause h = refl
demand_no_fault false cause h = h

checked_no_fault : (n : ℕ) → is_fault (checked_u64 n) ≡ false
checked_no_fault n = go (nat_lt n (2 ^ 64))
  where
    go : (b : Bool) → is_fault (if b then Ok n else Err Overflow) ≡ false
    go true = refl
    go false = refl

axes_no_fault : (named sizes : List ℕ) → is_fault (axes_product named sizes) ≡ false
axes_no_fault named sizes =
    bind_no_fault (demand (list_all (λ axis. nat_lt axis (length sizes)) named) ReshapeDimension) (λ _. checked_u64 (product (permuted named sizes))) (demand_no_fault _ ReshapeDimension refl) (λ _. checked_no_fault (product (permuted named sizes)))

told_no_fault : (sizes : List ℕ) (dims : List Dim) → is_fault (dims_told sizes dims) ≡ false
told_no_fault sizes [] = refl
told_no_fault sizes (size n ∷ dims) = told_no_fault sizes dims
told_no_fault sizes (auto ∷ dims) = told_no_fault sizes dims
told_no_fault sizes (input_dims named ∷ dims) = bind_no_fault (axes_product named sizes) (λ _. dims_told sizes dims) (axes_no_fault named sizes) (λ _. told_no_fault sizes dims)

pub reshaped_no_fault : (dims : List Dim) (sizes : List ℕ) → is_fault (reshaped dims sizes) ≡ false
reshaped_no_fault dims sizes =
    bind_no_fault (dims_told sizes dims) (λ _. checked_u64 (product sizes) >>= λ _. checked_u64 (others_of sizes dims) >>= λ _. demand (counts_agree sizes dims) ReshapeElements >>= λ _. Ok (sizes_with (product sizes / others_of sizes dims) sizes dims)) (told_no_fault sizes dims)
    (λ _. bind_no_fault (checked_u64 (product sizes)) (λ _. checked_u64 (others_of sizes dims) >>= λ _. demand (counts_agree sizes dims) ReshapeElements >>= λ _. Ok (sizes_with (product sizes / others_of sizes dims) sizes dims)) (checked_no_fault (product sizes))
    (λ _. bind_no_fault (checked_u64 (others_of sizes dims)) (λ _. demand (counts_agree sizes dims) ReshapeElements >>= λ _. Ok (sizes_with (product sizes / others_of sizes dims) sizes dims)) (checked_no_fault (others_of sizes dims))
    (λ _. bind_no_fault (demand (counts_agree sizes dims) ReshapeElements) (λ _. Ok (sizes_with (product sizes / others_of sizes dims) sizes dims)) (demand_no_fault (counts_agree sizes dims) ReshapeElements refl) (λ _. refl))))

pub seen_no_fault : {A B : Type 0} (f : A → B) (r : Result A CodecError) → is_fault r ≡ false → is_fault (seen f r) ≡ false
seen_no_fault f (Ok x) h = refl
seen_no_fault f (Err e) h = h
