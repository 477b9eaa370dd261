-- How many elements and axes inner chunks have, and their chunk.
use Rattle.std.proofs.Common.{◌≡◌, ℕ, zero, suc, ◌+◌, ◌*◌, ◌<◌, ◌≤◌, ◌^◌, nat_lt, Bool, true, false, List, Result, Ok, arith, refl, ◌%◌, nat_eq, [], ◌∷◌, length, ap, ◌∙◌}
use Rattle.std.specs.List.{All}
use Rattle.std.proofs.Math.Nat.{mul-le-mul_right}
use Rattle.zarrs_chunk.specs.Answer.{demand, checked_u64}
use Rattle.zarrs_chunk.specs.ChunkShape.{product}
use Rattle.zarrs_chunk.specs.declared.codec_error.CodecError.{CodecError}
use Rattle.zarrs_chunk.specs.declared.codec_error.CodecError.TheVariants.{Overflow}
use Rattle.zarrs_chunk.proofs.Inside.{lt_test, from_lt_test}
use Rattle.zarrs_data_type.specs.ElementType.{ElementType, fixed, text, bytes, optional, element_size}
use Rattle.zarrs_array_bytes.specs.Validity.{sizes_fit}
use Rattle.zarrs_chain_meaning.specs.sharding.InnerChunks.{inner_chunk_count, is_divided}
use Rattle.zarrs_chain_meaning.proofs.InnerChunks.{is_cut, positive_product}
use Rattle.zarrs_chain_meaning.proofs.NestedStages.{is_positive}
use Rattle.zarrs_chain_meaning.proofs.ShardSizes.{cut_count}
use Rattle.zarrs_codec.proofs.Fences.{second_true}
use Rattle.zarrs_chain_meaning.proofs.ArraySteps.{ok_is}

-- there is an inner chunk, and it is no larger than the chunk
pub some_inner_chunk : (shape sizes : List ℕ) → All is_positive shape → All is_positive sizes → is_divided shape sizes ≡ true → 0 < inner_chunk_count shape sizes
some_inner_chunk shape sizes p positive d =
    let below = (is_cut shape sizes p d).chunk_below 0 (positive_product sizes positive) in
    omega (arith, below)

at_least : (count inner : ℕ) → 0 < count → inner ≤ count * inner
at_least zero inner l = absurd (omega (arith, l))
at_least (suc count) inner l = omega arith

pub inner_smaller : (shape sizes : List ℕ) → All is_positive shape → All is_positive sizes → is_divided shape sizes ≡ true → product shape ≤ product sizes
inner_smaller shape sizes p positive d =
    let some = some_inner_chunk shape sizes p positive d in
    let more = at_least (inner_chunk_count shape sizes) (product shape) some in
    omega (arith, more, cut_count shape sizes d)

-- ---- fewer elements

less_fits : (fewer n size : ℕ) (test : Bool) → nat_lt (n * size) (2 ^ 64) ≡ test → fewer ≤ n → ◌≡◌ {A = Result (Unit {0}) CodecError} (demand test Overflow) (Ok tt) → nat_lt (fewer * size) (2 ^ 64) ≡ true
less_fits fewer n size true e l h = let more = mul-le-mul_right size l in lt_test (fewer * size) (2 ^ 64) (omega (arith, more, from_lt_test (n * size) (2 ^ 64) e))
less_fits fewer n size false e l h = absurd cc

less_counted : (fewer n : ℕ) (test : Bool) → nat_lt (n + 1) (2 ^ 64) ≡ test → fewer ≤ n → ◌≡◌ {A = Result (Unit {0}) CodecError} (demand test Overflow) (Ok tt) → nat_lt (fewer + 1) (2 ^ 64) ≡ true
less_counted fewer n true e l h = lt_test (fewer + 1) (2 ^ 64) (omega (arith, l, from_lt_test (n + 1) (2 ^ 64) e))
less_counted fewer n false e l h = absurd cc

-- where 64 bits count the bytes of some elements, or their offsets, they count those of fewer
pub fewer_fit : (type : ElementType) (fewer n : ℕ) → fewer ≤ n → sizes_fit type n ≡ Ok tt → sizes_fit type fewer ≡ Ok tt
fewer_fit (fixed width components sign) fewer n l h = rw (less_fits fewer n (element_size width components) (nat_lt (n * element_size width components) (2 ^ 64)) refl l h) refl
fewer_fit text fewer n l h = rw (less_counted fewer n (nat_lt (n + 1) (2 ^ 64)) refl l h) refl
fewer_fit bytes fewer n l h = rw (less_counted fewer n (nat_lt (n + 1) (2 ^ 64)) refl l h) refl
fewer_fit (optional type) fewer n l h = fewer_fit type fewer n l h

-- ---- what the code counts

pub count_is : (n count : ℕ) → checked_u64 n ≡ Ok n → Ok count ≡ checked_u64 n → count ≡ n
count_is n count e h = ok_is count n (h ∙ e)

-- where inner chunks divide a chunk, both have as many axes
pub same_long : (shape sizes : List ℕ) → is_divided shape sizes ≡ true → length shape ≡ length sizes
same_long [] [] h = refl
same_long (part ∷ shape) (size ∷ sizes) h = ap suc (same_long shape sizes (second_true (nat_eq (size % part) 0) (is_divided shape sizes) h))
same_long [] (size ∷ sizes) h = absurd cc
same_long (part ∷ shape) [] h = absurd cc
