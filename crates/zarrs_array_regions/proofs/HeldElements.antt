-- How many elements a region has, and its encoded part.
use Rattle.std.proofs.Common.{◌≡◌, ◌∙◌, ◌<◌, ◌^◌, nat_lt, ℕ, true, List, Result, Ok, Err, refl, subst}
use Rattle.std.proofs.lemmas.Bool.{lt-ltb}
use Rattle.zarrs_chunk.specs.Answer.{checked_u64, GivesBy}
use Rattle.zarrs_chunk.specs.ChunkShape.{product}
use Rattle.zarrs_chunk.specs.Region.{Region}
use Rattle.zarrs_chunk.specs.declared.codec_error.CodecError.{CodecError}
use Rattle.zarrs_data_type.specs.ElementType.{ElementType}
use Rattle.zarrs_array_bytes.specs.Elements.{elements}
use Rattle.zarrs_array_bytes.specs.Held.{Held}
use Rattle.zarrs_array_bytes.specs.Validity.{Holds}
use Rattle.zarrs_array_to_array.specs.ArrayToArrayCodec.{transpose}
use Rattle.zarrs_array_to_array.specs.Transpose.{transposed_chunk}
use Rattle.zarrs_array_regions.specs.Parts.{EncodesPart}

-- few elements are counted
pub no_count : (n : ℕ) (e : CodecError) → n < 2 ^ 64 → ◌≡◌ {A = Result ℕ CodecError} (Err e) (checked_u64 n) → ⊥
no_count n e l h =
    let test : nat_lt n (2 ^ 64) ≡ true = lt-ltb n (2 ^ 64) l in
    let bad : ◌≡◌ {A = Result ℕ CodecError} (Err e) (Ok n) = h ∙ (rw test refl) in
    cc

pub count_is : (n count : ℕ) → n < 2 ^ 64 → ◌≡◌ {A = Result ℕ CodecError} (Ok count) (checked_u64 n) → count ≡ n
count_is n count l h =
    let test : nat_lt n (2 ^ 64) ≡ true = lt-ltb n (2 ^ 64) l in
    let same : ◌≡◌ {A = Result ℕ CodecError} (Ok count) (Ok n) = h ∙ (rw test refl) in
    cc

-- what is transposed at a region's own lengths is its encoded part
pub transposed_part : (order : List ℕ) (type : ElementType) (region : Region) (held : Held) (lengths : List ℕ) (axes : List ℕ) (count : ℕ) (result : Result Held CodecError) → axes ≡ order → lengths ≡ region.lengths → count ≡ product region.lengths
    → GivesBy (Holds type) result (Ok (transposed_chunk axes lengths (elements type count held))) → EncodesPart (transpose order) type region held result
transposed_part order type region held lengths axes count result a l n h =
    subst (λ xs. GivesBy (Holds type) result (Ok (transposed_chunk xs region.lengths (elements type (product region.lengths) held)))) a
    (subst (λ xs. GivesBy (Holds type) result (Ok (transposed_chunk axes xs (elements type (product region.lengths) held)))) l
    (subst (λ k. GivesBy (Holds type) result (Ok (transposed_chunk axes lengths (elements type k held)))) n h))
