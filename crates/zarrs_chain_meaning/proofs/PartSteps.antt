-- A row of elements through a chain: the part that is written of it, and the part that it is read of.
use Rattle.std.proofs.Common.{◌≡◌, ℕ, zero, suc, ◌*◌, ◌^◌, ◌==◌, nat_lt, true, false, List, [], ◌∷◌, None, Result, Ok, arith, refl, subst}
use Rattle.std.proofs.lemmas.Bool.Decides.{nat_tests}
use Rattle.zarrs_chunk.specs.ChunkShape.{shape_of}
use Rattle.zarrs_chunk.specs.Answer.{demand, AnswersBy, memory}
use Rattle.zarrs_chunk.specs.declared.codec_error.CodecError.{CodecError}
use Rattle.zarrs_chunk.specs.declared.codec_error.CodecError.TheVariants.{Overflow}
use Rattle.zarrs_data_type.specs.ElementType.{ElementType, fixed, text, bytes, optional, element_size}
use Rattle.zarrs_data_type.specs.Element.{Chunk}
use Rattle.zarrs_data_type.specs.FillValue.{fill_fits}
use Rattle.zarrs_array_bytes.specs.Chunks.{fill_chunk}
use Rattle.zarrs_array_bytes.specs.Held.{Held}
use Rattle.zarrs_array_bytes.specs.Validity.{sizes_fit, Holds}
use Rattle.zarrs_chain_meaning.specs.Chain.{row_sizes}
use Rattle.zarrs_chain_meaning.specs.Meaning.{Decoder, in_a_row}
use Rattle.zarrs_bytes.proofs.Coding.{ok}

test_of_suc : (count : ℕ) → (suc count == 0) ≡ false
test_of_suc count = grind (arith, nat_tests)

pub row_shape : (count : ℕ) → shape_of (count ∷ []) ≡ row_sizes count
row_shape zero = refl
row_shape (suc count) = rw (test_of_suc count) refl

none_small : (size : ℕ) → demand {E = CodecError} (nat_lt (0 * size) (2 ^ 64)) Overflow ≡ Ok tt
none_small size =
    let none : 0 * size ≡ 0 = omega arith in
    rw none refl

-- no elements take no bytes
pub none_fit : (type : ElementType) → sizes_fit type 0 ≡ Ok tt
none_fit (fixed width components sign) = none_small (element_size width components)
none_fit text = refl
none_fit bytes = refl
none_fit (optional type) = none_fit type

none_filled : (type : ElementType) (fill : List ℕ) → fill_fits type fill ≡ true → fill_chunk type 0 fill ≡ Ok []
none_filled type fill fits = rw (fits, none_fit type) refl

pub chunk_of_none : (result : Result Held CodecError) (decode : Decoder) (count : ℕ) (type : ElementType) (fill part : List ℕ)
    → ok (row_sizes count) ≡ ok None → fill_fits type fill ≡ true → AnswersBy memory (Holds type) result (fill_chunk type 0 fill) → AnswersBy memory (Holds type) result (in_a_row (Ok []) (λ sizes. decode sizes type fill part) count)
chunk_of_none result decode zero type fill part e fits h =
    subst (λ (x : Result Chunk CodecError). AnswersBy memory (Holds type) result x) (none_filled type fill fits) h
chunk_of_none result decode (suc count) type fill part e fits h = absurd cc
