-- An error of the making of a stage is no fault of a handle.
use Rattle.std.proofs.Common.{◌≡◌, ℕ, false, List, Ok, Err, Result, refl}
use Rattle.zarrs_chunk.specs.Answer.{◌>>=◌, Answers, memory, is_fault, seen}
use Rattle.zarrs_chunk.specs.declared.codec_error.CodecError.{CodecError}
use Rattle.zarrs_data_type.specs.ElementType.{ElementType}
use Rattle.zarrs_codec.specs.MappedChunk.{encoded_form}
use Rattle.zarrs_array_to_array.specs.ArrayToArrayCodec.{ArrayMapping, coordinates}
use Rattle.zarrs_array_to_array.specs.CodecAnswers.{type_taken}
use Rattle.zarrs_array_to_array.proofs.ArrayLaws.{array_laws}
use Rattle.zarrs_array_to_array.proofs.Refusals.{bind_no_fault, no_fault_from, seen_no_fault}

form_no_fault : (codec : ArrayMapping) (sizes : List ℕ) (type : ElementType) (fill : List ℕ) → is_fault (encoded_form (type_taken codec type) (coordinates codec sizes) type fill) ≡ false
form_no_fault codec sizes type fill =
    bind_no_fault (type_taken codec type) (λ _. coordinates codec sizes >>= λ m. Ok (m.encoded, type, fill)) ((array_laws codec).taken_no_fault type)
    (λ _. bind_no_fault (coordinates codec sizes) (λ m. Ok (m.encoded, type, fill)) ((array_laws codec).map_no_fault sizes) (λ _. refl))

-- what is made of parts is made where they are, or their first error is returned
pub made_of_parts : {P V W : Type 0} (view : P → V) (f : W → V) (parts : Result P CodecError) (expected : Result W CodecError) (made : Result (Unit {0}) CodecError) → Answers memory view parts (seen f expected) → made ≡ seen (λ _. tt) parts → Answers memory (λ m. m) made (seen (λ _. tt) expected)
made_of_parts view f (Ok p) (Ok w) made answer is = rw is refl
made_of_parts view f (Ok p) (Err e) made answer is = absurd (cc)
made_of_parts view f (Err e) (Ok w) made answer is = rw is (λ m. absurd (let bad = answer m in cc))
made_of_parts view f (Err e) (Err x) made answer is = rw is (λ m. let same = answer m in cc)

-- an error of a stage is no fault
pub making_no_fault : {P V : Type 0} (view : P → V) (codec : ArrayMapping) (sizes : List ℕ) (type : ElementType) (fill : List ℕ) (f : List ℕ × ElementType × List ℕ → V) (parts : Result P CodecError) (made : Result (Unit {0}) CodecError)
    → Answers memory view parts (seen f (encoded_form (type_taken codec type) (coordinates codec sizes) type fill)) → made ≡ seen (λ _. tt) parts → is_fault made ≡ false
making_no_fault view codec sizes type fill f parts made answer is =
    let expected = encoded_form (type_taken codec type) (coordinates codec sizes) type fill in
    let none : is_fault parts ≡ false = no_fault_from view parts (seen f expected) answer (seen_no_fault f expected (form_no_fault codec sizes type fill)) in
    rw is (seen_no_fault (λ _. tt) parts none)
