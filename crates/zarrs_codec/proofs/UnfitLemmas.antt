-- What a codec that moves elements gives of a container of which it moves none.
use Rattle.std.proofs.Common.{◌≡◌, ◌⊎◌, inl, inr, ℕ, List, Result, Ok, Err, ap}
use Rattle.std.specs.Prelude.{IfErr}
use Rattle.zarrs_chunk.specs.Answer.{Answers, AnswersBy, memory, ◌>>=◌}
use Rattle.zarrs_chunk.specs.declared.codec_error.CodecError.{CodecError}
use Rattle.zarrs_data_type.specs.Element.{Chunk}
use Rattle.zarrs_data_type.specs.ElementType.{ElementType}
use Rattle.zarrs_array_bytes.specs.Held.{Held}
use Rattle.zarrs_array_bytes.specs.Validity.{Holds}
use Rattle.zarrs_codec.specs.CoordinateMap.{CoordinateMap}
use Rattle.zarrs_codec.specs.MappedChunk.{map_for, encoded_chunk, decoded_chunk, LeavesUnfit}

abbrev refused : {V : Type 0} → CodecError → Result V CodecError
refused cause = Err cause

error_is : {V : Type 0} (cause error : CodecError) → refused {V = V} cause ≡ refused {V = V} error → cause ≡ error
error_is cause error e = cc

-- by whether there is a map
left_by : {A V : Type 0} (R : Held → V → Type 0) (held : Held) (map : Result A CodecError) (next : A → Result V CodecError) (result : Result Held CodecError) → AnswersBy memory R result (map >>= next)
    → IfErr map (λ cause. (result ≡ Ok held) ⊎ Answers memory (λ given. given) result (Err cause))
left_by R held (Ok m) next result answer = tt
left_by R held (Err cause) next (Ok given) answer = absurd answer
left_by {V = V} R held (Err cause) next (Err e) answer = inr (λ h. ap (λ (error : CodecError). refused {V = Held} error) (error_is {V = V} cause e (answer h)))

kept_by : {A : Type 0} (held : Held) (map : Result A CodecError) (result : Result Held CodecError) → result ≡ Ok held
    → IfErr map (λ cause. (result ≡ Ok held) ⊎ Answers memory (λ given. given) result (Err cause))
kept_by held (Ok m) result same = tt
kept_by held (Err cause) result same = inl same

-- a codec that answers the moved chunk or its first error
pub unfit_encoded : (takes : ElementType → Result (Unit {0}) CodecError) (coordinates : List ℕ → Result CoordinateMap CodecError) (type : ElementType) (sizes : List ℕ) (held : Held) (result : Result Held CodecError)
    → AnswersBy memory (Holds type) result (encoded_chunk (takes type) (coordinates sizes) type sizes held) → LeavesUnfit takes coordinates type sizes held result
unfit_encoded takes coordinates type sizes held result answer =
    left_by {V = Chunk} (Holds type) held (map_for (takes type) (coordinates sizes) type sizes held) _ result answer

-- and the decoded one
pub unfit_decoded : (takes : ElementType → Result (Unit {0}) CodecError) (coordinates : List ℕ → Result CoordinateMap CodecError) (type : ElementType) (sizes : List ℕ) (held : Held) (result : Result Held CodecError)
    → AnswersBy memory (Holds type) result (decoded_chunk (takes type) (coordinates sizes) type sizes held) → LeavesUnfit takes coordinates type sizes held result
unfit_decoded takes coordinates type sizes held result answer =
    left_by {V = Chunk} (Holds type) held (map_for (takes type) (coordinates sizes) type sizes held) _ result answer

-- a codec that hands each container on as it is
pub unfit_kept : (takes : ElementType → Result (Unit {0}) CodecError) (coordinates : List ℕ → Result CoordinateMap CodecError) (type : ElementType) (sizes : List ℕ) (held : Held) (result : Result Held CodecError)
    → result ≡ Ok held → LeavesUnfit takes coordinates type sizes held result
unfit_kept takes coordinates type sizes held result same =
    kept_by held (map_for (takes type) (coordinates sizes) type sizes held) result same
