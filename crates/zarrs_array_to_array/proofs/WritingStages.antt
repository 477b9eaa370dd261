-- Writers over the writers of moved chunks.
use Rattle.std.proofs.Common.{◌≡◌, false, Option, Some, Result, Ok, Err, refl, inl, IfErr}
use Rattle.zarrs_chunk.specs.Answer.{◌>>=◌, Answers, memory, fault, memory_or_fault, seen}
use Rattle.zarrs_chunk.specs.declared.codec_error.CodecError.{CodecError}
use Rattle.zarrs_codec.specs.ArrayWriter.{IsRefusedWrite}
use Rattle.zarrs_codec.specs.StorageState.{StorageState}
use Rattle.zarrs_array_to_array.proofs.Stages.{left_alone, first_false}

-- what is written at the encoded indexer is what is written
pub passed_write : {T V W : Type 0} (view : T → Option W) (r : Result T CodecError) (image : Result V CodecError) (v : V) (f : V → Result W CodecError) → image ≡ Ok v → Answers memory_or_fault view r (seen Some (f v)) → Answers memory_or_fault view r (seen Some (image >>= f))
passed_write view r image v f e h = rw e h

-- an error of the moved indexer is the writer's
pub refused_write : {V W : Type 0} (e : CodecError) (image : Result V CodecError) (f : V → Result W CodecError) → (memory e ≡ false → image ≡ Err e) → memory_or_fault e ≡ false → seen Some (image >>= f) ≡ Err e
refused_write e image f h = λ ne. rw (h (first_false (memory e) (fault e) ne)) refl

pub any_refusal : {W : Type 0} (r : Result W CodecError) (P : CodecError → Type 0) → ((cause : CodecError) → P cause) → IfErr r P
any_refusal (Ok x) P h = tt
any_refusal (Err e) P h = h e

-- the same of the causes that are found before the handle is asked
pub passed_check : {V : Type 0} (image : Result V CodecError) (v : V) (f : V → Result (Unit {0}) CodecError) (P : CodecError → Type 0) → image ≡ Ok v → IfErr (f v) P → IfErr (image >>= f) P
passed_check image v f P e h = rw e h

pub refused_check : {V : Type 0} (e : CodecError) (image : Result V CodecError) (f : V → Result (Unit {0}) CodecError) → (memory e ≡ false → image ≡ Err e) → IfErr (image >>= f) (λ cause. Answers {T = Unit {0}} {V = Unit {0}} memory (λ done. done) (Err e) (Err cause))
refused_check {V} e (Ok v) f h =
    any_refusal (f v) (λ cause. Answers {T = Unit {0}} {V = Unit {0}} memory (λ done. done) (Err e) (Err cause)) (λ cause ne. absurd (let bad : ◌≡◌ {A = Result V CodecError} (Ok v) (Err e) = h ne in cc))
refused_check {V} e (Err cause) f h = λ ne. let same : ◌≡◌ {A = Result V CodecError} (Err cause) (Err e) = h ne in cc

-- an error of the moved indexer leaves the handle
pub alone : (e : CodecError) (state : StorageState) → fault e ≡ false → IsRefusedWrite {T = Unit {0}} (Err e) state state
alone e state h = inl (left_alone (Unit {0}) e state h)
