-- Calls that are rejected for themselves leave the handle as it was.
use Rattle.std.proofs.Common.{◌≡◌, ◌||◌, Bool, true, false, Result, Ok, Err, IfErr, sym, ◌∙◌}
use Rattle.zarrs_chunk.specs.Answer.{Answers, fault, memory, memory_or_fault}
use Rattle.zarrs_chunk.specs.declared.codec_error.CodecError.{CodecError}
use Rattle.zarrs_codec.specs.StorageState.{StorageState, after_reading}
use Rattle.zarrs_array_to_array.proofs.Stages.{left_alone}

second_false : (a b : Bool) → (a || b) ≡ false → b ≡ false
second_false true b h = absurd (cc)
second_false false b h = h

-- one that was rejected where it read
pub read_unharmed : (e : CodecError) (old new : StorageState) → new ≡ after_reading {T = Unit {0}} (Err e) old → memory_or_fault e ≡ false → new ≡ old
read_unharmed e old new left m = left ∙ sym (left_alone (Unit {0}) e old (second_false (memory e) (fault e) m))

-- one that nothing rejects but memory and the handle
pub accepted_unharmed : {T V : Type 0} (view : T → V) (r : Result T CodecError) (v : V) (P : Type 0) → Answers memory_or_fault view r (Ok v) → IfErr r (λ cause. memory_or_fault cause ≡ false → P)
accepted_unharmed view (Ok x) v P h = tt
accepted_unharmed {V = V} view (Err e) v P h = λ m. let never : ◌≡◌ {A = Result V CodecError} (Ok v) (Err e) = h m in absurd (cc)

-- one that nothing rejects but the handle
pub erased_unharmed : {T V : Type 0} (view : T → V) (r : Result T CodecError) (v : V) (P : Type 0) → Answers fault view r (Ok v) → IfErr r (λ cause. memory_or_fault cause ≡ false → P)
erased_unharmed view (Ok x) v P h = tt
erased_unharmed {V = V} view (Err e) v P h = λ m. let never : ◌≡◌ {A = Result V CodecError} (Ok v) (Err e) = h (second_false (memory e) (fault e) m) in absurd (cc)
