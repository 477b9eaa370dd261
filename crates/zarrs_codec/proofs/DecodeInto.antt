-- Decoding into a target: the decoded container has what the target takes, and what was written of it.
use Rattle.std.proofs.Common.{◌≡◌, Ok, Err, Result, IsOkAnd}
use Rattle.zarrs_chunk.specs.declared.codec_error.CodecError.{CodecError}
use Rattle.zarrs_data_type.specs.Element.{Chunk}
use Rattle.zarrs_data_type.specs.ElementType.{ElementType}
use Rattle.zarrs_array_bytes.specs.DecodeTarget.{DecodeTarget, TargetHolds, written_target}
use Rattle.zarrs_array_bytes.specs.Held.{Held}
use Rattle.zarrs_array_bytes.specs.Tight.{IsTight}
use Rattle.zarrs_array_bytes.specs.Validity.{Holds}
use Rattle.zarrs_codec.specs.DecodeInto.{decoded_into}

pub written_after : {R : Type 0} (type : ElementType) (before after : DecodeTarget) (held : Held) (represented : Result R CodecError) (fit : Result (Unit {0}) CodecError) (chunk : Result Chunk CodecError) (r : R) → represented ≡ Ok r → fit ≡ Ok tt → after ≡ written_target before held → IsTight type held → IsOkAnd chunk (Holds type held)
    → IsOkAnd (decoded_into represented fit chunk) (λ c. TargetHolds type before after c)
written_after type before after held represented fit (Ok c) r a b w t h = rw a (rw b (record { held = held; holds = h; written = w; tight = t }))
written_after type before after held represented fit (Err c) r a b w t h = absurd h
