-- Codes of causes.
use Rattle.std.proofs.Common.{◌≡◌, ℕ, true, false, Result, Err, Bool, inl, inr, refl, sym, ap, ◌∙◌, arith}
use Rattle.zarrs_chunk.specs.Answer.{Excused, fault, memory}
use Rattle.zarrs_chunk.specs.declared.codec_error.CodecError.{CodecError}
use Rattle.zarrs_chunk.specs.declared.codec_error.CodecError.TheVariants.{OutOfMemory, Storage, UnsupportedDataType, EndiannessMissing, ArrayBytesKind, InvalidBytesLength, IncompatibleDimensionality, OutOfBounds, Overflow, InvalidFillValue, ReshapeDimension, ReshapeElements, BitRange, PaddingByte, IndexLength, InvalidOffsets, OffsetTooLarge, OffsetNotKept, MaskValue, HeaderOverflow, InvalidByteRange, BytesCodec, DataMismatch, UnsupportedTarget, TargetMismatch, ReversedRange, ElementCount, IndivisibleShape, IndexNotFixed}
use Rattle.zarrs_metadata.specs.declared.plugin_create_error.PluginCreateError.TheVariants as making
use Rattle.zarrs_json.specs.declared.refusal.Refusal.TheVariants.{Syntax, Making, Codec}
use Rattle.zarrs_c_calls.specs.Codes.{cause_code, cause_memory, answer_code, IsCode, IsRefusal}
use Rattle.zarrs_c_calls.specs.Fetched.{cause_lacks}
use Rattle.zarrs_c_calls.specs.declared.cause.Cause.{Cause}
use Rattle.zarrs_c_calls.specs.declared.cause.Cause.TheVariants.{Argument, NotInPlace, Refused}

-- a cause that says that memory is wanting has the number 10
wanting : (cause : Cause) → cause_memory cause ≡ true → cause_code cause ≡ 10
wanting Argument e = cc
wanting NotInPlace e = cc
wanting (Refused Syntax) e = cc
wanting (Refused (Codec OutOfMemory)) e = refl
wanting (Refused (Codec (Storage a))) e = cc
wanting (Refused (Codec (UnsupportedDataType a))) e = cc
wanting (Refused (Codec EndiannessMissing)) e = cc
wanting (Refused (Codec ArrayBytesKind)) e = cc
wanting (Refused (Codec (InvalidBytesLength a b))) e = cc
wanting (Refused (Codec IncompatibleDimensionality)) e = cc
wanting (Refused (Codec OutOfBounds)) e = cc
wanting (Refused (Codec Overflow)) e = cc
wanting (Refused (Codec InvalidFillValue)) e = cc
wanting (Refused (Codec ReshapeDimension)) e = cc
wanting (Refused (Codec ReshapeElements)) e = cc
wanting (Refused (Codec BitRange)) e = cc
wanting (Refused (Codec PaddingByte)) e = cc
wanting (Refused (Codec IndexLength)) e = cc
wanting (Refused (Codec InvalidOffsets)) e = cc
wanting (Refused (Codec OffsetTooLarge)) e = cc
wanting (Refused (Codec OffsetNotKept)) e = cc
wanting (Refused (Codec MaskValue)) e = cc
wanting (Refused (Codec HeaderOverflow)) e = cc
wanting (Refused (Codec InvalidByteRange)) e = cc
wanting (Refused (Codec (BytesCodec a))) e = cc
wanting (Refused (Codec DataMismatch)) e = cc
wanting (Refused (Codec UnsupportedTarget)) e = cc
wanting (Refused (Codec TargetMismatch)) e = cc
wanting (Refused (Codec ReversedRange)) e = cc
wanting (Refused (Codec ElementCount)) e = cc
wanting (Refused (Codec IndivisibleShape)) e = cc
wanting (Refused (Codec IndexNotFixed)) e = cc
wanting (Refused (Making making.OutOfMemory)) e = refl
wanting (Refused (Making making.UnknownName)) e = cc
wanting (Refused (Making making.InvalidConfiguration)) e = cc
wanting (Refused (Making making.MissingArrayToBytes)) e = cc
wanting (Refused (Making making.MultipleArrayToBytes)) e = cc
wanting (Refused (Making making.BitOrder)) e = cc
wanting (Refused (Making making.MultipleAuto)) e = cc
wanting (Refused (Making making.ZeroSize)) e = cc
wanting (Refused (Making making.NotAPermutation)) e = cc

-- a cause that says that a byte isn't at hand has the number 11
pub lacking : (cause : Cause) → cause_lacks cause ≡ true → cause_code cause ≡ 11
lacking Argument e = absurd (cc)
lacking NotInPlace e = absurd (cc)
lacking (Refused Syntax) e = absurd (cc)
lacking (Refused (Making error)) e = absurd (cc)
lacking (Refused (Codec OutOfMemory)) e = absurd (cc)
lacking (Refused (Codec (Storage a))) e = refl
lacking (Refused (Codec (UnsupportedDataType a))) e = absurd (cc)
lacking (Refused (Codec EndiannessMissing)) e = absurd (cc)
lacking (Refused (Codec ArrayBytesKind)) e = absurd (cc)
lacking (Refused (Codec (InvalidBytesLength a b))) e = absurd (cc)
lacking (Refused (Codec IncompatibleDimensionality)) e = absurd (cc)
lacking (Refused (Codec OutOfBounds)) e = absurd (cc)
lacking (Refused (Codec Overflow)) e = absurd (cc)
lacking (Refused (Codec InvalidFillValue)) e = absurd (cc)
lacking (Refused (Codec ReshapeDimension)) e = absurd (cc)
lacking (Refused (Codec ReshapeElements)) e = absurd (cc)
lacking (Refused (Codec BitRange)) e = absurd (cc)
lacking (Refused (Codec PaddingByte)) e = absurd (cc)
lacking (Refused (Codec IndexLength)) e = absurd (cc)
lacking (Refused (Codec InvalidOffsets)) e = absurd (cc)
lacking (Refused (Codec OffsetTooLarge)) e = absurd (cc)
lacking (Refused (Codec OffsetNotKept)) e = absurd (cc)
lacking (Refused (Codec MaskValue)) e = absurd (cc)
lacking (Refused (Codec HeaderOverflow)) e = absurd (cc)
lacking (Refused (Codec InvalidByteRange)) e = absurd (cc)
lacking (Refused (Codec (BytesCodec a))) e = absurd (cc)
lacking (Refused (Codec DataMismatch)) e = absurd (cc)
lacking (Refused (Codec UnsupportedTarget)) e = absurd (cc)
lacking (Refused (Codec TargetMismatch)) e = absurd (cc)
lacking (Refused (Codec ReversedRange)) e = absurd (cc)
lacking (Refused (Codec ElementCount)) e = absurd (cc)
lacking (Refused (Codec IndivisibleShape)) e = absurd (cc)
lacking (Refused (Codec IndexNotFixed)) e = absurd (cc)

-- a cause doesn't say both
pub lacks_alone : (cause : Cause) → cause_lacks cause ≡ true → cause_memory cause ≡ false
lacks_alone cause e = by (cause_memory cause) refl
  where
    by : (t : Bool) → cause_memory cause ≡ t → cause_memory cause ≡ false
    by true f = absurd (let same : 11 ≡ 10 = sym (lacking cause e) ∙ wanting cause f in omega (arith, same))
    by false f = f

pub fault_wants : (error : CodecError) → fault error ≡ true → memory error ≡ false
fault_wants error e = lacks_alone (Refused (Codec error)) e

-- a call that fails for the cause that is due, or out of memory, returns its code
pub refused : {A : Type 0} (cause : Cause) (expected : Result A Cause) → Excused (cause_memory cause) (expected ≡ Err cause) → IsRefusal expected (cause_code cause)
refused {A} cause expected gives = by (cause_memory cause) refl
  where
    by : (t : Bool) → cause_memory cause ≡ t → IsRefusal expected (cause_code cause)
    by true e = inr (wanting cause e)
    by false e = inl (cause, gives e, refl)

-- an error's code is the answer's
pub coded : {A : Type 0} (code : ℕ) (expected : Result A Cause) → IsRefusal expected code → IsCode expected code
coded code expected (inl r) = inl (r.2 ∙ ap answer_code (sym r.1))
coded code expected (inr e) = inr e
