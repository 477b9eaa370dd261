-- Numbers of errors.
use Rattle.std.proofs.Common.{◌≡◌, ℕ, true, false, Result, Err, Bool, inl, inr, refl, ◌∙◌}
use Rattle.zarrs_chunk.specs.Answer.{Excused}
use Rattle.zarrs_chunk.specs.declared.codec_error.CodecError.TheVariants.{OutOfMemory, Storage, UnsupportedDataType, EndiannessMissing, ArrayBytesKind, InvalidBytesLength, IncompatibleDimensionality, OutOfBounds, Overflow, InvalidFillValue, ReshapeDimension, ReshapeElements, BitRange, PaddingByte, IndexLength, InvalidOffsets, OffsetTooLarge, OffsetNotKept, MaskValue, HeaderOverflow, InvalidByteRange, BytesCodec, DataMismatch, UnsupportedTarget, TargetMismatch, ReversedRange, ElementCount, IndivisibleShape, IndexNotFixed}
use Rattle.zarrs_array_calls.specs.Refusals.{refusal_wants, refusal_number, RefusesWith}
use Rattle.zarrs_array_calls.specs.declared.refusal.ArrayRefusal.{ArrayRefusal}
use Rattle.zarrs_array_calls.specs.declared.refusal.ArrayRefusal.TheVariants.{Argument, ZeroSize, Codec}

-- an error that says that memory is wanting has the number 10
wanting : (refusal : ArrayRefusal) → refusal_wants refusal ≡ true → refusal_number refusal ≡ 10
wanting Argument e = absurd (cc)
wanting ZeroSize e = absurd (cc)
wanting (Codec OutOfMemory) e = refl
wanting (Codec (Storage a)) e = absurd (cc)
wanting (Codec (UnsupportedDataType a)) e = absurd (cc)
wanting (Codec EndiannessMissing) e = absurd (cc)
wanting (Codec ArrayBytesKind) e = absurd (cc)
wanting (Codec (InvalidBytesLength a b)) e = absurd (cc)
wanting (Codec IncompatibleDimensionality) e = absurd (cc)
wanting (Codec OutOfBounds) e = absurd (cc)
wanting (Codec Overflow) e = absurd (cc)
wanting (Codec InvalidFillValue) e = absurd (cc)
wanting (Codec ReshapeDimension) e = absurd (cc)
wanting (Codec ReshapeElements) e = absurd (cc)
wanting (Codec BitRange) e = absurd (cc)
wanting (Codec PaddingByte) e = absurd (cc)
wanting (Codec IndexLength) e = absurd (cc)
wanting (Codec InvalidOffsets) e = absurd (cc)
wanting (Codec OffsetTooLarge) e = absurd (cc)
wanting (Codec OffsetNotKept) e = absurd (cc)
wanting (Codec MaskValue) e = absurd (cc)
wanting (Codec HeaderOverflow) e = absurd (cc)
wanting (Codec InvalidByteRange) e = absurd (cc)
wanting (Codec (BytesCodec a)) e = absurd (cc)
wanting (Codec DataMismatch) e = absurd (cc)
wanting (Codec UnsupportedTarget) e = absurd (cc)
wanting (Codec TargetMismatch) e = absurd (cc)
wanting (Codec ReversedRange) e = absurd (cc)
wanting (Codec ElementCount) e = absurd (cc)
wanting (Codec IndivisibleShape) e = absurd (cc)
wanting (Codec IndexNotFixed) e = absurd (cc)

-- a call that fails for the error that is due, or out of memory, returns its number
pub refuses : {A : Type 0} (refusal : ArrayRefusal) (expected : Result A ArrayRefusal) (code : ℕ) → Excused (refusal_wants refusal) (expected ≡ Err refusal)
    → code ≡ refusal_number refusal → RefusesWith expected code
refuses {A} refusal expected code gives is = by (refusal_wants refusal) refl
  where
    by : (t : Bool) → refusal_wants refusal ≡ t → RefusesWith expected code
    by true e = inr (is ∙ wanting refusal e)
    by false e = inl (refusal, gives e, is)
