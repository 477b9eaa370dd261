-- The numbers that calls answer.
use Rattle.std.specs.Prelude.{◌≡◌, ◌⊎◌, ℕ, Bool, false, Result, Ok, Err}
use Rattle.zarrs_chunk.specs.declared.codec_error.CodecError.{CodecError}
use Rattle.zarrs_chunk.specs.declared.codec_error.CodecError.TheVariants.{OutOfMemory, Storage, UnsupportedDataType, EndiannessMissing, ArrayBytesKind, InvalidBytesLength, IncompatibleDimensionality, OutOfBounds, Overflow, InvalidFillValue, ReshapeDimension, ReshapeElements, BitRange, PaddingByte, IndexLength, InvalidOffsets, OffsetTooLarge, OffsetNotKept, MaskValue, HeaderOverflow, InvalidByteRange, BytesCodec, DataMismatch, UnsupportedTarget, TargetMismatch, ReversedRange, ElementCount, IndivisibleShape, IndexNotFixed}
use Rattle.zarrs_metadata.specs.declared.plugin_create_error.PluginCreateError.{PluginCreateError}
use Rattle.zarrs_metadata.specs.declared.plugin_create_error.PluginCreateError.TheVariants as making
use Rattle.zarrs_json.specs.Refusal.{refusal_memory}
use Rattle.zarrs_json.specs.declared.refusal.Refusal.{Refusal}
use Rattle.zarrs_json.specs.declared.refusal.Refusal.TheVariants.{Syntax, Making, Codec}
use Rattle.zarrs_c_calls.specs.declared.cause.Cause.{Cause}
use Rattle.zarrs_c_calls.specs.declared.cause.Cause.TheVariants.{Argument, NotInPlace, Refused}

-- ---- causes

-- an allocation failed
abbrev pub cause_memory : Cause → Bool
cause_memory Argument = false
cause_memory NotInPlace = false
cause_memory (Refused refusal) = refusal_memory refusal

-- the answer of a reading of a header or a list of codecs
abbrev pub refusal_answer : {A : Type 0} → Result A Refusal → Result A Cause
refusal_answer (Ok value) = Ok value
refusal_answer (Err refusal) = Err (Refused refusal)

-- a codec's answer
abbrev pub codec_call_answer : {A : Type 0} → Result A CodecError → Result A Cause
codec_call_answer (Ok value) = Ok value
codec_call_answer (Err error) = Err (Refused (Codec error))

-- ---- codes

-- of a codec's error
abbrev pub codec_code : CodecError → ℕ
codec_code OutOfMemory = 10
codec_code (Storage _) = 11
codec_code (UnsupportedDataType _) = 12
codec_code EndiannessMissing = 13
codec_code ArrayBytesKind = 14
codec_code (InvalidBytesLength _ _) = 15
codec_code IncompatibleDimensionality = 16
codec_code OutOfBounds = 17
codec_code Overflow = 18
codec_code InvalidFillValue = 19
codec_code ReshapeDimension = 20
codec_code ReshapeElements = 21
codec_code BitRange = 22
codec_code PaddingByte = 23
codec_code IndexLength = 24
codec_code InvalidOffsets = 25
codec_code OffsetTooLarge = 26
codec_code OffsetNotKept = 27
codec_code MaskValue = 28
codec_code HeaderOverflow = 29
codec_code InvalidByteRange = 30
codec_code (BytesCodec _) = 31
codec_code DataMismatch = 32
codec_code UnsupportedTarget = 33
codec_code TargetMismatch = 34
codec_code ReversedRange = 35
codec_code ElementCount = 36
codec_code IndivisibleShape = 37
codec_code IndexNotFixed = 38

-- of an error of metadata
abbrev pub making_code : PluginCreateError → ℕ
making_code making.OutOfMemory = 10
making_code making.UnknownName = 50
making_code making.InvalidConfiguration = 51
making_code making.MissingArrayToBytes = 52
making_code making.MultipleArrayToBytes = 53
making_code making.BitOrder = 54
making_code making.MultipleAuto = 55
making_code making.ZeroSize = 56
making_code making.NotAPermutation = 57

-- of an error
abbrev pub refusal_code : Refusal → ℕ
refusal_code Syntax = 2
refusal_code (Making error) = making_code error
refusal_code (Codec error) = codec_code error

-- of a cause
abbrev pub cause_code : Cause → ℕ
cause_code Argument = 3
cause_code NotInPlace = 4
cause_code (Refused refusal) = refusal_code refusal

-- of an answer: 0 where there is one
abbrev pub answer_code : {A : Type 0} → Result A Cause → ℕ
answer_code (Ok _) = 0
answer_code (Err cause) = cause_code cause

-- a call answers this number: that of the answer which is due, or 10, since memory may always be lacking
abbrev pub IsCode : {A : Type 0} → Result A Cause → ℕ → Type 0
IsCode expected code = (code ≡ answer_code expected) ⊎ (code ≡ 10)

-- a call that fails returns this number: that of the error that is due, or 10, since memory may be lacking at any time
abbrev pub IsRefusal : {A : Type 0} → Result A Cause → ℕ → Type 0
IsRefusal expected code = ((cause : Cause) × (expected ≡ Err cause) × (code ≡ cause_code cause)) ⊎ (code ≡ 10)
