-- The names of the errors.
use Rattle.std.specs.Prelude.{ℕ, List, codes}
use Rattle.zarrs_chunk.specs.declared.codec_error.CodecError.{CodecError}
use Rattle.zarrs_chunk.specs.declared.codec_error.CodecError.TheVariants.{OutOfMemory, Storage, UnsupportedDataType, EndiannessMissing, ArrayBytesKind, InvalidBytesLength, IncompatibleDimensionality, OutOfBounds, Overflow, InvalidFillValue, ReshapeDimension, ReshapeElements, BitRange, PaddingByte, IndexLength, InvalidOffsets, OffsetTooLarge, OffsetNotKept, MaskValue, HeaderOverflow, InvalidByteRange, BytesCodec, DataMismatch, UnsupportedTarget, TargetMismatch, ReversedRange, ElementCount, IndivisibleShape, IndexNotFixed}

-- the name of an error, as its bytes
abbrev pub name_of : CodecError → List ℕ
name_of OutOfMemory = codes "OutOfMemory"
name_of (Storage _) = codes "Storage"
name_of (UnsupportedDataType _) = codes "UnsupportedDataType"
name_of EndiannessMissing = codes "EndiannessMissing"
name_of ArrayBytesKind = codes "ArrayBytesKind"
name_of (InvalidBytesLength _ _) = codes "InvalidBytesLength"
name_of IncompatibleDimensionality = codes "IncompatibleDimensionality"
name_of OutOfBounds = codes "OutOfBounds"
name_of Overflow = codes "Overflow"
name_of InvalidFillValue = codes "InvalidFillValue"
name_of ReshapeDimension = codes "ReshapeDimension"
name_of ReshapeElements = codes "ReshapeElements"
name_of BitRange = codes "BitRange"
name_of PaddingByte = codes "PaddingByte"
name_of IndexLength = codes "IndexLength"
name_of InvalidOffsets = codes "InvalidOffsets"
name_of OffsetTooLarge = codes "OffsetTooLarge"
name_of OffsetNotKept = codes "OffsetNotKept"
name_of MaskValue = codes "MaskValue"
name_of HeaderOverflow = codes "HeaderOverflow"
name_of InvalidByteRange = codes "InvalidByteRange"
name_of (BytesCodec _) = codes "BytesCodec"
name_of DataMismatch = codes "DataMismatch"
name_of UnsupportedTarget = codes "UnsupportedTarget"
name_of TargetMismatch = codes "TargetMismatch"
name_of ReversedRange = codes "ReversedRange"
name_of ElementCount = codes "ElementCount"
name_of IndivisibleShape = codes "IndivisibleShape"
name_of IndexNotFixed = codes "IndexNotFixed"
