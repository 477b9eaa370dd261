-- The names of the numbers that calls answer.
use Rattle.std.specs.Prelude.{ℕ, ◌==◌, nat_lt, if◌then◌else◌, List, [], codes}

-- what every call may answer
abbrev pub call_name : ℕ → List ℕ
call_name code =
    if code == 0 then codes "Done" else
    if code == 1 then codes "Short" else
    if code == 2 then codes "Syntax" else
    if code == 3 then codes "Argument" else
    if code == 4 then codes "NotInPlace" else
    []

-- errors of codecs: of memory, handles, types, selections and shapes
abbrev pub shape_name : ℕ → List ℕ
shape_name code =
    if code == 10 then codes "OutOfMemory" else
    if code == 11 then codes "Storage" else
    if code == 12 then codes "UnsupportedDataType" else
    if code == 13 then codes "EndiannessMissing" else
    if code == 14 then codes "ArrayBytesKind" else
    if code == 15 then codes "InvalidBytesLength" else
    if code == 16 then codes "IncompatibleDimensionality" else
    if code == 17 then codes "OutOfBounds" else
    if code == 18 then codes "Overflow" else
    if code == 19 then codes "InvalidFillValue" else
    if code == 20 then codes "ReshapeDimension" else
    if code == 21 then codes "ReshapeElements" else
    []

-- errors of codecs: of bytes and targets
abbrev pub content_name : ℕ → List ℕ
content_name code =
    if code == 22 then codes "BitRange" else
    if code == 23 then codes "PaddingByte" else
    if code == 24 then codes "IndexLength" else
    if code == 25 then codes "InvalidOffsets" else
    if code == 26 then codes "OffsetTooLarge" else
    if code == 27 then codes "OffsetNotKept" else
    if code == 28 then codes "MaskValue" else
    if code == 29 then codes "HeaderOverflow" else
    if code == 30 then codes "InvalidByteRange" else
    if code == 31 then codes "BytesCodec" else
    if code == 32 then codes "DataMismatch" else
    if code == 33 then codes "UnsupportedTarget" else
    if code == 34 then codes "TargetMismatch" else
    if code == 35 then codes "ReversedRange" else
    if code == 36 then codes "ElementCount" else
    if code == 37 then codes "IndivisibleShape" else
    if code == 38 then codes "IndexNotFixed" else
    []

-- errors of metadata
abbrev pub making_name : ℕ → List ℕ
making_name code =
    if code == 50 then codes "UnknownName" else
    if code == 51 then codes "InvalidConfiguration" else
    if code == 52 then codes "MissingArrayToBytes" else
    if code == 53 then codes "MultipleArrayToBytes" else
    if code == 54 then codes "BitOrder" else
    if code == 55 then codes "MultipleAuto" else
    if code == 56 then codes "ZeroSize" else
    if code == 57 then codes "NotAPermutation" else
    []

-- the name of a number that calls answer; none of any other number
abbrev pub code_name : ℕ → List ℕ
code_name code =
    if nat_lt code 10 then call_name code else if nat_lt code 22 then shape_name code else if nat_lt code 50 then content_name code else making_name code
