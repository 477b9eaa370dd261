-- Whether a container has the kind of a type and so many elements, and the first error where not.
-- Source: zarrs, `validate`.
use Rattle.std.specs.Prelude.{◌≡◌, ℕ, ◌+◌, ◌*◌, length, ◌==◌, ◌^◌, nat_lt, Result, Ok, Err}
use Rattle.zarrs_chunk.specs.Answer.{◌>>=◌, demand}
use Rattle.zarrs_chunk.specs.declared.codec_error.CodecError.{CodecError}
use Rattle.zarrs_chunk.specs.declared.codec_error.CodecError.TheVariants.{Overflow, ArrayBytesKind, InvalidBytesLength, DataMismatch}
use Rattle.zarrs_data_type.specs.ElementType.{ElementType, fixed, text, bytes, optional, element_size}
use Rattle.zarrs_data_type.specs.Element.{Chunk}
use Rattle.zarrs_array_bytes.specs.Held.{Held, flen, vlen, masked}
use Rattle.zarrs_array_bytes.specs.Elements.{elements}

-- 64 bits count the bytes of so many elements, or their offsets, else `Overflow`; under optional types those of the innermost type
abbrev pub sizes_fit : ElementType → ℕ → Result (Unit {0}) CodecError
sizes_fit (fixed width components sign) count = demand (nat_lt (count * element_size width components) (2 ^ 64)) Overflow
sizes_fit (optional type) count = sizes_fit type count
sizes_fit type count = demand (nat_lt (count + 1) (2 ^ 64)) Overflow

-- the error for a wrong length, of the length that was found and the one that was due
abbrev pub LengthRefusal : Type 0
LengthRefusal = ℕ → ℕ → CodecError

-- the length that was found is the one that was due
abbrev pub length_is : LengthRefusal → ℕ → ℕ → Result (Unit {0}) CodecError
length_is refusal found expected = demand (found == expected) (refusal found expected)

-- level by level, the outermost first, the kind and then the length or count
abbrev pub levels_fit : LengthRefusal → ElementType → ℕ → Held → Result (Unit {0}) CodecError
levels_fit refusal (fixed width components sign) count (flen raw) =
    length_is refusal (length raw.items) (count * element_size width components)
levels_fit refusal text count (vlen raw offsets) = length_is refusal (length offsets) (count + 1)
levels_fit refusal bytes count (vlen raw offsets) = length_is refusal (length offsets) (count + 1)
levels_fit refusal (optional type) count (masked inner mask) =
    length_is refusal (length mask.items) count >>= λ _. levels_fit refusal type count inner
levels_fit refusal _ count _ = Err ArrayBytesKind

-- level by level, the container is of the type's kind and has so many elements
abbrev pub HasElements : ElementType → ℕ → Held → Type 0
HasElements type count held = levels_fit InvalidBytesLength type count held ≡ Ok tt

-- a container has so many elements of the type, or the first error
abbrev pub validity : ElementType → ℕ → Held → Result (Unit {0}) CodecError
validity type count held = do
  _ ← sizes_fit type count
  levels_fit InvalidBytesLength type count held

-- any wrong length of new data
abbrev pub data_mismatch : LengthRefusal
data_mismatch found expected = DataMismatch

-- new data have one element of the type for each of so many places, or the first error
abbrev pub data_fit : ElementType → ℕ → Held → Result (Unit {0}) CodecError
data_fit type count held = levels_fit data_mismatch type count held

-- the container holds the chunk: it has as many elements of the type, and they are the chunk's
pub record Holds (type : ElementType) (held : Held) (chunk : Chunk) : Type 0 where
  pub valid : validity type (length chunk) held ≡ Ok tt
  pub elements_are : elements type (length chunk) held ≡ chunk
