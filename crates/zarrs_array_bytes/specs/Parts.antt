-- Containers made of parts, and the parts of containers.
-- Source: zarrs, `ArrayBytes`.
use Rattle.std.specs.Prelude.{ℕ, ◌==◌, nat_lt, List, [], length, Result, Ok, Err}
use Rattle.std.specs.List.{list_all}
use Rattle.std.proofs.Common.{Bor, Global}
use Rattle.std.specs.declared.borrow.CowSlice.{CowSlice}
use Rattle.zarrs_chunk.specs.Answer.{◌>>=◌, demand, seen}
use Rattle.zarrs_chunk.specs.declared.codec_error.CodecError.{CodecError}
use Rattle.zarrs_chunk.specs.declared.codec_error.CodecError.TheVariants.{ArrayBytesKind, InvalidOffsets, MaskValue}
use Rattle.zarrs_array_bytes.specs.Held.{Raw, raw_of, Held, flen, vlen, masked}
use Rattle.zarrs_array_bytes.specs.Offsets.{last_of}

-- a container of elements of any length, or the error: the last one ends where the bytes end
abbrev pub with_offsets : Raw → List ℕ → Result Held CodecError
with_offsets raw offsets = do
  _ ← demand (last_of offsets == length raw.items) InvalidOffsets
  Ok (vlen raw offsets)

-- a container under a mask, or the error: each mask byte is 0 or 1
abbrev pub with_mask : Held → Raw → Result Held CodecError
with_mask inner mask = do
  _ ← demand (list_all (λ byte. nat_lt byte 2) mask.items) MaskValue
  Ok (masked inner mask)

-- the bytes of elements of one size; of any other container the error `ArrayBytesKind`
abbrev pub fixed_part : Held → Result Raw CodecError
fixed_part (flen raw) = Ok raw
fixed_part (vlen raw offsets) = Err ArrayBytesKind
fixed_part (masked inner mask) = Err ArrayBytesKind

-- the bytes and offsets of elements of any length; of any other container the error `ArrayBytesKind`
abbrev pub variable_part : Held → Result (Raw × List ℕ) CodecError
variable_part (flen raw) = Err ArrayBytesKind
variable_part (vlen raw offsets) = Ok (raw, offsets)
variable_part (masked inner mask) = Err ArrayBytesKind

-- what is under the outermost mask, and that mask; without a mask the error `ArrayBytesKind`
abbrev pub optional_part : Held → Result (Held × Raw) CodecError
optional_part (flen raw) = Err ArrayBytesKind
optional_part (vlen raw offsets) = Err ArrayBytesKind
optional_part (masked inner mask) = Ok (inner, mask)

-- given bytes and offsets, as parts of a container
abbrev pub raw_and_offsets : CowSlice ℕ Global × List ℕ → Raw × List ℕ
raw_and_offsets parts = (raw_of parts.0, parts.1)

-- the bytes of elements of one size, whoever owns them; of any other container the error `ArrayBytesKind`
abbrev pub fixed_items : Held → Result (List ℕ) CodecError
fixed_items held = seen (λ raw. raw.items) (fixed_part held)

-- what two references point to
abbrev pub lent_both : {A B : Type 0} → Bor A × Bor B → A × B
lent_both pair = (pair.0.now, pair.1.now)

-- the bytes of the outermost level: those of the elements, or a mask's
abbrev pub bytes_in : Held → List ℕ
bytes_in (flen raw) = raw.items
bytes_in (vlen raw offsets) = raw.items
bytes_in (masked inner mask) = mask.items

-- the offsets of the outermost level
abbrev pub offsets_in : Held → List ℕ
offsets_in (flen raw) = []
offsets_in (vlen raw offsets) = offsets
offsets_in (masked inner mask) = []

-- what is under the outermost mask
abbrev pub inner_in : Held → Held
inner_in (flen raw) = flen raw
inner_in (vlen raw offsets) = vlen raw offsets
inner_in (masked inner mask) = inner
