-- Containers that are fixed by their elements.
use Rattle.std.specs.Prelude.{◌≡◌, ℕ, ◌==◌, ◌-◌, Bool, true, ◌&&◌, nat_lt, List, length, map, drop, slice_index, Result, Ok, IfOk}
use Rattle.std.specs.List.{list_all}
use Rattle.zarrs_chunk.specs.Answer.{◌>>=◌, demand}
use Rattle.zarrs_chunk.specs.declared.codec_error.CodecError.{CodecError}
use Rattle.zarrs_chunk.specs.declared.codec_error.CodecError.TheVariants.{InvalidOffsets}
use Rattle.zarrs_data_type.specs.ElementType.{ElementType}
use Rattle.zarrs_array_bytes.specs.Held.{Raw, Held, flen, vlen, masked}
use Rattle.zarrs_array_bytes.specs.Offsets.{is_offsets, last_of}
use Rattle.zarrs_array_bytes.specs.Blank.{AbsentAreBlank}

-- offsets begin at 0, never fall and end at the end of the bytes
abbrev pub are_flush : List ℕ → List ℕ → Bool
are_flush offsets items = is_offsets offsets && ((slice_index offsets 0 == 0) && (last_of offsets == length items))

-- at every depth, offsets begin at 0 and end at the end of the bytes, and each mask byte is 0 or 1
abbrev pub is_flush : Held → Bool
is_flush (flen raw) = true
is_flush (vlen raw offsets) = are_flush offsets raw.items
is_flush (masked inner mask) = list_all (λ byte. nat_lt byte 2) mask.items && is_flush inner

-- a container is fixed by its elements: its offsets are flush, its mask bytes 0 or 1, and blank elements are under absent ones
pub record IsTight (type : ElementType) (held : Held) : Type 0 where
  pub flush : is_flush held ≡ true
  pub blank : AbsentAreBlank type held

-- a container is flush: at every depth its offsets begin at 0 and end at the bytes' end, and each mask byte is 0 or 1
abbrev pub IsFlush : Held → Type 0
IsFlush held = is_flush held ≡ true

-- the container that is returned is flush
abbrev pub GivesFlush : {E : Type 0} → Result Held E → Type 0
GivesFlush result = IfOk result IsFlush

-- where a container is tight, so is what is made of it
abbrev pub KeepsTight : {E : Type 0} → ElementType → Held → Result Held E → Type 0
KeepsTight type held result = IsTight type held → IfOk result (IsTight type)

-- where blank elements are under absent ones in a container, what is extracted of it is tight
abbrev pub ExtractsTight : {E : Type 0} → ElementType → Held → Result Held E → Type 0
ExtractsTight type held result = AbsentAreBlank type held → IfOk result (IsTight type)

-- where blank elements are under absent ones in the old elements and in the new ones, what is made of both is tight
abbrev pub UpdatesTight : {E : Type 0} → ElementType → Held → Held → Result Held E → Type 0
UpdatesTight type old new result = AbsentAreBlank type old → AbsentAreBlank type new → IfOk result (IsTight type)

-- where a container is tight, and blank elements are under absent ones in another, what is made of both is tight
abbrev pub AppendsTight : {E : Type 0} → ElementType → Held → Held → Result Held E → Type 0
AppendsTight type held more result = IsTight type held → AbsentAreBlank type more → IfOk result (IsTight type)

-- offsets counted from the first one
abbrev pub from_first : List ℕ → List ℕ
from_first offsets = map (λ offset. offset - slice_index offsets 0) offsets

-- elements of any length without the bytes before the first one
abbrev pub without_front : Raw → List ℕ → Held
without_front raw offsets = vlen (record raw { items = drop (slice_index offsets 0) raw.items }) (from_first offsets)

-- a container of bytes and offsets without the bytes before the first offset, which are counted from it; or the error, where the last element doesn't end where the bytes end
abbrev pub flush_with_offsets : Raw → List ℕ → Result Held CodecError
flush_with_offsets raw offsets = do
  _ ← demand (last_of offsets == length raw.items) InvalidOffsets
  Ok (without_front raw offsets)
