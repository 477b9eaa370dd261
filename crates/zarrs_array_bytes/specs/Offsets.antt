-- Where elements of any length begin and end in their bytes.
-- Source: zarrs, `ArrayBytesOffsets`.
use Rattle.std.specs.Prelude.{ℕ, ◌-◌, Bool, true, false, List, [], ◌∷◌, length, slice_index, nat_le, ◌&&◌, Result, Ok}
use Rattle.zarrs_chunk.specs.Answer.{◌>>=◌, demand}
use Rattle.zarrs_chunk.specs.declared.codec_error.CodecError.{CodecError}
use Rattle.zarrs_chunk.specs.declared.codec_error.CodecError.TheVariants.{InvalidOffsets}

-- no number is less than the one before
abbrev pub rises : List ℕ → Bool
rises [] = true
rises (a ∷ []) = true
rises (a ∷ b ∷ rest) = nat_le a b && rises (b ∷ rest)

-- at least one number, and none less than the one before
abbrev pub is_offsets : List ℕ → Bool
is_offsets [] = false
is_offsets (a ∷ rest) = rises (a ∷ rest)

-- the last of a list of numbers
abbrev pub last_of : List ℕ → ℕ
last_of offsets = slice_index offsets (length offsets - 1)

-- the offsets, or the error where they are none
abbrev pub offsets_of : List ℕ → Result (List ℕ) CodecError
offsets_of numbers = do
  _ ← demand (is_offsets numbers) InvalidOffsets
  Ok numbers
