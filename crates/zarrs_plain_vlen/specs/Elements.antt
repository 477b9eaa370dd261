-- The elements at places, step by step.
use Rattle.std.specs.Prelude.{◌≡◌, ℕ, ◌+◌, ◌-◌, List, ◌++◌, Vec, length, replicate, slice_index, Result, Ok}
use Rattle.std.specs.List.{flat_map, list_all}
use Rattle.std.proofs.Common.{Global}
use Rattle.zarrs_chunk.specs.Answer.{◌>>=◌, demand}
use Rattle.zarrs_chunk.specs.Runs.{joined_runs}
use Rattle.zarrs_chunk.specs.declared.codec_error.CodecError.{CodecError}
use Rattle.zarrs_chunk.specs.declared.codec_error.CodecError.TheVariants.{InvalidByteRange}
use Rattle.zarrs_array_bytes.specs.Elements.{cut}
use Rattle.zarrs_codec.specs.ByteRanges.{range_indices}
use Rattle.zarrs_codec.specs.ByteSpan.{ByteSpan}
use Rattle.zarrs_plain_vlen.specs.VlenRead.{element_is_there, element_numbers}

-- ---- what is known of elements by their offsets

-- as many zeros as the element at a place has bytes
abbrev pub element_zeros : List ℕ → ℕ → List ℕ
element_zeros offsets place = replicate (slice_index offsets (place + 1) - slice_index offsets place) 0

-- how many bytes the elements of the runs have
abbrev pub joined_size : List ℕ → List (ℕ × ℕ) → ℕ
joined_size offsets runs = length (flat_map (element_zeros offsets) (joined_runs runs))

-- ---- where their bytes stand

-- Ranges have the bytes with these numbers behind those that they had.
abbrev pub AddsNumbers : List ℕ → Vec ByteSpan Global → Vec ByteSpan Global → Type 0
AddsNumbers numbers old new = range_indices new.items ≡ range_indices old.items ++ numbers

-- the numbers of the bytes of the elements of the runs, of data that begin at `start`
abbrev pub run_numbers : ℕ → List ℕ → List (ℕ × ℕ) → List ℕ
run_numbers start offsets runs = element_numbers start offsets (joined_runs runs)

-- ---- what is read

-- the bytes of the elements at places, joined, where all are there
abbrev pub joined_elements : List ℕ → List ℕ → List ℕ → Result (List ℕ) CodecError
joined_elements offsets content places = do
  _ ← demand (list_all (element_is_there offsets (length content)) places) InvalidByteRange
  Ok (flat_map (cut offsets content) places)
