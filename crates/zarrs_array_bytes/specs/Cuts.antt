-- The bytes of a run of elements of any length.
use Rattle.std.specs.Prelude.{ℕ, ◌+◌, ◌-◌, List, slice_index}
use Rattle.std.specs.List.{flat_map, range_with_len}
use Rattle.zarrs_array_bytes.specs.Elements.{cut}

-- those of so many elements, from the first one on, one after another
abbrev pub run_bytes : List ℕ → List ℕ → ℕ → ℕ → List ℕ
run_bytes offsets items first count = flat_map (cut offsets items) (range_with_len first count)

-- how many bytes these are
abbrev pub run_size : List ℕ → ℕ → ℕ → ℕ
run_size offsets first count = slice_index offsets (first + count) - slice_index offsets first
