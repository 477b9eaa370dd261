-- A container in which each element is the fill value.
-- Source: zarrs, `new_fill_value`.
use Rattle.std.specs.Prelude.{ℕ, ◌+◌, ◌*◌, List, [], replicate, if◌then◌else◌}
use Rattle.std.specs.List.{flat_map}
use Rattle.zarrs_data_type.specs.ElementType.{ElementType, fixed, text, bytes, optional, element_size}
use Rattle.zarrs_data_type.specs.FillValue.{is_null, front_of}
use Rattle.zarrs_array_bytes.specs.Held.{Held, flen, vlen, masked, owned_bytes}
use Rattle.zarrs_array_bytes.specs.Pieces.{bytes_with_offsets, variable_of}

-- these bytes `count` times, one after another
abbrev pub copies : List ℕ → ℕ → List ℕ
copies items count = flat_map (λ part. part) (replicate count items)

-- the same bytes, and the offsets of these `count` elements
abbrev pub copies_with_offsets : List ℕ → ℕ → List ℕ × List ℕ
copies_with_offsets items count = bytes_with_offsets (λ part. part) (replicate count items)

-- what is under `count` absent elements: zeros, empty bytes, inner masks of zero
abbrev pub blank_elements : ElementType → ℕ → Held
blank_elements (fixed width components sign) count =
    flen (owned_bytes (replicate (count * element_size width components) 0))
blank_elements text count = vlen (owned_bytes []) (replicate (count + 1) 0)
blank_elements bytes count = vlen (owned_bytes []) (replicate (count + 1) 0)
blank_elements (optional type) count = masked (blank_elements type count) (owned_bytes (replicate count 0))

-- a container of `count` elements, each of them the fill value; where that is absent, they are over blank ones
abbrev pub container_fill : ElementType → ℕ → List ℕ → Held
container_fill (fixed width components sign) count fill = flen (owned_bytes (copies fill count))
container_fill text count fill = variable_of (copies_with_offsets fill count)
container_fill bytes count fill = variable_of (copies_with_offsets fill count)
container_fill (optional type) count fill =
    if is_null fill then masked (blank_elements type count) (owned_bytes (replicate count 0))
    else masked (container_fill type count (front_of fill)) (owned_bytes (replicate count 1))
