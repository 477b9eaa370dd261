-- Where a container's elements are looked up.
use Rattle.std.specs.Prelude.{ℕ, ◌+◌, ◌*◌, ◌<◌, ◌≤◌, length}
use Rattle.zarrs_data_type.specs.ElementType.{ElementType, fixed, text, bytes, optional, element_size}
use Rattle.zarrs_array_bytes.specs.Held.{Held, flen, vlen, masked}

-- the container has an element of the type at this place, at each level
abbrev pub HasElement : ElementType → Held → ℕ → Type 0
HasElement (fixed width count sign) (flen raw) place =
    place * element_size width count + element_size width count ≤ length raw.items
HasElement text (vlen raw offsets) place = place + 1 < length offsets
HasElement bytes (vlen raw offsets) place = place + 1 < length offsets
HasElement (optional type) (masked inner mask) place = (place < length mask.items) × HasElement type inner place
HasElement _ _ place = ⊥
