-- What the parts of a container are seen as.
use Rattle.std.specs.Prelude.{◌≡◌, length, nat_lt, true, ⊤}
use Rattle.std.specs.List.{list_all}
use Rattle.zarrs_array_bytes.specs.Held.{Held, flen, vlen, masked, raw_of}
use Rattle.zarrs_array_bytes.specs.Offsets.{last_of}
use Rattle.zarrs_array_bytes.specs.declared.array_bytes.Parts.{Parts}
use Rattle.zarrs_array_bytes.specs.declared.array_bytes.Parts.TheVariants.{Fixed, Variable, Optional}

-- the container that the parts are
abbrev pub held_of : Parts → Held
held_of (Fixed bytes) = flen (raw_of bytes)
held_of (Variable bytes offsets) = vlen (raw_of bytes) offsets
held_of (Optional inner mask) = masked inner.value (raw_of mask)

-- offsets end at the bytes' end, and a mask has zeros and ones
abbrev pub PartsAreSound : Parts → Type 0
PartsAreSound (Fixed bytes) = ⊤
PartsAreSound (Variable bytes offsets) = last_of offsets ≡ length (raw_of bytes).items
PartsAreSound (Optional inner mask) = list_all (λ byte. nat_lt byte 2) (raw_of mask).items ≡ true
