-- The bits of a component that are kept.
use Rattle.std.specs.Prelude.{ℕ, ◌+◌, ◌-◌, ◌*◌, ◌^◌, Bool, true, false, List, ◌++◌, length, take, drop, replicate, get_or}
use Rattle.zarrs_packbits.specs.Bits.{bits_of, field}

-- the bits of a component, where each has `size` bytes
abbrev pub component_bits : ℕ → List ℕ → ℕ → List ℕ
component_bits size bytes part = bits_of (take size (drop (part * size) bytes))

-- what stands above the kept bits: the last of them where the type has a sign, else zero
abbrev pub top_of : Bool → List ℕ → ℕ
top_of true kept = get_or kept (length kept - 1) 0
top_of false kept = 0

-- a component of its kept bits: zeros below them, and above them zeros, or copies of the last one where the type has a sign
abbrev pub full_component : ℕ → ℕ → Bool → List ℕ → List ℕ
full_component first above sign kept = replicate first 0 ++ (kept ++ replicate above (top_of sign kept))

-- a component of which the bits from `first` on are kept, so many; all others are made anew
abbrev pub kept_component : ℕ → ℕ → Bool → List ℕ → List ℕ
kept_component first count sign component =
    full_component first (length component - (first + count)) sign (field first count component)

-- what the last of so many bits counts where the type has a sign, else nothing
abbrev pub sign_weight : Bool → ℕ → ℕ
sign_weight true count = 2 ^ (count - 1)
sign_weight false count = 0
