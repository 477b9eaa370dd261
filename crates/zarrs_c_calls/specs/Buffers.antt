-- Elements as they cross to C: in three buffers.
use Rattle.std.specs.Prelude.{ℕ, ◌&&◌, nat_le, Bool, List, [], ◌++◌, length}
use Rattle.zarrs_array_bytes.specs.Held.{Held, flen, vlen, masked}
use Rattle.zarrs_array_bytes.specs.Update.{with_items_at}
use Rattle.zarrs_c_calls.specs.declared.sizes.Sizes.{Sizes}

-- Masks, the outermost first, with a byte for each element, 1 for present and 0 for absent; offsets, where each element of any length begins and the last one ends; and the elements' bytes.
pub record Buffers : Type 0 where
  pub masks : List ℕ
  pub offsets : List ℕ
  pub bytes : List ℕ

-- these masks, offsets and bytes, as elements cross to C
abbrev pub buffers : List ℕ → List ℕ → List ℕ → Buffers
buffers masks offsets bytes = record { masks = masks; offsets = offsets; bytes = bytes }

-- what a caller has for elements: its three buffers, and the returned numbers of items, one for each part
pub record Room : Type 0 where
  pub parts : Buffers
  pub needed : Sizes

-- what a caller has for elements, of these three buffers and these numbers
abbrev pub room : List ℕ → List ℕ → List ℕ → Sizes → Room
room masks offsets bytes needed = record { parts = buffers masks offsets bytes; needed = needed }

-- with one mask more round them
abbrev pub masked_buffers : List ℕ → Buffers → Buffers
masked_buffers mask inside = buffers (mask ++ inside.masks) inside.offsets inside.bytes

-- what a container crosses as
abbrev pub crossed : Held → Buffers
crossed (flen raw) = buffers [] [] raw.items
crossed (vlen raw offsets) = buffers [] offsets raw.items
crossed (masked inner mask) = masked_buffers mask.items (crossed inner)

-- the caller's buffers have room for these
abbrev pub have_room : Buffers → Buffers → Bool
have_room old b =
    nat_le (length b.masks) (length old.masks) && nat_le (length b.offsets) (length old.offsets) && nat_le (length b.bytes) (length old.bytes)

-- the caller's buffers with these in front of what they had
abbrev pub with_fronts : Buffers → Buffers → Buffers
with_fronts old b =
    buffers (with_items_at old.masks 0 b.masks) (with_items_at old.offsets 0 b.offsets) (with_items_at old.bytes 0 b.bytes)
