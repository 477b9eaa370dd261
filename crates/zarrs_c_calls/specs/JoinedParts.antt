-- Several containers as they cross to C: the parts of each behind those of the one before.
use Rattle.std.specs.Prelude.{◌≡◌, ℕ, ◌^◌, ◌-◌, min, if◌then◌else◌, List, [], ◌∷◌, ◌++◌, length}
use Rattle.zarrs_array_bytes.specs.Held.{Held}
use Rattle.zarrs_c_calls.specs.Buffers.{Buffers, buffers, crossed, have_room, with_fronts}
use Rattle.zarrs_c_calls.specs.declared.sizes.Sizes.{Sizes}

-- the parts of each container, one behind another: so each has its own masks, offsets and bytes
abbrev pub joined_parts : List Held → Buffers
joined_parts [] = buffers [] [] []
joined_parts (held ∷ more) =
    buffers ((crossed held).masks ++ (joined_parts more).masks) ((crossed held).offsets ++ (joined_parts more).offsets) ((crossed held).bytes ++ (joined_parts more).bytes)

-- how many there are of each part; 2^64 - 1 where they are more
abbrev pub joined_sizes : Buffers → Sizes
joined_sizes b = record { masks = min (length b.masks) (2 ^ 64 - 1); offsets = min (length b.offsets) (2 ^ 64 - 1); bytes = min (length b.bytes) (2 ^ 64 - 1) }

-- The call returns containers: their parts are at the front of the buffers, joined, and the code is 0; or a buffer is too short and all stay as they were, and the code is 1. The number of items of each part is returned in either case.
pub record ToldJoined (parts : Buffers) (code : ℕ) (old new : Buffers) (needed : Sizes) : Type 0 where
  pub code_is : code ≡ (if have_room old parts then 0 else 1)
  pub buffers_are : new ≡ (if have_room old parts then with_fronts old parts else old)
  pub needed_is : needed ≡ joined_sizes parts
