-- When two containers are equal: the same bytes, offsets and masks, owned or not.
use Rattle.std.specs.Prelude.{Bool, false, nat_eq, ◌&&◌}
use Rattle.std.specs.Cmp.Lexicographic.{pointwise}
use Rattle.zarrs_array_bytes.specs.Held.{Raw, Held, flen, vlen, masked}

-- the same bytes
abbrev pub is_same_raw : Raw → Raw → Bool
is_same_raw r q = pointwise nat_eq r.items q.items

-- two containers are of one kind, and have the same bytes, offsets and masks, whoever owns them
abbrev pub is_same_held : Held → Held → Bool
is_same_held (flen r) (flen q) = is_same_raw r q
is_same_held (vlen r os) (vlen q us) = is_same_raw r q && pointwise nat_eq os us
is_same_held (masked h m) (masked g k) = is_same_held h g && is_same_raw m k
is_same_held _ _ = false
