-- The names of codecs with chains inside in metadata.
-- Source: the Zarr v3 core specification, `codecs`; zarr-extensions; codec.zarrs.dev.
use Rattle.std.specs.Prelude.{ℕ, Bool, ◌||◌, List, codes}
use Rattle.std.specs.Str.{bytes_eq}

-- the name by which `vlen` is written
abbrev pub vlen_name : List ℕ
vlen_name = codes "zarrs.vlen"

-- the name is one of the two of `vlen`
abbrev pub is_vlen_name : List ℕ → Bool
is_vlen_name name = bytes_eq name vlen_name || bytes_eq name (codes "https://codec.zarrs.dev/array_to_bytes/vlen")

-- the name by which `optional` is written
abbrev pub optional_name : List ℕ
optional_name = codes "zarrs.optional"

-- the name is one of the three of `optional`
abbrev pub is_optional_name : List ℕ → Bool
is_optional_name name =
    bytes_eq name optional_name || bytes_eq name (codes "optional") || bytes_eq name (codes "https://codec.zarrs.dev/array_to_bytes/optional")

-- the name of `sharding_indexed`
abbrev pub sharding_name : List ℕ
sharding_name = codes "sharding_indexed"

-- the name is that of `sharding_indexed`
abbrev pub is_sharding_name : List ℕ → Bool
is_sharding_name name = bytes_eq name sharding_name
