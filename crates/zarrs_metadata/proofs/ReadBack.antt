-- What is written of metadata and of configurations is read as it.
use Rattle.std.proofs.Common.{◌≡◌, ℕ, Bool, true, false, List, [], ◌∷◌, map, Option, Some, None, Ok, refl}
use Rattle.std.proofs.lemmas.Bool.{and_parts, not-true}
use Rattle.std.specs.Prelude.{nat_le}
use Rattle.serde_json.specs.Data.{number, unsigned, Members}
use Rattle.serde_json.specs.View.{items_of}
use Rattle.serde_json.specs.Written.{has_float, items_have_float}
use Rattle.zarrs_chunk.specs.ChunkShape.{shape_of}
use Rattle.zarrs_data_type.specs.declared.endianness.Endianness.{Endianness}
use Rattle.zarrs_data_type.specs.declared.endianness.Endianness.TheVariants.{Little, Big}
use Rattle.zarrs_metadata.specs.BytesConfiguration.{read_bytes, write_bytes}
use Rattle.zarrs_metadata.specs.Dims.{Dim, size, auto, input_dims, autos, has_no_zero, is_reshape}
use Rattle.zarrs_metadata.specs.Metadata.{Metadata, metadata_of, read_metadata, write_metadata, has_no_float}
use Rattle.zarrs_metadata.specs.MetadataList.{metadata_among, have_no_float}
use Rattle.zarrs_metadata.specs.OptionalConfiguration.{OptionalChains, read_optional, write_optional}
use Rattle.zarrs_metadata.specs.Orders.{is_order}
use Rattle.zarrs_metadata.specs.PackBitsConfiguration.{padding_named, padding_name, padding_or_none, are_bits_in_order, read_packbits, write_packbits, with_padding_said}
use Rattle.zarrs_metadata.specs.ReshapeConfiguration.{dim_in, dims_in, dim_tree, read_reshape, write_reshape}
use Rattle.zarrs_metadata.specs.ShardingConfiguration.{ShardingParts, shard_index_named, shard_index_name, read_sharding, write_sharding}
use Rattle.zarrs_metadata.specs.SqueezeConfiguration.{read_squeeze, write_squeeze}
use Rattle.zarrs_metadata.specs.TransposeConfiguration.{read_transpose, write_transpose}
use Rattle.zarrs_metadata.specs.Trees.{numbers_in}
use Rattle.zarrs_metadata.specs.VlenConfiguration.{VlenParts, index_data_type_named, index_data_type_name, index_location_named, index_location_name, read_vlen, write_vlen}
use Rattle.zarrs_metadata.specs.declared.codec.packbits.PackBitsPaddingEncoding.{PackBitsPaddingEncoding}
use Rattle.zarrs_metadata.specs.declared.codec.packbits.PackBitsPaddingEncoding.TheVariants.{FirstByte, LastByte}
use Rattle.zarrs_metadata.specs.declared.codec.sharding.ShardingIndexLocation.{ShardingIndexLocation}
use Rattle.zarrs_metadata.specs.declared.codec.vlen.VlenIndexDataType.{VlenIndexDataType}
use Rattle.zarrs_metadata.specs.declared.codec.vlen.VlenIndexDataType.TheVariants.{UInt32, UInt64}
use Rattle.zarrs_metadata.specs.declared.codec.vlen.VlenIndexLocation.{VlenIndexLocation}
use Rattle.zarrs_metadata.specs.declared.codec.vlen.VlenIndexLocation.TheVariants.{Start, End}
use Rattle.zarrs_metadata.specs.declared.configuration.packbits.PackBitsCodecConfigurationV1.{PackBitsCodecConfigurationV1}

-- ---- numbers and sizes

numbers-read : (ns : List ℕ) → numbers_in (items_of (map (λ n. number (unsigned n)) ns)) ≡ Ok ns
numbers-read [] = refl
numbers-read (n ∷ ns) = rw (numbers-read ns) refl

no_float-numbers : (ns : List ℕ) → items_have_float (items_of (map (λ n. number (unsigned n)) ns)) ≡ false
no_float-numbers [] = refl
no_float-numbers (n ∷ ns) = no_float-numbers ns

dim-reads : (dim : Dim) → dim_in (dim_tree dim) ≡ Ok dim
dim-reads (size n) = refl
dim-reads auto = refl
dim-reads (input_dims axes) = rw (numbers-read axes) refl

dims-read : (dims : List Dim) → dims_in (items_of (map dim_tree dims)) ≡ Ok dims
dims-read [] = refl
dims-read (dim ∷ dims) = rw (dim-reads dim, dims-read dims) refl

no_float-dim : (dim : Dim) → has_float (dim_tree dim) ≡ false
no_float-dim (size n) = refl
no_float-dim auto = refl
no_float-dim (input_dims axes) = no_float-numbers axes

no_float-dims : (dims : List Dim) → items_have_float (items_of (map dim_tree dims)) ≡ false
no_float-dims [] = refl
no_float-dims (dim ∷ dims) = rw (no_float-dim dim) (no_float-dims dims)

pub transpose-reads_back : (order : List ℕ) → is_order order ≡ true → read_transpose (write_transpose order) ≡ Ok order
transpose-reads_back order h = rw (no_float-numbers order, numbers-read order, h) refl

pub reshape-reads_back : (dims : List Dim) → is_reshape dims ≡ true → read_reshape (write_reshape dims) ≡ Ok dims
reshape-reads_back dims h =
    let parts = and_parts (nat_le (autos dims) 1) (has_no_zero dims) h in
    rw (no_float-dims dims, dims-read dims, parts.1, parts.0) refl

-- ---- names

pub squeeze-reads_back : read_squeeze write_squeeze ≡ Ok tt
squeeze-reads_back = refl

pub bytes-reads_back : (endian : Option Endianness) → read_bytes (write_bytes endian) ≡ Ok endian
bytes-reads_back None = refl
bytes-reads_back (Some Little) = refl
bytes-reads_back (Some Big) = refl

padding-reads : (padding : PackBitsPaddingEncoding) → padding_named (padding_name padding) ≡ Some padding
padding-reads PackBitsPaddingEncoding.None = refl
padding-reads FirstByte = refl
padding-reads LastByte = refl

pub packbits-reads_back : (c : PackBitsCodecConfigurationV1) → are_bits_in_order c.first_bit c.last_bit ≡ true → read_packbits (write_packbits c) ≡ Ok (with_padding_said c)
packbits-reads_back c h = by c.padding_encoding c.first_bit c.last_bit h
  where
    by : (padding : Option PackBitsPaddingEncoding) (first last : Option ℕ) → are_bits_in_order first last ≡ true
        → read_packbits (write_packbits (record { padding_encoding = padding; first_bit = first; last_bit = last }))
        ≡ Ok (with_padding_said (record { padding_encoding = padding; first_bit = first; last_bit = last }))
    by padding None None h = rw (padding-reads (padding_or_none padding)) refl
    by padding None (Some last) h = rw (padding-reads (padding_or_none padding)) refl
    by padding (Some first) None h = rw (padding-reads (padding_or_none padding)) refl
    by padding (Some first) (Some last) h = rw (padding-reads (padding_or_none padding), h) refl

-- ---- metadata

metadata-reads : (m : Metadata) → metadata_of (write_metadata m) ≡ Ok m
metadata-reads m = by m.name m.configuration m.must_understand
  where
    by : (name : List ℕ) (configuration : Option Members) (must_understand : Bool)
        → metadata_of (write_metadata (record { name = name; configuration = configuration; must_understand = must_understand }))
        ≡ Ok (record { name = name; configuration = configuration; must_understand = must_understand })
    by name None true = refl
    by name None false = refl
    by name (Some configuration) true = refl
    by name (Some configuration) false = refl

no_float-metadata : (m : Metadata) → has_no_float m.configuration ≡ true → has_float (write_metadata m) ≡ false
no_float-metadata m = by m.name m.configuration m.must_understand
  where
    by : (name : List ℕ) (configuration : Option Members) (must_understand : Bool) → has_no_float configuration ≡ true
        → has_float (write_metadata (record { name = name; configuration = configuration; must_understand = must_understand })) ≡ false
    by name None true h = refl
    by name None false h = refl
    by name (Some configuration) true h = rw (not-true _ h) refl
    by name (Some configuration) false h = rw (not-true _ h) refl

pub metadata-reads_back : (m : Metadata) → has_no_float m.configuration ≡ true → read_metadata (write_metadata m) ≡ Ok m
metadata-reads_back m h = rw (no_float-metadata m h) (metadata-reads m)

metadata_among-reads : (list : List Metadata) → metadata_among (items_of (map write_metadata list)) ≡ Ok list
metadata_among-reads [] = refl
metadata_among-reads (m ∷ ms) = rw (metadata-reads m, metadata_among-reads ms) refl

no_float-list : (list : List Metadata) → have_no_float list ≡ true → items_have_float (items_of (map write_metadata list)) ≡ false
no_float-list [] h = refl
no_float-list (m ∷ ms) h =
    let parts = and_parts (has_no_float m.configuration) (have_no_float ms) h in rw (no_float-metadata m parts.0) (no_float-list ms parts.1)

-- ---- lists of metadata

pub optional-reads_back : (c : OptionalChains) → have_no_float c.mask_codecs ≡ true → have_no_float c.data_codecs ≡ true → read_optional (write_optional c) ≡ Ok c
optional-reads_back c masks elements =
    rw (no_float-list c.data_codecs elements, no_float-list c.mask_codecs masks, metadata_among-reads c.data_codecs, metadata_among-reads c.mask_codecs) refl

index_data_type-reads : (type : VlenIndexDataType) → index_data_type_named (index_data_type_name type) ≡ Some type
index_data_type-reads UInt32 = refl
index_data_type-reads UInt64 = refl

index_location-reads : (location : VlenIndexLocation) → index_location_named (index_location_name location) ≡ Some location
index_location-reads Start = refl
index_location-reads End = refl

pub vlen-reads_back : (c : VlenParts) → have_no_float c.index_codecs ≡ true → have_no_float c.data_codecs ≡ true → read_vlen (write_vlen c) ≡ Ok c
vlen-reads_back c = by c.index_codecs c.data_codecs c.index_data_type c.index_location
  where
    by : (index elements : List Metadata) (type : VlenIndexDataType) (location : Option VlenIndexLocation)
        → have_no_float index ≡ true → have_no_float elements ≡ true
        → read_vlen (write_vlen (record { index_codecs = index; data_codecs = elements; index_data_type = type; index_location = location }))
        ≡ Ok (record { index_codecs = index; data_codecs = elements; index_data_type = type; index_location = location })
    by index elements type None h k =
        rw (no_float-list elements k, no_float-list index h, metadata_among-reads elements, metadata_among-reads index, index_data_type-reads type) refl
    by index elements type (Some location) h k =
        rw (no_float-list elements k, no_float-list index h, metadata_among-reads elements, metadata_among-reads index, index_data_type-reads type, index_location-reads location) refl

shard_index-reads : (location : ShardingIndexLocation) → shard_index_named (shard_index_name location) ≡ Some location
shard_index-reads ShardingIndexLocation.Start = refl
shard_index-reads ShardingIndexLocation.End = refl

pub sharding-reads_back : (c : ShardingParts) → shape_of c.chunk_shape ≡ Some c.chunk_shape → have_no_float c.codecs ≡ true → have_no_float c.index_codecs ≡ true → read_sharding (write_sharding c) ≡ Ok c
sharding-reads_back c = by c.chunk_shape c.codecs c.index_codecs c.index_location
  where
    by : (shape : List ℕ) (codecs index : List Metadata) (location : ShardingIndexLocation)
        → shape_of shape ≡ Some shape → have_no_float codecs ≡ true → have_no_float index ≡ true
        → read_sharding (write_sharding (record { chunk_shape = shape; codecs = codecs; index_codecs = index; index_location = location }))
        ≡ Ok (record { chunk_shape = shape; codecs = codecs; index_codecs = index; index_location = location })
    by shape codecs index location p h k =
        rw (no_float-numbers shape, no_float-list codecs h, no_float-list index k, numbers-read shape, metadata_among-reads codecs, metadata_among-reads index, shard_index-reads location, p) refl
