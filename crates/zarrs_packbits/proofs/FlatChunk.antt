-- Chunks as the bytes of their elements, joined.
use Rattle.std.proofs.Common.{◌≡◌, ℕ, ◌*◌, ◌<◌, ◌==◌, true, List, length, drop, get_or, Result, Ok, Err, if◌then◌else◌}
use Rattle.std.specs.List.{flat_map, range_with_len}
use Rattle.zarrs_chunk.specs.declared.codec_error.CodecError.{CodecError}
use Rattle.zarrs_chunk.specs.declared.codec_error.CodecError.TheVariants.{InvalidBytesLength, PaddingByte}
use Rattle.zarrs_packbits.specs.Bits.{bits_of, field}
use Rattle.zarrs_packbits.specs.BitStream.{stream_of_bytes, components_from}
use Rattle.zarrs_packbits.specs.KeptBits.{component_bits, kept_component}
use Rattle.zarrs_packbits.specs.declared.layout.PackedLayout.{PackedLayout}
use Rattle.zarrs_packbits.specs.PackedLayout.{layout_components, bits_in}
use Rattle.zarrs_packbits.specs.PaddingByte.{lead, value_len, padding_holds}
use Rattle.zarrs_packbits.specs.Packing.{packing}

-- a chunk with the kept bits alone
abbrev pub nf : PackedLayout → List ℕ → List ℕ
nf l bytes = packing (flat_map (λ part. kept_component l.first l.count l.sign (component_bits l.size bytes part)) (range_with_len 0 (layout_components l)))

-- the chunk that a value stands for, or the first error
abbrev pub decoded : PackedLayout → List ℕ → Result (List ℕ) CodecError
decoded l v =
    if length v == value_len l
    then (if padding_holds l v then Ok (packing (components_from l 0 (layout_components l) (bits_of (drop (lead l) v)))) else Err PaddingByte)
    else Err (InvalidBytesLength (length v) (value_len l))

-- bytes of a chunk
pub record IsFlatChunk (l : PackedLayout) (c : List ℕ) : Type 0 where
  pub size : length c ≡ layout_components l * l.size
  pub bytes : (i : ℕ) → get_or c i 0 < 256

-- the value has its length and its padding byte, its first bits are the chunk's kept ones, and the chunk has no others
pub record FlatStands (l : PackedLayout) (v c : List ℕ) : Type 0 where
  pub len : length v ≡ value_len l
  pub padding : padding_holds l v ≡ true
  pub bits : field 0 (bits_in l) (bits_of (drop (lead l) v)) ≡ stream_of_bytes l c
  pub chunk : IsFlatChunk l c
  pub kept : nf l c ≡ c
