-- What is written of a codec makes an equal one.
use Rattle.std.proofs.Common.{◌≡◌, ℕ, true, List, Option, Ok, refl}
use Rattle.zarrs_data_type.specs.declared.endianness.Endianness.{Endianness}
use Rattle.zarrs_metadata.proofs.ReadBack.{transpose-reads_back, reshape-reads_back, bytes-reads_back, packbits-reads_back}
use Rattle.zarrs_metadata.specs.BytesConfiguration.{write_bytes}
use Rattle.zarrs_metadata.specs.CodecMetadata.{codec_metadata, transpose_name, transpose_made, reshape_name, reshape_made, squeeze_name, squeeze_made, bytes_name, bytes_made, packbits_name, packbits_made}
use Rattle.zarrs_metadata.specs.Dims.{Dim, is_reshape}
use Rattle.zarrs_metadata.specs.Orders.{is_order}
use Rattle.zarrs_metadata.specs.PackBitsConfiguration.{write_packbits, are_bits_in_order, with_padding_said}
use Rattle.zarrs_metadata.specs.ReshapeConfiguration.{write_reshape}
use Rattle.zarrs_metadata.specs.SqueezeConfiguration.{write_squeeze}
use Rattle.zarrs_metadata.specs.TransposeConfiguration.{write_transpose}
use Rattle.zarrs_metadata.specs.declared.configuration.packbits.PackBitsCodecConfigurationV1.{PackBitsCodecConfigurationV1}

pub transpose-made_again : (order : List ℕ) → is_order order ≡ true → transpose_made (codec_metadata transpose_name (write_transpose order)) ≡ Ok order
transpose-made_again order h = transpose-reads_back order h

pub reshape-made_again : (dims : List Dim) → is_reshape dims ≡ true → reshape_made (codec_metadata reshape_name (write_reshape dims)) ≡ Ok dims
reshape-made_again dims h = reshape-reads_back dims h

pub squeeze-made_again : squeeze_made (codec_metadata squeeze_name write_squeeze) ≡ Ok tt
squeeze-made_again = refl

pub bytes-made_again : (endian : Option Endianness) → bytes_made (codec_metadata bytes_name (write_bytes endian)) ≡ Ok endian
bytes-made_again endian = bytes-reads_back endian

pub packbits-made_again : (fields : PackBitsCodecConfigurationV1) → are_bits_in_order fields.first_bit fields.last_bit ≡ true → packbits_made (codec_metadata packbits_name (write_packbits fields)) ≡ Ok (with_padding_said fields)
packbits-made_again fields h = packbits-reads_back fields h
