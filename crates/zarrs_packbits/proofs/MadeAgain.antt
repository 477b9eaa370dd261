-- What is written of a codec makes an equal one.
use Rattle.std.proofs.Common.{◌≡◌, ℕ, true, false, Option, Some, None, Ok, refl, sym, arith}
use Rattle.std.specs.Prelude.{nat_le, nat_lt}
use Rattle.std.proofs.lemmas.Bool.Decides.{nat_tests}
use Rattle.zarrs_metadata.specs.CodecMetadata.{codec_metadata, packbits_name}
use Rattle.zarrs_metadata.specs.Data.{Members}
use Rattle.zarrs_metadata.specs.PackBitsConfiguration.{are_bits_in_order}
use Rattle.zarrs_metadata.specs.declared.codec.packbits.PackBitsPaddingEncoding.{PackBitsPaddingEncoding}
use Rattle.zarrs_metadata.proofs.ReadBack.{packbits-reads_back}
use Rattle.zarrs_packbits.specs.PackBitsSettings.{PackBitsSettings, is_reversed}
use Rattle.zarrs_packbits.specs.SettingsMetadata.{settings_made, write_settings}

not_below : (first last : ℕ) → nat_lt last first ≡ false → nat_le first last ≡ true
not_below first last h = grind (arith, nat_tests)

are_in_order : (first last : Option ℕ) → is_reversed first last ≡ false → are_bits_in_order first last ≡ true
are_in_order None last h = refl
are_in_order (Some first) None h = refl
are_in_order (Some first) (Some last) h = not_below first last h

pub made_again : (settings : PackBitsSettings) → is_reversed settings.first_bit settings.last_bit ≡ false → settings_made (codec_metadata packbits_name (write_settings settings)) ≡ Ok settings
made_again settings h = by settings.padding settings.first_bit settings.last_bit h
  where
    by : (padding : PackBitsPaddingEncoding) (first last : Option ℕ) → is_reversed first last ≡ false
        → settings_made (codec_metadata packbits_name (write_settings (record { padding = padding; first_bit = first; last_bit = last })))
        ≡ Ok (record { padding = padding; first_bit = first; last_bit = last })
    by padding first last h =
        rw (packbits-reads_back (record { padding_encoding = Some padding; first_bit = first; last_bit = last }) (are_in_order first last h), h) refl

pub settings_made_again : (settings : PackBitsSettings) (members : Members) → is_reversed settings.first_bit settings.last_bit ≡ false → write_settings settings ≡ members → settings_made (codec_metadata packbits_name members) ≡ Ok settings
settings_made_again settings members h e = rw (sym e) (made_again settings h)
