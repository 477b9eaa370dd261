-- Which types are accepted, as they are compared.
use Rattle.std.proofs.Common.{◌≡◌, refl}
use Rattle.zarrs_data_type.specs.ElementType.{ElementType, fixed, text, bytes, optional}
use Rattle.zarrs_data_type.specs.SameType.{is_same_type}
use Rattle.zarrs_vlen_v2.specs.VlenV2Codec.{accepts}
use Rattle.zarrs_vlen_v2.specs.declared.vlen_v2_codec.VlenV2Codec.TheVariants.{Utf8, Bytes}

pub text_is_same : (type : ElementType) → is_same_type type text ≡ accepts Utf8 type
text_is_same (fixed width components sign) = refl
text_is_same text = refl
text_is_same bytes = refl
text_is_same (optional type) = refl

pub bytes_is_same : (type : ElementType) → is_same_type type bytes ≡ accepts Bytes type
bytes_is_same (fixed width components sign) = refl
bytes_is_same text = refl
bytes_is_same bytes = refl
bytes_is_same (optional type) = refl
