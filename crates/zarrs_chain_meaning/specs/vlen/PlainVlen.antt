-- Which codecs `vlen` are plain: their index chain is `bytes` with a byte order, and their data chain is `bytes`, both alone.
use Rattle.std.specs.Prelude.{Bool, Option, Some, is_some, []}
use Rattle.zarrs_data_type.specs.declared.endianness.Endianness.{Endianness}
use Rattle.zarrs_chain_meaning.specs.CodecFacts.{facts}
use Rattle.zarrs_chain_meaning.specs.CodecMeaning.{PlainCodec, bytes_codec, vlen_codec}
use Rattle.zarrs_chain_meaning.specs.vlen.PlainForm.{PlainForm}
use Rattle.zarrs_chain_meaning.specs.vlen.VlenSettings.{is_wide, is_at_end}
use Rattle.zarrs_chain_meaning.specs.declared.vlen.plain_vlen.PlainVlen.{PlainVlen}

-- the form of a `PlainVlen`
abbrev pub plain_form : PlainVlen → PlainForm
plain_form codec =
    record { order = codec.endianness; wide = is_wide codec.index_data_type; at_end = is_at_end codec.index_location }

-- the codec of this form, whose data chain has this byte order or none
abbrev pub plain_codec_of : {B : Type 0} → PlainForm → Option Endianness → PlainCodec B
plain_codec_of form content =
    vlen_codec [] (bytes_codec (Some form.order)) [] [] (bytes_codec content) [] form.wide form.at_end

-- the form of a codec that is a plain `vlen`; none of any other
abbrev pub plain_form_of : {B : Type 0} → PlainCodec B → Option PlainForm
plain_form_of codec = (facts codec).plain

-- whether a codec is a plain `vlen`
abbrev pub is_plain : {B : Type 0} → PlainCodec B → Bool
is_plain codec = is_some (plain_form_of codec)
