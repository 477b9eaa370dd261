-- What an array-to-bytes codec does in part, as one record and by one recursion.
use Rattle.std.specs.Prelude.{Bool, true, false, List, [], Option, Some, None, is_some, IsOk}
use Rattle.zarrs_data_type.specs.Form.{Form}
use Rattle.zarrs_data_type.specs.declared.endianness.Endianness.{Endianness}
use Rattle.zarrs_array_to_array.specs.ArrayToArrayCodec.{ArrayMapping}
use Rattle.zarrs_packbits.specs.PackBitsSettings.{packed_layout}
use Rattle.zarrs_chain_meaning.specs.CodecMeaning.{PlainCodec, bytes_codec, packbits_codec, vlen_codec, sharding_codec}
use Rattle.zarrs_chain_meaning.specs.vlen.PlainForm.{PlainForm, form_of_chains}

-- Whether a codec is read in part; of `bytes` its byte order, of a plain `vlen` its form. Of `packbits`: it takes chunks of a form.
pub record Facts : Type 1 where
  pub reads : Bool
  pub order : Option (Option Endianness)
  pub plain : Option PlainForm
  pub Packs : Form → Type 0

-- what is known of a codec that is alone in its chain; nothing of any other
abbrev pub if_alone : {A B : Type 0} → List ArrayMapping → Option A → List B → Option A
if_alone [] known [] = known
if_alone _ _ _ = None

-- those of a codec that is read and written whole
abbrev pub whole_facts : Facts
whole_facts = record { reads = false; order = None; plain = None; Packs = λ form. Unit {0} }

-- Those of an array-to-bytes codec. A `vlen` is plain by the byte orders of its chains, where each is `bytes` alone; `sharding_indexed` is read by its index, and by what its inner chain reads; any other is read whole.
abbrev pub facts : {B : Type 0} → PlainCodec B → Facts
facts (bytes_codec order) = record whole_facts { reads = true; order = Some order }
facts (packbits_codec settings) = record whole_facts { reads = true; Packs = λ form. IsOk (packed_layout settings form) }
facts (vlen_codec ia ix ib da dx db wide at_end) =
    let form = form_of_chains (if_alone ia (facts ix).order ib) (if_alone da (facts dx).order db) wide at_end in
    record whole_facts { reads = is_some form; plain = form }
facts (sharding_codec sa sx sb ia ix ib shape at_end) = record whole_facts { reads = true }
facts codec = whole_facts
