-- Plain forms of codecs.
use Rattle.std.proofs.Common.{◌≡◌, Bool, Option, Some, None, List, [], ◌∷◌, refl, ap}
use Rattle.zarrs_data_type.specs.declared.endianness.Endianness.{Endianness}
use Rattle.zarrs_array_to_array.specs.ArrayToArrayCodec.{ArrayMapping}
use Rattle.zarrs_chain_meaning.specs.CodecMeaning.{PlainCodec, bytes_codec, vlen_codec}
use Rattle.zarrs_chain_meaning.specs.CodecFacts.{facts, if_alone}
use Rattle.zarrs_chain_meaning.specs.vlen.PlainVlen.{plain_codec_of, plain_form_of}
use Rattle.zarrs_chain_meaning.specs.vlen.PlainForm.{PlainForm, form_of_chains}
use Rattle.zarrs_array_to_array.proofs.AnswerSteps.{some_is}

-- the parts of a chain that is a lone codec `bytes`
record IsLone {B : Type 0} (arrays : List ArrayMapping) (codec : PlainCodec B) (outer : List B) (order : Option Endianness) : Type 0 where
  pub arrays_are : arrays ≡ []
  pub codec_is : codec ≡ bytes_codec order
  pub outer_is : outer ≡ []

lone : {B : Type 0} (arrays : List ArrayMapping) (codec : PlainCodec B) (outer : List B) (order : Option Endianness) → if_alone arrays (facts codec).order outer ≡ Some order → IsLone arrays codec outer order
lone [] (bytes_codec found) [] order e = record { arrays_are = refl; codec_is = ap bytes_codec (some_is found order e); outer_is = refl }
lone [] _ [] order e = absurd cc
lone [] codec (b ∷ bs) order e = absurd cc
lone (first ∷ rest) codec outer order e = absurd cc

record IsFormOf (index content : Option (Option Endianness)) (wide at_end : Bool) (form : PlainForm) : Type 0 where
  pub inner : Option Endianness
  pub index_is : index ≡ Some (Some form.order)
  pub content_is : content ≡ Some inner
  pub wide_is : wide ≡ form.wide
  pub at_end_is : at_end ≡ form.at_end

form_is : (index content : Option (Option Endianness)) (wide at_end : Bool) (form : PlainForm) → form_of_chains index content wide at_end ≡ Some form → IsFormOf index content wide at_end form
form_is (Some (Some order)) (Some inner) wide at_end form e =
    let f : PlainForm = record { order = order; wide = wide; at_end = at_end } in
    let is : f ≡ form = some_is f form e in
    record { inner = inner; index_is = ap (λ (g : PlainForm). Some (Some g.order)) is; content_is = refl; wide_is = ap (λ (g : PlainForm). g.wide) is; at_end_is = ap (λ (g : PlainForm). g.at_end) is }
form_is (Some (Some order)) None wide at_end form e = absurd cc
form_is (Some None) content wide at_end form e = absurd cc
form_is None content wide at_end form e = absurd cc

pub plain_is_plain : (B : Type 0) (codec : PlainCodec B) (form : PlainForm) → plain_form_of codec ≡ Some form → (content : Option Endianness) × (codec ≡ plain_codec_of form content)
plain_is_plain B (vlen_codec ia ix ib da dx db wide at_end) form e =
    let f = form_is (if_alone ia (facts ix).order ib) (if_alone da (facts dx).order db) wide at_end form e in
    let i = lone ia ix ib (Some form.order) f.index_is in
    let d = lone da dx db f.inner f.content_is in
    (f.inner, λ k. vlen_codec (i.arrays_are k) (i.codec_is k) (i.outer_is k) (d.arrays_are k) (d.codec_is k) (d.outer_is k) (f.wide_is k) (f.at_end_is k))
plain_is_plain B _ form e = absurd cc
