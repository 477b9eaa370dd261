use Rattle.std.proofs.Common.{◌≡◌, false, true, ℕ, None, Some, Ok, Result, length, rules, refl, sym, subst}
use Rattle.zarrs_data_type.specs.Element.{Chunk}
use Rattle.zarrs_data_type.specs.ElementType.{ElementType, inner_of, is_variable}
use Rattle.zarrs_array_bytes.specs.Elements.{elements}
use Rattle.zarrs_array_bytes.specs.Held.{Held, flen, raw_of}
use Rattle.zarrs_array_bytes.specs.Validity.{Holds}
use Rattle.zarrs_chunk.specs.Answer.{GivesBy}
use Rattle.zarrs_chunk.specs.declared.codec_error.CodecError.{CodecError}
use Rattle.zarrs_chain_meaning.specs.CodecMeaning.{normal_form}
use Rattle.zarrs_chain_meaning.specs.Parts.{byte_type}
use Rattle.zarrs_chain.specs.ChainView.{plain_codec, plain_vlen}
use Rattle.zarrs_chain.specs.declared.optional.optional_codec.OptionalCodec.{out-OptionalCodec}
use Rattle.zarrs_chain.specs.declared.sharding.sharding_codec.ShardingCodec.{out-ShardingCodec}
use Rattle.zarrs_chain.specs.declared.vlen.vlen_codec.VlenCodec.{out-VlenCodec}
use Rattle.zarrs_chain.proofs.KeepsAll.{leaf_keeps_all}
use Rattle.zarrs_chain.proofs.NormalForms.{all_kept_held, optional_answered, optional_untouched, packed_form, sharding_form, vlen_answered, vlen_untouched}
use Rattle.zarrs_chain.proofs.sharding.normal_form.+normal.Goals as goal

pub normal_elements-returns-in_default : goal.normal_elements-returns-in_default
normal_elements-returns-in_default g t c = record {
  answer = record { is = all_kept_held (plain_codec c.args.codec.now) c.args.data_type.now c.args.count c.args.elements (leaf_keeps_all c.args.codec.now c.in_default.not-PackBits c.in_default.not-Vlen c.in_default.not-Optional c.in_default.not-Sharding) c.requires.valid; no_fault = refl };
}

pub normal_elements-returns-in-PackBits : goal.normal_elements-returns-in-PackBits
normal_elements-returns-in-PackBits g t c = record {
  answer = subst (λ (chunk : Chunk). GivesBy (Holds c.args.data_type.now) c.packed_normal.result (Ok chunk)) (sym (packed_form c.args.codec.now c.in-PackBits.codec c.args.data_type.now (elements c.args.data_type.now c.args.count c.args.elements) c.in-PackBits.is)) c.packed_normal.ensures.answer;
}

pub normal_elements-returns-in-Sharding : goal.normal_elements-returns-in-Sharding
normal_elements-returns-in-Sharding g t c =
    let chunk = elements c.args.data_type.now c.args.count c.args.elements in
    let answer : GivesBy (Holds c.args.data_type.now) c.normal_elements.result (Ok (normal_form (plain_codec (out-ShardingCodec _ c.in-Sharding.codec).codecs.value.array_to_bytes) c.args.data_type.now chunk)) = search rules in
    record { answer = subst (λ (chunk : Chunk). GivesBy (Holds c.args.data_type.now) c.normal_elements.result (Ok chunk)) (sym (sharding_form c.args.codec.now c.in-Sharding.codec c.args.data_type.now chunk c.in-Sharding.is)) answer }

pub optional_normal-returns-in_default : goal.optional_normal-returns-in_default
optional_normal-returns-in_default g t c =
    let other : inner_of c.args.data_type.now ≡ None = search rules in
    record { answer = record { is = optional_untouched c.args.codec.now c.args.data_type.now c.args.count c.args.elements other c.requires.valid; no_fault = refl } }

pub optional_normal-returns : goal.optional_normal-returns
optional_normal-returns g t c =
    let inner : inner_of c.args.data_type.now ≡ Some c.in-Some.inner.now = search rules in
    let kept : Holds c.in-Some.inner.now c.in_ok-kept.kept (normal_form (plain_codec (out-OptionalCodec _ c.args.codec.now).data_codecs.value.array_to_bytes) c.in-Some.inner.now (elements c.in-Some.inner.now c.args.count c.in_ok-inside.inside)) = search rules in
    record {
      answer = record {
        is = optional_answered c.args.codec.now c.args.data_type.now c.in-Some.inner.now c.args.count c.args.elements c.in_ok-inside.inside c.in_ok-kept.kept (raw_of c.in_ok-inside.mask) c.with_optional_mask.result inner c.requires.valid c.in_ok-inside.ensures.parts c.in_ok-inside.ensures.flags kept c.with_optional_mask.ensures.answer;
        no_fault = search rules;
      };
    }

pub vlen_normal-returns-then-not-is_variable : goal.vlen_normal-returns-then-not-is_variable
vlen_normal-returns-then-not-is_variable g t c =
    let other : is_variable c.args.data_type.now ≡ false = search rules in
    record { answer = record { is = vlen_untouched c.args.codec.now c.args.data_type.now c.args.count c.args.elements other c.requires.valid; no_fault = refl } }

pub vlen_normal-returns : goal.vlen_normal-returns
vlen_normal-returns g t c =
    let raw = raw_of c.in_ok-bytes.bytes in
    let content = plain_codec (out-VlenCodec _ c.args.codec.now).data_codecs.value.array_to_bytes in
    let variable : is_variable c.args.data_type.now ≡ true = search rules in
    let long : c.len-items.result ≡ length raw.items = search rules in
    let found : Holds c.uint8.result c.in_ok-kept.kept (normal_form content c.uint8.result (elements c.uint8.result c.len-items.result c.new_flen-rows.result)) = search rules in
    let kept : Holds byte_type c.in_ok-kept.kept (normal_form content byte_type (elements byte_type (length raw.items) (flen raw))) =
    subst (λ (x : ElementType × (ℕ × Held)). Holds x.0 c.in_ok-kept.kept (normal_form content x.0 (elements x.0 x.1.0 x.1.1))) (λ i. (c.uint8.ensures.made i, (long i, c.new_flen-rows.ensures.made i))) found in
    let made = vlen_answered c.args.codec.now c.args.data_type.now c.args.count c.args.elements c.in_ok-kept.kept raw (raw_of c.in_ok-into_fixed.field-0) c.in_ok-bytes.offsets c.new_vlen.result variable c.requires.valid c.in_ok-bytes.ensures.answer c.in_ok-bytes.ensures.ending kept c.in_ok-into_fixed.ensures.answer c.new_vlen.ensures.answer in
    record { answer = subst (λ (r : Result Held CodecError). GivesBy (Holds c.args.data_type.now) r (Ok (normal_form (plain_vlen c.args.codec.now) c.args.data_type.now (elements c.args.data_type.now c.args.count c.args.elements)))) (sym made.1) (record { is = made.2; no_fault = refl }) }
