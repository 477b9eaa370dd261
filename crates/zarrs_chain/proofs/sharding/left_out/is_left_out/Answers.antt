use Rattle.std.proofs.Common.{◌≡◌, Bool, true, false, Ok, Result, rules, refl, sym, subst}
use Rattle.zarrs_array_bytes.specs.Elements.{elements}
use Rattle.zarrs_array_bytes.specs.Held.{Held}
use Rattle.zarrs_array_bytes.specs.Validity.{Holds}
use Rattle.zarrs_array_to_array.proofs.MappedChunks.{holds_elements}
use Rattle.zarrs_chunk.specs.Answer.{GivesValue}
use Rattle.zarrs_chunk.specs.declared.codec_error.CodecError.{CodecError}
use Rattle.zarrs_chain_meaning.specs.CodecMeaning.{codec_normal_element, normal_form}
use Rattle.zarrs_chain_meaning.specs.sharding.Sharding.{is_left_out}
use Rattle.zarrs_chain_meaning.proofs.ArraySteps.{ok_is, ok_no_err}
use Rattle.zarrs_chain.specs.ChainView.{plain_codec}
use Rattle.zarrs_chain.specs.sharding.ShardingCalls.{KeepsAll}
use Rattle.zarrs_chain.proofs.LeftOut.{left_out_filled, left_out_not, left_out_told}
use Rattle.zarrs_chain.proofs.sharding.left_out.is_left_out.Goals as goal

pub returns-in_err-are_fill : goal.returns-in_err-are_fill
returns-in_err-are_fill g c =
    let type = c.args.data_type.now in
    absurd (ok_no_err _ c.in_err-are_fill.field-0.0 (sym (c.in_err-are_fill.ensures.answer (elements type c.args.count c.args.elements.now) (holds_elements type c.args.count c.args.elements.now c.requires.valid))))

pub returns-then-branch : goal.returns-then-branch
returns-then-branch g c =
    let told = rw c.as_ne_bytes-item.ensures.value at c.in_ok-are_fill.ensures.answer in
    let is : c.in_ok-are_fill.field-0 ≡ true = search rules in
    record {
      answer = record {
        is = left_out_filled (plain_codec c.args.codec.now) c.args.data_type.now c.args.fill.now c.args.count c.args.elements.now c.requires.valid c.requires.normal (rw is at told);
        no_fault = refl;
      };
    }

pub returns-then-keeps_all : goal.returns-then-keeps_all
returns-then-keeps_all g c =
    let told = rw c.as_ne_bytes-item.ensures.value at c.in_ok-are_fill.ensures.answer in
    let is : c.in_ok-are_fill.field-0 ≡ false = search rules in
    let same : KeepsAll (plain_codec c.args.codec.now) = search rules in
    record {
      answer = record {
        is = left_out_not (plain_codec c.args.codec.now) c.args.data_type.now c.args.fill.now c.args.count c.args.elements.now c.requires.valid same (rw is at told);
        no_fault = refl;
      };
    }

pub returns : goal.returns
returns g c =
    let type = c.args.data_type.now in
    let fill = c.args.fill.now in
    let codec = plain_codec c.args.codec.now in
    let held = c.args.elements.now in
    let copied : held ≡ c.in_ok-copy.copy = ok_is held c.in_ok-copy.copy c.in_ok-copy.ensures.copy in
    let kept : Holds type c.in_ok-kept.kept (normal_form codec type (elements type c.args.count held)) = subst (λ (x : Held). Holds type c.in_ok-kept.kept (normal_form codec type (elements type c.args.count x))) (sym copied) c.in_ok-kept.ensures.answer.is in
    let told : c.are_fill-2.result ≡ Ok (is_left_out (codec_normal_element codec) type fill (elements type c.args.count held)) =
    left_out_told codec type fill c.args.count held c.in_ok-kept.kept c.are_fill-2.result kept (rw c.as_ne_bytes-item.ensures.value at c.are_fill-2.ensures.answer) in
    record { answer = subst (λ (r : Result Bool CodecError). GivesValue r (Ok (is_left_out (codec_normal_element codec) type fill (elements type c.args.count held)))) (sym told) (record { is = refl; no_fault = refl }) }
