use Rattle.std.proofs.Common.{◌≡◌, Bool, Ok, Result, rules, refl, sym, subst}
use Rattle.zarrs_chunk.specs.Answer.{GivesValue}
use Rattle.zarrs_chunk.specs.declared.codec_error.CodecError.{CodecError}
use Rattle.zarrs_data_type.specs.Element.{fill_element}
use Rattle.zarrs_chain_meaning.specs.CodecMeaning.{codec_normal_element}
use Rattle.zarrs_chain_meaning.specs.sharding.Sharding.{is_kept_as_fill}
use Rattle.zarrs_chain.specs.ChainView.{plain_codec}
use Rattle.zarrs_chain.specs.sharding.ShardingCalls.{KeepsAll}
use Rattle.zarrs_chain.proofs.LeftOut.{fill_kept_all, fill_kept_told}
use Rattle.zarrs_chain.proofs.sharding.left_out.is_fill_kept.Goals as goal

pub returns-then-keeps_all : goal.returns-then-keeps_all
returns-then-keeps_all g c =
    let same : KeepsAll (plain_codec c.args.codec.now) = search rules in
    record { answer = record { is = fill_kept_all (plain_codec c.args.codec.now) c.args.data_type.now c.args.fill.now same; no_fault = refl } }

pub returns : goal.returns
returns g c =
    let type = c.args.data_type.now in
    let fill = c.args.fill.now in
    let codec = plain_codec c.args.codec.now in
    let told : c.are_fill.result ≡ Ok (is_kept_as_fill (codec_normal_element codec) type fill (fill_element type fill)) =
    fill_kept_told codec type fill c.in_ok-element.element c.in_ok-kept.kept c.are_fill.result c.requires.filling c.requires.room c.in_ok-element.ensures.exact.is c.in_ok-kept.ensures.answer.is (rw c.as_ne_bytes.ensures.value at c.are_fill.ensures.answer) in
    record { answer = subst (λ (r : Result Bool CodecError). GivesValue r (Ok (is_kept_as_fill (codec_normal_element codec) type fill (fill_element type fill)))) (sym told) (record { is = refl; no_fault = refl }) }
