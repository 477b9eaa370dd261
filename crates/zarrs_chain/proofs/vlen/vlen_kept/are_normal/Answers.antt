use Rattle.std.proofs.Common.{◌≡◌, Bool, Ok, Result, rules, arith, length, ap, refl, sym, subst}
use Rattle.zarrs_bytes.proofs.Coding.{ok}
use Rattle.zarrs_chunk.specs.Answer.{GivesValue}
use Rattle.zarrs_chunk.specs.declared.codec_error.CodecError.{CodecError}
use Rattle.zarrs_array_bytes.specs.Held.{flen}
use Rattle.zarrs_chain.specs.ChainView.{plain_codec}
use Rattle.zarrs_chain.specs.sharding.ShardingCalls.{KeepsAll}
use Rattle.zarrs_chain_meaning.specs.vlen.VlenSettings.{is_wide}
use Rattle.zarrs_chain_meaning.specs.vlen.VlenSteps.{keeps_offsets, lent_bytes}
use Rattle.zarrs_chain.proofs.VlenKept.{kept_by_all, normal_told, offsets_valid}
use Rattle.zarrs_chain.proofs.vlen.vlen_kept.are_normal.Goals as goal

pub returns-then-keeps_all : goal.returns-then-keeps_all
returns-then-keeps_all g c =
    let same : KeepsAll (plain_codec c.args.codec.now) = search rules in
    record { answer = record { is = ap ok (kept_by_all (plain_codec c.args.codec.now) (is_wide c.args.data_type) c.args.offsets.now same); no_fault = refl } }

pub normal_elements-requires : goal.normal_elements-requires
normal_elements-requires g c =
    let items = c.in_ok-items.items.items in
    let made : c.new_flen-rows.result ≡ flen (lent_bytes items) = rw c.as_slice.ensures.value at c.new_flen-rows.ensures.made in
    record { valid = offsets_valid (is_wide c.args.data_type) c.args.offsets.now items c.offset_type.result c.new_flen-rows.result (length c.args.offsets.now) c.in_ok-items.ensures.exact.is (omega arith) c.offset_type.ensures.value made refl }

pub returns : goal.returns
returns g c =
    let items = c.in_ok-items.items.items in
    let codec = plain_codec c.args.codec.now in
    let wide = is_wide c.args.data_type in
    let made : c.new_flen-rows.result ≡ flen (lent_bytes items) = rw c.as_slice.ensures.value at c.new_flen-rows.ensures.made in
    let told = rw c.as_slice-2.ensures.value at c.holds_items.ensures.answer in
    let is : c.holds_items.result ≡ Ok (keeps_offsets codec wide c.args.offsets.now) =
    normal_told codec wide c.args.offsets.now items c.offset_type.result c.new_flen-rows.result c.in_ok-kept.kept (length c.args.offsets.now) c.holds_items.result c.in_ok-items.ensures.exact.is (omega arith) c.offset_type.ensures.value made refl c.in_ok-kept.ensures.answer.is told in
    record { answer = subst (λ (r : Result Bool CodecError). GivesValue r (Ok (keeps_offsets codec wide c.args.offsets.now))) (sym is) (record { is = refl; no_fault = refl }) }
