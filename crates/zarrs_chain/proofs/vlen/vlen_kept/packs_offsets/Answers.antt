use Rattle.std.proofs.Common.{rules, arith, ap, ◌∙◌}
use Rattle.zarrs_chain_meaning.specs.vlen.VlenSettings.{is_wide}
use Rattle.zarrs_bytes.proofs.Coding.{ok}
use Rattle.zarrs_chain.proofs.VlenKept.{packed_answer}
use Rattle.zarrs_chain.proofs.vlen.vlen_kept.packs_offsets.Goals as goal

pub returns-in-Some : goal.returns-in-Some
returns-in-Some c =
    record {
      answer = record {
        is =
            let answer = rw c.deref.ensures.value at c.keeps_items.ensures.answer in
            packed_answer c.args.codec.now (is_wide c.args.data_type) c.args.offsets.now c.in_ok-items.items.items c.in-Some.row c.offset_type-kind.result c.keeps_items.result c.in_ok-items.ensures.exact.is (omega arith) c.offset_type-kind.ensures.value (c.in_ok-row.ensures.answer.is ∙ ap ok c.in-Some.is) answer;
        no_fault = search rules;
      };
    }
