use Rattle.zarrs_array_bytes.specs.Held.{raw_of}
use Rattle.zarrs_chain_meaning.specs.vlen.PlainVlen.{plain_form}
use Rattle.zarrs_plain_vlen.proofs.IndexOffsets.{offsets_answered}
use Rattle.zarrs_plain_vlen.proofs.index.decode_index.Goals as goal

pub returns-clause-answer : goal.returns-clause-answer
returns-clause-answer c =
    offsets_answered c.new.result (plain_form c.args.codec) c.args.count c.args.part.items c.in_ok-rows.rows (raw_of c.in_ok-into_fixed.field-0) c.requires.some c.in_ok-rows.ensures.answer.is c.in_ok-into_fixed.ensures.answer c.new.ensures.answer
