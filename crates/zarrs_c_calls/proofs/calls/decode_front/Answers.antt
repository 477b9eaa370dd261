use Rattle.std.proofs.Common.{Ok, [], ap}
use Rattle.std.specs.Prelude.{is_some}
use Rattle.std.proofs.lemmas.Result.{err_from_is_err_and}
use Rattle.zarrs_array_bytes.specs.Pieces.{fixed_of}
use Rattle.zarrs_array_bytes.proofs.TightLemmas.{sized_given_tight}
use Rattle.zarrs_chain_meaning.specs.CodecMeaning.{chain_chunk}
use Rattle.zarrs_chunk.specs.Answer.{memory}
use Rattle.zarrs_json.specs.HeaderRead.{header_seen}
use Rattle.zarrs_json.specs.KnownBytesCodec.{known_codecs}
use Rattle.zarrs_c_calls.proofs.AnswerLemmas.{value_due, value_not_due}
use Rattle.zarrs_c_calls.proofs.calls.decode_front.Goals as goal

pub returns-in_err-count : goal.returns-in_err-count
returns-in_err-count c =
    let w = c.in_err-count.ensures.written in
    let error = c.in_err-count.field-0.0 in
    let p = err_from_is_err_and c.from_residual.result c.from_residual.ensures.1 in
    record {
      written = record {
        items = [];
        counted = rw p.1 tt;
        there = rw p.1 tt;
        left = rw p.1 w.left;
        answered = rw (p.1, p.2) (value_not_due (header_seen c.args.header.now) c.args.value.now (memory error) error w.answered.is);
      };
    }

pub returns : goal.returns
returns c =
    let w = c.in_ok-count.ensures.written in
    let header = header_seen c.args.header.now in
    let due = chain_chunk known_codecs header.chain header.sizes header.data_type header.fill c.args.value.now in
    let tight = sized_given_tight header.data_type (Ok (fixed_of w.items)) due (ap is_some c.requires.sized) w.answered.is in
    record {
      written = record {
        items = w.items;
        counted = w.counted;
        there = w.there;
        left = tt;
        answered = value_due header c.args.value.now (fixed_of w.items) w.answered.is tight;
      };
    }
