use Rattle.std.proofs.Common.{[], refl}
use Rattle.std.proofs.lemmas.Result.{err_from_is_err_and}
use Rattle.zarrs_chunk.specs.Answer.{memory}
use Rattle.zarrs_json.specs.HeaderRead.{header_seen}
use Rattle.zarrs_c_calls.specs.Calls.{known_header}
use Rattle.zarrs_c_calls.specs.Buffers.{buffers}
use Rattle.zarrs_c_calls.proofs.AnswerLemmas.{value_not_written, value_written}
use Rattle.zarrs_c_calls.proofs.calls.encode.Goals as goal

pub returns-in_err-count : goal.returns-in_err-count
returns-in_err-count c =
    let w = c.in_err-count.ensures.written in
    let error = c.in_err-count.field-0.0 in
    let p = err_from_is_err_and c.from_residual-in_err-count.result c.from_residual-in_err-count.ensures.1 in
    record {
      written = record {
        items = [];
        counted = rw p.1 tt;
        there = rw p.1 tt;
        left = rw p.1 w.left;
        answered = rw (p.1, p.2) (value_not_written (known_header c.args.header.now) (buffers c.args.masks.now c.args.offsets.now c.args.bytes.now) (header_seen c.args.header.now) c.in_ok-elements.elements (memory error) error refl c.in_ok-elements.ensures.answer w.answered.is);
      };
    }

pub returns : goal.returns
returns c =
    let w = c.in_ok-count.ensures.written in
    record {
      written = record {
        items = w.items;
        counted = w.counted;
        there = w.there;
        left = tt;
        answered = value_written (known_header c.args.header.now) (buffers c.args.masks.now c.args.offsets.now c.args.bytes.now) (header_seen c.args.header.now) c.in_ok-elements.elements w.items refl c.in_ok-elements.ensures.answer w.answered.is;
      };
    }
