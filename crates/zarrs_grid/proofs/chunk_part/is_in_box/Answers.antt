use Rattle.std.proofs.Common.{arith, sym}
use Rattle.zarrs_grid.proofs.Tuples.{in_box, box_test, not_in_box}
use Rattle.zarrs_grid.proofs.chunk_part.is_in_box.Goals as goal
use Rattle.zarrs_grid.proofs.chunk_part.is_in_box.Goals.{then-index-start-via-then-index-start, then-index-start-via-else-index-start+then-index-start-2}

pub returns-then-tuple-starts : goal.returns-then-tuple-starts
returns-then-tuple-starts c =
    record { value = sym (not_in_box c.args.starts.now c.args.lengths.now c.args.tuple.now (λ r. omega (arith, r.axes))) }

pub returns-then-index-start : goal.returns-then-index-start
returns-then-index-start c =
    let axis = c.loop-axis.axis in
    record {
      value = sym (not_in_box c.args.starts.now c.args.lengths.now c.args.tuple.now (λ r.
          let from = r.from_start axis (omega arith) in
          let before = r.before_end axis (omega arith) in
          elim c.then-index-start.branch [
            | then-index-start-via-then-index-start w ↦ omega (arith, from)
            | then-index-start-via-else-index-start+then-index-start-2 w ↦ omega (arith, before)
          ]));
    }

pub returns : goal.returns
returns c =
    let starts = c.args.starts.now in
    let lengths = c.args.lengths.now in
    let tuple = c.args.tuple.now in
    record {
      value = sym (box_test starts lengths tuple (in_box starts lengths tuple c.requires.lengths (record {
        axes = omega arith;
        from_start = λ axis l. c.loop-axis.invariant.from_start axis (omega arith);
        before_end = λ axis l. c.loop-axis.invariant.before_end axis (omega arith);
      })));
    }
