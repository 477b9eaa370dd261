use Rattle.std.proofs.Common.{map}
use Rattle.std.proofs.lemmas.List.Sorted.{IsPermutation-sym}
use Rattle.zarrs_pairs.proofs.Tables.{are_turned, back_turned, bytes_moved, one_to_one_moved, one_to_one_of_both, same_pairs, turned_function}
use Rattle.zarrs_pairs.specs.Pairs.{sides}
use Rattle.zarrs_pairs.specs.Rows.{rows_seen}
use Rattle.zarrs_pairs.proofs.pairs_table.PairsTable.new.Goals as goal

-- the pairs by their decoded bytes are no function
pub returns-then-not-is_function-clause-rejected : goal.returns-then-not-is_function-clause-rejected
returns-then-not-is_function-clause-rejected c e one =
    let pairs = map sides c.args.pairs.now in
    let rows = rows_seen c.in_ok-by_decoded.by_decoded.items in
    let moved = one_to_one_moved pairs rows (same_pairs pairs rows c.in_ok-by_decoded.ensures.rows.same) one in
    c.is_function.ensures.rejected c.if-not-is_function.true (rw c.deref.ensures.value moved.one_encoded)

-- those by their encoded bytes are none
pub returns-then-not-is_function-2-clause-rejected : goal.returns-then-not-is_function-2-clause-rejected
returns-then-not-is_function-2-clause-rejected c e one =
    let pairs = map sides c.args.pairs.now in
    let rows = rows_seen c.in_ok-by_decoded.by_decoded.items in
    let other = rows_seen c.in_ok-by_encoded.by_encoded.items in
    let moved = one_to_one_moved pairs rows (same_pairs pairs rows c.in_ok-by_decoded.ensures.rows.same) one in
    let turned_rows = rw c.deref-2.ensures.value at c.in_ok-by_encoded.ensures.rows.same in
    c.is_function-2.ensures.rejected c.if-not-is_function-2.true (rw c.deref-3.ensures.value (turned_function rows other turned_rows moved))

pub invariant_of-result : goal.invariant_of-result
invariant_of-result c =
    let pairs = map sides c.args.pairs.now in
    let rows = rows_seen c.in_ok-by_decoded.by_decoded.items in
    let other = rows_seen c.in_ok-by_encoded.by_encoded.items in
    let turned_rows = rw c.deref-2.ensures.value at c.in_ok-by_encoded.ensures.rows.same in
    let one = rw c.deref.ensures.value at (c.is_function.ensures.accepted c.if-not-is_function.false) in
    let once = rw c.deref-3.ensures.value at (c.is_function-2.ensures.accepted c.if-not-is_function-2.false) in
    record {
      decoded_rise = c.in_ok-by_decoded.ensures.rows.rising;
      encoded_rise = c.in_ok-by_encoded.ensures.rows.rising;
      encoded_once = once;
      turned_round = are_turned rows other turned_rows once;
      one_to_one = one_to_one_of_both rows one (back_turned rows other turned_rows once);
      are_bytes = bytes_moved c.args.pairs.now rows c.in_ok-by_decoded.ensures.rows.same c.encoded_are_bytes.ensures.bytes;
    }

pub returns-clause-pairs : goal.returns-clause-pairs
returns-clause-pairs c = same_pairs (map sides c.args.pairs.now) (rows_seen c.in_ok-by_decoded.by_decoded.items) c.in_ok-by_decoded.ensures.rows.same

pub returns-clause-accepted : goal.returns-clause-accepted
returns-clause-accepted c =
    let pairs = map sides c.args.pairs.now in
    let rows = rows_seen c.in_ok-by_decoded.by_decoded.items in
    let other = rows_seen c.in_ok-by_encoded.by_encoded.items in
    let turned_rows = rw c.deref-2.ensures.value at c.in_ok-by_encoded.ensures.rows.same in
    let one = rw c.deref.ensures.value at (c.is_function.ensures.accepted c.if-not-is_function.false) in
    let once = rw c.deref-3.ensures.value at (c.is_function-2.ensures.accepted c.if-not-is_function-2.false) in
    let held = one_to_one_of_both rows one (back_turned rows other turned_rows once) in
    one_to_one_moved rows pairs (same_pairs rows pairs (IsPermutation-sym pairs rows c.in_ok-by_decoded.ensures.rows.same)) held
