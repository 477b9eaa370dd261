use Rattle.std.proofs.Common.{◌≡◌, take, map}
use Rattle.zarrs_pairs.specs.Pairs.{sides}
use Rattle.zarrs_pairs.specs.Rows.{rows_seen}
use Rattle.zarrs_pairs.proofs.rows.decoded_rows.Given as goal

abbrev pub invariant-loop-pair : goal.invariant-loop-pair
invariant-loop-pair l = rows_seen l.rows.items ≡ map sides (take l.pair-index l.pairs)
