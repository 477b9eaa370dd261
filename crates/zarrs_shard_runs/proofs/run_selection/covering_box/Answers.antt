use Rattle.std.proofs.Common.{◌-◌, length, arith}
use Rattle.zarrs_shard_runs.proofs.run_selection.covering_box.Goals as goal

pub overflow_add-start : goal.overflow_add-start
overflow_add-start c =
    let within = c.requires.inside (length c.args.runs.now - 1) (0, 0) (omega arith) in
    omega (arith, within, c.requires.counted)
