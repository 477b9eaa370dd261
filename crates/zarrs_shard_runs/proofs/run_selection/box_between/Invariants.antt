use Rattle.zarrs_shard_runs.proofs.run_selection.box_between.Given as goal

abbrev pub invariant-loop-axis : goal.invariant-loop-axis
invariant-loop-axis l = Unit {0}
