use Rattle.std.proofs.Common.{◌≡◌, map, take}
use Rattle.zarrs_chunk.specs.ChunkShape.{product}
use Rattle.zarrs_chunk.specs.Runs.{AreApart, AreFilled, EndWithin, joined_runs}
use Rattle.zarrs_shard_runs.specs.BlockRows.{StandsAt}
use Rattle.zarrs_shard_runs.specs.CutRuns.{cell, cells_at}
use Rattle.zarrs_shard_runs.proofs.one_inner_chunk.runs_of_one.Given as goal

abbrev pub invariant-loop-start : goal.invariant-loop-start
invariant-loop-start l = record {
  stand : StandsAt l.parts l.sizes l.blocks l.stand.place l.stand;
  cells : map (cell l.parts l.sizes) (joined_runs (take l.start-index l.runs)) ≡ cells_at l.number (joined_runs l.moved.items);
  filled : AreFilled l.moved.items;
  inside : EndWithin (product l.parts) l.moved.items;
  apart : AreApart l.moved.items;
}
