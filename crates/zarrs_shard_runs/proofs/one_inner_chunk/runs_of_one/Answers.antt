use Rattle.std.proofs.Common.{◌≡◌, ◌-◌, ◌<◌, ◌≤◌, get_or, length, take, map, arith, ap, sym, subst, ◌∙◌}
use Rattle.std.proofs.lemmas.List.{take_all}
use Rattle.zarrs_chain_meaning.proofs.InnerChunks.{is_cut}
use Rattle.zarrs_chain_meaning.specs.sharding.InnerChunks.{inner_chunk_count}
use Rattle.zarrs_chunk.specs.Runs.{joined_runs}
use Rattle.zarrs_shard_runs.specs.BlockRows.{StandsAt}
use Rattle.zarrs_shard_runs.specs.CutRuns.{cell}
use Rattle.zarrs_shard_runs.proofs.CellSteps.{inner_within}
use Rattle.zarrs_shard_runs.proofs.Stands.{cells_more, run_within, some_places}
use Rattle.zarrs_shard_runs.proofs.one_inner_chunk.runs_of_one.Goals as goal

pub cell_of-requires-clause-inside : goal.cell_of-requires-clause-inside
cell_of-requires-clause-inside c =
    let runs = c.args.runs.now in
    let last : length runs - 1 < length runs = omega arith in
    omega (arith, c.requires.inside (length runs - 1) (0, 0) last, c.requires.filled (length runs - 1) (0, 0) last)

pub next_stand-stand-requires-clause-inside : goal.next_stand-stand-requires-clause-inside
next_stand-stand-requires-clause-inside c =
    let runs = c.args.runs.now in
    let index = c.loop-start.start-index in
    let here : index < length runs = omega arith in
    omega (arith, c.requires.inside index (0, 0) here, c.requires.filled index (0, 0) here)

pub append_run-requires : goal.append_run-requires
append_run-requires c =
    let runs = c.args.runs.now in
    let index = c.loop-start.start-index in
    let run = get_or runs index (0, 0) in
    let here : index < length runs = omega arith in
    let within = run_within c.args.parts.now c.args.sizes.now c.blocks_of-blocks.result c.next_stand-stand.result run.0 run.1 c.requires.divided c.requires.positive c.blocks_of-blocks.ensures.blocks c.next_stand-stand.ensures.stand (omega arith) (c.requires.filled index (0, 0) here) (c.requires.inside index (0, 0) here) in
    let small = inner_within c.args.parts.now c.args.sizes.now c.requires.divided c.requires.positive c.requires.sizes_positive in
    record { fits = omega (arith, within, small, c.requires.fits) }

pub loop-start-preserved : goal.loop-start-preserved
loop-start-preserved c =
    let parts = c.args.parts.now in
    let sizes = c.args.sizes.now in
    let runs = c.args.runs.now in
    let index = c.loop-start.start-index in
    let run = get_or runs index (0, 0) in
    let here : index < length runs = omega arith in
    let stand = c.next_stand-stand.ensures.stand in
    let room : run.1 ≤ c.next_stand-stand.result.room = omega arith in
    let within = run_within parts sizes c.blocks_of-blocks.result c.next_stand-stand.result run.0 run.1 c.requires.divided c.requires.positive c.blocks_of-blocks.ensures.blocks stand room (c.requires.filled index (0, 0) here) (c.requires.inside index (0, 0) here) in
    record {
      stand = subst (λ place. StandsAt parts sizes c.blocks_of-blocks.result place c.next_stand-stand.result) (sym stand.same) stand;
      cells = cells_more parts sizes c.blocks_of-blocks.result c.next_stand-stand.result c.stand_at-stand.result.number runs c.loop-start.moved.items c.append_run.new.runs.items index c.blocks_of-blocks.ensures.blocks stand room (omega arith) here c.loop-start.invariant.cells c.in_ok-append_run.ensures.places;
      filled = c.in_ok-append_run.ensures.filled (c.requires.filled index (0, 0) here) c.loop-start.invariant.filled;
      inside = c.in_ok-append_run.ensures.below _ within c.loop-start.invariant.inside;
      apart = c.in_ok-append_run.ensures.apart c.loop-start.invariant.apart;
    }

pub returns : goal.returns
returns c =
    let parts = c.args.parts.now in
    let sizes = c.args.sizes.now in
    let runs = c.args.runs.now in
    let all : take c.loop-start.start-index runs ≡ runs = take_all c.loop-start.start-index runs (omega arith) in
    let some : 0 < length runs = omega arith in
    record {
      one = record {
        cells = ap (λ rs. map (cell parts sizes) (joined_runs rs)) (sym all) ∙ c.loop-start.invariant.cells;
        some = some_places runs some c.requires.filled;
        number = subst (λ n. n < inner_chunk_count parts sizes) (sym c.stand_at-stand.ensures.stand.number) ((is_cut parts sizes c.requires.positive c.requires.divided).chunk_below _ (omega (arith, c.requires.inside 0 (0, 0) some, c.requires.filled 0 (0, 0) some)));
        filled = c.loop-start.invariant.filled;
        inside = c.loop-start.invariant.inside;
        apart = c.loop-start.invariant.apart;
      };
    }
