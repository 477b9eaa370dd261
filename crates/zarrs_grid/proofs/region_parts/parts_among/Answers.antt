use Rattle.std.proofs.Common.{refl, sym, ◌∙◌}
use Rattle.zarrs_grid.proofs.NumberedChunks.{no_parts}
use Rattle.zarrs_grid.proofs.region_parts.parts_among.Goals as goal

pub returns-in-None : goal.returns-in-None
returns-in-None c = record {
  answer = record {
    is = no_parts c.args.shape.now c.args.region.now c.args.chunks.now c.in_ok-counts.counts.items c.new-in-None.result.items c.requires.grid
        ((c.in_ok-counts.ensures {u = tt}).items ∙ c.shape.ensures.value) c.shape.ensures.axes (sym c.in-None.ensures.answer) c.new-in-None.ensures.items;
    no_fault = refl;
  };
}
