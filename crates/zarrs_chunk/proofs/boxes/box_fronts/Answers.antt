use Rattle.std.proofs.Common.{◌≡◌, arith, sym, ◌∙◌, ◌∷◌, []}
use Rattle.zarrs_chunk.proofs.BoxTuples.{numbers_behind-more, numbers_behind-start}
use Rattle.zarrs_chunk.proofs.Fitting.{row_fits, IsFitting-more, IsFitting-start}
use Rattle.zarrs_chunk.proofs.boxes.box_fronts.Goals as goal

pub write_rows-requires : goal.write_rows-requires
write_rows-requires c = record {
  fits = λ k l.
      let room = row_fits c.args.sizes.now c.args.starts.now c.args.lengths.now (0 ∷ []) 0 k (omega arith) c.requires.inside c.requires.positive (IsFitting-start c.args.sizes.now) (omega arith) in
      omega (arith, room);
}

pub loop-axis-init : goal.loop-axis-init
loop-axis-init c =
    rw c.in_ok-write_rows.ensures.fronts (record {
      places = sym (numbers_behind-more c.args.sizes.now c.args.starts.now c.args.lengths.now (0 ∷ []) 0 (omega arith) (omega arith) (omega arith)) ∙ numbers_behind-start c.args.sizes.now c.args.starts.now c.args.lengths.now;
      fits = IsFitting-more c.args.sizes.now c.args.starts.now c.args.lengths.now (0 ∷ []) 0 (omega arith) c.requires.inside (IsFitting-start c.args.sizes.now);
    })

pub next_fronts-requires : goal.next_fronts-requires
next_fronts-requires c = record {
  fits = λ k l.
      let room = row_fits c.args.sizes.now c.args.starts.now c.args.lengths.now c.loop-axis.fronts.items c.loop-axis.axis k (omega arith) c.requires.inside c.requires.positive c.loop-axis.invariant.fits (omega arith) in
      omega (arith, room);
}

pub loop-axis-preserved : goal.loop-axis-preserved
loop-axis-preserved c =
    rw c.in_ok-next_fronts.ensures.fronts (record {
      places = sym (numbers_behind-more c.args.sizes.now c.args.starts.now c.args.lengths.now c.loop-axis.fronts.items c.loop-axis.axis (omega arith) (omega arith) (omega arith)) ∙ c.loop-axis.invariant.places;
      fits = IsFitting-more c.args.sizes.now c.args.starts.now c.args.lengths.now c.loop-axis.fronts.items c.loop-axis.axis (omega arith) c.requires.inside c.loop-axis.invariant.fits;
    })

pub returns-clause-fronts : goal.returns-clause-fronts
returns-clause-fronts c =
    let e : c.loop-axis.axis ≡ c.args.axes = omega arith in
    rw (← e) c.loop-axis.invariant.places
