use Rattle.std.proofs.Common.{◌+◌, take, set, arith, rules, ap, sym, ◌∙◌, length, ◌≡◌, map}
use Rattle.std.proofs.lemmas.List.{length-set, take_all}
use Rattle.zarrs_packbits.specs.BlockBits.{lifted_byte}
use Rattle.zarrs_packbits.proofs.blocks.lift.Goals as goal
use Rattle.zarrs_packbits.proofs.BlockLemmas.{map_more}

pub loop-place-preserved : goal.loop-place-preserved
loop-place-preserved g c =
    let kept = c.args.kept.now in
    let p = c.loop-place.place in
    let to = c.loop-place.to in
    let f = lifted_byte c.args.first c.args.weight in
    let y = c.lift_byte.result in
    let long : length kept ≡ g.row.N = search rules in
    record {
      made = ap (λ x. take (p + 1) (set to p x)) c.lift_byte.ensures.value ∙ map_more f to kept p (omega (arith, c.loop-place.invariant.long)) (omega arith) c.loop-place.invariant.made;
      long = length-set to p y ∙ c.loop-place.invariant.long;
    }

pub returns : goal.returns
returns g c =
    let kept = c.args.kept.now in
    let to = c.loop-place.to in
    let long : length kept ≡ g.row.N = search rules in
    let end : c.loop-place.place ≡ g.row.N = omega arith in
    record {
      value =
          sym (take_all g.row.N to (omega (arith, c.loop-place.invariant.long)))
          ∙ (rw end at c.loop-place.invariant.made)
          ∙ ap (map (lifted_byte c.args.first c.args.weight)) (take_all g.row.N kept (omega arith));
    }
