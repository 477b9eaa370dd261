use Rattle.std.proofs.Common.{◌∙◌, ◌*◌, ◌≤◌, get_or, arith, refl}
use Rattle.zarrs_codec.specs.ByteRanges.{range_indices}
use Rattle.zarrs_bytes.proofs.PlaceRanges.{one_place_more}
use Rattle.zarrs_bytes.proofs.JoinedPlaces.{place_more}
use Rattle.zarrs_bytes.proofs.place_batches.place_ranges.Goals as goal

pub loop-place-preserved : goal.loop-place-preserved
loop-place-preserved c =
    let places = c.args.places.now in
    let index = c.loop-place.place-index in
    record {
      ordered = omega (arith, (c.in_ok-begin.ensures {u = tt}).ordered);
      bytes = one_place_more c.args.size places (range_indices c.begin_range.new.ranges.items) index 0 c.in_ok-begin.begin (get_or places index 0 * c.args.size) (omega arith) (c.in_ok-begin.ensures {u = tt}).ordered refl ((c.in_ok-begin.ensures {u = tt}).bytes ∙ c.loop-place.invariant.bytes);
      filled = (c.in_ok-begin.ensures {u = tt}).filled c.loop-place.invariant.filled;
      joined = place_more c.args.size places index 0 c.loop-place.ranges.items c.begin_range.new.ranges.items c.loop-place.start c.loop-place.end c.in_ok-begin.begin (omega arith) c.requires.sized c.loop-place.invariant.ordered c.loop-place.invariant.empty c.loop-place.invariant.joined (c.in_ok-begin.ensures {u = tt}).goes_on (c.in_ok-begin.ensures {u = tt}).ordered;
      empty = λ none. absurd (let below : c.in_ok-begin.begin ≤ get_or places index 0 * c.args.size = (c.in_ok-begin.ensures {u = tt}).ordered in omega (arith, none, below, c.requires.sized));
    }
