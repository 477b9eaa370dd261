use Rattle.std.proofs.Common.{◌≡◌, ◌≤◌, ◌<◌, ◌+◌, ◌-◌, ◌*◌, ◌∙◌, length, take, drop, ap, arith}
use Rattle.zarrs_packbits.specs.Bits.{bits_of}
use Rattle.zarrs_packbits.specs.BitStream.{components_from}
use Rattle.zarrs_packbits.proofs.spread.put_each.Goals as goal
use Rattle.zarrs_packbits.proofs.SpreadLemmas.{each_count, each_step, each_sum, length-part, written_behind}

pub overflow_add-next : goal.overflow_add-next
overflow_add-next c =
    let left = each_count c.args.layout c.loop-start.done c.loop-start.start-index c.place_run-skip.result.1 (length c.args.out.now) c.args.runs.now (omega arith) c.loop-start.invariant.room c.place_run-skip.ensures.parts in
    omega (arith, left)

pub slice_bounds-put_behind-end : goal.slice_bounds-put_behind-end
slice_bounds-put_behind-end c =
    let left = each_count c.args.layout c.loop-start.done c.loop-start.start-index c.place_run-skip.result.1 (length c.args.out.now) c.args.runs.now (omega arith) c.loop-start.invariant.room c.place_run-skip.ensures.parts in
    omega (arith, left, c.loop-start.auto.out)

pub loop-start-preserved : goal.loop-start-preserved
loop-start-preserved c =
    let l = c.args.layout in
    let runs = c.args.runs.now in
    let bytes = c.args.bytes.now in
    let i = c.loop-start.start-index in
    let at = c.loop-start.at in
    let done = c.loop-start.done in
    let out = c.loop-start.out in
    let p = c.place_run-skip in
    let skip = p.result.0 in
    let parts = p.result.1 in
    let piece = c.put_behind.new.out in
    let inv = c.loop-start.invariant in
    let next = done + parts in
    let k = next - done in
    let lt : i < length runs = omega arith in
    let left = each_count l done i parts (length c.args.out.now) runs lt inv.room p.ensures.parts in
    let within : done + k ≤ length out = omega (arith, left, c.loop-start.auto.out) in
    let long : length (take k (drop done out)) ≡ parts = length-part out done k within ∙ omega arith in
    let rest = drop k (drop done out) in
    record {
      sums = each_sum l at i p.result.2 bytes runs lt inv.sums p.ensures.len;
      room = left;
      bits =
          each_step l at i skip parts p.result.2 c.args.count (take done out) piece _ bytes runs lt c.requires.count p.ensures.begin p.ensures.parts p.ensures.len p.ensures.inside inv.sums
          (written_behind out piece rest done next (omega (arith, within)) (omega (arith, long, c.put_behind.auto.out)))
          inv.bits
          (c.put_behind.ensures.written ∙ ap (λ n. components_from l (skip * c.args.count) n (bits_of (take (length bytes - at) (drop at bytes)))) long);
    }
