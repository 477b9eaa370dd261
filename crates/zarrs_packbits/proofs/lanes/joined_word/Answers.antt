use Rattle.std.proofs.Common.{◌≡◌, ℕ, List, ◌+◌, ◌*◌, ◌/◌, ◌%◌, ◌^◌, ◌<◌, ◌≤◌, arith, ap, sym, subst, ◌∙◌}
use Rattle.std.proofs.lemmas.Nat.{mod_below, pow-add, pow_pos}
use Rattle.std.proofs.Math.Nat.{div-div-eq-div-mul, mul-le-mul_left}
use Rattle.zarrs_packbits.proofs.lanes.joined_word.Goals as goal
use Rattle.zarrs_packbits.specs.Bits.{low_bits, field}
use Rattle.zarrs_packbits.proofs.LaneLemmas.{LaneIs, field_of_low, lane_inside, lane_more, lane_value}

pub loop-lane-preserved : goal.loop-lane-preserved
loop-lane-preserved c =
    let lane = c.loop-lane.lane in
    let lanes = c.args.lanes in
    let width = c.args.width in
    let count = c.args.count in
    let word = c.args.word in
    let joined = c.loop-lane.joined in
    let at = lane * width + c.args.first in
    let part = c.lowest-kept.result in
    let f : ℕ → List ℕ = λ lane. field (lane * width + c.args.first) count (low_bits 64 word) in
    let inside : lane * width + width ≤ 64 = lane_inside lane lanes width 64 (omega arith) (omega (arith, c.requires.lanes)) in
    let narrow : lane * count ≤ lane * width = mul-le-mul_left lane (omega (arith, c.requires.within)) in
    let moved : word / 2 ^ c.args.first / 2 ^ (lane * width) ≡ word / 2 ^ at
    = div-div-eq-div-mul word (2 ^ c.args.first) (2 ^ (lane * width)) ∙ ap (λ n. word / n) (let e : 2 ^ c.args.first * 2 ^ (lane * width) ≡ 2 ^ (lane * width) * 2 ^ c.args.first = omega arith in e ∙ sym (pow-add 2 (lane * width) c.args.first)) in
    let is : part ≡ word / 2 ^ at % 2 ^ count = c.lowest-kept.ensures.value ∙ ap (λ n. n % 2 ^ count) moved in
    let small : part < 2 ^ count = rw is (mod_below (word / 2 ^ at) (2 ^ count) (pow_pos count)) in
    let here : low_bits count part ≡ f lane = ap (low_bits count) is ∙ field_of_low 64 word at count (omega (arith, c.requires.within)) in
    subst (LaneIs f (lane + 1) count) (sym (lane_value (lane * count) count joined part (omega (arith, c.requires.within)) c.loop-lane.invariant.below small)) (lane_more f lane count joined part small here c.loop-lane.invariant)
