use Rattle.std.proofs.Common.{rules, ◌≡◌, ◌+◌, ◌*◌, ◌<◌, ◌≤◌, ℕ, List, arith, ap, length, get_or, take, sym, refl, take_all}
use Rattle.std.specs.List.{flat_map}
use Rattle.zarrs_array_bytes.specs.Held.{Held}
use Rattle.zarrs_shard_bytes.specs.Bands.{run_elements}
use Rattle.zarrs_shard_bytes.proofs.Bands.{joins_end, joins_on, length_run, row_more}
use Rattle.zarrs_shard_bytes.proofs.joined_bands.append_row.Goals as goal

pub loop-content-preserved : goal.loop-content-preserved
loop-content-preserved c =
    let type = c.args.data_type.now in
    let contents : List Held = c.args.contents.now in
    let index : ℕ = c.loop-content.content-index in
    let first = c.args.first in
    let each : ℕ = c.args.each in
    let content : Held = c.content-item.result in
    let is : content ≡ get_or contents index content = search rules in
    let there : index < length contents = omega arith in
    let total : (index + 1) * each ≡ index * each + each = omega arith in
    record {
      joins = joins_on type c.args.done (index * each) each ((index + 1) * each) c.loop-content.done c.args.elements c.loop-content.elements c.in_ok-elements.elements (flat_map (run_elements type first each) (take index contents)) (run_elements type first each content) (flat_map (run_elements type first each) (take (index + 1) contents))
          c.loop-content.invariant.joins c.loop-content.invariant.counted total (length_run type first each content) c.in_ok-elements.ensures.answer.is (row_more type first each contents index content there is);
      counted = omega (arith, c.loop-content.invariant.counted);
      tight = c.in_ok-elements.ensures.tight;
    }

pub returns-clause-answer : goal.returns-clause-answer
returns-clause-answer c =
    let type = c.args.data_type.now in
    let contents : List Held = c.args.contents.now in
    let index : ℕ = c.loop-content.content-index in
    let end : length contents ≤ index = omega arith in
    record {
      is = joins_end type c.args.done (index * c.args.each) c.args.elements c.loop-content.elements (flat_map (run_elements type c.args.first c.args.each) (take index contents)) (flat_map (run_elements type c.args.first c.args.each) contents)
          c.loop-content.invariant.joins (ap (flat_map (run_elements type c.args.first c.args.each)) (sym (take_all index contents end)));
      no_fault = refl;
    }
