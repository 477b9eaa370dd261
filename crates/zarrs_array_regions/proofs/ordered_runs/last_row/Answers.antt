use Rattle.std.proofs.Common.{◌-◌, ◌*◌, ℕ, take, drop, length, get_or, ap, arith, refl}
use Rattle.zarrs_chunk.specs.ChunkShape.{product}
use Rattle.zarrs_chunk.specs.declared.rows.Row.{Row}
use Rattle.zarrs_array_to_array.specs.Orders.{permuted}
use Rattle.zarrs_array_regions.proofs.OrderedRows.{rest_is, rest_few, step_fits, start_fits, len_fits}
use Rattle.zarrs_array_regions.proofs.ordered_runs.last_row.Goals as goal

pub count_elements-whole-requires-clause-fits : goal.count_elements-whole-requires-clause-fits
count_elements-whole-requires-clause-fits c =
    let r = c.requires in
    let order = c.args.order.now in
    rest_few order c.args.sizes.now c.args.starts.now c.args.lengths.now r.axes r.filled c.args.axes (λ e. omega (arith, r.some)) r.within r.whole r.partial (product (permuted (take (length order - c.args.axes) (drop c.args.axes order)) c.args.sizes.now)) refl r.fits

pub overflow_mul-result : goal.overflow_mul-result
overflow_mul-result c =
    let r = c.requires in
    let is = rest_is c.args.order.now c.args.sizes.now c.args.starts.now c.args.lengths.now r.axes r.filled c.args.axes (λ e. omega (arith, r.some)) r.within r.whole r.partial c.count_elements-whole.result c.count_elements-whole.ensures.value in
    let step = step_fits c.args.order.now c.args.sizes.now c.args.starts.now c.args.lengths.now r.axes r.filled c.args.axes (λ e. omega (arith, r.some)) r.within r.whole r.partial in
    rw is (omega (arith, step, r.fits))

pub overflow_mul-result-2 : goal.overflow_mul-result-2
overflow_mul-result-2 c =
    let r = c.requires in
    let is = rest_is c.args.order.now c.args.sizes.now c.args.starts.now c.args.lengths.now r.axes r.filled c.args.axes (λ e. omega (arith, r.some)) r.within r.whole r.partial c.count_elements-whole.result c.count_elements-whole.ensures.value in
    let step = step_fits c.args.order.now c.args.sizes.now c.args.starts.now c.args.lengths.now r.axes r.filled c.args.axes (λ e. omega (arith, r.some)) r.within r.whole r.partial in
    let start = start_fits c.args.order.now c.args.sizes.now c.args.starts.now c.args.lengths.now r.axes r.filled c.args.axes (λ e. omega (arith, r.some)) r.within r.whole r.partial in
    rw is (omega (arith, step, start, r.fits))

pub overflow_mul-result-3 : goal.overflow_mul-result-3
overflow_mul-result-3 c =
    let r = c.requires in
    let is = rest_is c.args.order.now c.args.sizes.now c.args.starts.now c.args.lengths.now r.axes r.filled c.args.axes (λ e. omega (arith, r.some)) r.within r.whole r.partial c.count_elements-whole.result c.count_elements-whole.ensures.value in
    let step = step_fits c.args.order.now c.args.sizes.now c.args.starts.now c.args.lengths.now r.axes r.filled c.args.axes (λ e. omega (arith, r.some)) r.within r.whole r.partial in
    let len = len_fits c.args.order.now c.args.sizes.now c.args.starts.now c.args.lengths.now r.axes r.filled c.args.axes (λ e. omega (arith, r.some)) r.within r.whole r.partial in
    rw is (omega (arith, step, len, r.fits))

pub returns : goal.returns
returns c =
    let r = c.requires in
    let axis = get_or c.args.order.now (c.args.axes - 1) 0 in
    let is = rest_is c.args.order.now c.args.sizes.now c.args.starts.now c.args.lengths.now r.axes r.filled c.args.axes (λ e. omega (arith, r.some)) r.within r.whole r.partial c.count_elements-whole.result c.count_elements-whole.ensures.value in
    record { value = ap (row axis) is }
  where
    row : ℕ → ℕ → Row
    row axis n = record { step = get_or c.args.sizes.now axis 0 * n; start = get_or c.args.starts.now axis 0 * n; len = get_or c.args.lengths.now axis 0 * n }
