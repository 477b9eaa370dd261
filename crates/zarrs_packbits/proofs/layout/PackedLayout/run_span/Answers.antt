use Rattle.std.proofs.Common.{arith, sym}
use Rattle.zarrs_packbits.proofs.layout.PackedLayout.run_span.Goals as goal
use Rattle.zarrs_packbits.proofs.LayoutLemmas.{lead_small}
use Rattle.zarrs_packbits.proofs.RunLemmas.{whole_run_start, whole_run_end, whole_run_bytes, run_within, run_some}

pub overflow_mul-result-then-is_whole : goal.overflow_mul-result-then-is_whole
overflow_mul-result-then-is_whole c = omega (arith, whole_run_bytes c.args.self.now c.args.start c.args.len c.requires.layout c.requires.within)

pub returns-then-is_whole-clause-start : goal.returns-then-is_whole-clause-start
returns-then-is_whole-clause-start c = whole_run_start c.args.self.now c.args.start c.args.len c.requires.layout (sym c.if-is_whole.ensures.value)

pub returns-then-is_whole-clause-end : goal.returns-then-is_whole-clause-end
returns-then-is_whole-clause-end c = whole_run_end c.args.self.now c.args.start c.args.len c.requires.layout (sym c.if-is_whole.ensures.value)

pub overflow_mul-result-2 : goal.overflow_mul-result-2
overflow_mul-result-2 c =
    let l = c.args.self.now in
    omega (arith, run_within l c.args.start c.args.len c.requires.within, run_some l c.args.start c.args.len c.requires.layout c.requires.some, c.requires.layout.bits_fit (sym c.if-is_whole.ensures.value))

pub overflow_add-result-2 : goal.overflow_add-result-2
overflow_add-result-2 c =
    let l = c.args.self.now in
    omega (arith, run_within l c.args.start c.args.len c.requires.within, run_some l c.args.start c.args.len c.requires.layout c.requires.some, c.requires.layout.bits_fit (sym c.if-is_whole.ensures.value), lead_small l, c.lead-lead.ensures.value)

pub overflow_mul-start : goal.overflow_mul-start
overflow_mul-start c =
    let l = c.args.self.now in
    omega (arith, run_within l c.args.start c.args.len c.requires.within, c.requires.layout.bits_fit (sym c.if-is_whole.ensures.value))
