use Rattle.std.proofs.Common.{◌≡◌, ◌*◌, ◌/◌, ◌%◌, ◌∙◌, ap, sym, arith}
use Rattle.zarrs_packbits.specs.PackedLayout.{element_bits_len}
use Rattle.zarrs_packbits.proofs.spread.place_run.Goals as goal
use Rattle.zarrs_packbits.proofs.SpreadLemmas.{run_place, skip_is}

pub overflow_mul-begin-2 : goal.overflow_mul-begin-2
overflow_mul-begin-2 c =
    let placed = run_place c.args.layout c.args.count c.args.start c.args.places c.requires.count c.requires.layout c.requires.in_part c.requires.some c.requires.within in
    omega (arith, placed.begin)

pub overflow_add-end : goal.overflow_add-end
overflow_add-end c =
    let placed = run_place c.args.layout c.args.count c.args.start c.args.places c.requires.count c.requires.layout c.requires.in_part c.requires.some c.requires.within in
    omega (arith, placed.bits, placed.end)

pub returns-clause-begin : goal.returns-clause-begin
returns-clause-begin c =
    let l = c.args.layout in
    let count = c.args.count in
    let start = c.args.start in
    let begin = start * (l.group * count) in
    let part : begin ≡ start * l.group * count = omega arith in
    let same : begin ≡ start * element_bits_len l = ap (λ n. start * (l.group * n)) (sym c.requires.count) in
    let skip = skip_is count (start * l.group) c.requires.kept in
    ap (λ n. n % 8 / count * count) part ∙ skip.bits ∙ ap (λ n. n % 8) (sym part ∙ same)
