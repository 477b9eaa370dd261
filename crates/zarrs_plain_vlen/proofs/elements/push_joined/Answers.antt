use Rattle.std.proofs.Common.{◌≡◌, ◌≤◌, ◌++◌, ◌∙◌, ◌-◌, List, arith, ap, sym}
use Rattle.std.specs.List.{range_with_len}
use Rattle.std.proofs.lemmas.Bool.Decides.{nat_tests}
use Rattle.zarrs_codec.specs.ByteRanges.{range_indices}
use Rattle.zarrs_codec.specs.ByteSpan.{ByteSpan}
use Rattle.zarrs_plain_vlen.proofs.RangesRead.{joined_push}
use Rattle.zarrs_plain_vlen.proofs.elements.push_joined.Goals as goal

pub returns-in_ok-push-in-Some-clause-numbers : goal.returns-in_ok-push-in-Some-clause-numbers
returns-in_ok-push-in-Some-clause-numbers c =
    let last = c.in-Some.last in
    let range = c.args.range in
    let joined = c.range_of.result in
    let first : joined.start ≡ last.start = ap (λ (s : ByteSpan). s.start) c.range_of.ensures.range ∙ c.start-then-end-start.ensures.value in
    let final : joined.end ≡ range.end = ap (λ (s : ByteSpan). s.end) c.range_of.ensures.range ∙ c.end-then-end-start.ensures.value in
    let meets : last.end ≡ range.start = grind (arith, nat_tests) in
    let ordered : last.start ≤ last.end = omega (arith, c.end.ensures.ordered, c.end.ensures.value) in
    let some : range.start ≤ range.end = omega (arith, c.requires.some) in
    ap range_indices c.in_ok-push-in-Some.ensures.items
    ∙ joined_push c.pop.new.self.items last range joined ordered some meets first final
    ∙ ap (λ (xs : List ByteSpan). range_indices xs ++ range_with_len range.start (range.end - range.start)) (sym c.in-Some.ensures.items)
