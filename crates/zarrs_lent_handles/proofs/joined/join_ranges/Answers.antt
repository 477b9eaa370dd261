use Rattle.std.proofs.Common.{rules, ap, sym, subst, ◌∙◌, List}
use Rattle.std.proofs.lemmas.List.Sorted.{IsNonDecreasingBy-from_sort_by_key}
use Rattle.zarrs_codec.specs.ByteSpan.{ByteSpan}
use Rattle.zarrs_lent_handles.specs.Joined.{Joins, joined_from}
use Rattle.zarrs_lent_handles.proofs.JoinLemmas.{joins, start_of}
use Rattle.zarrs_lent_handles.proofs.joined.join_ranges.Goals as goal

pub returns-clause-joins : goal.returns-clause-joins
returns-clause-joins c =
    let sorted = c.sort_by_key.new.self.items in
    subst (λ (v : List ByteSpan). Joins c.args.ranges.items v) (sym (c.in_ok-join_rising.ensures.value ∙ ap (joined_from 0 0) c.as_slice.ensures.value))
    (joins c.args.ranges.items sorted c.in_ok-sort_by_key.ensures.permutation (IsNonDecreasingBy-from_sort_by_key start_of sorted c.in_ok-sort_by_key.ensures.sorted (λ a r q k. search rules)))
