use Rattle.std.proofs.Common.{[], ◌∷◌, ◌++◌, ap, sym, subst, ◌∙◌}
use Rattle.std.specs.Prelude.{IfSome}
use Rattle.zarrs_chunk.specs.Runs.{joined_runs}
use Rattle.zarrs_shard_runs.specs.GroupedRuns.{AreGroups, IsOneGroup}
use Rattle.zarrs_shard_runs.proofs.OneGroup.{one_group, one_of, one_order}
use Rattle.zarrs_shard_runs.proofs.grouped_runs.group_runs.Goals as goal

pub returns-in-Some-clause-groups : goal.returns-in-Some-clause-groups
returns-in-Some-clause-groups c =
    let places = joined_runs c.args.runs.now in
    let found = subst (λ x. IfSome x (IsOneGroup c.as_slice.result.now c.as_slice-2.result.now places)) c.in-Some.is c.in_ok-only.ensures.one in
    let one = one_of c.args.inner.now c.args.shape.now c.as_slice.result.now c.as_slice-2.result.now places c.in-Some.only c.as_slice.ensures.value c.as_slice-2.ensures.value found in
    let all = c.in_ok-push.ensures.items ∙ ap (λ gs. gs ++ c.in-Some.only ∷ []) c.in_ok-groups.ensures.items in
    subst (AreGroups c.args.inner.now c.args.shape.now places) (sym all) (one_group one)

pub returns-in-Some-clause-order : goal.returns-in-Some-clause-order
returns-in-Some-clause-order c =
    let places = joined_runs c.args.runs.now in
    let found = subst (λ x. IfSome x (IsOneGroup c.as_slice.result.now c.as_slice-2.result.now places)) c.in-Some.is c.in_ok-only.ensures.one in
    let one = one_of c.args.inner.now c.args.shape.now c.as_slice.result.now c.as_slice-2.result.now places c.in-Some.only c.as_slice.ensures.value c.as_slice-2.ensures.value found in
    one_order one
