use Rattle.std.proofs.Common.{◌^◌, ◌-◌, ℕ, List, refl, length, map, arith, ap, sym, subst, ◌∙◌, rules}
use Rattle.std.specs.List.Sorted.{IsNonDecreasingBy, IsStableByKey}
use Rattle.std.specs.Ordering.{nat_cmp}
use Rattle.std.proofs.lemmas.List.Sorted.{IsNonDecreasingBy-from_sort_by_key, IsPermutation-refl, answers_always}
use Rattle.zarrs_chunk.specs.ChunkShape.{product}
use Rattle.zarrs_chunk.specs.Runs.{EndWithin, joined_runs}
use Rattle.zarrs_shard_runs.specs.GroupedRuns.{group}
use Rattle.zarrs_shard_runs.specs.Groups.{AreGrouped}
use Rattle.zarrs_shard_runs.specs.declared.cut_runs.CutRun.{CutRun}
use Rattle.zarrs_shard_runs.proofs.CellSteps.{inner_small}
use Rattle.zarrs_shard_runs.proofs.Orders.{cut_of, groups_of_sorted, order_of_sorted, order_stays, sorted_of}
use Rattle.zarrs_shard_runs.proofs.grouped_runs.group_cuts.Goals as goal

pub groups-requires-clause-fits : goal.groups-requires-clause-fits
groups-requires-clause-fits c =
    let inner = c.args.inner.now in
    let shape = c.args.shape.now in
    let places = joined_runs c.args.runs.now in
    let cuts = c.in_ok-cuts.cuts.items in
    let of = cut_of inner shape c.as_slice.result.now c.as_slice-2.result.now places cuts c.as_slice.ensures.value c.as_slice-2.ensures.value c.in_ok-cuts.ensures.cells c.in_ok-cuts.ensures.cut in
    let small = inner_small inner shape c.as_slice.result.now c.as_slice-2.result.now c.as_slice.ensures.value c.as_slice-2.ensures.value c.as_slice.ensures.positive c.as_slice-2.ensures.positive c.requires.divided c.requires.counted in
    let are = sorted_of inner shape places cuts cuts c.as_slice-then-are_in_order.result.now of (IsPermutation-refl cuts) c.as_slice-then-are_in_order.ensures.value small in
    are.fits

pub returns-then-are_in_order-clause-groups : goal.returns-then-are_in_order-clause-groups
returns-then-are_in_order-clause-groups c =
    let inner = c.args.inner.now in
    let shape = c.args.shape.now in
    let places = joined_runs c.args.runs.now in
    let cuts = c.in_ok-cuts.cuts.items in
    let of = cut_of inner shape c.as_slice.result.now c.as_slice-2.result.now places cuts c.as_slice.ensures.value c.as_slice-2.ensures.value c.in_ok-cuts.ensures.cells c.in_ok-cuts.ensures.cut in
    let small = inner_small inner shape c.as_slice.result.now c.as_slice-2.result.now c.as_slice.ensures.value c.as_slice-2.ensures.value c.as_slice.ensures.positive c.as_slice-2.ensures.positive c.requires.divided c.requires.counted in
    let are = sorted_of inner shape places cuts cuts c.as_slice-then-are_in_order.result.now of (IsPermutation-refl cuts) c.as_slice-then-are_in_order.ensures.value small in
    record {
      groups = groups_of_sorted inner shape places cuts cuts c.as_slice-then-are_in_order.result.now (map group c.in_ok-groups.groups.items) of (IsPermutation-refl cuts) c.as_slice-then-are_in_order.ensures.value (λ x. refl) c.in_ok-groups.ensures.groups;
      filled = c.in_ok-groups.ensures.filled;
      inside = c.in_ok-groups.ensures.inside (product inner) are.inside;
      apart = c.in_ok-groups.ensures.apart;
    }

pub returns-then-are_in_order-clause-order : goal.returns-then-are_in_order-clause-order
returns-then-are_in_order-clause-order c =
    let inner = c.args.inner.now in
    let shape = c.args.shape.now in
    let places = joined_runs c.args.runs.now in
    let cuts = c.in_ok-cuts.cuts.items in
    let of = cut_of inner shape c.as_slice.result.now c.as_slice-2.result.now places cuts c.as_slice.ensures.value c.as_slice-2.ensures.value c.in_ok-cuts.ensures.cells c.in_ok-cuts.ensures.cut in
    let slice = c.as_slice-then-are_in_order.result.now in
    let grouped = c.in_ok-groups.ensures.groups in
    let same = groups_of_sorted inner shape places cuts cuts slice (map group c.in_ok-groups.groups.items) of (IsPermutation-refl cuts) c.as_slice-then-are_in_order.ensures.value (λ x. refl) grouped in
    order_stays inner shape places cuts (map group c.in_ok-groups.groups.items) of.cells_are (subst (λ (xs : List CutRun). AreGrouped xs (map group c.in_ok-groups.groups.items)) c.as_slice-then-are_in_order.ensures.value grouped) same

pub groups-requires-2-clause-sorted : goal.groups-requires-2-clause-sorted
groups-requires-2-clause-sorted c =
    let sorted = c.sort_by_key.new.self.items in
    subst (IsNonDecreasingBy (λ (it : CutRun). it.number)) (sym c.as_slice-4.ensures.value) (IsNonDecreasingBy-from_sort_by_key (λ (it : CutRun). it.number) sorted c.in_ok-sort_by_key.ensures.sorted (λ a r q k. search rules))

pub groups-requires-2-clause-filled : goal.groups-requires-2-clause-filled
groups-requires-2-clause-filled c =
    let inner = c.args.inner.now in
    let shape = c.args.shape.now in
    let places = joined_runs c.args.runs.now in
    let cuts = c.in_ok-cuts.cuts.items in
    let of = cut_of inner shape c.as_slice.result.now c.as_slice-2.result.now places cuts c.as_slice.ensures.value c.as_slice-2.ensures.value c.in_ok-cuts.ensures.cells c.in_ok-cuts.ensures.cut in
    let small = inner_small inner shape c.as_slice.result.now c.as_slice-2.result.now c.as_slice.ensures.value c.as_slice-2.ensures.value c.as_slice.ensures.positive c.as_slice-2.ensures.positive c.requires.divided c.requires.counted in
    let sorted = c.sort_by_key.new.self.items in
    let are = sorted_of inner shape places cuts sorted c.as_slice-4.result.now of c.in_ok-sort_by_key.ensures.permutation c.as_slice-4.ensures.value small in
    are.filled

pub groups-requires-2-clause-fits : goal.groups-requires-2-clause-fits
groups-requires-2-clause-fits c =
    let inner = c.args.inner.now in
    let shape = c.args.shape.now in
    let places = joined_runs c.args.runs.now in
    let cuts = c.in_ok-cuts.cuts.items in
    let of = cut_of inner shape c.as_slice.result.now c.as_slice-2.result.now places cuts c.as_slice.ensures.value c.as_slice-2.ensures.value c.in_ok-cuts.ensures.cells c.in_ok-cuts.ensures.cut in
    let small = inner_small inner shape c.as_slice.result.now c.as_slice-2.result.now c.as_slice.ensures.value c.as_slice-2.ensures.value c.as_slice.ensures.positive c.as_slice-2.ensures.positive c.requires.divided c.requires.counted in
    let sorted = c.sort_by_key.new.self.items in
    let are = sorted_of inner shape places cuts sorted c.as_slice-4.result.now of c.in_ok-sort_by_key.ensures.permutation c.as_slice-4.ensures.value small in
    are.fits

pub spans-requires-clause-indexed : goal.spans-requires-clause-indexed
spans-requires-clause-indexed c =
    let inner = c.args.inner.now in
    let shape = c.args.shape.now in
    let places = joined_runs c.args.runs.now in
    let cuts = c.in_ok-cuts.cuts.items in
    let of = cut_of inner shape c.as_slice.result.now c.as_slice-2.result.now places cuts c.as_slice.ensures.value c.as_slice-2.ensures.value c.in_ok-cuts.ensures.cells c.in_ok-cuts.ensures.cut in
    let small = inner_small inner shape c.as_slice.result.now c.as_slice-2.result.now c.as_slice.ensures.value c.as_slice-2.ensures.value c.as_slice.ensures.positive c.as_slice-2.ensures.positive c.requires.divided c.requires.counted in
    let sorted = c.sort_by_key.new.self.items in
    let are = sorted_of inner shape places cuts sorted c.as_slice-5.result.now of c.in_ok-sort_by_key.ensures.permutation c.as_slice-5.ensures.value small in
    are.indexed

pub spans-requires-clause-fits : goal.spans-requires-clause-fits
spans-requires-clause-fits c =
    let inner = c.args.inner.now in
    let shape = c.args.shape.now in
    let places = joined_runs c.args.runs.now in
    let cuts = c.in_ok-cuts.cuts.items in
    let of = cut_of inner shape c.as_slice.result.now c.as_slice-2.result.now places cuts c.as_slice.ensures.value c.as_slice-2.ensures.value c.in_ok-cuts.ensures.cells c.in_ok-cuts.ensures.cut in
    let small = inner_small inner shape c.as_slice.result.now c.as_slice-2.result.now c.as_slice.ensures.value c.as_slice-2.ensures.value c.as_slice.ensures.positive c.as_slice-2.ensures.positive c.requires.divided c.requires.counted in
    let sorted = c.sort_by_key.new.self.items in
    let are = sorted_of inner shape places cuts sorted c.as_slice-5.result.now of c.in_ok-sort_by_key.ensures.permutation c.as_slice-5.ensures.value small in
    omega (arith, are.long, c.requires.count)

pub join_neighbours-requires : goal.join_neighbours-requires
join_neighbours-requires c =
    let inner = c.args.inner.now in
    let shape = c.args.shape.now in
    let places = joined_runs c.args.runs.now in
    let cuts = c.in_ok-cuts.cuts.items in
    let of = cut_of inner shape c.as_slice.result.now c.as_slice-2.result.now places cuts c.as_slice.ensures.value c.as_slice-2.ensures.value c.in_ok-cuts.ensures.cells c.in_ok-cuts.ensures.cut in
    let small = inner_small inner shape c.as_slice.result.now c.as_slice-2.result.now c.as_slice.ensures.value c.as_slice-2.ensures.value c.as_slice.ensures.positive c.as_slice-2.ensures.positive c.requires.divided c.requires.counted in
    let sorted = c.sort_by_key.new.self.items in
    let are = sorted_of inner shape places cuts sorted c.as_slice-5.result.now of c.in_ok-sort_by_key.ensures.permutation c.as_slice-5.ensures.value small in
    record { fits = subst (EndWithin (2 ^ 64 - 1)) (sym c.as_slice-6.ensures.value) (λ k d l. let h = c.in_ok-spans.ensures.inside k d l in omega (arith, h, are.long, c.requires.count)) }

pub returns-clause-groups : goal.returns-clause-groups
returns-clause-groups c =
    let inner = c.args.inner.now in
    let shape = c.args.shape.now in
    let places = joined_runs c.args.runs.now in
    let cuts = c.in_ok-cuts.cuts.items in
    let of = cut_of inner shape c.as_slice.result.now c.as_slice-2.result.now places cuts c.as_slice.ensures.value c.as_slice-2.ensures.value c.in_ok-cuts.ensures.cells c.in_ok-cuts.ensures.cut in
    let small = inner_small inner shape c.as_slice.result.now c.as_slice-2.result.now c.as_slice.ensures.value c.as_slice-2.ensures.value c.as_slice.ensures.positive c.as_slice-2.ensures.positive c.requires.divided c.requires.counted in
    let sorted = c.sort_by_key.new.self.items in
    let are = sorted_of inner shape places cuts sorted c.as_slice-4.result.now of c.in_ok-sort_by_key.ensures.permutation c.as_slice-4.ensures.value small in
    let stable : IsStableByKey (λ (it : CutRun). it.number) nat_cmp cuts sorted = c.sort_by_key.ensures.stable (λ it. it.number) (answers_always _ _ _ (λ f a r g h. search rules)) in
    record {
      groups = groups_of_sorted inner shape places cuts sorted c.as_slice-4.result.now (map group c.in_ok-groups-2.groups.items) of c.in_ok-sort_by_key.ensures.permutation c.as_slice-4.ensures.value stable c.in_ok-groups-2.ensures.groups;
      filled = c.in_ok-groups-2.ensures.filled;
      inside = c.in_ok-groups-2.ensures.inside (product inner) are.inside;
      apart = c.in_ok-groups-2.ensures.apart;
    }

pub returns-clause-order : goal.returns-clause-order
returns-clause-order c =
    let inner = c.args.inner.now in
    let shape = c.args.shape.now in
    let places = joined_runs c.args.runs.now in
    let cuts = c.in_ok-cuts.cuts.items in
    let of = cut_of inner shape c.as_slice.result.now c.as_slice-2.result.now places cuts c.as_slice.ensures.value c.as_slice-2.ensures.value c.in_ok-cuts.ensures.cells c.in_ok-cuts.ensures.cut in
    let sorted = c.sort_by_key.new.self.items in
    let stable : IsStableByKey (λ (it : CutRun). it.number) nat_cmp cuts sorted = c.sort_by_key.ensures.stable (λ it. it.number) (answers_always _ _ _ (λ f a r g h. search rules)) in
    order_of_sorted inner shape places (joined_runs c.in_ok-order.order.items) cuts sorted c.as_slice-4.result.now c.as_slice-5.result.now (map group c.in_ok-groups-2.groups.items) c.in_ok-spans.spans.items of c.in_ok-sort_by_key.ensures.permutation c.as_slice-4.ensures.value c.as_slice-5.ensures.value stable
    c.in_ok-groups-2.ensures.groups c.in_ok-spans.ensures.count c.in_ok-spans.ensures.spans (c.in_ok-order.ensures.places ∙ ap joined_runs c.as_slice-6.ensures.value)

pub returns-clause-order_inside : goal.returns-clause-order_inside
returns-clause-order_inside c =
    let inner = c.args.inner.now in
    let shape = c.args.shape.now in
    let places = joined_runs c.args.runs.now in
    let cuts = c.in_ok-cuts.cuts.items in
    let of = cut_of inner shape c.as_slice.result.now c.as_slice-2.result.now places cuts c.as_slice.ensures.value c.as_slice-2.ensures.value c.in_ok-cuts.ensures.cells c.in_ok-cuts.ensures.cut in
    let small = inner_small inner shape c.as_slice.result.now c.as_slice-2.result.now c.as_slice.ensures.value c.as_slice-2.ensures.value c.as_slice.ensures.positive c.as_slice-2.ensures.positive c.requires.divided c.requires.counted in
    let sorted = c.sort_by_key.new.self.items in
    let are = sorted_of inner shape places cuts sorted c.as_slice-5.result.now of c.in_ok-sort_by_key.ensures.permutation c.as_slice-5.ensures.value small in
    c.in_ok-order.ensures.below (length places) (subst (EndWithin (length places)) (sym c.as_slice-6.ensures.value) (subst (λ (n : ℕ). EndWithin n c.in_ok-spans.spans.items) are.long c.in_ok-spans.ensures.inside))
