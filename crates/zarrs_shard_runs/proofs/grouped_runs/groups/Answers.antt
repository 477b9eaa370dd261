use Rattle.std.proofs.Common.{◌≡◌, ◌+◌, ◌-◌, ◌<◌, ◌≤◌, take, drop, get_or, length, map, arith, ap, sym, subst}
use Rattle.std.proofs.lemmas.List.{map_push, take_rest}
use Rattle.std.proofs.lemmas.List.Elements.{All-drop, All-push, All-take}
use Rattle.zarrs_chunk.specs.Runs.{AreApart, AreFilled, EndWithin, joined_runs}
use Rattle.zarrs_shard_runs.specs.GroupedRuns.{group}
use Rattle.zarrs_shard_runs.specs.declared.cut_runs.CutRun.{CutRun}
use Rattle.zarrs_shard_runs.specs.declared.grouped_runs.InnerRuns.{InnerRuns}
use Rattle.zarrs_shard_runs.proofs.GroupSteps.{AreGroupedTo, grouped_next}
use Rattle.zarrs_shard_runs.proofs.grouped_runs.groups.Goals as goal

pub loop-at-preserved : goal.loop-at-preserved
loop-at-preserved c =
    let cuts = c.args.cuts.now in
    let at = c.loop-at.at in
    let count = c.group_len.result in
    let found = c.loop-at.groups.items in
    let zero : CutRun = record { number = 0; start = 0; len = 0; index = 0 } in
    let it : InnerRuns = record { number = (get_or cuts at zero).number; runs = c.in_ok-runs.runs } in
    let here : at < length cuts = omega arith in
    let rest = take (length cuts - at) (drop at cuts) in
    let part = take (at + count - at) (drop at cuts) in
    let same : part ≡ take count (drop at cuts) = ap (λ n. take n (drop at cuts)) (let e : at + count - at ≡ count = omega arith in e) in
    let next = grouped_next cuts rest part at count zero (map group found) (joined_runs c.in_ok-runs.runs.items) c.requires.sorted c.requires.filled c.loop-at.invariant.grouped here (take_rest cuts at) same
    c.group_len.ensures.some c.group_len.ensures.within c.group_len.ensures.same c.group_len.ensures.longest c.in_ok-runs.ensures.places in
    rw c.in_ok-push.ensures.items (record {
      grouped = subst (AreGroupedTo cuts (at + count)) (sym (map_push group found it)) next;
      filled = All-push (λ (it : InnerRuns). AreFilled it.runs.items) found it c.loop-at.invariant.filled c.in_ok-runs.ensures.filled;
      apart = All-push (λ (it : InnerRuns). AreApart it.runs.items) found it c.loop-at.invariant.apart c.in_ok-runs.ensures.apart;
      inside = λ limit h. All-push (λ (it : InnerRuns). EndWithin limit it.runs.items) found it (c.loop-at.invariant.inside limit h) (c.in_ok-runs.ensures.inside limit (All-take (λ (it : CutRun). it.start + it.len ≤ limit) (at + count - at) (drop at cuts) (All-drop (λ (it : CutRun). it.start + it.len ≤ limit) at cuts h)));
    })
