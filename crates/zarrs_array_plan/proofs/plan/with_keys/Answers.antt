use Rattle.std.proofs.Common.{◌∙◌, ap, map, sym, subst}
use Rattle.std.specs.List.{All}
use Rattle.std.proofs.lemmas.List.Elements.{All-push}
use Rattle.zarrs_array_plan.specs.ChunkKeys.{key_of}
use Rattle.zarrs_array_plan.specs.Planned.{HasOwnKey}
use Rattle.zarrs_array_plan.specs.declared.planned_chunk.PlannedChunk.{PlannedChunk}
use Rattle.zarrs_array_plan.proofs.PlannedRegions.{parts_more}
use Rattle.zarrs_array_plan.proofs.plan.with_keys.Goals as goal

pub loop-part-preserved : goal.loop-part-preserved
loop-part-preserved c =
    let keys = c.args.keys in
    let planned = c.loop-part.planned.items in
    let it : PlannedChunk = record { key = c.in_ok-key.key; part = c.in-Some.part } in
    let pushed = (c.in_ok-push.ensures {u = tt}).items in
    let own = (c.in_ok-key.ensures {u = tt}).key ∙ ap (key_of keys) c.as_slice.ensures.value in
    record {
      parts = ap (map (λ (x : PlannedChunk). x.part)) pushed ∙ parts_more planned c.loop-part.yielded it c.loop-part.invariant.parts;
      keys = subst (All (HasOwnKey keys)) (sym pushed) (All-push (HasOwnKey keys) planned it c.loop-part.invariant.keys own);
    }
