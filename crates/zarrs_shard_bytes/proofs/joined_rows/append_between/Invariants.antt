use Rattle.std.proofs.Common.{◌≡◌, ◌++◌, take}
use Rattle.std.specs.List.{flat_map, between}
use Rattle.zarrs_array_bytes.specs.Held.{items_of}
use Rattle.zarrs_shard_bytes.proofs.joined_rows.append_between.Given as goal

abbrev pub invariant-loop-content : goal.invariant-loop-content
invariant-loop-content l = l.out.items ≡ l.initial.out.items ++ flat_map (λ content. between l.from l.to (items_of content)) (take l.content-index l.contents)
