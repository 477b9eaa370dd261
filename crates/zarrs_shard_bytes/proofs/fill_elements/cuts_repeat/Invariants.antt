use Rattle.std.proofs.Common.{◌≡◌, true}
use Rattle.std.specs.Bool.{nat_eq}
use Rattle.std.specs.Cmp.Lexicographic.{pointwise}
use Rattle.std.specs.List.{list_all}
use Rattle.zarrs_array_bytes.specs.Update.{cuts}
use Rattle.zarrs_shard_bytes.proofs.fill_elements.cuts_repeat.Given as goal

abbrev pub invariant-loop-place : goal.invariant-loop-place
invariant-loop-place l = list_all (λ part. pointwise nat_eq part l.item) (cuts l.place l.offsets l.bytes) ≡ true
