use Rattle.std.proofs.Common.{◌≡◌, ◌-◌, drop, length, map}
use Rattle.std.specs.List.{range_with_len}
use Rattle.zarrs_array_bytes.specs.Update.{update}
use Rattle.zarrs_array_bytes.specs.declared.sources.Source.TheVariants.{Old, New}
use Rattle.zarrs_array_bytes.proofs.UpdateCalls.{sources}
use Rattle.zarrs_array_bytes.proofs.sources.sources_of.Given as goal

abbrev pub invariant-loop-place : goal.invariant-loop-place
invariant-loop-place l = l.from.items ≡ map Old (range_with_len 0 l.place)

abbrev pub invariant-loop-place-2 : goal.invariant-loop-place-2
invariant-loop-place-2 l = record {
  count : l.next ≡ l.place-index;
  long : length l.from.items ≡ l.count;
  told : update l.from.items (drop l.place-index l.places) (map New (range_with_len l.next (length l.places - l.place-index))) ≡ sources l.count l.places;
}
