use Rattle.std.proofs.Common.{◌≡◌, ◌++◌, ◌∷◌, drop, map, length}
use Rattle.std.specs.List.{flat_map}
use Rattle.zarrs_array_bytes.specs.Elements.{cut}
use Rattle.zarrs_array_bytes.specs.Pieces.{ends}
use Rattle.zarrs_array_bytes.specs.Sources.{source_bytes}
use Rattle.zarrs_array_bytes.proofs.sources.gather_sources.Given as goal

abbrev pub invariant-loop-source : goal.invariant-loop-source
invariant-loop-source l =
    let f = source_bytes (cut l.old_offsets l.old) (cut l.new_offsets l.new) in
    record {
      told : l.out.items ++ flat_map f (drop l.source-index l.from) ≡ flat_map f l.from;
      ended : l.ends.items ++ ends (length l.out.items) (map f (drop l.source-index l.from)) ≡ 0 ∷ ends 0 (map f l.from);
    }
