use Rattle.std.proofs.Common.{◌≡◌, true, take}
use Rattle.std.specs.Bool.{nat_eq}
use Rattle.std.specs.List.{list_all}
use Rattle.zarrs_shard_bytes.proofs.fill_elements.has_flag_alone.Given as goal

abbrev pub invariant-loop-byte : goal.invariant-loop-byte
invariant-loop-byte l = list_all (λ byte. nat_eq byte l.flag) (take l.byte-index l.mask) ≡ true
