use Rattle.std.proofs.Common.{◌≡◌, ◌&&◌, nat_lt, drop}
use Rattle.std.specs.List.{list_all}
use Rattle.zarrs_array_bytes.proofs.array_bytes.is_mask.Given as goal

abbrev pub invariant-loop-byte : goal.invariant-loop-byte
invariant-loop-byte l = nat_lt l.largest 2 && list_all (λ byte. nat_lt byte 2) (drop l.byte-index l.mask) ≡ list_all (λ byte. nat_lt byte 2) l.mask
