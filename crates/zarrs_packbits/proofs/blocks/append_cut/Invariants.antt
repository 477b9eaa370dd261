use Rattle.std.proofs.Common.{◌≡◌, ◌*◌, ◌++◌}
use Rattle.std.specs.List.{flat_map, range_with_len}
use Rattle.zarrs_packbits.specs.Bits.{bits_of, field}
use Rattle.zarrs_packbits.specs.KeptBits.{component_bits}
use Rattle.zarrs_packbits.proofs.blocks.append_cut.Given as goal

abbrev pub invariant-loop-block : goal.invariant-loop-block
invariant-loop-block l = bits_of l.out.items ≡ bits_of l.initial.out.items ++ flat_map (λ part. field l.first l.count (component_bits 1 l.bytes part)) (range_with_len 0 (64 * l.block))
