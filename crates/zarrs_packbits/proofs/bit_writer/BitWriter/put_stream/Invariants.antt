use Rattle.std.proofs.Common.{◌≡◌, ◌++◌}
use Rattle.std.specs.List.{flat_map, range_with_len}
use Rattle.zarrs_packbits.proofs.bit_writer.BitWriter.put_stream.Given as goal
use Rattle.zarrs_packbits.specs.Bits.{field}
use Rattle.zarrs_packbits.specs.KeptBits.{component_bits}

abbrev pub invariant-loop-part : goal.invariant-loop-part
invariant-loop-part l = l.self ≡ l.initial.self ++ flat_map (λ part. field l.layout.first l.layout.count (component_bits l.layout.size l.bytes part)) (range_with_len 0 l.part)
