use Rattle.std.proofs.Common.{◌≡◌, ◌-◌, ◌++◌, true, length, take}
use Rattle.std.specs.List.{flat_map, list_all}
use Rattle.zarrs_vlen_v2.specs.VlenV2Codec.{u32_bytes, prefixed_element, is_short}
use Rattle.zarrs_vlen_v2.proofs.Writing.{cut_elements}
use Rattle.zarrs_vlen_v2.proofs.prefixed_values.prefixed_value.Given as goal

abbrev pub invariant-loop-index : goal.invariant-loop-index
invariant-loop-index l = record {
  so_far : l.value.items ≡ u32_bytes (length l.offsets - 1) ++ flat_map prefixed_element (take l.index (cut_elements l.offsets l.bytes));
  short : list_all is_short (take l.index (cut_elements l.offsets l.bytes)) ≡ true;
}
