use Rattle.std.proofs.Common.{◌≡◌, ◌++◌, drop, string_bytes}
use Rattle.zarrs_array_plan.specs.ChunkKeys.{separator_byte, separated}
use Rattle.zarrs_array_plan.proofs.chunk_key_encoding.push_separated.Given as goal

abbrev pub invariant-loop-number : goal.invariant-loop-number
invariant-loop-number l = string_bytes l.key ++ separated (separator_byte l.separator) (drop l.number-index l.numbers) ≡ string_bytes l.initial.key ++ separated (separator_byte l.separator) l.numbers
