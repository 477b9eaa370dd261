use Rattle.std.proofs.Common.{◌≡◌, Ok}
use Rattle.zarrs_chunk.specs.Answer.{seen}
use Rattle.zarrs_fill_values.specs.ElementName.{plain_type, optional_round}
use Rattle.zarrs_fill_values.proofs.element_name.ElementName.data_type.Given as goal

-- the type so far has as many optional types round it as rounds were made
abbrev pub invariant-loop-level : goal.invariant-loop-level
invariant-loop-level l = seen (optional_round l.level) (plain_type l.fn.self.plain) ≡ Ok l.data_type
