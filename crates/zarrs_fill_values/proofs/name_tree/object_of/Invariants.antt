use Rattle.std.proofs.Common.{◌≡◌}
use Rattle.zarrs_metadata.specs.MetadataV3.{configuration_seen}
use Rattle.zarrs_fill_values.specs.NameTree.{name_object}
use Rattle.zarrs_fill_values.proofs.name_tree.object_of.Given as goal

-- the object so far names as many optional types as rounds were made
abbrev pub invariant-loop-level : goal.invariant-loop-level
invariant-loop-level l = configuration_seen l.members ≡ name_object l.level l.fn.name.plain
