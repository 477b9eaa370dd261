use Rattle.std.proofs.Common.{◌≡◌, map, take}
use Rattle.serde_json.specs.View.{view}
use Rattle.zarrs_array_metadata.specs.OtherKeys.{name_seen}
use Rattle.zarrs_array_metadata.specs.Written.{dimension_name_tree}
use Rattle.zarrs_array_metadata.proofs.written.names_tree.Given as goal

-- the names so far are listed
abbrev pub invariant-loop-name : goal.invariant-loop-name
invariant-loop-name l = map view l.items.items ≡ map dimension_name_tree (map name_seen (take l.name-index l.names))
