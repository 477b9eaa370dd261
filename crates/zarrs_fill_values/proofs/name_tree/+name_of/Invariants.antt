use Rattle.serde_json.specs.Data.{depth}
use Rattle.serde_json.specs.View.{view}
use Rattle.zarrs_fill_values.proofs.name_tree.+name_of.Given as goal

-- the type inside is less deep
abbrev pub decreases-name_of : goal.decreases-name_of
decreases-name_of l = depth (view l.tree.now)
