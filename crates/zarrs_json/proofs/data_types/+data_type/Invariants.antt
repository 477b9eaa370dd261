use Rattle.serde_json.specs.Data.{depth}
use Rattle.serde_json.specs.View.{view}
use Rattle.zarrs_json.proofs.data_types.+data_type.Given as goal

-- the type inside is less deep
abbrev pub decreases-data_type : goal.decreases-data_type
decreases-data_type l = depth (view l.tree.now)
