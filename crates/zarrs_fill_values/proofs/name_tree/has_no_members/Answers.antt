use Rattle.zarrs_fill_values.proofs.NameTrees.{has_no_members-entries}
use Rattle.zarrs_fill_values.proofs.name_tree.has_no_members.Goals as goal

pub returns : goal.returns
returns c = record { value = has_no_members-entries c.is_empty.result c.args.members.now.entries c.is_empty.ensures }
