use Rattle.std.proofs.Common.{◌≡◌, ◌∙◌, Some, ap}
use Rattle.serde_json.specs.View.{view}
use Rattle.zarrs_fill_values.specs.FillValues.{fill_of}
use Rattle.zarrs_array_metadata.specs.ArrayMetadata.{array_seen, array_of}
use Rattle.zarrs_array_metadata.proofs.WrittenAgain.{members_read}
use Rattle.zarrs_array_metadata.proofs.array_metadata_v3.ArrayMetadataV3.to_value.Goals as goal

pub returns-clause-read_again : goal.returns-clause-read_again
returns-clause-read_again c = λ valid.
    let m = array_seen c.args.self.now in
    let fill = view c.in_ok-fill.fill in
    let read : fill_of m.element_name fill ≡ Some m.fill_value = c.in_ok-fill.ensures.read_again in
    ap array_of c.in_ok-array_tree.ensures.value ∙ members_read m fill valid read
