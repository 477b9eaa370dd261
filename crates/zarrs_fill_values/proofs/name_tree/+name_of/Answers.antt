use Rattle.std.proofs.Common.{◌≡◌, ◌∙◌, ◌≤◌, ap, sym, arith, codes}
use Rattle.serde_json.specs.Data.{depth, object, members_depth}
use Rattle.serde_json.specs.View.{view, members_view}
use Rattle.serde_json.proofs.Views.{view-Object}
use Rattle.zarrs_fill_values.specs.NameTree.{name_in, level_round}
use Rattle.zarrs_fill_values.proofs.NameTrees.{name_in-inner, name_in-bare, inner_tree-configuration, get_member-depth}
use Rattle.zarrs_fill_values.proofs.name_tree.+name_of.Goals as goal

pub name_of-requires : goal.name_of-requires
name_of-requires t c =
    let members = members_view c.in-Object.members.entries in
    let tree = view c.in-Some.inner.now in
    let within : depth tree ≤ members_depth members = get_member-depth (codes "configuration") members tree (inner_tree-configuration members tree (sym c.in-Some.ensures.value)) in
    let whole : view c.args.tree.now ≡ object members = ap view c.in-Object.is ∙ view-Object c.in-Object.members in
    (omega (arith, within, ap depth whole), tt)

pub returns-in-Some : goal.returns-in-Some
returns-in-Some t c =
    let members = members_view c.in-Object.members.entries in
    let whole : view c.args.tree.now ≡ object members = ap view c.in-Object.is ∙ view-Object c.in-Object.members in
    record {
      answer = c.level_round.ensures.answer ∙ ap level_round c.name_of.ensures.answer ∙ sym (ap name_in whole ∙ name_in-inner members (view c.in-Some.inner.now) (sym c.in-Some.ensures.value));
    }

pub returns-in-None : goal.returns-in-None
returns-in-None t c =
    let members = members_view c.in-Object.members.entries in
    let whole : view c.args.tree.now ≡ object members = ap view c.in-Object.is ∙ view-Object c.in-Object.members in
    record {
      answer = c.bare_name.ensures.answer ∙ sym (ap name_in whole ∙ name_in-bare members (sym c.in-None.ensures.value));
    }
