use Rattle.std.proofs.Common.{◌≡◌, ◌∙◌, ◌≤◌, ap, sym, subst, arith, codes}
use Rattle.std.specs.Prelude.{Result}
use Rattle.serde_json.specs.Data.{depth, object, members_depth}
use Rattle.serde_json.specs.View.{view, members_view}
use Rattle.serde_json.proofs.Views.{view-Object}
use Rattle.zarrs_chunk.specs.Answer.{Answers}
use Rattle.zarrs_data_type.specs.ElementType.{ElementType}
use Rattle.zarrs_json.specs.DataType.{type_in}
use Rattle.zarrs_json.specs.Refusal.{refusal_memory}
use Rattle.zarrs_json.specs.declared.refusal.Refusal.{Refusal}
use Rattle.zarrs_json.proofs.TypeLemmas.{type_in-optional, type_in-components, only_member-depth}
use Rattle.zarrs_json.proofs.data_types.+data_type.Goals as goal

pub data_type-requires : goal.data_type-requires
data_type-requires t c =
    let members = members_view c.in-Object.members.entries in
    let within : depth (view c.in-Some.inner.now) ≤ members_depth members = only_member-depth (codes "optional") members (view c.in-Some.inner.now) (sym c.in-Some.ensures.value) in
    let whole : view c.args.tree.now ≡ object members = ap view c.in-Object.is ∙ view-Object c.in-Object.members in
    (omega (arith, within, ap depth whole), tt)

pub returns-in-Some : goal.returns-in-Some
returns-in-Some t c =
    let members = members_view c.in-Object.members.entries in
    let whole : view c.args.tree.now ≡ object members = ap view c.in-Object.is ∙ view-Object c.in-Object.members in
    record {
      answer = subst (λ (y : Result ElementType Refusal). Answers {V = ElementType} refusal_memory (λ type. type) c.optional.result y)
          (sym (ap type_in whole ∙ type_in-optional members (view c.in-Some.inner.now) (sym c.in-Some.ensures.value)))
          (c.optional.ensures.answer (type_in (view c.in-Some.inner.now)) c.data_type.ensures.answer);
    }

pub returns-in-None : goal.returns-in-None
returns-in-None t c =
    let members = members_view c.in-Object.members.entries in
    let whole : view c.args.tree.now ≡ object members = ap view c.in-Object.is ∙ view-Object c.in-Object.members in
    record {
      answer = subst (λ (y : Result ElementType Refusal). Answers {V = ElementType} refusal_memory (λ type. type) c.several.result y)
          (sym (ap type_in whole ∙ type_in-components members (sym c.in-None.ensures.value)))
          c.several.ensures.answer;
    }
