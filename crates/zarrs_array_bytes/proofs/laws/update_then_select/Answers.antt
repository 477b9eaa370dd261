use Rattle.std.proofs.Common.{◌≡◌, ℕ, get_or, ◌∙◌}
use Rattle.std.proofs.lemmas.List.{get_or-map}
use Rattle.zarrs_data_type.specs.Element.{Element, absent}
use Rattle.zarrs_array_bytes.specs.Elements.{select}
use Rattle.zarrs_array_bytes.specs.Update.{update}
use Rattle.zarrs_array_bytes.proofs.UpdateLaw.{untouched, written}
use Rattle.zarrs_array_bytes.proofs.laws.update_then_select.Goals as goal

pub returns : goal.returns
returns c = record {
  last_stands = λ chunk new places others i count known here.
      let place = get_or others i 0 in
      let at : ℕ → Element = λ p. get_or (update chunk places new) p absent in
      let picked : get_or (select (update chunk places new) others) i absent ≡ get_or (update chunk places new) place absent = get_or-map at others i 0 absent known in
      (λ other. picked ∙ untouched chunk new places place absent other, λ number write. picked ∙ written chunk new places place absent number here count write.known write.here write.last);
}
