use Rattle.std.proofs.Common.{◌≡◌, ◌&&◌, ◌-◌, nat_eq, ℕ, List, rules, arith, length, take, drop, true, false, refl, sym, ap, ◌∙◌}
use Rattle.std.proofs.lemmas.List.{length-drop, take_all}
use Rattle.std.specs.Cmp.Lexicographic.{pointwise}
use Rattle.zarrs_shard_bytes.proofs.FillTests.{repeated}
use Rattle.zarrs_shard_bytes.proofs.fill_elements.repeats.Goals as goal

pub returns-then-eq : goal.returns-then-eq
returns-then-eq c = record {
  value = λ count long.
      let items = c.args.bytes.now in
      let item = c.args.item.now in
      let size = length item in
      let first : pointwise nat_eq (take size items) item ≡ true = search rules in
      let second : c.is_same.result ≡ pointwise nat_eq (drop size items) (take (length items - size) items) = c.is_same.ensures.value ∙ ap (λ (xs : List ℕ). pointwise nat_eq xs (take (length items - size) items)) (take_all (length items - size) (drop size items) (omega (arith, length-drop size items))) in
      second ∙ ap (λ b. b && pointwise nat_eq (drop size items) (take (length items - size) items)) (sym first) ∙ repeated size count item items refl long (omega arith) c.requires.sized;
}

pub returns-else-eq : goal.returns-else-eq
returns-else-eq c = record {
  value = λ count long.
      let items = c.args.bytes.now in
      let item = c.args.item.now in
      let size = length item in
      let first : c.eq.result ≡ pointwise nat_eq (take size items) item = search rules in
      let told : c.eq.result ≡ false = search rules in
      told ∙ ap (λ b. b && pointwise nat_eq (drop size items) (take (length items - size) items)) (sym told ∙ first) ∙ repeated size count item items refl long (omega arith) c.requires.sized;
}
