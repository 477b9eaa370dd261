use Rattle.std.proofs.Common.{◌≡◌, List, ℕ, Option, length, sym, subst, arith}
use Rattle.std.specs.Prelude.{ok_or}
use Rattle.zarrs_fill_values.specs.ElementError.{ElementBytes}
use Rattle.zarrs_fill_values.specs.declared.element_error.ElementError.TheVariants.{InvalidFillValue}
use Rattle.zarrs_fill_values.proofs.Pairs.{pair_found, pair_none}
use Rattle.zarrs_fill_values.proofs.fill_values.float_pair.Goals as goal

pub returns-then-len-eq2 : goal.returns-then-len-eq2
returns-then-len-eq2 c =
    let two : length c.args.items.now.items ≡ 2 = omega (arith, c.len.ensures, c.args.items.now.ok.0, c.if-len-eq2.true) in
    record {
      answer = subst (λ (y : Option (List ℕ)). ElementBytes {A = ℕ} c.list_floats.result (ok_or y InvalidFillValue))
          (sym (pair_found c.args.name c.args.items.now.items two))
          c.list_floats.ensures.answer;
    }

pub returns-else-len-eq2 : goal.returns-else-len-eq2
returns-else-len-eq2 c =
    record { answer = λ _. pair_none c.args.name c.args.items.now.items (λ h. c.if-len-eq2.false (omega (arith, c.len.ensures, c.args.items.now.ok.0, h))) }
