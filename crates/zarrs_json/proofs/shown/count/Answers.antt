use Rattle.std.proofs.Common.{ap, sym, Ok}
use Rattle.zarrs_json.proofs.ShownLemmas.{fixed_counted}
use Rattle.zarrs_json.proofs.shown.count.Goals as goal

pub returns-in_ok-as_fixed-in-Some : goal.returns-in_ok-as_fixed-in-Some
returns-in_ok-as_fixed-in-Some c = record {
  count = λ n fits. ap Ok (fixed_counted c.args.data_type.now c.args.elements.now c.in_ok-as_fixed-in-Some.field-0.now n c.in-Some.size fits (sym c.in-Some.ensures.value) c.in-Some.ensures.positive c.in_ok-as_fixed-in-Some.ensures.answer);
}
