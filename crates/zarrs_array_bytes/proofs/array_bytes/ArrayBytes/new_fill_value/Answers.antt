use Rattle.std.proofs.Common.{◌≡◌, Ok, sym, true, rules}
use Rattle.zarrs_chunk.specs.Answer.{Answers, memory}
use Rattle.zarrs_data_type.specs.FillValue.{fill_fits}
use Rattle.zarrs_array_bytes.specs.Held.{Held}
use Rattle.zarrs_array_bytes.specs.Validity.{sizes_fit}
use Rattle.zarrs_array_bytes.specs.Filled.{container_fill}
use Rattle.zarrs_array_bytes.proofs.AnswerLemmas.{fill_answers, held_is}
use Rattle.zarrs_array_bytes.proofs.TightLemmas.{fill_tight, tight_is}
use Rattle.zarrs_array_bytes.proofs.array_bytes.ArrayBytes.new_fill_value.Goals as goal

pub returns-clause-exact : goal.returns-clause-exact
returns-clause-exact c =
    let fit : fill_fits c.args.data_type.now c.args.fill_value.now ≡ true = search rules in
    let sizes : sizes_fit c.args.data_type.now c.args.count ≡ Ok tt = sym (c.in_ok-check_sizes.ensures {u = tt}).exact in
    let gives : Answers memory (λ (a : Held). a) c.fill_elements.result (Ok (container_fill c.args.data_type.now c.args.count c.args.fill_value.now)) = rw c.as_ne_bytes.ensures.value at c.fill_elements.ensures.exact.is in
    record { is = fill_answers _ _ _ c.fill_elements.result fit sizes gives; no_fault = search rules }

pub returns-clause-held : goal.returns-clause-held
returns-clause-held c =
    let gives : Answers memory (λ (a : Held). a) c.fill_elements.result (Ok (container_fill c.args.data_type.now c.args.count c.args.fill_value.now)) = rw c.as_ne_bytes.ensures.value at c.fill_elements.ensures.exact.is in
    held_is _ c.fill_elements.result gives

pub returns-clause-tight : goal.returns-clause-tight
returns-clause-tight c =
    let gives : Answers memory (λ (a : Held). a) c.fill_elements.result (Ok (container_fill c.args.data_type.now c.args.count c.args.fill_value.now)) = rw c.as_ne_bytes.ensures.value at c.fill_elements.ensures.exact.is in
    tight_is c.args.data_type.now _ c.fill_elements.result gives (fill_tight c.args.data_type.now c.args.count c.args.fill_value.now)
