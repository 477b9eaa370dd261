use Rattle.std.proofs.Common.{ap, ◌∙◌}
use Rattle.zarrs_array_bytes.specs.Validity.{data_fit}
use Rattle.zarrs_array_bytes.proofs.update.check_data.Goals as goal

pub returns-clause-exact : goal.returns-clause-exact
returns-clause-exact c =
    c.check_levels.ensures.exact ∙ ap (λ count. data_fit c.args.data_type.now count c.args.new.now) c.count_places.ensures.count
