use Rattle.std.proofs.Common.{ap, ◌∙◌, sym}
use Rattle.zarrs_data_type.specs.FillValue.{fill_fits}
use Rattle.zarrs_data_type.proofs.FillLemmas.{fill_element-IsElement}
use Rattle.zarrs_data_type.proofs.fill_value.FillValue.fits.Goals as goal

pub returns-clause-element : goal.returns-clause-element
returns-clause-element c = λ is_true.
    let type = c.args.data_type.now in
    fill_element-IsElement type c.args.self.now (ap (fill_fits type) (sym c.as_ne_bytes.ensures.value) ∙ sym c.accepts.ensures.value ∙ is_true)
