-- What the form of a chunk is seen as.
use Rattle.zarrs_data_type.specs.Form.{Form as ChunkForm, form_of}
use Rattle.zarrs_chain.specs.declared.form.Form.{Form}

-- the sizes, the type and the fill value that a form lends
abbrev pub lent_form : Form → ChunkForm
lent_form form = form_of form.shape.now form.data_type.now form.fill_value.now
