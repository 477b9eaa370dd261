-- What a layout is seen as.
use Rattle.zarrs_chain_meaning.specs.vlen.VlenLayout.{VlenLayout}
use Rattle.zarrs_plain_vlen.specs.declared.layout.Layout.{Layout}

-- where index and data stand
abbrev pub vlen_layout : Layout → VlenLayout
vlen_layout layout = record { index = layout.index; content = layout.content }
