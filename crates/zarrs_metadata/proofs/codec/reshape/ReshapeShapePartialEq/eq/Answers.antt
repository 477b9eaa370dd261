use Rattle.std.proofs.Common.{sym, ◌∙◌}
use Rattle.std.specs.Cmp.Derive.Mapped.{pointwise-map}
use Rattle.zarrs_metadata.specs.ReshapeShape.{dim_of}
use Rattle.zarrs_metadata.specs.SameDim.{is_same_dim}
use Rattle.zarrs_metadata.proofs.codec.reshape.ReshapeShapePartialEq.eq.Goals as goal

pub returns : goal.returns
returns c =
    rw (← c.self.view_is, ← c.other.view_is) (c.eq.ensures ∙ sym (pointwise-map dim_of is_same_dim c.self.inside.dims.items c.other.inside.dims.items))
