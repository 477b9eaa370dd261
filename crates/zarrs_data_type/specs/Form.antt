-- The kind of a chunk.
-- Source: the Zarr v3 core specification, array metadata.
use Rattle.std.specs.Prelude.{ℕ, List}
use Rattle.zarrs_data_type.specs.ElementType.{ElementType}

-- the sizes of a chunk, the type of its elements and the fill value
pub record Form : Type 0 where
  pub sizes : List ℕ
  pub type : ElementType
  pub fill : List ℕ

-- the form with these sizes, this type and this fill value
abbrev pub form_of : List ℕ → ElementType → List ℕ → Form
form_of sizes type fill = record { sizes = sizes; type = type; fill = fill }
