-- Elements that are never absent: nothing stands under absent ones.
use Rattle.std.proofs.Common.{◌≡◌, false}
use Rattle.std.specs.Prelude.{is_some}
use Rattle.zarrs_data_type.specs.ElementType.{ElementType, fixed, text, bytes, optional, inner_of}
use Rattle.zarrs_array_bytes.specs.Blank.{AbsentAreBlank}
use Rattle.zarrs_array_bytes.specs.Held.{Held}

pub never_absent : (type : ElementType) (held : Held) → is_some (inner_of type) ≡ false → AbsentAreBlank type held
never_absent (fixed width components sign) held e = tt
never_absent text held e = tt
never_absent bytes held e = tt
never_absent (optional type) held e = absurd (cc)
