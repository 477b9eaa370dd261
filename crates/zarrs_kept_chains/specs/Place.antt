-- What the address of something kept owns.
use Rattle.std.specs.Prelude.{Option, Some, None}
use Rattle.std.specs.Box.Ownership.{box_owns}
use Rattle.std.specs.Coded.{Coded, coded_option}
use base.Fml.{Fml, ftrue}
use denote.RawPtr.{Ptr}
use mir.Syntax.{Ty}
use Rattle.zarrs_kept_chains.specs.contracts.kept.Kept.{the_row}
use Rattle.zarrs_kept_chains.specs.declared.kept.Kept.{Kept}

-- what a box at that address owns: what is kept, and the right to free it; where nothing is kept, nothing
abbrev pub place_owns : (Ty → Ptr → Fml) → Option Kept → Ptr → Fml
place_owns token None at = ftrue
place_owns token (Some kept) at = box_owns token the_row at kept

-- how the logic stores what is kept, or that nothing is
abbrev pub kept_coded : Coded (Option Kept)
kept_coded = coded_option the_row.coded
