-- What a handle lends.
use Rattle.std.specs.Prelude.{Option, None}
use Rattle.std.specs.Borrow.{GName}
use Rattle.zarrs_codec.specs.StorageState.{StorageState}

-- A reference that a handle is made of: its name; and, where the handle is a part of the one behind it, the state of that one with no failures in it (`faults` is 0, `failure` none): what a reading call leaves as it was.
pub record Lent : Type 0 where
  pub name : GName
  pub behind : Option StorageState

-- a reference to a handle as a whole, whose state is all of that handle's
abbrev pub whole_reference : GName → Lent
whole_reference name = record { name = name; behind = None }
