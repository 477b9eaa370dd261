use Rattle.std.proofs.Common.{◌≡◌}
use Rattle.serde_json.specs.View.{members_view}
use Rattle.zarrs_array_metadata.specs.Additional.{first_unknown}
use Rattle.zarrs_array_metadata.proofs.kept_members.first_unknown_key.Given as goal

-- those so far are understood
abbrev pub invariant-loop-key : goal.invariant-loop-key
invariant-loop-key l = first_unknown (members_view l.key-iterator) ≡ first_unknown (members_view l.members.entries)
