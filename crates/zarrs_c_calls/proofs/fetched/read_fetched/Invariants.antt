use Rattle.zarrs_lent_handles.specs.Elsewhere.{own_bytes}
use Rattle.zarrs_c_calls.proofs.fetched.read_fetched.Given as goal

-- the value's own bytes, where no piece is
abbrev pub ghosts-read_apart : goal.ghosts-read_apart
ghosts-read_apart g a = record { elsewhere = own_bytes g.value }
