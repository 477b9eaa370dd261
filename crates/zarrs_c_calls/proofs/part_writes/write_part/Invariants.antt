use Rattle.zarrs_c_calls.proofs.part_writes.write_part.Given as goal

-- the buffer as it is
abbrev pub ghosts-write_branded : goal.ghosts-write_branded
ghosts-write_branded a = record { before = a.out.now }
