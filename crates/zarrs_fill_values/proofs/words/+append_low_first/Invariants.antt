use Rattle.zarrs_fill_values.proofs.words.+append_low_first.Given as goal

-- one byte less
abbrev pub decreases-append_low_first : goal.decreases-append_low_first
decreases-append_low_first l = l.size
