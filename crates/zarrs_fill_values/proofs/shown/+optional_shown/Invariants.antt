use Rattle.zarrs_fill_values.proofs.shown.+optional_shown.Given as goal

-- one optional type less
abbrev pub decreases-optional_shown : goal.decreases-optional_shown
decreases-optional_shown l = l.levels
