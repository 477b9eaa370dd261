use Rattle.zarrs_fill_values.proofs.fill_values.+optional_fill.Given as goal

-- one optional type less
abbrev pub decreases-optional_fill : goal.decreases-optional_fill
decreases-optional_fill l = l.levels
