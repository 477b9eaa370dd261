use Rattle.zarrs_array_bytes.proofs.repeat.+append_blocks.Given as goal

abbrev pub decreases-append_blocks : goal.decreases-append_blocks
decreases-append_blocks l = l.count
