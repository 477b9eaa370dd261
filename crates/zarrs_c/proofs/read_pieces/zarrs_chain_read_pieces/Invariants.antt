use Rattle.zarrs_c.proofs.read_pieces.zarrs_chain_read_pieces.Given as goal

abbrev pub ghost-zarrs_chain_read_pieces : goal.ghost-zarrs_chain_read_pieces
ghost-zarrs_chain_read_pieces g a = g.value
