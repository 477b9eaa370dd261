use Rattle.zarrs_c_calls.proofs.read_pieces.zarrs_chain_read_pieces.Given as goal

abbrev pub ghost-pieces_of_header : goal.ghost-pieces_of_header
ghost-pieces_of_header g a = g.value
