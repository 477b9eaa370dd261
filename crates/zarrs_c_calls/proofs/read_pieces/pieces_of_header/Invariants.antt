use Rattle.zarrs_c_calls.proofs.read_pieces.pieces_of_header.Given as goal

abbrev pub ghost-read_fetched : goal.ghost-read_fetched
ghost-read_fetched g a = g.value
