use Rattle.std.proofs.Common.{[]}
use Rattle.zarrs_c_calls_tests.proofs.kept_calls.read_pieces.Given as goal

abbrev pub ghost-zarrs_chain_read_pieces : goal.ghost-zarrs_chain_read_pieces
ghost-zarrs_chain_read_pieces g = []
