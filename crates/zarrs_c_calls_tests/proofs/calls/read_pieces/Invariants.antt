use Rattle.std.proofs.Common.{[]}
use Rattle.zarrs_c_calls_tests.proofs.calls.read_pieces.Given as goal

abbrev pub ghost-zarrs_read_pieces : goal.ghost-zarrs_read_pieces
ghost-zarrs_read_pieces g = []
