use Rattle.zarrs_codecs.proofs.SizeLaw.{chunk_sizes_are_exact, sizes_are_exact}
use Rattle.zarrs_codecs.proofs.laws.sizes_are_exact.Goals as goal

pub returns : goal.returns
returns c = record { chunk = chunk_sizes_are_exact; law = sizes_are_exact }
