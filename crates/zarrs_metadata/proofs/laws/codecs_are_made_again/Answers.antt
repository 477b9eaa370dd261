use Rattle.zarrs_metadata.proofs.MadeAgain.{transpose-made_again, reshape-made_again, squeeze-made_again, bytes-made_again, packbits-made_again}
use Rattle.zarrs_metadata.proofs.laws.codecs_are_made_again.Goals as goal

pub returns : goal.returns
returns c =
    record { transpose = transpose-made_again; reshape = reshape-made_again; squeeze = squeeze-made_again; bytes = bytes-made_again; packbits = packbits-made_again }
