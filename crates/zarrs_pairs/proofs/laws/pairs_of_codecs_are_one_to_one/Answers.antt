use Rattle.zarrs_pairs.proofs.OtherCodecs.{one_to_one_of}
use Rattle.zarrs_pairs.proofs.laws.pairs_of_codecs_are_one_to_one.Goals as goal

pub returns : goal.returns
returns g c = record { law = λ codecs lawful. one_to_one_of codecs lawful }
