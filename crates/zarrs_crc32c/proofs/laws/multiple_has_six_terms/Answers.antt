use Rattle.zarrs_crc32c.proofs.Multiple.{six_terms}
use Rattle.zarrs_crc32c.proofs.laws.multiple_has_six_terms.Goals as goal

pub returns : goal.returns
returns c = record { law = λ register l. six_terms register l }
