use Rattle.zarrs_crc32c.proofs.Replaced.{replaced_found}
use Rattle.zarrs_crc32c.proofs.laws.replaced_bytes_are_found.Goals as goal

pub returns : goal.returns
returns c = record { law = λ bytes front back byte other each small is differ. replaced_found bytes front back byte other each small is differ }
