use Rattle.zarrs_pairs.proofs.OtherCodecs.{encodes_as, decodes_as}
use Rattle.zarrs_pairs.proofs.laws.answers_agree.Goals as goal

pub returns-clause-encoded : goal.returns-clause-encoded
returns-clause-encoded g c codecs = encodes_as codecs

pub returns-clause-decoded : goal.returns-clause-decoded
returns-clause-decoded g c codecs lawful = decodes_as codecs lawful
