use Rattle.zarrs_crc32c.proofs.TableEntries.{entry}
use Rattle.zarrs_crc32c.proofs.table.look_up.Goals as goal

pub returns : goal.returns
returns c = record { value = entry c.args.row c.args.byte c.requires.below c.requires.byte }
