use Rattle.zarrs_packbits.proofs.words.lowest.Goals as goal
use Rattle.zarrs_packbits.proofs.WordLemmas.{masked}

pub returns-then-count-lt64 : goal.returns-then-count-lt64
returns-then-count-lt64 c = record { value = masked c.args.word c.args.count c.if-count-lt64.true }
