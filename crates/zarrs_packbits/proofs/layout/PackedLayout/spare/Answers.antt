use Rattle.std.proofs.Common.{sym}
use Rattle.zarrs_packbits.proofs.layout.PackedLayout.spare.Goals as goal
use Rattle.zarrs_packbits.proofs.LayoutLemmas.{whole_spare}

pub returns-then-is_whole : goal.returns-then-is_whole
returns-then-is_whole c = record { value = sym (whole_spare c.args.self.now c.requires.layout (sym c.if-is_whole.ensures.value)) }
