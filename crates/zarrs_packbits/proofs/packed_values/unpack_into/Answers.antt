use Rattle.std.proofs.Common.{length, ap, sym, ◌∙◌}
use Rattle.zarrs_packbits.proofs.Coding.{unpacked_long}
use Rattle.zarrs_packbits.proofs.LayoutLemmas.{whole_len, whole_unpacked}
use Rattle.zarrs_packbits.proofs.packed_values.unpack_into.Goals as goal

pub copy_from_slice-requires : goal.copy_from_slice-requires
copy_from_slice-requires c =
    c.requires.room ∙ sym (c.requires.len ∙ whole_len c.args.layout.now c.requires.layout (sym c.if-is_whole.ensures.value))

pub returns-then-is_whole-clause-value : goal.returns-then-is_whole-clause-value
returns-then-is_whole-clause-value c =
    c.copy_from_slice.ensures.after ∙ sym (whole_unpacked c.args.layout.now c.args.value.now c.requires.layout (sym c.if-is_whole.ensures.value) c.requires.len c.bytes_are.ensures.small)

pub copy_from_slice-requires-2 : goal.copy_from_slice-requires-2
copy_from_slice-requires-2 c =
    c.requires.room ∙ sym (ap length (c.deref.ensures.value ∙ c.in_ok-made.ensures.value) ∙ unpacked_long c.args.layout.now c.args.value.now c.requires.layout c.requires.len)
