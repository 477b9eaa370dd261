use Rattle.std.proofs.Common.{ℕ, List, ◌+◌, ◌*◌, refl}
use Rattle.zarrs_packbits.proofs.bit_writer.BitWriter.put_components.Goals as goal
use Rattle.zarrs_packbits.specs.Bits.{bits_of, field}
use Rattle.zarrs_packbits.specs.KeptBits.{full_component}
use Rattle.zarrs_packbits.proofs.LayoutLemmas.{more_behind}

pub loop-part-preserved : goal.loop-part-preserved
loop-part-preserved c =
    let l = c.args.layout.now in
    let part = c.loop-part.part in
    let f : ℕ → List ℕ = λ part. full_component l.first l.above l.sign (field (c.args.at + part * l.count) l.count (bits_of c.args.bytes.now)) in
    more_behind c.args.self.now c.loop-part.self c.put_component.new.self (f part) f part c.in_ok-put_component.ensures.appended c.loop-part.invariant refl
