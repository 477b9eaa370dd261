use Rattle.std.proofs.Common.{◌≡◌, ℕ, List, ◌-◌, ◌*◌, length, take, drop, arith, ap, ◌∙◌}
use Rattle.std.proofs.lemmas.List.{take_rest, length-drop}
use Rattle.zarrs_packbits.proofs.bit_writer.BitWriter.put_stream.Goals as goal
use Rattle.zarrs_packbits.specs.Bits.{bits_of, field}
use Rattle.zarrs_packbits.specs.KeptBits.{component_bits}
use Rattle.zarrs_packbits.specs.PackedLayout.{layout_components}
use Rattle.zarrs_packbits.proofs.LayoutLemmas.{more_behind}
use Rattle.zarrs_packbits.proofs.LocalLemmas.{field_from, component_room}

pub put_field-requires-clause-inside : goal.put_field-requires-clause-inside
put_field-requires-clause-inside c =
    let l = c.args.layout.now in
    let bytes = c.args.bytes.now in
    let start = c.loop-part.part * l.size in
    let n : length (take (length bytes - start) (drop start bytes)) ≡ length bytes - start = ap length (take_rest bytes start) ∙ length-drop start bytes in
    omega (arith, n, component_room l.size c.loop-part.part (layout_components l) bytes c.requires.len (omega arith), c.requires.layout.size)

pub loop-part-preserved : goal.loop-part-preserved
loop-part-preserved c =
    let l = c.args.layout.now in
    let part = c.loop-part.part in
    let bytes = c.args.bytes.now in
    let start = part * l.size in
    let f : ℕ → List ℕ = λ part. field l.first l.count (component_bits l.size bytes part) in
    let cut = ap (λ b. field l.first l.count (bits_of b)) (take_rest bytes start) ∙ field_from l.size part (layout_components l) l.first l.count bytes c.requires.len (omega arith) (omega (arith, c.requires.layout.size)) in
    more_behind c.args.self.now c.loop-part.self c.put_field.new.self (field l.first l.count (bits_of (take (length bytes - start) (drop start bytes)))) f part c.in_ok-put_field.ensures.appended c.loop-part.invariant cut
