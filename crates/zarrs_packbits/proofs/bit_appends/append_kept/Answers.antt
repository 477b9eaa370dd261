use Rattle.std.proofs.Common.{◌≡◌, ℕ, List, ◌-◌, ◌*◌, length, take, drop, arith, ap, ◌∙◌}
use Rattle.std.proofs.lemmas.List.{take_rest, length-drop}
use Rattle.zarrs_packbits.proofs.bit_appends.append_kept.Goals as goal
use Rattle.zarrs_packbits.specs.Bits.{bits_of, low_bits, field}
use Rattle.zarrs_packbits.specs.KeptBits.{component_bits}
use Rattle.zarrs_packbits.specs.PackedLayout.{layout_components}
use Rattle.zarrs_packbits.specs.WrittenBits.{written_bits}
use Rattle.zarrs_packbits.proofs.LayoutLemmas.{more_behind}
use Rattle.zarrs_packbits.proofs.LocalLemmas.{field_from, component_room}

pub read_bits-kept-requires-clause-inside : goal.read_bits-kept-requires-clause-inside
read_bits-kept-requires-clause-inside c =
    let l = c.args.layout.now in
    let bytes = c.args.bytes.now in
    let start = c.loop-part.part * l.size in
    let n : length (take (length bytes - start) (drop start bytes)) ≡ length bytes - start = ap length (take_rest bytes start) ∙ length-drop start bytes in
    omega (arith, n, component_room l.size c.loop-part.part (layout_components l) bytes c.requires.len (omega arith), c.requires.layout.size)

pub loop-part-preserved : goal.loop-part-preserved
loop-part-preserved c =
    let l = c.args.layout.now in
    let part = c.loop-part.part in
    let bytes = c.args.bytes.now in
    let start = part * l.size in
    let f : ℕ → List ℕ = λ part. field l.first l.count (component_bits l.size bytes part) in
    let cut = ap (λ b. field l.first l.count (bits_of b)) (take_rest bytes start) ∙ field_from l.size part (layout_components l) l.first l.count bytes c.requires.len (omega arith) (omega (arith, c.requires.layout.size)) in
    record {
      bits = λ front h. more_behind front (written_bits c.loop-part.out.items c.loop-part.last c.loop-part.used) (written_bits c.append_bits.new.out.items c.in_ok-more.more c.in_ok-more.reached) (low_bits l.count c.read_bits-kept.result) f part
          c.in_ok-more.ensures.bits (c.loop-part.invariant.bits front h) (c.read_bits-kept.ensures.bits ∙ cut);
      reached = record { room = c.in_ok-more.ensures.room; fits = c.in_ok-more.ensures.word };
    }

pub returns-clause-bits : goal.returns-clause-bits
returns-clause-bits c = let end : c.loop-part.part ≡ layout_components c.args.layout.now = omega (arith, c.requires.begin) in λ front h. rw end at (c.loop-part.invariant.bits front h)
