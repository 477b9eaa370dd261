use Rattle.std.proofs.Common.{◌≡◌, ℕ, List, ◌+◌, ◌*◌, ◌≤◌, ◌/◌, ◌<◌, length, arith, ◌∙◌}
use Rattle.std.proofs.Math.Nat.{mul-le-mul_right}
use Rattle.zarrs_packbits.proofs.bit_appends.append_by_words.Goals as goal
use Rattle.zarrs_packbits.specs.Bits.{low_bits, field}
use Rattle.zarrs_packbits.specs.KeptBits.{component_bits}
use Rattle.zarrs_packbits.specs.PackedLayout.{layout_components}
use Rattle.zarrs_packbits.specs.WrittenBits.{written_bits}
use Rattle.zarrs_packbits.proofs.LayoutLemmas.{more_behind}
use Rattle.zarrs_packbits.proofs.LocalLemmas.{field_of_part}

within : (part begin end size skip len : ℕ) → begin ≤ part → part < end → end * size + skip + 8 ≤ len + size → part * size + skip + 8 ≤ len
within part begin end size skip len h lt e =
    let more : part + 1 ≤ end = omega arith in
    let row : (part + 1) * size ≤ end * size = mul-le-mul_right size more in
    let next : (part + 1) * size ≡ part * size + size = omega arith in
    omega arith

pub read_within-kept-requires-clause-inside : goal.read_within-kept-requires-clause-inside
read_within-kept-requires-clause-inside c =
    let l = c.args.layout.now in
    let some : c.args.begin < c.args.end = omega arith in
    within c.loop-part.part c.args.begin c.args.end l.size (l.first / 8) (length c.args.bytes.now) (omega arith) c.loop-part-test.true (c.requires.reach some)

pub loop-part-preserved : goal.loop-part-preserved
loop-part-preserved c =
    let l = c.args.layout.now in
    let part = c.loop-part.part in
    let bytes = c.args.bytes.now in
    let f : ℕ → List ℕ = λ part. field l.first l.count (component_bits l.size bytes part) in
    let cut = field_of_part l.size part (layout_components l) l.first l.count bytes c.requires.len (omega arith) (omega (arith, c.requires.layout.size)) in
    record {
      bits = λ front h. more_behind front (written_bits c.loop-part.out.items c.loop-part.last c.loop-part.used) (written_bits c.append_bits.new.out.items c.in_ok-more.more c.in_ok-more.reached) (low_bits l.count c.read_within-kept.result) f part
          c.in_ok-more.ensures.bits (c.loop-part.invariant.bits front h) (c.read_within-kept.ensures.bits ∙ cut);
      reached = record { room = c.in_ok-more.ensures.room; fits = c.in_ok-more.ensures.word };
    }
