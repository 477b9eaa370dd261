use Rattle.std.proofs.Common.{◌≡◌, ◌≤◌, ◌+◌, ◌-◌, ◌*◌, ◌/◌, ◌++◌, ◌∙◌, length, take, drop, ap, arith}
use Rattle.std.proofs.lemmas.List.{length-append, length-drop, length-take-le, take_at}
use Rattle.zarrs_packbits.specs.Bits.{bits_of}
use Rattle.zarrs_packbits.specs.BitStream.{components_from}
use Rattle.zarrs_packbits.proofs.spread.put_behind.Goals as goal
use Rattle.zarrs_packbits.proofs.BlockLemmas.{final_step}
use Rattle.zarrs_packbits.proofs.SpreadLemmas.{head_is, length-part, written_to_end}

pub returns : goal.returns
returns c =
    let l = c.args.layout in
    let bytes = c.args.bytes.now in
    let count = c.args.count in
    let skip = c.args.skip in
    let parts = length c.args.out.now in
    let head = 8 / count - skip in
    let first = c.put_head-2.new.out in
    let behind = drop head c.args.out.now in
    let out = first ++ behind in
    let piece = c.put_blocks-2.new.out in
    let k = length out - head in
    let h = head_is count skip c.requires.kept c.requires.bit in
    let bits : head * l.count ≡ head * count = ap (λ n. head * n) c.requires.count in
    let within : head ≤ parts = omega (arith, c.if-out-head.false) in
    let sum : parts ≡ head + (parts - head) = omega (arith, within) in
    let taken : length (take head c.args.out.now) ≡ head = length-take-le head c.args.out.now within in
    let begun : length first ≡ head = c.put_head-2.auto.out ∙ taken in
    let whole : length out ≡ parts = omega (arith, length-append first behind, length-drop head c.args.out.now, begun, within) in
    let same : k ≡ parts - head = ap (λ n. n - head) whole in
    let long : length (take k (drop head out)) ≡ parts - head = length-part out head k (omega (arith, sum, whole)) ∙ same in
    record {
      written =
          final_step l (skip * count) head (parts - head) 1 parts (take head out) piece _ bytes sum (omega (arith, h.whole, bits))
          (written_to_end out piece head k (omega arith))
          (ap bits_of (take_at first behind head begun) ∙ c.put_head-2.ensures.written ∙ ap (λ n. components_from l (skip * count) n (bits_of bytes)) taken)
          (c.put_blocks-2.ensures.written ∙ ap (λ n. components_from l 0 n (bits_of (take (length bytes - 1) (drop 1 bytes)))) long);
    }
