use Rattle.std.proofs.Common.{◌+◌, ◌/◌, ◌++◌, take, arith, ap, ◌∙◌}
use Rattle.zarrs_packbits.proofs.bit_appends.flush_word.Goals as goal
use Rattle.zarrs_packbits.specs.Bits.{bits_of}
use Rattle.zarrs_packbits.proofs.LowBits.{flush}

pub returns : goal.returns
returns c =
    let out = c.args.out.items in
    let used = (c.args.filled + 7) / 8 in
    record {
      bits =
          ap bits_of (c.in_ok-extend_from_slice.ensures.items ∙ ap (λ bytes. out ++ take used bytes) c.to_le_bytes.ensures)
          ∙ flush out c.args.filled c.args.word used (omega (arith, c.requires.room)) (omega arith) c.requires.word;
    }
