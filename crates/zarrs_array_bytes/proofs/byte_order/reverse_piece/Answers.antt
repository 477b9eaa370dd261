use Rattle.std.proofs.Common.{◌∙◌, ap, swap, arith}
use Rattle.zarrs_array_bytes.proofs.Turned.{reverse_eight}
use Rattle.zarrs_array_bytes.proofs.byte_order.reverse_piece.Goals as goal

pub returns-in-8 : goal.returns-in-8
returns-in-8 c =
    record {
      written =
          c.swap-in-8-4.ensures.after
          ∙ ap (λ bytes. swap bytes 3 4) (c.swap-in-8-3.ensures.after ∙ ap (λ bytes. swap bytes 2 5) (c.swap-in-8-2.ensures.after ∙ ap (λ bytes. swap bytes 1 6) c.swap-in-8.ensures.after))
          ∙ reverse_eight c.args.piece.now (omega arith);
    }
