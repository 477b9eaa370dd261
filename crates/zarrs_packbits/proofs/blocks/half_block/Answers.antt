use Rattle.std.proofs.Common.{sym, ap₂, ◌∙◌, map}
use Rattle.std.specs.List.{flat_map}
use Rattle.zarrs_packbits.specs.BlockBits.{fields_of, lifted_byte}
use Rattle.zarrs_packbits.proofs.blocks.half_block.Goals as goal
use Rattle.zarrs_packbits.proofs.PlainBlocks.{plain_halves}

pub returns-then-weight-eq0 : goal.returns-then-weight-eq0
returns-then-weight-eq0 c =
    let from = c.args.from.now in
    record { value = c.spread_halves-kept.ensures.value ∙ plain_halves from ∙ ap₂ (λ first weight. map (lifted_byte first weight) (flat_map (fields_of 4 2) from)) (sym c.if-first-eq0.true) (sym c.if-weight-eq0.true) }
