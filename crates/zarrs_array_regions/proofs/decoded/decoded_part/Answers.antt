use Rattle.std.proofs.Common.{sym, ◌∙◌}
use Rattle.zarrs_array_to_array.specs.Mapping.{mapping_of}
use Rattle.zarrs_array_regions.proofs.PartCalls.{decoded_kept}
use Rattle.zarrs_array_regions.proofs.decoded.decoded_part.Goals as goal

pub returns-then-keeps_places-clause-decoded : goal.returns-then-keeps_places-clause-decoded
returns-then-keeps_places-clause-decoded c =
    decoded_kept (mapping_of c.args.codec.now) c.args.data_type.now c.args.part.now c.args.held (sym c.keeps_places.ensures.value ∙ c.if-keeps_places.true) c.requires.valid
