use Rattle.std.proofs.Common.{subst, sym}
use Rattle.zarrs_array_regions.specs.Windows.{EncodesMapped}
use Rattle.zarrs_array_regions.proofs.runs.encode_region.Goals as goal

pub returns-in-Some-clause-encoded : goal.returns-in-Some-clause-encoded
returns-in-Some-clause-encoded c =
    subst (λ cs. EncodesMapped cs c.args.data_type.now c.args.shape.now c.args.region.now c.args.held c.transposed_region.result) (sym c.in-Some.ensures.only) c.transposed_region.ensures.encoded
