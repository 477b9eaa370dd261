use Rattle.std.proofs.Common.{refl}
use Rattle.zarrs_codecs.proofs.sharding.box_reads.box_runs.Goals as goal

pub region_runs-requires : goal.region_runs-requires
region_runs-requires c = record { region = record { taken = refl; counted = c.requires.counted; inside = c.requires.inside } }
