use Rattle.std.proofs.Common.{ap}
use Rattle.zarrs_chain_meaning.specs.vlen.VlenSettings.{is_wide}
use Rattle.zarrs_chain_meaning.specs.vlen.VlenSteps.{offset_size}
use Rattle.zarrs_plain_vlen.proofs.OffsetBytes.{sized_long}
use Rattle.zarrs_plain_vlen.proofs.offsets.count_of.Goals as goal

pub returns-in-UInt32 : goal.returns-in-UInt32
returns-in-UInt32 c = record { value = sized_long (is_wide c.args.data_type) 4 c.args.bytes.now (ap (λ t. offset_size (is_wide t)) c.in-UInt32.is) }

pub returns-in-UInt64 : goal.returns-in-UInt64
returns-in-UInt64 c = record { value = sized_long (is_wide c.args.data_type) 8 c.args.bytes.now (ap (λ t. offset_size (is_wide t)) c.in-UInt64.is) }
