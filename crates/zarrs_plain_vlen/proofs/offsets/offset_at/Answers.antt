use Rattle.std.proofs.Common.{ap, sym, ◌∙◌, arith}
use Rattle.zarrs_array_bytes.specs.Elements.{piece}
use Rattle.zarrs_chain_meaning.specs.vlen.Vlen.{offset_of}
use Rattle.zarrs_chain_meaning.specs.vlen.VlenSettings.{is_wide}
use Rattle.zarrs_chain_meaning.specs.vlen.VlenSteps.{offset_size}
use Rattle.zarrs_plain_vlen.proofs.OffsetBytes.{few_numbers, number_known, read_at}
use Rattle.zarrs_plain_vlen.proofs.offsets.offset_at.Goals as goal

pub narrow_at-requires : goal.narrow_at-requires
narrow_at-requires c = record { known = number_known (is_wide c.args.data_type) 4 c.args.number c.args.bytes.now (ap (λ t. offset_size (is_wide t)) c.in-UInt32.is) c.requires.known }

pub wide_at-requires : goal.wide_at-requires
wide_at-requires c = record { known = number_known (is_wide c.args.data_type) 8 c.args.number c.args.bytes.now (ap (λ t. offset_size (is_wide t)) c.in-UInt64.is) c.requires.known }

pub returns-in-UInt32-clause-value : goal.returns-in-UInt32-clause-value
returns-in-UInt32-clause-value c =
    c.narrow_at.ensures.value
    ∙ sym (ap (λ t. offset_of (is_wide t) (piece (offset_size (is_wide t)) c.args.bytes.now c.args.number)) c.in-UInt32.is)
    ∙ read_at (is_wide c.args.data_type) c.args.bytes.now c.args.number c.requires.known

pub returns-in-UInt32-clause-counted : goal.returns-in-UInt32-clause-counted
returns-in-UInt32-clause-counted c = few_numbers (is_wide c.args.data_type) 4 c.args.bytes.now (ap (λ t. offset_size (is_wide t)) c.in-UInt32.is) (omega arith)

pub returns-in-UInt64-clause-value : goal.returns-in-UInt64-clause-value
returns-in-UInt64-clause-value c =
    c.wide_at.ensures.value
    ∙ sym (ap (λ t. offset_of (is_wide t) (piece (offset_size (is_wide t)) c.args.bytes.now c.args.number)) c.in-UInt64.is)
    ∙ read_at (is_wide c.args.data_type) c.args.bytes.now c.args.number c.requires.known

pub returns-in-UInt64-clause-counted : goal.returns-in-UInt64-clause-counted
returns-in-UInt64-clause-counted c = few_numbers (is_wide c.args.data_type) 8 c.args.bytes.now (ap (λ t. offset_size (is_wide t)) c.in-UInt64.is) (omega arith)
