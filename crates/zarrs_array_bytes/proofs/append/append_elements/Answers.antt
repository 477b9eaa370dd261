use Rattle.zarrs_chunk.specs.declared.codec_error.CodecError.TheVariants.{InvalidBytesLength}
use Rattle.zarrs_array_bytes.specs.Validity.{sizes_fit, levels_fit}
use Rattle.zarrs_array_bytes.proofs.JoinedLemmas.{joined_answers, joined_tight}
use Rattle.zarrs_array_bytes.proofs.ValidLemmas.{both_ok}
use Rattle.zarrs_array_bytes.proofs.append.append_elements.Goals as goal

pub join_levels-requires-clause-valid : goal.join_levels-requires-clause-valid
join_levels-requires-clause-valid c =
    (both_ok (sizes_fit c.args.data_type.now c.args.count) (levels_fit InvalidBytesLength c.args.data_type.now c.args.count c.args.array) c.requires.valid).1

pub join_levels-requires-clause-more_valid : goal.join_levels-requires-clause-more_valid
join_levels-requires-clause-more_valid c =
    (both_ok (sizes_fit c.args.data_type.now c.args.more_count) (levels_fit InvalidBytesLength c.args.data_type.now c.args.more_count c.args.more.now) c.requires.more_valid).1

pub returns : goal.returns
returns c =
    let type = c.args.data_type.now in
    let joined = c.join_levels.ensures.joined in
    record {
      answer = record { is = joined_answers type c.args.count c.args.more_count c.args.array c.args.more.now c.join_levels.result joined.is c.join_levels.ensures.small; no_fault = joined.no_fault };
      tight = λ b d. joined_tight type c.args.count c.args.more_count c.args.array c.args.more.now c.join_levels.result joined.is b d;
    }
