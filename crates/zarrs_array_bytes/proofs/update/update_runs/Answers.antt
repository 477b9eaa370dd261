use Rattle.std.proofs.Common.{rules, sym}
use Rattle.zarrs_chunk.specs.Runs.{joined_runs}
use Rattle.zarrs_array_bytes.proofs.AnswerLemmas.{update_fits, runs_answers}
use Rattle.zarrs_array_bytes.proofs.BlankLemmas.{updated_blank}
use Rattle.zarrs_array_bytes.proofs.TightLemmas.{both_tight}
use Rattle.zarrs_array_bytes.proofs.update.update_runs.Goals as goal

pub write_elements-requires-clause-valid : goal.write_elements-requires-clause-valid
write_elements-requires-clause-valid c =
    (update_fits c.args.data_type.now c.args.count c.args.array c.args.new.now (joined_runs c.args.runs.now) (sym (c.in_ok-check_update.ensures {u = tt}).exact)).valid

pub write_elements-requires-clause-data_valid : goal.write_elements-requires-clause-data_valid
write_elements-requires-clause-data_valid c =
    (update_fits c.args.data_type.now c.args.count c.args.array c.args.new.now (joined_runs c.args.runs.now) (sym (c.in_ok-check_update.ensures {u = tt}).exact)).new_valid

pub returns : goal.returns
returns c =
    let fit = sym (c.in_ok-check_update.ensures {u = tt}).exact in
    record {
      answer = record { is = runs_answers c.args.data_type.now c.args.count c.args.array c.args.new.now (joined_runs c.args.runs.now) c.write_elements.result fit c.write_elements.ensures.exact.is; no_fault = search rules };
      flush = c.write_elements.ensures.flush;
      tight = λ b d. both_tight c.args.data_type.now c.write_elements.result c.write_elements.ensures.flush
          (updated_blank c.args.data_type.now c.args.count c.args.array c.args.new.now (joined_runs c.args.runs.now) c.write_elements.result fit c.write_elements.ensures.exact.is b d);
    }
