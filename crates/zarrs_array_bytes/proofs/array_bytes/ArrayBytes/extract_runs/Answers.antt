use Rattle.std.proofs.Common.{rules, ◌≡◌, ◌<◌, All, Ok, sym}
use Rattle.zarrs_chunk.specs.Runs.{joined_runs}
use Rattle.zarrs_array_bytes.specs.Validity.{validity}
use Rattle.zarrs_array_bytes.proofs.RunLemmas.{places_below}
use Rattle.zarrs_array_bytes.proofs.AnswerLemmas.{at_answers}
use Rattle.zarrs_array_bytes.proofs.BlankLemmas.{chosen_blank}
use Rattle.zarrs_array_bytes.proofs.TightLemmas.{both_tight}
use Rattle.zarrs_array_bytes.proofs.array_bytes.ArrayBytes.extract_runs.Goals as goal

pub returns : goal.returns
returns c =
    let type = c.args.data_type.now in
    let runs = c.args.runs.now in
    let valid : validity type c.args.count c.args.self.now ≡ Ok tt = sym (c.in_ok-validate.ensures {u = tt}).exact in
    let inside : All (λ place. place < c.args.count) (joined_runs runs) = places_below c.args.count runs c.requires.inside in
    record {
      answer = record { is = at_answers type c.args.count c.args.self.now (joined_runs runs) c.at_runs.result valid inside c.at_runs.ensures.small c.at_runs.ensures.exact.is; no_fault = search rules };
      flush = c.at_runs.ensures.flush;
      tight = λ b. both_tight type c.at_runs.result c.at_runs.ensures.flush (chosen_blank type c.args.count c.args.self.now (joined_runs runs) c.at_runs.result valid inside c.at_runs.ensures.exact.is b);
    }
