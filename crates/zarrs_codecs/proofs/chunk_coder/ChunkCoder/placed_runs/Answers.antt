use Rattle.std.proofs.Common.{rules, length, ap, sym, ◌∙◌}
use Rattle.std.proofs.lemmas.Result.{err_from_is_err_and}
use Rattle.zarrs_chunk.specs.Indexer.{selection_of}
use Rattle.zarrs_chunk.specs.Runs.{joined_runs}
use Rattle.zarrs_array_bytes.specs.Validity.{data_fit}
use Rattle.zarrs_codecs.specs.ChunkCoder.{coder_form}
use Rattle.zarrs_codecs.proofs.PlaceWrites.{unfit_checked, unfit_written}
use Rattle.zarrs_codecs.proofs.chunk_coder.ChunkCoder.placed_runs.Goals as goal

pub returns-in_err-check_data-clause-answer : goal.returns-in_err-check_data-clause-answer
returns-in_err-check_data-clause-answer g c =
    let form = coder_form c.args.self.now in
    let p = err_from_is_err_and c.from_residual-in_err-check_data.result c.from_residual-in_err-check_data.ensures.1 in
    let unfit = ap (λ rs. data_fit form.type (length (joined_runs rs)) c.args.new.now) (sym c.as_slice.ensures.value) ∙ sym c.in_err-check_data.ensures.exact in
    record { is = rw (p.1, p.2) (λ m. unfit_written form.type form.chain.array_to_array form.sizes (selection_of c.args.indexer.now) c.args.new.now (joined_runs c.in_ok-runs.runs.items) c.in_err-check_data.field-0.0 c.in_ok-runs.ensures.answer.is unfit); no_fault = search rules }

pub returns-in_err-check_data-clause-checked : goal.returns-in_err-check_data-clause-checked
returns-in_err-check_data-clause-checked g c =
    let form = coder_form c.args.self.now in
    let p = err_from_is_err_and c.from_residual-in_err-check_data.result c.from_residual-in_err-check_data.ensures.1 in
    let unfit = ap (λ rs. data_fit form.type (length (joined_runs rs)) c.args.new.now) (sym c.as_slice.ensures.value) ∙ sym c.in_err-check_data.ensures.exact in
    record { is = rw (p.1, p.2) (λ m. unfit_checked form.type form.chain.array_to_array form.sizes (selection_of c.args.indexer.now) c.args.new.now (joined_runs c.in_ok-runs.runs.items) c.in_err-check_data.field-0.0 c.in_ok-runs.ensures.answer.is unfit); no_fault = search rules }
