use Rattle.std.proofs.Common.{◌≡◌, ℕ, List, ap, ◌∙◌, sym, subst}
use Rattle.zarrs_c_calls.specs.BufferHandle.{buffer_bytes, buffer_name}
use Rattle.zarrs_c_calls.specs.EditRuns.{EditsInOrder, buffer_of}
use Rattle.zarrs_c_calls.proofs.EditLemmas.{none_made}
use Rattle.zarrs_c_calls.proofs.edits.edit_buffer.Goals as goal

pub returns-in-Err : goal.returns-in-Err
returns-in-Err c =
    let same : buffer_bytes c.in-Err.refused.handle ≡ c.args.value.now = ap buffer_bytes c.in-Err.ensures.handed_back ∙ c.new.ensures.bytes in
    record {
      runs = none_made c.args.form.now c.args.value.now (buffer_bytes c.in-Err.refused.handle) c.args.edits.now c.in-Err.refused.error same c.requires.represented c.in-Err.ensures.answer.is;
      same_reference = ap buffer_name c.in-Err.ensures.handed_back ∙ c.new.ensures.same_reference;
    }

pub returns-in-Ok : goal.returns-in-Ok
returns-in-Ok c =
    let edits = c.args.edits.now in
    let outcome = c.make_edits.result in
    let before : buffer_bytes (buffer_of c.in-Ok.encoder) ≡ c.args.value.now = ap buffer_bytes c.in-Ok.ensures.over ∙ c.new.ensures.bytes in
    let after : buffer_bytes (buffer_of c.make_edits.new.encoder) ≡ buffer_bytes c.into_handle.result = ap buffer_bytes (sym c.into_handle.ensures.value) in
    let runs = subst (λ (v : List ℕ). EditsInOrder c.args.form.now v (buffer_bytes (buffer_of c.make_edits.new.encoder)) edits outcome) before c.make_edits.ensures.runs in
    record {
      runs = subst (λ (v : List ℕ). EditsInOrder c.args.form.now c.args.value.now v edits outcome) after runs;
      same_reference = ap buffer_name c.into_handle.ensures.value ∙ c.make_edits.ensures.same_reference ∙ ap buffer_name c.in-Ok.ensures.over ∙ c.new.ensures.same_reference;
    }
