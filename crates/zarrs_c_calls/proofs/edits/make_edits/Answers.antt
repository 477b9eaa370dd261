use Rattle.std.proofs.Common.{◌≡◌, ℕ, List, Ok, length, refl, sym, ap, ◌∙◌, arith}
use Rattle.zarrs_json.specs.HeaderRead.{header_seen}
use Rattle.zarrs_c_calls.specs.BufferHandle.{buffer_bytes}
use Rattle.zarrs_c_calls.specs.Codes.{cause_memory}
use Rattle.zarrs_c_calls.specs.EditRuns.{buffer_of}
use Rattle.zarrs_c_calls.specs.Edits.{edits_left}
use Rattle.zarrs_c_calls.specs.declared.sizes.EditSize.{EditSize}
use Rattle.zarrs_c_calls.proofs.EditLemmas.{goes_on, so_far, stops, taken_next}
use Rattle.zarrs_c_calls.proofs.edits.make_edits.Goals as goal

pub returns-in-Err-clause-runs : goal.returns-in-Err-clause-runs
returns-in-Err-clause-runs c =
    let none : EditSize = record { tuples = 0; numbers = 0; bytes = 0 } in
    let header = header_seen c.args.form.now in
    let edits = c.args.edits.now in
    let value = buffer_bytes (buffer_of c.args.encoder.now) in
    let now = buffer_bytes (buffer_of c.loop-done.encoder) in
    let i = c.loop-done.done in
    let goes = c.loop-done.invariant.goes in
    record {
      made = so_far header edits.sizes.now edits.numbers.now edits.bytes.now value i c.loop-done.numbers.now c.loop-done.bytes.now now goes ∙ ap (λ (v : List ℕ). Ok v) (sym c.in-Err.ensures.answer.kept);
      all = tt;
      refused = stops header edits.sizes.now edits.numbers.now edits.bytes.now value i c.loop-done.numbers.now c.loop-done.bytes.now now goes none (omega (arith, c.loop-done-test.true)) (cause_memory c.in-Err.cause) c.in-Err.cause c.in-Err.ensures.answer.made;
    }

pub loop-done-preserved : goal.loop-done-preserved
loop-done-preserved c =
    let none : EditSize = record { tuples = 0; numbers = 0; bytes = 0 } in
    let header = header_seen c.args.form.now in
    let edits = c.args.edits.now in
    let sizes = edits.sizes.now in
    let value = buffer_bytes (buffer_of c.args.encoder.now) in
    let now = buffer_bytes (buffer_of c.loop-done.encoder) in
    let left = buffer_bytes (buffer_of c.make_edit.new.encoder) in
    let i = c.loop-done.done in
    let inv = c.loop-done.invariant in
    let goes = goes_on header sizes edits.numbers.now edits.bytes.now value i c.loop-done.numbers.now c.loop-done.bytes.now now inv.goes none (omega (arith, c.loop-done-test.true)) left c.in_default.ensures.answer.made in
    let taken = taken_next sizes i none c.loop-done.numbers.now c.loop-done.bytes.now (omega (arith, c.loop-done-test.true)) inv.taken in
    let numbers = c.numbers_behind-numbers.ensures.value in
    let bytes = c.bytes_behind-bytes.ensures.value in
    record {
      goes = rw (numbers, bytes) goes;
      taken = rw (numbers, bytes) taken;
      stored = c.in_default.ensures.stored;
      same_reference = c.in_default.ensures.same_reference ∙ inv.same_reference;
      form = c.in_default.ensures.form_kept ∙ inv.form;
    }

pub returns-clause-runs : goal.returns-clause-runs
returns-clause-runs c =
    let header = header_seen c.args.form.now in
    let edits = c.args.edits.now in
    let value = buffer_bytes (buffer_of c.args.encoder.now) in
    let now = buffer_bytes (buffer_of c.loop-done.encoder) in
    let i = c.loop-done.done in
    let end : length edits.sizes.now ≡ i = omega (arith, c.loop-done-test.false, c.loop-done.auto.done-end) in
    record {
      made = ap (edits_left header edits.sizes.now edits.numbers.now edits.bytes.now value) end
          ∙ so_far header edits.sizes.now edits.numbers.now edits.bytes.now value i c.loop-done.numbers.now c.loop-done.bytes.now now c.loop-done.invariant.goes;
      all = refl;
      refused = tt;
    }
