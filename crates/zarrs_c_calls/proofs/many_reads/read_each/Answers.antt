use Rattle.std.proofs.Common.{ℕ, ◌+◌, List, [], ◌∷◌, ◌++◌, Option, IsOkAnd, slice_index_or, sym, ◌∙◌, subst, arith}
use Rattle.zarrs_array_bytes.specs.Held.{Held}
use Rattle.zarrs_json.specs.HeaderRead.{header_seen}
use Rattle.zarrs_c_calls.specs.EachRead.{decoder_value}
use Rattle.zarrs_c_calls.specs.ManyReads.{front_read}
use Rattle.zarrs_c_calls.specs.Told.{HoldsThese}
use Rattle.zarrs_c_calls.specs.declared.sizes.SelectionSize.{SelectionSize}
use Rattle.zarrs_c_calls.proofs.ManyLemmas.{ReadsOn, reads_next}
use Rattle.zarrs_c_calls.proofs.many_reads.read_each.Goals as goal

pub loop-size-preserved : goal.loop-size-preserved
loop-size-preserved c =
    let none : SelectionSize = record { tuples = 0; numbers = 0 } in
    let header = header_seen c.args.form.now in
    let stored = decoder_value c.args.decoder.now in
    let sizes = c.args.sizes.now in
    let numbers = c.args.numbers.now in
    let left = c.loop-size.left.now in
    let i = c.loop-size.size-index in
    let inv = c.loop-size.invariant in
    let size = slice_index_or sizes i none in
    let held = c.in_ok-elements.elements in
    let due : IsOkAnd (front_read header stored size left) (HoldsThese held) =
    subst (λ (v : Option (List ℕ)). IsOkAnd (front_read header v size left) (HoldsThese held)) inv.value c.in_ok-elements.ensures.answer in
    let next = reads_next header stored sizes numbers c.loop-size.answers.items i left inv.reads none held (omega (arith, c.loop-size-test.true)) due in
    record {
      reads = subst (λ (helds : List Held). ReadsOn header stored sizes numbers helds (i + 1) c.numbers_behind-left.result.now) (sym c.in_ok-push.ensures.items) (subst (λ (rest : List ℕ). ReadsOn header stored sizes numbers (c.loop-size.answers.items ++ held ∷ []) (i + 1) rest) (sym c.numbers_behind-left.ensures.value) next);
      value = c.in_ok-elements.ensures.value_kept ∙ inv.value;
      form = c.in_ok-elements.ensures.form_kept ∙ inv.form;
    }
