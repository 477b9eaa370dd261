use Rattle.std.proofs.Common.{◌≡◌, ◌∷◌, [], ◌++◌, length, rules, arith, sym, ap, refl, ◌∙◌, List, ℕ}
use Rattle.std.proofs.lemmas.Result.{err_from_is_err_and}
use Rattle.zarrs_vlen_v2.proofs.Reading.{nothing_yet, one_read, refused_here, all_read, not_all, so_far_rise, so_far_end}
use Rattle.zarrs_vlen_v2.proofs.prefixed_values.prefixed_parts.Goals as goal

pub loop-done-init : goal.loop-done-init
loop-done-init c =
    nothing_yet c.args.value.now c.args.count c.in_ok-bytes.bytes.items c.push.new.self.items c.requires.len c.in_ok-bytes.ensures.items (c.in_ok-push.ensures.items ∙ ap (λ (xs : List ℕ). xs ++ 0 ∷ []) c.in_ok-offsets.ensures.items)

pub loop-done-preserved : goal.loop-done-preserved
loop-done-preserved c =
    let bytes = c.extend_from_slice.new.self.items in
    let long : c.len.result ≡ length bytes = omega arith in
    one_read c.args.value.now c.args.count c.loop-done._done c.loop-done.at c.loop-done.bytes.items c.loop-done.offsets.items c.in_ok-element.element.now bytes c.push-in-loop-done.new.self.items c.loop-done.invariant (omega arith) (sym c.in_ok-element.ensures.answer) c.in_ok-element.ensures.inside
    c.in_ok-extend_from_slice.ensures.items (c.in_ok-push-2.ensures.items ∙ ap (λ n. c.loop-done.offsets.items ++ n ∷ []) long)

pub returns-in_err-element-clause-answer : goal.returns-in_err-element-clause-answer
returns-in_err-element-clause-answer c =
    let p = err_from_is_err_and c.from_residual-in_err-element.result c.from_residual-in_err-element.ensures.1 in
    record { is = rw (p.1, p.2) (λ e. refused_here c.args.value.now c.args.count c.loop-done._done c.loop-done.at c.loop-done.bytes.items c.loop-done.offsets.items c.in_err-element.field-0.0 c.loop-done.invariant (omega arith) (sym c.in_err-element.ensures.answer)); no_fault = search rules }

pub returns-then-at-value-clause-answer : goal.returns-then-at-value-clause-answer
returns-then-at-value-clause-answer c =
    record { is = rw c.wrong_length.ensures.value (λ e. not_all c.args.value.now c.args.count c.loop-done._done c.loop-done.at c.loop-done.bytes.items c.loop-done.offsets.items c.loop-done.invariant (omega arith) c.if-at-value.true); no_fault = rw c.wrong_length.ensures.value refl }

pub returns : goal.returns
returns c =
    let value = c.args.value.now in
    let so_far = c.loop-done.invariant in
    record {
      answer = record { is = all_read value c.args.count c.loop-done._done c.loop-done.at c.loop-done.bytes.items c.loop-done.offsets.items so_far (omega arith) (omega arith); no_fault = search rules };
      rising = so_far_rise value c.args.count c.loop-done._done c.loop-done.at c.loop-done.bytes.items c.loop-done.offsets.items so_far;
      ending = so_far_end value c.args.count c.loop-done._done c.loop-done.at c.loop-done.bytes.items c.loop-done.offsets.items so_far;
    }
