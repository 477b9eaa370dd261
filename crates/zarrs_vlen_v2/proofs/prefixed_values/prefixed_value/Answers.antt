use Rattle.std.proofs.Common.{◌-◌, length, rules, arith, sym}
use Rattle.std.proofs.lemmas.Result.{err_from_is_err_and}
use Rattle.zarrs_vlen_v2.specs.VlenV2Codec.{u32_bytes}
use Rattle.zarrs_vlen_v2.proofs.Writing.{written_more, short_more, written_all, count_refused, element_refused}
use Rattle.zarrs_vlen_v2.proofs.prefixed_values.prefixed_value.Goals as goal

pub loop-index-preserved : goal.loop-index-preserved
loop-index-preserved c =
    let offsets = c.args.offsets.now in
    let bytes = c.args.bytes.now in
    record {
      so_far = written_more offsets bytes c.loop-index.index (u32_bytes (length offsets - 1)) c.loop-index.value.items c.put_element.new.value.items c.element_at.result.now (omega arith) c.loop-index.invariant.so_far c.element_at.ensures.bytes c.in_ok-put_element.ensures.appended;
      short = short_more offsets bytes c.loop-index.index c.element_at.result.now (omega arith) c.loop-index.invariant.short c.element_at.ensures.bytes c.in_ok-put_element.ensures.fits;
    }

pub returns-in_err-check_number : goal.returns-in_err-check_number
returns-in_err-check_number c =
    let p = err_from_is_err_and c.from_residual.result c.from_residual.ensures.1 in
    record { answer = record { is = rw (p.1, p.2) (λ e. count_refused c.args.offsets.now c.args.bytes.now c.in_err-check_number.field-0.0 (sym c.in_err-check_number.ensures.answer)); no_fault = search rules } }

pub returns-in_err-put_element : goal.returns-in_err-put_element
returns-in_err-put_element c =
    let p = err_from_is_err_and c.from_residual-in_err-put_element.result c.from_residual-in_err-put_element.ensures.1 in
    record { answer = record { is = rw (p.1, p.2) (λ e. element_refused c.args.offsets.now c.args.bytes.now c.loop-index.index c.element_at.result.now c.in_err-put_element.field-0.0 (omega arith) c.element_at.ensures.bytes (c.in_err-put_element.ensures.answer.is e)); no_fault = search rules } }

pub returns : goal.returns
returns c =
    record { answer = record { is = written_all c.args.offsets.now c.args.bytes.now c.loop-index.value.items c.loop-index.index (omega arith) c.in_ok-check_number.ensures.fits c.loop-index.invariant.so_far c.loop-index.invariant.short; no_fault = search rules } }
