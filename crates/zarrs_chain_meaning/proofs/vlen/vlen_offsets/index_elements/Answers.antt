use Rattle.std.proofs.Common.{rules, arith}
use Rattle.std.proofs.lemmas.Result.{err_from_is_err_and}
use Rattle.zarrs_array_bytes.specs.Held.{owned_bytes}
use Rattle.zarrs_chain_meaning.specs.vlen.VlenSettings.{is_wide}
use Rattle.zarrs_chain_meaning.proofs.VlenOffsets.{index_found, index_refused}
use Rattle.zarrs_chain_meaning.proofs.vlen.vlen_offsets.index_elements.Goals as goal

pub returns-in_err-items : goal.returns-in_err-items
returns-in_err-items c =
    let p = err_from_is_err_and c.from_residual.result c.from_residual.ensures.1 in
    record { exact = record { is = rw (p.1, p.2) (λ e. index_refused (is_wide c.args.data_type) c.args.offsets.now c.in_err-items.field-0.0 (c.in_err-items.ensures.exact.is e)); no_fault = search rules } }

pub returns : goal.returns
returns c =
    record { exact = record { is = rw c.new_flen.ensures.made (index_found (is_wide c.args.data_type) c.args.offsets.now (owned_bytes c.in_ok-items.items.items) c.in_ok-items.ensures.exact.is (omega arith)); no_fault = search rules } }
