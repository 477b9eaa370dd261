use Rattle.std.proofs.Common.{◌≡◌, ◌+◌, Ok, Some, IsOk, length, sym, ap, ap₂, ◌∙◌, arith, subst}
use Rattle.zarrs_chunk.specs.Answer.{Answers, memory}
use Rattle.zarrs_chunk.specs.Runs.{joined_runs}
use Rattle.zarrs_chunk.specs.declared.codec_error.CodecError.TheVariants.{InvalidBytesLength}
use Rattle.zarrs_data_type.specs.ElementType.{fixed_size_of}
use Rattle.zarrs_array_bytes.specs.Held.{Held, flen, vlen, raw_of, owned_bytes}
use Rattle.zarrs_array_bytes.specs.ArrayBytes.{held_of}
use Rattle.zarrs_array_bytes.specs.Parts.{variable_part, bytes_in, offsets_in}
use Rattle.zarrs_array_bytes.specs.Pieces.{variable_of}
use Rattle.zarrs_array_bytes.specs.Validity.{data_mismatch}
use Rattle.zarrs_array_bytes.specs.Update.{container_update, cuts_update, with_runs}
use Rattle.zarrs_array_bytes.proofs.ValidLemmas.{variable_fits}
use Rattle.zarrs_array_bytes.proofs.UpdateCalls.{variable_too, variable_count, written_fixed, written_variable}
use Rattle.zarrs_array_bytes.proofs.update.+write_elements.Goals as goal

pub write_variable-requires-clause-inside : goal.write_variable-requires-clause-inside
write_variable-requires-clause-inside t c = λ k d l.
    let seen : c.args.array ≡ vlen (raw_of c.in-Variable.old) c.in-Variable.offsets = sym c.array.view_is ∙ ap held_of c.in-Variable.is in
    let count : length c.in-Variable.offsets ≡ c.args.count + 1 = variable_fits InvalidBytesLength c.args.data_type.now c.args.count _ _ (rw seen at c.requires.valid) in
    omega (arith, count, ap length c.in-Variable.offsets-is, c.requires.inside k d l)

pub write_variable-requires-clause-enough : goal.write_variable-requires-clause-enough
write_variable-requires-clause-enough t c =
    let seen : c.args.array ≡ vlen (raw_of c.in-Variable.old) c.in-Variable.offsets = sym c.array.view_is ∙ ap held_of c.in-Variable.is in
    let kind : IsOk (variable_part c.args.new.now) = variable_too InvalidBytesLength data_mismatch c.args.data_type.now c.args.count (length (joined_runs c.args.runs.now)) _ _ c.args.new.now (rw seen at c.requires.valid) c.requires.data_valid in
    variable_count data_mismatch c.args.data_type.now (length (joined_runs c.args.runs.now)) c.args.new.now c.requires.data_valid kind

pub returns-in-Fixed : goal.returns-in-Fixed
returns-in-Fixed t c =
    let old = raw_of c.in-Fixed.old in
    let type = c.args.data_type.now in
    let new = c.args.new.now in
    let runs = c.args.runs.now in
    let seen : c.args.array ≡ flen old = sym c.array.view_is ∙ ap held_of c.in-Fixed.is in
    let size : fixed_size_of type ≡ Some c.unwrap-size.result = cc in
    let are : flen (owned_bytes (with_runs c.unwrap-size.result old.items runs (bytes_in new))) ≡ container_update type c.args.count c.args.array (length (joined_runs runs)) new (joined_runs runs) =
    sym (ap (λ h. container_update type c.args.count h (length (joined_runs runs)) new (joined_runs runs)) seen
    ∙ written_fixed InvalidBytesLength data_mismatch type c.args.count old new runs c.unwrap-size.result (rw seen at c.requires.valid) c.requires.data_valid size c.requires.inside) in
    record {
      exact = record {
        is = subst (λ (h : Held). Answers memory (λ (a : Held). a) c.write_fixed.result (Ok h)) (ap (λ b. flen (owned_bytes (with_runs c.unwrap-size.result (raw_of b).items runs (bytes_in new)))) c.in-Fixed.old-is ∙ are) c.write_fixed.ensures.exact.is;
        no_fault = c.write_fixed.ensures.exact.no_fault;
      };
      flush = c.write_fixed.ensures.flush;
    }

pub returns-in-Variable : goal.returns-in-Variable
returns-in-Variable t c =
    let old = raw_of c.in-Variable.old in
    let type = c.args.data_type.now in
    let new = c.args.new.now in
    let places = joined_runs c.args.runs.now in
    let seen : c.args.array ≡ vlen old c.in-Variable.offsets = sym c.array.view_is ∙ ap held_of c.in-Variable.is in
    let are : variable_of (cuts_update c.in-Variable.offsets old.items (offsets_in new) (bytes_in new) places) ≡ container_update type c.args.count c.args.array (length places) new places =
    sym (ap (λ h. container_update type c.args.count h (length places) new places) seen
    ∙ written_variable InvalidBytesLength data_mismatch type c.args.count old c.in-Variable.offsets new places (rw seen at c.requires.valid) c.requires.data_valid) in
    record {
      exact = record {
        is = subst (λ (h : Held). Answers memory (λ (a : Held). a) c.write_variable.result (Ok h))
            (ap₂ (λ b os. variable_of (cuts_update os (raw_of b).items (offsets_in new) (bytes_in new) places)) c.in-Variable.old-is c.in-Variable.offsets-is ∙ are) c.write_variable.ensures.exact.is;
        no_fault = c.write_variable.ensures.exact.no_fault;
      };
      flush = c.write_variable.ensures.flush;
    }
