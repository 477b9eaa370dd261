use Rattle.std.proofs.Common.{◌≡◌, ◌<◌, false, true, None, Some, rules, refl, ap, sym, subst, ◌∙◌}
use Rattle.zarrs_data_type.specs.ElementType.{fixed_size_of}
use Rattle.zarrs_data_type.specs.FillValue.{fill_fits}
use Rattle.zarrs_bytes.proofs.Coding.{ok}
use Rattle.zarrs_packbits.specs.NormalForm as packbits
use Rattle.zarrs_chain.specs.sharding.ShardingCalls.{GivesPackedNormal, is_overflow}
use Rattle.zarrs_chain.proofs.NormalForms.{held_kept, packed_other, packed_unfixed}
use Rattle.zarrs_chain.proofs.VlenKept.{row_length}
use Rattle.zarrs_chain.proofs.sharding.normal_form.packed_normal.Goals as goal

pub returns-in-Ok : goal.returns-in-Ok
returns-in-Ok c =
    let long = row_length c.args.count c.in-Some-2.row (c.in_ok-row.ensures.answer.is ∙ ap ok c.in-Some-2.is) in
    record { answer = subst (λ n. GivesPackedNormal c.args.codec.now n c.args.data_type.now c.args.elements c.packed_row.result) (sym long) c.packed_row.ensures.answer }

pub returns-in_default : goal.returns-in_default
returns-in_default c =
    let none : fixed_size_of c.args.data_type.now ≡ None = search rules in
    record {
      answer = record {
        is = held_kept (packbits.normal_element c.args.codec.now c.args.data_type.now) c.args.data_type.now c.args.count c.args.elements (λ element. packed_unfixed c.args.codec.now c.args.data_type.now element none) c.requires.valid;
        no_fault = refl;
      };
    }

pub returns : goal.returns
returns c =
    let size : fixed_size_of c.args.data_type.now ≡ Some c.in-Some.field-0 = search rules in
    let positive : 0 < c.in-Some.field-0 = search rules in
    let fits : fill_fits c.args.data_type.now c.in_ok-fill.fill ≡ true = search rules in
    let other : is_overflow c.in-Err.cause ≡ false = search rules in
    record {
      answer = record {
        is = held_kept (packbits.normal_element c.args.codec.now c.args.data_type.now) c.args.data_type.now c.args.count c.args.elements (λ element. packed_other c.args.codec.now c.args.data_type.now c.in-Some.field-0 c.in-Some-2.row c.in_ok-fill.fill c.in-Err.cause element size positive fits (sym c.encoded_representation.ensures.answer ∙ c.in-Err.is) other) c.requires.valid;
        no_fault = refl;
      };
    }
