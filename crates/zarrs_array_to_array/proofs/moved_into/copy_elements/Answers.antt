use Rattle.std.proofs.Common.{◌≡◌, [], arith, refl}
use Rattle.std.proofs.lemmas.Result.{err_from_is_err_and}
use Rattle.zarrs_array_bytes.specs.Held.{owned_bytes}
use Rattle.zarrs_array_to_array.proofs.WrittenElements.{fixed_length, fixed_there}
use Rattle.zarrs_array_to_array.proofs.moved_into.copy_elements.Goals as goal

pub returns-in_err-elements : goal.returns-in_err-elements
returns-in_err-elements c =
    let p = err_from_is_err_and c.from_residual.result c.from_residual.ensures.1 in
    record {
      written = record {
        raw = owned_bytes [];
        there = rw p.1 (tt, refl);
        answered = λ count counted valid. absurd (fixed_there c.args.data_type.now c.args.size count c.args.bytes.now c.in_err-elements.field-0.0 c.requires.sized valid c.in_err-elements.ensures.answer);
      };
    }

pub returns-then-elements-moved : goal.returns-then-elements-moved
returns-then-elements-moved c =
    record {
      written = record {
        raw = owned_bytes [];
        there = (tt, refl);
        answered = λ count counted valid. absurd (omega (arith, fixed_length c.args.data_type.now c.args.size count c.args.bytes.now c.in_ok-elements.elements.now c.requires.sized valid c.in_ok-elements.ensures.answer, counted, c.if-elements-moved.true));
      };
    }
