use Rattle.std.proofs.Common.{rules, Ok, ap}
use Rattle.zarrs_chunk.proofs.NumberedTuples.{tuple_of_number_is}
use Rattle.zarrs_array_to_array.proofs.boxes.tuple_at.Goals as goal

pub returns : goal.returns
returns c =
    let found = rw c.in-Some.is at ((c.in_ok-unravel_index.ensures {u = tt}).answer) in
    record { answer = record { is = ap (λ tuple. Ok tuple) (tuple_of_number_is c.args.shape.now c.in-Some.tuple.items c.args.number found.0 found.1); no_fault = search rules } }
