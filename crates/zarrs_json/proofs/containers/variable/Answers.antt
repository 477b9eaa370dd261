use Rattle.std.proofs.Common.{◌≡◌, ap}
use Rattle.std.specs.Prelude.{Ok}
use Rattle.zarrs_array_bytes.specs.Pieces.{bytes_with_offsets, variable_of}
use Rattle.zarrs_json.specs.Containers.{bytes_or_zeros, variable_answer}
use Rattle.zarrs_json.specs.Element.{slots_seen}
use Rattle.zarrs_json.proofs.ContainerLemmas.{variable_made, never_refused}
use Rattle.zarrs_json.proofs.containers.variable.Goals as goal

pub returns-in-Ok : goal.returns-in-Ok
returns-in-Ok c =
    let made : variable_of (bytes_with_offsets (bytes_or_zeros 0) (slots_seen c.args.slots.now)) ≡ c.in-Ok.elements = cc (variable_made (slots_seen c.args.slots.now) c.in_ok-bytes.bytes.items c.in_ok-bytes.offsets.items c.in_ok-bytes.ensures.value, c.in-Ok.ensures.answer) in
    record { answer = ap Ok made }

pub returns-in-Err : goal.returns-in-Err
returns-in-Err c = record {
  answer = λ _.
      never_refused (variable_answer c.in_ok-bytes.bytes.items c.in_ok-bytes.offsets.items) (variable_of (bytes_with_offsets (bytes_or_zeros 0) (slots_seen c.args.slots.now))) c.in-Err.error _ c.in-Err.ensures.answer
      (variable_made (slots_seen c.args.slots.now) c.in_ok-bytes.bytes.items c.in_ok-bytes.offsets.items c.in_ok-bytes.ensures.value);
}
