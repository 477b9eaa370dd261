use Rattle.std.proofs.Common.{◌≡◌, nat_le, if◌then◌else◌, length, ap, ◌∙◌}
use Rattle.zarrs_array_bytes.specs.Pieces.{fixed_of}
use Rattle.zarrs_json.specs.HeaderRead.{header_seen}
use Rattle.zarrs_c_calls.specs.Buffers.{buffers}
use Rattle.zarrs_c_calls.specs.Calls.{value_decoded}
use Rattle.zarrs_c_calls.proofs.TellLemmas.{elements_refused, elements_told, sized_told}
use Rattle.zarrs_c_calls.proofs.decode.decode_sized.Goals as goal

pub returns-in-Ok : goal.returns-in-Ok
returns-in-Ok c =
    let due = value_decoded (header_seen c.args.header.now) c.args.value.now in
    let w = c.in-Ok.ensures.written in
    let code = c.tell_sized.ensures.code ∙ ap (λ room. if nat_le c.in-Ok.count room then 0 else 1) c.decode_front.auto.bytes in
    record {
      told = λ masks offsets.
          elements_told (fixed_of w.items) due c.tell_sized.result (buffers masks offsets c.args.bytes.now) (buffers masks offsets c.decode_front.new.bytes) c.args.needed.now c.tell_sized.new.needed w.answered
          (sized_told w.items masks offsets c.tell_sized.result c.in-Ok.count c.args.bytes.now c.decode_front.new.bytes c.tell_sized.new.needed w.counted code w.there c.tell_sized.ensures.needed);
    }

pub returns-in-Err : goal.returns-in-Err
returns-in-Err c =
    let due = value_decoded (header_seen c.args.header.now) c.args.value.now in
    let w = c.in-Err.ensures.written in
    record { told = λ masks offsets. rw w.left (elements_refused c.in-Err.cause due c.cause_code.result (buffers masks offsets c.args.bytes.now) c.args.needed.now w.answered c.cause_code.ensures.value) }
