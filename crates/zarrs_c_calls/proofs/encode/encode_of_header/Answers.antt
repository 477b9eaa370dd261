use Rattle.std.proofs.Common.{◌≡◌, nat_le, if◌then◌else◌, length, ap, ap₂, ◌∙◌}
use Rattle.zarrs_c_calls.specs.Buffers.{buffers}
use Rattle.zarrs_c_calls.specs.Calls.{encoded, known_header}
use Rattle.zarrs_c_calls.specs.Told.{ToldBytes}
use Rattle.zarrs_c_calls.proofs.TellLemmas.{bytes_told, bytes_refused}
use Rattle.zarrs_c_calls.proofs.encode.encode_of_header.Goals as goal

pub returns-in-Ok : goal.returns-in-Ok
returns-in-Ok c =
    let due = encoded (known_header c.args.form.now) (buffers c.args.masks.now c.args.offsets.now c.args.bytes.now) in
    let w = c.in-Ok.ensures.written in
    let told : ToldBytes w.items c.tell_count.result c.args.out.now c.encode.new.out c.tell_count.new.needed = record {
      code_is = c.tell_count.ensures.code ∙ ap₂ (λ n room. if nat_le n room then 0 else 1) w.counted c.encode.auto.out;
      buffer_is = w.there;
      needed_is = c.tell_count.ensures.needed ∙ w.counted;
    } in
    record { told = bytes_told w.items due c.tell_count.result c.args.out.now c.encode.new.out c.args.needed.now c.tell_count.new.needed w.answered told }

pub returns-in-Err : goal.returns-in-Err
returns-in-Err c =
    let due = encoded (known_header c.args.form.now) (buffers c.args.masks.now c.args.offsets.now c.args.bytes.now) in
    let w = c.in-Err.ensures.written in
    record { told = rw w.left (bytes_refused c.in-Err.cause due c.cause_code.result c.args.out.now c.args.needed.now w.answered c.cause_code.ensures.value) }
