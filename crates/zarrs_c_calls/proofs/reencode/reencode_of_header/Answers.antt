use Rattle.std.proofs.Common.{rules}
use Rattle.zarrs_c_calls.specs.Calls.{known_header, reencoded}
use Rattle.zarrs_c_calls.specs.Told.{ToldBytes}
use Rattle.zarrs_c_calls.proofs.TellLemmas.{bytes_told, bytes_refused}
use Rattle.zarrs_c_calls.proofs.reencode.reencode_of_header.Goals as goal

pub returns-in-Ok : goal.returns-in-Ok
returns-in-Ok c =
    let due = reencoded (known_header c.args.form.now) c.args.value.now c.args.codecs.now in
    let told : ToldBytes c.in-Ok.other.items c.tell_bytes.result c.args.out.now c.tell_bytes.new.out c.tell_bytes.new.needed = search rules in
    record { told = bytes_told c.in-Ok.other.items due c.tell_bytes.result c.args.out.now c.tell_bytes.new.out c.args.needed.now c.tell_bytes.new.needed c.in-Ok.ensures.answer told }

pub returns-in-Err : goal.returns-in-Err
returns-in-Err c =
    let due = reencoded (known_header c.args.form.now) c.args.value.now c.args.codecs.now in
    record { told = bytes_refused c.in-Err.cause due c.cause_code.result c.args.out.now c.args.needed.now c.in-Err.ensures.answer c.cause_code.ensures.value }
