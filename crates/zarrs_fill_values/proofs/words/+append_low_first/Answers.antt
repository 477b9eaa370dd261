use Rattle.std.proofs.Common.{arith}
use Rattle.zarrs_fill_values.proofs.LowBytes.{appended_step}
use Rattle.zarrs_fill_values.proofs.words.+append_low_first.Goals as goal

pub returns : goal.returns
returns t c =
    record { appended = appended_step c.append_low_first.result c.args.bytes.now.items c.push.new.self.items c.append_low_first.new.bytes.items c.args.size c.args.number (omega (arith, c.if-size-eq0.false)) c.in_ok-push.ensures.items c.append_low_first.ensures.appended }
