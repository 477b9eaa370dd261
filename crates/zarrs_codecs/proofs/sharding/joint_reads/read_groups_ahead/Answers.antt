use Rattle.std.proofs.Common.{Option, Vec, Global, IfSome, subst, sym, ◌∙◌}
use Rattle.zarrs_codec.specs.ByteSpan.{ByteSpan}
use Rattle.zarrs_codecs.proofs.JointReads.{ahead_refused, ahead_sure, not_held}
use Rattle.zarrs_codecs.specs.JointReads.{AreGroupRanges}
use Rattle.zarrs_codecs.proofs.sharding.joint_reads.read_groups_ahead.Goals as goal

pub returns-in-Some-clause-refused : goal.returns-in-Some-clause-refused
returns-in-Some-clause-refused g c =
    let taken = c.args.taken.now in
    let span = c.args.span.now in
    let are = subst (λ (o : Option (Vec ByteSpan Global)). IfSome o (λ ranges. AreGroupRanges taken span c.args.numbers.now c.args.groups.now ranges.items)) c.in-Some.is ((c.in_ok-ranges.ensures {u = tt}).ranges) in
    ahead_refused taken span (g.H.BytesPartialDecoderTraits.state c.args.handle.now) c.requires.stands (not_held span (sym c.is_some.ensures ∙ c.if-is_some.false)) c.args.numbers.now c.args.groups.now c.in-Some.ranges.items are c.read_ahead.result c.read_ahead.ensures.answer

pub returns-in-Some-clause-sure : goal.returns-in-Some-clause-sure
returns-in-Some-clause-sure g c = λ s.
    let taken = c.args.taken.now in
    let span = c.args.span.now in
    let are = subst (λ (o : Option (Vec ByteSpan Global)). IfSome o (λ ranges. AreGroupRanges taken span c.args.numbers.now c.args.groups.now ranges.items)) c.in-Some.is ((c.in_ok-ranges.ensures {u = tt}).ranges) in
    c.read_ahead.ensures.sure (ahead_sure taken span (g.H.BytesPartialDecoderTraits.state c.args.handle.now) c.requires.stands (not_held span (sym c.is_some.ensures ∙ c.if-is_some.false)) c.args.numbers.now c.args.groups.now c.in-Some.ranges.items are s)
