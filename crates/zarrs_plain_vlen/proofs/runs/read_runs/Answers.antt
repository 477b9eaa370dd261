use Rattle.std.proofs.Common.{◌≡◌, ◌∙◌, Some, None, ap}
use Rattle.zarrs_chunk.specs.Runs.{joined_runs}
use Rattle.zarrs_codec.specs.StorageState.{StorageState, value_or_empty, value_size}
use Rattle.zarrs_chain_meaning.specs.vlen.PlainVlen.{plain_form}
use Rattle.zarrs_chain_meaning.proofs.ArraySteps.{ok_is}
use Rattle.zarrs_plain_vlen.proofs.CallCounts.{size_alone, size_first}
use Rattle.zarrs_plain_vlen.proofs.runs.read_runs.Goals as goal

pub returns-in-None-clause-counted : goal.returns-in-None-clause-counted
returns-in-None-clause-counted g c =
    let D = g.H.BytesPartialDecoderTraits in
    let stored = (D.state c.args.handle.now).value in
    let none : value_size stored ≡ None = ok_is _ _ c.in_ok-size.ensures.answer ∙ c.in-None.is in
    size_alone (plain_form c.args.codec) c.args.count stored (joined_runs c.args.runs.now) (D.calls c.args.handle.now) (D.calls c.size.new.self) none c.in_ok-size.ensures.counted

pub returns-in_ok-elements-in-Some-clause-counted : goal.returns-in_ok-elements-in-Some-clause-counted
returns-in_ok-elements-in-Some-clause-counted g c =
    let D = g.H.BytesPartialDecoderTraits in
    let stored = (D.state c.args.handle.now).value in
    let there : value_size stored ≡ Some c.in-Some.size = ok_is _ _ c.in_ok-size.ensures.answer ∙ c.in-Some.is in
    let value = value_or_empty (D.state c.size.new.self).value in
    let same = ap (λ (s : StorageState). value_or_empty s.value) c.in_ok-size.ensures.left in
    size_first (plain_form c.args.codec) c.args.count stored c.in-Some.size value (joined_runs c.args.runs.now) (D.calls c.args.handle.now) (D.calls c.size.new.self) (D.calls c.read_stored.new.handle) there same c.in_ok-size.ensures.counted c.in_ok-elements-in-Some.ensures.counted
