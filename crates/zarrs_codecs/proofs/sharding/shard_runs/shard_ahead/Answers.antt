use Rattle.std.proofs.Common.{ap, sym, ◌∙◌}
use Rattle.zarrs_codec.specs.StorageState.{after_reading}
use Rattle.zarrs_lent_handles.proofs.SpanLemmas.{same_whole}
use Rattle.zarrs_codecs.proofs.sharding.shard_runs.shard_ahead.Goals as goal

pub returns-clause-left : goal.returns-clause-left
returns-clause-left g c =
    let state = g.H.BytesPartialDecoderTraits.state in
    let lent = g.H.BytesPartialDecoderTraits.lent in
    let before = c.new-ahead.result in
    let after = c.shard_in_span-read.new.handle in
    let read = c.shard_in_span-read.ensures.left in
    let same = same_whole lent before.handle.ghost_name after.handle.ghost_name before.handle.now after.handle.now read.same_reference in
    let back = c.handle-1.given.1 (sym c.new-ahead.ensures.same_reference ∙ sym same.name_is ∙ sym c.into_handle.ensures.same_reference) ∙ c.into_handle.ensures.handle in
    record {
      left = ap state back ∙ read.left ∙ ap (λ h. after_reading c.shard_in_span-read.result (state h)) c.new-ahead.ensures.handle;
      same_reference = ap lent back ∙ same.lent_is ∙ ap lent c.new-ahead.ensures.handle;
    }
