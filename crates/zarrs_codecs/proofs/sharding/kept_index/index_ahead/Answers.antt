use Rattle.std.proofs.Common.{ap, sym, ◌∙◌}
use Rattle.zarrs_codec.specs.StorageState.{after_reading}
use Rattle.zarrs_lent_handles.proofs.SpanLemmas.{same_whole}
use Rattle.zarrs_codecs.proofs.sharding.kept_index.index_ahead.Goals as goal

pub returns-clause-left : goal.returns-clause-left
returns-clause-left g c =
    let state = g.H.BytesPartialDecoderTraits.state in
    let before = c.new-ahead.result in
    let after = c.shard_by_index-read.new.handle in
    let same = same_whole g.H.BytesPartialDecoderTraits.lent before.handle.ghost_name after.handle.ghost_name before.handle.now after.handle.now c.shard_by_index-read.ensures.left.same_reference in
    ap state (c.handle-1.given.1 (sym c.new-ahead.ensures.same_reference ∙ sym same.name_is ∙ sym c.into_handle.ensures.same_reference) ∙ c.into_handle.ensures.handle)
    ∙ c.shard_by_index-read.ensures.left.left
    ∙ ap (λ h. after_reading c.shard_by_index-read.result (state h)) c.new-ahead.ensures.handle

pub returns-clause-same_reference : goal.returns-clause-same_reference
returns-clause-same_reference g c =
    let lent = g.H.BytesPartialDecoderTraits.lent in
    let before = c.new-ahead.result in
    let after = c.shard_by_index-read.new.handle in
    let same = same_whole lent before.handle.ghost_name after.handle.ghost_name before.handle.now after.handle.now c.shard_by_index-read.ensures.left.same_reference in
    ap lent (c.handle-1.given.1 (sym c.new-ahead.ensures.same_reference ∙ sym same.name_is ∙ sym c.into_handle.ensures.same_reference) ∙ c.into_handle.ensures.handle) ∙ same.lent_is ∙ ap lent c.new-ahead.ensures.handle
