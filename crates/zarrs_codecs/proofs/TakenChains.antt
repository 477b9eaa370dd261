-- A chain that was taken for the inner chunks of a shard reads what the shard's codec reads of them.
use Rattle.std.proofs.Common.{◌≡◌, true, ℕ, List, map, Result, ap, sym, subst}
use Rattle.zarrs_array_bytes.specs.Held.{Held}
use Rattle.zarrs_chain_meaning.specs.ChunkForm.{ChunkForm}
use Rattle.zarrs_chain_meaning.specs.sharding.Sharding.{Span, spans_of}
use Rattle.zarrs_chunk.specs.declared.codec_error.CodecError.{CodecError}
use Rattle.zarrs_codec.specs.StorageState.{StorageState}
use Rattle.zarrs_codecs.specs.BoxReads.{ReadsParts, blank_box, part_group, parts_read}
use Rattle.zarrs_codecs.specs.ChunkRead.{AnswersRuns, are_given_sure}
use Rattle.zarrs_codecs.specs.KeptIndex.{shard_depth}
use Rattle.zarrs_codecs.specs.SpanReads.{ReadsGroups, ReadsSpan, chain_read, chain_rests, stored_groups_read, stored_groups_rest, stored_span_read, stored_span_rests, taken_rests}
use Rattle.zarrs_codecs.specs.TakenChain.{inner_form}
use Rattle.zarrs_codecs.specs.declared.sharding.taken_chain.TakenChain.{TakenChain}
use Rattle.zarrs_grid.specs.declared.chunk_part.ChunkPart.{ChunkPart}
use Rattle.zarrs_shard_runs.specs.GroupedRuns.{group}
use Rattle.zarrs_shard_runs.specs.declared.grouped_runs.InnerRuns.{InnerRuns}

module _ {B : Type 0} {b : _} (taken : TakenChain B b) {form : ChunkForm B} (same : inner_form taken ≡ form) where
  pub inner_sizes : (inner_form taken).sizes ≡ form.sizes
  inner_sizes = ap (λ (it : ChunkForm B). it.sizes) same

  pub inner_depth : shard_depth (inner_form taken).chain.array_to_bytes ≡ shard_depth form.chain.array_to_bytes
  inner_depth = ap (λ (it : ChunkForm B). shard_depth it.chain.array_to_bytes) same

  -- of an inner chunk
  pub inner_span : (state : StorageState) (span : Span) (places : List ℕ) (result : Result Held CodecError) → ReadsSpan taken state span places result
      → AnswersRuns form.type (stored_span_read (chain_read b.functions form.chain) form.sizes form.type form.fill state.value span places) result
  inner_span state span places result h = subst (λ (it : ChunkForm B). AnswersRuns it.type (stored_span_read (chain_read b.functions it.chain) it.sizes it.type it.fill state.value span places) result) same h

  pub span_rested : (state : StorageState) (span : Span) (places : List ℕ) → are_given_sure state.sure (stored_span_rests (chain_rests b.functions form.chain) form.sizes form.type form.fill state.value span places) ≡ true
      → are_given_sure state.sure (stored_span_rests (taken_rests taken) (inner_form taken).sizes (inner_form taken).type (inner_form taken).fill state.value span places) ≡ true
  span_rested state span places h = subst (λ (it : ChunkForm B). are_given_sure state.sure (stored_span_rests (chain_rests b.functions it.chain) it.sizes it.type it.fill state.value span places) ≡ true) (sym same) h

  -- of groups
  module _ (state : StorageState) (numbers : List ℕ) (groups : List InnerRuns) where
    pub inner_groups : (result : Result Held CodecError) → ReadsGroups taken state numbers groups result
        → AnswersRuns form.type (stored_groups_read (chain_read b.functions form.chain) form.sizes form.type form.fill state.value (spans_of numbers) (map group groups)) result
    inner_groups result h = subst (λ (it : ChunkForm B). AnswersRuns it.type (stored_groups_read (chain_read b.functions it.chain) it.sizes it.type it.fill state.value (spans_of numbers) (map group groups)) result) same h

    pub groups_rested : are_given_sure state.sure (stored_groups_rest (chain_rests b.functions form.chain) form.sizes form.type form.fill state.value (spans_of numbers) (map group groups)) ≡ true
        → are_given_sure state.sure (stored_groups_rest (taken_rests taken) (inner_form taken).sizes (inner_form taken).type (inner_form taken).fill state.value (spans_of numbers) (map group groups)) ≡ true
    groups_rested h = subst (λ (it : ChunkForm B). are_given_sure state.sure (stored_groups_rest (chain_rests b.functions it.chain) it.sizes it.type it.fill state.value (spans_of numbers) (map group groups)) ≡ true) (sym same) h

  -- of parts
  module _ (state : StorageState) (numbers grid : List ℕ) (parts : List ChunkPart) where
    pub inner_parts : (lengths : List ℕ) (result : Result Held CodecError) → ReadsParts taken state numbers grid lengths parts result
        → AnswersRuns form.type (parts_read (chain_read b.functions form.chain) form.sizes form.type form.fill state.value (spans_of numbers) grid lengths parts (blank_box form.type form.fill lengths)) result
    inner_parts lengths result h = subst (λ (it : ChunkForm B). AnswersRuns it.type (parts_read (chain_read b.functions it.chain) it.sizes it.type it.fill state.value (spans_of numbers) grid lengths parts (blank_box it.type it.fill lengths)) result) same h

    pub parts_rested : are_given_sure state.sure (stored_groups_rest (chain_rests b.functions form.chain) form.sizes form.type form.fill state.value (spans_of numbers) (map (part_group form.sizes grid) parts)) ≡ true
        → are_given_sure state.sure (stored_groups_rest (taken_rests taken) (inner_form taken).sizes (inner_form taken).type (inner_form taken).fill state.value (spans_of numbers) (map (part_group (inner_form taken).sizes grid) parts)) ≡ true
    parts_rested h = subst (λ (it : ChunkForm B). are_given_sure state.sure (stored_groups_rest (chain_rests b.functions it.chain) it.sizes it.type it.fill state.value (spans_of numbers) (map (part_group it.sizes grid) parts)) ≡ true) (sym same) h
