use Rattle.std.proofs.Common.{◌≡◌, ℕ, ◌+◌, ◌*◌, Some, true, List, drop, map}
use Rattle.zarrs_array_bytes.specs.Tight.{IsTight}
use Rattle.zarrs_chain.specs.ChainView.{plain_codec, plain_sharding}
use Rattle.zarrs_chain_meaning.specs.sharding.Sharding.{spans_of}
use Rattle.zarrs_codecs.proofs.GroupWalks.{WalkedTo}
use Rattle.zarrs_codecs.specs.ChunkRead.{are_given_sure}
use Rattle.zarrs_codecs.specs.KeptIndex.{shard_depth}
use Rattle.zarrs_codecs.specs.ShardRead.{groups_rest}
use Rattle.zarrs_codecs.specs.SpanReads.{chain_read, chain_rests, seen_state}
use Rattle.zarrs_codecs.specs.TakenChain.{inner_form}
use Rattle.zarrs_shard_runs.specs.GroupedRuns.{group}
use Rattle.zarrs_codecs.proofs.sharding.+read.Given as goal

abbrev pub decreases-inner_reads::codec_in_span : goal.decreases-inner_reads::codec_in_span
decreases-inner_reads::codec_in_span g l = shard_depth (plain_codec l.codec.now) * 10 + 2

abbrev pub decreases-inner_reads::moved_in_span : goal.decreases-inner_reads::moved_in_span
decreases-inner_reads::moved_in_span g l = shard_depth (inner_form l.taken.now).chain.array_to_bytes * 10 + 3

abbrev pub decreases-inner_reads::region_in_span : goal.decreases-inner_reads::region_in_span
decreases-inner_reads::region_in_span g l = shard_depth (inner_form l.taken.now).chain.array_to_bytes * 10 + 4

abbrev pub decreases-inner_reads::indexed_in_span : goal.decreases-inner_reads::indexed_in_span
decreases-inner_reads::indexed_in_span g l = shard_depth (inner_form l.taken.now).chain.array_to_bytes * 10 + 5

abbrev pub decreases-inner_reads::chain_in_span : goal.decreases-inner_reads::chain_in_span
decreases-inner_reads::chain_in_span g l = shard_depth (inner_form l.taken.now).chain.array_to_bytes * 10 + 6

abbrev pub decreases-shard_runs::read_group : goal.decreases-shard_runs::read_group
decreases-shard_runs::read_group g l = shard_depth (inner_form l.taken.now).chain.array_to_bytes * 10 + 7

abbrev pub decreases-shard_runs::read_alone : goal.decreases-shard_runs::read_alone
decreases-shard_runs::read_alone g l = shard_depth (inner_form l.taken.now).chain.array_to_bytes * 10 + 8

abbrev pub decreases-shard_runs::read_groups : goal.decreases-shard_runs::read_groups
decreases-shard_runs::read_groups g l = shard_depth (inner_form l.taken.now).chain.array_to_bytes * 10 + 9

abbrev pub decreases-shard_runs::shard_by_index : goal.decreases-shard_runs::shard_by_index
decreases-shard_runs::shard_by_index g l = shard_depth (plain_sharding l.codec.now) * 10

abbrev pub decreases-shard_runs::shard_in_span : goal.decreases-shard_runs::shard_in_span
decreases-shard_runs::shard_in_span g l = shard_depth (plain_sharding l.codec.now) * 10 + 1

-- the groups so far are read, and nothing else is changed
abbrev pub invariant-shard_runs::read_groups-loop-group : goal.invariant-shard_runs::read_groups-loop-group
invariant-shard_runs::read_groups-loop-group g l =
    let f = g.B.BytesToBytesCodecTraits.functions in
    let form = inner_form l.taken in
    let before = seen_state l.span (g.H.BytesPartialDecoderTraits.state l.fn.handle) in
    record {
      walk : (value : List ℕ) → before.value ≡ Some value → WalkedTo (chain_read f form.chain) form.sizes form.type form.fill value (spans_of l.numbers) l.groups l.group-index l.joined l.count;
      sure : (value : List ℕ) → before.value ≡ Some value → are_given_sure before.sure (groups_rest (chain_rests f form.chain) form.sizes form.type form.fill value (spans_of l.numbers) (map group l.groups)) ≡ true → are_given_sure before.sure (groups_rest (chain_rests f form.chain) form.sizes form.type form.fill value (spans_of l.numbers) (map group (drop l.group-index l.groups))) ≡ true;
      tight : IsTight form.type l.joined;
      state : g.H.BytesPartialDecoderTraits.state l.handle ≡ g.H.BytesPartialDecoderTraits.state l.fn.handle;
      lent : g.H.BytesPartialDecoderTraits.lent l.handle ≡ g.H.BytesPartialDecoderTraits.lent l.fn.handle;
    }
