use Rattle.zarrs_chain.proofs.ShardWrites.{IsBehind}
use Rattle.zarrs_chain.proofs.+encode.Given as goal

abbrev pub invariant-sharding::shard_encode::write_all-loop-number : goal.invariant-sharding::shard_encode::write_all-loop-number
invariant-sharding::shard_encode::write_all-loop-number g l =
    IsBehind g.B.BytesToBytesCodecTraits.functions l.chain l.inner l.form.shape.now l.form.data_type.now l.form.fill_value.now l.held l.number l.initial.written l.written
