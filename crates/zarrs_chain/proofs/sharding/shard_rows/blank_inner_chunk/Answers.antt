use Rattle.zarrs_chunk.specs.ChunkShape.{product}
use Rattle.zarrs_shard_bytes.proofs.Sizes.{count_is}
use Rattle.zarrs_chain.proofs.InnerBytes.{blank_given}
use Rattle.zarrs_chain.proofs.sharding.shard_rows.blank_inner_chunk.Goals as goal

pub returns : goal.returns
returns c =
    let same = count_is (product c.args.form.shape.now) c.in_ok-count.count c.requires.counted c.in_ok-count.ensures.answer in
    record { answer = blank_given c.args.form.data_type.now c.args.form.shape.now c.args.form.fill_value.now c.in_ok-count.count c.new_fill_value.result same c.requires.filling c.requires.room c.new_fill_value.ensures.exact; tight = c.new_fill_value.ensures.tight }
