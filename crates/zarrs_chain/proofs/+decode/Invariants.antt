use Rattle.std.proofs.Common.{◌≡◌, All, Ok, length}
use Rattle.zarrs_array_bytes.specs.Held.{flen, raw_of}
use Rattle.zarrs_array_bytes.specs.Validity.{validity}
use Rattle.zarrs_chunk.specs.ChunkShape.{product}
use Rattle.zarrs_shard_bytes.specs.Rows.{chunks_in}
use Rattle.zarrs_chain.proofs.InnerBytes.{ReadsTo}
use Rattle.zarrs_chain.proofs.ShardBands.{BandsTo}
use Rattle.zarrs_shard_bytes.specs.Bands.{band_of, chunks_of}
use Rattle.zarrs_array_bytes.specs.Tight.{IsTight}
use Rattle.zarrs_chunk.specs.Answer.{◌>>=◌}
use Rattle.zarrs_chain_meaning.specs.CodecMeaning.{chain_chunk}
use Rattle.zarrs_chain_meaning.specs.sharding.InnerChunks.{inner_chunk_count, joined_inner_chunks}
use Rattle.zarrs_chain_meaning.specs.sharding.ShardSteps.{inner_chunks_at}
use Rattle.zarrs_chain_meaning.specs.sharding.Sharding.{spans_of}
use Rattle.zarrs_chain.specs.ChainView.{plain_chain}
use Rattle.zarrs_chain.proofs.ShardReading.{WalksTo}
use Rattle.zarrs_chain.proofs.+decode.Given as goal

abbrev pub invariant-sharding::shard_decode::read_all-loop-number : goal.invariant-sharding::shard_decode::read_all-loop-number
invariant-sharding::shard_decode::read_all-loop-number g l =
    let decode = chain_chunk g.B.BytesToBytesCodecTraits.functions (plain_chain l.chain) in
    record {
      walk : WalksTo decode l.inner l.form.shape.now l.form.data_type.now l.form.fill_value.now l.value l.numbers l.number l.elements (inner_chunks_at decode l.inner l.form.data_type.now l.form.fill_value.now l.value (spans_of l.numbers) >>= λ inner_chunks. Ok (joined_inner_chunks l.inner l.form.shape.now inner_chunks));
      tight : IsTight l.form.data_type.now l.elements;
    }

abbrev pub invariant-sharding::shard_rows::read_all_bytes-loop-number : goal.invariant-sharding::shard_rows::read_all_bytes-loop-number
invariant-sharding::shard_rows::read_all_bytes-loop-number g l =
    let decode = chain_chunk g.B.BytesToBytesCodecTraits.functions (plain_chain l.chain) in
    record {
      walk : ReadsTo decode l.form.shape.now l.form.data_type.now l.form.fill_value.now l.value l.numbers l.number (chunks_in l.form.data_type.now (product l.form.shape.now) l.contents.items);
      all : length l.contents.items ≡ l.number;
      whole : All (λ content. validity l.form.data_type.now (product l.form.shape.now) (flen (raw_of content)) ≡ Ok tt) l.contents.items;
    }

abbrev pub invariant-sharding::shard_bands::read_band-loop-number : goal.invariant-sharding::shard_bands::read_band-loop-number
invariant-sharding::shard_bands::read_band-loop-number g l =
    let decode = chain_chunk g.B.BytesToBytesCodecTraits.functions (plain_chain l.chain) in
    record {
      walk : ReadsTo decode l.form.shape.now l.form.data_type.now l.form.fill_value.now l.value l.numbers l.number (chunks_of l.form.data_type.now (product l.form.shape.now) l.contents.items);
      all : length l.contents.items ≡ l.number;
      whole : All (λ content. validity l.form.data_type.now (product l.form.shape.now) content ≡ Ok tt) l.contents.items;
      tight : All (IsTight l.form.data_type.now) l.contents.items;
    }

abbrev pub invariant-sharding::shard_bands::read_bands-loop-number : goal.invariant-sharding::shard_bands::read_bands-loop-number
invariant-sharding::shard_bands::read_bands-loop-number g l =
    let decode = chain_chunk g.B.BytesToBytesCodecTraits.functions (plain_chain l.chain) in
    record {
      walk : BandsTo decode l.inner (band_of l.inner l.form.shape.now) (inner_chunk_count l.inner (band_of l.inner l.form.shape.now)) l.form.data_type.now l.form.fill_value.now l.value l.numbers l.number l.done l.elements;
      tight : IsTight l.form.data_type.now l.elements;
    }
