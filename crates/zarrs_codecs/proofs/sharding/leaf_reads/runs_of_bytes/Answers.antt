use Rattle.std.proofs.Common.{rules}
use Rattle.zarrs_array_bytes.specs.Held.{items_of}
use Rattle.zarrs_bytes.proofs.Coding.{ok}
use Rattle.zarrs_chain.specs.ChainView.{plain_codec}
use Rattle.zarrs_chunk.specs.ChunkShape.{product}
use Rattle.zarrs_chunk.specs.Runs.{joined_runs}
use Rattle.zarrs_codec.specs.declared.bytes_representation.BytesRepresentation.TheVariants.{UnboundedSize}
use Rattle.zarrs_codecs.proofs.LeafReads.{lone_chain}
use Rattle.zarrs_codecs.proofs.PartialCalls.{held_after}
use Rattle.zarrs_codecs.proofs.WholeReads.{chunk_at_runs, count_so}
use Rattle.zarrs_codecs.proofs.sharding.leaf_reads.runs_of_bytes.Goals as goal

pub returns : goal.returns
returns g c =
    let f = g.B.BytesToBytesCodecTraits.functions in
    let codec = plain_codec c.args.codec.now in
    let sizes = c.args.form.shape.now in
    let type = c.args.form.data_type.now in
    let fill = c.args.form.fill_value.now in
    let items = items_of c.args.value in
    let h = held_after f codec sizes type fill c.in_ok-chunk.chunk (ok items) c.in_ok-chunk.ensures.answer.is in
    record { answer = record { is = chunk_at_runs f (lone_chain codec) sizes type fill UnboundedSize items c.in_ok-chunk.chunk (joined_runs c.args.runs.now) c.in_ok-count.count c.extract_runs.result h.0 h.1 (count_so (product sizes) c.in_ok-count.count c.in_ok-count.ensures.answer) c.extract_runs.ensures.answer.is; no_fault = search rules }; tight = c.extract_runs.ensures.tight c.in_ok-chunk.ensures.tight.blank }
