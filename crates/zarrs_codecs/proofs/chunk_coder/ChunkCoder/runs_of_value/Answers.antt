use Rattle.std.proofs.Common.{rules}
use Rattle.zarrs_chunk.specs.ChunkShape.{product}
use Rattle.zarrs_chunk.specs.Runs.{joined_runs}
use Rattle.zarrs_chain_meaning.specs.BytesStages.{outer_bytes}
use Rattle.zarrs_chain.specs.ChainView.{plain_chain}
use Rattle.zarrs_codecs.proofs.PartialCalls.{held_after}
use Rattle.zarrs_codecs.proofs.WholeReads.{chunk_at_runs, count_so}
use Rattle.zarrs_codecs.proofs.chunk_coder.ChunkCoder.runs_of_value.Goals as goal

pub returns : goal.returns
returns g c =
    let f = g.B.BytesToBytesCodecTraits.functions in
    let k = c.args.self.now in
    let chain = plain_chain k.chain.now in
    let h = held_after f chain.array_to_bytes k.encoded k.data_type k.fill_value c.in_ok-held.held (outer_bytes f chain.bytes_to_bytes k.representation c.args.value.items) c.in_ok-held.ensures.answer.is in
    record { answer = record { is = chunk_at_runs f chain k.encoded k.data_type k.fill_value k.representation c.args.value.items c.in_ok-held.held (joined_runs c.args.runs.now) c.in_ok-count.count c.extract_runs.result h.0 h.1 (count_so (product k.encoded) c.in_ok-count.count c.in_ok-count.ensures.answer) c.extract_runs.ensures.answer.is; no_fault = search rules }; tight = c.extract_runs.ensures.tight c.in_ok-held.ensures.tight.blank }
