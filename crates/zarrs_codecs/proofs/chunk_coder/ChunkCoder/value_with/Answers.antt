use Rattle.std.proofs.Common.{rules, subst}
use Rattle.std.specs.Prelude.{IsOkAnd}
use Rattle.zarrs_chunk.specs.ChunkShape.{product}
use Rattle.zarrs_chunk.specs.Runs.{joined_runs}
use Rattle.zarrs_array_bytes.specs.Chunks.{update_at_places}
use Rattle.zarrs_array_bytes.specs.Held.{raw_of}
use Rattle.zarrs_array_bytes.specs.Validity.{Holds}
use Rattle.zarrs_codecs.specs.ChunkCoder.{coder_form}
use Rattle.zarrs_codecs.proofs.ChunkWrites.{value_answer}
use Rattle.zarrs_codecs.proofs.WholeReads.{count_so}
use Rattle.zarrs_codecs.proofs.chunk_coder.ChunkCoder.value_with.Goals as goal

pub returns : goal.returns
returns g c =
    let k = c.args.self.now in
    let runs = joined_runs c.args.runs.now in
    let edited = subst (λ n. IsOkAnd (update_at_places k.data_type n runs c.args.chunk c.args.elements.now) (Holds k.data_type c.in_ok-edited.edited)) (count_so (product k.shape) c.in_ok-count.count c.in_ok-count.ensures.answer) c.in_ok-edited.ensures.answer.is in
    record { answer = record { is = value_answer (λ value. (raw_of value).items) c.encode.result g.B.BytesToBytesCodecTraits.functions (coder_form k) c.args.chunk c.in_ok-edited.edited c.args.elements.now runs c.requires.valid c.requires.fit edited c.encode.ensures.encodes.exact; no_fault = search rules } }
