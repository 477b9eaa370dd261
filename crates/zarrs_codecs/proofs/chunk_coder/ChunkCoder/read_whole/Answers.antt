use Rattle.zarrs_chunk.specs.Runs.{joined_runs}
use Rattle.zarrs_chain.specs.ChainView.{plain_chain}
use Rattle.zarrs_codecs.proofs.PartialCalls.{same_stored}
use Rattle.zarrs_codecs.proofs.WholeReads.{none_answer, whole_answer}
use Rattle.zarrs_codecs.proofs.chunk_coder.ChunkCoder.read_whole.Goals as goal

pub returns-in-Some-clause-answer : goal.returns-in-Some-clause-answer
returns-in-Some-clause-answer g c =
    let k = c.args.self.now in
    let stored = same_stored _ _ (rw c.in-Some.is at c.in_ok-decode.ensures.answer) in
    whole_answer g.B.BytesToBytesCodecTraits.functions (plain_chain k.chain.now) k.encoded k.data_type k.fill_value k.representation (g.H.BytesPartialDecoderTraits.state c.args.handle.now).value c.in-Some.value.items (joined_runs c.args.runs.now) c.runs_of_value.result c.requires.whole stored c.runs_of_value.ensures.answer.is

pub returns-in-None-clause-answer : goal.returns-in-None-clause-answer
returns-in-None-clause-answer g c =
    let k = c.args.self.now in
    let stored = same_stored _ _ (rw c.in-None.is at c.in_ok-decode.ensures.answer) in
    none_answer g.B.BytesToBytesCodecTraits.functions (plain_chain k.chain.now) k.encoded k.data_type k.fill_value k.representation (g.H.BytesPartialDecoderTraits.state c.args.handle.now).value (joined_runs c.args.runs.now) c.fill_runs.result c.requires.whole stored c.fill_runs.ensures.answer.is
