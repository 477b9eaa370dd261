use Rattle.std.proofs.Common.{Option, subst}
use Rattle.zarrs_chunk.specs.Indexer.{selection_of}
use Rattle.zarrs_data_type.specs.declared.endianness.Endianness.{Endianness}
use Rattle.zarrs_codecs.proofs.Counting.{CountsByOrder}
use Rattle.zarrs_codecs.specs.ChunkCoder.{coder_form}
use Rattle.zarrs_codecs.proofs.chunk_coder.ChunkCoder.write.Goals as goal

pub returns-in-Some-clause-counted : goal.returns-in-Some-clause-counted
returns-in-Some-clause-counted g c =
    c.write_in_place.ensures.counted

pub returns-in-None-clause-counted : goal.returns-in-None-clause-counted
returns-in-None-clause-counted g c =
    let D = g.H.BytesPartialDecoderTraits in
    subst (λ (order : Option (Option Endianness)). CountsByOrder D.calls D.state (coder_form c.args.self.now) order (selection_of c.args.indexer.now) c.args.handle.now c.write_whole.new.handle c.write_whole.result) (c.in-None.ensures {u = tt}).value c.write_whole.ensures.counted
