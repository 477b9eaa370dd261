use Rattle.std.proofs.Common.{Ok, subst}
use Rattle.std.specs.Prelude.{Bool}
use Rattle.zarrs_chunk.specs.Answer.{Answers, fault}
use Rattle.zarrs_codecs.specs.ChunkSource.{kept_stage}
use Rattle.zarrs_codecs.specs.PartialDecoder.{decoder_source, decoder_form}
use Rattle.zarrs_codecs.proofs.PartialReads.{source_there}
use Rattle.zarrs_codecs.proofs.partial_decoder.array_partial_decoder.ArrayPartialDecoder.exists.Goals as goal

pub returns-clause-answer : goal.returns-clause-answer
returns-clause-answer g c =
    let d = c.args.self.now in
    let stored = (g.H.BytesPartialDecoderTraits.state d.handle).value in
    subst (λ (b : Bool). Answers fault (λ there. there) c.exists.result (Ok b)) (source_there g.B.BytesToBytesCodecTraits.functions (kept_stage d.coder.cache) (decoder_form d) stored (decoder_source d stored) d.kept) c.exists.ensures.answer
