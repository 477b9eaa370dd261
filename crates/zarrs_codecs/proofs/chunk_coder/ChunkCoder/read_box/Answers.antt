use Rattle.std.proofs.Common.{◌∙◌, sym, subst}
use Rattle.std.proofs.lemmas.Bool.{true≢false}
use Rattle.zarrs_codecs.specs.ChunkCoder.{coder_form}
use Rattle.zarrs_codecs.specs.KeptIndex.{IsIndexOf}
use Rattle.zarrs_codecs.proofs.IndexReads.{asks_part}
use Rattle.zarrs_codecs.proofs.chunk_coder.ChunkCoder.read_box.Goals as goal

pub returns-clause-counted : goal.returns-clause-counted
returns-clause-counted g c uncached whole =
    let k = c.args.self.now in
    let form = coder_form k in
    let index = subst (IsIndexOf g.B.BytesToBytesCodecTraits.functions form.chain k.encoded (g.H.BytesPartialDecoderTraits.state c.args.handle.now).value) c.requires.kept c.requires.index in
    absurd (true≢false (sym (asks_part form.chain.bytes_to_bytes form.chain.array_to_bytes index.0) ∙ whole))
