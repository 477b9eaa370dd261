use Rattle.std.proofs.Common.{sym, ◌∙◌}
use Rattle.std.proofs.lemmas.Bool.{true≢false}
use Rattle.zarrs_chain.specs.ChainView.{plain_chain}
use Rattle.zarrs_codecs.proofs.IndexReads.{asks_part}
use Rattle.zarrs_codecs.proofs.chunk_coder.ChunkCoder.read_by_index.Goals as goal

pub returns-clause-counted : goal.returns-clause-counted
returns-clause-counted g c whole =
    let chain = plain_chain c.args.self.now.chain.now in
    absurd (true≢false (sym (asks_part chain.bytes_to_bytes chain.array_to_bytes c.requires.index.0) ∙ whole))
