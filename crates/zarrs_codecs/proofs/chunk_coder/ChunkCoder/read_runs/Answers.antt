use Rattle.std.proofs.Common.{subst}
use Rattle.zarrs_codecs.specs.CacheTight.{CacheIsTight}
use Rattle.zarrs_codecs.proofs.chunk_coder.ChunkCoder.read_runs.Goals as goal

pub returns-in-Chunk-clause-tight : goal.returns-in-Chunk-clause-tight
returns-in-Chunk-clause-tight g c =
    let k = c.args.self.now in
    c.read_kept.ensures.tight (subst (CacheIsTight k.data_type) c.in-Chunk.is k.tight)
