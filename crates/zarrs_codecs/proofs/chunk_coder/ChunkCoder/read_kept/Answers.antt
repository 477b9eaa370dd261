use Rattle.std.proofs.Common.{subst}
use Rattle.zarrs_codecs.specs.CacheTight.{CacheIsTight}
use Rattle.zarrs_codecs.specs.declared.partial_decoder.cache.Cache.TheVariants as kept
use Rattle.zarrs_codecs.proofs.chunk_coder.ChunkCoder.read_kept.Goals as goal

pub returns-in_ok-count-in-Some-clause-tight : goal.returns-in_ok-count-in-Some-clause-tight
returns-in_ok-count-in-Some-clause-tight g c tight =
    let type = c.args.self.now.data_type in
    let kept_tight = subst (λ chunk. CacheIsTight type (kept.Chunk chunk)) c.in-Some.is tight in
    c.extract_runs.ensures.tight kept_tight.blank
