use Rattle.std.proofs.Common.{◌≡◌, subst}
use Rattle.std.specs.Prelude.{IfSome, option_map}
use Rattle.zarrs_chunk.specs.Indexer.{selection_of}
use Rattle.zarrs_array_regions.specs.KeptRegions.{IsKept, kept_region}
use Rattle.zarrs_codecs.proofs.chunk_coder.ChunkCoder.kept_region.Goals as goal

pub returns : goal.returns
returns g c =
    record {
      region = subst (λ cs. option_map (λ region. region.now) c.kept_region.result ≡ kept_region cs c.args.self.now.shape (selection_of c.args.indexer.now)) c.array_to_array_codecs.ensures.value c.kept_region.ensures.region;
      region_kept = subst (λ cs. IfSome c.kept_region.result (λ region. IsKept cs c.args.self.now.shape (selection_of c.args.indexer.now) region.now)) c.array_to_array_codecs.ensures.value c.kept_region.ensures.region_kept;
    }
