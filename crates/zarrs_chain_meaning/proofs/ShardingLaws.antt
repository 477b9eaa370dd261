-- `sharding_indexed` keeps the laws where its two chains do.
use Rattle.std.proofs.Common.{ℕ, Bool, List}
use Rattle.zarrs_chain_meaning.specs.Meaning.{Meaning}
use Rattle.zarrs_chain_meaning.specs.sharding.Sharding.{shard_meaning}
use Rattle.zarrs_chain_meaning.proofs.LawfulCodec.{IsLawfulCodec, IsLawfulChain}
use Rattle.zarrs_chain_meaning.proofs.ShardStands.{shard_once, shard_written_once, shard_encodes, shard_decodes, shard_stands}
use Rattle.zarrs_chain_meaning.proofs.ShardNormal.{shard_kept, kept_shard, shard_founds}
use Rattle.zarrs_chain_meaning.proofs.ShardReads.{shard_reads}
use Rattle.zarrs_chain_meaning.proofs.ShardSizes.{shard_sized, shard_grows, shard_by_count, shard_room, shard_counted, shard_fits, shard_long}

pub shard_laws : {B : Type 0} (shape : List ℕ) (at_end : Bool) (inner index : Meaning B) → IsLawfulChain inner → IsLawfulChain index → IsLawfulCodec (shard_meaning shape at_end inner index)
shard_laws shape at_end inner index i d = record {
  types = i.types;
  twice = i.twice;
  absents = i.absents;
  flags = i.flags;
  stands_once = λ f has. shard_once shape at_end (index.representation f) (inner.Stands f) (index.Stands f) has.0 (i.stands_once f has.1) (d.stands_once f has.2);
  writes_once = λ f. shard_written_once shape at_end inner.normal index.normal (index.representation f) (inner.Written f) (index.Written f) (i.writes_once f) (d.writes_once f);
  grows = λ f lawful has. shard_grows shape inner.normal (inner.representation f) (index.representation f) has.0 (d.grows f lawful has.2);
  by_count = λ f has. shard_by_count shape inner.normal (inner.representation f) (index.representation f) has.0 (d.by_count f has.2);
  sized = λ f lawful has sizes type fill value chunk r positive long each w e.
      shard_sized shape at_end inner.normal index.normal (inner.representation f) (index.representation f) (inner.Written f) (index.Written f) has.0 (i.measured f lawful has.1) (d.measured f lawful has.2) sizes type fill value chunk r positive each w e;
  stands = λ f lawful has sizes type fill value chunk r positive each h room e w.
      shard_stands shape at_end inner.normal index.normal (index.representation f) (inner.Written f) (inner.Stands f) (index.Written f) (index.Stands f) has.0 i.types i.absents (i.stands f lawful has.1) (d.stands f lawful has.2) (d.measured f lawful has.2) sizes type fill value chunk positive each w;
  kept = λ f. shard_kept shape at_end inner.normal index.normal (index.representation f) (inner.Written f) (index.Written f) i.types i.twice i.absents (i.kept f);
  kept_back = λ f sizes type fill value chunk places each w. kept_shard shape at_end inner.normal index.normal (index.representation f) (inner.Written f) (index.Written f) i.twice i.absents (i.kept_back f) sizes type fill value chunk places each w;
  encodes = λ f. shard_encodes shape at_end inner.normal index.normal (index.representation f) (inner.Written f) (index.Written f) (inner.value f) (index.value f) (i.encodes f) (d.encodes f);
  founds = λ f has sizes type fill value chunk r positive is e h.
      shard_founds shape at_end inner.normal index.normal (inner.representation f) (index.representation f) (inner.Written f) (index.Written f) (inner.value f) (index.value f) has.0 d.types (i.founds f has.1) (d.founds f has.2) sizes type fill value chunk r positive is e h;
  decodes = λ f has. shard_decodes shape at_end (index.representation f) (inner.Stands f) (index.Stands f) (inner.chunk f) (index.chunk f) has.0 (i.decodes f has.1) (d.decodes f has.2);
  reads = λ f has sizes type fill value chunk r positive t e.
      shard_reads shape at_end inner.normal (inner.representation f) (index.representation f) (inner.Stands f) (index.Stands f) (inner.chunk f) (index.chunk f) has.0 (i.fits f) (i.reads f has.1) (d.reads f has.2) sizes type fill value chunk r positive t e;
  counted = λ f. shard_counted shape inner.normal (inner.representation f) (index.representation f);
  long = λ f. shard_long shape at_end (index.representation f) (inner.chunk f) (index.chunk f);
  room = λ f has. shard_room shape inner.normal (inner.representation f) (index.representation f);
  fits = λ f. shard_fits shape inner.normal (inner.representation f) (index.representation f) (i.fits f);
}
