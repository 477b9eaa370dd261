-- The laws of an array-to-bytes codec as one record, and those of a chain round it.
use Rattle.std.proofs.Common.{List, Ok, length, ℕ, ◌≡◌}
use Rattle.zarrs_codec.specs.BytesToBytesCodec.{BytesCodecs, IsLawful}
use Rattle.zarrs_array_to_array.specs.ArrayToArrayCodec.{ArrayMapping}
use Rattle.zarrs_chain_meaning.specs.Meaning.{Meaning, through}
use Rattle.zarrs_chain_meaning.proofs.NestedNormal.{KeepsTypes, KeepsTwice, KeepsAbsent}
use Rattle.zarrs_chain_meaning.proofs.NestedFlags.{KeepsFlags}
use Rattle.zarrs_chain_meaning.proofs.NestedStands as standing
use Rattle.zarrs_chain_meaning.proofs.NestedStands.{StandsOnce}
use Rattle.zarrs_chain_meaning.proofs.NestedWritten as writing
use Rattle.zarrs_chain_meaning.proofs.NestedWritten.{WritesOnce}
use Rattle.zarrs_chain_meaning.proofs.NestedGrowth.{Grows, around_grows, GoesByCount, around_by_count}
use Rattle.zarrs_chain_meaning.proofs.NestedKept as keeping
use Rattle.zarrs_chain_meaning.proofs.NestedKept.{KeepsSize, WritesMeasured}
use Rattle.zarrs_chain_meaning.proofs.NestedForNormal as normal
use Rattle.zarrs_chain_meaning.proofs.NestedForNormal.{WrittenKept, KeptWritten, KeptSelected}
use Rattle.zarrs_chain_meaning.proofs.NestedWrittenStands.{StandsKept, StandsTaken, through_stands}
use Rattle.zarrs_chain_meaning.proofs.NestedEncode as encoding
use Rattle.zarrs_chain_meaning.proofs.NestedEncode.{Encodes}
use Rattle.zarrs_chain_meaning.proofs.NestedFound as finding
use Rattle.zarrs_chain_meaning.proofs.NestedFound.{Founds, FoundsTaken}
use Rattle.zarrs_chain_meaning.proofs.NestedDecode as decoding
use Rattle.zarrs_chain_meaning.proofs.NestedDecode.{Decodes}
use Rattle.zarrs_chain_meaning.proofs.NestedRead as reading
use Rattle.zarrs_chain_meaning.proofs.NestedRead.{Reads, ReadsTaken}
use Rattle.zarrs_codec.specs.declared.bytes_representation.BytesRepresentation.{BytesRepresentation}
use Rattle.zarrs_data_type.specs.Element.{Chunk}
use Rattle.zarrs_data_type.specs.ElementType.{ElementType}
use Rattle.zarrs_chain_meaning.proofs.ChainSteps.{around_long}
use Rattle.zarrs_chunk.specs.Answer.{checked_u64}
use Rattle.zarrs_chunk.specs.ChunkShape.{product}
use Rattle.zarrs_chain_meaning.proofs.NestedRoom.{HasFill, HasRoom, around_room, around_fits}

-- What is kept of elements: one of the type, the same when it is kept again, none of none, and flags as they are. A value stands for one chunk and for a chunk one value is written, as many bytes as was stated, which of more elements are no fewer; it stands for the normal form, and is what is written for that. And the functions answer what stands and what is written.
pub record IsLawfulCodec {B : Type 0} (m : Meaning B) : Type 0 where
  pub types : KeepsTypes m.normal
  pub twice : KeepsTwice m.normal
  pub absents : KeepsAbsent m.normal
  pub flags : KeepsFlags m.normal
  pub stands_once : (f : BytesCodecs B) → m.Mapped → StandsOnce (m.Stands f)
  pub writes_once : (f : BytesCodecs B) → WritesOnce (m.Written f)
  pub grows : (f : BytesCodecs B) → IsLawful f → m.Mapped → Grows (m.representation f)
  pub by_count : (f : BytesCodecs B) → m.Mapped → GoesByCount (m.representation f)
  pub sized : (f : BytesCodecs B) → IsLawful f → m.Mapped → KeepsSize (m.Written f) (m.representation f)
  pub stands : (f : BytesCodecs B) → IsLawful f → m.Mapped → StandsTaken (m.Written f) (m.Stands f) (m.representation f) m.normal
  pub kept : (f : BytesCodecs B) → WrittenKept (m.Written f) m.normal
  pub kept_back : (f : BytesCodecs B) → KeptSelected (m.Written f) m.normal
  pub encodes : (f : BytesCodecs B) → Encodes (m.Written f) (m.value f)
  pub founds : (f : BytesCodecs B) → m.Mapped → FoundsTaken (m.Written f) (m.value f) (m.representation f)
  pub decodes : (f : BytesCodecs B) → m.Mapped → Decodes (m.Stands f) (m.chunk f)
  pub reads : (f : BytesCodecs B) → m.Mapped → ReadsTaken (m.Stands f) (m.chunk f) (m.representation f)
  pub counted : (f : BytesCodecs B) (sizes : List ℕ) (type : ElementType) (fill : List ℕ) (r : BytesRepresentation) → m.representation f sizes type fill ≡ Ok r → checked_u64 (product sizes) ≡ Ok (product sizes)
  pub long : (f : BytesCodecs B) (sizes : List ℕ) (type : ElementType) (fill value : List ℕ) (chunk : Chunk) → m.chunk f sizes type fill value ≡ Ok chunk → length chunk ≡ product sizes
  pub room : (f : BytesCodecs B) → m.Mapped → HasRoom (m.representation f)
  pub fits : (f : BytesCodecs B) → HasFill (m.representation f)

-- the same of a chain, which asks its own representation
pub record IsLawfulChain {B : Type 0} (m : Meaning B) : Type 0 where
  pub types : KeepsTypes m.normal
  pub twice : KeepsTwice m.normal
  pub absents : KeepsAbsent m.normal
  pub flags : KeepsFlags m.normal
  pub stands_once : (f : BytesCodecs B) → m.Mapped → StandsOnce (m.Stands f)
  pub writes_once : (f : BytesCodecs B) → WritesOnce (m.Written f)
  pub grows : (f : BytesCodecs B) → IsLawful f → m.Mapped → Grows (m.representation f)
  pub by_count : (f : BytesCodecs B) → m.Mapped → GoesByCount (m.representation f)
  pub measured : (f : BytesCodecs B) → IsLawful f → m.Mapped → WritesMeasured (m.Written f) (m.representation f)
  pub stands : (f : BytesCodecs B) → IsLawful f → m.Mapped → StandsKept (m.Written f) (m.Stands f) m.normal
  pub kept : (f : BytesCodecs B) → WrittenKept (m.Written f) m.normal
  pub kept_back : (f : BytesCodecs B) → KeptWritten (m.Written f) m.normal
  pub encodes : (f : BytesCodecs B) → Encodes (m.Written f) (m.value f)
  pub founds : (f : BytesCodecs B) → m.Mapped → Founds (m.Written f) (m.value f)
  pub decodes : (f : BytesCodecs B) → m.Mapped → Decodes (m.Stands f) (m.chunk f)
  pub reads : (f : BytesCodecs B) → m.Mapped → Reads (m.Stands f) (m.chunk f)
  pub long : (f : BytesCodecs B) (sizes : List ℕ) (type : ElementType) (fill value : List ℕ) (chunk : Chunk) → m.chunk f sizes type fill value ≡ Ok chunk → length chunk ≡ product sizes
  pub room : (f : BytesCodecs B) → m.Mapped → HasRoom (m.representation f)
  pub fits : (f : BytesCodecs B) → HasFill (m.representation f)

-- a chain keeps them whose array-to-bytes codec does
pub through_laws : {B : Type 0} (arrays : List ArrayMapping) (inner : Meaning B) (outer : List B) → IsLawfulCodec inner → IsLawfulChain (through arrays inner outer)
through_laws arrays inner outer laws = record {
  types = laws.types;
  twice = laws.twice;
  absents = laws.absents;
  flags = laws.flags;
  stands_once = λ f has. standing.through_once f arrays (inner.representation f) (inner.Stands f) outer has.0 (laws.stands_once f has.1);
  writes_once = λ f. writing.through_once f arrays (inner.representation f) (inner.Written f) outer (laws.writes_once f);
  grows = λ f lawful has. around_grows f lawful arrays (inner.representation f) outer has.0 (laws.grows f lawful has.1);
  by_count = λ f has. around_by_count f arrays (inner.representation f) outer has.0 (laws.by_count f has.1);
  measured = λ f lawful has. keeping.through_measured f lawful arrays (inner.representation f) (inner.Written f) outer has.0 (laws.sized f lawful has.1);
  stands = λ f lawful has. through_stands f lawful arrays (inner.representation f) (inner.Written f) (inner.Stands f) outer inner.normal laws.types laws.absents has.0 (laws.sized f lawful has.1) (laws.stands f lawful has.1);
  kept = λ f. normal.through_kept f arrays (inner.representation f) (inner.Written f) outer inner.normal laws.types laws.absents (laws.kept f);
  kept_back = λ f. normal.kept_through f arrays (inner.representation f) (inner.Written f) outer inner.normal laws.absents (laws.kept_back f);
  encodes = λ f. encoding.through_only f arrays (inner.representation f) (inner.Written f) (inner.value f) outer (laws.encodes f);
  founds = λ f has. finding.through_found f arrays (inner.representation f) (inner.Written f) (inner.value f) outer has.0 (laws.founds f has.1);
  decodes = λ f has. decoding.through_only f arrays (inner.representation f) (inner.Stands f) (inner.chunk f) outer has.0 (laws.decodes f has.1);
  reads = λ f has. reading.through_read f arrays (inner.representation f) (inner.Stands f) (inner.chunk f) outer has.0 (laws.reads f has.1);
  long = λ f. around_long f arrays (inner.representation f) (inner.chunk f) outer;
  room = λ f has. around_room f arrays (inner.representation f) outer has.0 (laws.room f has.1);
  fits = λ f. around_fits f arrays (inner.representation f) outer (laws.fits f);
}
