-- `optional` keeps the laws where its two chains do.
use Rattle.std.proofs.Common.{◌≡◌, ℕ, ◌<◌, List, [], ◌∷◌, length, Ok, refl}
use Rattle.std.specs.List.{All}
use Rattle.zarrs_chunk.specs.ChunkShape.{product}
use Rattle.zarrs_data_type.specs.ElementType.{ElementType, fixed, text, bytes, optional}
use Rattle.zarrs_data_type.specs.Element.{Chunk}
use Rattle.zarrs_codec.specs.declared.bytes_representation.BytesRepresentation.{BytesRepresentation}
use Rattle.zarrs_bytes.specs.BytesCodec.{IsChunk}
use Rattle.zarrs_chain_meaning.specs.Meaning.{Measure, Standing, Encoder, Decoder, Meaning}
use Rattle.zarrs_chain_meaning.specs.optional.Optional.{optional_meaning, optional_representation, optional_value, optional_chunk, flag_type}
use Rattle.zarrs_chain_meaning.proofs.NestedNormal.{optional_is, optional_twice, optional_absent}
use Rattle.zarrs_chain_meaning.proofs.NestedStands as standing
use Rattle.zarrs_chain_meaning.proofs.NestedWritten as writing
use Rattle.zarrs_chain_meaning.proofs.NestedGrowth.{optional_grows, optional_by_count}
use Rattle.zarrs_chain_meaning.proofs.NestedKept as keeping
use Rattle.zarrs_chain_meaning.proofs.NestedForNormal as normal
use Rattle.zarrs_chain_meaning.proofs.NestedWrittenStands.{optional_stands}
use Rattle.zarrs_chain_meaning.proofs.NestedEncode as encoding
use Rattle.zarrs_chain_meaning.proofs.NestedFound as finding
use Rattle.zarrs_chain_meaning.proofs.NestedFound.{Founds}
use Rattle.zarrs_chain_meaning.proofs.NestedDecode as decoding
use Rattle.zarrs_chain_meaning.proofs.NestedRead as reading
use Rattle.zarrs_chain_meaning.proofs.NestedRead.{Reads}
use Rattle.zarrs_chain_meaning.proofs.LawfulCodec.{IsLawfulCodec, IsLawfulChain}
use Rattle.zarrs_chunk.specs.declared.codec_error.CodecError.TheVariants.{InvalidFillValue}
use Rattle.zarrs_bytes.proofs.Coding.{bind_ok}
use Rattle.zarrs_chunk.specs.Answer.{checked_u64, demand}
use Rattle.zarrs_chain_meaning.proofs.ArraySteps.{counted_so}
use Rattle.zarrs_data_type.specs.FillValue.{fill_fits}
use Rattle.zarrs_chain_meaning.proofs.ChainSteps.{optional_long}
use Rattle.zarrs_chain_meaning.proofs.NestedRoom.{optional_fits, optional_room}
use Rattle.zarrs_chain_meaning.proofs.OptionalFor.{OptionalStandsFor, OptionalWrittenFor}

found_for : (mw cw : Standing) (me ce : Encoder) → Founds mw me → Founds cw ce → (sizes : List ℕ) (type : ElementType) (value : List ℕ) (chunk : Chunk) (mm cm : Measure) (fill : List ℕ) (r : BytesRepresentation) → All (λ size. 0 < size) sizes → IsChunk type (product sizes) chunk
    → optional_representation mm cm sizes type fill ≡ Ok r → optional_value me ce sizes type chunk ≡ Ok value → OptionalWrittenFor mw cw sizes type value chunk
found_for mw cw me ce m d sizes (optional type) value chunk mm cm fill r positive is e h = finding.optional_found mw cw me ce m d sizes type value chunk positive is h
found_for mw cw me ce m d sizes (fixed width components sign) value chunk mm cm fill r positive is e h = absurd cc
found_for mw cw me ce m d sizes text value chunk mm cm fill r positive is e h = absurd cc
found_for mw cw me ce m d sizes bytes value chunk mm cm fill r positive is e h = absurd cc

read_for : (ms cs : Standing) (me ce : Decoder) → Reads ms me → Reads cs ce → (sizes : List ℕ) (type : ElementType) (value : List ℕ) (chunk : Chunk) → All (λ size. 0 < size) sizes
    → optional_chunk me ce sizes type value ≡ Ok chunk → OptionalStandsFor ms cs sizes type value chunk × IsChunk type (product sizes) chunk
read_for ms cs me ce m d sizes (optional type) value chunk positive e = reading.optional_read ms cs me ce m d sizes type value chunk positive e
read_for ms cs me ce m d sizes (fixed width components sign) value chunk positive e = absurd cc
read_for ms cs me ce m d sizes text value chunk positive e = absurd cc
read_for ms cs me ce m d sizes bytes value chunk positive e = absurd cc

counted_for : (mask content : Measure) (sizes : List ℕ) (type : ElementType) (fill : List ℕ) (r : BytesRepresentation) → optional_representation mask content sizes type fill ≡ Ok r → checked_u64 (product sizes) ≡ Ok (product sizes)
counted_for mask content sizes (optional type) fill r e =
    let a = bind_ok (demand (fill_fits (optional type) fill) InvalidFillValue) _ r e in
    let b = bind_ok (checked_u64 (product sizes)) _ r a.2 in
    counted_so (product sizes) b.0 b.1
counted_for mask content sizes _ fill r e = absurd cc

long_for : (mask content : Decoder) (sizes : List ℕ) (type : ElementType) (value : List ℕ) (chunk : Chunk) → ((part : List ℕ) (flags : Chunk) → mask sizes flag_type (0 ∷ []) part ≡ Ok flags → length flags ≡ product sizes)
    → optional_chunk mask content sizes type value ≡ Ok chunk → length chunk ≡ product sizes
long_for mask content sizes (optional type) value chunk long e = optional_long mask content sizes type value chunk long e
long_for mask content sizes _ value chunk long e = absurd cc

pub optional_laws : {B : Type 0} (mask content : Meaning B) → IsLawfulChain mask → IsLawfulChain content → IsLawfulCodec (optional_meaning mask content)
optional_laws mask content m d = record {
  types = optional_is content.normal d.types;
  twice = optional_twice content.normal d.twice;
  absents = optional_absent content.normal;
  flags = record { zero_kept = refl; one_kept = refl };
  stands_once = λ f has sizes type fill value chunk other positive a b. standing.optional_once_for (mask.Stands f) (content.Stands f) (m.stands_once f has.0) (d.stands_once f has.1) sizes type value chunk other positive a b;
  writes_once = λ f sizes type fill value other chunk a b. writing.optional_once_for (mask.Written f) (content.Written f) (m.writes_once f) (d.writes_once f) sizes type value other chunk a b;
  grows = λ f lawful has. optional_grows (mask.representation f) (content.representation f) (m.grows f lawful has.0) (d.grows f lawful has.1);
  by_count = λ f has. optional_by_count (mask.representation f) (content.representation f) (m.by_count f has.0) (d.by_count f has.1);
  sized = λ f lawful has sizes type fill value chunk r positive long each w e.
      keeping.optional_kept _ _ (mask.representation f) (content.representation f) (m.measured f lawful has.0) (d.measured f lawful has.1) (d.grows f lawful has.1) sizes type fill value chunk r positive long each w e;
  stands = λ f lawful has sizes type fill value chunk r positive each h room e w.
      optional_stands content.normal mask.normal _ _ _ _ (m.stands f lawful has.0) m.flags (d.stands f lawful has.1) (optional_is content.normal d.types) sizes type value chunk positive each h w;
  kept = λ f sizes type fill value chunk w. normal.optional_kept _ _ content.normal (d.kept f) sizes type value chunk w;
  kept_back = λ f sizes type fill value chunk places each w. normal.kept_optional _ _ content.normal (d.kept_back f) sizes type value chunk places each w;
  encodes = λ f sizes type fill value chunk w. encoding.optional_only _ _ _ _ (m.encodes f) (d.encodes f) sizes type value chunk w;
  founds = λ f has sizes type fill value chunk r positive is e h. found_for _ _ _ _ (m.founds f has.0) (d.founds f has.1) sizes type value chunk (mask.representation f) (content.representation f) fill r positive is e h;
  decodes = λ f has sizes type fill value chunk positive s. decoding.optional_only _ _ _ _ (m.decodes f has.0) (d.decodes f has.1) sizes type value chunk positive s;
  reads = λ f has sizes type fill value chunk r positive t e. read_for _ _ _ _ (m.reads f has.0) (d.reads f has.1) sizes type value chunk positive e;
  counted = λ f. counted_for (mask.representation f) (content.representation f);
  room = λ f has. optional_room (mask.representation f) (content.representation f) (d.room f has.1);
  fits = λ f. optional_fits (mask.representation f) (content.representation f);
  long = λ f sizes type fill value chunk e. long_for (mask.chunk f) (content.chunk f) sizes type value chunk (λ part flags h. m.long f sizes flag_type (0 ∷ []) part flags h) e;
}
