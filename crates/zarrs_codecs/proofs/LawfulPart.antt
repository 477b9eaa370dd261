-- What holds of what an array-to-bytes codec does in part, as one record; and of each codec.
use Rattle.zarrs_data_type.specs.Form.{form_of}
use Rattle.std.proofs.Common.{◌≡◌, ℕ, ◌<◌, true, Option, Some, None, List, length, map, Result, Ok, Err, IfOk, refl, ap, sym, ◌∙◌, subst, Bool}
use Rattle.std.specs.Prelude.{false, is_some, IsOkAnd}
use Rattle.std.specs.List.{All, list_all}
use Rattle.zarrs_chunk.specs.Answer.{◌>>=◌, demand, seen}
use Rattle.zarrs_chunk.specs.ChunkShape.{product}
use Rattle.zarrs_chunk.specs.declared.codec_error.CodecError.{CodecError}
use Rattle.zarrs_chunk.specs.declared.codec_error.CodecError.TheVariants.{InvalidByteRange}
use Rattle.zarrs_data_type.specs.Element.{absent, Chunk, fill_element}
use Rattle.zarrs_data_type.specs.ElementType.{ElementType}
use Rattle.zarrs_data_type.specs.declared.endianness.Endianness.{Endianness}
use Rattle.zarrs_array_bytes.specs.Elements.{select}
use Rattle.zarrs_codec.specs.ByteRanges.{range_indices, SameByte}
use Rattle.zarrs_codec.specs.ByteSpan.{ByteSpan}
use Rattle.zarrs_codec.specs.BytesToBytesCodec.{BytesCodecs}
use Rattle.zarrs_codec.specs.CoordinateMap.{CoordinateMap, IsCoordinateMap, inverse_map, moved_chunk}
use Rattle.zarrs_codec.specs.StorageState.{are_sure, value_indices}
use Rattle.zarrs_codec.specs.declared.bytes_representation.BytesRepresentation.{BytesRepresentation}
use Rattle.zarrs_array_regions.specs.PlaceReaders.{ReadsInAnyOrder, brought_back}
use Rattle.zarrs_array_regions.proofs.PlaceReads.{mapped_read, tested_read}
use Rattle.zarrs_bytes.proofs.Alike as bytes_reads
use Rattle.zarrs_bytes.proofs.Coding.{bind_ok, ok}
use Rattle.zarrs_bytes.specs.PartialRead.{place_bytes, place_size, read_places}
use Rattle.zarrs_packbits.proofs.CodecLaws as packbits_laws
use Rattle.zarrs_packbits.specs.PackBitsSettings.{PackBitsSettings, packed_layout}
use Rattle.zarrs_packbits.specs.PartialRead.{packed_places_bytes, read_packed_places}
use Rattle.zarrs_packbits.specs.ReadPlan.{IsPackBitsPlan, SameNumbers}
use Rattle.zarrs_chain_meaning.proofs.ArraySteps.{ok_is}
use Rattle.zarrs_chain_meaning.specs.CodecFacts.{facts, Facts, whole_facts}
use Rattle.zarrs_chain_meaning.specs.CodecMeaning.{PlainCodec, bytes_codec, packbits_codec, vlen_codec, sharding_codec, bytes_meaning, packbits_meaning, meaning, HasMappings, codec_representation, codec_chunk}
use Rattle.zarrs_chain_meaning.specs.Meaning.{Meaning, through}
use Rattle.zarrs_chain_meaning.specs.sharding.Sharding.{shard_meaning}
use Rattle.zarrs_chain_meaning.specs.vlen.PlainForm.{PlainForm}
use Rattle.zarrs_plain_vlen.specs.PlainRead.{plain_read}
use Rattle.zarrs_plain_vlen.specs.VlenRead.{stored_rests_on}
use Rattle.zarrs_codecs.proofs.IndexLaws.{IndexLaws, shard_index}
use Rattle.zarrs_codecs.proofs.PlaceCodecs.{bytes_places, packbits_places, vlen_places, whole_places}
use Rattle.zarrs_codecs.proofs.ShardPlaces.{shard_places, through_places}
use Rattle.zarrs_codecs.specs.CodecPart.{part_of, codec_read, Part, bytes_part, packbits_part, shard_part, vlen_part, whole_part}
use Rattle.zarrs_codecs.specs.KeptIndex.{IndexPart, index_of, shard_index_of}
use Rattle.zarrs_codecs.specs.PartRead.{whole_read}
use Rattle.zarrs_codecs.specs.PlaceLaws.{SameMembers, ReadsEach, IsLawfulReader}

-- ---- the laws

-- P, where the bytes are sure that places rest on
abbrev pub WhereTheseAreSure : Option (ℕ → Bool) → Result (List ℕ) CodecError → Type 0 → Type 0
WhereTheseAreSure sure rests P = IfOk rests (λ numbers. are_sure sure numbers ≡ true → P)

-- reads of two values answer alike, where the bytes agree that are planned
abbrev pub ReadsAlike : {B : Type 0} → Part B → BytesCodecs B → List ℕ → List ℕ → (List ℕ → Type 0) → Type 0
ReadsAlike p f value other Agreeing =
    (sizes : List ℕ) (type : ElementType) (fill places numbers : List ℕ)
    → p.plans ≡ true → p.rests_on f sizes type fill None places ≡ Ok numbers → Agreeing numbers
    → p.read f sizes type fill (Some value) places ≡ p.read f sizes type fill (Some other) places

-- the ranges have the bytes that places rest on, and no others
abbrev pub HaveBytes : List ByteSpan → Result (List ℕ) CodecError → Type 0
HaveBytes ranges rests = (numbers : List ℕ) × (rests ≡ Ok numbers) × SameNumbers (range_indices ranges) numbers

-- what a codec means and does in part is what `bytes` does
pub record IsBytes {B : Type 0} (m : Meaning B) (p : Part B) (order : Option Endianness) : Type 1 where
  pub means : m ≡ bytes_meaning order
  pub does : p ≡ bytes_part order

-- What is read of places, and what that rests on, keeps what is asked of it, and so does an index; a codec that has one reads in part. Where it is planned, what places rest on doesn't go by what is stored, values that agree there are read alike, and the ranges have these bytes. What is planned is read in part; a codec reads all in part, or nothing and then by the whole chunk, of all bytes; where it has a plain form, by that. Only `bytes` replaces its places' bytes alone.
pub record IsLawfulPart {B : Type 0} (m : Meaning B) (x : Facts) (i : Option (IndexPart B)) (p : Part B) : Type 1 where
  pub places : (f : BytesCodecs B) → IsLawfulReader f m (p.read f) (p.rests_on f)
  pub rests_alike : (f : BytesCodecs B) (sizes : List ℕ) (type : ElementType) (fill : List ℕ) (stored : Option (List ℕ)) (places : List ℕ) → p.plans ≡ true → p.rests_on f sizes type fill None places ≡ p.rests_on f sizes type fill stored places
  pub alike : (f : BytesCodecs B) (value other : List ℕ) → ReadsAlike p f value other (All (SameByte value other))
  pub planned_bytes : (f : BytesCodecs B) (sizes : List ℕ) (type : ElementType) (fill places : List ℕ) (ranges : List ByteSpan) → p.IsPlanned sizes type fill places ranges → HaveBytes ranges (p.rests_on f sizes type fill None places)
  pub plans_ask : p.plans ≡ true → x.reads ≡ true
  pub wholly : (f : BytesCodecs B) (sizes : List ℕ) (type : ElementType) (fill : List ℕ) (stored : Option (List ℕ)) (places : List ℕ) → x.reads ≡ false → p.read f sizes type fill stored places ≡ whole_read (m.chunk f) sizes type fill stored places
  pub rests_wholly : (f : BytesCodecs B) (sizes : List ℕ) (type : ElementType) (fill : List ℕ) (stored : Option (List ℕ)) (places : List ℕ) → x.reads ≡ false → p.rests_on f sizes type fill stored places ≡ Ok (value_indices stored)
  pub plainly : (f : BytesCodecs B) (form : PlainForm) (sizes : List ℕ) (type : ElementType) (fill : List ℕ) (stored : Option (List ℕ)) (places : List ℕ) → x.plain ≡ Some form → p.read f sizes type fill stored places ≡ plain_read form (product sizes) type fill stored places
  pub rests_plainly : (f : BytesCodecs B) (form : PlainForm) (sizes : List ℕ) (type : ElementType) (fill : List ℕ) (stored : Option (List ℕ)) (places : List ℕ) → x.plain ≡ Some form → p.rests_on f sizes type fill stored places ≡ Ok (stored_rests_on form (product sizes) stored places)
  pub in_place : (order : Option Endianness) → x.order ≡ Some order → IsBytes m p order
  pub indexed : (f : BytesCodecs B) → IndexLaws f (p.read f) (p.rests_on f) i p.rests_behind
  pub index_asks : is_some p.rests_behind ≡ true → x.reads ≡ true

-- ---- read whole

-- a codec that is read whole keeps them, whatever it means
pub whole_part_laws : {B : Type 0} (m : Meaning B) (x : Facts) → x.reads ≡ false → x.plain ≡ None → x.order ≡ None → IsLawfulPart m x None (whole_part m)
whole_part_laws m x reads none orderless = record {
  places = λ f. whole_places f m;
  rests_alike = λ f sizes type fill stored places plans. absurd cc;
  alike = λ f value other sizes type fill places numbers plans. absurd cc;
  planned_bytes = λ f sizes type fill places ranges plan. absurd plan;
  plans_ask = λ plans. absurd cc;
  wholly = λ f sizes type fill stored places e. refl;
  rests_wholly = λ f sizes type fill stored places e. refl;
  plainly = λ f form sizes type fill stored places e. absurd (let none = none in cc);
  rests_plainly = λ f form sizes type fill stored places e. absurd (let none = none in cc);
  in_place = λ order e. absurd (let none = orderless in cc);
  indexed = λ f. tt;
  index_asks = λ e. absurd cc;
}

-- ---- bytes, packbits

order_is : (order other : Option Endianness) → Some order ≡ Some other → order ≡ other
order_is order other e = cc

bytes_alike : {B : Type 0} (order : Option Endianness) (f : BytesCodecs B) (value other : List ℕ) (Agreeing : List ℕ → Type 0)
    → ((type : ElementType) (fill places : List ℕ) → Agreeing (place_bytes (place_size type) places) → read_places order type fill (Some value) places ≡ read_places order type fill (Some other) places) → ReadsAlike (bytes_part order) f value other Agreeing
bytes_alike order f value other Agreeing alike sizes type fill places numbers plans is agree =
    alike type fill places (subst Agreeing (sym (ok_is (place_bytes (place_size type) places) numbers is)) agree)

bytes_part_laws : {B : Type 0} (order : Option Endianness) → IsLawfulPart {B = B} (bytes_meaning order) (facts {B = B} (bytes_codec order)) None (bytes_part order)
bytes_part_laws order = record {
  places = λ f. bytes_places f order;
  rests_alike = λ f sizes type fill stored places e. refl;
  alike = λ f value other. bytes_alike order f value other (All (SameByte value other)) (λ type fill places. bytes_reads.reads_alike order type fill value other places);
  planned_bytes = λ f sizes type fill places ranges plan. (place_bytes (place_size type) places, refl, λ test. ap (list_all test) plan.bytes);
  plans_ask = λ plans. refl;
  wholly = λ f sizes type fill stored places e. absurd cc;
  rests_wholly = λ f sizes type fill stored places e. absurd cc;
  plainly = λ f form sizes type fill stored places e. absurd cc;
  rests_plainly = λ f form sizes type fill stored places e. absurd cc;
  in_place = λ other e. record { means = ap bytes_meaning (order_is order other e); does = ap bytes_part (order_is order other e) };
  indexed = λ f. tt;
  index_asks = λ e. absurd cc;
}

packed_alike : {B : Type 0} (settings : PackBitsSettings) (f : BytesCodecs B) (value other : List ℕ) (Agreeing : List ℕ → Type 0)
    → ((sizes : List ℕ) (type : ElementType) (fill : List ℕ) (l : _) (places : List ℕ) → packed_layout settings (form_of sizes type fill) ≡ Ok l → Agreeing (packed_places_bytes l places) → read_packed_places l type fill (Some value) places ≡ read_packed_places l type fill (Some other) places)
    → ReadsAlike (packbits_part settings) f value other Agreeing
packed_alike settings f value other Agreeing alike sizes type fill places numbers plans is agree =
    let b = bind_ok (packed_layout settings (form_of sizes type fill)) (λ l. ok (packed_places_bytes l places)) numbers is in
    ap (λ r. r >>= λ l. read_packed_places l type fill (Some value) places) b.1
    ∙ alike sizes type fill b.0 places b.1 (subst Agreeing (sym (ok_is (packed_places_bytes b.0 places) numbers b.2)) agree)
    ∙ sym (ap (λ r. r >>= λ l. read_packed_places l type fill (Some other) places) b.1)

packed_bytes : {L : Type 0} (ranges : List ByteSpan) (bytes_of : L → List ℕ) (Plan : L → Type 0) → ((l : L) → Plan l → SameNumbers (range_indices ranges) (bytes_of l)) → (r : Result L CodecError) → IsOkAnd r Plan → HaveBytes ranges (r >>= λ l. ok (bytes_of l))
packed_bytes ranges bytes_of Plan same (Ok l) plan = (bytes_of l, refl, same l plan)
packed_bytes ranges bytes_of Plan same (Err e) plan = absurd plan

packbits_part_laws : {B : Type 0} (settings : PackBitsSettings) → IsLawfulPart {B = B} (packbits_meaning settings) (facts {B = B} (packbits_codec settings)) None (packbits_part settings)
packbits_part_laws settings = record {
  places = λ f. packbits_places f settings;
  rests_alike = λ f sizes type fill stored places e. refl;
  alike = λ f value other. packed_alike settings f value other (All (SameByte value other)) (λ sizes type fill l places. packbits_laws.reads_alike settings sizes type fill l value other places);
  planned_bytes = λ f sizes type fill places ranges plan. packed_bytes ranges (λ l. packed_places_bytes l places) (λ l. IsPackBitsPlan l places ranges) (λ l p. p.bytes) (packed_layout settings (form_of sizes type fill)) plan;
  plans_ask = λ plans. refl;
  wholly = λ f sizes type fill stored places e. absurd cc;
  rests_wholly = λ f sizes type fill stored places e. absurd cc;
  plainly = λ f form sizes type fill stored places e. absurd cc;
  rests_plainly = λ f form sizes type fill stored places e. absurd cc;
  in_place = λ order e. absurd cc;
  indexed = λ f. tt;
  index_asks = λ e. absurd cc;
}

-- ---- vlen

some_is : (x y : PlainForm) → Some x ≡ Some y → x ≡ y
some_is x y e = cc

-- where it reads in part exactly if it is plain, whatever is in it
vlen_part_laws : {B : Type 0} (codec : PlainCodec B) (form : Option PlainForm) → (facts codec).plain ≡ form → (facts codec).reads ≡ is_some form → (facts codec).order ≡ None → IsLawfulPart (meaning codec) (facts codec) None (vlen_part form (meaning codec))
vlen_part_laws codec None p reads orderless = whole_part_laws (meaning codec) (facts codec) reads p orderless
vlen_part_laws codec (Some form) p reads orderless = record {
  places = λ f. vlen_places f codec (Some form) p;
  rests_alike = λ f sizes type fill stored places plans. absurd cc;
  alike = λ f value other sizes type fill places numbers plans. absurd cc;
  planned_bytes = λ f sizes type fill places ranges plan. absurd plan;
  plans_ask = λ plans. absurd cc;
  wholly = λ f sizes type fill stored places e. absurd cc;
  rests_wholly = λ f sizes type fill stored places e. absurd cc;
  plainly = λ f other sizes type fill stored places e. ap (λ (x : PlainForm). plain_read x (product sizes) type fill stored places) (some_is form other (sym p ∙ e));
  rests_plainly = λ f other sizes type fill stored places e. ap (λ (x : PlainForm). ok (stored_rests_on x (product sizes) stored places)) (some_is form other (sym p ∙ e));
  in_place = λ order e. absurd (let none = orderless in cc);
  indexed = λ f. tt;
  index_asks = λ e. absurd cc;
}

-- ---- shards

-- where the array-to-bytes codec of the inner chain keeps them
shard_part_laws : {B : Type 0} (arrays : List _) (m : Meaning B) (p : Part B) (inner : Option (IndexPart B)) (outer : List B) (index : Meaning B) (shape : List ℕ) (at_end : Bool) → ((f : BytesCodecs B) → IsLawfulReader f m (p.read f) (p.rests_on f))
    → IsLawfulPart (shard_meaning shape at_end (through arrays m outer) index) (record whole_facts { reads = true }) (Some (shard_index_of inner index shape at_end)) (shard_part arrays m p outer index shape at_end)
shard_part_laws arrays m p inner outer index shape at_end laws = record {
  places = λ f. shard_places f shape at_end (through arrays m outer) index _ _ (through_places f arrays m (p.read f) (p.rests_on f) outer (laws f));
  rests_alike = λ f sizes type fill stored places plans. absurd cc;
  alike = λ f value other sizes type fill places numbers plans. absurd cc;
  planned_bytes = λ f sizes type fill places ranges plan. absurd plan;
  plans_ask = λ plans. absurd cc;
  wholly = λ f sizes type fill stored places e. absurd cc;
  rests_wholly = λ f sizes type fill stored places e. absurd cc;
  plainly = λ f form sizes type fill stored places e. absurd cc;
  rests_plainly = λ f form sizes type fill stored places e. absurd cc;
  in_place = λ order e. absurd cc;
  indexed = λ f. shard_index f arrays m p outer index shape at_end inner (laws f);
  index_asks = λ e. refl;
}

-- ---- all of them

-- every array-to-bytes codec keeps them
pub part_laws : {B : Type 0} (codec : PlainCodec B) → IsLawfulPart (meaning codec) (facts codec) (index_of codec) (part_of codec)
unfolding meaning
part_laws (bytes_codec order) = bytes_part_laws order
part_laws (packbits_codec settings) = packbits_part_laws settings
part_laws (vlen_codec ia ix ib da dx db wide at_end) = vlen_part_laws (vlen_codec ia ix ib da dx db wide at_end) (facts (vlen_codec ia ix ib da dx db wide at_end)).plain refl refl refl
part_laws (sharding_codec sa sx sb ia ix ib shape at_end) = shard_part_laws sa (meaning sx) (part_of sx) (index_of sx) sb (through ia (meaning ix) ib) shape at_end (part_laws sx).places
part_laws codec = whole_part_laws (meaning codec) (facts codec) refl refl refl

-- ---- what follows

-- where nothing is stored it reads fill elements
pub codec_fills : {B : Type 0} (f : BytesCodecs B) (codec : PlainCodec B) (sizes : List ℕ) (type : ElementType) (fill : List ℕ) (r : BytesRepresentation) (places : List ℕ) → codec_representation f codec sizes type fill ≡ Ok r → codec_read f codec sizes type fill None places ≡ Ok (map (λ _. fill_element type fill) places)
codec_fills f codec = ((part_laws codec).places f).fills

-- of a value that it reads as a chunk, it reads the chunk's elements
pub codec_selects : {B : Type 0} (f : BytesCodecs B) (codec : PlainCodec B) (sizes : List ℕ) (type : ElementType) (fill value : List ℕ) (r : BytesRepresentation) (chunk : Chunk) (places : List ℕ) → HasMappings codec → All (λ size. 0 < size) sizes → codec_representation f codec sizes type fill ≡ Ok r
    → codec_chunk f codec sizes type fill value ≡ Ok chunk → All (λ place. place < product sizes) places → codec_read f codec sizes type fill (Some value) places ≡ Ok (select chunk places)
codec_selects f codec sizes type fill value r chunk places has = ((part_laws codec).places f).selects has sizes type fill value r chunk places

tested_same : (one other : Bool) (cause : CodecError) (x y : Chunk) (g : Chunk → Chunk) → (demand one cause >>= λ _. ok x) ≡ seen g (demand other cause >>= λ _. ok y) → one ≡ other
tested_same true true cause x y g e = refl
tested_same true false cause x y g e = absurd cc
tested_same false true cause x y g e = absurd cc
tested_same false false cause x y g e = refl

-- places in another order are the same
pub members_moved : (lengths : List ℕ) (part : CoordinateMap) (places : List ℕ) → IsCoordinateMap lengths part → length places ≡ product lengths → SameMembers (brought_back lengths part 0 places) places
members_moved lengths part places is counted test =
    tested_same (list_all test (brought_back lengths part 0 places)) (list_all test places) InvalidByteRange (map (λ _. absent) (brought_back lengths part 0 places)) (map (λ _. absent) places) (moved_chunk (inverse_map lengths part))
    ((tested_read test InvalidByteRange (λ _. absent)).moved lengths part places is counted)

if_refused : (one other : Result (Unit {0}) CodecError) (x y : Chunk) (g : Chunk → Chunk) → one ≡ other → ok x ≡ seen g (ok y) → (one >>= λ _. ok x) ≡ seen g (other >>= λ _. ok y)
if_refused one (Ok u) x y g same e = rw same e
if_refused one (Err cause) x y g same e = rw same refl

-- places read each by itself are read in any order
pub each_any : (read : List ℕ → Result Chunk CodecError) → ReadsEach read → ReadsInAnyOrder read
each_any read each = record {
  moved = λ lengths part places is counted.
      each.is (brought_back lengths part 0 places)
      ∙ if_refused (each.refusal (brought_back lengths part 0 places)) (each.refusal places) (map each.element (brought_back lengths part 0 places)) (map each.element places) (moved_chunk (inverse_map lengths part))
      (each.same (brought_back lengths part 0 places) places (members_moved lengths part places is counted)) ((mapped_read each.element).moved lengths part places is counted)
      ∙ sym (ap (seen (moved_chunk (inverse_map lengths part))) (each.is places));
}

-- and in any order
pub codec_any : {B : Type 0} (f : BytesCodecs B) (codec : PlainCodec B) (sizes : List ℕ) (type : ElementType) (fill : List ℕ) (stored : Option (List ℕ)) → ReadsInAnyOrder (codec_read f codec sizes type fill stored)
codec_any f codec sizes type fill stored = each_any (codec_read f codec sizes type fill stored) (((part_laws codec).places f).each sizes type fill stored)

pub same_sure : (sure : Option (ℕ → Bool)) (P : Type 0) (one other : Result (List ℕ) CodecError) → ((test : ℕ → Bool) → seen (list_all test) one ≡ seen (list_all test) other) → WhereTheseAreSure sure other P → WhereTheseAreSure sure one P
same_sure sure P (Err e) other same h = tt
same_sure None P (Ok ns) other same h = λ e. absurd cc
same_sure (Some sure) P (Ok ns) (Ok ms) same h = λ e. h (ok_is (list_all sure ms) (list_all sure ns) (sym (same sure)) ∙ e)
same_sure (Some sure) P (Ok ns) (Err x) same h = absurd (let e = same sure in cc)
