-- Laws of reads in part through a chain.
use Rattle.std.proofs.Common.{◌≡◌, ℕ, Bool, true, false, if◌then◌else◌, Option, Some, None, List, [], ◌∷◌, length, slice_index, Result, Ok, Err, IfOk, refl, ap, sym, ◌∙◌, subst}
use Rattle.std.specs.List.{All}
use Rattle.zarrs_chunk.specs.Answer.{◌>>=◌, seen}
use Rattle.zarrs_chunk.specs.declared.codec_error.CodecError.{CodecError}
use Rattle.zarrs_data_type.specs.Element.{Chunk}
use Rattle.zarrs_codec.specs.BytesToBytesCodec.{BytesCodecs}
use Rattle.zarrs_codec.specs.CoordinateMap.{CoordinateMap}
use Rattle.zarrs_codec.specs.declared.bytes_representation.BytesRepresentation.{BytesRepresentation}
use Rattle.zarrs_chain_meaning.specs.ArrayStages.{arrays_map}
use Rattle.zarrs_chain_meaning.specs.BytesStages.{outer_bytes}
use Rattle.zarrs_chain_meaning.specs.Chain.{taken_form}
use Rattle.zarrs_chain_meaning.specs.CodecMeaning.{PlainCodec, codec_representation, chain_chunk}
use Rattle.zarrs_codecs.specs.ChunkRead.{asks_in_part, encoded_places, outer_stored}
use Rattle.zarrs_chain_meaning.specs.ChunkForm.{ChunkForm}
use Rattle.zarrs_codecs.specs.CodecPart.{codec_read, codec_rests_on}
use Rattle.zarrs_codecs.specs.ReadLaws.{AskedReadsAlike, StoredReadsAlike, StoredSelects}
use Rattle.zarrs_data_type.specs.ElementType.{ElementType}
use Rattle.zarrs_bytes.proofs.Coding.{ok, bind_ok}
use Rattle.zarrs_chain_meaning.proofs.Answered.{from_ok}
use Rattle.zarrs_chain_meaning.proofs.ChainSteps.{is_taken}
use Rattle.zarrs_chain_meaning.proofs.CodecLaws.{chain_chunk_only}
use Rattle.zarrs_codecs.proofs.PartialReads.{stored_selects}
use Rattle.zarrs_codecs.proofs.LawfulPart.{part_laws}

-- ---- selections

taken_by : (a : Result CoordinateMap CodecError) (measure : List ℕ → Result BytesRepresentation CodecError) (m : CoordinateMap) (r : BytesRepresentation) → a ≡ Ok m → measure m.encoded ≡ Ok r
    → (seen (λ (m : CoordinateMap). m.encoded) a >>= λ encoded. measure encoded >>= λ r. let taken : List ℕ × BytesRepresentation = (encoded, r) in ok taken) ≡ Ok (m.encoded, r)
taken_by a measure m r e d = rw (e, d) refl

-- a chain that reads a value as a chunk takes such chunks
form_taken : {B : Type 0} (f : BytesCodecs B) (form : ChunkForm B) (value : List ℕ) (chunk : Chunk) → chain_chunk f form.chain form.sizes form.type form.fill value ≡ Ok chunk
    → (taken : List ℕ × BytesRepresentation) × (taken_form f form.chain form.sizes form.type form.fill ≡ Ok taken)
form_taken f form value chunk e =
    let a = bind_ok (arrays_map form.type form.chain.array_to_array form.sizes) _ chunk e in
    let b = bind_ok (codec_representation f form.chain.array_to_bytes a.0.encoded form.type form.fill) _ chunk a.2 in
    ((a.0.encoded, b.0), taken_by (arrays_map form.type form.chain.array_to_array form.sizes) (λ encoded. codec_representation f form.chain.array_to_bytes encoded form.type form.fill) a.0 b.0 a.1 b.1)

pub chunks_select : {B : Type 0} (f : BytesCodecs B) → StoredSelects f
chunks_select f form value chunk selection mappings positive stands =
    let e = chain_chunk_only f form.chain mappings form.sizes form.type form.fill value chunk positive stands in
    let t = form_taken f form value chunk e in
    stored_selects f form t.0.0 t.0.1 value chunk selection mappings positive t.1 e

-- ---- reads that are alike

module _ {B : Type 0} (f : BytesCodecs B) (form : ChunkForm B) where
  abbrev below_of : Result (List ℕ × BytesRepresentation) CodecError → List ℕ → Result (List ℕ) CodecError
  below_of t value = t >>= λ taken. outer_bytes f form.chain.bytes_to_bytes taken.1 value

  abbrev read_of : Result (List ℕ) CodecError → Result (List ℕ × BytesRepresentation) CodecError → List ℕ → Result Chunk CodecError
  read_of p t value = p >>= λ places. t >>= λ taken. outer_stored f form.chain.bytes_to_bytes taken.1 (Some value) >>= λ below. codec_read f form.chain.array_to_bytes taken.0 form.type form.fill below places

  abbrev rests_of : Result (List ℕ) CodecError → Result (List ℕ × BytesRepresentation) CodecError → List ℕ → Result (List ℕ) CodecError
  rests_of p t below = p >>= λ places. t >>= λ taken. codec_rests_on f form.chain.array_to_bytes taken.0 form.type form.fill (Some below) places

  -- the array-to-bytes codec takes what it gets
  abbrev Measured : Result (List ℕ × BytesRepresentation) CodecError → Type 0
  Measured t = (taken : List ℕ × BytesRepresentation) → t ≡ Ok taken → codec_representation f form.chain.array_to_bytes taken.0 form.type form.fill ≡ Ok taken.1

  measured : Measured (taken_form f form.chain form.sizes form.type form.fill)
  measured taken e =
      let t = is_taken f form.chain form.sizes form.type form.fill taken e in
      subst (λ (s : List ℕ). codec_representation f form.chain.array_to_bytes s form.type form.fill ≡ Ok taken.1) t.encoded_is t.measured

  alike_at : (p : Result (List ℕ) CodecError) (t : Result (List ℕ × BytesRepresentation) CodecError) (value other below beside : List ℕ) → Measured t → below_of t value ≡ Ok below → below_of t other ≡ Ok beside
      → length below ≡ length beside → IfOk (rests_of p t below) (All (λ number. slice_index below number ≡ slice_index beside number)) → read_of p t value ≡ read_of p t other
  alike_at (Err e) t value other below beside taken a b l h = refl
  alike_at (Ok places) (Err e) value other below beside taken a b l h = refl
  alike_at (Ok places) (Ok at) value other below beside taken a b l h =
      let laws = (part_laws form.chain.array_to_bytes).places f in
      let read : Result (List ℕ) CodecError → Result Chunk CodecError = λ o. seen (λ b. Some b) o >>= λ below. codec_read f form.chain.array_to_bytes at.0 form.type form.fill below places in
      let rests = codec_rests_on f form.chain.array_to_bytes at.0 form.type form.fill (Some below) places in
      let found = from_ok rests (laws.rests_found at.0 form.type form.fill at.1 (Some below) places (taken at refl)) in
      let same = subst (λ (r : Result (List ℕ) CodecError). IfOk r (All (λ number. slice_index below number ≡ slice_index beside number))) found.1 h in
      ap read a ∙ laws.local at.0 form.type form.fill below beside places found.0 l found.1 same ∙ sym (ap read b)

pub chunks_alike : {B : Type 0} (f : BytesCodecs B) → StoredReadsAlike f
chunks_alike f form value other below beside selection a b l h =
    alike_at f form (encoded_places form.type form.chain.array_to_array form.sizes selection) (taken_form f form.chain form.sizes form.type form.fill) value other below beside (measured f form) a b l h

-- ---- reads of a part of the value

pub asked_is : (t : Bool) (found numbers : List ℕ) → ok (if t then Some found else None) ≡ Ok (Some numbers) → (t ≡ true) × (found ≡ numbers)
asked_is true found numbers e = (refl, cc)
asked_is false found numbers e = absurd cc

-- what is read of a value through bytes-to-bytes codecs
abbrev pub read_below : {B : Type 0} → BytesCodecs B → List B → PlainCodec B → List ℕ → ElementType → List ℕ → BytesRepresentation → List ℕ → List ℕ → Result Chunk CodecError
read_below f outer codec encoded type fill r places v = outer_stored f outer r (Some v) >>= λ below. codec_read f codec encoded type fill below places

module _ {B : Type 0} (f : BytesCodecs B) (value other : List ℕ) (long : length value ≡ length other) where
  abbrev asked_of : List B → PlainCodec B → List ℕ → ElementType → List ℕ → List ℕ → Result (Option (List ℕ)) CodecError
  asked_of outer codec encoded type fill places =
      codec_rests_on f codec encoded type fill (Some value) places >>= λ found. ok (if asks_in_part outer codec then Some found else None)

  at_asked : (outer : List B) (codec : PlainCodec B) (encoded : List ℕ) (type : ElementType) (fill : List ℕ) (r : BytesRepresentation) (places numbers : List ℕ) → asked_of outer codec encoded type fill places ≡ Ok (Some numbers) → All (λ number. slice_index value number ≡ slice_index other number) numbers
      → read_below f outer codec encoded type fill r places value ≡ read_below f outer codec encoded type fill r places other
  at_asked [] codec encoded type fill r places numbers is same =
      let b = bind_ok (codec_rests_on f codec encoded type fill (Some value) places) (λ found. ok (if asks_in_part [] codec then Some found else None)) (Some numbers) is in
      let p = asked_is (asks_in_part [] codec) b.0 numbers b.2 in
      ((part_laws codec).places f).local encoded type fill value other places numbers long (b.1 ∙ ap ok p.1) same
  at_asked (first ∷ rest) codec encoded type fill r places numbers is same =
      let b = bind_ok (codec_rests_on f codec encoded type fill (Some value) places) (λ found. ok None) (Some numbers) is in
      absurd (let e = b.2 in cc)

  chain_asked : (form : ChunkForm B) (p : Result (List ℕ) CodecError) (t : Result (List ℕ × BytesRepresentation) CodecError) (numbers : List ℕ)
      → (p >>= λ places. t >>= λ taken. asked_of form.chain.bytes_to_bytes form.chain.array_to_bytes taken.0 form.type form.fill places) ≡ Ok (Some numbers) → All (λ number. slice_index value number ≡ slice_index other number) numbers
      → (p >>= λ places. t >>= λ taken. read_below f form.chain.bytes_to_bytes form.chain.array_to_bytes taken.0 form.type form.fill taken.1 places value)
      ≡ (p >>= λ places. t >>= λ taken. read_below f form.chain.bytes_to_bytes form.chain.array_to_bytes taken.0 form.type form.fill taken.1 places other)
  chain_asked form (Err e) t numbers is same = refl
  chain_asked form (Ok places) (Err e) numbers is same = refl
  chain_asked form (Ok places) (Ok taken) numbers is same =
      at_asked form.chain.bytes_to_bytes form.chain.array_to_bytes taken.0 form.type form.fill taken.1 places numbers is same

pub asked_alike : {B : Type 0} (f : BytesCodecs B) → AskedReadsAlike f
asked_alike f form value other selection numbers is long same =
    chain_asked f value other long form (encoded_places form.type form.chain.array_to_array form.sizes selection) (taken_form f form.chain form.sizes form.type form.fill) numbers is same
