-- Values that agree at the planned bytes are read alike.
use Rattle.std.proofs.Common.{◌≡◌, ℕ, Bool, true, Option, Some, None, List, [], ◌∷◌, Result, Ok, Err, if◌then◌else◌, refl, ap, sym, ◌∙◌}
use Rattle.std.specs.List.{All}
use Rattle.zarrs_chunk.specs.Answer.{◌>>=◌}
use Rattle.zarrs_chunk.specs.declared.codec_error.CodecError.{CodecError}
use Rattle.zarrs_data_type.specs.ElementType.{ElementType}
use Rattle.zarrs_codec.specs.ByteRanges.{SameByte}
use Rattle.zarrs_codec.specs.BytesToBytesCodec.{BytesCodecs}
use Rattle.zarrs_codec.specs.declared.bytes_representation.BytesRepresentation.{BytesRepresentation}
use Rattle.zarrs_chain_meaning.specs.Chain.{taken_form}
use Rattle.zarrs_chain_meaning.specs.CodecMeaning.{PlainCodec}
use Rattle.zarrs_bytes.proofs.Coding.{ok, bind_ok}
use Rattle.zarrs_codecs.specs.ChunkRead.{asks_in_part, encoded_places, reads_places}
use Rattle.zarrs_chain_meaning.specs.ChunkForm.{ChunkForm}
use Rattle.zarrs_codecs.specs.CodecPart.{codec_plans, codec_rests_on, part_of}
use Rattle.zarrs_codecs.specs.PlannedReads.{PlannedIsAsked, PlannedReadsAlike, SizedReadsAlike}
use Rattle.zarrs_codecs.proofs.LawfulPart.{part_laws, ReadsAlike}
use Rattle.zarrs_codecs.proofs.ReadLaws.{asked_alike, asked_is, read_below}

-- ---- through a chain, where the bytes at the planned numbers agree in any sense in which each codec reads alike

-- the bytes that a read of places plans, where it does
abbrev plan_of : {B : Type 0} → BytesCodecs B → List B → PlainCodec B → List ℕ → ElementType → List ℕ → List ℕ → Result (Option (List ℕ)) CodecError
plan_of f outer codec encoded type fill places =
    codec_rests_on f codec encoded type fill None places >>= λ found. ok (if reads_places outer codec then Some found else None)

module _ {B : Type 0} (f : BytesCodecs B) (value other : List ℕ) (Agreeing : List ℕ → Type 0) (alike : (codec : PlainCodec B) → ReadsAlike (part_of codec) f value other Agreeing) where
  at_taken : (outer : List B) (codec : PlainCodec B) (encoded : List ℕ) (type : ElementType) (fill : List ℕ) (r : BytesRepresentation) (places numbers : List ℕ) → plan_of f outer codec encoded type fill places ≡ Ok (Some numbers) → Agreeing numbers
      → read_below f outer codec encoded type fill r places value ≡ read_below f outer codec encoded type fill r places other
  at_taken [] codec encoded type fill r places numbers is agree =
      let b = bind_ok (codec_rests_on f codec encoded type fill None places) (λ found. ok (if codec_plans codec then Some found else None)) (Some numbers) is in
      let p = asked_is (codec_plans codec) b.0 numbers b.2 in
      alike codec encoded type fill places numbers p.0 (b.1 ∙ ap ok p.1) agree
  at_taken (first ∷ rest) codec encoded type fill r places numbers is agree =
      let b = bind_ok (codec_rests_on f codec encoded type fill None places) (λ found. ok None) (Some numbers) is in
      absurd (let e = b.2 in cc)

  chain_alike : (form : ChunkForm B) (p : Result (List ℕ) CodecError) (t : Result (List ℕ × BytesRepresentation) CodecError) (numbers : List ℕ)
      → (p >>= λ places. t >>= λ taken. plan_of f form.chain.bytes_to_bytes form.chain.array_to_bytes taken.0 form.type form.fill places) ≡ Ok (Some numbers) → Agreeing numbers
      → (p >>= λ places. t >>= λ taken. read_below f form.chain.bytes_to_bytes form.chain.array_to_bytes taken.0 form.type form.fill taken.1 places value)
      ≡ (p >>= λ places. t >>= λ taken. read_below f form.chain.bytes_to_bytes form.chain.array_to_bytes taken.0 form.type form.fill taken.1 places other)
  chain_alike form (Err e) t numbers is agree = refl
  chain_alike form (Ok places) (Err e) numbers is agree = refl
  chain_alike form (Ok places) (Ok taken) numbers is agree =
      at_taken form.chain.bytes_to_bytes form.chain.array_to_bytes taken.0 form.type form.fill taken.1 places numbers is agree

-- ---- the laws

pub planned_alike : {B : Type 0} (f : BytesCodecs B) → PlannedReadsAlike f
planned_alike f form value other selection numbers planned same =
    chain_alike f value other (All (SameByte value other)) (λ codec. (part_laws codec).alike f value other)
    form (encoded_places form.type form.chain.array_to_array form.sizes selection) (taken_form f form.chain form.sizes form.type form.fill) numbers planned same

-- ---- what is planned is asked for

module _ {B : Type 0} (f : BytesCodecs B) where
  asks_of : (outer : List B) (codec : PlainCodec B) → reads_places outer codec ≡ true → asks_in_part outer codec ≡ true
  asks_of [] codec e = (part_laws codec).plans_ask e
  asks_of (first ∷ rest) codec e = absurd (cc)

  -- what a read of places asks for
  abbrev asked_of : List B → PlainCodec B → List ℕ → ElementType → List ℕ → List ℕ → Option (List ℕ) → Result (Option (List ℕ)) CodecError
  asked_of outer codec encoded type fill places stored =
      codec_rests_on f codec encoded type fill stored places >>= λ found. ok (if asks_in_part outer codec then Some found else None)

  plans : (outer : List B) (codec : PlainCodec B) → reads_places outer codec ≡ true → codec_plans codec ≡ true
  plans [] codec e = e
  plans (first ∷ rest) codec e = absurd (cc)

  at_asked : (outer : List B) (codec : PlainCodec B) (encoded : List ℕ) (type : ElementType) (fill places : List ℕ) (stored : Option (List ℕ)) (numbers : List ℕ) → plan_of f outer codec encoded type fill places ≡ Ok (Some numbers)
      → (asks_in_part outer codec ≡ true) × (asked_of outer codec encoded type fill places stored ≡ Ok (Some numbers))
  at_asked outer codec encoded type fill places stored numbers is =
      let b = bind_ok (codec_rests_on f codec encoded type fill None places) (λ found. ok (if reads_places outer codec then Some found else None)) (Some numbers) is in
      let p = asked_is (reads_places outer codec) b.0 numbers b.2 in
      let asks : asks_in_part outer codec ≡ true = asks_of outer codec p.0 in
      let found : codec_rests_on f codec encoded type fill stored places ≡ Ok b.0 = sym ((part_laws codec).rests_alike f encoded type fill stored places (plans outer codec p.0)) ∙ b.1 in (
        asks,
        ap (λ (r : Result (List ℕ) CodecError). r >>= λ found. ok (if asks_in_part outer codec then Some found else None)) found
            ∙ ap (λ (t : Bool). ok (if t then Some b.0 else None)) asks
            ∙ ap (λ (n : List ℕ). ok (Some n)) p.1,
      )

  chain_asked : (form : ChunkForm B) (stored : Option (List ℕ)) (p : Result (List ℕ) CodecError) (t : Result (List ℕ × BytesRepresentation) CodecError) (numbers : List ℕ)
      → (p >>= λ places. t >>= λ taken. plan_of f form.chain.bytes_to_bytes form.chain.array_to_bytes taken.0 form.type form.fill places) ≡ Ok (Some numbers)
      → (asks_in_part form.chain.bytes_to_bytes form.chain.array_to_bytes ≡ true) × ((p >>= λ places. t >>= λ taken. asked_of form.chain.bytes_to_bytes form.chain.array_to_bytes taken.0 form.type form.fill places stored) ≡ Ok (Some numbers))
  chain_asked form stored (Err e) t numbers is = absurd (cc)
  chain_asked form stored (Ok places) (Err e) numbers is = absurd (cc)
  chain_asked form stored (Ok places) (Ok taken) numbers is =
      at_asked form.chain.bytes_to_bytes form.chain.array_to_bytes taken.0 form.type form.fill places stored numbers is

pub planned_is_asked : {B : Type 0} (f : BytesCodecs B) → PlannedIsAsked f
planned_is_asked f form stored selection numbers planned =
    let a = chain_asked f form stored (encoded_places form.type form.chain.array_to_array form.sizes selection) (taken_form f form.chain form.sizes form.type form.fill) numbers planned in
    record { in_part = a.0; asked = a.1 }

pub sized_alike : {B : Type 0} (f : BytesCodecs B) → SizedReadsAlike f
sized_alike f form value other selection numbers planned long same =
    asked_alike f form value other selection numbers (planned_is_asked f form (Some value) selection numbers planned).asked long same
