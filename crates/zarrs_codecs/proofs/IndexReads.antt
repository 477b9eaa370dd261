-- Reads by the index of a shard that is kept, or that is read first.
use Rattle.std.proofs.Common.{◌≡◌, ℕ, ◌<◌, ◌^◌, ◌&&◌, Bool, true, false, if◌then◌else◌, Option, Some, None, List, [], ◌∷◌, length, map, Result, Ok, Err, refl, ap, sym, subst, ◌∙◌}
use Rattle.std.specs.Prelude.{IfErr, IfOk, IfSome, is_some}
use Rattle.std.specs.Option.{option_map, unwrap_or}
use Rattle.zarrs_array_bytes.specs.Held.{Held}
use Rattle.zarrs_array_bytes.specs.Validity.{Holds}
use Rattle.zarrs_bytes.proofs.Coding.{ok, bind_ok}
use Rattle.zarrs_chain.proofs.ShardForms.{small_counted}
use Rattle.zarrs_chain_meaning.proofs.CodecLaws.{chain_chunk_only}
use Rattle.zarrs_chain_meaning.specs.Chain.{taken_form}
use Rattle.zarrs_chain_meaning.specs.ChunkForm.{ChunkForm}
use Rattle.zarrs_chain_meaning.specs.Laws.{IsChainOfMappings}
use Rattle.zarrs_chain_meaning.specs.CodecMeaning.{PlainChain, PlainCodec}
use Rattle.zarrs_chain_meaning.specs.sharding.Sharding.{Span}
use Rattle.zarrs_chunk.specs.Answer.{◌>>=◌, Answers, AnswersBy, is_fault, memory, memory_or_fault}
use Rattle.zarrs_chunk.specs.ChunkShape.{product}
use Rattle.zarrs_chunk.specs.Selection.{Selection, bounds_of, tuples_of}
use Rattle.zarrs_chunk.specs.Tuples.{row_major}
use Rattle.std.specs.List.{All}
use Rattle.zarrs_chunk.specs.declared.codec_error.CodecError.{CodecError}
use Rattle.zarrs_codec.specs.BytesToBytesCodec.{BytesCodecs}
use Rattle.zarrs_codec.specs.StorageState.{StorageState, are_sure}
use Rattle.zarrs_codec.specs.declared.bytes_representation.BytesRepresentation.{BytesRepresentation}
use Rattle.zarrs_codecs.proofs.LawfulPart.{part_laws, same_sure}
use Rattle.zarrs_codecs.proofs.PartialReads.{IsReadable, is_readable, stored_selects, unstored_read}
use Rattle.zarrs_codecs.proofs.SureReads.{where_sure}
use Rattle.zarrs_codecs.specs.ChunkRead.{ReadsStoredChunk, are_given_sure, asks_in_part, encoded_places, outer_stored, stored_read, WhereSureBy}
use Rattle.zarrs_codecs.specs.CodecPart.{codec_read, codec_rests_on, part_of, rests_where}
use Rattle.zarrs_codecs.specs.KeptIndex.{IndexPart, IsIndexOf, asks_index, bytes_with, codec_index, codec_spans, index_of, index_rests_on, index_seen, keeps_nothing, knows_index, spans_with}
use Rattle.zarrs_codecs.specs.PlaceLaws.{Resting, RestsEach, SameMembers}
use Rattle.zarrs_codecs.specs.PartRead.{PlaceReader}
use Rattle.zarrs_codecs.proofs.IndexLaws.{IndexLaws}
use Rattle.zarrs_codecs.specs.ChunkSource.{is_cache}
use Rattle.zarrs_codecs.specs.declared.partial_decoder.cache.Cache.{Cache}
use Rattle.zarrs_codecs.specs.declared.partial_decoder.cache.Cache.TheVariants as kept
use Rattle.zarrs_codecs.specs.declared.sharding.shard_index.ShardIndex.{ShardIndex}
use Rattle.zarrs_data_type.specs.ElementType.{ElementType}

-- ---- what is kept

pub unread_index : {B : Type 0} (f : BytesCodecs B) (chain : PlainChain B) (sizes : List ℕ) (stored : Option (List ℕ)) (cache : Cache) → knows_index cache ≡ false → IsIndexOf f chain sizes stored cache
unread_index f chain sizes stored kept.Handle e = tt
unread_index f chain sizes stored (kept.Index index) e = absurd cc
unread_index f chain sizes stored (kept.Bytes below value) e = tt
unread_index f chain sizes stored (kept.Chunk held) e = tt

pub bare_unread : (cache : Cache) → keeps_nothing cache ≡ true → knows_index cache ≡ false
bare_unread kept.Handle e = refl
bare_unread (kept.Index index) e = absurd cc
bare_unread (kept.Bytes below value) e = refl
bare_unread (kept.Chunk held) e = refl

pub bare_uncached : (cache : Cache) → keeps_nothing cache ≡ true → is_cache cache ≡ false
bare_uncached kept.Handle e = refl
bare_uncached (kept.Index index) e = refl
bare_uncached (kept.Bytes below value) e = absurd cc
bare_uncached (kept.Chunk held) e = absurd cc

-- with a cache, or where no index is asked for, none is wanted
pub cached_unwanted : (cache : Cache) (asks : Bool) → is_cache cache ≡ true → (keeps_nothing cache && asks) ≡ false
cached_unwanted kept.Handle asks e = absurd cc
cached_unwanted (kept.Index index) asks e = absurd cc
cached_unwanted (kept.Bytes below value) asks e = refl
cached_unwanted (kept.Chunk held) asks e = refl

pub unasked_unwanted : {B : Type 0} (bare : Bool) (outer : List B) (codec : PlainCodec B) → asks_in_part outer codec ≡ false → (bare && asks_index outer codec) ≡ false
unasked_unwanted false outer codec e = refl
unasked_unwanted true [] codec e = by (asks_index [] codec) refl
  where
    by : (b : Bool) → asks_index [] codec ≡ b → asks_index [] codec ≡ false
    by true h = absurd (let part = (part_laws codec).index_asks h in cc)
    by false h = h
unasked_unwanted true (first ∷ rest) codec e = refl

-- ---- the index of what is stored

-- the value whose index it is
pub record HasIndex {B : Type 0} (f : BytesCodecs B) (codec : PlainCodec B) (sizes : List ℕ) (stored : Option (List ℕ)) (len : ℕ) (spans : List Span) : Type 0 where
  pub value : List ℕ
  pub is : stored ≡ Some value
  pub long : length value ≡ len
  pub at : codec_spans f codec sizes value ≡ Ok spans

pub index_stored : {B : Type 0} (f : BytesCodecs B) (codec : PlainCodec B) (sizes : List ℕ) (stored : Option (List ℕ)) (len : ℕ) (spans : List Span) → codec_index f codec sizes stored ≡ Ok (Some (len, spans)) → HasIndex f codec sizes stored len spans
index_stored f codec sizes None len spans e = absurd cc
index_stored f codec sizes (Some value) len spans e =
    let a = bind_ok (codec_spans f codec sizes value) _ (Some (len, spans)) e in
    record { value = value; is = refl; long = first (length value) len a.0 spans a.2; at = a.1 ∙ ap (λ (s : List Span). ok s) (second (length value) len a.0 spans a.2) }
  where
    first : (m n : ℕ) (ss ts : List Span) → ◌≡◌ {A = Result (Option (ℕ × List Span)) CodecError} (Ok (Some (m, ss))) (Ok (Some (n, ts))) → m ≡ n
    first m n ss ts e = let both : (m, ss) ≡ (n, ts) = cc in ap (λ (p : ℕ × List Span). p.0) both

    second : (m n : ℕ) (ss ts : List Span) → ◌≡◌ {A = Result (Option (ℕ × List Span)) CodecError} (Ok (Some (m, ss))) (Ok (Some (n, ts))) → ss ≡ ts
    second m n ss ts e = let both : (m, ss) ≡ (n, ts) = cc in ap (λ (p : ℕ × List Span). p.1) both

-- a chain that asks for an index has no bytes-to-bytes codecs
pub asks_bare : {B : Type 0} (outer : List B) (codec : PlainCodec B) → asks_index outer codec ≡ true → (outer ≡ []) × (asks_index [] codec ≡ true)
asks_bare [] codec e = (refl, e)
asks_bare (first ∷ rest) codec e = absurd cc

pub asks_part : {B : Type 0} (outer : List B) (codec : PlainCodec B) → asks_index outer codec ≡ true → asks_in_part outer codec ≡ true
asks_part [] codec e = (part_laws codec).index_asks e
asks_part (first ∷ rest) codec e = absurd cc

-- ---- what a read rests on behind the index

none_asked : (sure : Option (ℕ → Bool)) (r : Result (List ℕ) CodecError) → are_given_sure sure r ≡ true → are_sure sure [] ≡ true
none_asked None (Ok numbers) e = absurd cc
none_asked None (Err x) e = absurd cc
none_asked (Some test) r e = refl

module _ {B : Type 0} (f : BytesCodecs B) (read : PlaceReader) (rests : BytesCodecs B → Resting) (sizes : List ℕ) (type : ElementType) (fill : List ℕ) where
  with_behind : (index : Option (IndexPart B)) (behind : Option (BytesCodecs B → Resting)) → IndexLaws f read (rests f) index behind → (stored : Option (List ℕ)) (places : List ℕ) (sure : Option (ℕ → Bool))
      → are_given_sure sure (rests f sizes type fill stored places) ≡ true → are_given_sure sure (unwrap_or behind rests f sizes type fill stored places) ≡ true
  with_behind None None laws stored places sure e = e
  with_behind (Some index) (Some behind) laws stored places sure e = laws.behind_sure sizes type fill stored places sure e
  with_behind None (Some behind) laws stored places sure e = absurd laws
  with_behind (Some index) None laws stored places sure e = absurd laws

  with_bytes : (index : Option (IndexPart B)) (behind : Option (BytesCodecs B → Resting)) → IndexLaws f read (rests f) index behind → (value places : List ℕ) (sure : Option (ℕ → Bool))
      → are_given_sure sure (rests f sizes type fill (Some value) places) ≡ true → are_given_sure sure (bytes_with index f sizes value) ≡ true
  with_bytes None behind laws value places sure e = none_asked sure (rests f sizes type fill (Some value) places) e
  with_bytes (Some index) (Some behind) laws value places sure e = laws.bytes_sure sizes type fill value places sure e
  with_bytes (Some index) None laws value places sure e = absurd laws

  with_each : (index : Option (IndexPart B)) (behind : Option (BytesCodecs B → Resting)) → IndexLaws f read (rests f) index behind → (stored : Option (List ℕ)) → RestsEach (rests f sizes type fill stored) → RestsEach (unwrap_or behind rests f sizes type fill stored)
  with_each index None laws stored each = each
  with_each (Some index) (Some behind) laws stored each = laws.behind_each sizes type fill stored
  with_each None (Some behind) laws stored each = absurd laws

  with_refused : (index : Option (IndexPart B)) (behind : Option (BytesCodecs B → Resting)) → IndexLaws f read (rests f) index behind → is_some behind ≡ true → (value places : List ℕ) (error : CodecError)
      → spans_with index f sizes value ≡ Err error → read sizes type fill (Some value) places ≡ Err error
  with_refused index None laws there value places error e = absurd cc
  with_refused (Some index) (Some behind) laws there value places error e = laws.refused sizes type fill value places error e
  with_refused None (Some behind) laws there value places error e = absurd laws

abbrev SureSo : StorageState → Type 0 → Option (List ℕ) → Type 0
SureSo before P asked = IfSome asked (λ numbers. are_sure before.sure numbers ≡ true → P)

module _ {B : Type 0} (f : BytesCodecs B) where
  laws_of : (codec : PlainCodec B) → IndexLaws f (codec_read f codec) (codec_rests_on f codec) (index_of codec) (part_of codec).rests_behind
  laws_of codec = (part_laws codec).indexed f

  -- where all is sure that a read rests on, what it rests on behind the index is
  pub behind_sure : (codec : PlainCodec B) (sizes : List ℕ) (type : ElementType) (fill : List ℕ) (stored : Option (List ℕ)) (places : List ℕ) (sure : Option (ℕ → Bool)) → are_given_sure sure (codec_rests_on f codec sizes type fill stored places) ≡ true
      → are_given_sure sure (rests_where true f codec sizes type fill stored places) ≡ true
  behind_sure codec sizes type fill stored places sure e = with_behind f (codec_read f codec) (part_of codec).rests_on sizes type fill (index_of codec) (part_of codec).rests_behind (laws_of codec) stored places sure e

  -- and so are the index's bytes
  pub index_is_sure : (codec : PlainCodec B) (sizes : List ℕ) (type : ElementType) (fill : List ℕ) (stored : Option (List ℕ)) (places : List ℕ) (sure : Option (ℕ → Bool)) → are_given_sure sure (codec_rests_on f codec sizes type fill stored places) ≡ true
      → are_given_sure sure (index_rests_on f codec sizes stored) ≡ true
  index_is_sure codec sizes type fill None places sure e = none_asked sure (codec_rests_on f codec sizes type fill None places) e
  index_is_sure codec sizes type fill (Some value) places sure e = with_bytes f (codec_read f codec) (part_of codec).rests_on sizes type fill (index_of codec) (part_of codec).rests_behind (laws_of codec) value places sure e

  where_each : (known : Bool) (codec : PlainCodec B) (sizes : List ℕ) (type : ElementType) (fill : List ℕ) (stored : Option (List ℕ)) → RestsEach (rests_where known f codec sizes type fill stored)
  where_each false codec sizes type fill stored = ((part_laws codec).places f).rests_each sizes type fill stored
  where_each true codec sizes type fill stored = with_each f (codec_read f codec) (part_of codec).rests_on sizes type fill (index_of codec) (part_of codec).rests_behind (laws_of codec) stored (((part_laws codec).places f).rests_each sizes type fill stored)

  -- where the bytes are sure that places rest on, those are that the same places in another order rest on
  pub sure_alike : (known : Bool) (codec : PlainCodec B) (sure : Option (ℕ → Bool)) (ps qs : List ℕ) → SameMembers ps qs → (sizes : List ℕ) (type : ElementType) (fill : List ℕ) (stored : Option (List ℕ)) (P : Type 0)
      → IfOk (rests_where known f codec sizes type fill stored qs) (λ numbers. are_sure sure numbers ≡ true → P) → IfOk (rests_where known f codec sizes type fill stored ps) (λ numbers. are_sure sure numbers ≡ true → P)
  sure_alike known codec sure ps qs same sizes type fill stored P h =
      same_sure sure P (rests_where known f codec sizes type fill stored ps) (rests_where known f codec sizes type fill stored qs) (where_each known codec sizes type fill stored ps qs same) h

  -- what holds where the bytes behind the index are sure holds where all are
  pub sure_by_all : (known : Bool) (form : ChunkForm B) (before : StorageState) (selection : Selection) (P : Type 0) → WhereSureBy known f form before selection P → WhereSureBy false f form before selection P
  sure_by_all false form before selection P h = h
  sure_by_all true form before selection P h = steps (encoded_places form.type form.chain.array_to_array form.sizes selection) (taken_form f form.chain form.sizes form.type form.fill) h
    where
      last : (asks : Bool) (behind all : Result (List ℕ) CodecError) → (are_given_sure before.sure all ≡ true → are_given_sure before.sure behind ≡ true)
          → IfOk (behind >>= λ numbers. ok (if asks then Some numbers else None)) (SureSo before P) → IfOk (all >>= λ numbers. ok (if asks then Some numbers else None)) (SureSo before P)
      last false behind (Ok numbers) more h = tt
      last true (Ok some) (Ok numbers) more h = λ s. h (more s)
      last true (Err x) (Ok numbers) more h = λ s. absurd (let e = more s in cc)
      last asks behind (Err x) more h = tt

      steps : (p : Result (List ℕ) CodecError) (t : Result (List ℕ × BytesRepresentation) CodecError)
          → IfOk (p >>= λ places. t >>= λ taken. rests_where true f form.chain.array_to_bytes taken.0 form.type form.fill before.value places >>= λ numbers. ok (if asks_in_part form.chain.bytes_to_bytes form.chain.array_to_bytes then Some numbers else None)) (SureSo before P)
          → IfOk (p >>= λ places. t >>= λ taken. codec_rests_on f form.chain.array_to_bytes taken.0 form.type form.fill before.value places >>= λ numbers. ok (if asks_in_part form.chain.bytes_to_bytes form.chain.array_to_bytes then Some numbers else None)) (SureSo before P)
      steps (Ok places) (Ok taken) h =
          last (asks_in_part form.chain.bytes_to_bytes form.chain.array_to_bytes) (rests_where true f form.chain.array_to_bytes taken.0 form.type form.fill before.value places) (codec_rests_on f form.chain.array_to_bytes taken.0 form.type form.fill before.value places)
          (behind_sure form.chain.array_to_bytes taken.0 form.type form.fill before.value places before.sure) h
      steps (Ok places) (Err x) h = tt
      steps (Err x) t h = tt

-- ---- a read whose index is rejected

spans_refused : (r : Result (List Span) CodecError) (len : ℕ) (error : CodecError) → ◌≡◌ {A = Result (Option (ℕ × List Span)) CodecError} (r >>= λ spans. Ok (Some (len, spans))) (Err error) → r ≡ Err error
spans_refused (Ok spans) len error e = absurd cc
spans_refused (Err x) len error e = let same : x ≡ error = cc in ap (λ (c : CodecError). let r : Result (List Span) CodecError = Err c in r) same

shard_refused : {B : Type 0} (f : BytesCodecs B) (codec : PlainCodec B) (sizes : List ℕ) (type : ElementType) (fill : List ℕ) (stored : Option (List ℕ)) (places : List ℕ) (error : CodecError) → asks_index [] codec ≡ true
    → codec_index f codec sizes stored ≡ Err error → codec_read f codec sizes type fill stored places ≡ Err error
shard_refused f codec sizes type fill None places error asks e = absurd cc
shard_refused f codec sizes type fill (Some value) places error asks e =
    with_refused f (codec_read f codec) (part_of codec).rests_on sizes type fill (index_of codec) (part_of codec).rests_behind (laws_of f codec) asks value places error (spans_refused (codec_spans f codec sizes value) (length value) error e)

module _ {B : Type 0} (f : BytesCodecs B) (form : ChunkForm B) (encoded : List ℕ) (r : BytesRepresentation) (mappings : IsChainOfMappings form.chain) (positive : All (λ size. 0 < size) form.sizes) (taken : taken_form f form.chain form.sizes form.type form.fill ≡ Ok (encoded, r)) (before : StorageState) (selection : Selection) where
  -- what a read answers of what is stored, by the one exact answer
  pub reads_stored : (result : Result Held CodecError) → AnswersBy memory_or_fault (Holds form.type) result (stored_read f form before.value selection) → IfErr (bounds_of selection form.sizes) (λ cause. AnswersBy memory (Holds form.type) result (Err cause))
      → WhereSureBy false f form before selection (is_fault result ≡ false) → ReadsStoredChunk f form before selection result
  reads_stored result exact first sure = record {
    selected = λ value chunk here stands.
        subst (λ e. AnswersBy memory_or_fault (Holds form.type) result e)
        (ap (λ v. stored_read f form v selection) here
        ∙ stored_selects f form encoded r value chunk selection mappings positive taken (chain_chunk_only f form.chain mappings form.sizes form.type form.fill value chunk positive stands))
        exact;
    unstored = λ here.
        subst (λ e. AnswersBy memory_or_fault (Holds form.type) result e)
        (ap (λ v. stored_read f form v selection) here ∙ unstored_read f form encoded r selection mappings.mappings positive taken)
        exact;
    exact = exact;
    indexer_first = first;
    sure = sure;
  }

  -- the indexer is rejected
  pub out_of_bounds_read : (error : CodecError) → Err error ≡ bounds_of selection form.sizes → ReadsStoredChunk f form before selection (Err error)
  out_of_bounds_read error e =
      reads_stored (Err error) (λ unexcused. rw (sym e) refl) (rw (sym e) (λ unexcused. refl)) (rw (sym e) tt)

  module _ (asks : asks_index form.chain.bytes_to_bytes form.chain.array_to_bytes ≡ true) (counted : product form.sizes < 2 ^ 64) (inside : Ok tt ≡ bounds_of selection form.sizes) where
    abbrev h : IsReadable f form.chain form.sizes form.type form.fill encoded r
    h = is_readable f form.chain form.sizes form.type form.fill encoded r mappings.mappings positive taken

    abbrev places : List ℕ
    places = map h.map_is.to (map (row_major form.sizes) (tuples_of selection))

    at : encoded_places form.type form.chain.array_to_array form.sizes selection ≡ Ok places
    at = rw (sym inside, small_counted (product form.sizes) counted, h.mapped) refl

    bare_stored : (outer : List B) → asks_index outer form.chain.array_to_bytes ≡ true → (stored : Option (List ℕ))
        → (outer_stored f outer r stored >>= λ below. codec_read f form.chain.array_to_bytes encoded form.type form.fill below places) ≡ codec_read f form.chain.array_to_bytes encoded form.type form.fill stored places
    bare_stored [] a None = refl
    bare_stored [] a (Some value) = refl
    bare_stored (first ∷ rest) a stored = absurd cc

    read_is : stored_read f form before.value selection ≡ codec_read f form.chain.array_to_bytes encoded form.type form.fill before.value places
    read_is = rw (at, taken) (bare_stored form.chain.bytes_to_bytes asks before.value)

    -- the index is rejected, or the handle fails
    pub index_refused_read : (error : CodecError) → (memory_or_fault error ≡ false → codec_index f form.chain.array_to_bytes encoded before.value ≡ Err error)
        → (are_given_sure before.sure (index_rests_on f form.chain.array_to_bytes encoded before.value) ≡ true → is_fault {T = Held} (Err error) ≡ false) → ReadsStoredChunk f form before selection (Err error)
    index_refused_read error answer sure =
        reads_stored (Err error)
        (λ unexcused. read_is ∙ shard_refused f form.chain.array_to_bytes encoded form.type form.fill before.value places error ((asks_bare form.chain.bytes_to_bytes form.chain.array_to_bytes asks).1) (answer unexcused))
        (rw (sym inside) tt)
        (where_sure false f form before selection _ encoded r places at taken
        (λ parts. given_all (codec_rests_on f form.chain.array_to_bytes encoded form.type form.fill before.value places)
        (λ all. sure (index_is_sure f form.chain.array_to_bytes encoded form.type form.fill before.value places before.sure all))))
      where
        given_all : {P : Type 0} (rests : Result (List ℕ) CodecError) → (are_given_sure before.sure rests ≡ true → P) → IfOk rests (λ numbers. are_sure before.sure numbers ≡ true → P)
        given_all (Ok numbers) g = g
        given_all (Err x) g = tt

    -- what reading the index answers
    pub index_refused_by : (result : Result (Option ShardIndex) CodecError) → Answers memory_or_fault (option_map index_seen) result (codec_index f form.chain.array_to_bytes encoded before.value)
        → (are_given_sure before.sure (index_rests_on f form.chain.array_to_bytes encoded before.value) ≡ true → is_fault result ≡ false) → IfErr result (λ error. ReadsStoredChunk f form before selection (Err error))
    index_refused_by (Ok index) answer sure = tt
    index_refused_by (Err error) answer sure = index_refused_read error answer sure
