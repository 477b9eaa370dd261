-- What is read of a shard that stands in a span: by its index and its groups.
use Rattle.std.proofs.Common.{◌≡◌, ℕ, ◌+◌, ◌<◌, nat_le, Bool, true, false, Option, Some, get_or, List, length, map, Result, Ok, Err, arith, refl, ap, sym, subst, ◌∙◌}
use Rattle.std.specs.List.{range_with_len}
use Rattle.std.specs.Prelude.{IfOk, IsOk}
use Rattle.std.proofs.lemmas.List.{ext_get_or}
use Rattle.std.proofs.lemmas.List.FromFn.{get_or-map-range_with_len, length-range_with_len}
use Rattle.zarrs_array_bytes.specs.Elements.{select}
use Rattle.zarrs_array_to_array.proofs.CoordinateMaps.{length-select}
use Rattle.zarrs_bytes.proofs.Coding.{ok}
use Rattle.zarrs_chain.specs.ChainView.{plain_chain}
use Rattle.zarrs_chain.specs.declared.codec_chain.CodecChain.{CodecChain}
use Rattle.zarrs_chain.specs.sharding.ShardingCalls.{index_size_of, shard_represented}
use Rattle.zarrs_chain_meaning.proofs.Answered.{from_ok}
use Rattle.zarrs_chain_meaning.proofs.ShardNormal.{shard_taken}
use Rattle.zarrs_chain_meaning.specs.CodecMeaning.{PlainCodec, PlainChain, sharding_codec_of, meaning, codec_normal_element, codec_representation, chain_representation, chain_chunk}
use Rattle.zarrs_chain_meaning.specs.sharding.InnerChunks.{grid}
use Rattle.zarrs_chain_meaning.specs.sharding.Sharding.{Span, is_stored, spanned_bytes, spans_of}
use Rattle.zarrs_chunk.specs.Answer.{◌>>=◌, demand}
use Rattle.zarrs_chunk.specs.declared.codec_error.CodecError.{CodecError}
use Rattle.zarrs_chunk.specs.declared.codec_error.CodecError.TheVariants.{InvalidByteRange}
use Rattle.zarrs_codec.specs.BytesToBytesCodec.{BytesCodecs}
use Rattle.zarrs_codec.specs.StorageState.{StorageState, are_sure}
use Rattle.zarrs_codec.specs.declared.bytes_representation.BytesRepresentation.{BytesRepresentation}
use Rattle.zarrs_codecs.proofs.GroupedReads.{moved_sure, shard_sure, span_sure}
use Rattle.zarrs_codecs.proofs.SpanSeen.{HasValue, IsInside, inside_seen, span_value, stands_value}
use Rattle.zarrs_codecs.specs.ChunkRead.{are_given_sure}
use Rattle.zarrs_codecs.specs.CodecPart.{codec_read, codec_rests_on, rests_where}
use Rattle.zarrs_codecs.specs.KeptIndex.{IsIndex, codec_spans}
use Rattle.zarrs_codecs.proofs.ShardReads.{spans_rest}
use Rattle.zarrs_codecs.specs.ShardRead.{index_bytes_at, span_read, span_rests, spans_read, shard_rests}
use Rattle.zarrs_codecs.specs.SpanReads.{StandsIn, chain_read, chain_rests, inner_span, seen_state, span_parts, stored_index_bytes, stored_span_read, stored_span_rests, stored_spans}
use Rattle.zarrs_codecs.specs.declared.sharding.value_span.ValueSpan.{ValueSpan}
use Rattle.zarrs_data_type.specs.Element.{absent, Chunk, fill_element}
use Rattle.zarrs_data_type.specs.ElementType.{ElementType}

-- ---- one inner chunk

module _ {B : Type 0} (f : BytesCodecs B) (chain : PlainChain B) (shape : List ℕ) (type : ElementType) (fill : List ℕ) (span : ValueSpan) (state : StorageState) (stands : StandsIn span state) (at : Span) (places : List ℕ) where
  abbrev wanted : Result Chunk CodecError
  wanted = stored_span_read (chain_read f chain) shape type fill (seen_state span state).value at places

  abbrev rests : Result (List ℕ) CodecError
  rests = stored_span_rests (chain_rests f chain) shape type fill (seen_state span state).value at places

  there : HasValue (seen_state span state) span.len
  there = stands_value span state stands

  wanted_is : (stored : Bool) → is_stored at ≡ stored → wanted ≡ span_read stored (chain_read f chain) shape type fill there.value at places
  wanted_is stored e =
      ap (λ (v : Option (List ℕ)). stored_span_read (chain_read f chain) shape type fill v at places) there.is
      ∙ ap (λ (b : Bool). span_read b (chain_read f chain) shape type fill there.value at places) e

  -- where it isn't stored, is filled
  pub filled_is : is_stored at ≡ false → ok (map (λ _. fill_element type fill) places) ≡ wanted
  filled_is e = sym (wanted_is false e)

  module _ (inside : ValueSpan) (e : is_stored at ≡ true) (parts : ok (span_parts inside) ≡ inner_span span at.0 at.1) where
    found : IsInside span inside at.0 at.1 state
    found = inside_seen span inside at.0 at.1 state stands parts

    long : nat_le (at.0 + at.1) (length there.value) ≡ true
    long = ap (nat_le (at.0 + at.1)) there.long ∙ found.fits

    bytes_are : (seen_state inside state).value ≡ Some (spanned_bytes there.value at)
    bytes_are = ap (λ (s : StorageState). s.value) found.seen_is ∙ span_value (seen_state span state) there.value at.0 at.1 there.is

    -- is read by its own bytes
    pub inside_is : chain_read f chain shape type fill (seen_state inside state).value places ≡ wanted
    inside_is =
        ap (λ (v : Option (List ℕ)). chain_read f chain shape type fill v places) bytes_are
        ∙ sym (wanted_is true e
        ∙ ap (λ (b : Bool). demand b InvalidByteRange >>= λ _. chain_read f chain shape type fill (Some (spanned_bytes there.value at)) places) long)

    -- which are sure where those are in whose place they stand
    pub inside_sure : are_given_sure (seen_state span state).sure rests ≡ true → are_given_sure (seen_state inside state).sure (chain_rests f chain shape type fill (seen_state inside state).value places) ≡ true
    inside_sure h =
        let here : are_given_sure (seen_state span state).sure (span_rests true (chain_rests f chain) shape type fill there.value at places) ≡ true =
        ap (λ (b : Bool). are_given_sure (seen_state span state).sure (span_rests b (chain_rests f chain) shape type fill there.value at places)) (sym e)
        ∙ ap (λ (v : Option (List ℕ)). are_given_sure (seen_state span state).sure (stored_span_rests (chain_rests f chain) shape type fill v at places)) (sym there.is)
        ∙ h in
        ap (λ (s : StorageState). are_given_sure s.sure (chain_rests f chain shape type fill (seen_state inside state).value places)) found.seen_is
        ∙ ap (λ (v : Option (List ℕ)). are_given_sure (moved_sure at.0 (seen_state span state).sure) (chain_rests f chain shape type fill v places)) bytes_are
        ∙ span_sure (chain_rests f chain) shape type fill there.value at places (seen_state span state).sure long here

-- ---- an order

pub in_a_row : (chunk : Chunk) (count : ℕ) → length chunk ≡ count → select chunk (range_with_len 0 count) ≡ chunk
in_a_row chunk count e =
    ext_get_or absent (select chunk (range_with_len 0 count)) chunk (length-select chunk (range_with_len 0 count) ∙ length-range_with_len 0 count ∙ sym e)
    (λ place l.
    let under : place < count = omega (arith, l, length-select chunk (range_with_len 0 count), length-range_with_len 0 count) in
    get_or-map-range_with_len (λ p. get_or chunk p absent) 0 count place place absent under (omega arith))

-- ---- a shard

shard_is : {B : Type 0} (f : BytesCodecs B) (inner index : PlainChain B) (shape : List ℕ) (at_end : Bool) (sizes : List ℕ) (type : ElementType) (fill value places : List ℕ)
    → codec_read f (sharding_codec_of inner index shape at_end) sizes type fill (Some value) places ≡ (stored_spans f index shape at_end sizes (Some value) >>= λ spans. spans_read (chain_read f inner) shape sizes type fill value places spans)
unfolding meaning
shard_is f inner index shape at_end sizes type fill value places = refl

shard_rests_are : {B : Type 0} (f : BytesCodecs B) (inner index : PlainChain B) (shape : List ℕ) (at_end : Bool) (sizes : List ℕ) (type : ElementType) (fill value places : List ℕ)
    → codec_rests_on f (sharding_codec_of inner index shape at_end) sizes type fill (Some value) places ≡ shard_rests shape at_end (chain_representation f index) (chain_chunk f index) (chain_rests f inner) sizes type fill (Some value) places
unfolding meaning
shard_rests_are f inner index shape at_end sizes type fill value places = refl

-- where its inner chunks stand, and what is read of them
pub spans_are : {B : Type 0} (f : BytesCodecs B) (inner index : PlainChain B) (shape : List ℕ) (at_end : Bool) (sizes value : List ℕ)
    → codec_spans f (sharding_codec_of inner index shape at_end) sizes value ≡ stored_spans f index shape at_end sizes (Some value)
unfolding meaning
spans_are f inner index shape at_end sizes value = refl

pub behind_are : {B : Type 0} (f : BytesCodecs B) (inner index : PlainChain B) (shape : List ℕ) (at_end : Bool) (sizes : List ℕ) (type : ElementType) (fill value places : List ℕ)
    → rests_where true f (sharding_codec_of inner index shape at_end) sizes type fill (Some value) places ≡ spans_rest (chain_rests f inner) shape sizes type fill value places (stored_spans f index shape at_end sizes (Some value))
unfolding meaning
behind_are f inner index shape at_end sizes type fill value places = refl

-- by numbers that are its index
pub spans_known : {B : Type 0} (f : BytesCodecs B) (codec : PlainCodec B) (inner index : PlainChain B) (shape : List ℕ) (at_end : Bool) (sizes : List ℕ) (stored : Option (List ℕ)) (value numbers : List ℕ)
    → codec ≡ sharding_codec_of inner index shape at_end → stored ≡ Some value → IsIndex f codec sizes stored numbers → stored_spans f index shape at_end sizes stored ≡ Ok (spans_of numbers)
spans_known f codec inner index shape at_end sizes stored value numbers is there h =
    ap (stored_spans f index shape at_end sizes) there
    ∙ sym (spans_are f inner index shape at_end sizes value)
    ∙ ap (λ (c : PlainCodec _). codec_spans f c sizes value) (sym is)
    ∙ subst (λ (s : Option (List ℕ)). IsIndex f codec sizes s numbers) there h

-- and numbers that are read are its index
pub index_known : {B : Type 0} (f : BytesCodecs B) (codec : PlainCodec B) (inner index : PlainChain B) (shape : List ℕ) (at_end : Bool) (sizes : List ℕ) (stored : Option (List ℕ)) (value numbers : List ℕ)
    → codec ≡ sharding_codec_of inner index shape at_end → stored ≡ Some value → stored_spans f index shape at_end sizes stored ≡ Ok (spans_of numbers) → IsIndex f codec sizes stored numbers
index_known f codec inner index shape at_end sizes stored value numbers is there h =
    subst (λ (s : Option (List ℕ)). IsIndex f codec sizes s numbers) (sym there)
    (ap (λ (c : PlainCodec _). codec_spans f c sizes value) is
    ∙ spans_are f inner index shape at_end sizes value
    ∙ ap (stored_spans f index shape at_end sizes) (sym there)
    ∙ h)

-- of a chunk that is taken
shard_form_is : {B : Type 0} (f : BytesCodecs B) (inner index : CodecChain B) (shape : List ℕ) (at_end : Bool) (sizes : List ℕ) (type : ElementType) (fill : List ℕ)
    → codec_representation f (sharding_codec_of (plain_chain inner) (plain_chain index) shape at_end) sizes type fill ≡ shard_represented f inner index shape sizes type fill
unfolding meaning
shard_form_is f inner index shape at_end sizes type fill = refl

pub shard_takes : {B : Type 0} (f : BytesCodecs B) (codec : PlainCodec B) (inner index : CodecChain B) (shape : List ℕ) (at_end : Bool) (sizes : List ℕ) (type : ElementType) (fill : List ℕ)
    → codec ≡ sharding_codec_of (plain_chain inner) (plain_chain index) shape at_end → IsOk (codec_representation f codec sizes type fill) → IsOk (shard_represented f inner index shape sizes type fill)
shard_takes f codec inner index shape at_end sizes type fill e h =
    subst (λ (r : Result BytesRepresentation CodecError). IsOk r) (ap (λ c. codec_representation f c sizes type fill) e ∙ shard_form_is f inner index shape at_end sizes type fill) h

-- The chunk is divided into inner chunks, which the inner chain takes, and the index chain fixes the size of the index.
pub record IsShard {B : Type 0} (f : BytesCodecs B) (inner index : CodecChain B) (shape sizes : List ℕ) (type : ElementType) (fill : List ℕ) : Type 0 where
  pub size : ℕ
  pub sized : index_size_of f index (grid shape sizes) ≡ Ok size
  pub inner_size : BytesRepresentation
  pub inner_is : chain_representation f (plain_chain inner) shape type fill ≡ Ok inner_size

pub is_shard : {B : Type 0} (f : BytesCodecs B) (inner index : CodecChain B) (shape sizes : List ℕ) (type : ElementType) (fill : List ℕ) → IsOk (shard_represented f inner index shape sizes type fill) → IsShard f inner index shape sizes type fill
is_shard f inner index shape sizes type fill h =
    let known = from_ok (shard_represented f inner index shape sizes type fill) h in
    let t = shard_taken shape (codec_normal_element (plain_chain inner).array_to_bytes) (chain_representation f (plain_chain inner)) (chain_representation f (plain_chain index)) sizes type fill known.0 known.1 in
    record { size = t.size; sized = t.sized; inner_size = t.inner_size; inner_is = t.inner_is }

-- The codec has these parts and takes such a chunk, and something is stored.
pub record StoredShard {B : Type 0} (f : BytesCodecs B) (codec : PlainCodec B) (inner index : CodecChain B) (shape : List ℕ) (at_end : Bool) (sizes : List ℕ) (type : ElementType) (fill : List ℕ) (state : StorageState) : Type 0 where
  pub is : codec ≡ sharding_codec_of (plain_chain inner) (plain_chain index) shape at_end
  pub taken : IsOk (shard_represented f inner index shape sizes type fill)
  pub value : List ℕ
  pub value_is : state.value ≡ Some value

module _ {B : Type 0} {f : BytesCodecs B} {codec : PlainCodec B} {inner index : CodecChain B} {shape : List ℕ} {at_end : Bool} {sizes : List ℕ} {type : ElementType} {fill : List ℕ} {state : StorageState} (shard : StoredShard f codec inner index shape at_end sizes type fill state) (places : List ℕ) where
  abbrev pub known : IsShard f inner index shape sizes type fill
  known = is_shard f inner index shape sizes type fill shard.taken

  abbrev pub all_read : Result Chunk CodecError
  all_read = codec_read f codec sizes type fill state.value places

  abbrev spans_found : Result (List Span) CodecError
  spans_found = stored_spans f (plain_chain index) shape at_end sizes state.value

  pub by_spans : all_read ≡ (spans_found >>= λ spans. spans_read (chain_read f (plain_chain inner)) shape sizes type fill shard.value places spans)
  by_spans =
      (λ i. codec_read f (shard.is i) sizes type fill (shard.value_is i) places)
      ∙ shard_is f (plain_chain inner) (plain_chain index) shape at_end sizes type fill shard.value places
      ∙ ap (λ (v : Option (List ℕ)). stored_spans f (plain_chain index) shape at_end sizes v >>= λ spans. spans_read (chain_read f (plain_chain inner)) shape sizes type fill shard.value places spans) (sym shard.value_is)

  module _ (sure : are_given_sure state.sure (codec_rests_on f codec sizes type fill state.value places) ≡ true) where
    given : (r : Result (List ℕ) CodecError) → are_given_sure state.sure r ≡ true → (numbers : List ℕ) × (r ≡ Ok numbers) × (are_sure state.sure numbers ≡ true)
    given (Ok numbers) h = (numbers, refl, h)
    given (Err error) h = absurd cc

    index_sure : are_sure state.sure (index_bytes_at at_end known.size shard.value) ≡ true
    index_sure =
        let rests_are : codec_rests_on f codec sizes type fill state.value places ≡ shard_rests shape at_end (chain_representation f (plain_chain index)) (chain_chunk f (plain_chain index)) (chain_rests f (plain_chain inner)) sizes type fill (Some shard.value) places =
        (λ i. codec_rests_on f (shard.is i) sizes type fill (shard.value_is i) places) ∙ shard_rests_are f (plain_chain inner) (plain_chain index) shape at_end sizes type fill shard.value places in
        let g = given (codec_rests_on f codec sizes type fill state.value places) sure in
        shard_sure shape at_end (chain_representation f (plain_chain index)) (chain_chunk f (plain_chain index)) (chain_rests f (plain_chain inner)) sizes type fill shard.value places g.0 state.sure known.size known.sized (sym rests_are ∙ g.1) g.2

    -- what holds where the index's bytes are sure holds where all are that the read rests on
    pub with_index_sure : (P : Type 0) → IfOk (index_size_of f index (grid shape sizes)) (λ size. are_sure state.sure (stored_index_bytes at_end size state.value) ≡ true → P) → P
    with_index_sure P h =
        subst (λ (r : Result ℕ CodecError). IfOk r (λ size. are_sure state.sure (stored_index_bytes at_end size state.value) ≡ true → P)) known.sized h
        (ap (λ (v : Option (List ℕ)). are_sure state.sure (stored_index_bytes at_end known.size v)) shard.value_is ∙ index_sure)
