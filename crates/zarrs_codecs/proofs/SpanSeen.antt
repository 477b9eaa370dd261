-- A value in a span of another, and the index of a shard there.
use Rattle.std.proofs.Common.{◌≡◌, ℕ, ◌+◌, ◌-◌, ◌≤◌, nat_le, if◌then◌else◌, Bool, true, false, Option, Some, None, List, [], ◌∷◌, ◌++◌, length, drop, Result, Ok, Err, arith, refl, ap, sym, subst, ◌∙◌}
use Rattle.std.specs.List.{list_all, range_with_len}
use Rattle.std.specs.Option.{option_map}
use Rattle.std.specs.Prelude.{Vec}
use Rattle.std.specs.declared.alloc.Global.{Global}
use Rattle.std.proofs.lemmas.List.{take_all, length-drop}
use Rattle.zarrs_bytes.proofs.Coding.{bind_ok, demand_ok, ok}
use Rattle.zarrs_chain.specs.ChainView.{plain_chain}
use Rattle.zarrs_chain.specs.declared.codec_chain.CodecChain.{CodecChain}
use Rattle.zarrs_chain.specs.sharding.ShardingCalls.{index_size_of}
use Rattle.zarrs_chain_meaning.proofs.ArraySteps.{ok_is}
use Rattle.zarrs_chain_meaning.specs.CodecMeaning.{chain_chunk}
use Rattle.zarrs_chain_meaning.specs.sharding.InnerChunks.{grid}
use Rattle.zarrs_codecs.proofs.ShardReads.{spans_by}
use Rattle.zarrs_chain_meaning.specs.sharding.Sharding.{Span, index_part_of, index_shape, spanned_bytes, spans_of}
use Rattle.zarrs_chain_meaning.specs.vlen.Vlen.{offset_type, offset_bytes, offsets_in_chunk}
use Rattle.zarrs_chunk.proofs.Inside.{from_le_test}
use Rattle.zarrs_chunk.specs.Answer.{◌>>=◌, Answers, demand, memory, memory_or_fault, seen}
use Rattle.zarrs_chunk.specs.declared.codec_error.CodecError.{CodecError}
use Rattle.zarrs_chunk.specs.declared.codec_error.CodecError.TheVariants.{InvalidBytesLength, InvalidByteRange}
use Rattle.zarrs_codec.specs.BytesToBytesCodec.{BytesCodecs}
use Rattle.zarrs_codec.specs.StorageState.{StorageState, are_sure, value_indices, value_is_sure}
use Rattle.zarrs_codecs.proofs.PlaceWrites.{memory_too}
use Rattle.zarrs_codecs.specs.ShardRead.{index_bytes_at}
use Rattle.zarrs_codecs.specs.SpanReads.{StandsIn, held_state, index_span, inner_span, seen_state, span_held, span_parts, stored_index_bytes, stored_spans}
use Rattle.zarrs_codecs.specs.declared.sharding.value_span.ValueSpan.{ValueSpan}
use Rattle.zarrs_lent_handles.proofs.SpanLemmas.{moved_numbers, span_inside, span_of_span, spanned_long}
use Rattle.zarrs_lent_handles.specs.SpanHandle.{is_span_of, span_state, spanned}

-- ---- spans

abbrev parts_state : Option (List ℕ) × ℕ × ℕ → StorageState → StorageState
parts_state parts state = span_state parts.1 parts.2 (held_state parts.0 state)

abbrev parts_stand : Option (List ℕ) × ℕ × ℕ → StorageState → Bool
parts_stand parts state = is_span_of parts.1 parts.2 (held_state parts.0 state).value

-- the value that stands in a span
pub record HasValue (state : StorageState) (len : ℕ) : Type 0 where
  pub value : List ℕ
  pub is : state.value ≡ Some value
  pub long : length value ≡ len

value_of : (at len : ℕ) (state : StorageState) (stored : Option (List ℕ)) → state.value ≡ stored → is_span_of at len stored ≡ true → HasValue (span_state at len state) len
value_of at len state None e s = absurd cc
value_of at len state (Some whole) e s = record {
  value = spanned at len whole;
  is = ap (option_map (spanned at len)) e;
  long = spanned_long at len whole (from_le_test (at + len) (length whole) s);
}

pub stands_value : (span : ValueSpan) (state : StorageState) → StandsIn span state → HasValue (seen_state span state) span.len
stands_value span state s = value_of span.at span.len (held_state (span_held span) state) (held_state (span_held span) state).value refl s

-- a span of a span
pub record IsInside (span inside : ValueSpan) (offset len : ℕ) (state : StorageState) : Type 0 where
  pub fits : nat_le (offset + len) span.len ≡ true
  pub seen_is : seen_state inside state ≡ span_state offset len (seen_state span state)
  pub stands : StandsIn inside state

pub inside_seen : (span inside : ValueSpan) (offset len : ℕ) (state : StorageState) → StandsIn span state → ok (span_parts inside) ≡ inner_span span offset len → IsInside span inside offset len state
inside_seen span inside offset len state s e =
    let a = bind_ok (demand (nat_le (offset + len) span.len) InvalidByteRange) _ (span_parts inside) (sym e) in
    let fits = demand_ok (nat_le (offset + len) span.len) InvalidByteRange a.0 a.1 in
    let parts : (span_held span, span.at + offset, len) ≡ span_parts inside = ok_is (span_held span, span.at + offset, len) (span_parts inside) a.2 in
    let l = from_le_test (offset + len) span.len fits in
    record {
      fits = fits;
      seen_is = ap (λ (p : Option (List ℕ) × ℕ × ℕ). parts_state p state) (sym parts) ∙ span_of_span span.at span.len offset len (held_state (span_held span) state) l;
      stands = ap (λ (p : Option (List ℕ) × ℕ × ℕ). parts_stand p state) (sym parts) ∙ span_inside span.at span.len offset len (held_state (span_held span) state).value s l;
    }

-- the bytes of a span of a value
pub span_value : (state : StorageState) (value : List ℕ) (offset len : ℕ) → state.value ≡ Some value → (span_state offset len state).value ≡ Some (spanned_bytes value (offset, len))
span_value state value offset len e = ap (option_map (spanned offset len)) e

-- all bytes of a span are sure where those are in whose place they stand
pub span_is_sure : (state : StorageState) (value : List ℕ) (offset len : ℕ) → state.value ≡ Some value → offset + len ≤ length value → are_sure state.sure (range_with_len offset len) ≡ true → value_is_sure (span_state offset len state) ≡ true
span_is_sure state value offset len e l h =
    ap (λ (v : Option (List ℕ)). are_sure (option_map (λ sure number. sure (offset + number)) state.sure) (value_indices v)) (span_value state value offset len e)
    ∙ ap (λ (n : ℕ). are_sure (option_map (λ sure number. sure (offset + number)) state.sure) (range_with_len 0 n)) (spanned_long offset len value l)
    ∙ moved state.sure ∙ h
  where
    moved : (sure : Option (ℕ → Bool)) → are_sure (option_map (λ sure number. sure (offset + number)) sure) (range_with_len 0 len) ≡ are_sure sure (range_with_len offset len)
    moved None = refl
    moved (Some p) = moved_numbers p offset 0 len ∙ (let z : offset + 0 ≡ offset = omega arith in ap (λ (n : ℕ). list_all p (range_with_len n len)) z)

-- ---- the index

-- where it begins
abbrev pub index_offset : ℕ → ℕ → Bool → ℕ
index_offset len size at_end = if at_end then len - size else 0

-- the span of the index
pub record IsIndexSpan (span place : ValueSpan) (size : ℕ) (at_end : Bool) (state : StorageState) : Type 0 where
  pub long : nat_le size span.len ≡ true
  pub inside : IsInside span place (index_offset span.len size at_end) size state

pub index_seen : (span place : ValueSpan) (size : ℕ) (at_end : Bool) (state : StorageState) → StandsIn span state → ok (span_parts place) ≡ index_span span size at_end → IsIndexSpan span place size at_end state
index_seen span place size at_end state s e =
    let a = bind_ok (demand (nat_le size span.len) (InvalidBytesLength span.len size)) _ (span_parts place) (sym e) in
    record {
      long = demand_ok (nat_le size span.len) (InvalidBytesLength span.len size) a.0 a.1;
      inside = inside_seen span place (index_offset span.len size at_end) size state s (sym a.2);
    }

-- its bytes
pub index_bytes_are : (value : List ℕ) (size : ℕ) (at_end : Bool) → nat_le size (length value) ≡ true → spanned (index_offset (length value) size at_end) size value ≡ index_part_of at_end size value
index_bytes_are value size false l = refl
index_bytes_are value size true l =
    take_all size (drop (length value - size) value) (let h = from_le_test size (length value) l in omega (arith, length-drop (length value - size) value, h))

index_numbers_are : (value : List ℕ) (size : ℕ) (at_end : Bool) → range_with_len (index_offset (length value) size at_end) size ≡ index_bytes_at at_end size value
index_numbers_are value size false = refl
index_numbers_are value size true = refl

module _ {B : Type 0} (f : BytesCodecs B) (index : CodecChain B) (shape sizes : List ℕ) (at_end : Bool) (span : ValueSpan) (state : StorageState) (stands : StandsIn span state) (size : ℕ) (sized : index_size_of f index (grid shape sizes) ≡ Ok size) where
  abbrev before : StorageState
  before = seen_state span state

  abbrev wanted : Result (List Span) CodecError
  wanted = stored_spans f (plain_chain index) shape at_end sizes before.value

  there : HasValue before span.len
  there = stands_value span state stands

  by_size : wanted ≡ spans_by shape at_end (chain_chunk f (plain_chain index)) sizes there.value size
  by_size =
      ap (stored_spans f (plain_chain index) shape at_end sizes) there.is
      ∙ ap (λ (r : Result ℕ CodecError). r >>= spans_by shape at_end (chain_chunk f (plain_chain index)) sizes there.value) sized

  module _ (place : ValueSpan) (at : ok (span_parts place) ≡ index_span span size at_end) where
    found : IsIndexSpan span place size at_end state
    found = index_seen span place size at_end state stands at

    long : nat_le size (length there.value) ≡ true
    long = ap (nat_le size) there.long ∙ found.long

    -- its bytes are those of the index
    part_is : (seen_state place state).value ≡ Some (index_part_of at_end size there.value)
    part_is =
        ap (λ (s : StorageState). s.value) found.inside.seen_is
        ∙ span_value before there.value (index_offset span.len size at_end) size there.is
        ∙ ap (λ (n : ℕ). Some (spanned (index_offset n size at_end) size there.value)) (sym there.long)
        ∙ ap (λ (bytes : List ℕ). Some bytes) (index_bytes_are there.value size at_end long)

    -- and are sure where those are
    pub part_sure : are_sure before.sure (stored_index_bytes at_end size before.value) ≡ true → value_is_sure (seen_state place state) ≡ true
    part_sure h =
        let all : are_sure before.sure (range_with_len (index_offset span.len size at_end) size) ≡ true =
        ap (λ (n : ℕ). are_sure before.sure (range_with_len (index_offset n size at_end) size)) (sym there.long)
        ∙ ap (are_sure before.sure) (index_numbers_are there.value size at_end)
        ∙ ap (λ (v : Option (List ℕ)). are_sure before.sure (stored_index_bytes at_end size v)) (sym there.is) ∙ h in
        let fits = from_le_test (index_offset span.len size at_end + size) span.len found.inside.fits in
        ap (λ (s : StorageState). value_is_sure s) found.inside.seen_is
        ∙ span_is_sure before there.value (index_offset span.len size at_end) size there.is (omega (arith, fits, there.long)) all

    -- the numbers that the index chain reads
    pub numbers_answered : (part : List ℕ) (counts : List ℕ) (result : Result (Vec ℕ Global) CodecError) → Some part ≡ (seen_state place state).value → counts ≡ grid shape sizes
        → Answers memory (λ v. v.items) result (seen (offsets_in_chunk true) (chain_chunk f (plain_chain index) (counts ++ 2 ∷ []) (offset_type true) (offset_bytes true 0) part))
        → Answers memory_or_fault (λ v. spans_of v.items) result wanted
    numbers_answered part counts result p c answer =
        let bytes : part ≡ index_part_of at_end size there.value = some_is part (index_part_of at_end size there.value) (p ∙ part_is) in
        subst (Answers memory_or_fault (λ v. spans_of v.items) result) (sym read_by_part)
        (spans_answered result _ (subst (λ (r : Result (List ℕ) CodecError). Answers memory (λ v. v.items) result r) ((λ i. seen (offsets_in_chunk true) (chain_chunk f (plain_chain index) (c i ++ 2 ∷ []) (offset_type true) (offset_bytes true 0) (bytes i)))) answer))
      where
        some_is : (x y : List ℕ) → Some x ≡ Some y → x ≡ y
        some_is x y e = cc

        read_by_part : wanted ≡ (seen (offsets_in_chunk true) (chain_chunk f (plain_chain index) (index_shape shape sizes) (offset_type true) (offset_bytes true 0) (index_part_of at_end size there.value)) >>= λ numbers. ok (spans_of numbers))
        read_by_part =
            by_size
            ∙ ap (λ (b : Bool). demand b (InvalidBytesLength (length there.value) size) >>= λ _. chain_chunk f (plain_chain index) (index_shape shape sizes) (offset_type true) (offset_bytes true 0) (index_part_of at_end size there.value) >>= λ rows. ok (spans_of (offsets_in_chunk true rows))) long
            ∙ by_rows (chain_chunk f (plain_chain index) (index_shape shape sizes) (offset_type true) (offset_bytes true 0) (index_part_of at_end size there.value))
          where
            by_rows : (r : _) → (r >>= λ rows. ok (spans_of (offsets_in_chunk true rows))) ≡ (seen (offsets_in_chunk true) r >>= λ numbers. ok (spans_of numbers))
            by_rows (Ok rows) = refl
            by_rows (Err e) = refl

        spans_answered : (result : Result (Vec ℕ Global) CodecError) (r : Result (List ℕ) CodecError) → Answers memory (λ v. v.items) result r → Answers memory_or_fault (λ v. spans_of v.items) result (r >>= λ numbers. ok (spans_of numbers))
        spans_answered (Ok v) r e = ap (λ (x : Result (List ℕ) CodecError). x >>= λ numbers. ok (spans_of numbers)) e
        spans_answered (Err error) r e = λ unexcused. ap (λ (x : Result (List ℕ) CodecError). x >>= λ numbers. ok (spans_of numbers)) (e (memory_too error unexcused))
