-- What `vlen-utf8` and `vlen-bytes` keep to.
use Rattle.std.proofs.Common.{◌≡◌, ◌+◌, ℕ, nat_eq, nat_le, true, List, length, take, drop, Ok, arith, refl, ap, sym, subst, ◌∙◌}
use Rattle.std.specs.List.{flat_map, list_all}
use Rattle.std.proofs.lemmas.Bool.{eqb-true, eq-eqb}
use Rattle.std.proofs.lemmas.List.{length-append, length-take-le, take-append-drop, take_at, drop_at}
use Rattle.std.proofs.lemmas.List.FromFn.{length-map-range_with_len}
use Rattle.zarrs_chunk.proofs.Inside.{from_le_test, le_test}
use Rattle.zarrs_chunk.specs.Answer.{◌>>=◌, demand, checked_u64}
use Rattle.zarrs_chunk.specs.ChunkShape.{product}
use Rattle.zarrs_chunk.specs.declared.codec_error.CodecError.TheVariants.{UnsupportedDataType, OffsetTooLarge, InvalidBytesLength, ElementCount}
use Rattle.zarrs_data_type.specs.Element.{Chunk}
use Rattle.zarrs_data_type.specs.ElementType.{ElementType, fixed, text, bytes, optional, is_variable}
use Rattle.zarrs_data_type.specs.Form.{Form}
use Rattle.zarrs_array_bytes.specs.Elements.{element_at, elements}
use Rattle.zarrs_array_bytes.specs.Held.{Held}
use Rattle.zarrs_array_bytes.specs.Validity.{Holds, validity}
use Rattle.zarrs_array_bytes.proofs.ElementLaw.{AreElements-held}
use Rattle.zarrs_codec.proofs.Fences.{second_true, first_true}
use Rattle.zarrs_codec.specs.CountLaws.{same_value}
use Rattle.zarrs_codec.specs.declared.bytes_representation.BytesRepresentation.{BytesRepresentation}
use Rattle.zarrs_codec.specs.declared.bytes_representation.BytesRepresentation.TheVariants.{UnboundedSize}
use Rattle.zarrs_bytes.specs.BytesCodec.{IsChunk}
use Rattle.zarrs_bytes.proofs.Coding.{demand_ok, bind_ok, checked_ok, ok}
use Rattle.zarrs_vlen_v2.specs.Laws.{VlenV2WrittenAlike}
use Rattle.zarrs_vlen_v2.specs.VlenV2Codec.{accepts, error_name, vlen_v2_represented, u32_bytes, u32_of, fits_u32, prefixed_element, is_short, lengths_fit, vlen_v2_layout, prefixed_value, vlen_v2_value, elements_in, elements_of_value, vlen_v2_chunk, IsRow, VlenV2Stands, VlenV2Written}
use Rattle.zarrs_vlen_v2.specs.declared.vlen_v2_codec.VlenV2Codec.{VlenV2Codec}
use Rattle.zarrs_vlen_v2.specs.declared.vlen_v2_codec.VlenV2Codec.TheVariants.{Utf8, Bytes}
use Rattle.zarrs_vlen_v2.proofs.Rows.{front_same, u32_long, u32_again, row_once, row_written, row_only, row_read}

-- ---- which chunks are accepted

accepted_variable : (codec : VlenV2Codec) (type : ElementType) → accepts codec type ≡ true → is_variable type ≡ true
accepted_variable Utf8 (fixed width components sign) h = absurd cc
accepted_variable Utf8 text h = refl
accepted_variable Utf8 bytes h = absurd cc
accepted_variable Utf8 (optional type) h = absurd cc
accepted_variable Bytes (fixed width components sign) h = absurd cc
accepted_variable Bytes text h = absurd cc
accepted_variable Bytes bytes h = refl
accepted_variable Bytes (optional type) h = absurd cc

-- chunks that are accepted: their elements are of any length, 64 bits count them, and so are values
pub record IsAccepted (form : Form) (r : BytesRepresentation) : Type 0 where
  pub variable : is_variable form.type ≡ true
  pub counted : checked_u64 (product form.sizes) ≡ Ok (product form.sizes)
  pub unbounded : UnboundedSize ≡ r

pub accepted : (codec : VlenV2Codec) (form : Form) (r : BytesRepresentation) → vlen_v2_represented codec form ≡ Ok r → IsAccepted form r
accepted codec form r e =
    let a = bind_ok (demand (accepts codec form.type) (UnsupportedDataType (error_name codec))) _ r e in
    let b = bind_ok (checked_u64 (product form.sizes)) _ r a.2 in
    record {
      variable = accepted_variable codec form.type (demand_ok (accepts codec form.type) (UnsupportedDataType (error_name codec)) a.0 a.1);
      counted = b.1 ∙ ap ok (checked_ok (product form.sizes) b.0 b.1).1;
      unbounded = same_value UnboundedSize r b.2;
    }

-- ---- a value stands for one chunk, and for a chunk one is written

pub stands_for_one : (codec : VlenV2Codec) (form : Form) (value : List ℕ) (chunk other : Chunk) → VlenV2Stands codec form value chunk → VlenV2Stands codec form value other → chunk ≡ other
stands_for_one codec form value chunk other a b =
    let parts = front_same a.head a.row b.head b.row (a.head_size ∙ sym b.head_size) (sym a.parts ∙ b.parts) in
    row_once chunk other a.row (a.count_is ∙ sym b.count_is) a.entries (subst (IsRow other) (sym parts.1) b.entries)

pub written_once : (codec : VlenV2Codec) (form : Form) (value other : List ℕ) (chunk : Chunk) → VlenV2Written codec form value chunk → VlenV2Written codec form other chunk → value ≡ other
written_once codec form value other chunk a b = a.spelt ∙ sym b.spelt

pub written_stands : (codec : VlenV2Codec) (form : Form) (value : List ℕ) (chunk : Chunk) → VlenV2Written codec form value chunk → VlenV2Stands codec form value chunk
written_stands codec form value chunk w =
    let count = first_true (fits_u32 (length chunk)) (list_all is_short chunk) w.fit in
    record {
      taken = w.taken;
      head = u32_bytes (length chunk);
      row = flat_map prefixed_element chunk;
      parts = w.spelt;
      head_size = u32_long (length chunk);
      head_is = u32_again (length chunk) count ∙ w.elements.count_is;
      count_is = w.elements.count_is;
      entries = row_written form.type chunk (accepted codec form UnboundedSize w.taken).variable w.elements.each (second_true (fits_u32 (length chunk)) (list_all is_short chunk) w.fit);
    }

pub written_alike : VlenV2WrittenAlike
written_alike codec form value other_value chunk other one two = (
  λ e. stands_for_one codec form value chunk other (written_stands codec form value chunk one) (subst (λ (v : List ℕ). VlenV2Stands codec form v other) (sym e) (written_stands codec form other_value other two)),
  λ e. one.spelt ∙ ap vlen_v2_layout e ∙ sym two.spelt,
)

-- ---- what is decoded is what a value stands for

chunk_step : (count : ℕ) (value row : List ℕ) (chunk : Chunk) → nat_le 4 (length value) ≡ true → nat_eq (u32_of (take 4 value)) count ≡ true → drop 4 value ≡ row
    → elements_in count (length value) 4 row ≡ Ok chunk → elements_of_value count value ≡ Ok chunk
chunk_step count value row chunk a b c d = rw (a, b, c, d) refl

pub decoded_only : (codec : VlenV2Codec) (form : Form) (value : List ℕ) (chunk : Chunk) → VlenV2Stands codec form value chunk → vlen_v2_chunk codec form value ≡ Ok chunk
decoded_only codec form value chunk s =
    let count = product form.sizes in
    let long : length value ≡ 4 + length s.row = ap length s.parts ∙ omega (arith, length-append s.head s.row, s.head_size) in
    let front : take 4 value ≡ s.head = ap (take 4) s.parts ∙ take_at s.head s.row 4 s.head_size in
    let back : drop 4 value ≡ s.row = ap (drop 4) s.parts ∙ drop_at s.head s.row 4 s.head_size in
    ap (λ r. r >>= (λ _. elements_of_value count value)) s.taken
    ∙ chunk_step count value s.row chunk (le_test 4 (length value) (omega (arith, long))) (eq-eqb (u32_of (take 4 value)) count (ap u32_of front ∙ s.head_is)) back
    (subst (λ (n : ℕ). elements_in n (length value) 4 s.row ≡ Ok chunk) s.count_is (row_only chunk (length value) 4 s.row s.entries))

pub decoded_is_written : (codec : VlenV2Codec) (form : Form) (value : List ℕ) (chunk : Chunk) → VlenV2Written codec form value chunk → vlen_v2_chunk codec form value ≡ Ok chunk
decoded_is_written codec form value chunk w = decoded_only codec form value chunk (written_stands codec form value chunk w)

-- a chunk that is decoded: the value stands for it, and its elements are of the type
pub record IsDecoded (codec : VlenV2Codec) (form : Form) (value : List ℕ) (chunk : Chunk) : Type 0 where
  pub stands : VlenV2Stands codec form value chunk
  pub elements : IsChunk form.type (product form.sizes) chunk

pub decoded : (codec : VlenV2Codec) (form : Form) (value : List ℕ) (chunk : Chunk) → vlen_v2_chunk codec form value ≡ Ok chunk → IsDecoded codec form value chunk
decoded codec form value chunk e =
    let count = product form.sizes in
    let t = bind_ok (vlen_v2_represented codec form) _ chunk e in
    let is = accepted codec form t.0 t.1 in
    let a = bind_ok (demand (nat_le 4 (length value)) (InvalidBytesLength (length value) 4)) _ chunk t.2 in
    let b = bind_ok (demand (nat_eq (u32_of (take 4 value)) count) ElementCount) _ chunk a.2 in
    let enough = from_le_test 4 (length value) (demand_ok (nat_le 4 (length value)) (InvalidBytesLength (length value) 4) a.0 a.1) in
    let rest = row_read form.type count (length value) 4 (drop 4 value) chunk is.variable b.2 in
    record {
      stands = record {
        taken = t.1 ∙ ap ok (sym is.unbounded);
        head = take 4 value;
        row = drop 4 value;
        parts = sym (take-append-drop 4 value);
        head_size = length-take-le 4 value enough;
        head_is = eqb-true (u32_of (take 4 value)) count (demand_ok (nat_eq (u32_of (take 4 value)) count) ElementCount b.0 b.1);
        count_is = rest.long;
        entries = rest.entries;
      };
      elements = record { count_is = rest.long; each = rest.each };
    }

-- ---- what is encoded is what is written

pub encoded_only : (codec : VlenV2Codec) (form : Form) (value : List ℕ) (chunk : Chunk) → VlenV2Written codec form value chunk → prefixed_value chunk ≡ Ok value
encoded_only codec form value chunk w = rw (w.fit) (ap ok (sym w.spelt))

pub encoded_found : (codec : VlenV2Codec) (form : Form) (value : List ℕ) (chunk : Chunk) (r : BytesRepresentation) → vlen_v2_represented codec form ≡ Ok r → IsChunk form.type (product form.sizes) chunk → prefixed_value chunk ≡ Ok value → VlenV2Written codec form value chunk
encoded_found codec form value chunk r t is e =
    let a = bind_ok (demand (lengths_fit chunk) OffsetTooLarge) _ value e in
    record {
      taken = t ∙ ap ok (sym (accepted codec form r t).unbounded);
      elements = is;
      fit = demand_ok (lengths_fit chunk) OffsetTooLarge a.0 a.1;
      spelt = sym (same_value (vlen_v2_layout chunk) value a.2);
    }

pub held_written : (codec : VlenV2Codec) (form : Form) (held : Held) (value : List ℕ) → vlen_v2_value codec form held ≡ Ok value → (chunk : Chunk) × Holds form.type held chunk × VlenV2Written codec form value chunk
held_written codec form held value e =
    let count = product form.sizes in
    let chunk = elements form.type count held in
    let t = bind_ok (vlen_v2_represented codec form) _ value e in
    let v = bind_ok (validity form.type count held) _ value t.2 in
    let long : length chunk ≡ count = length-map-range_with_len (element_at form.type held) 0 count in
    let holds : Holds form.type held chunk = record {
      valid = ap (λ n. validity form.type n held) long ∙ v.1;
      elements_are = ap (λ n. elements form.type n held) long;
    } in
    let is : IsChunk form.type count chunk = record {
      count_is = long;
      each = AreElements-held form.type held chunk holds;
    } in
    (chunk, holds, encoded_found codec form value chunk t.0 t.1 is v.2)

pub written_held : (codec : VlenV2Codec) (form : Form) (held : Held) (chunk : Chunk) (value : List ℕ) → Holds form.type held chunk → VlenV2Written codec form value chunk → vlen_v2_value codec form held ≡ Ok value
written_held codec form held chunk value holds w =
    let count = product form.sizes in
    let valid : validity form.type count held ≡ Ok tt = ap (λ n. validity form.type n held) (sym w.elements.count_is) ∙ holds.valid in
    let same : elements form.type count held ≡ chunk = ap (λ n. elements form.type n held) (sym w.elements.count_is) ∙ holds.elements_are in
    ap (λ r. r >>= (λ _. validity form.type count held >>= (λ _. prefixed_value (elements form.type count held)))) w.taken
    ∙ ap (λ r. r >>= (λ _. prefixed_value (elements form.type count held))) valid
    ∙ ap prefixed_value same
    ∙ encoded_only codec form value chunk w
