-- What is decoded: the container of the parts that are read holds the chunk that the value stands for.
use Rattle.std.proofs.Common.{◌≡◌, ℕ, ◌<◌, ◌≤◌, ◌^◌, nat_eq, nat_le, Bool, true, false, List, length, take, drop, Result, Ok, Err, IfOk, arith, refl, ap, sym, subst, ◌∙◌}
use Rattle.std.proofs.lemmas.Bool.{eq-eqb}
use Rattle.std.proofs.lemmas.Bool.Decides.{nat_tests}
use Rattle.zarrs_chunk.proofs.Inside.{le_test}
use Rattle.zarrs_chunk.specs.Answer.{◌>>=◌, demand, seen, AnswersBy, memory, is_fault}
use Rattle.zarrs_chunk.specs.ChunkShape.{product}
use Rattle.zarrs_chunk.specs.declared.codec_error.CodecError.{CodecError}
use Rattle.zarrs_chunk.specs.declared.codec_error.CodecError.TheVariants.{ElementCount, InvalidOffsets}
use Rattle.zarrs_data_type.specs.Element.{Chunk}
use Rattle.zarrs_data_type.specs.ElementType.{ElementType}
use Rattle.zarrs_data_type.specs.Form.{Form}
use Rattle.zarrs_array_bytes.specs.Held.{Raw, Held, vlen}
use Rattle.zarrs_array_bytes.specs.Offsets.{is_offsets, last_of, offsets_of}
use Rattle.zarrs_array_bytes.specs.Pieces.{bytes_with_offsets}
use Rattle.zarrs_array_bytes.specs.Tight.{flush_with_offsets, without_front}
use Rattle.zarrs_array_bytes.specs.Validity.{Holds}
use Rattle.zarrs_array_bytes.proofs.FlushLemmas.{HoldsSame}
use Rattle.zarrs_bytes.specs.ByteOrder.{bytes_of}
use Rattle.zarrs_bytes.proofs.Coding.{ok}
use Rattle.zarrs_codec.specs.declared.bytes_representation.BytesRepresentation.{BytesRepresentation}
use Rattle.zarrs_vlen_v2.specs.VlenV2Codec.{vlen_v2_represented, u32_of, elements_in, elements_of_value, vlen_v2_chunk}
use Rattle.zarrs_vlen_v2.specs.declared.vlen_v2_codec.VlenV2Codec.{VlenV2Codec}
use Rattle.zarrs_vlen_v2.proofs.CodecLaws.{accepted, decoded}
use Rattle.zarrs_vlen_v2.proofs.Holding.{holds_parts}
use Rattle.zarrs_codec.specs.CountLaws.{same_value}

-- ---- what a value is read as, by its row

-- the number in front is another one
pub other_count : (codec : VlenV2Codec) (form : Form) (r : BytesRepresentation) (items : List ℕ) (found count : ℕ) → vlen_v2_represented codec form ≡ Ok r → 4 ≤ length items → found ≡ u32_of (take 4 items) → count ≡ product form.sizes → (found ≡ count → ⊥)
    → vlen_v2_chunk codec form items ≡ Err ElementCount
other_count codec form r items found count t enough spelt is ne =
    let a : nat_le 4 (length items) ≡ true = le_test 4 (length items) enough in
    let b : nat_eq (u32_of (take 4 items)) (product form.sizes) ≡ false = grind (arith, nat_tests, spelt, is, ne) in
    ap (λ x. x >>= (λ _. elements_of_value (product form.sizes) items)) t ∙ by_tests a b
  where
    by_tests : nat_le 4 (length items) ≡ true → nat_eq (u32_of (take 4 items)) (product form.sizes) ≡ false → elements_of_value (product form.sizes) items ≡ Err ElementCount
    by_tests a b = rw (a, b) refl

-- the row of a value with the right number of elements says what is read of it
read_by_row : (codec : VlenV2Codec) (form : Form) (r : BytesRepresentation) (items : List ℕ) (count : ℕ) (chunk : Result Chunk CodecError) → vlen_v2_represented codec form ≡ Ok r → 4 ≤ length items → u32_of (take 4 items) ≡ count → count ≡ product form.sizes
    → elements_in count (length items) 4 (drop 4 items) ≡ chunk → vlen_v2_chunk codec form items ≡ chunk
read_by_row codec form r items count chunk t enough spelt is e =
    let a : nat_le 4 (length items) ≡ true = le_test 4 (length items) enough in
    let b : nat_eq (u32_of (take 4 items)) count ≡ true = eq-eqb (u32_of (take 4 items)) count spelt in
    ap (λ x. x >>= (λ _. elements_of_value (product form.sizes) items)) t ∙ ap (λ n. elements_of_value n items) (sym is) ∙ by_tests a b e
  where
    by_tests : nat_le 4 (length items) ≡ true → nat_eq (u32_of (take 4 items)) count ≡ true → elements_in count (length items) 4 (drop 4 items) ≡ chunk → elements_of_value count items ≡ chunk
    by_tests a b e = rw (a, b) e

refusal_of : (r : Result Chunk CodecError) (err : CodecError) → seen (bytes_with_offsets bytes_of) r ≡ Err err → r ≡ Err err
refusal_of (Ok chunk) err e = absurd cc
refusal_of (Err x) err e = let is : x ≡ err = cc in λ i. Err (is i)

-- the row is an error
pub not_decoded : (codec : VlenV2Codec) (form : Form) (r : BytesRepresentation) (items : List ℕ) (count : ℕ) (err : CodecError) → vlen_v2_represented codec form ≡ Ok r → 4 ≤ length items → u32_of (take 4 items) ≡ count → count ≡ product form.sizes
    → seen (bytes_with_offsets bytes_of) (elements_in count (length items) 4 (drop 4 items)) ≡ Err err → vlen_v2_chunk codec form items ≡ Err err
not_decoded codec form r items count err t enough spelt is e =
    read_by_row codec form r items count (Err err) t enough spelt is (refusal_of (elements_in count (length items) 4 (drop 4 items)) err e)

-- ---- the container of the parts

parts_of : (r : Result Chunk CodecError) (parts : List ℕ × List ℕ) → seen (bytes_with_offsets bytes_of) r ≡ Ok parts → (chunk : Chunk) × (r ≡ Ok chunk) × (bytes_with_offsets bytes_of chunk ≡ parts)
parts_of (Ok chunk) parts e = (chunk, refl, same_value (bytes_with_offsets bytes_of chunk) parts e)
parts_of (Err err) parts e = absurd cc

-- offsets that are taken are the numbers that were given
pub offsets_same : (numbers offsets : List ℕ) → Ok offsets ≡ offsets_of numbers → offsets ≡ numbers
offsets_same numbers offsets e = by_test (is_offsets numbers) e
  where
    by_test : (test : Bool) → ok offsets ≡ (demand test InvalidOffsets >>= (λ _. Ok numbers)) → offsets ≡ numbers
    by_test true h = same_value offsets numbers h
    by_test false h = absurd cc

-- it is made where its last offset is the number of its bytes
not_flush : (test : Bool) (err : CodecError) (held : Held) → test ≡ true → Err err ≡ (demand test InvalidOffsets >>= (λ _. Ok held)) → ⊥
not_flush true err held t e = absurd cc
not_flush false err held t e = absurd cc

pub is_made : (raw : Raw) (offsets : List ℕ) (result : Result Held CodecError) → result ≡ flush_with_offsets raw offsets → last_of offsets ≡ length raw.items → is_fault result ≡ false
is_made raw offsets (Ok held) is ending = refl
is_made raw offsets (Err err) is ending = absurd (not_flush (nat_eq (last_of offsets) (length raw.items)) err (without_front raw offsets) (eq-eqb (last_of offsets) (length raw.items) ending) is)

made_holds : (type : ElementType) (chunk : Chunk) (raw : Raw) (offsets : List ℕ) (result : Result Held CodecError) → result ≡ flush_with_offsets raw offsets → last_of offsets ≡ length raw.items → IfOk result (HoldsSame (vlen raw offsets)) → Holds type (vlen raw offsets) chunk
    → AnswersBy memory (Holds type) result (Ok chunk)
made_holds type chunk raw offsets (Ok held) is ending same holds = same type chunk holds
made_holds type chunk raw offsets (Err err) is ending same holds = absurd (not_flush (nat_eq (last_of offsets) (length raw.items)) err (without_front raw offsets) (eq-eqb (last_of offsets) (length raw.items) ending) is)

-- the container of the parts holds the chunk
pub parts_hold : (codec : VlenV2Codec) (form : Form) (r : BytesRepresentation) (items : List ℕ) (count : ℕ) (raw : Raw) (offsets : List ℕ) (result : Result Held CodecError) → vlen_v2_represented codec form ≡ Ok r → 4 ≤ length items → u32_of (take 4 items) ≡ count → count ≡ product form.sizes
    → seen (bytes_with_offsets bytes_of) (elements_in count (length items) 4 (drop 4 items)) ≡ Ok (raw.items, offsets) → length offsets < 2 ^ 64 → result ≡ flush_with_offsets raw offsets → last_of offsets ≡ length raw.items → IfOk result (HoldsSame (vlen raw offsets))
    → AnswersBy memory (Holds form.type) result (vlen_v2_chunk codec form items)
parts_hold codec form r items count raw offsets result t enough spelt is e small made ending same =
    let p = parts_of (elements_in count (length items) 4 (drop 4 items)) (raw.items, offsets) e in
    let read : vlen_v2_chunk codec form items ≡ Ok p.0 = read_by_row codec form r items count (Ok p.0) t enough spelt is p.1 in
    let d = decoded codec form items p.0 read in
    let holds = holds_parts form.type raw offsets p.0 (accepted codec form r t).variable d.elements.each (sym (ap (λ (x : List ℕ × List ℕ). x.0) p.2)) (sym (ap (λ (x : List ℕ × List ℕ). x.1) p.2)) small in
    subst (AnswersBy memory (Holds form.type) result) (sym read) (made_holds form.type p.0 raw offsets result made ending same holds)
