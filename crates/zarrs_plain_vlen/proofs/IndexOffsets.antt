-- The offsets of an index.
use Rattle.std.proofs.Common.{◌≡◌, ℕ, ◌+◌, ◌-◌, ◌*◌, ◌<◌, ◌≤◌, ◌^◌, ◌==◌, nat_lt, Bool, true, false, if◌then◌else◌, List, [], ◌∷◌, length, map, Result, Ok, Err, Some, arith, refl, ap, sym, subst, ◌∙◌}
use Rattle.std.specs.Prelude.{IsOkAnd}
use Rattle.std.specs.List.{range_with_len}
use Rattle.std.proofs.lemmas.List.FromFn.{length-map-range_with_len}
use Rattle.zarrs_chunk.specs.Answer.{◌>>=◌, Answers, memory, demand, checked_u64}
use Rattle.zarrs_chunk.specs.AnswerLaws.{demand_ok}
use Rattle.zarrs_chunk.specs.ChunkShape.{product}
use Rattle.zarrs_chunk.specs.declared.codec_error.CodecError.{CodecError}
use Rattle.zarrs_chunk.specs.declared.codec_error.CodecError.TheVariants.{InvalidBytesLength, InvalidOffsets, Overflow}
use Rattle.zarrs_data_type.specs.Element.{Chunk}
use Rattle.zarrs_data_type.specs.declared.endianness.Endianness.{Endianness}
use Rattle.zarrs_array_bytes.specs.Held.{Held, Raw, flen}
use Rattle.zarrs_array_bytes.specs.Offsets.{rises, offsets_of}
use Rattle.zarrs_array_bytes.specs.Parts.{fixed_part}
use Rattle.zarrs_array_bytes.specs.Validity.{Holds}
use Rattle.zarrs_bytes.specs.BytesCodec.{bytes_chunk, bytes_length, bytes_element}
use Rattle.zarrs_chain_meaning.specs.vlen.Vlen.{offsets_in_chunk, offset_type}
use Rattle.zarrs_chain_meaning.specs.vlen.VlenSteps.{offset_size, read_offsets, offsets_form}
use Rattle.zarrs_bytes.proofs.Coding.{ok, bind_ok}
use Rattle.zarrs_chain_meaning.proofs.ArraySteps.{err, ok_is}
use Rattle.zarrs_chain_meaning.proofs.VlenOffsets.{numbers_in, numbers_long, zero_fits, fixed_held, rises_are}
use Rattle.zarrs_array_bytes.proofs.ElementLemmas.{length_between}
use Rattle.zarrs_codec.specs.ByteSpan.{ByteSpan}
use Rattle.zarrs_chain_meaning.specs.vlen.VlenLayout.{span_bytes}
use Rattle.zarrs_plain_vlen.specs.IndexSteps.{index_count, offsets_of_index}
use Rattle.zarrs_chain_meaning.specs.vlen.PlainForm.{PlainForm}
use Rattle.zarrs_plain_vlen.specs.VlenRead.{offsets_read}
use Rattle.zarrs_chain_meaning.proofs.ChainSteps.{held_chunk}

pub same_answer : {A : Type 0} (r : Result A CodecError) → (r >>= λ x. ok x) ≡ r
same_answer (Ok x) = refl
same_answer (Err e) = refl

row_length : (order : Endianness) (wide : Bool) (n m : ℕ) → bytes_length (Some order) (offsets_form wide n) ≡ (checked_u64 (product (n ∷ [])) >>= λ c. checked_u64 (c * offset_size wide) >>= λ len. ok len)
row_length order true n m = rw (zero_fits true) refl
row_length order false n m = rw (zero_fits false) refl

pub row_is : (n : ℕ) → product (n ∷ []) ≡ n
row_is n = omega arith

each_length : (wide : Bool) (r : Result ℕ CodecError) → (r >>= λ c. checked_u64 (c * offset_size wide) >>= λ len. ok len) ≡ (r >>= λ c. checked_u64 (c * offset_size wide))
each_length wide (Ok c) = same_answer (checked_u64 (c * offset_size wide))
each_length wide (Err e) = refl

-- how long the part of so many offsets is
pub index_long : (order : Endianness) (wide : Bool) (n : ℕ) → bytes_length (Some order) (offsets_form wide n) ≡ (checked_u64 n >>= λ c. checked_u64 (c * offset_size wide))
index_long order wide n =
    row_length order wide n n
    ∙ ap (λ k. checked_u64 k >>= λ c. checked_u64 (c * offset_size wide) >>= λ len. ok len) (row_is n)
    ∙ each_length wide (checked_u64 n)

pub guard : {A B : Type 0} (test : Bool) (cause : CodecError) (x : A) (f : A → Result B CodecError) (r : Result B CodecError) → (test ≡ true → r ≡ f x) → (test ≡ false → r ≡ err cause) → r ≡ ((demand test cause >>= λ _. ok x) >>= f)
guard true cause x f r so other = so refl
guard false cause x f r so other = other refl

-- What is known of an index by its length comes first, and in the same order.
module _ (form : PlainForm) (count : ℕ) (index : List ℕ) where
  abbrev pub found : ℕ
  found = length index

  abbrev pub read : ℕ → Result (List ℕ) CodecError
  read n = offsets_of_index form n index

  pub at_length : (n : ℕ) (r : Result ℕ CodecError) → bytes_length (Some form.order) (offsets_form form.wide n) ≡ r
      → read n ≡ ((r >>= λ len. demand (found == len) (InvalidBytesLength found len) >>= λ _. ok (map (bytes_element (Some form.order) (offset_type form.wide) index) (range_with_len 0 (product (n ∷ []))))) >>= λ chunk. demand (rises (offsets_in_chunk form.wide chunk)) InvalidOffsets >>= λ _. ok (offsets_in_chunk form.wide chunk))
  at_length n r e = rw e refl

  by_length : (n len : ℕ) → bytes_length (Some form.order) (offsets_form form.wide n) ≡ Ok len → read n ≡ ((demand (found == len) (InvalidBytesLength found len) >>= λ _. ok n) >>= read)
  by_length n len e = guard (found == len) (InvalidBytesLength found len) n read (read n) (λ _. refl) (λ t. at_length n (Ok len) e ∙ rw t refl)

  by_size : (n : ℕ) (test : Bool) → nat_lt n (2 ^ 64) ≡ true → nat_lt (n * offset_size form.wide) (2 ^ 64) ≡ test
      → read n ≡ (((if test then ok (n * offset_size form.wide) else err Overflow) >>= λ len. demand (found == len) (InvalidBytesLength found len) >>= λ _. ok n) >>= read)
  by_size n true small t = by_length n (n * offset_size form.wide) (index_long form.order form.wide n ∙ rw small (rw t refl))
  by_size n false small t = at_length n (err Overflow) (index_long form.order form.wide n ∙ rw small (rw t refl))

  by_count : (test : Bool) → nat_lt (count + 1) (2 ^ 64) ≡ test
      → ((if test then ok (count + 1) else err Overflow) >>= λ _. read (count + 1))
      ≡ (((if test then ok (count + 1) else err Overflow) >>= λ offsets. checked_u64 (offsets * offset_size form.wide) >>= λ len. demand (found == len) (InvalidBytesLength found len) >>= λ _. ok offsets) >>= read)
  by_count true t = by_size (count + 1) (nat_lt ((count + 1) * offset_size form.wide) (2 ^ 64)) t refl
  by_count false t = refl

  pub lengths_first : offsets_read form count index ≡ (index_count form.wide count (length index) >>= read)
  lengths_first = by_count (nat_lt (count + 1) (2 ^ 64)) refl

counted_err : (r : Result ℕ CodecError) (f : ℕ → Result (List ℕ) CodecError) (cause : CodecError) (x : Result (List ℕ) CodecError) → x ≡ (r >>= f) → r ≡ Err cause → x ≡ err cause
counted_err r f cause x e h = e ∙ rw h refl

pub index_refused : (form : PlainForm) (count : ℕ) (index : List ℕ) (cause : CodecError) → index_count form.wide count (length index) ≡ Err cause → offsets_read form count index ≡ Err cause
index_refused form count index cause h = counted_err (index_count form.wide count (length index)) (λ k. offsets_of_index form k index) cause (offsets_read form count index) (lengths_first form count index) h

-- ---- rows

row_long : (order : Endianness) (wide : Bool) (count : ℕ) (index : List ℕ) (chunk : Chunk) → bytes_chunk (Some order) (offsets_form wide count) index ≡ Ok chunk → length chunk ≡ count
row_long order wide count index chunk e =
    let l = bind_ok (bytes_length (Some order) (offsets_form wide count)) _ chunk e in
    let d = bind_ok (demand (length index == l.0) (InvalidBytesLength (length index) l.0)) _ chunk l.2 in
    ap length (sym (ok_is _ chunk d.2)) ∙ length-map-range_with_len (bytes_element (Some order) (offset_type wide) index) 0 (product (count ∷ [])) ∙ row_is count

-- the offsets that the bytes of a container spell are those of the index
pub offsets_found : (form : PlainForm) (count : ℕ) (part : List ℕ) (held : Held) (raw : Raw) (numbers : List ℕ) → 0 < count
    → IsOkAnd (bytes_chunk (Some form.order) (offsets_form form.wide count) part) (Holds (offset_type form.wide) held) → fixed_part held ≡ Ok raw → numbers ≡ read_offsets form.wide raw.items
    → offsets_of_index form count part ≡ offsets_of numbers
offsets_found form count part held raw numbers some h is read =
    let wide = form.wide in
    let c = held_chunk (offset_type wide) held (bytes_chunk (Some form.order) (offsets_form wide count) part) h in
    let holds : Holds (offset_type wide) (flen raw) c.0 = subst (λ (x : Held). Holds (offset_type wide) x c.0) (fixed_held held raw is) c.2 in
    let same : offsets_in_chunk wide c.0 ≡ numbers = sym (read ∙ numbers_in wide raw c.0 holds) in
    let long : length numbers ≡ count = ap length (sym same) ∙ numbers_long wide c.0 ∙ row_long form.order wide count part c.0 c.1 in
    rw c.1 (ap (λ (ns : List ℕ). demand (rises ns) InvalidOffsets >>= λ _. ok ns) same
    ∙ ap (λ b. demand b InvalidOffsets >>= λ _. ok numbers) (sym (rises_are numbers (omega (arith, long, some)))))

-- there is one offset more than elements
pub offsets_long : (form : PlainForm) (count : ℕ) (part offsets : List ℕ) → offsets_read form count part ≡ Ok offsets → length offsets ≡ count + 1
offsets_long form count part offsets e =
    let n = bind_ok (checked_u64 (count + 1)) _ offsets e in
    let rows = bind_ok (bytes_chunk (Some form.order) (offsets_form form.wide (count + 1)) part) _ offsets n.2 in
    let rising = bind_ok (demand (rises (offsets_in_chunk form.wide rows.0)) InvalidOffsets) _ offsets rows.2 in
    ap length (sym (ok_is (offsets_in_chunk form.wide rows.0) offsets rising.2)) ∙ numbers_long form.wide rows.0 ∙ row_long form.order form.wide (count + 1) part rows.0 rows.1

-- and they never fall
pub offsets_rise : (form : PlainForm) (count : ℕ) (part offsets : List ℕ) → offsets_read form count part ≡ Ok offsets → rises offsets ≡ true
offsets_rise form count part offsets e =
    let n = bind_ok (checked_u64 (count + 1)) _ offsets e in
    let rows = bind_ok (bytes_chunk (Some form.order) (offsets_form form.wide (count + 1)) part) _ offsets n.2 in
    let rising = bind_ok (demand (rises (offsets_in_chunk form.wide rows.0)) InvalidOffsets) _ offsets rows.2 in
    subst (λ (x : List ℕ). rises x ≡ true) (ok_is (offsets_in_chunk form.wide rows.0) offsets rising.2) (demand_ok (rises (offsets_in_chunk form.wide rows.0)) InvalidOffsets rising.1)

-- ---- what a call answers

answers_same : (r expected : Result (List ℕ) CodecError) → r ≡ expected → Answers memory (λ (x : List ℕ). x) r expected
answers_same (Ok x) expected e = sym e
answers_same (Err error) expected e = λ _. sym e

-- the offsets that a container's bytes spell are those of the index
pub offsets_answered : (r : Result (List ℕ) CodecError) (form : PlainForm) (count : ℕ) (part : List ℕ) (held : Held) (raw : Raw) → 0 < count
    → IsOkAnd (bytes_chunk (Some form.order) (offsets_form form.wide count) part) (Holds (offset_type form.wide) held)
    → ok raw ≡ fixed_part held → r ≡ offsets_of (read_offsets form.wide raw.items)
    → Answers memory (λ (x : List ℕ). x) r (offsets_of_index form count part)
offsets_answered r form count part held raw some h same is =
    answers_same r (offsets_of_index form count part)
    (is ∙ sym (offsets_found form count part held raw (read_offsets form.wide raw.items) some h (sym same) refl))

-- ---- an index where it stands in a value

index_size : (value : List ℕ) (index : ByteSpan) → index.start ≤ index.end → index.end ≤ length value → length (span_bytes value index) ≡ index.end - index.start
index_size value index ordered inside = length_between index.start index.end value ordered inside

pub refused_there : (form : PlainForm) (count size : ℕ) (value : List ℕ) (index : ByteSpan) (cause : CodecError) → size ≡ index.end - index.start → index.start ≤ index.end → index.end ≤ length value
    → index_count form.wide count size ≡ Err cause → offsets_read form count (span_bytes value index) ≡ Err cause
refused_there form count size value index cause e ordered inside h =
    index_refused form count (span_bytes value index) cause (ap (index_count form.wide count) (index_size value index ordered inside ∙ sym e) ∙ h)
