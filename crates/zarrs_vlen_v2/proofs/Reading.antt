-- A value is read element by element.
use Rattle.std.proofs.Common.{◌≡◌, ℕ, suc, ◌+◌, ◌-◌, ◌<◌, ◌≤◌, nat_eq, nat_le, Bool, true, false, List, [], ◌∷◌, ◌++◌, length, map, take, drop, Result, Ok, Err, arith, refl, ap, sym, ◌∙◌}
use Rattle.std.specs.List.{flat_map, concat}
use Rattle.std.proofs.lemmas.Bool.{eq-eqb}
use Rattle.std.proofs.lemmas.Bool.Decides.{nat_tests}
use Rattle.std.proofs.lemmas.List.{append-nil, append_assoc, length-append, length-drop, length-take-le, map-append}
use Rattle.std.proofs.lemmas.List.Concat.{flat_map-append}
use Rattle.std.proofs.Common.{drop-drop}
use Rattle.zarrs_chunk.specs.Answer.{◌>>=◌, demand, seen}
use Rattle.zarrs_chunk.specs.declared.codec_error.CodecError.{CodecError}
use Rattle.zarrs_chunk.specs.declared.codec_error.CodecError.TheVariants.{InvalidBytesLength}
use Rattle.zarrs_data_type.specs.Element.{plain, Chunk}
use Rattle.zarrs_array_bytes.specs.Pieces.{ends, bytes_with_offsets}
use Rattle.zarrs_array_bytes.specs.Offsets.{is_offsets, last_of}
use Rattle.zarrs_array_bytes.proofs.OffsetLemmas.{flat_map-concat, ends-append, offsets_rise, offsets_end}
use Rattle.zarrs_bytes.specs.ByteOrder.{bytes_of}
use Rattle.zarrs_bytes.proofs.Coding.{bind_ok, demand_ok}
use Rattle.zarrs_chunk.proofs.Inside.{from_le_test}
use Rattle.zarrs_vlen_v2.specs.PrefixedValues.{element_in}
use Rattle.zarrs_vlen_v2.specs.VlenV2Codec.{u32_of, elements_in}
use Rattle.zarrs_codec.specs.CountLaws.{same_value}

-- ---- one element and the rest

-- what is read of a row whose first element is read
rest_at : (count whole at size : ℕ) (row : List ℕ) → nat_le 4 (length row) ≡ true → u32_of (take 4 row) ≡ size → nat_le size (length row - 4) ≡ true
    → elements_in (suc count) whole at row ≡ elements_in count whole (at + 4 + size) (drop size (drop 4 row)) >>= (λ chunk. Ok (plain (take size (drop 4 row)) ∷ chunk))
rest_at count whole at size row a b c = rw (a, b, c) refl

one_more : (count at : ℕ) (value items : List ℕ) → element_in value at ≡ Ok items
    → elements_in (suc count) (length value) at (drop at value) ≡ elements_in count (length value) (at + (4 + length items)) (drop (4 + length items) (drop at value)) >>= (λ chunk. Ok (plain items ∷ chunk))
one_more count at value items e =
    let whole = length value in
    let row = drop at value in
    let size = u32_of (take 4 row) in
    let a = bind_ok (demand (nat_le 4 (length row)) (InvalidBytesLength whole (at + 4))) _ items e in
    let b = bind_ok (demand (nat_le size (length row - 4)) (InvalidBytesLength whole (at + 4 + size))) _ items a.2 in
    let enough = demand_ok (nat_le 4 (length row)) (InvalidBytesLength whole (at + 4)) a.0 a.1 in
    let fits = demand_ok (nat_le size (length row - 4)) (InvalidBytesLength whole (at + 4 + size)) b.0 b.1 in
    let are : take size (drop 4 row) ≡ items = same_value (take size (drop 4 row)) items b.2 in
    let long : size ≡ length items = sym (length-take-le size (drop 4 row) (omega (arith, length-drop 4 row, from_le_test size (length row - 4) fits))) ∙ ap length are in
    let next : at + 4 + size ≡ at + (4 + length items) = omega (arith, long) in
    let behind : drop size (drop 4 row) ≡ drop (4 + length items) row = drop-drop size 4 row ∙ ap (λ n. drop n row) (let d : 4 + size ≡ 4 + length items = omega (arith, long) in d) in
    rest_at count whole at size row enough refl fits
    ∙ ap (λ n. elements_in count whole n (drop size (drop 4 row)) >>= (λ chunk. Ok (plain (take size (drop 4 row)) ∷ chunk))) next
    ∙ ap (λ xs. elements_in count whole (at + (4 + length items)) xs >>= (λ chunk. Ok (plain (take size (drop 4 row)) ∷ chunk))) behind
    ∙ ap (λ (xs : List ℕ). elements_in count whole (at + (4 + length items)) (drop (4 + length items) row) >>= (λ chunk. Ok (plain xs ∷ chunk))) are

both_refuse : {A C : Type 0} (a b : Bool) (e f : CodecError) (x : A) (k : Result C CodecError) (err : CodecError) → demand a e >>= (λ _. demand b f >>= (λ _. Ok x)) ≡ Err err → demand a e >>= (λ _. demand b f >>= (λ _. k)) ≡ Err err
both_refuse true true e f x k err h = absurd cc
both_refuse true false e f x k err h = let is : f ≡ err = cc in λ i. Err (is i)
both_refuse false b e f x k err h = let is : e ≡ err = cc in λ i. Err (is i)

one_refused : (count at : ℕ) (value : List ℕ) (err : CodecError) → element_in value at ≡ Err err → elements_in (suc count) (length value) at (drop at value) ≡ Err err
one_refused count at value err e =
    let whole = length value in
    let row = drop at value in
    let size = u32_of (take 4 row) in
    both_refuse (nat_le 4 (length row)) (nat_le size (length row - 4)) (InvalidBytesLength whole (at + 4)) (InvalidBytesLength whole (at + 4 + size)) (take size (drop 4 row)) _ err e

-- ---- as far as a place

-- the elements before a place have these bytes and these offsets, and the rest of the value says what is read of all of it
pub record SoFar (value : List ℕ) (count index at : ℕ) (bytes offsets : List ℕ) : Type 0 where
  pub done : Chunk
  pub bytes_are : bytes ≡ flat_map bytes_of done
  pub offsets_are : offsets ≡ 0 ∷ ends 0 (map bytes_of done)
  pub inside : at ≤ length value
  pub rest : elements_in count (length value) 4 (drop 4 value) ≡ seen (λ chunk. done ++ chunk) (elements_in (count - index) (length value) at (drop at value))

seen_same : (r : Result Chunk CodecError) → r ≡ seen (λ chunk. [] ++ chunk) r
seen_same (Ok chunk) = refl
seen_same (Err e) = refl

pub nothing_yet : (value : List ℕ) (count : ℕ) (bytes offsets : List ℕ) → 4 ≤ length value → bytes ≡ [] → offsets ≡ 0 ∷ [] → SoFar value count 0 4 bytes offsets
nothing_yet value count bytes offsets h b o = let whole : count ≡ count - 0 = omega arith in record {
  done = [];
  bytes_are = b;
  offsets_are = o;
  inside = h;
  rest = seen_same (elements_in count (length value) 4 (drop 4 value)) ∙ ap (λ n. seen (λ chunk. [] ++ chunk) (elements_in n (length value) 4 (drop 4 value))) whole;
}

seen_more : (done : Chunk) (items : List ℕ) (r : Result Chunk CodecError) → seen (λ chunk. done ++ chunk) (r >>= (λ chunk. Ok (plain items ∷ chunk))) ≡ seen (λ chunk. (done ++ plain items ∷ []) ++ chunk) r
seen_more done items (Ok chunk) = λ i. Ok (sym (append_assoc done (plain items ∷ []) chunk) i)
seen_more done items (Err e) = refl

pub one_read : (value : List ℕ) (count index at : ℕ) (bytes offsets items bytes_after offsets_after : List ℕ) → SoFar value count index at bytes offsets → index < count → element_in value at ≡ Ok items → at + 4 + length items ≤ length value
    → bytes_after ≡ bytes ++ items → offsets_after ≡ offsets ++ length bytes_after ∷ [] → SoFar value count (index + 1) (at + (4 + length items)) bytes_after offsets_after
one_read value count index at bytes offsets items bytes_after offsets_after s l e within b o =
    let left : count - index ≡ suc (count - (index + 1)) = omega (arith, l) in
    let done = s.done in
    let from_zero : length (concat (map bytes_of done)) + length items ≡ 0 + length (concat (map bytes_of done)) + length items = omega arith in
    record {
      done = done ++ plain items ∷ [];
      bytes_are =
          b
          ∙ ap (λ (xs : List ℕ). xs ++ items) s.bytes_are
          ∙ ap (λ (xs : List ℕ). flat_map bytes_of done ++ xs) (sym (append-nil items))
          ∙ sym (flat_map-append bytes_of done (plain items ∷ []));
      offsets_are =
          o
          ∙ ap (λ (xs : List ℕ). xs ++ length bytes_after ∷ []) s.offsets_are
          ∙ ap (λ (n : ℕ). 0 ∷ (ends 0 (map bytes_of done) ++ n ∷ [])) (ap length b ∙ length-append bytes items ∙ ap (λ (xs : List ℕ). length xs + length items) (s.bytes_are ∙ flat_map-concat bytes_of done) ∙ from_zero)
          ∙ ap (λ (ns : List ℕ). 0 ∷ ns) (sym (ends-append 0 (map bytes_of done) (items ∷ [])))
          ∙ ap (λ (parts : List (List ℕ)). 0 ∷ ends 0 parts) (sym (map-append bytes_of done (plain items ∷ [])));
      inside = omega (arith, within);
      rest =
          s.rest
          ∙ ap (λ n. seen (λ chunk. done ++ chunk) (elements_in n (length value) at (drop at value))) left
          ∙ ap (seen (λ chunk. done ++ chunk)) (one_more (count - (index + 1)) at value items e)
          ∙ seen_more done items (elements_in (count - (index + 1)) (length value) (at + (4 + length items)) (drop (4 + length items) (drop at value)))
          ∙ ap (λ xs. seen (λ chunk. (done ++ plain items ∷ []) ++ chunk) (elements_in (count - (index + 1)) (length value) (at + (4 + length items)) xs)) (drop-drop (4 + length items) at value);
    }

pub refused_here : (value : List ℕ) (count index at : ℕ) (bytes offsets : List ℕ) (err : CodecError) → SoFar value count index at bytes offsets → index < count → element_in value at ≡ Err err
    → seen (bytes_with_offsets bytes_of) (elements_in count (length value) 4 (drop 4 value)) ≡ Err err
refused_here value count index at bytes offsets err s l e =
    let left : count - index ≡ suc (count - (index + 1)) = omega (arith, l) in
    ap (seen (bytes_with_offsets bytes_of))
    (s.rest
    ∙ ap (λ n. seen (λ chunk. s.done ++ chunk) (elements_in n (length value) at (drop at value))) left
    ∙ ap (seen (λ chunk. s.done ++ chunk)) (one_refused (count - (index + 1)) at value err e))

-- the offsets rise to the end of the bytes
pub so_far_rise : (value : List ℕ) (count index at : ℕ) (bytes offsets : List ℕ) → SoFar value count index at bytes offsets → is_offsets offsets ≡ true
so_far_rise value count index at bytes offsets s = ap is_offsets s.offsets_are ∙ offsets_rise bytes_of s.done

pub so_far_end : (value : List ℕ) (count index at : ℕ) (bytes offsets : List ℕ) → SoFar value count index at bytes offsets → last_of offsets ≡ length bytes
so_far_end value count index at bytes offsets s = ap last_of s.offsets_are ∙ offsets_end bytes_of s.done ∙ ap length (sym s.bytes_are)

-- ---- behind the last

none_behind : (value : List ℕ) (at : ℕ) → at ≡ length value → nat_eq (length (drop at value)) 0 ≡ true
none_behind value at e = eq-eqb (length (drop at value)) 0 (length-drop at value ∙ omega (arith, e))

last_one : (value : List ℕ) (at : ℕ) → at ≡ length value → elements_in 0 (length value) at (drop at value) ≡ Ok []
last_one value at e = rw (none_behind value at e) refl

pub all_read : (value : List ℕ) (count index at : ℕ) (bytes offsets : List ℕ) → SoFar value count index at bytes offsets → index ≡ count → at ≡ length value
    → seen (bytes_with_offsets bytes_of) (elements_in count (length value) 4 (drop 4 value)) ≡ Ok (bytes, offsets)
all_read value count index at bytes offsets s last whole =
    let none : count - index ≡ 0 = omega (arith, last) in
    ap (seen (bytes_with_offsets bytes_of))
    (s.rest
    ∙ ap (λ n. seen (λ chunk. s.done ++ chunk) (elements_in n (length value) at (drop at value))) none
    ∙ ap (seen (λ chunk. s.done ++ chunk)) (last_one value at whole))
    ∙ (λ i. Ok (bytes_with_offsets bytes_of (append-nil s.done i)))
    ∙ (λ i. Ok (sym s.bytes_are i, sym s.offsets_are i))

some_behind : (value : List ℕ) (at : ℕ) → at < length value → nat_eq (length (drop at value)) 0 ≡ false
some_behind value at l = let long = length-drop at value in grind (arith, nat_tests)

more_there : (value : List ℕ) (at : ℕ) → at < length value → elements_in 0 (length value) at (drop at value) ≡ Err (InvalidBytesLength (length value) at)
more_there value at l = rw (some_behind value at l) refl

below_end : (at len : ℕ) → at ≤ len → (at ≡ len → ⊥) → at < len
below_end at len h ne = grind (arith, ne)

pub not_all : (value : List ℕ) (count index at : ℕ) (bytes offsets : List ℕ) → SoFar value count index at bytes offsets → index ≡ count → (at ≡ length value → ⊥) → seen (bytes_with_offsets bytes_of) (elements_in count (length value) 4 (drop 4 value)) ≡ Err (InvalidBytesLength (length value) at)
not_all value count index at bytes offsets s last not_whole =
    let none : count - index ≡ 0 = omega (arith, last) in
    let before : at < length value = below_end at (length value) s.inside not_whole in
    ap (seen (bytes_with_offsets bytes_of))
    (s.rest
    ∙ ap (λ n. seen (λ chunk. s.done ++ chunk) (elements_in n (length value) at (drop at value))) none
    ∙ ap (seen (λ chunk. s.done ++ chunk)) (more_there value at before))
