-- Containers with the elements of others behind their own.
use Rattle.std.proofs.Common.{◌≡◌, ℕ, zero, suc, ◌+◌, ◌-◌, ◌*◌, ◌<◌, ◌≤◌, Bool, true, false, nat_lt, List, [], ◌∷◌, ◌++◌, length, map, take, drop, get_or, slice_index, Some, Ok, Err, IsOk, IfOk, Result, refl, sym, ap, ap₂, ◌∙◌, subst, arith, zero-add, ltb-true, length-append, length-drop}
use Rattle.std.specs.List.{list_all, flat_map, range_with_len, between}
use Rattle.std.proofs.lemmas.Bool.{and_from, ltb-false}
use Rattle.std.proofs.lemmas.List.{take-append-le, drop-append-le, get_or_append_left, get_or-append-add, map-append}
use Rattle.std.proofs.Math.Seq.{drop-append-add}
use Rattle.std.proofs.lemmas.List.Folds.{list_all-append}
use Rattle.std.proofs.lemmas.List.FromFn.{length-range_with_len, get_or-range_with_len, length-map-range_with_len}
use Rattle.std.proofs.lemmas.Nat.{row_fits}
use Rattle.zarrs_chunk.specs.Answer.{Answers, AnswersBy, memory}
use Rattle.zarrs_chunk.specs.declared.codec_error.CodecError.{CodecError}
use Rattle.zarrs_chunk.specs.declared.codec_error.CodecError.TheVariants.{InvalidBytesLength}
use Rattle.zarrs_chunk.proofs.Consecutive.{range-append}
use Rattle.zarrs_data_type.specs.ElementType.{ElementType, fixed, text, bytes, optional, element_size, inner_of}
use Rattle.zarrs_data_type.specs.Element.{Element, plain}
use Rattle.zarrs_array_bytes.specs.Held.{Raw, Held, flen, vlen, masked}
use Rattle.zarrs_array_bytes.specs.Parts.{fixed_part, variable_part, optional_part, bytes_in, offsets_in, inner_in}
use Rattle.zarrs_array_bytes.specs.Elements.{piece, cut, under_flag, element_at, elements}
use Rattle.zarrs_array_bytes.specs.Blank.{IsOverBlanks, AbsentAreBlank, blank_element}
use Rattle.zarrs_array_bytes.specs.Extracted.{IsSmall}
use Rattle.zarrs_array_bytes.specs.Joined.{appended_elements, joined_cuts, IsJoined}
use Rattle.zarrs_array_bytes.specs.Offsets.{rises, is_offsets, last_of}
use Rattle.zarrs_array_bytes.specs.Pieces.{ends, fixed_of, variable_of, masked_by}
use Rattle.zarrs_array_bytes.specs.SameBytesLaws.{both_true}
use Rattle.zarrs_array_bytes.specs.Tight.{IsTight, is_flush}
use Rattle.zarrs_array_bytes.specs.Validity.{HasElements, sizes_fit, levels_fit, validity, Holds}
use Rattle.zarrs_array_bytes.proofs.ElementLemmas.{cut_at, length_ends}
use Rattle.zarrs_array_bytes.proofs.FlushLemmas.{flush_from, flush_parts, some}
use Rattle.zarrs_array_bytes.proofs.OffsetLemmas.{rising_steps, rising_last, ends_rise, at_end}
use Rattle.zarrs_array_bytes.proofs.UpdatedLemmas.{length-elements}
use Rattle.zarrs_array_bytes.proofs.ValidLemmas.{both_ok, then_ok, length_found, length_due, sizes_from_small, raw_items}

-- ---- bytes

-- what lies in the first of two lists
between_front : (a b : ℕ) (xs ys : List ℕ) → a ≤ b → b ≤ length xs → between a b (xs ++ ys) ≡ between a b xs
between_front a b xs ys h l =
    ap (take (b - a)) (drop-append-le a xs ys (omega arith)) ∙ take-append-le (b - a) (drop a xs) ys (omega (arith, length-drop a xs))

-- what lies in the second
between_back : (at a b : ℕ) (xs ys : List ℕ) → length xs ≡ at → between (at + a) (at + b) (xs ++ ys) ≡ between a b ys
between_back at a b xs ys e =
    let n : at + b - (at + a) ≡ b - a = omega arith in
    let start : at + a ≡ length xs + a = omega (arith, e) in
    ap (λ k. take k (drop (at + a) (xs ++ ys))) n ∙ ap (λ k. take (b - a) (drop k (xs ++ ys))) start ∙ ap (take (b - a)) (drop-append-add xs ys a)

piece_front : (size n k : ℕ) (xs ys : List ℕ) → length xs ≡ n * size → k < n → piece size (xs ++ ys) k ≡ piece size xs k
piece_front size n k xs ys e l =
    let room : k * size + size ≤ n * size = row_fits k size n size l (omega arith) in
    between_front (k * size) (k * size + size) xs ys (omega arith) (omega (arith, e, room))

piece_back : (size n k : ℕ) (xs ys : List ℕ) → length xs ≡ n * size → piece size (xs ++ ys) (n + k) ≡ piece size ys k
piece_back size n k xs ys e =
    let at : (n + k) * size ≡ n * size + k * size = omega arith in
    let to : (n + k) * size + size ≡ n * size + (k * size + size) = omega arith in
    ap₂ (λ a b. between a b (xs ++ ys)) at to ∙ between_back (n * size) (k * size) (k * size + size) xs ys e

-- ---- offsets

cut_front : (os us xs ys : List ℕ) → is_offsets os ≡ true → last_of os ≡ length xs → (k : ℕ) → k + 1 < length os → cut (os ++ us) (xs ++ ys) k ≡ cut os xs k
cut_front os us xs ys h last k l =
    ap₂ (λ a b. between a b (xs ++ ys)) (get_or_append_left os us 0 k (omega arith)) (get_or_append_left os us 0 (k + 1) l)
    ∙ between_front (slice_index os k) (slice_index os (k + 1)) xs ys (rising_steps os h k l) (omega (arith, rising_last os h (k + 1) l, last))

-- an offset behind the first ones
offset_behind : (os us : List ℕ) (n at k : ℕ) → length os ≡ n + 1 → last_of os ≡ at → slice_index (os ++ us) (n + k) ≡ get_or (at ∷ us) k 0
offset_behind os us n at zero long last =
    let e : n + 0 ≡ length os - 1 = omega (arith, long) in
    ap (slice_index (os ++ us)) e ∙ get_or_append_left os us 0 (length os - 1) (omega (arith, long)) ∙ last
offset_behind os us n at (suc k) long last =
    let e : n + suc k ≡ length os + k = omega (arith, long) in
    ap (slice_index (os ++ us)) e ∙ get_or-append-add os us k 0

last_behind : (os us : List ℕ) (n at : ℕ) → length os ≡ n + 1 → last_of os ≡ at → last_of (os ++ us) ≡ get_or (at ∷ us) (length us) 0
last_behind os us n at long last =
    let e : length (os ++ us) - 1 ≡ n + length us = omega (arith, length-append os us, long) in
    ap (slice_index (os ++ us)) e ∙ offset_behind os us n at (length us) long last

rises_behind : (o : ℕ) (os us : List ℕ) (at : ℕ) → rises (o ∷ os) ≡ true → get_or (o ∷ os) (length os) 0 ≡ at → rises (at ∷ us) ≡ true → rises (o ∷ (os ++ us)) ≡ true
rises_behind o [] us at h last r = subst (λ a. rises (a ∷ us) ≡ true) (sym last) r
rises_behind o (p ∷ os) us at h last r = and_from _ _ (both_true _ _ h).0 (rises_behind p os us at (both_true _ _ h).1 last r)

offsets_behind : (os us : List ℕ) (at : ℕ) → is_offsets os ≡ true → last_of os ≡ at → is_offsets (at ∷ us) ≡ true → is_offsets (os ++ us) ≡ true
offsets_behind [] us at h last r = cc
offsets_behind (o ∷ os) us at h last r =
    let e : length (o ∷ os) - 1 ≡ length os = omega arith in
    rises_behind o os us at h (sym (ap (slice_index (o ∷ os)) e) ∙ last) r

-- joined offsets rise, and end at the bytes' end
pub joined_rise : (os xs us ys : List ℕ) → is_offsets os ≡ true → last_of os ≡ length xs → is_offsets (joined_cuts os xs us ys).1 ≡ true
joined_rise os xs us ys h last =
    let m : ℕ = length us - 1 in
    offsets_behind os (ends (length xs) (map (cut us ys) (range_with_len 0 m))) (length xs) h last (ends_rise (length xs) (map (cut us ys) (range_with_len 0 m)))

pub joined_end : (os xs us ys : List ℕ) → is_offsets os ≡ true → last_of os ≡ length xs → last_of (joined_cuts os xs us ys).1 ≡ length (joined_cuts os xs us ys).0
joined_end os xs us ys h last =
    let ps : List ℕ = range_with_len 0 (length us - 1) in
    let long : length os ≡ length os - 1 + 1 = omega (arith, some os h) in
    last_behind os (ends (length xs) (map (cut us ys) ps)) (length os - 1) (length xs) long last
    ∙ at_end (cut us ys) (length xs) ps ∙ sym (length-append xs (flat_map (cut us ys) ps))

cut_back : (os xs us ys : List ℕ) (n m k : ℕ) → length os ≡ n + 1 → last_of os ≡ length xs → length us ≡ m + 1 → k < m → cut (joined_cuts os xs us ys).1 (joined_cuts os xs us ys).0 (n + k) ≡ cut us ys k
cut_back os xs us ys n m k long last more l =
    let count : length us - 1 ≡ m = omega (arith, more) in
    let ps : List ℕ = range_with_len 0 (length us - 1) in
    let es : List ℕ = ends (length xs) (map (cut us ys) ps) in
    let inside : k < length ps = omega (arith, length-range_with_len 0 (length us - 1)) in
    let next : n + k + 1 ≡ n + (suc k) = omega arith in
    let place : get_or ps k 0 ≡ k = get_or-range_with_len 0 (length us - 1) k 0 (omega arith) ∙ zero-add k in
    ap₂ (λ a b. between a b (xs ++ flat_map (cut us ys) ps)) (offset_behind os es n (length xs) k long last) (ap (slice_index (os ++ es)) next ∙ offset_behind os es n (length xs) (suc k) long last)
    ∙ cut_at (cut us ys) xs (length xs) ps k 0 refl inside
    ∙ ap (cut us ys) place

-- ---- masks

pub flags_joined : (xs ys : List ℕ) → list_all (λ byte. nat_lt byte 2) xs ≡ true → list_all (λ byte. nat_lt byte 2) ys ≡ true → list_all (λ byte. nat_lt byte 2) (xs ++ ys) ≡ true
flags_joined xs ys h e = list_all-append (λ byte. nat_lt byte 2) xs ys ∙ and_from _ _ h e

-- what is true of each place of two parts
both_parts : (P : ℕ → Type 0) (n m k : ℕ) (b : Bool) → nat_lt k n ≡ b → ((i : ℕ) → i < n → P i) → ((i : ℕ) → i < m → P (n + i)) → k < n + m → P k
both_parts P n m k true e front back l = front k (ltb-true k n e)
both_parts P n m k false e front back l =
    let below : n ≤ k = ltb-false k n e in
    let at : n + (k - n) ≡ k = omega arith in
    subst P at (back (k - n) (omega arith))

-- what a variable's parts, its bytes and its ends, rest on
pub ruleset join_calls = (joined_rise, joined_end, flags_joined, some, raw_items)

-- ---- each kind

pub fixed_joined : (t : ElementType) (n m : ℕ) (r : Raw) (g : Held) → HasElements t n (flen r) → HasElements t m g → IsJoined t n m (flen r) g (fixed_of (r.items ++ bytes_in g))
fixed_joined (fixed w c s) n m r (flen q) e f =
    let size : ℕ = element_size w c in
    let old : length r.items ≡ n * size = length_found InvalidBytesLength _ _ e in
    let new : length q.items ≡ m * size = length_found InvalidBytesLength _ _ f in
    let spread : (n + m) * size ≡ n * size + m * size = omega arith in
    record {
      fits = length_due InvalidBytesLength _ _ (omega (arith, length-append r.items q.items, old, new, spread));
      front = λ k l. ap plain (piece_front size n k r.items q.items old l);
      back = λ k l. ap plain (piece_back size n k r.items q.items old);
      flush = λ h. refl;
      blank = λ b d. tt;
    }
fixed_joined (fixed w c s) n m r (vlen q us) e f = let never : ⊥ = cc in absurd never
fixed_joined (fixed w c s) n m r (masked g k) e f = let never : ⊥ = cc in absurd never
fixed_joined text n m r g e f = let never : ⊥ = cc in absurd never
fixed_joined bytes n m r g e f = let never : ⊥ = cc in absurd never
fixed_joined (optional t) n m r g e f = let never : ⊥ = cc in absurd never

text_joined : (n m : ℕ) (r q : Raw) (os us : List ℕ) → length os ≡ n + 1 → length us ≡ m + 1 → is_offsets os ≡ true → last_of os ≡ length r.items
    → IsJoined text n m (vlen r os) (vlen q us) (variable_of (joined_cuts os r.items us q.items))
text_joined n m r q os us old new h last =
    let ps : List ℕ = range_with_len 0 (length us - 1) in
    let es : List ℕ = ends (length r.items) (map (cut us q.items) ps) in
    let count : length es ≡ m = length_ends (length r.items) (map (cut us q.items) ps) ∙ length-map-range_with_len (cut us q.items) 0 (length us - 1) ∙ omega (arith, new) in
    record {
      fits = length_due InvalidBytesLength _ _ (omega (arith, length-append os es, old, count));
      front = λ k l. ap plain (cut_front os es r.items (flat_map (cut us q.items) ps) h last k (omega (arith, old, l)));
      back = λ k l. ap plain (cut_back os r.items us q.items n m k old last new l);
      flush = λ f. flush_from (os ++ es) (r.items ++ flat_map (cut us q.items) ps) (joined_rise os r.items us q.items h last)
          (get_or_append_left os es 0 0 (some os h) ∙ (flush_parts os r.items f).beginning) (joined_end os r.items us q.items h last);
      blank = λ b d. tt;
    }

pub variable_joined : (t : ElementType) (n m : ℕ) (r : Raw) (os : List ℕ) (g : Held) → HasElements t n (vlen r os) → HasElements t m g → is_offsets os ≡ true → last_of os ≡ length r.items
    → IsJoined t n m (vlen r os) g (variable_of (joined_cuts os r.items (offsets_in g) (bytes_in g)))
variable_joined text n m r os (vlen q us) e f h last = text_joined n m r q os us (length_found InvalidBytesLength _ _ e) (length_found InvalidBytesLength _ _ f) h last
variable_joined text n m r os (flen q) e f h last = let never : ⊥ = cc in absurd never
variable_joined text n m r os (masked g k) e f h last = let never : ⊥ = cc in absurd never
variable_joined bytes n m r os (vlen q us) e f h last =
    let same = text_joined n m r q os us (length_found InvalidBytesLength _ _ e) (length_found InvalidBytesLength _ _ f) h last in
    record { fits = same.fits; front = same.front; back = same.back; flush = same.flush; blank = λ b d. tt }
variable_joined bytes n m r os (flen q) e f h last = let never : ⊥ = cc in absurd never
variable_joined bytes n m r os (masked g k) e f h last = let never : ⊥ = cc in absurd never
variable_joined (fixed w c s) n m r os g e f h last = let never : ⊥ = cc in absurd never
variable_joined (optional t) n m r os g e f h last = let never : ⊥ = cc in absurd never

-- a mask over blank elements, and another behind it
over_joined : (t : ElementType) (n m : ℕ) (h g x : Held) (xs ys : List ℕ) → length xs ≡ n → length ys ≡ m → IsJoined t n m h g x → IsOverBlanks xs t h → IsOverBlanks ys t g → IsOverBlanks (xs ++ ys) t x
over_joined t n m h g x xs ys e f joined over under = record {
  flags = flags_joined xs ys over.flags under.flags;
  blank = λ k l. both_parts (λ i. slice_index (xs ++ ys) i ≡ 0 → element_at t x i ≡ blank_element t) n m k (nat_lt k n) refl
      (λ i j z. joined.front i j ∙ over.blank i (omega (arith, e, j)) (sym (get_or_append_left xs ys 0 i (omega (arith, e, j))) ∙ z))
      (λ i j z. let at : length xs + i ≡ n + i = omega (arith, e) in
      joined.back i j ∙ under.blank i (omega (arith, f, j)) (sym (get_or-append-add xs ys i 0) ∙ ap (slice_index (xs ++ ys)) at ∙ z))
      (omega (arith, length-append xs ys, e, f, l));
}

pub masked_joined : (t u : ElementType) (n m : ℕ) (h : Held) (a : Raw) (g x : Held) → HasElements t n (masked h a) → HasElements t m g → inner_of t ≡ Some u → list_all (λ byte. nat_lt byte 2) (bytes_in g) ≡ true
    → IsJoined u n m h (inner_in g) x → IsJoined t n m (masked h a) g (masked_by x (a.items ++ bytes_in g))
masked_joined (optional t) u n m h a (masked g b) x e f i flags inner =
    let is : u ≡ t = cc in
    let below : IsJoined t n m h g x = subst (λ v. IsJoined v n m h g x) is inner in
    let old : length a.items ≡ n = length_found InvalidBytesLength _ _ (both_ok _ _ e).0 in
    let new : length b.items ≡ m = length_found InvalidBytesLength _ _ (both_ok _ _ f).0 in
    record {
      fits = then_ok _ _ (length_due InvalidBytesLength _ _ (omega (arith, length-append a.items b.items, old, new))) below.fits;
      front = λ k l. ap₂ under_flag (get_or_append_left a.items b.items 0 k (omega (arith, old, l))) (below.front k l);
      back = λ k l.
          let at : n + k ≡ length a.items + k = omega (arith, old) in
          ap₂ under_flag (ap (slice_index (a.items ++ b.items)) at ∙ get_or-append-add a.items b.items k 0) (below.back k l);
      flush = λ c. and_from _ _ (flags_joined a.items b.items (both_true _ _ c).0 flags) (below.flush (both_true _ _ c).1);
      blank = λ c d. (over_joined t n m h g x a.items b.items old new below c.0 d.0, below.blank c.1 d.1);
    }
masked_joined (optional t) u n m h a (flen q) x e f i flags inner = let never : ⊥ = cc in absurd never
masked_joined (optional t) u n m h a (vlen q us) x e f i flags inner = let never : ⊥ = cc in absurd never
masked_joined (fixed w c s) u n m h a g x e f i flags inner = let never : ⊥ = cc in absurd never
masked_joined text u n m h a g x e f i flags inner = let never : ⊥ = cc in absurd never
masked_joined bytes u n m h a g x e f i flags inner = let never : ⊥ = cc in absurd never

-- ---- what is answered

-- two functions that agree, one from one place on and one from another
shifted : {A : Type 0} (f g : ℕ → A) (a b n : ℕ) → ((k : ℕ) → k < n → f (a + k) ≡ g (b + k)) → map f (range_with_len a n) ≡ map g (range_with_len b n)
shifted f g a b zero same = refl
shifted f g a b (suc n) same =
    let p : a ≡ a + 0 = omega arith in
    let q : b + 0 ≡ b = omega arith in
    ap₂ (λ x xs. x ∷ xs) (ap f p ∙ same 0 (omega arith) ∙ ap g q)
    (shifted f g (a + 1) (b + 1) n (λ k l.
    let i : a + 1 + k ≡ a + suc k = omega arith in
    let j : b + suc k ≡ b + 1 + k = omega arith in
    ap f i ∙ same (suc k) (omega arith) ∙ ap g j))

-- the elements are those of the first and then those of the second
pub joined_are : (t : ElementType) (n m : ℕ) (h g x : Held) → IsJoined t n m h g x → elements t (n + m) x ≡ appended_elements t n h m g
joined_are t n m h g x joined =
    ap (map (element_at t x)) (range-append 0 n m) ∙ map-append (element_at t x) (range_with_len 0 n) (range_with_len (0 + n) m)
    ∙ ap₂ (λ xs ys. xs ++ ys)
    (shifted (element_at t x) (element_at t h) 0 0 n (λ k l. let e : 0 + k ≡ k = omega arith in ap (element_at t x) e ∙ joined.front k l ∙ ap (element_at t h) (sym e)))
    (shifted (element_at t x) (element_at t g) (0 + n) 0 m (λ k l.
    let i : 0 + n + k ≡ n + k = omega arith in
    let j : k ≡ 0 + k = omega arith in
    ap (element_at t x) i ∙ joined.back k l ∙ ap (element_at t g) j))

joined_holds : (t : ElementType) (n m : ℕ) (h g x : Held) → IsJoined t n m h g x → IsSmall x → Holds t x (appended_elements t n h m g)
joined_holds t n m h g x joined small =
    let count : length (appended_elements t n h m g) ≡ n + m = length-append (elements t n h) (elements t m g) ∙ ap₂ (λ a b. a + b) (length-elements t n h) (length-elements t m g) in
    let sizes : sizes_fit t (n + m) ≡ Ok tt = sizes_from_small InvalidBytesLength t (n + m) x joined.fits small in
    record {
      valid = rw count (then_ok _ _ sizes joined.fits);
      elements_are = rw count (joined_are t n m h g x joined);
    }

pub joined_answers : (t : ElementType) (n m : ℕ) (h g : Held) (r : Result Held CodecError) → AnswersBy memory (λ (x : Held) (_ : Unit {0}). IsJoined t n m h g x) r (Ok tt) → IfOk r IsSmall
    → AnswersBy memory (Holds t) r (Ok (appended_elements t n h m g))
joined_answers t n m h g (Ok x) joined small = joined_holds t n m h g x joined small
joined_answers t n m h g (Err e) gives small = λ ne. let never : ⊥ = cc (gives ne) in absurd never

pub joined_tight : (t : ElementType) (n m : ℕ) (h g : Held) (r : Result Held CodecError) → AnswersBy memory (λ (x : Held) (_ : Unit {0}). IsJoined t n m h g x) r (Ok tt) → IsTight t h → AbsentAreBlank t g → IfOk r (IsTight t)
joined_tight t n m h g (Ok x) joined tight blank = record { flush = joined.flush tight.flush; blank = joined.blank tight.blank blank }
joined_tight t n m h g (Err e) gives tight blank = tt

-- of a container that is answered, what is true of the one that is due
pub joined_is : (t : ElementType) (n m : ℕ) (h g x : Held) (r : Result Held CodecError) → Answers memory (λ (a : Held). a) r (Ok x) → IsJoined t n m h g x
    → AnswersBy memory (λ (y : Held) (_ : Unit {0}). IsJoined t n m h g y) r (Ok tt)
joined_is t n m h g x (Ok y) gives joined = let is : x ≡ y = cc in subst (IsJoined t n m h g) is joined
joined_is t n m h g x (Err e) gives joined = λ ne. let never : ⊥ = cc (gives ne) in absurd never
