-- Two tight containers of one chunk are the same.
use Rattle.std.proofs.Common.{◌≡◌, ℕ, zero, suc, ◌+◌, ◌-◌, ◌*◌, ◌<◌, ◌≤◌, ◌&&◌, true, nat_lt, nat_eq, List, ◌++◌, length, get_or, slice_index, Ok, refl, sym, ap, ap₂, ◌∙◌, arith, ltb-true, take_all}
use Rattle.std.specs.List.{concat, flat_map, range_with_len, between}
use Rattle.std.specs.Cmp.Lexicographic.{pointwise}
use Rattle.std.proofs.lemmas.Bool.{and_from}
use Rattle.std.proofs.lemmas.Grind.{same_number_lists}
use Rattle.std.proofs.lemmas.List.FromFn.{get_or-map-range_with_len}
use Rattle.zarrs_chunk.specs.declared.codec_error.CodecError.TheVariants.{InvalidBytesLength}
use Rattle.zarrs_data_type.specs.ElementType.{ElementType, fixed, text, bytes, optional, element_size}
use Rattle.zarrs_data_type.specs.Element.{Element, plain, absent, present, Chunk}
use Rattle.zarrs_array_bytes.specs.Held.{Held, flen, vlen, masked}
use Rattle.zarrs_array_bytes.specs.Elements.{piece, cut, under_flag, element_at}
use Rattle.zarrs_array_bytes.specs.SameBytes.{is_same_held}
use Rattle.zarrs_array_bytes.specs.SameBytesLaws.{numbers_same}
use Rattle.zarrs_array_bytes.specs.Blank.{blank_element}
use Rattle.zarrs_array_bytes.specs.Tight.{are_flush, IsTight}
use Rattle.zarrs_array_bytes.specs.Validity.{length_is, sizes_fit, levels_fit, Holds}
use Rattle.zarrs_array_bytes.proofs.ElementLemmas.{length_between}
use Rattle.zarrs_array_bytes.proofs.FlushLemmas.{AreFlush, flush_parts, same_elements}
use Rattle.zarrs_array_bytes.proofs.OffsetLemmas.{rising_last}
use Rattle.zarrs_array_bytes.proofs.Pieces.{concat-pieces}
use Rattle.zarrs_array_bytes.proofs.RunLemmas.{cuts_of_run}
use Rattle.zarrs_array_bytes.proofs.TightLemmas.{under_tight}
use Rattle.zarrs_array_bytes.proofs.ValidLemmas.{both_ok, length_found, list_all-at}

plain_same : (xs ys : List ℕ) → plain xs ≡ plain ys → xs ≡ ys
plain_same xs ys e = cc

present_same : (e f : Element) → present e ≡ present f → e ≡ f
present_same e f same = cc

-- the same numbers
same_items : (xs ys : List ℕ) → xs ≡ ys → pointwise nat_eq xs ys ≡ true
same_items xs ys e = sym (ap (pointwise nat_eq xs) e) ∙ numbers_same xs

-- elements of one size are all of their bytes
same_pieces : (size n : ℕ) (xs ys : List ℕ) → length xs ≡ n * size → length ys ≡ n * size → ((k : ℕ) → k < n → piece size xs k ≡ piece size ys k) → xs ≡ ys
same_pieces size n xs ys e f same =
    sym (concat-pieces size n xs e)
    ∙ ap concat (same_elements (piece size xs) (piece size ys) 0 n (λ k a b. same k (omega (arith, b))))
    ∙ concat-pieces size n ys f

-- elements of any length are all of their bytes, where the offsets are flush
joined_cuts : (os items : List ℕ) → AreFlush os items → (k : ℕ) → k < length os → flat_map (cut os items) (range_with_len 0 k) ≡ between 0 (slice_index os k) items
joined_cuts os items h k l =
    let e : 0 + k ≡ k = omega arith in
    cuts_of_run os items h.rising 0 k (omega arith) ∙ ap₂ (λ a b. between a b items) h.beginning (ap (slice_index os) e)

joined_all : (os items : List ℕ) → AreFlush os items → (n : ℕ) → length os ≡ n + 1 → flat_map (cut os items) (range_with_len 0 n) ≡ items
joined_all os items h n long =
    let last : length os - 1 ≡ n = omega (arith, long) in
    let ends : slice_index os n ≡ length items = sym (ap (slice_index os) last) ∙ h.ending in
    joined_cuts os items h n (omega (arith, long)) ∙ ap (λ b. between 0 b items) ends ∙ take_all (length items - 0) items (omega arith)

offset_is : (os items : List ℕ) → AreFlush os items → (k : ℕ) → k < length os → slice_index os k ≡ length (flat_map (cut os items) (range_with_len 0 k))
offset_is os items h k l =
    let inside : slice_index os k ≤ length items = omega (arith, rising_last os h.rising k l, h.ending) in
    let long : length (between 0 (slice_index os k) items) ≡ slice_index os k - 0 = length_between 0 (slice_index os k) items (omega arith) inside in
    omega (arith, long, ap length (joined_cuts os items h k l))

-- what is gathered of the same parts
same_gathered : (f g : ℕ → List ℕ) (first count : ℕ) → ((k : ℕ) → first ≤ k → k < first + count → f k ≡ g k) → flat_map f (range_with_len first count) ≡ flat_map g (range_with_len first count)
same_gathered f g first zero same = refl
same_gathered f g first (suc count) same =
    ap₂ (λ xs ys. xs ++ ys) (same first (omega arith) (omega arith)) (same_gathered f g (first + 1) count (λ k a b. same k (omega (arith, a)) (omega (arith, b))))

same_cuts : (n : ℕ) (os xs us ys : List ℕ) → AreFlush os xs → AreFlush us ys → length os ≡ n + 1 → length us ≡ n + 1 → ((k : ℕ) → k < n → cut os xs k ≡ cut us ys k) → (xs ≡ ys) × (os ≡ us)
same_cuts n os xs us ys h g e f same = (
  sym (joined_all os xs h n e) ∙ same_gathered (cut os xs) (cut us ys) 0 n (λ k a b. same k (omega (arith, b))) ∙ joined_all us ys g n f,
  same_number_lists os us (e ∙ sym f) (λ k l.
      offset_is os xs h k l
      ∙ ap length (same_gathered (cut os xs) (cut us ys) 0 k (λ j a b. same j (omega (arith, b, l, e))))
      ∙ sym (offset_is us ys g k (omega (arith, l, e, f)))),
)

same_variable : (n : ℕ) (os xs us ys : List ℕ) → are_flush os xs ≡ true → are_flush us ys ≡ true → length os ≡ n + 1 → length us ≡ n + 1 → ((k : ℕ) → k < n → plain (cut os xs k) ≡ plain (cut us ys k))
    → (pointwise nat_eq xs ys && pointwise nat_eq os us) ≡ true
same_variable n os xs us ys h g e f same =
    let are = same_cuts n os xs us ys (flush_parts os xs h) (flush_parts us ys g) e f (λ k l. plain_same (cut os xs k) (cut us ys k) (same k l)) in
    and_from _ _ (same_items xs ys are.0) (same_items os us are.1)

-- ---- elements under masks

same_flag : (b c : ℕ) (e f : Element) → b < 2 → c < 2 → under_flag b e ≡ under_flag c f → b ≡ c
same_flag zero zero e f l m same = refl
same_flag zero (suc c) e f l m same = let never : ⊥ = cc in absurd never
same_flag (suc b) zero e f l m same = let never : ⊥ = cc in absurd never
same_flag (suc b) (suc c) e f l m same = omega (arith, l, m)

same_under : (b c : ℕ) (e f d : Element) → b ≡ c → under_flag b e ≡ under_flag c f → (b ≡ 0 → e ≡ d) → (c ≡ 0 → f ≡ d) → e ≡ f
same_under zero zero e f d i same x y = x refl ∙ sym (y refl)
same_under zero (suc c) e f d i same x y = absurd (omega (arith, i))
same_under (suc b) zero e f d i same x y = absurd (omega (arith, i))
same_under (suc b) (suc c) e f d i same x y = present_same e f same

-- ---- containers

same_held : (t : ElementType) (n : ℕ) (h g : Held) → levels_fit InvalidBytesLength t n h ≡ Ok tt → levels_fit InvalidBytesLength t n g ≡ Ok tt → IsTight t h → IsTight t g
    → ((k : ℕ) → k < n → element_at t h k ≡ element_at t g k) → is_same_held h g ≡ true
same_held (fixed w c s) n (flen r) (flen q) e f a b same =
    same_items r.items q.items (same_pieces (element_size w c) n r.items q.items (length_found InvalidBytesLength _ _ e) (length_found InvalidBytesLength _ _ f)
    (λ k l. plain_same (piece (element_size w c) r.items k) (piece (element_size w c) q.items k) (same k l)))
same_held (fixed w c s) n (flen r) (vlen q us) e f a b same = let never : ⊥ = cc in absurd never
same_held (fixed w c s) n (flen r) (masked g m) e f a b same = let never : ⊥ = cc in absurd never
same_held (fixed w c s) n (vlen r os) g e f a b same = let never : ⊥ = cc in absurd never
same_held (fixed w c s) n (masked h m) g e f a b same = let never : ⊥ = cc in absurd never
same_held text n (vlen r os) (vlen q us) e f a b same =
    same_variable n os r.items us q.items a.flush b.flush (length_found InvalidBytesLength _ _ e) (length_found InvalidBytesLength _ _ f) same
same_held text n (vlen r os) (flen q) e f a b same = let never : ⊥ = cc in absurd never
same_held text n (vlen r os) (masked g m) e f a b same = let never : ⊥ = cc in absurd never
same_held text n (flen r) g e f a b same = let never : ⊥ = cc in absurd never
same_held text n (masked h m) g e f a b same = let never : ⊥ = cc in absurd never
same_held bytes n (vlen r os) (vlen q us) e f a b same =
    same_variable n os r.items us q.items a.flush b.flush (length_found InvalidBytesLength _ _ e) (length_found InvalidBytesLength _ _ f) same
same_held bytes n (vlen r os) (flen q) e f a b same = let never : ⊥ = cc in absurd never
same_held bytes n (vlen r os) (masked g m) e f a b same = let never : ⊥ = cc in absurd never
same_held bytes n (flen r) g e f a b same = let never : ⊥ = cc in absurd never
same_held bytes n (masked h m) g e f a b same = let never : ⊥ = cc in absurd never
same_held (optional t) n (masked h m) (masked g p) e f a b same =
    let left = both_ok (length_is InvalidBytesLength (length m.items) n) (levels_fit InvalidBytesLength t n h) e in
    let right = both_ok (length_is InvalidBytesLength (length p.items) n) (levels_fit InvalidBytesLength t n g) f in
    let long : length m.items ≡ n = length_found InvalidBytesLength (length m.items) n left.0 in
    let also : length p.items ≡ n = length_found InvalidBytesLength (length p.items) n right.0 in
    let flags : (k : ℕ) → k < n → slice_index m.items k ≡ slice_index p.items k = λ k l.
    same_flag (slice_index m.items k) (slice_index p.items k) (element_at t h k) (element_at t g k)
    (ltb-true _ _ (list_all-at (λ byte. nat_lt byte 2) m.items k a.blank.0.flags (omega (arith, l, long))))
    (ltb-true _ _ (list_all-at (λ byte. nat_lt byte 2) p.items k b.blank.0.flags (omega (arith, l, also)))) (same k l) in
    let inner : is_same_held h g ≡ true = same_held t n h g left.1 right.1 (under_tight t h m a.flush a.blank) (under_tight t g p b.flush b.blank) (λ k l.
    same_under (slice_index m.items k) (slice_index p.items k) (element_at t h k) (element_at t g k) (blank_element t) (flags k l) (same k l)
    (a.blank.0.blank k (omega (arith, l, long))) (b.blank.0.blank k (omega (arith, l, also)))) in
    and_from _ _ inner (same_items m.items p.items (same_number_lists m.items p.items (long ∙ sym also) (λ k l. flags k (omega (arith, l, long)))))
same_held (optional t) n (masked h m) (flen q) e f a b same = let never : ⊥ = cc in absurd never
same_held (optional t) n (masked h m) (vlen q us) e f a b same = let never : ⊥ = cc in absurd never
same_held (optional t) n (flen r) g e f a b same = let never : ⊥ = cc in absurd never
same_held (optional t) n (vlen r os) g e f a b same = let never : ⊥ = cc in absurd never

pub tight_are_same : (type : ElementType) (a b : Held) (chunk : Chunk) → IsTight type a → IsTight type b → Holds type a chunk → Holds type b chunk → is_same_held a b ≡ true
tight_are_same t h g chunk a b c d =
    let n : ℕ = length chunk in
    let left = both_ok (sizes_fit t n) (levels_fit InvalidBytesLength t n h) c.valid in
    let right = both_ok (sizes_fit t n) (levels_fit InvalidBytesLength t n g) d.valid in
    same_held t n h g left.1 right.1 a b (λ k l.
    sym (get_or-map-range_with_len (element_at t h) 0 n k k absent l (omega arith))
    ∙ ap (λ (es : Chunk). get_or es k absent) (c.elements_are ∙ sym d.elements_are)
    ∙ get_or-map-range_with_len (element_at t g) 0 n k k absent l (omega arith))
