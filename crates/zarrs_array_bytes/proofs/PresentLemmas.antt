-- The places that a mask marks, and the elements there.
use Rattle.std.proofs.Common.{◌≡◌, ℕ, zero, suc, ◌+◌, ◌-◌, ◌<◌, ◌≤◌, Bool, true, false, cond, nat_lt, List, [], ◌∷◌, ◌++◌, length, map, take, drop, set, get_or, slice_index, refl, sym, ap, ap₂, ◌∙◌, arith, lt-ltb, ltb-true, append-nil, append_assoc}
use Rattle.std.specs.List.{filter, list_all, range_with_len}
use Rattle.std.proofs.lemmas.Simd.{map-map}
use Rattle.std.proofs.lemmas.List.{length-map, take-take, drop-take}
use Rattle.std.proofs.lemmas.List.Elements.{filter-append, All-tail}
use Rattle.zarrs_chunk.proofs.Consecutive.{range-append}
use Rattle.zarrs_data_type.specs.ElementType.{ElementType, optional}
use Rattle.zarrs_data_type.specs.Element.{Element, plain, absent, present, Chunk, IsElement, AreElements}
use Rattle.zarrs_array_bytes.specs.Elements.{select}
use Rattle.zarrs_array_bytes.specs.Update.{update}
use Rattle.zarrs_array_bytes.specs.Present.{present_elements, mask_of, expansion, present_places}
use Rattle.zarrs_array_bytes.specs.SameBytesLaws.{both_true}
use Rattle.zarrs_array_bytes.proofs.UpdatedLemmas.{flags}

-- ---- the places

-- the places that a mask marks, by its first byte and the rest
abbrev pub marked : List ℕ → List ℕ
marked [] = []
marked (zero ∷ mask) = map suc (marked mask)
marked (suc byte ∷ mask) = 0 ∷ map suc (marked mask)

range_shift : (a n : ℕ) → range_with_len (a + 1) n ≡ map suc (range_with_len a n)
range_shift a zero = refl
range_shift a (suc n) = let e : a + 1 ≡ suc a = omega arith in ap₂ (λ x xs. x ∷ xs) e (range_shift (a + 1) n)

either_shift : (b c : Bool) (x : ℕ) (xs ys : List ℕ) → b ≡ c → xs ≡ map suc ys → cond b (suc x ∷ xs) xs ≡ map suc (cond c (x ∷ ys) ys)
either_shift true true x xs ys e f = ap (λ zs. suc x ∷ zs) f
either_shift true false x xs ys e f = cc
either_shift false true x xs ys e f = cc
either_shift false false x xs ys e f = f

filter-suc : (p q : ℕ → Bool) → ((k : ℕ) → p (suc k) ≡ q k) → (xs : List ℕ) → filter p (map suc xs) ≡ map suc (filter q xs)
filter-suc p q h [] = refl
filter-suc p q h (x ∷ xs) = either_shift (p (suc x)) (q x) x (filter p (map suc xs)) (filter q xs) (h x) (filter-suc p q h xs)

rest_marked : (byte : ℕ) (mask : List ℕ) → filter (λ place. nat_lt 0 (slice_index (byte ∷ mask) place)) (range_with_len (0 + 1) (length mask)) ≡ map suc (present_places mask)
rest_marked byte mask =
    ap (filter (λ place. nat_lt 0 (slice_index (byte ∷ mask) place))) (range_shift 0 (length mask))
    ∙ filter-suc (λ place. nat_lt 0 (slice_index (byte ∷ mask) place)) (λ place. nat_lt 0 (slice_index mask place)) (λ k. refl) (range_with_len 0 (length mask))

pub present_places-marked : (mask : List ℕ) → present_places mask ≡ marked mask
present_places-marked [] = refl
present_places-marked (zero ∷ mask) = rest_marked zero mask ∙ ap (map suc) (present_places-marked mask)
present_places-marked (suc byte ∷ mask) =
    let rest : List ℕ = filter (λ place. nat_lt 0 (slice_index (suc byte ∷ mask) place)) (range_with_len (0 + 1) (length mask)) in
    ap (λ b. cond b (0 ∷ rest) rest) (lt-ltb 0 (suc byte) (omega arith)) ∙ ap (λ ps. 0 ∷ ps) (rest_marked (suc byte) mask ∙ ap (map suc) (present_places-marked mask))

pub count_is : (mask : List ℕ) → length (present_places mask) ≡ length (marked mask)
count_is mask = ap (λ ps. length ps) (present_places-marked mask)

filter-range_more : (p : ℕ → Bool) (i : ℕ) → filter p (range_with_len 0 (i + 1)) ≡ filter p (range_with_len 0 i) ++ cond (p i) (i ∷ []) []
filter-range_more p i =
    let e : 0 + i ≡ i = omega arith in
    ap (filter p) (range-append 0 i 1 ∙ ap (λ n. range_with_len 0 i ++ n ∷ []) e) ∙ filter-append p (range_with_len 0 i) (i ∷ [])

-- a place more that is marked, or one that isn't
pub marked_more : (mask : List ℕ) (i : ℕ) → 0 < slice_index mask i
    → filter (λ place. nat_lt 0 (slice_index mask place)) (range_with_len 0 (i + 1)) ≡ filter (λ place. nat_lt 0 (slice_index mask place)) (range_with_len 0 i) ++ i ∷ []
marked_more mask i l =
    let p : ℕ → Bool = λ place. nat_lt 0 (slice_index mask place) in
    filter-range_more p i ∙ ap (λ b. filter p (range_with_len 0 i) ++ cond b (i ∷ []) []) (lt-ltb 0 (slice_index mask i) l)

pub unmarked_more : (mask : List ℕ) (i : ℕ) → slice_index mask i ≡ 0
    → filter (λ place. nat_lt 0 (slice_index mask place)) (range_with_len 0 (i + 1)) ≡ filter (λ place. nat_lt 0 (slice_index mask place)) (range_with_len 0 i)
unmarked_more mask i e =
    let p : ℕ → Bool = λ place. nat_lt 0 (slice_index mask place) in
    filter-range_more p i ∙ ap (λ x. filter p (range_with_len 0 i) ++ cond (nat_lt 0 x) (i ∷ []) []) e ∙ append-nil (filter p (range_with_len 0 i))

pub length_marked : (mask : List ℕ) → length (marked mask) ≤ length mask
length_marked [] = omega arith
length_marked (zero ∷ mask) = omega (arith, length-map (marked mask) suc, length_marked mask)
length_marked (suc byte ∷ mask) = omega (arith, length-map (marked mask) suc, length_marked mask)

-- how many of the first bytes are marked, and of those behind them
pub marked_front : (n : ℕ) (mask : List ℕ) → length (marked (take n mask)) + length (marked (drop n mask)) ≡ length (marked mask)
marked_front zero mask = omega arith
marked_front (suc n) [] = omega arith
marked_front (suc n) (zero ∷ mask) = omega (arith, marked_front n mask, length-map (marked (take n mask)) suc, length-map (marked mask) suc)
marked_front (suc n) (suc byte ∷ mask) = omega (arith, marked_front n mask, length-map (marked (take n mask)) suc, length-map (marked mask) suc)

marked_next : (at n : ℕ) (mask : List ℕ) → length (marked (take (at + n) mask)) ≡ length (marked (take at mask)) + length (marked (take n (drop at mask)))
marked_next at n mask =
    sym (marked_front at (take (at + n) mask))
    ∙ ap₂ (λ xs ys. length (marked xs) + length (marked ys)) (take-take at (at + n) mask (omega arith)) (drop-take at n mask)

-- those of a block are counted
pub block_counted : (at n count few : ℕ) (mask : List ℕ) → count ≡ length (marked (take at mask)) → few ≡ length (present_places (take (at + n - at) (drop at mask))) → count + few ≡ length (marked (take (at + n) mask))
block_counted at n count few mask e f =
    let size : at + n - at ≡ n = omega arith in
    let is : few ≡ length (marked (take n (drop at mask))) = f ∙ count_is (take (at + n - at) (drop at mask)) ∙ ap (λ k. length (marked (take k (drop at mask)))) size in
    ap₂ (λ x y. x + y) e is ∙ sym (marked_next at n mask)

pub front_counted : (n : ℕ) (mask : List ℕ) → length (marked (take n mask)) ≤ length mask
front_counted n mask = omega (arith, marked_front n mask, length_marked mask)

-- and those behind the last block
pub rest_counted : (at count rest : ℕ) (mask : List ℕ) → count ≡ length (marked (take at mask)) → rest ≡ length (present_places (drop at mask)) → count + rest ≡ length (present_places mask)
rest_counted at count rest mask e f = omega (arith, e, f, count_is (drop at mask), count_is mask, marked_front at mask)

-- one place more in the run that is open
pub open_more : (done : List ℕ) (start i : ℕ) → start ≤ i → done ++ range_with_len start (i + 1 - start) ≡ (done ++ range_with_len start (i - start)) ++ i ∷ []
open_more done start i l =
    let count : i + 1 - start ≡ i - start + 1 = omega arith in
    let at : start + (i - start) ≡ i = omega arith in
    ap (λ n. done ++ range_with_len start n) count
    ∙ ap (λ xs. done ++ xs) (range-append start (i - start) 1 ∙ ap (λ n. range_with_len start (i - start) ++ n ∷ []) at)
    ∙ sym (append_assoc done (range_with_len start (i - start)) (i ∷ []))

-- no place in a run that begins behind it
pub none_open : (done : List ℕ) (i : ℕ) → done ++ range_with_len (i + 1) (i + 1 - (i + 1)) ≡ done
none_open done i =
    let none : i + 1 - (i + 1) ≡ 0 = omega arith in
    ap (λ n. done ++ range_with_len (i + 1) n) none ∙ append-nil done

-- ---- the elements there

select-suc : (e : Element) (es : Chunk) (ps : List ℕ) → select (e ∷ es) (map suc ps) ≡ select es ps
select-suc e es ps = map-map (λ place. get_or (e ∷ es) place absent) suc ps

pub present_elements-flags : (mask : List ℕ) (es : Chunk) → length mask ≡ length es → present_elements (flags mask es) ≡ select es (marked mask)
present_elements-flags [] es l = refl
present_elements-flags (zero ∷ mask) [] l = absurd (omega arith)
present_elements-flags (suc byte ∷ mask) [] l = absurd (omega arith)
present_elements-flags (zero ∷ mask) (e ∷ es) l = present_elements-flags mask es (omega arith) ∙ sym (select-suc e es (marked mask))
present_elements-flags (suc byte ∷ mask) (e ∷ es) l = ap (λ xs. e ∷ xs) (present_elements-flags mask es (omega arith) ∙ sym (select-suc e es (marked mask)))

pub update-suc : {A : Type 0} (e : A) (es : List A) (ps : List ℕ) (ds : List A) → update (e ∷ es) (map suc ps) ds ≡ e ∷ update es ps ds
update-suc e es [] ds = refl
update-suc e es (p ∷ ps) [] = refl
update-suc e es (p ∷ ps) (d ∷ ds) = update-suc e (set es p d) ps ds

-- elements that are written at the marked places are put back under the mask
pub flags-expanded : (mask : List ℕ) (es ds : Chunk) → length mask ≡ length es → length ds ≡ length (marked mask) → flags mask (update es (marked mask) ds) ≡ expansion mask ds
flags-expanded [] es ds l n = refl
flags-expanded (zero ∷ mask) [] ds l n = absurd (omega arith)
flags-expanded (suc byte ∷ mask) [] ds l n = absurd (omega arith)
flags-expanded (zero ∷ mask) (e ∷ es) ds l n =
    ap (flags (zero ∷ mask)) (update-suc e es (marked mask) ds)
    ∙ ap (λ xs. absent ∷ xs) (flags-expanded mask es ds (omega arith) (omega (arith, length-map (marked mask) suc)))
flags-expanded (suc byte ∷ mask) (e ∷ es) [] l n = absurd (omega arith)
flags-expanded (suc byte ∷ mask) (e ∷ es) (d ∷ ds) l n =
    ap (flags (suc byte ∷ mask)) (update-suc d es (marked mask) ds)
    ∙ ap (λ xs. present d ∷ xs) (flags-expanded mask es ds (omega arith) (omega (arith, length-map (marked mask) suc)))

-- where all are present, they are those under the mask
pub flags-all : (mask : List ℕ) (es : Chunk) → length (marked mask) ≡ length mask → length mask ≡ length es → flags mask es ≡ expansion mask es
flags-all [] es a l = refl
flags-all (zero ∷ mask) es a l = absurd (omega (arith, length-map (marked mask) suc, length_marked mask))
flags-all (suc byte ∷ mask) [] a l = absurd (omega arith)
flags-all (suc byte ∷ mask) (e ∷ es) a l = ap (λ xs. present e ∷ xs) (flags-all mask es (omega (arith, length-map (marked mask) suc)) (omega arith))

pub present_elements-all : (mask : List ℕ) (es : Chunk) → length (marked mask) ≡ length mask → length mask ≡ length es → present_elements (flags mask es) ≡ es
present_elements-all [] [] a l = refl
present_elements-all [] (e ∷ es) a l = absurd (omega arith)
present_elements-all (zero ∷ mask) es a l = absurd (omega (arith, length-map (marked mask) suc, length_marked mask))
present_elements-all (suc byte ∷ mask) [] a l = absurd (omega arith)
present_elements-all (suc byte ∷ mask) (e ∷ es) a l = ap (λ xs. e ∷ xs) (present_elements-all mask es (omega (arith, length-map (marked mask) suc)) (omega arith))

pub length-expanded : (mask : List ℕ) (ds : Chunk) → length (expansion mask ds) ≡ length mask
length-expanded [] ds = refl
length-expanded (zero ∷ mask) ds = ap suc (length-expanded mask ds)
length-expanded (suc byte ∷ mask) [] = ap suc (length-expanded mask [])
length-expanded (suc byte ∷ mask) (d ∷ ds) = ap suc (length-expanded mask ds)

-- ---- extracted and put back

pub expanded-present : (type : ElementType) (chunk : Chunk) → AreElements (optional type) chunk → expansion (mask_of chunk) (present_elements chunk) ≡ chunk
expanded-present type [] h = refl
expanded-present type (plain items ∷ chunk) h = absurd (h 0 absent (omega arith))
expanded-present type (absent ∷ chunk) h = ap (λ xs. absent ∷ xs) (expanded-present type chunk (All-tail (IsElement (optional type)) absent chunk h))
expanded-present type (present e ∷ chunk) h = ap (λ xs. present e ∷ xs) (expanded-present type chunk (All-tail (IsElement (optional type)) (present e) chunk h))

pub present-expanded : (mask : List ℕ) (ds : Chunk) → length ds ≡ length (marked mask) → present_elements (expansion mask ds) ≡ ds
present-expanded [] [] n = refl
present-expanded [] (d ∷ ds) n = absurd (omega arith)
present-expanded (zero ∷ mask) ds n = present-expanded mask ds (omega (arith, length-map (marked mask) suc))
present-expanded (suc byte ∷ mask) [] n = absurd (omega arith)
present-expanded (suc byte ∷ mask) (d ∷ ds) n = ap (λ xs. d ∷ xs) (present-expanded mask ds (omega (arith, length-map (marked mask) suc)))

-- a byte of a mask, and the bytes behind it
flag_first : (byte : ℕ) (mask : List ℕ) → list_all (λ b. nat_lt b 2) (byte ∷ mask) ≡ true → (byte < 2) × (list_all (λ b. nat_lt b 2) mask ≡ true)
flag_first byte mask h =
    let both = both_true (nat_lt byte 2) (list_all (λ b. nat_lt b 2) mask) h in
    (ltb-true byte 2 both.0, both.1)

pub mask_of-expanded : (mask : List ℕ) (ds : Chunk) → list_all (λ byte. nat_lt byte 2) mask ≡ true → length ds ≡ length (marked mask) → mask_of (expansion mask ds) ≡ mask
mask_of-expanded [] ds h n = refl
mask_of-expanded (zero ∷ mask) ds h n = ap (λ xs. 0 ∷ xs) (mask_of-expanded mask ds (flag_first 0 mask h).1 (omega (arith, length-map (marked mask) suc)))
mask_of-expanded (suc byte ∷ mask) [] h n = absurd (omega arith)
mask_of-expanded (suc byte ∷ mask) (d ∷ ds) h n =
    let one : 1 ≡ suc byte = omega (arith, (flag_first (suc byte) mask h).0) in
    ap₂ (λ x xs. x ∷ xs) one (mask_of-expanded mask ds (flag_first (suc byte) mask h).1 (omega (arith, length-map (marked mask) suc)))

pub mask_of-flags : (mask : List ℕ) (es : Chunk) → list_all (λ byte. nat_lt byte 2) mask ≡ true → length mask ≡ length es → mask_of (flags mask es) ≡ mask
mask_of-flags [] es h l = refl
mask_of-flags (zero ∷ mask) [] h l = absurd (omega arith)
mask_of-flags (suc byte ∷ mask) [] h l = absurd (omega arith)
mask_of-flags (zero ∷ mask) (e ∷ es) h l = ap (λ xs. 0 ∷ xs) (mask_of-flags mask es (flag_first 0 mask h).1 (omega arith))
mask_of-flags (suc byte ∷ mask) (e ∷ es) h l =
    let one : 1 ≡ suc byte = omega (arith, (flag_first (suc byte) mask h).0) in
    ap₂ (λ x xs. x ∷ xs) one (mask_of-flags mask es (flag_first (suc byte) mask h).1 (omega arith))
