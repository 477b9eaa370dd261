-- What is under absent elements is blank in containers that are made, and stays so.
use Rattle.std.proofs.Common.{◌≡◌, ◌≢◌, ℕ, zero, suc, ◌+◌, ◌-◌, ◌*◌, ◌<◌, ◌≤◌, Bool, true, false, if◌then◌else◌, nat_lt, List, [], ◌∷◌, length, map, set, take, replicate, get_or, slice_index, Result, Ok, Err, IfOk, None, refl, sym, ap, ◌∙◌, subst, arith, eqb-true, ltb-true}
use Rattle.std.specs.List.{All, list_all, between, range_with_len}
use Rattle.std.proofs.Math.Seq.{take-nil, drop-nil}
use Rattle.std.proofs.lemmas.List.{length-set, get_or-map, length-map, get_or-replicate, length-replicate, drop-replicate, take-replicate}
use Rattle.std.proofs.lemmas.List.Elements.{filter_passes}
use Rattle.std.proofs.lemmas.List.FromFn.{get_or-map-range_with_len}
use Rattle.std.proofs.Math.Nat.{mul-le-mul_right}
use Rattle.zarrs_chunk.specs.Answer.{Answers, memory, ◌>>=◌}
use Rattle.zarrs_chunk.specs.declared.codec_error.CodecError.{CodecError}
use Rattle.zarrs_chunk.specs.declared.codec_error.CodecError.TheVariants.{InvalidBytesLength}
use Rattle.zarrs_data_type.specs.ElementType.{ElementType, fixed, text, bytes, optional, element_size, inner_of}
use Rattle.zarrs_data_type.specs.FillValue.{is_null, front_of}
use Rattle.zarrs_data_type.specs.Element.{Element, absent, plain, Chunk}
use Rattle.zarrs_array_bytes.specs.Held.{Raw, Held, flen, vlen, masked, owned_bytes}
use Rattle.zarrs_array_bytes.specs.Elements.{piece, under_flag, element_at, elements}
use Rattle.zarrs_array_bytes.specs.Parts.{with_mask}
use Rattle.zarrs_array_bytes.specs.Validity.{LengthRefusal, length_is, sizes_fit, levels_fit, validity, data_mismatch}
use Rattle.zarrs_array_bytes.specs.Blank.{blank_element, IsOverBlanks, OuterAreBlank, AbsentAreBlank}
use Rattle.zarrs_array_bytes.specs.Extracted.{container_selection}
use Rattle.zarrs_array_bytes.specs.Filled.{blank_elements, container_fill}
use Rattle.zarrs_array_bytes.specs.Update.{update, container_update}
use Rattle.zarrs_array_bytes.specs.Present.{present_places, are_all_present, container_spread, container_expansion, expansion_fits, expansion_of}
use Rattle.zarrs_array_bytes.specs.Chunks.{update_fit}
use Rattle.zarrs_array_bytes.proofs.RunLemmas.{piece_is}
use Rattle.zarrs_array_bytes.proofs.AnswerLemmas.{update_fits}
use Rattle.zarrs_array_bytes.proofs.PresentAnswers.{then_is, fits_parts}
use Rattle.zarrs_array_bytes.proofs.FillLemmas.{mask_of_same}
use Rattle.zarrs_array_bytes.proofs.ValidLemmas.{both_ok, length_found, list_all-picked}
use Rattle.zarrs_array_bytes.proofs.ExtractLemmas.{extracted_at}
use Rattle.zarrs_array_bytes.proofs.UpdateCalls.{list_all-update}
use Rattle.zarrs_array_bytes.proofs.UpdatedLemmas.{length-elements, updated_are}
use Rattle.zarrs_array_bytes.proofs.UpdateLaw.{untouched}
use Rattle.zarrs_array_bytes.proofs.WriteLemmas.{length-update}
use Rattle.zarrs_array_bytes.proofs.FilledLemmas.{blank_fits}
use Rattle.zarrs_array_bytes.proofs.PresentLemmas.{marked, present_places-marked, length_marked}

-- ---- blank elements, and fill values

-- a piece of zeros
zeros_at : (size n k : ℕ) → k < n → piece size (replicate (n * size) 0) k ≡ replicate size 0
zeros_at size n k l =
    let room : (k + 1) * size ≤ n * size = mul-le-mul_right size (let h : k + 1 ≤ n = omega arith in h) in
    let apart : (k + 1) * size ≡ k * size + size = omega arith in
    piece_is size k (replicate (n * size) 0)
    ∙ ap (take size) (drop-replicate (k * size) (n * size) 0)
    ∙ take-replicate size (n * size - k * size) 0 (omega arith)

nothing_between : (a b : ℕ) → let none : List ℕ = [] in between a b none ≡ none
nothing_between a b = ap (take (b - a)) (drop-nil a) ∙ take-nil (b - a)

blank_at : (t : ElementType) (n k : ℕ) → k < n → element_at t (blank_elements t n) k ≡ blank_element t
blank_at (fixed w c s) n k l = ap plain (zeros_at (element_size w c) n k l)
blank_at text n k l = ap plain (nothing_between (slice_index (replicate (n + 1) 0) k) (slice_index (replicate (n + 1) 0) (k + 1)))
blank_at bytes n k l = ap plain (nothing_between (slice_index (replicate (n + 1) 0) k) (slice_index (replicate (n + 1) 0) (k + 1)))
blank_at (optional t) n k l = ap (λ b. under_flag b (element_at t (blank_elements t n) k)) (get_or-replicate n k 0 0 l)

-- a mask of zeros over blank elements
zeros_over : (t : ElementType) (n : ℕ) → IsOverBlanks (replicate n 0) t (blank_elements t n)
zeros_over t n = record {
  flags = mask_of_same n 0 (omega arith);
  blank = λ k l z. blank_at t n k (omega (arith, l, length-replicate n (let z : ℕ = 0 in z)));
}

-- a mask of ones over any elements
ones_over : (t : ElementType) (n : ℕ) (h : Held) → IsOverBlanks (replicate n 1) t h
ones_over t n h = record {
  flags = mask_of_same n 1 (omega arith);
  blank = λ k l z. let one : slice_index (replicate n 1) k ≡ 1 = get_or-replicate n k 1 0 (omega (arith, l, length-replicate n (let o : ℕ = 1 in o))) in absurd (omega (arith, one, z));
}

pub blank_blank : (t : ElementType) (n : ℕ) → AbsentAreBlank t (blank_elements t n)
blank_blank (fixed w c s) n = tt
blank_blank text n = tt
blank_blank bytes n = tt
blank_blank (optional t) n = (zeros_over t n, blank_blank t n)

either_blank : (t : ElementType) (n : ℕ) (b : Bool) (g : Held) → AbsentAreBlank t g → AbsentAreBlank (optional t) (if b then masked (blank_elements t n) (owned_bytes (replicate n 0)) else masked g (owned_bytes (replicate n 1)))
either_blank t n true g h = (zeros_over t n, blank_blank t n)
either_blank t n false g h = (ones_over t n g, h)

pub fill_blank : (t : ElementType) (n : ℕ) (bs : List ℕ) → AbsentAreBlank t (container_fill t n bs)
fill_blank (fixed w c s) n bs = tt
fill_blank text n bs = tt
fill_blank bytes n bs = tt
fill_blank (optional t) n bs = either_blank t n (is_null bs) (container_fill t n (front_of bs)) (fill_blank t n (front_of bs))

-- ---- what is extracted

module _ (refusal : LengthRefusal) where
  pub selection_blank : (t : ElementType) (n : ℕ) (h : Held) (ps : List ℕ) → levels_fit refusal t n h ≡ Ok tt → All (λ p. p < n) ps → AbsentAreBlank t h → AbsentAreBlank t (container_selection t h ps)
  selection_blank (fixed w c s) n (flen r) ps fit inside b = tt
  selection_blank (fixed w c s) n (vlen r os) ps fit inside b = tt
  selection_blank (fixed w c s) n (masked h m) ps fit inside b = tt
  selection_blank text n (flen r) ps fit inside b = tt
  selection_blank text n (vlen r os) ps fit inside b = tt
  selection_blank text n (masked h m) ps fit inside b = tt
  selection_blank bytes n (flen r) ps fit inside b = tt
  selection_blank bytes n (vlen r os) ps fit inside b = tt
  selection_blank bytes n (masked h m) ps fit inside b = tt
  selection_blank (optional t) n (flen r) ps fit inside b = tt
  selection_blank (optional t) n (vlen r os) ps fit inside b = tt
  selection_blank (optional t) n (masked h m) ps fit inside b =
      let both = both_ok (length_is refusal (length m.items) n) (levels_fit refusal t n h) fit in
      let below : levels_fit refusal t n h ≡ Ok tt = both.1 in
      let count : length m.items ≡ n = length_found refusal (length m.items) n both.0 in
      let picked : length (map (slice_index m.items) ps) ≡ length ps = length-map ps (slice_index m.items) in (
        record {
          flags = list_all-picked (λ byte. nat_lt byte 2) m.items ps b.0.flags (subst (λ k. All (λ p. p < k) ps) (sym count) inside);
          blank = λ k l z.
              let known : k < length ps = omega (arith, l, picked) in
              let at : get_or ps k 0 < length m.items = omega (arith, inside k 0 known, count) in
              let flag : slice_index (map (slice_index m.items) ps) k ≡ slice_index m.items (get_or ps k 0) = get_or-map (slice_index m.items) ps k 0 0 known in
              extracted_at refusal t n h ps below inside k known ∙ b.0.blank (get_or ps k 0) at (sym flag ∙ z);
        },
        selection_blank t n h ps below inside b.1,
      )

-- ---- what is written

-- under each flag of 0 stands this element
abbrev AreUnder : Element → List ℕ → Chunk → Type 0
AreUnder e fs es = (k : ℕ) → k < length fs → get_or fs k 0 ≡ 0 → get_or es k absent ≡ e

under_set : (e : Element) (fs : List ℕ) (es : Chunk) (p f : ℕ) (d : Element) → length fs ≡ length es → AreUnder e fs es → (f ≡ 0 → d ≡ e) → AreUnder e (set fs p f) (set es p d)
under_set e [] es p f d l h g = λ k q z. absurd (omega (arith, q))
under_set e (x ∷ fs) [] p f d l h g = absurd (omega (arith, l))
under_set e (x ∷ fs) (y ∷ es) zero f d l h g = λ k q z.
    elim k as (λ k. k < length (f ∷ fs) → get_or (f ∷ fs) k 0 ≡ 0 → get_or (d ∷ es) k absent ≡ e) [ zero ↦ λ q z. g z | suc k ↦ λ q z. h (suc k) q z ] q z
under_set e (x ∷ fs) (y ∷ es) (suc p) f d l h g = λ k q z.
    elim k as (λ k. k < length (x ∷ set fs p f) → get_or (x ∷ set fs p f) k 0 ≡ 0 → get_or (y ∷ set es p d) k absent ≡ e) [
      | zero ↦ λ q z. h 0 (omega arith) z
      | suc k ↦ λ q z. under_set e fs es p f d (omega (arith, l)) (λ k q z. h (suc k) (omega (arith, q)) z) g k (omega (arith, q)) z
    ] q z

under_update : (e : Element) (fs : List ℕ) (es : Chunk) (ps gs : List ℕ) (ds : Chunk) → length fs ≡ length es → length gs ≡ length ds → AreUnder e fs es → AreUnder e gs ds → AreUnder e (update fs ps gs) (update es ps ds)
under_update e fs es [] gs ds l m h g = h
under_update e fs es (p ∷ ps) [] [] l m h g = h
under_update e fs es (p ∷ ps) [] (d ∷ ds) l m h g = absurd (omega (arith, m))
under_update e fs es (p ∷ ps) (x ∷ gs) [] l m h g = absurd (omega (arith, m))
under_update e fs es (p ∷ ps) (x ∷ gs) (d ∷ ds) l m h g =
    under_update e (set fs p x) (set es p d) ps gs ds (omega (arith, l, length-set fs p x, length-set es p d)) (omega (arith, m))
    (under_set e fs es p x d l h (λ z. g 0 (omega arith) z)) (λ k q z. g (suc k) (omega (arith, q)) z)

elements_under : (t : ElementType) (n : ℕ) (h : Held) (fs : List ℕ) → length fs ≡ n → ((k : ℕ) → k < length fs → slice_index fs k ≡ 0 → element_at t h k ≡ blank_element t) → AreUnder (blank_element t) fs (elements t n h)
elements_under t n h fs count b = λ k l z. get_or-map-range_with_len (element_at t h) 0 n k k absent (omega (arith, l, count)) (omega arith) ∙ b k l z

module _ (refusal other : LengthRefusal) where
  pub update_blank : (t : ElementType) (n m : ℕ) (h g : Held) (ps : List ℕ) → levels_fit refusal t n h ≡ Ok tt → levels_fit other t m g ≡ Ok tt
      → AbsentAreBlank t h → AbsentAreBlank t g → AbsentAreBlank t (container_update t n h m g ps)
  update_blank (fixed w c s) n m (flen r) (flen q) ps e f b d = tt
  update_blank text n m (vlen r os) (vlen q us) ps e f b d = tt
  update_blank bytes n m (vlen r os) (vlen q us) ps e f b d = tt
  update_blank (optional t) n m (masked h x) (masked g y) ps e f b d =
      let olds = both_ok (length_is refusal (length x.items) n) (levels_fit refusal t n h) e in
      let news = both_ok (length_is other (length y.items) m) (levels_fit other t m g) f in
      let old : levels_fit refusal t n h ≡ Ok tt = olds.1 in
      let new : levels_fit other t m g ≡ Ok tt = news.1 in
      let count : length x.items ≡ n = length_found refusal (length x.items) n olds.0 in
      let more : length y.items ≡ m = length_found other (length y.items) m news.0 in
      let are : elements t n (container_update t n h m g ps) ≡ update (elements t n h) ps (elements t m g) = updated_are refusal other t n m h g ps old new in
      let under : AreUnder (blank_element t) (update x.items ps y.items) (update (elements t n h) ps (elements t m g)) =
      under_update (blank_element t) x.items (elements t n h) ps y.items (elements t m g) (count ∙ sym (length-elements t n h)) (more ∙ sym (length-elements t m g))
      (elements_under t n h x.items count b.0.blank) (elements_under t m g y.items more d.0.blank) in
      let long : length (update x.items ps y.items) ≡ n = length-update x.items ps y.items ∙ count in (
        record {
          flags = list_all-update (λ byte. nat_lt byte 2) x.items ps y.items b.0.flags d.0.flags;
          blank = λ k l z.
              let below : k < n = omega (arith, l, long) in
              sym (get_or-map-range_with_len (element_at t (container_update t n h m g ps)) 0 n k k absent below (omega arith)) ∙ ap (λ (es : Chunk). get_or es k absent) are ∙ under k l z;
        },
        update_blank t n m h g ps old new b.1 d.1,
      )
  update_blank _ n m h g ps e f b d = cc

-- ---- what is put back

-- no place that is marked has a flag of 0
unmarked : (mask : List ℕ) (place : ℕ) → slice_index mask place ≡ 0 → (k : ℕ) → k < length (present_places mask) → get_or (present_places mask) k 0 ≢ place
unmarked mask place z k l = λ is.
    let passes : nat_lt 0 (slice_index mask (get_or (present_places mask) k 0)) ≡ true = filter_passes (λ place. nat_lt 0 (slice_index mask place)) (range_with_len 0 (length mask)) k 0 l in
    let some : 0 < slice_index mask (get_or (present_places mask) k 0) = ltb-true 0 _ passes in
    let none : slice_index mask (get_or (present_places mask) k 0) ≡ 0 = ap (slice_index mask) is ∙ z in
    absurd (omega (arith, some, none))

-- where all places are marked, no flag is 0
none_absent : (mask : List ℕ) (place : ℕ) → length (marked mask) ≡ length mask → place < length mask → slice_index mask place ≡ 0 → ⊥
none_absent [] place all l z = omega (arith, l)
none_absent (zero ∷ mask) place all l z = omega (arith, all, length-map (marked mask) suc, length_marked mask)
none_absent (suc byte ∷ mask) zero all l z = cc
none_absent (suc byte ∷ mask) (suc place) all l z = none_absent mask place (omega (arith, all, length-map (marked mask) suc)) (omega (arith, l)) z

-- elements put back stand under the flags that aren't 0, and blank ones under those that are
expansion_over : (t : ElementType) (h : Held) (mask : List ℕ) (b : Bool) → are_all_present mask ≡ b → list_all (λ byte. nat_lt byte 2) mask ≡ true → levels_fit InvalidBytesLength t (length (present_places mask)) h ≡ Ok tt
    → IsOverBlanks mask t (if b then h else container_spread t h mask)
expansion_over t h mask true all flags fit = record {
  flags = flags;
  blank = λ k l z. absurd (none_absent mask k (ap (λ ps. length ps) (sym (present_places-marked mask)) ∙ eqb-true _ _ all) l z);
}
expansion_over t h mask false all flags fit =
    let n : ℕ = length mask in
    let count : ℕ = length (present_places mask) in
    let blank : Held = blank_elements t n in
    let are : elements t n (container_spread t h mask) ≡ update (elements t n blank) (present_places mask) (elements t count h) =
    updated_are InvalidBytesLength InvalidBytesLength t n count blank h (present_places mask) (blank_fits InvalidBytesLength t n) fit in
    record {
      flags = flags;
      blank = λ k l z.
          sym (get_or-map-range_with_len (element_at t (container_spread t h mask)) 0 n k k absent l (omega arith)) ∙ ap (λ (es : Chunk). get_or es k absent) are
          ∙ untouched (elements t n blank) (elements t count h) (present_places mask) k absent (unmarked mask k z)
          ∙ get_or-map-range_with_len (element_at t blank) 0 n k k absent l (omega arith) ∙ blank_at t n k l;
    }

expansion_inside : (t : ElementType) (h : Held) (mask : List ℕ) (b : Bool) → levels_fit InvalidBytesLength t (length (present_places mask)) h ≡ Ok tt → AbsentAreBlank t h
    → AbsentAreBlank t (if b then h else container_spread t h mask)
expansion_inside t h mask true fit b = b
expansion_inside t h mask false fit b =
    update_blank InvalidBytesLength InvalidBytesLength t (length mask) (length (present_places mask)) (blank_elements t (length mask)) h (present_places mask) (blank_fits InvalidBytesLength t (length mask)) fit (blank_blank t (length mask)) b

-- ---- what the calls answer

-- of a container that is answered, what is true of the one that is due
pub blank_is : (t : ElementType) (h : Held) (r : Result Held CodecError) → Answers memory (λ (a : Held). a) r (Ok h) → AbsentAreBlank t h → IfOk r (AbsentAreBlank t)
blank_is t h (Ok a) gives b = let is : h ≡ a = cc in subst (AbsentAreBlank t) is b
blank_is t h (Err e) gives b = tt

pub chosen_blank : (t : ElementType) (n : ℕ) (h : Held) (ps : List ℕ) (r : Result Held CodecError) → validity t n h ≡ Ok tt → All (λ p. p < n) ps → Answers memory (λ (a : Held). a) r (Ok (container_selection t h ps))
    → AbsentAreBlank t h → IfOk r (AbsentAreBlank t)
chosen_blank t n h ps r valid inside gives b = blank_is t (container_selection t h ps) r gives (selection_blank InvalidBytesLength t n h ps (both_ok (sizes_fit t n) (levels_fit InvalidBytesLength t n h) valid).1 inside b)

pub updated_blank : (t : ElementType) (n : ℕ) (h g : Held) (ps : List ℕ) (r : Result Held CodecError) → update_fit t n ps h g ≡ Ok tt → Answers memory (λ (a : Held). a) r (Ok (container_update t n h (length ps) g ps))
    → AbsentAreBlank t h → AbsentAreBlank t g → IfOk r (AbsentAreBlank t)
updated_blank t n h g ps r fit gives b d =
    let fits = update_fits t n h g ps fit in
    blank_is t (container_update t n h (length ps) g ps) r gives (update_blank InvalidBytesLength data_mismatch t n (length ps) h g ps fits.valid fits.new_valid b d)

-- of what is put back under a mask, the mask is over blanks
record PutBack (t : ElementType) (h a : Held) (mask : List ℕ) : Type 0 where
  over : IsOverBlanks mask t a
  inside : AbsentAreBlank t h → AbsentAreBlank t a

put_back : (t : ElementType) (h a : Held) (mask : List ℕ) → expansion_of t h mask ≡ Ok a → PutBack t h a mask
put_back t h a mask e =
    let parts = then_is (expansion_fits t h mask) (container_expansion t h mask) a e in
    let passed = fits_parts (list_all (λ byte. nat_lt byte 2) mask) (length (present_places mask)) (λ count. validity t count h >>= λ _. sizes_fit t (length mask)) parts.0 in
    let valid = both_ok (validity t (length (present_places mask)) h) (sizes_fit t (length mask)) passed.1 in
    let fit : levels_fit InvalidBytesLength t (length (present_places mask)) h ≡ Ok tt = (both_ok (sizes_fit t (length (present_places mask))) (levels_fit InvalidBytesLength t (length (present_places mask)) h) valid.0).1 in
    record {
      over = subst (IsOverBlanks mask t) parts.1 (expansion_over t h mask (are_all_present mask) refl passed.0 fit);
      inside = λ b. subst (AbsentAreBlank t) parts.1 (expansion_inside t h mask (are_all_present mask) fit b);
    }

pub expanded_over : (t : ElementType) (h a : Held) (m : Raw) (r : Result Held CodecError) → expansion_of t h m.items ≡ Ok a → Answers memory (λ (x : Held). x) r (with_mask a m) → IfOk r (OuterAreBlank (optional t))
expanded_over t h a m (Ok x) e gives =
    let back = put_back t h a m.items e in
    let is : masked a m ≡ x = cc (rw back.over.flags at gives) in
    let over : OuterAreBlank (optional t) (masked a m) = back.over in
    subst (OuterAreBlank (optional t)) is over
expanded_over t h a m (Err c) e gives = tt

pub expanded_blank : (t : ElementType) (h a : Held) (m : Raw) (r : Result Held CodecError) → expansion_of t h m.items ≡ Ok a → Answers memory (λ (x : Held). x) r (with_mask a m) → AbsentAreBlank t h → IfOk r (AbsentAreBlank (optional t))
expanded_blank t h a m (Ok x) e gives b =
    let back = put_back t h a m.items e in
    let is : masked a m ≡ x = cc (rw back.over.flags at gives) in
    let both : AbsentAreBlank (optional t) (masked a m) = (back.over, back.inside b) in
    subst (AbsentAreBlank (optional t)) is both
expanded_blank t h a m (Err c) e gives b = tt

-- ---- types whose elements are never absent

pub simple_blank : (t : ElementType) (h : Held) → inner_of t ≡ None → AbsentAreBlank t h
simple_blank (fixed w c s) h e = tt
simple_blank text h e = tt
simple_blank bytes h e = tt
simple_blank (optional t) h e = cc
