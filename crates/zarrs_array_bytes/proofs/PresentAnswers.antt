-- The answers of the calls on present elements.
use Rattle.std.proofs.Common.{◌≡◌, ℕ, ◌<◌, nat_lt, Bool, true, false, if◌then◌else◌, List, length, get_or, Ok, Err, Result, IfOk, refl, sym, ap, ◌∙◌, subst, eqb-true}
use Rattle.std.specs.List.{All, list_all}
use Rattle.std.proofs.lemmas.List.{length-map}
use Rattle.zarrs_chunk.specs.Answer.{Answers, AnswersBy, memory, demand, ◌>>=◌}
use Rattle.zarrs_chunk.specs.declared.codec_error.CodecError.{CodecError}
use Rattle.zarrs_chunk.specs.declared.codec_error.CodecError.TheVariants.{InvalidBytesLength, MaskValue}
use Rattle.zarrs_data_type.specs.ElementType.{ElementType, fixed, text, bytes, optional}
use Rattle.zarrs_data_type.specs.Element.{Chunk, absent}
use Rattle.zarrs_array_bytes.specs.Held.{Raw, Held, flen, vlen, masked, owned_bytes}
use Rattle.zarrs_array_bytes.specs.Elements.{elements, select}
use Rattle.zarrs_array_bytes.specs.Validity.{LengthRefusal, length_is, sizes_fit, levels_fit, validity, Holds}
use Rattle.zarrs_array_bytes.specs.Extracted.{container_selection, IsSmall}
use Rattle.zarrs_array_bytes.specs.Filled.{blank_elements}
use Rattle.zarrs_array_bytes.specs.Update.{update}
use Rattle.zarrs_array_bytes.specs.Parts.{with_mask}
use Rattle.zarrs_array_bytes.specs.Laws.{PresentElementsAreHeld, ExpandedElementsAreHeld, ExpansionKeepsElements}
use Rattle.zarrs_array_bytes.specs.Present.{present_elements, mask_of, expansion, present_places, are_all_present, present_chunk, container_spread, container_expansion, expansion_fits, expansion_of, expanded_chunk}
use Rattle.zarrs_array_bytes.proofs.ValidLemmas.{both_ok, then_ok, length_found, length_due}
use Rattle.zarrs_array_bytes.proofs.ExtractLemmas.{small_holds}
use Rattle.zarrs_array_bytes.proofs.FilledLemmas.{blank_fits}
use Rattle.zarrs_array_bytes.proofs.UpdatedLemmas.{flags, elements-flags, length-elements, updated_holds}
use Rattle.zarrs_array_bytes.proofs.WriteLemmas.{length-update}
use Rattle.zarrs_array_bytes.proofs.PresentLemmas.{marked, present_places-marked, count_is, present_elements-flags, flags-expanded, flags-all, present_elements-all, length-expanded, present-expanded, mask_of-expanded, mask_of-flags}

-- the elements under a mask, by those that stand there
under : (t : ElementType) (h : Held) (m : Raw) → elements (optional t) (length m.items) (masked h m) ≡ flags m.items (elements t (length m.items) h)
under t h m = elements-flags t (length m.items) h m refl

-- the present elements are those at the present places
pub present_selected : (t : ElementType) (h : Held) (mask : List ℕ) → present_elements (elements (optional t) (length mask) (masked h (owned_bytes mask))) ≡ select (elements t (length mask) h) (present_places mask)
present_selected t h mask =
    ap present_elements (under t h (owned_bytes mask))
    ∙ present_elements-flags mask (elements t (length mask) h) (sym (length-elements t (length mask) h))
    ∙ ap (select (elements t (length mask) h)) (sym (present_places-marked mask))

-- all of them are
pub present_whole : (t : ElementType) (h : Held) (mask : List ℕ) → length (present_places mask) ≡ length mask → present_elements (elements (optional t) (length mask) (masked h (owned_bytes mask))) ≡ elements t (length mask) h
present_whole t h mask all =
    ap present_elements (under t h (owned_bytes mask))
    ∙ present_elements-all mask (elements t (length mask) h) (sym (count_is mask) ∙ all) (sym (length-elements t (length mask) h))

pub whole_answers : (t : ElementType) (h : Held) (mask : List ℕ) → validity t (length mask) h ≡ Ok tt → length (present_places mask) ≡ length mask → AnswersBy memory (Holds t) (Ok h) (present_chunk t h mask)
whole_answers t h mask valid all =
    let count : length (elements t (length mask) h) ≡ length mask = length-elements t (length mask) h in
    rw (valid, present_whole t h mask all) (record {
      valid = rw count valid;
      elements_are = ap (λ n. elements t n h) count;
    })

pub present_answers : (t : ElementType) (h : Held) (mask : List ℕ) (r : Result Held CodecError) → validity t (length mask) h ≡ Ok tt → All (λ p. p < length mask) (present_places mask) → IfOk r IsSmall
    → Answers memory (λ (a : Held). a) r (Ok (container_selection t h (present_places mask))) → AnswersBy memory (Holds t) r (present_chunk t h mask)
present_answers t h mask (Ok a) valid inside small gives =
    let is : container_selection t h (present_places mask) ≡ a = cc gives in
    rw (valid, present_selected t h mask) (small_holds t (length mask) h a (present_places mask) (both_ok _ _ valid).1 inside small is)
present_answers t h mask (Err e) valid inside small gives = λ ne. let never : ⊥ = cc (gives ne) in absurd never

-- what fits with one error fits with another
pub fits_too : (r e : LengthRefusal) (t : ElementType) (n : ℕ) (h : Held) → levels_fit r t n h ≡ Ok tt → levels_fit e t n h ≡ Ok tt
fits_too r e (fixed w c s) n (flen q) a = length_due e _ _ (length_found r _ _ a)
fits_too r e text n (vlen q us) a = length_due e _ _ (length_found r _ _ a)
fits_too r e bytes n (vlen q us) a = length_due e _ _ (length_found r _ _ a)
fits_too r e (optional t) n (masked h m) a = then_ok _ _ (length_due e _ _ (length_found r _ _ (both_ok _ _ a).0)) (fits_too r e t n h (both_ok _ _ a).1)
fits_too r e _ n h a = cc

-- ---- put back

-- what is under a mask has so many elements, and they are these under it
record StandsUnder (t : ElementType) (mask : List ℕ) (a : Held) (ds : Chunk) : Type 0 where
  valid : validity t (length mask) a ≡ Ok tt
  are : flags mask (elements t (length mask) a) ≡ expansion mask ds

spread_stands : (t : ElementType) (h : Held) (mask : List ℕ) → levels_fit InvalidBytesLength t (length (present_places mask)) h ≡ Ok tt → sizes_fit t (length mask) ≡ Ok tt
    → StandsUnder t mask (container_spread t h mask) (elements t (length (present_places mask)) h)
spread_stands t h mask fit sizes =
    let n : ℕ = length mask in
    let k : ℕ = length (present_places mask) in
    let blank : Held = blank_elements t n in
    let after : Chunk = update (elements t n blank) (present_places mask) (elements t k h) in
    let count : length after ≡ n = length-update (elements t n blank) (present_places mask) (elements t k h) ∙ length-elements t n blank in
    let holds = updated_holds t n k blank h (container_spread t h mask) (present_places mask) InvalidBytesLength (blank_fits InvalidBytesLength t n) fit sizes refl in
    record {
      valid = subst (λ m. validity t m (container_spread t h mask) ≡ Ok tt) count holds.valid;
      are = ap (flags mask) (subst (λ m. elements t m (container_spread t h mask) ≡ after) count holds.elements_are)
          ∙ ap (λ ps. flags mask (update (elements t n blank) ps (elements t k h))) (present_places-marked mask)
          ∙ flags-expanded mask (elements t n blank) (elements t k h) (sym (length-elements t n blank)) (length-elements t k h ∙ count_is mask);
    }

whole_stands : (t : ElementType) (h : Held) (mask : List ℕ) → length (present_places mask) ≡ length mask → validity t (length (present_places mask)) h ≡ Ok tt → StandsUnder t mask h (elements t (length (present_places mask)) h)
whole_stands t h mask all valid = record {
  valid = subst (λ n. validity t n h ≡ Ok tt) all valid;
  are = flags-all mask (elements t (length mask) h) (sym (count_is mask) ∙ all) (sym (length-elements t (length mask) h)) ∙ ap (λ n. expansion mask (elements t n h)) (sym all);
}

either_stands : (t : ElementType) (h : Held) (mask : List ℕ) (b : Bool) → are_all_present mask ≡ b → validity t (length (present_places mask)) h ≡ Ok tt → sizes_fit t (length mask) ≡ Ok tt
    → StandsUnder t mask (if b then h else container_spread t h mask) (elements t (length (present_places mask)) h)
either_stands t h mask true e valid sizes = whole_stands t h mask (eqb-true _ _ e) valid
either_stands t h mask false e valid sizes = spread_stands t h mask (both_ok _ _ valid).1 sizes

-- under a mask of that container stands the chunk
expanded_holds : (t : ElementType) (a : Held) (m : Raw) (ds : Chunk) → sizes_fit t (length m.items) ≡ Ok tt → StandsUnder t m.items a ds → Holds (optional t) (masked a m) (expansion m.items ds)
expanded_holds t a m ds sizes stands =
    let n : ℕ = length m.items in
    let count : length (expansion m.items ds) ≡ n = length-expanded m.items ds in
    let inner : levels_fit InvalidBytesLength t n a ≡ Ok tt = (both_ok (sizes_fit t n) (levels_fit InvalidBytesLength t n a) stands.valid).1 in
    let levels : levels_fit InvalidBytesLength (optional t) n (masked a m) ≡ Ok tt = then_ok (length_is InvalidBytesLength n n) (levels_fit InvalidBytesLength t n a) (length_due InvalidBytesLength n n refl) inner in
    record {
      valid = rw count (then_ok (sizes_fit t n) (levels_fit InvalidBytesLength (optional t) n (masked a m)) sizes levels);
      elements_are = rw count (under t a m ∙ stands.are);
    }

pub fits_parts : (b : Bool) (k : ℕ) (f : ℕ → Result (Unit {0}) CodecError) → (demand b MaskValue >>= (λ _. Ok k)) >>= f ≡ Ok tt → (b ≡ true) × (f k ≡ Ok tt)
fits_parts true k f h = (refl, h)
fits_parts false k f h = cc

pub then_is : (r : Result (Unit {0}) CodecError) (h a : Held) → r >>= (λ _. Ok h) ≡ Ok a → (r ≡ Ok tt) × (h ≡ a)
then_is (Ok u) h a e = (refl, cc)
then_is (Err c) h a e = cc

-- where a container stands under the mask, the tests passed
record Expands (t : ElementType) (h a : Held) (m : Raw) : Type 0 where
  fit : expansion_fits t h m.items ≡ Ok tt
  is : container_expansion t h m.items ≡ a
  mask : list_all (λ byte. nat_lt byte 2) m.items ≡ true
  holds : Holds (optional t) (masked a m) (expansion m.items (elements t (length (present_places m.items)) h))

expands : (t : ElementType) (h a : Held) (m : Raw) → expansion_of t h m.items ≡ Ok a → Expands t h a m
expands t h a m e =
    let parts = then_is (expansion_fits t h m.items) (container_expansion t h m.items) a e in
    let passed = fits_parts (list_all (λ byte. nat_lt byte 2) m.items) (length (present_places m.items)) (λ count. validity t count h >>= λ _. sizes_fit t (length m.items)) parts.0 in
    let both = both_ok (validity t (length (present_places m.items)) h) (sizes_fit t (length m.items)) passed.1 in
    let stands = either_stands t h m.items (are_all_present m.items) refl both.0 both.1 in
    record {
      fit = parts.0;
      is = parts.1;
      mask = passed.0;
      holds = subst (λ held. Holds (optional t) (masked held m) (expansion m.items (elements t (length (present_places m.items)) h))) parts.1
          (expanded_holds t (container_expansion t h m.items) m (elements t (length (present_places m.items)) h) both.1 stands);
    }

-- then the mask's bytes are 0 and 1
pub expanded_flags : (t : ElementType) (h a : Held) (m : Raw) → expansion_of t h m.items ≡ Ok a → list_all (λ byte. nat_lt byte 2) m.items ≡ true
expanded_flags t h a m e = (expands t h a m e).mask

pub expanded_answers : (t : ElementType) (h a : Held) (m : Raw) (r : Result Held CodecError) → expansion_of t h m.items ≡ Ok a → Answers memory (λ (x : Held). x) r (with_mask a m) → AnswersBy memory (Holds (optional t)) r (expanded_chunk t h m.items)
expanded_answers t h a m (Ok x) e gives =
    let known = expands t h a m e in
    let is : masked a m ≡ x = cc (rw known.mask at gives) in
    rw known.fit (subst (λ held. Holds (optional t) held (expansion m.items (elements t (length (present_places m.items)) h))) is known.holds)
expanded_answers t h a m (Err c) e gives = λ ne.
    let known = expands t h a m e in
    let never : ⊥ = cc (rw known.mask at gives ne) in
    absurd never

-- ---- laws

-- of a container under a mask of zeros and ones: the present elements, how many they are, and the mask bytes are the chunk's
pub present_held : PresentElementsAreHeld
present_held t h m chunk holds flags-are =
    let n : ℕ = length chunk in
    let valid = both_ok (sizes_fit t n) (levels_fit InvalidBytesLength (optional t) n (masked h m)) holds.valid in
    let levels = both_ok (length_is InvalidBytesLength (length m.items) n) (levels_fit InvalidBytesLength t n h) valid.1 in
    let count : n ≡ length m.items = sym (length_found InvalidBytesLength (length m.items) n levels.0) in
    let inner : validity t (length m.items) h ≡ Ok tt = subst (λ k. validity t k h ≡ Ok tt) count (then_ok (sizes_fit t n) (levels_fit InvalidBytesLength t n h) valid.0 levels.1) in
    let are : elements (optional t) (length m.items) (masked h m) ≡ chunk = subst (λ k. elements (optional t) k (masked h m) ≡ chunk) count holds.elements_are in
    let flagged : flags m.items (elements t (length m.items) h) ≡ chunk = sym (under t h m) ∙ are in
    let long : length m.items ≡ length (elements t (length m.items) h) = sym (length-elements t (length m.items) h) in
    let some : present_elements chunk ≡ select (elements t (length m.items) h) (present_places m.items) = ap present_elements (sym are) ∙ present_selected t h m.items in
    let number : length (present_elements chunk) ≡ length (present_places m.items) = ap (λ (es : Chunk). length es) some ∙ length-map (present_places m.items) (λ place. get_or (elements t (length m.items) h) place absent) in
    record {
      elements = rw inner (ap Ok (ap present_elements are));
      count = rw flags-are (ap Ok (sym number));
      mask = ap mask_of (sym flagged) ∙ mask_of-flags m.items (elements t (length m.items) h) flags-are long;
    }

count_parts : (b : Bool) (k n : ℕ) → demand b MaskValue >>= (λ _. Ok k) ≡ Ok n → (b ≡ true) × (k ≡ n)
count_parts true k n e = (refl, cc)
count_parts false k n e = cc

pub expanded_held : ExpandedElementsAreHeld
expanded_held t h mask chunk holds count sizes =
    let parts = count_parts (list_all (λ byte. nat_lt byte 2) mask) (length (present_places mask)) (length chunk) count in
    let valid : validity t (length (present_places mask)) h ≡ Ok tt = subst (λ n. validity t n h ≡ Ok tt) (sym parts.1) holds.valid in
    let are : elements t (length (present_places mask)) h ≡ chunk = ap (λ n. elements t n h) parts.1 ∙ holds.elements_are in
    rw (parts.0, valid, sizes) (ap (λ es. Ok (expansion mask es)) are)

pub expansion_keeps : ExpansionKeepsElements
expansion_keeps mask es flags-are long =
    let count : length es ≡ length (marked mask) = long ∙ count_is mask in
    (present-expanded mask es count, mask_of-expanded mask es flags-are count)
