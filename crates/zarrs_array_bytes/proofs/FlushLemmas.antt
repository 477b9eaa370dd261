-- Offsets that begin at 0 and end at the bytes' end.
use Rattle.std.proofs.Common.{◌≡◌, ℕ, zero, suc, ◌+◌, ◌-◌, ◌<◌, ◌≤◌, true, List, [], ◌∷◌, length, map, take, drop, slice_index, Ok, refl, sym, ap, ap₂, ◌∙◌, subst, arith, eqb-true, eq-eqb, leb-true, le-leb, drop-drop}
use Rattle.std.specs.List.{range_with_len, between}
use Rattle.std.proofs.lemmas.Bool.{and_from}
use Rattle.std.proofs.lemmas.List.{get_or-map, length-map}
use Rattle.std.proofs.lemmas.Grind.{same_number_lists}
use Rattle.zarrs_chunk.specs.declared.codec_error.CodecError.TheVariants.{InvalidBytesLength}
use Rattle.zarrs_data_type.specs.ElementType.{ElementType, fixed, text, bytes, optional}
use Rattle.zarrs_data_type.specs.Element.{plain, Chunk}
use Rattle.zarrs_array_bytes.specs.Held.{Raw, Held, vlen}
use Rattle.zarrs_array_bytes.specs.Elements.{cut, elements, element_at}
use Rattle.zarrs_array_bytes.specs.Offsets.{rises, is_offsets, last_of}
use Rattle.zarrs_array_bytes.specs.Pieces.{bytes_with_offsets}
use Rattle.zarrs_array_bytes.specs.Tight.{are_flush, from_first, without_front}
use Rattle.zarrs_array_bytes.specs.Validity.{LengthRefusal, sizes_fit, levels_fit, Holds}
use Rattle.zarrs_array_bytes.specs.SameBytesLaws.{both_true}
use Rattle.zarrs_array_bytes.proofs.OffsetLemmas.{rising_steps, offsets_rise, offsets_end}
use Rattle.zarrs_array_bytes.proofs.RunLemmas.{rising_between}
use Rattle.zarrs_array_bytes.proofs.ValidLemmas.{both_ok, then_ok, length_due, variable_fits}

-- what flush offsets are
pub record AreFlush (offsets items : List ℕ) : Type 0 where
  pub rising : is_offsets offsets ≡ true
  pub beginning : slice_index offsets 0 ≡ 0
  pub ending : last_of offsets ≡ length items

pub flush_parts : (offsets items : List ℕ) → are_flush offsets items ≡ true → AreFlush offsets items
flush_parts offsets items h =
    let ends = both_true _ _ (both_true _ _ h).1 in
    record { rising = (both_true _ _ h).0; beginning = eqb-true _ _ ends.0; ending = eqb-true _ _ ends.1 }

pub flush_from : (offsets items : List ℕ) → is_offsets offsets ≡ true → slice_index offsets 0 ≡ 0 → last_of offsets ≡ length items → are_flush offsets items ≡ true
flush_from offsets items rising beginning ending = and_from _ _ rising (and_from _ _ (eq-eqb _ _ beginning) (eq-eqb _ _ ending))

-- what is gathered is flush
pub gathered_flush : {X : Type 0} (f : X → List ℕ) (xs : List X) → are_flush (bytes_with_offsets f xs).1 (bytes_with_offsets f xs).0 ≡ true
gathered_flush f xs = flush_from (bytes_with_offsets f xs).1 (bytes_with_offsets f xs).0 (offsets_rise f xs) refl (offsets_end f xs)

-- ---- offsets counted from the first one

pub above_first : (os : List ℕ) → is_offsets os ≡ true → (k : ℕ) → k < length os → slice_index os 0 ≤ slice_index os k
above_first os h k l = let e : 0 + k ≡ k = omega arith in subst (λ n. slice_index os 0 ≤ slice_index os n) e (rising_between os h 0 k (omega arith))

rises_moved : (f : ℕ) (os : List ℕ) → rises os ≡ true → rises (map (λ o. o - f) os) ≡ true
rises_moved f [] h = refl
rises_moved f (a ∷ []) h = refl
rises_moved f (a ∷ b ∷ os) h =
    and_from _ _ (le-leb (a - f) (b - f) (omega (arith, leb-true a b (both_true _ _ h).0))) (rises_moved f (b ∷ os) (both_true _ _ h).1)

pub offsets_moved : (os : List ℕ) → is_offsets os ≡ true → is_offsets (from_first os) ≡ true
offsets_moved [] h = h
offsets_moved (o ∷ os) h = rises_moved o (o ∷ os) h

pub moved_at : (os : List ℕ) (k : ℕ) → k < length os → slice_index (from_first os) k ≡ slice_index os k - slice_index os 0
moved_at os k l = get_or-map (λ o. o - slice_index os 0) os k 0 0 l

pub some : (os : List ℕ) → is_offsets os ≡ true → 0 < length os
some [] h = cc
some (o ∷ os) h = omega arith

pub length-from_first : (os : List ℕ) → length (from_first os) ≡ length os
length-from_first os = length-map os (λ o. o - slice_index os 0)

-- offsets from 0 stay
map_same : (f : ℕ) (os : List ℕ) → f ≡ 0 → map (λ o. o - f) os ≡ os
map_same f [] e = refl
map_same f (o ∷ os) e = ap₂ (λ x xs. x ∷ xs) (omega (arith, e)) (map_same f os e)

pub from_zero : (os : List ℕ) → slice_index os 0 ≡ 0 → os ≡ from_first os
from_zero os e = sym (map_same (slice_index os 0) os e)

-- offsets that are each moved are counted from the first one
pub all_moved : (os us : List ℕ) → length us ≡ length os → ((k : ℕ) → k < length os → slice_index us k ≡ slice_index os k - slice_index os 0) → us ≡ from_first os
all_moved os us e each =
    same_number_lists us (from_first os) (e ∙ sym (length-from_first os)) (λ k l. each k (omega (arith, e)) ∙ sym (moved_at os k (omega (arith, e))))

-- the same bytes stand between them
cut_moved : (os items : List ℕ) → is_offsets os ≡ true → (k : ℕ) → k + 1 < length os → cut (from_first os) (drop (slice_index os 0) items) k ≡ cut os items k
cut_moved os items h k l =
    let first : ℕ = slice_index os 0 in
    let here : ℕ = slice_index os k in
    let next : ℕ = slice_index os (k + 1) in
    let below : first ≤ here = above_first os h k (omega arith) in
    let up : here ≤ next = rising_steps os h k l in
    let at : first + (here - first) ≡ here = omega arith in
    let size : next - first - (here - first) ≡ next - here = omega arith in
    ap₂ (λ a b. between a b (drop first items)) (moved_at os k (omega arith)) (moved_at os (k + 1) l)
    ∙ ap (take (next - first - (here - first))) (drop-drop (here - first) first items ∙ ap (λ n. drop n items) at)
    ∙ ap (λ n. take n (drop here items)) size

pub same_elements : {A : Type 0} (f g : ℕ → A) (first count : ℕ) → ((k : ℕ) → first ≤ k → k < first + count → f k ≡ g k) → map f (range_with_len first count) ≡ map g (range_with_len first count)
same_elements f g first zero same = refl
same_elements f g first (suc count) same =
    ap₂ (λ x xs. x ∷ xs) (same first (omega arith) (omega arith)) (same_elements f g (first + 1) count (λ k a b. same k (omega (arith, a)) (omega (arith, b))))

text_front : (raw : Raw) (os : List ℕ) → is_offsets os ≡ true → (n : ℕ) → length os ≡ n + 1 → elements text n (without_front raw os) ≡ elements text n (vlen raw os)
text_front raw os h n long =
    same_elements (element_at text (without_front raw os)) (element_at text (vlen raw os)) 0 n (λ k a b. ap plain (cut_moved os raw.items h k (omega (arith, b, long))))

front_fits : (refusal : LengthRefusal) (n : ℕ) (raw : Raw) (os : List ℕ) → length os ≡ n + 1 → levels_fit refusal text n (without_front raw os) ≡ Ok tt
front_fits refusal n raw os long = length_due refusal (length (from_first os)) (n + 1) (length-from_first os ∙ long)

-- a container holds each chunk that another one holds
abbrev pub HoldsSame : Held → Held → Type 0
HoldsSame held other = (type : ElementType) (chunk : Chunk) → Holds type held chunk → Holds type other chunk

pub front_same : (raw : Raw) (os : List ℕ) → is_offsets os ≡ true → HoldsSame (vlen raw os) (without_front raw os)
front_same raw os h (fixed w c s) chunk holds =
    let fit : levels_fit InvalidBytesLength (fixed w c s) (length chunk) (vlen raw os) ≡ Ok tt = (both_ok _ _ holds.valid).1 in
    let never : ⊥ = cc in absurd never
front_same raw os h (optional t) chunk holds =
    let fit : levels_fit InvalidBytesLength (optional t) (length chunk) (vlen raw os) ≡ Ok tt = (both_ok _ _ holds.valid).1 in
    let never : ⊥ = cc in absurd never
front_same raw os h text chunk holds =
    let both = both_ok (sizes_fit text (length chunk)) (levels_fit InvalidBytesLength text (length chunk) (vlen raw os)) holds.valid in
    let long : length os ≡ length chunk + 1 = variable_fits InvalidBytesLength text (length chunk) raw os both.1 in
    record {
      valid = then_ok (sizes_fit text (length chunk)) (levels_fit InvalidBytesLength text (length chunk) (without_front raw os)) both.0 (front_fits InvalidBytesLength (length chunk) raw os long);
      elements_are = text_front raw os h (length chunk) long ∙ holds.elements_are;
    }
front_same raw os h bytes chunk holds =
    let both = both_ok (sizes_fit text (length chunk)) (levels_fit InvalidBytesLength text (length chunk) (vlen raw os)) holds.valid in
    let long : length os ≡ length chunk + 1 = variable_fits InvalidBytesLength text (length chunk) raw os both.1 in
    record {
      valid = then_ok (sizes_fit text (length chunk)) (levels_fit InvalidBytesLength text (length chunk) (without_front raw os)) both.0 (front_fits InvalidBytesLength (length chunk) raw os long);
      elements_are = text_front raw os h (length chunk) long ∙ holds.elements_are;
    }
