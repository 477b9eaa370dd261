-- A run of the elements of a container, as a container of its own.
use Rattle.std.proofs.Common.{◌≡◌, ℕ, zero, suc, ◌+◌, ◌-◌, ◌*◌, ◌<◌, ◌≤◌, nat_eq, nat_le, nat_lt, Bool, true, None, Some, List, [], ◌∷◌, length, map, take, drop, Result, Ok, Err, arith, refl, ap, ap₂, sym, subst, ◌∙◌}
use Rattle.std.specs.List.{between, list_all, range_with_len}
use Rattle.std.specs.Prelude.{slice_index}
use Rattle.std.proofs.Math.Nat.{mul-le-mul_right}
use Rattle.std.proofs.lemmas.List.{drop-drop, length-take}
use Rattle.std.proofs.lemmas.List.Edits.{get_or-between, length-between}
use Rattle.std.proofs.lemmas.Bool.{and_from, eq-eqb}
use Rattle.std.proofs.lemmas.Nat.{row_fits}
use Rattle.zarrs_array_bytes.specs.Elements.{cut, element_at, elements, piece, under_flag}
use Rattle.zarrs_array_bytes.specs.Held.{Held, Raw, flen, vlen, masked}
use Rattle.zarrs_array_bytes.specs.Offsets.{is_offsets, last_of}
use Rattle.zarrs_array_bytes.specs.SameBytesLaws.{both_true}
use Rattle.zarrs_array_bytes.specs.Validity.{HasElements, levels_fit, sizes_fit, validity}
use Rattle.zarrs_codec.proofs.Fences.{second_true}
use Rattle.zarrs_array_bytes.proofs.Pieces.{take-drop-take}
use Rattle.zarrs_array_bytes.proofs.RunLemmas.{rising_between}
use Rattle.zarrs_array_bytes.proofs.ValidLemmas.{both_ok, fixed_fits, length_due, masked_fits, then_ok, variable_fits}
use Rattle.zarrs_chunk.specs.declared.codec_error.CodecError.{CodecError}
use Rattle.zarrs_chunk.specs.declared.codec_error.CodecError.TheVariants.{InvalidBytesLength}
use Rattle.zarrs_data_type.specs.Element.{Element, plain}
use Rattle.zarrs_data_type.specs.ElementType.{ElementType, fixed, text, bytes, optional, element_size, fixed_size_of, inner_of}
use Rattle.zarrs_array_bytes.specs.Offsets.{offsets_of, rises}
use Rattle.zarrs_array_bytes.specs.Parts.{fixed_items, with_mask, with_offsets}
use Rattle.zarrs_array_bytes.proofs.OffsetLemmas.{rising_last}
use Rattle.zarrs_array_to_array.proofs.Refusals.{no_fault_from}
use Rattle.zarrs_bytes.proofs.Coding.{ok}
use Rattle.zarrs_chunk.specs.Answer.{◌>>=◌, Answers, GivesValue, demand, memory}
use Rattle.zarrs_chunk.specs.declared.codec_error.CodecError.TheVariants.{InvalidOffsets, MaskValue}
use Rattle.zarrs_chain_meaning.specs.vlen.VlenSteps.{lent_bytes}
use Rattle.zarrs_chain_meaning.proofs.ArraySteps.{ok_is, ok_no_err}
use Rattle.zarrs_shard_bytes.proofs.FillTests.{fixed_so, masked_so, optional_items, variable_items, variable_so}
use Rattle.zarrs_shard_bytes.specs.Bands.{GivesRun, IsRun, ReachesTo, run_elements}
use Rattle.zarrs_shard_bytes.proofs.Sizes.{fewer_fit}

-- ---- parts of parts

-- a part of a part
part_between : (a b c d : ℕ) (xs : List ℕ) → a ≤ b → c + b ≤ d → between a b (between c d xs) ≡ between (c + a) (c + b) xs
part_between a b c d xs l m =
    let fits : a + (b - a) ≤ d - c = omega arith in
    let size : c + b - (c + a) ≡ b - a = omega arith in
    take-drop-take (b - a) a (d - c) (drop c xs) fits
    ∙ ap (take (b - a)) (drop-drop a c xs)
    ∙ ap (λ n. take n (drop (c + a) xs)) (sym size)

-- a part of the first ones
part_of_first : (a b end : ℕ) (xs : List ℕ) → a ≤ b → b ≤ end → between a b (between 0 end xs) ≡ between a b xs
part_of_first a b end xs l m =
    let low : 0 + a ≡ a = omega arith in
    let high : 0 + b ≡ b = omega arith in
    part_between a b 0 end xs l (omega (arith, m)) ∙ ap₂ (λ i j. between i j xs) low high

-- ---- level by level

-- elements of one size
pub fixed_run : (type : ElementType) (size first count : ℕ) (raw run : Raw) → fixed_size_of type ≡ Some size → ReachesTo type (first + count) (flen raw) → run.items ≡ between (first * size) ((first + count) * size) raw.items
    → IsRun type first count (flen raw) (flen run)
fixed_run (fixed width components sign) size first count raw run s there made =
    let each : element_size width components ≡ size = cc in
    let long : length raw.items ≡ there.total * size = fixed_fits InvalidBytesLength (fixed width components sign) there.total raw size there.fits s in
    let fits : (first + count) * size ≤ there.total * size = mul-le-mul_right size there.enough in
    let due : length run.items ≡ count * size =
    ap (λ (xs : List ℕ). length xs) made ∙ length-between raw.items (first * size) ((first + count) * size) (omega (arith, fits, long)) ∙ (let e : (first + count) * size - first * size ≡ count * size = omega arith in e) in
    record {
      fits = length_due InvalidBytesLength _ _ (due ∙ ap (λ n. count * n) (sym each));
      same = λ place l.
          let inside : place * size + size ≤ count * size = row_fits place size count size l (omega arith) in
          let low : first * size + (place * size + size) ≤ (first + count) * size = omega (arith, inside) in
          let at : first * size + place * size ≡ (first + place) * size = omega arith in
          let to : first * size + (place * size + size) ≡ (first + place) * size + size = omega arith in
          ap₂ (λ n (xs : List ℕ). plain (piece n xs place)) each made
          ∙ ap plain (part_between (place * size) (place * size + size) (first * size) ((first + count) * size) raw.items (omega arith) low ∙ ap₂ (λ a b. between a b raw.items) at to)
          ∙ ap (λ n. plain (piece n raw.items (first + place))) (sym each);
      blank = λ over. tt;
    }
fixed_run text size first count raw run s there made = absurd cc
fixed_run bytes size first count raw run s there made = absurd cc
fixed_run (optional type) size first count raw run s there made = absurd cc

run_long : (offsets : List ℕ) (first count : ℕ) → first + count < length offsets → length (between first (first + count + 1) offsets) ≡ count + 1
run_long offsets first count there =
    let e : first + count + 1 - first ≡ count + 1 = omega arith in
    length-between offsets first (first + count + 1) (omega (arith, there)) ∙ e

list_all_between : (test : ℕ → Bool) (xs : List ℕ) (a b : ℕ) → list_all test xs ≡ true → list_all test (between a b xs) ≡ true
list_all_between test xs a b e = list_all_take test (b - a) (drop a xs) (list_all_drop test a xs e)
  where
    list_all_drop : (test : ℕ → Bool) (n : ℕ) (ys : List ℕ) → list_all test ys ≡ true → list_all test (drop n ys) ≡ true
    list_all_drop test zero ys e = e
    list_all_drop test (suc n) [] e = e
    list_all_drop test (suc n) (y ∷ ys) e = list_all_drop test n ys (second_true (test y) (list_all test ys) e)

    list_all_take : (test : ℕ → Bool) (n : ℕ) (ys : List ℕ) → list_all test ys ≡ true → list_all test (take n ys) ≡ true
    list_all_take test zero ys e = refl
    list_all_take test (suc n) [] e = refl
    list_all_take test (suc n) (y ∷ ys) e =
        let both = both_true (test y) (list_all test ys) e in
        and_from (test y) (list_all test (take n ys)) both.0 (list_all_take test n ys both.1)

-- an offset of the part is one of all
offset_in_run : (offsets : List ℕ) (first count k : ℕ) → k ≤ count → slice_index (between first (first + count + 1) offsets) k ≡ slice_index offsets (first + k)
offset_in_run offsets first count k l = get_or-between offsets first (first + count + 1) k 0 (omega (arith, l))

run_cut : (offsets items : List ℕ) (first count place : ℕ) → is_offsets offsets ≡ true → first + count < length offsets → place < count
    → cut (between first (first + count + 1) offsets) (between 0 (slice_index offsets (first + count)) items) place ≡ cut offsets items (first + place)
run_cut offsets items first count place rising there l =
    let low = offset_in_run offsets first count place (omega (arith, l)) in
    let high : slice_index (between first (first + count + 1) offsets) (place + 1) ≡ slice_index offsets (first + place + 1) =
    offset_in_run offsets first count (place + 1) (omega (arith, l)) ∙ (let e : first + (place + 1) ≡ first + place + 1 = omega arith in ap (slice_index offsets) e) in
    let rest : first + place + 1 + (count - place - 1) ≡ first + count = omega (arith, l) in
    let inside : slice_index offsets (first + place + 1) ≤ slice_index offsets (first + count) =
    subst (λ n. slice_index offsets (first + place + 1) ≤ slice_index offsets n) rest (rising_between offsets rising (first + place + 1) (count - place - 1) (omega (arith, l, there))) in
    let step : slice_index offsets (first + place) ≤ slice_index offsets (first + place + 1) = rising_between offsets rising (first + place) 1 (omega (arith, l, there)) in
    ap₂ (λ a b. between a b (between 0 (slice_index offsets (first + count)) items)) low high
    ∙ part_of_first (slice_index offsets (first + place)) (slice_index offsets (first + place + 1)) (slice_index offsets (first + count)) items step inside

-- elements of any length
pub variable_run : (type : ElementType) (first count : ℕ) (raw run : Raw) (offsets ends : List ℕ) → fixed_size_of type ≡ None → inner_of type ≡ None → is_offsets offsets ≡ true → first + count < length offsets
    → ends ≡ between first (first + count + 1) offsets → run.items ≡ between 0 (slice_index offsets (first + count)) raw.items
    → IsRun type first count (vlen raw offsets) (vlen run ends)
variable_run (fixed width components sign) first count raw run offsets ends s i rising there e made = absurd cc
variable_run text first count raw run offsets ends s i rising there e made = record {
  fits = length_due InvalidBytesLength _ _ (ap (λ (xs : List ℕ). length xs) e ∙ run_long offsets first count there);
  same = λ place l. ap₂ (λ (os xs : List ℕ). plain (cut os xs place)) e made ∙ ap plain (run_cut offsets raw.items first count place rising there l);
  blank = λ over. tt;
}
variable_run bytes first count raw run offsets ends s i rising there e made = record {
  fits = length_due InvalidBytesLength _ _ (ap (λ (xs : List ℕ). length xs) e ∙ run_long offsets first count there);
  same = λ place l. ap₂ (λ (os xs : List ℕ). plain (cut os xs place)) e made ∙ ap plain (run_cut offsets raw.items first count place rising there l);
  blank = λ over. tt;
}
variable_run (optional type) first count raw run offsets ends s i rising there e made = absurd cc

-- flags of a part
flags_between : (flags : List ℕ) (first count : ℕ) → list_all (λ byte. nat_lt byte 2) flags ≡ true → list_all (λ byte. nat_lt byte 2) (between first (first + count) flags) ≡ true
flags_between flags first count e = list_all_between (λ byte. nat_lt byte 2) flags first (first + count) e

-- elements under a mask
pub masked_run : (type inner_type : ElementType) (first count : ℕ) (inner run : Held) (mask part : Raw) → inner_of type ≡ Some inner_type → ReachesTo type (first + count) (masked inner mask) → list_all (λ byte. nat_lt byte 2) mask.items ≡ true
    → part.items ≡ between first (first + count) mask.items → IsRun inner_type first count inner run → IsRun type first count (masked inner mask) (masked run part)
masked_run (optional type) inner_type first count inner run mask part i there flags made below =
    let is : inner_type ≡ type = cc in
    let under : IsRun type first count inner run = subst (λ (t : ElementType). IsRun t first count inner run) is below in
    let long : length mask.items ≡ there.total = masked_fits InvalidBytesLength (optional type) there.total inner mask there.fits in
    let due : length part.items ≡ count =
    ap (λ (xs : List ℕ). length xs) made ∙ length-between mask.items first (first + count) (omega (arith, long, there.enough)) ∙ (let e : first + count - first ≡ count = omega arith in e) in
    let flag : (place : ℕ) → place < count → slice_index part.items place ≡ slice_index mask.items (first + place) = λ place l.
    ap (λ (xs : List ℕ). slice_index xs place) made ∙ get_or-between mask.items first (first + count) place 0 (omega (arith, l)) in
    record {
      fits = then_ok _ _ (length_due InvalidBytesLength _ _ due) under.fits;
      same = λ place l. ap₂ under_flag (flag place l) (under.same place l);
      blank = λ over. (
        record {
          flags = ap (list_all (λ byte. nat_lt byte 2)) made ∙ flags_between mask.items first count flags;
          blank = λ place l z.
              let inside : place < count = omega (arith, l, due) in
              under.same place inside ∙ over.0.blank (first + place) (omega (arith, inside, long, there.enough)) (sym (flag place inside) ∙ z);
        },
        under.blank over.1,
      );
    }
masked_run (fixed width components sign) inner_type first count inner run mask part i there flags made below = absurd cc
masked_run text inner_type first count inner run mask part i there flags made below = absurd cc
masked_run bytes inner_type first count inner run mask part i there flags made below = absurd cc

-- the first ones
pub first_ones : (xs : List ℕ) (n end : ℕ) → n ≡ end → take n xs ≡ between 0 end xs
first_ones xs n end e =
    let from_first : n ≡ end - 0 = omega (arith, e) in
    ap (λ m. take m xs) from_first

-- an offset is within the bytes
pub end_there : (offsets items : List ℕ) (first count : ℕ) → is_offsets offsets ≡ true → last_of offsets ≡ length items → first + count < length offsets → slice_index offsets (first + count) ≡ length (take (slice_index offsets (first + count)) items)
end_there offsets items first count rising ending there =
    omega (arith, rising_last offsets rising (first + count) there, ending, length-take (slice_index offsets (first + count)) items)

-- ---- what is given

rises_drop : (n : ℕ) (xs : List ℕ) → rises xs ≡ true → rises (drop n xs) ≡ true
rises_drop zero xs e = e
rises_drop (suc n) [] e = refl
rises_drop (suc zero) (a ∷ []) e = refl
rises_drop (suc (suc n)) (a ∷ []) e = refl
rises_drop (suc n) (a ∷ b ∷ rest) e = rises_drop n (b ∷ rest) (second_true (nat_le a b) (rises (b ∷ rest)) e)

rises_take : (n : ℕ) (xs : List ℕ) → rises xs ≡ true → rises (take n xs) ≡ true
rises_take zero xs e = refl
rises_take (suc n) [] e = refl
rises_take (suc zero) (a ∷ rest) e = refl
rises_take (suc (suc n)) (a ∷ []) e = refl
rises_take (suc (suc n)) (a ∷ b ∷ rest) e =
    let both = both_true (nat_le a b) (rises (b ∷ rest)) e in
    and_from (nat_le a b) (rises (b ∷ take n rest)) both.0 (rises_take (suc n) (b ∷ rest) both.1)

offsets_from : (xs : List ℕ) → 0 < length xs → rises xs ≡ true → is_offsets xs ≡ true
offsets_from [] l e = absurd (omega arith)
offsets_from (a ∷ rest) l e = e

offsets_rising : (xs : List ℕ) → is_offsets xs ≡ true → rises xs ≡ true
offsets_rising [] e = refl
offsets_rising (a ∷ rest) e = e

-- some of the offsets are offsets
pub run_rising : (offsets : List ℕ) (first count : ℕ) → is_offsets offsets ≡ true → first + count < length offsets → is_offsets (between first (first + count + 1) offsets) ≡ true
run_rising offsets first count rising there =
    offsets_from (between first (first + count + 1) offsets) (omega (arith, run_long offsets first count there))
    (rises_take (first + count + 1 - first) (drop first offsets) (rises_drop first offsets (offsets_rising offsets rising)))

-- some of the offsets are always made offsets
pub run_taken : (offsets ends : List ℕ) (first count : ℕ) (cause : CodecError) → is_offsets offsets ≡ true → first + count < length offsets → ends ≡ between first (first + count + 1) offsets → Err cause ≡ offsets_of ends → ⊥
run_taken offsets ends first count cause rising there e refused =
    ok_no_err ends cause (sym (refused ∙ ap (λ b. demand b InvalidOffsets >>= (λ _. ok ends)) (ap is_offsets e ∙ run_rising offsets first count rising there)))

pub cuts_given : (offsets items ends part : List ℕ) (first count : ℕ) (result : Result Held CodecError) → is_offsets offsets ≡ true → last_of offsets ≡ length items → first + count < length offsets → ends ≡ between first (first + count + 1) offsets → part ≡ between 0 (slice_index offsets (first + count)) items
    → result ≡ with_offsets (lent_bytes part) ends → GivesValue result (Ok (vlen (lent_bytes (between 0 (slice_index offsets (first + count)) items)) (between first (first + count + 1) offsets)))
cuts_given offsets items ends part first count result rising ending there e made given =
    let end : ℕ = slice_index offsets (first + count) in
    let below : end ≤ length items = omega (arith, rising_last offsets rising (first + count) there, ending) in
    let at : count + 1 - 1 ≡ count = omega arith in
    let many : length ends ≡ count + 1 = ap (λ (xs : List ℕ). length xs) e ∙ run_long offsets first count there in
    let last : last_of ends ≡ end = ap₂ (λ (xs : List ℕ) n. slice_index xs (n - 1)) e many ∙ ap (slice_index (between first (first + count + 1) offsets)) at ∙ offset_in_run offsets first count count (omega arith) in
    let from_first : end - 0 ≡ end = omega arith in
    let long : length part ≡ end = ap (λ (xs : List ℕ). length xs) made ∙ length-between items 0 end below ∙ from_first in
    let fits : nat_eq (last_of ends) (length part) ≡ true = eq-eqb (last_of ends) (length part) (last ∙ sym long) in
    let is : result ≡ Ok (vlen (lent_bytes (between 0 end items)) (between first (first + count + 1) offsets)) =
    given ∙ ap (λ b. demand b InvalidOffsets >>= (λ _. ok (vlen (lent_bytes part) ends))) fits ∙ ap₂ (λ (xs os : List ℕ). ok (vlen (lent_bytes xs) os)) made e in
    subst (λ (r : Result Held CodecError). GivesValue r (Ok (vlen (lent_bytes (between 0 end items)) (between first (first + count + 1) offsets)))) (sym is) (record { is = refl; no_fault = refl })

-- a container that is a run is given
run_given : (type : ElementType) (first count : ℕ) (held run : Held) (result : Result Held CodecError) → Answers memory (λ (x : Held). x) result (Ok run) → IsRun type first count held run → GivesRun type first count held result
run_given type first count held run (Ok made) h is = record {
  is = subst (IsRun type first count held) (ok_is run made h) is;
  no_fault = refl;
}
run_given type first count held run (Err cause) h is = record {
  is = λ n. absurd (ok_no_err run cause (h n));
  no_fault = no_fault_from (λ (x : Held). x) (Err cause) (ok run) h refl;
}

pub fixed_given : (type : ElementType) (size first count : ℕ) (held made : Held) (items part : List ℕ) → fixed_size_of type ≡ Some size → ok items ≡ fixed_items held → ReachesTo type (first + count) held → part ≡ between (first * size) ((first + count) * size) items → made ≡ flen (lent_bytes part)
    → GivesRun type first count held (Ok made)
fixed_given type size first count held made items part s parts there cut_is made_is =
    let m = fixed_so held items parts in
    let run : IsRun type first count (flen m.0) (flen (lent_bytes part)) =
    fixed_run type size first count m.0 (lent_bytes part) s (subst (ReachesTo type (first + count)) m.1 there) (cut_is ∙ ap (between (first * size) ((first + count) * size)) m.2) in
    record {
      is = subst (λ (x : Held). IsRun type first count x made) (sym m.1) (subst (IsRun type first count (flen m.0)) (sym made_is) run);
      no_fault = refl;
    }

pub variable_given : (type : ElementType) (first count : ℕ) (held : Held) (items offsets : List ℕ) (result : Result Held CodecError) → inner_of type ≡ None → fixed_size_of type ≡ None → ok (items, offsets) ≡ variable_items held → is_offsets offsets ≡ true → first + count < length offsets
    → GivesValue result (Ok (vlen (lent_bytes (between 0 (slice_index offsets (first + count)) items)) (between first (first + count + 1) offsets))) → GivesRun type first count held result
variable_given type first count held items offsets result i s parts rising there given =
    let m = variable_so held items offsets parts in
    let run = variable_run type first count m.0 (lent_bytes (between 0 (slice_index offsets (first + count)) items)) offsets (between first (first + count + 1) offsets) s i rising there refl (ap (between 0 (slice_index offsets (first + count))) m.2) in
    run_given type first count held _ result given.is (subst (λ (x : Held). IsRun type first count x (vlen (lent_bytes (between 0 (slice_index offsets (first + count)) items)) (between first (first + count + 1) offsets))) (sym m.1) run)

-- so many elements have so many offsets
pub offsets_reach : (type : ElementType) (end : ℕ) (held : Held) (items offsets : List ℕ) → ok (items, offsets) ≡ variable_items held → ReachesTo type end held → end < length offsets
offsets_reach type end held items offsets parts there =
    let m = variable_so held items offsets parts in
    let long : length offsets ≡ there.total + 1 = variable_fits InvalidBytesLength type there.total m.0 offsets (subst (HasElements type there.total) m.1 there.fits) in
    omega (arith, long, there.enough)

pub masked_given : (type inner_type : ElementType) (first count : ℕ) (held inside run : Held) (flags part : List ℕ) (result : Result Held CodecError) → inner_of type ≡ Some inner_type → ok (inside, flags) ≡ optional_items held → ReachesTo type (first + count) held → list_all (λ byte. nat_lt byte 2) flags ≡ true
    → part ≡ between first (first + count) flags → IsRun inner_type first count inside run → Answers memory (λ (x : Held). x) result (with_mask run (lent_bytes part)) → GivesRun type first count held result
masked_given type inner_type first count held inside run flags part result i parts there are_flags cut_is below given =
    let m = masked_so held inside flags parts in
    let whole : ReachesTo type (first + count) (masked inside m.raw) = subst (ReachesTo type (first + count)) m.held_is there in
    let is = masked_run type inner_type first count inside run m.raw (lent_bytes part) i whole (ap (list_all (λ byte. nat_lt byte 2)) (sym m.mask_is) ∙ are_flags) (cut_is ∙ ap (between first (first + count)) m.mask_is) below in
    let passed : list_all (λ byte. nat_lt byte 2) part ≡ true = ap (list_all (λ byte. nat_lt byte 2)) cut_is ∙ flags_between flags first count are_flags in
    let made : with_mask run (lent_bytes part) ≡ Ok (masked run (lent_bytes part)) = ap (λ b. demand b MaskValue >>= (λ _. ok (masked run (lent_bytes part)))) passed in
    run_given type first count held (masked run (lent_bytes part)) result (subst (Answers memory (λ (x : Held). x) result) made given) (subst (λ (x : Held). IsRun type first count x (masked run (lent_bytes part))) (sym m.held_is) is)

-- the elements of a run are those of the other container
pub run_is : (type : ElementType) (first count : ℕ) (held run : Held) → IsRun type first count held run → elements type count run ≡ run_elements type first count held
run_is type first count held run is = shifted (element_at type run) (element_at type held) 0 first count (λ k l. let at : 0 + k ≡ k = omega arith in ap (element_at type run) at ∙ is.same k l)
  where
    shifted : (f g : ℕ → Element) (a b n : ℕ) → ((k : ℕ) → k < n → f (a + k) ≡ g (b + k)) → map f (range_with_len a n) ≡ map g (range_with_len b n)
    shifted f g a b zero same = refl
    shifted f g a b (suc n) same =
        let p : a ≡ a + 0 = omega arith in
        let q : b + 0 ≡ b = omega arith in
        ap₂ (λ (x : Element) (xs : List Element). x ∷ xs) (ap f p ∙ same 0 (omega arith) ∙ ap g q)
        (shifted f g (a + 1) (b + 1) n (λ k l.
        let i : a + 1 + k ≡ a + suc k = omega arith in
        let j : b + suc k ≡ b + 1 + k = omega arith in
        ap f i ∙ same (suc k) (omega (arith, l)) ∙ ap g j))

-- a run has room where the whole has
pub run_valid : (type : ElementType) (first count whole : ℕ) (held run : Held) → first + count ≤ whole → validity type whole held ≡ Ok tt → IsRun type first count held run → validity type count run ≡ Ok tt
run_valid type first count whole held run fits v is =
    let room = (both_ok (sizes_fit type whole) (levels_fit InvalidBytesLength type whole held) v).0 in
    then_ok _ _ (fewer_fit type count whole (omega (arith, fits)) room) is.fits
