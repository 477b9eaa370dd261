-- Reads in part.
use Rattle.zarrs_data_type.specs.Form.{form_of}
use Rattle.std.proofs.Common.{◌≡◌, ℕ, zero, suc, ◌+◌, ◌-◌, ◌*◌, ◌<◌, ◌≤◌, ◌^◌, ◌&&◌, Bool, true, false, nat_lt, Option, Some, None, Result, Ok, Err, List, [], ◌∷◌, ◌++◌, length, map, arith, refl, ap, sym, ◌∙◌, subst, if◌then◌else◌, Vec, Global}
use Rattle.std.specs.List.{concat, flat_map, list_all, range_with_len, sum_by}
use Rattle.std.specs.Prelude.{IsOkAnd}
use Rattle.std.proofs.lemmas.Bool.Decides.{nat_tests}
use Rattle.std.proofs.lemmas.List.{length-append}
use Rattle.std.proofs.lemmas.List.Concat.{flat_map-append}
use Rattle.std.proofs.lemmas.List.Folds.{list_all-append}
use Rattle.std.proofs.lemmas.List.FromFn.{length-range_with_len}
use Rattle.std.proofs.lemmas.List.Sums.{sum_by-cons}
use Rattle.zarrs_chunk.specs.Answer.{◌>>=◌, demand, GivesBy}
use Rattle.zarrs_chunk.specs.Runs.{joined_runs, AreApart, AreFilled}
use Rattle.zarrs_chunk.specs.declared.codec_error.CodecError.{CodecError}
use Rattle.zarrs_chunk.specs.declared.codec_error.CodecError.TheVariants.{InvalidByteRange}
use Rattle.zarrs_data_type.specs.Element.{Chunk, plain}
use Rattle.zarrs_data_type.specs.ElementType.{ElementType, fixed, text, bytes, optional, element_size}
use Rattle.zarrs_array_bytes.specs.Held.{flen, owned_bytes}
use Rattle.zarrs_array_bytes.specs.Validity.{Holds}
use Rattle.zarrs_array_bytes.proofs.Pieces.{AllSized}
use Rattle.zarrs_bytes.proofs.Coding.{ok}
use Rattle.zarrs_codec.specs.ByteRanges.{range_indices}
use Rattle.zarrs_codec.specs.ByteSpan.{ByteSpan}
use Rattle.zarrs_packbits.specs.BitStream.{element_bits, packed_element}
use Rattle.zarrs_packbits.specs.declared.layout.PackedLayout.{PackedLayout}
use Rattle.zarrs_packbits.specs.PackBitsSettings.{PackBitsSettings, packed_layout}
use Rattle.zarrs_packbits.specs.PackedLayout.{IsPackedLayout, is_whole, element_bits_len}
use Rattle.zarrs_packbits.specs.Packing.{packing}
use Rattle.zarrs_packbits.specs.PartialRead.{packed_place_bytes, packed_places_bytes, all_below, read_packed_bytes, read_packed_places, run_end, run_start}
use Rattle.zarrs_bytes.specs.PlannedRanges.{spans}
use Rattle.zarrs_packbits.specs.ReadPlan.{run_span, IsPackBitsPlan, IsPlanOfRuns}
use Rattle.zarrs_packbits.proofs.ElementBits.{AllLong, element_long, places_hold, plain_holds}
use Rattle.zarrs_packbits.proofs.FlatRead.{are_runs}
use Rattle.zarrs_packbits.proofs.RunLemmas.{all_at, place_end, runs_sure, whole_run_start, whole_run_end, head_of, tail_of}
use Rattle.zarrs_packbits.proofs.Taken.{taken}
use Rattle.zarrs_codec.proofs.Fences.{range_passes, second_true, first_true}
use Rattle.zarrs_chunk.proofs.Inside.{from_le_test}
use Rattle.zarrs_bytes.proofs.Exact.{bytes_are}

-- ---- elements of the bytes that are read

refused_if : (b : Bool) (x : List ℕ) (c : Chunk) (e : CodecError) → (if b then ok x else Err InvalidByteRange) ≡ Err e → (demand b InvalidByteRange >>= λ _. ok c) ≡ Err e
refused_if true x c e h = absurd cc
refused_if false x c e h = cc

pub places_refused : (l : PackedLayout) (type : ElementType) (fill places : List ℕ) (stored : Option (List ℕ)) (e : CodecError) → read_packed_bytes l stored fill places ≡ Err e → read_packed_places l type fill stored places ≡ Err e
places_refused l type fill places None e h = absurd cc
places_refused l type fill places (Some v) e h =
    refused_if (all_below (length v) (packed_places_bytes l places)) (packing (flat_map (element_bits l v) places)) (map (packed_element l v) places) e h

-- places whose bytes lie in the value have their elements
pub all_read : (l : PackedLayout) (v places : List ℕ) → IsPackedLayout l → all_below (length v) (packed_places_bytes l places) ≡ true → AllLong (l.group * l.size) (element_bits l v) places
all_read l v [] s h = tt
all_read l v (p ∷ ps) s h =
    let both = sym (list_all-append (λ k. nat_lt k (length v)) (packed_place_bytes l p) (packed_places_bytes l ps)) ∙ h in
    let end : run_end l (p, 1) ≤ length v = from_le_test _ _ (sym (place_end l (length v) p s) ∙ first_true _ _ both) in
    (element_long l v p s end, all_read l v ps s (second_true _ _ both))

fills_sized : (size : ℕ) (fill places : List ℕ) → length fill ≡ size → AllSized size (map (λ (_ : ℕ). fill) places)
fills_sized size fill [] h = tt
fills_sized size fill (p ∷ ps) h = (h, fills_sized size fill ps h)

fills_joined : (fill places : List ℕ) → flat_map (λ (_ : ℕ). fill) places ≡ concat (map (λ (_ : ℕ). fill) places)
fills_joined fill [] = refl
fills_joined fill (p ∷ ps) = ap (λ (l : List ℕ). fill ++ l) (fills_joined fill ps)

fills_plain : (fill places : List ℕ) → map plain (map (λ (_ : ℕ). fill) places) ≡ map (λ (_ : ℕ). plain fill) places
fills_plain fill [] = refl
fills_plain fill (p ∷ ps) = λ i. plain fill ∷ fills_plain fill ps i

found_if : (b : Bool) (x items : List ℕ) (c : Chunk) (P : Chunk → Type 0) → (if b then ok x else Err InvalidByteRange) ≡ ok items → (b ≡ true → items ≡ x → P c) → IsOkAnd (demand b InvalidByteRange >>= λ _. ok c) P
found_if true x items c P h f = f refl (bytes_are x items h)
found_if false x items c P h f = absurd cc

-- the bytes that are read hold the elements at the places
pub places_found : (settings : PackBitsSettings) (sizes : List ℕ) (type : ElementType) (fill places items : List ℕ) (stored : Option (List ℕ)) (l : PackedLayout) → packed_layout settings (form_of sizes type fill) ≡ Ok l → read_packed_bytes l stored fill places ≡ Ok items → length items < 2 ^ 64
    → IsOkAnd (read_packed_places l type fill stored places) (Holds type (flen (owned_bytes items)))
places_found settings sizes (fixed width components sign) fill places items None l e h small =
    let t = taken settings sizes width components sign fill l e in
    let long : length fill ≡ element_size width components = (let f = t.filled in grind (arith, nat_tests)) in
    let is : items ≡ flat_map (λ (_ : ℕ). fill) places = bytes_are _ _ h in
    subst (Holds (fixed width components sign) (flen (owned_bytes items))) (fills_plain fill places)
    (plain_holds width components sign (owned_bytes items) (map (λ (_ : ℕ). fill) places) (fills_sized (element_size width components) fill places long) (is ∙ fills_joined fill places) small)
places_found settings sizes (fixed width components sign) fill places items (Some v) l e h small =
    let t = taken settings sizes width components sign fill l e in
    found_if (all_below (length v) (packed_places_bytes l places)) (packing (flat_map (element_bits l v) places)) items (map (packed_element l v) places) (Holds (fixed width components sign) (flen (owned_bytes items))) h
    (λ inside is. places_hold l v places width components sign (owned_bytes items) t.size (all_read l v places t.sound inside) is small)
places_found settings sizes text fill places items stored l e h small = absurd cc
places_found settings sizes bytes fill places items stored l e h small = absurd cc
places_found settings sizes (optional type) fill places items stored l e h small = absurd cc

-- ---- the plan

places_covered : (q : ℕ → Bool) (l : PackedLayout) (a b start len : ℕ) → ((k : ℕ) → a ≤ k → k < b → q k ≡ true) → a ≤ run_start l (start, 1) → run_end l (start, len) ≤ b → list_all q (packed_places_bytes l (range_with_len start len)) ≡ true
places_covered q l a b start zero h from to = refl
places_covered q l a b start (suc len) h from to =
    let e : (start + suc len) * element_bits_len l ≡ (start + 1) * element_bits_len l + len * element_bits_len l = omega arith in
    let f : (start + 1 + len) * element_bits_len l ≡ (start + suc len) * element_bits_len l = ap (λ n. n * element_bits_len l) (let d : start + 1 + len ≡ start + suc len = omega arith in d) in
    let g : (start + 1) * element_bits_len l ≡ start * element_bits_len l + element_bits_len l = omega arith in
    let here : list_all q (packed_place_bytes l start) ≡ true = range_passes q (run_start l (start, 1)) (run_end l (start, 1) - run_start l (start, 1)) (λ k x y. h k (omega arith) (omega arith)) in
    list_all-append q (packed_place_bytes l start) (packed_places_bytes l (range_with_len (start + 1) len))
    ∙ ap (λ (x : Bool). x && list_all q (packed_places_bytes l (range_with_len (start + 1) len))) here
    ∙ places_covered q l a b (start + 1) len h (omega arith) (omega (arith, f))

runs_covered : (q : ℕ → Bool) (l : PackedLayout) (runs : List (ℕ × ℕ)) (rs : List ByteSpan) → spans rs ≡ map (run_span l) runs → list_all q (range_indices rs) ≡ true → list_all q (packed_places_bytes l (joined_runs runs)) ≡ true
runs_covered q l [] rs e h = refl
runs_covered q l (p ∷ runs) [] e h = cc
runs_covered q l (p ∷ runs) (r ∷ rs) e h =
    let pair = head_of (r.start, r.end) (run_span l p) (spans rs) (map (run_span l) runs) e in
    let rest = tail_of (r.start, r.end) (run_span l p) (spans rs) (map (run_span l) runs) e in
    let a : r.start ≡ run_start l p = ap (λ (x : ℕ × ℕ). x.0) pair in
    let b : r.end ≡ run_end l p = ap (λ (x : ℕ × ℕ). x.1) pair in
    let both = sym (list_all-append q (range_with_len r.start (r.end - r.start)) (range_indices rs)) ∙ h in
    let here = places_covered q l r.start r.end p.0 p.1 (λ k x y. all_at q r.start (r.end - r.start) (first_true _ _ both) k x (omega arith)) (omega arith) (omega arith) in
    ap (list_all q) (flat_map-append (packed_place_bytes l) (range_with_len p.0 p.1) (joined_runs runs))
    ∙ list_all-append q (packed_places_bytes l (range_with_len p.0 p.1)) (packed_places_bytes l (joined_runs runs))
    ∙ ap (λ (x : Bool). x && list_all q (packed_places_bytes l (joined_runs runs))) here
    ∙ runs_covered q l runs rs rest (second_true _ _ both)

pub same_bools : (a b : Bool) → (a ≡ true → b ≡ true) → (b ≡ true → a ≡ true) → a ≡ b
same_bools true true f g = refl
same_bools true false f g = sym (f refl)
same_bools false true f g = g refl
same_bools false false f g = refl

runs_sum : (l : PackedLayout) (runs : List (ℕ × ℕ)) (rs : List ByteSpan) → IsPackedLayout l → is_whole l ≡ true → spans rs ≡ map (run_span l) runs → sum_by (λ range. range.end - range.start) rs ≡ length (joined_runs runs) * (l.group * l.size)
runs_sum l [] [] s w e = omega arith
runs_sum l [] (r ∷ rs) s w e = cc
runs_sum l (p ∷ runs) [] s w e = cc
runs_sum l (p ∷ runs) (r ∷ rs) s w e =
    let size = l.group * l.size in
    let pair = head_of (r.start, r.end) (run_span l p) (spans rs) (map (run_span l) runs) e in
    let rest = tail_of (r.start, r.end) (run_span l p) (spans rs) (map (run_span l) runs) e in
    let a : r.start ≡ p.0 * size = ap (λ (x : ℕ × ℕ). x.0) pair ∙ sym (whole_run_start l p.0 p.1 s w) in
    let b : r.end ≡ (p.0 + p.1) * size = ap (λ (x : ℕ × ℕ). x.1) pair ∙ sym (whole_run_end l p.0 p.1 s w) in
    let d : (p.0 + p.1) * size ≡ p.0 * size + p.1 * size = omega arith in
    let n : length (joined_runs (p ∷ runs)) ≡ p.1 + length (joined_runs runs) = length-append (range_with_len p.0 p.1) (joined_runs runs) ∙ ap (λ k. k + length (joined_runs runs)) (length-range_with_len p.0 p.1) in
    let m : (p.1 + length (joined_runs runs)) * size ≡ p.1 * size + length (joined_runs runs) * size = omega arith in
    sum_by-cons (λ (r : ByteSpan). r.end - r.start) r rs ∙ omega (arith, a, b, d, runs_sum l runs rs s w rest, m) ∙ ap (λ k. k * size) (sym n)

pub plan_of : (l : PackedLayout) (runs : List (ℕ × ℕ)) (rs : List ByteSpan) → IsPackedLayout l → are_runs l.elements runs ≡ true → spans rs ≡ map (run_span l) runs → IsPlanOfRuns l runs rs
plan_of l runs rs s h e = record {
  each = e;
  bytes = λ test. same_bools (list_all test (range_indices rs)) (list_all test (packed_places_bytes l (joined_runs runs)))
      (λ all. runs_covered test l runs rs e all)
      (λ all. runs_sure test l runs rs s h e all);
  sum = λ whole. runs_sum l runs rs s whole e;
}

-- where the runs are apart, it is the plan of a read of their places
pub plan_of_runs : (l : PackedLayout) (runs : List (ℕ × ℕ)) (rs : List ByteSpan) (places : List ℕ) → AreFilled runs → AreApart runs → joined_runs runs ≡ places → IsPlanOfRuns l runs rs → IsPackBitsPlan l places rs
plan_of_runs l runs rs places filled apart same plan = record {
  runs = runs;
  filled = filled;
  apart = apart;
  joined = same;
  each = plan.each;
  bytes = λ test. plan.bytes test ∙ ap (λ (ps : List ℕ). list_all test (packed_places_bytes l ps)) same;
  sum = λ whole. plan.sum whole ∙ ap (λ (ps : List ℕ). length ps * (l.group * l.size)) same;
}

-- the plan of a read of runs that are apart is the plan of a read of the places that they cover
pub planned_places : (places : Result (List ℕ) CodecError) (layout : Result PackedLayout CodecError) (runs : List (ℕ × ℕ)) (r : Result (Vec ByteSpan Global) CodecError) → places ≡ Ok (joined_runs runs) → AreFilled runs → AreApart runs
    → GivesBy (λ ranges (l : PackedLayout). IsPlanOfRuns l runs ranges.items) r layout → GivesBy (λ ranges (read : List ℕ × PackedLayout). IsPackBitsPlan read.1 read.0 ranges.items) r (places >>= λ ps. layout >>= λ l. ok (ps, l))
planned_places (Ok ps) (Ok l) runs (Ok ranges) e filled apart plan =
    record { is = plan_of_runs l runs ranges.items ps filled apart (let same : joined_runs runs ≡ ps = cc in same) plan.is; no_fault = plan.no_fault }
planned_places (Ok ps) (Err c) runs (Ok ranges) e filled apart plan = absurd plan.is
planned_places (Ok ps) (Ok l) runs (Err c) e filled apart plan = record { is = λ due. (let never : ⊥ = cc (plan.is due) in absurd never); no_fault = plan.no_fault }
planned_places (Ok ps) (Err d) runs (Err c) e filled apart plan = record { is = λ due. cc (plan.is due); no_fault = plan.no_fault }
planned_places (Err d) layout runs r e filled apart plan = absurd cc
