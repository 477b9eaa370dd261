-- A read of ranges is a read of the places whose bytes the ranges are.
use Rattle.std.proofs.Common.{◌≡◌, ℕ, zero, suc, ◌+◌, ◌-◌, ◌*◌, ◌<◌, ◌≤◌, ◌&&◌, Bool, true, false, nat_lt, nat_le, Result, Ok, List, [], ◌∷◌, ◌++◌, length, take, drop, map, get_or, ◌^◌, arith, refl, ap, ap₂, sym, ◌∙◌}
use Rattle.std.specs.List.{All, concat, flat_map, list_all, range_with_len, sum_by}
use Rattle.std.proofs.lemmas.Bool.{and_parts}
use Rattle.std.proofs.lemmas.Bool.Decides.{nat_tests}
use Rattle.std.proofs.lemmas.List.{drop_more, take_more, map-append, append-nil, length-append}
use Rattle.std.proofs.lemmas.List.FromFn.{length-range_with_len}
use Rattle.std.proofs.lemmas.List.Sums.{sum_by-cons}
use Rattle.std.proofs.Math.Nat.{mul-le-mul_right}
use Rattle.std.proofs.lemmas.List.Concat.{flat_map-append}
use Rattle.std.proofs.lemmas.List.Folds.{list_all-append}
use Rattle.zarrs_chunk.specs.Answer.{◌>>=◌, demand}
use Rattle.zarrs_chunk.specs.Runs.{joined_runs, AreApart, AreFilled}
use Rattle.zarrs_chunk.specs.declared.codec_error.CodecError.{CodecError}
use Rattle.zarrs_chunk.specs.declared.codec_error.CodecError.TheVariants.{InvalidByteRange}
use Rattle.zarrs_array_bytes.specs.Elements.{piece}
use Rattle.zarrs_codec.specs.ByteRanges.{range_indices, bytes_in_ranges, read_value}
use Rattle.zarrs_bytes.specs.PartialRead.{place_bytes}
use Rattle.zarrs_bytes.specs.PlannedRanges.{element_span, spans, IsPlan}
use Rattle.zarrs_codec.specs.ByteSpan.{ByteSpan}
use Rattle.zarrs_chunk.proofs.Consecutive.{range-append}
use Rattle.zarrs_chunk.proofs.Inside.{from_le_test}

-- ---- bytes by number

-- n bytes from s on, one by one
pub take_drop-numbers : (value : List ℕ) (s n : ℕ) → s + n ≤ length value → take n (drop s value) ≡ map (λ k. get_or value k 0) (range_with_len s n)
take_drop-numbers value s zero h = refl
take_drop-numbers value s (suc n) h =
    let lt : s < length value = omega arith in
    let le : (s + 1) + n ≤ length value = omega arith in
    ap (take (suc n)) (drop_more value s 0 lt) ∙ ap (λ (rest : List ℕ). get_or value s 0 ∷ rest) (take_drop-numbers value (s + 1) n le)

pub below_both : (s b n : ℕ) → s < b → (nat_lt s n && nat_le b n) ≡ nat_le b n
below_both s b n h = grind (arith, nat_tests)

-- the end of a run that isn't empty bounds its numbers
pub all_below-range : (n s m : ℕ) → 0 < m → list_all (λ k. nat_lt k n) (range_with_len s m) ≡ nat_le (s + m) n
all_below-range n s zero h = absurd (omega arith)
all_below-range n s (suc zero) h = grind (arith, nat_tests)
all_below-range n s (suc (suc m)) h =
    let e = all_below-range n (s + 1) (suc m) (omega arith) in
    let more : s + 1 + suc m ≡ s + suc (suc m) = omega arith in
    ap (λ (b : Bool). nat_lt s n && b) e ∙ below_both s (s + 1 + suc m) n (omega arith) ∙ ap (λ (k : ℕ). nat_le k n) more

-- ---- spans: where bytes begin and how many they are

abbrev AllFilled : List (ℕ × ℕ) → Type 0
AllFilled spans = All (λ span. 0 < span.1) spans

tail_filled : (span : ℕ × ℕ) (spans : List (ℕ × ℕ)) → AllFilled (span ∷ spans) → AllFilled spans
tail_filled span spans h = λ k d l. h (suc k) d (omega arith)

abbrev spans_within : ℕ → List (ℕ × ℕ) → Bool
spans_within n spans = list_all (λ span. nat_le (span.0 + span.1) n) spans

abbrev spans_bytes : List ℕ → List (ℕ × ℕ) → List ℕ
spans_bytes value spans = flat_map (λ span. take span.1 (drop span.0 value)) spans

-- spans end within n exactly where their numbers are below n
spans_within-numbers : (n : ℕ) (spans : List (ℕ × ℕ)) → AllFilled spans → spans_within n spans ≡ list_all (λ k. nat_lt k n) (joined_runs spans)
spans_within-numbers n [] h = refl
spans_within-numbers n (span ∷ spans) h =
    let first : 0 < span.1 = h 0 span (omega arith) in
    ap (λ (b : Bool). nat_le (span.0 + span.1) n && b) (spans_within-numbers n spans (tail_filled span spans h))
    ∙ ap (λ (b : Bool). b && list_all (λ k. nat_lt k n) (joined_runs spans)) (sym (all_below-range n span.0 span.1 first))
    ∙ sym (list_all-append (λ k. nat_lt k n) (range_with_len span.0 span.1) (joined_runs spans))

-- and their bytes are those with these numbers
spans_bytes-numbers : (value : List ℕ) (spans : List (ℕ × ℕ)) → spans_within (length value) spans ≡ true → spans_bytes value spans ≡ map (λ k. get_or value k 0) (joined_runs spans)
spans_bytes-numbers value [] h = refl
spans_bytes-numbers value (span ∷ spans) h =
    let both = and_parts (nat_le (span.0 + span.1) (length value)) (spans_within (length value) spans) h in
    ap (λ (l : List ℕ). l ++ spans_bytes value spans) (take_drop-numbers value span.0 span.1 (from_le_test _ _ both.0))
    ∙ ap (λ (l : List ℕ). map (λ k. get_or value k 0) (range_with_len span.0 span.1) ++ l) (spans_bytes-numbers value spans both.1)
    ∙ sym (map-append (λ k. get_or value k 0) (range_with_len span.0 span.1) (joined_runs spans))

-- ---- ranges and places as spans

abbrev span_of : ByteSpan → ℕ × ℕ
span_of range = (range.start, range.end - range.start)

abbrev place_span : ℕ → ℕ → ℕ × ℕ
place_span size place = (place * size, size)

range_spans-numbers : (ranges : List ByteSpan) → joined_runs (map span_of ranges) ≡ range_indices ranges
range_spans-numbers [] = refl
range_spans-numbers (range ∷ ranges) = ap (λ (l : List ℕ). range_with_len range.start (range.end - range.start) ++ l) (range_spans-numbers ranges)

place_spans-numbers : (size : ℕ) (places : List ℕ) → joined_runs (map (place_span size) places) ≡ place_bytes size places
place_spans-numbers size [] = refl
place_spans-numbers size (place ∷ places) = ap (λ (l : List ℕ). range_with_len (place * size) size ++ l) (place_spans-numbers size places)

range_spans-filled : (ranges : List ByteSpan) → All (λ range. range.start < range.end) ranges → AllFilled (map span_of ranges)
range_spans-filled [] h = λ k d l. absurd (omega arith)
range_spans-filled (range ∷ ranges) h = λ k d.
    elim k as (λ j. j < length (map span_of (range ∷ ranges)) → 0 < (get_or (map span_of (range ∷ ranges)) j d).1) [
      | zero ↦ (λ l. let lt : range.start < range.end = h 0 range (omega arith) in omega arith)
      | suc j ↦ (λ l. range_spans-filled ranges (λ i e m. h (suc i) e (omega arith)) j d (omega arith))
    ]

place_spans-filled : (size : ℕ) (places : List ℕ) → 0 < size → AllFilled (map (place_span size) places)
place_spans-filled size [] p = λ k d l. absurd (omega arith)
place_spans-filled size (place ∷ places) p = λ k d.
    elim k as (λ j. j < length (map (place_span size) (place ∷ places)) → 0 < (get_or (map (place_span size) (place ∷ places)) j d).1) [
      | zero ↦ (λ l. p)
      | suc j ↦ (λ l. place_spans-filled size places p j d (omega arith))
    ]

end_is : (range : ByteSpan) → range.start ≤ range.end → range.start + (range.end - range.start) ≡ range.end
end_is range h = omega arith

range_spans-within : (n : ℕ) (ranges : List ByteSpan) → All (λ range. range.start < range.end) ranges → spans_within n (map span_of ranges) ≡ list_all (λ range. nat_le range.end n) ranges
range_spans-within n [] h = refl
range_spans-within n (range ∷ ranges) h =
    let lt : range.start < range.end = h 0 range (omega arith) in
    ap (λ (k : ℕ). nat_le k n && spans_within n (map span_of ranges)) (end_is range (omega arith))
    ∙ ap (λ (b : Bool). nat_le range.end n && b) (range_spans-within n ranges (λ i e m. h (suc i) e (omega arith)))

range_spans-bytes : (value : List ℕ) (ranges : List ByteSpan) → spans_bytes value (map span_of ranges) ≡ bytes_in_ranges value ranges
range_spans-bytes value [] = refl
range_spans-bytes value (range ∷ ranges) = ap (λ (l : List ℕ). take (range.end - range.start) (drop range.start value) ++ l) (range_spans-bytes value ranges)

place_spans-within : (n size : ℕ) (places : List ℕ) → spans_within n (map (place_span size) places) ≡ list_all (λ place. nat_le (place * size + size) n) places
place_spans-within n size [] = refl
place_spans-within n size (place ∷ places) = ap (λ (b : Bool). nat_le (place * size + size) n && b) (place_spans-within n size places)

place_spans-bytes : (value : List ℕ) (size : ℕ) (places : List ℕ) → spans_bytes value (map (place_span size) places) ≡ concat (map (piece size value) places)
place_spans-bytes value size [] = refl
place_spans-bytes value size (place ∷ places) =
    let one : size ≡ place * size + size - place * size = omega arith in
    ap (λ (n : ℕ). take n (drop (place * size) value) ++ spans_bytes value (map (place_span size) places)) one
    ∙ ap (λ (l : List ℕ). piece size value place ++ l) (place_spans-bytes value size places)

-- ranges end within n exactly where the numbers of their bytes are below n
pub ranges_within-numbers : (n : ℕ) (ranges : List ByteSpan) → All (λ range. range.start < range.end) ranges → list_all (λ range. nat_le range.end n) ranges ≡ list_all (λ k. nat_lt k n) (range_indices ranges)
ranges_within-numbers n ranges filled =
    sym (range_spans-within n ranges filled)
    ∙ spans_within-numbers n (map span_of ranges) (range_spans-filled ranges filled)
    ∙ ap (list_all (λ k. nat_lt k n)) (range_spans-numbers ranges)

-- and their bytes are those with these numbers
pub ranges_bytes-numbers : (value : List ℕ) (ranges : List ByteSpan) → All (λ range. range.start < range.end) ranges → list_all (λ range. nat_le range.end (length value)) ranges ≡ true
    → bytes_in_ranges value ranges ≡ map (λ k. get_or value k 0) (range_indices ranges)
ranges_bytes-numbers value ranges filled inside =
    sym (range_spans-bytes value ranges)
    ∙ spans_bytes-numbers value (map span_of ranges) (range_spans-within (length value) ranges filled ∙ inside)
    ∙ ap (map (λ k. get_or value k 0)) (range_spans-numbers ranges)

-- ---- the read

abbrev read_if : Bool → List ℕ → Result (List ℕ) CodecError
read_if test bytes = demand test InvalidByteRange >>= λ _. Ok bytes

same_if : (a b : Bool) (xs ys : List ℕ) → a ≡ b → (b ≡ true → xs ≡ ys) → read_if a xs ≡ read_if b ys
same_if true true xs ys e h = ap (read_if true) (h refl)
same_if false false xs ys e h = refl
same_if true false xs ys e h = absurd cc
same_if false true xs ys e h = absurd cc

-- ranges whose bytes are those of the places read what stands at the places
pub read_value-places : (size : ℕ) (value places : List ℕ) (ranges : List ByteSpan) → 0 < size → range_indices ranges ≡ place_bytes size places → All (λ range. range.start < range.end) ranges
    → read_value value ranges ≡ (demand (list_all (λ place. nat_le (place * size + size) (length value)) places) InvalidByteRange >>= λ _. Ok (concat (map (piece size value) places)))
read_value-places size value places ranges positive numbers filled =
    let n = length value in
    let xs = map span_of ranges in
    let ys = map (place_span size) places in
    let same : joined_runs xs ≡ joined_runs ys = range_spans-numbers ranges ∙ numbers ∙ sym (place_spans-numbers size places) in
    let x-filled = range_spans-filled ranges filled in
    let y-filled = place_spans-filled size places positive in
    let tests : spans_within n xs ≡ spans_within n ys
    = spans_within-numbers n xs x-filled ∙ ap (list_all (λ k. nat_lt k n)) same ∙ sym (spans_within-numbers n ys y-filled) in
    let within : list_all (λ range. nat_le range.end n) ranges ≡ list_all (λ place. nat_le (place * size + size) n) places
    = sym (range_spans-within n ranges filled) ∙ tests ∙ place_spans-within n size places in
    same_if (list_all (λ range. nat_le range.end n) ranges) (list_all (λ place. nat_le (place * size + size) n) places) (bytes_in_ranges value ranges) (concat (map (piece size value) places)) within
    (λ e.
    let y-within : spans_within n ys ≡ true = place_spans-within n size places ∙ e in
    sym (range_spans-bytes value ranges)
    ∙ spans_bytes-numbers value xs (tests ∙ y-within)
    ∙ ap (map (λ k. get_or value k 0)) same
    ∙ sym (spans_bytes-numbers value ys y-within)
    ∙ place_spans-bytes value size places)

-- ---- making the ranges

-- the bytes of consecutive places are consecutive
pub place_bytes-run : (size start len : ℕ) → place_bytes size (range_with_len start len) ≡ range_with_len (start * size) (len * size)
place_bytes-run size start zero = ap (range_with_len (start * size)) (let z : 0 ≡ 0 * size = omega arith in z)
place_bytes-run size start (suc len) =
    let next : (start + 1) * size ≡ start * size + size = omega arith in
    let all : size + len * size ≡ suc len * size = omega arith in
    ap (λ (l : List ℕ). range_with_len (start * size) size ++ l) (place_bytes-run size (start + 1) len)
    ∙ ap (λ k. range_with_len (start * size) size ++ range_with_len k (len * size)) next
    ∙ sym (range-append (start * size) size (len * size))
    ∙ ap (range_with_len (start * size)) all

pub place_bytes-append : (size : ℕ) (xs ys : List ℕ) → place_bytes size (xs ++ ys) ≡ place_bytes size xs ++ place_bytes size ys
place_bytes-append size xs ys = flat_map-append (λ place. range_with_len (place * size) size) xs ys

pub range_indices-push : (ranges : List ByteSpan) (range : ByteSpan) → range_indices (ranges ++ range ∷ []) ≡ range_indices ranges ++ range_with_len range.start (range.end - range.start)
range_indices-push ranges range =
    flat_map-append (λ (r : ByteSpan). range_with_len r.start (r.end - r.start)) ranges (range ∷ [])
    ∙ ap (λ (l : List ℕ). range_indices ranges ++ l) (append-nil (range_with_len range.start (range.end - range.start)))

pub joined_runs-more : (runs : List (ℕ × ℕ)) (index : ℕ) (d : ℕ × ℕ) → index < length runs → joined_runs (take (index + 1) runs) ≡ joined_runs (take index runs) ++ range_with_len (get_or runs index d).0 (get_or runs index d).1
joined_runs-more runs index d h =
    ap joined_runs (take_more runs index d h)
    ∙ flat_map-append (λ (run : ℕ × ℕ). range_with_len run.0 run.1) (take index runs) (get_or runs index d ∷ [])
    ∙ ap (λ (l : List ℕ). joined_runs (take index runs) ++ l) (append-nil (range_with_len (get_or runs index d).0 (get_or runs index d).1))

-- one run more
pub ranges_more : (size : ℕ) (runs : List (ℕ × ℕ)) (index : ℕ) (d : ℕ × ℕ) (ranges : List ByteSpan) (range : ByteSpan) → index < length runs → range_indices ranges ≡ place_bytes size (joined_runs (take index runs)) → range.start ≡ (get_or runs index d).0 * size → range.end ≡ (get_or runs index d).0 * size + (get_or runs index d).1 * size
    → range_indices (ranges ++ range ∷ []) ≡ place_bytes size (joined_runs (take (index + 1) runs))
ranges_more size runs index d ranges range h is start end =
    let run = get_or runs index d in
    let len : range.end - range.start ≡ run.1 * size = omega (arith, start, end) in
    range_indices-push ranges range
    ∙ ap (λ (l : List ℕ). l ++ range_with_len range.start (range.end - range.start)) is
    ∙ ap (λ k. place_bytes size (joined_runs (take index runs)) ++ range_with_len k (range.end - range.start)) start
    ∙ ap (λ k. place_bytes size (joined_runs (take index runs)) ++ range_with_len (run.0 * size) k) len
    ∙ ap (λ (l : List ℕ). place_bytes size (joined_runs (take index runs)) ++ l) (sym (place_bytes-run size run.0 run.1))
    ∙ sym (place_bytes-append size (joined_runs (take index runs)) (range_with_len run.0 run.1))
    ∙ ap (place_bytes size) (sym (joined_runs-more runs index d h))

-- and one span more
pub spans_more : (size : ℕ) (runs : List (ℕ × ℕ)) (index : ℕ) (d : ℕ × ℕ) (ranges : List ByteSpan) (range : ByteSpan) → index < length runs → spans ranges ≡ map (element_span size) (take index runs) → range.start ≡ (get_or runs index d).0 * size → range.end ≡ (get_or runs index d).0 * size + (get_or runs index d).1 * size
    → spans (ranges ++ range ∷ []) ≡ map (element_span size) (take (index + 1) runs)
spans_more size runs index d ranges range h is start end =
    let run = get_or runs index d in
    let front : List (ℕ × ℕ) = map (element_span size) (take index runs) in
    let last : range.end ≡ (run.0 + run.1) * size = omega (arith, end) in
    map-append (λ (r : ByteSpan). (r.start, r.end)) ranges (range ∷ [])
    ∙ ap (λ (l : List (ℕ × ℕ)). l ++ (range.start, range.end) ∷ []) is
    ∙ ap₂ (λ (s e : ℕ). front ++ (s, e) ∷ []) start last
    ∙ sym (map-append (element_span size) (take index runs) (run ∷ []))
    ∙ ap (map (element_span size)) (sym (take_more runs index d h))

-- runs within the elements end where 64 bits count their bytes
pub runs_fit : (runs : List (ℕ × ℕ)) (total size : ℕ) → All (λ run. run.0 + run.1 ≤ total) runs → total * size < 2 ^ 64 → All (λ run. (run.0 + run.1) * size < 2 ^ 64) runs
runs_fit runs total size h fits = λ k d l. omega (arith, mul-le-mul_right size (h k d l), fits)

range_lengths : (ranges : List ByteSpan) → length (range_indices ranges) ≡ sum_by (λ range. range.end - range.start) ranges
range_lengths [] = refl
range_lengths (range ∷ ranges) =
    omega (arith, length-append (range_with_len range.start (range.end - range.start)) (range_indices ranges), length-range_with_len range.start (range.end - range.start), range_lengths ranges, sum_by-cons (λ (r : ByteSpan). r.end - r.start) range ranges)

pub place_lengths : (size : ℕ) (places : List ℕ) → length (place_bytes size places) ≡ length places * size
place_lengths size [] = omega arith
place_lengths size (place ∷ places) =
    omega (arith, length-append (range_with_len (place * size) size) (place_bytes size places), length-range_with_len (place * size) size, place_lengths size places)

-- ranges whose bytes are those of the places have as many of them
pub ranges_sum : (size : ℕ) (places : List ℕ) (ranges : List ByteSpan) → range_indices ranges ≡ place_bytes size places → sum_by (λ range. range.end - range.start) ranges ≡ length places * size
ranges_sum size places ranges h = sym (range_lengths ranges) ∙ ap length h ∙ place_lengths size places

-- ranges of runs that are apart are the plan of a read of their places
pub plan_of_runs : (size : ℕ) (runs : List (ℕ × ℕ)) (ranges : List ByteSpan) → AreFilled runs → AreApart runs → spans ranges ≡ map (element_span size) runs → range_indices ranges ≡ place_bytes size (joined_runs runs) → IsPlan size (joined_runs runs) ranges
plan_of_runs size runs ranges filled apart each bytes = record {
  runs = runs;
  filled = filled;
  apart = apart;
  joined = refl;
  each = each;
  bytes = bytes;
  sum = ranges_sum size (joined_runs runs) ranges bytes;
}
