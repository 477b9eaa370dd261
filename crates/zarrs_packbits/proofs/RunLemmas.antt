-- Runs of places.
use Rattle.std.proofs.Common.{◌≡◌, ℕ, zero, suc, ◌+◌, ◌-◌, ◌*◌, ◌/◌, ◌%◌, ◌^◌, ◌<◌, ◌≤◌, ◌&&◌, List, [], ◌∷◌, ◌++◌, Bool, true, false, nat_lt, nat_le, map, length, take, drop, arith, refl, ap, sym, ◌∙◌, Option, Some, None, Result, Ok, Err, if◌then◌else◌}
use Rattle.std.specs.List.{flat_map, range_with_len, list_all}
use Rattle.std.proofs.Common.{inl, inr}
use Rattle.std.proofs.lemmas.Bool.{cases_lt}
use Rattle.std.proofs.Math.Nat.{mul-le-mul_right}
use Rattle.std.proofs.lemmas.List.{append-nil, length-take-le, length-drop, length-append, take_at, drop_at}
use Rattle.std.proofs.lemmas.List.Concat.{flat_map-append}
use Rattle.std.proofs.lemmas.List.Folds.{list_all-append}
use Rattle.std.proofs.lemmas.Bool.Decides.{nat_tests}
use Rattle.zarrs_packbits.specs.Bits.{bits_of, field}
use Rattle.zarrs_array_bytes.proofs.UpdateSteps.{range_more}
use Rattle.zarrs_codec.specs.ByteSpan.{ByteSpan}
use Rattle.zarrs_packbits.specs.PartialRead.{all_below, packed_place_bytes, run_end, run_start}
use Rattle.zarrs_bytes.proofs.Ranges.{all_below-range}
use Rattle.zarrs_packbits.proofs.FlatRead.{end_within, ranges_bytes, range_bytes, local_read, are_runs}
use Rattle.zarrs_codec.specs.ByteRanges.{read_ranges, range_indices}
use Rattle.zarrs_codec.specs.StorageState.{are_sure}
use Rattle.zarrs_chunk.specs.Answer.{◌>>=◌, demand}
use Rattle.zarrs_chunk.specs.declared.codec_error.CodecError.{CodecError}
use Rattle.zarrs_chunk.specs.declared.codec_error.CodecError.TheVariants.{InvalidByteRange}
use Rattle.zarrs_codec.proofs.Fences.{range_passes, second_true, first_true}
use Rattle.zarrs_chunk.proofs.Inside.{from_lt_test, from_le_test}
use Rattle.zarrs_packbits.specs.declared.layout.PackedLayout.{PackedLayout}
use Rattle.zarrs_packbits.specs.PackedLayout.{IsPackedLayout, is_whole, layout_components, bits_in, element_bits_len}
use Rattle.zarrs_metadata.specs.declared.codec.packbits.PackBitsPaddingEncoding.{PackBitsPaddingEncoding}
use Rattle.zarrs_packbits.specs.KeptBits.{full_component}
use Rattle.zarrs_packbits.specs.Packing.{packing}
use Rattle.zarrs_packbits.specs.PaddingByte.{lead, padding_bytes_before}
use Rattle.zarrs_packbits.specs.BitStream.{components_from, element_bits}
use Rattle.zarrs_bytes.specs.PlannedRanges.{spans}
use Rattle.zarrs_packbits.specs.ReadPlan.{run_span, run_bits, runs_len}
use Rattle.zarrs_chunk.specs.Runs.{joined_runs}
use Rattle.zarrs_packbits.proofs.LocalLemmas.{ordered_run, whole_element, element_some, field_of_piece, field_of_rest, flat_range_same}
use Rattle.zarrs_packbits.proofs.BlockLemmas.{components_more}

pub run_within : (l : PackedLayout) (start len : ℕ) → start + len ≤ l.elements → (start + len) * element_bits_len l ≤ bits_in l
run_within l start len h =
    let m : (start + len) * element_bits_len l ≤ l.elements * element_bits_len l = mul-le-mul_right (element_bits_len l) h in
    let e : l.elements * element_bits_len l ≡ bits_in l = omega arith in
    omega arith

pub run_parts : (l : PackedLayout) (start len : ℕ) → IsPackedLayout l → start + len ≤ l.elements → len * l.group < 2 ^ 64
run_parts l start len s h =
    let m : len * l.group ≤ layout_components l = mul-le-mul_right {m = len} {n = l.elements} l.group (omega arith) in
    let size : 1 ≤ l.size = omega (arith, s.size, s.some) in
    let n : 1 * layout_components l ≤ l.size * layout_components l = mul-le-mul_right (layout_components l) size in
    let e : l.size * layout_components l ≡ layout_components l * l.size = omega arith in
    omega (arith, s.bytes_fit)

pub whole_run_bytes : (l : PackedLayout) (start len : ℕ) → IsPackedLayout l → start + len ≤ l.elements → (start + len) * (l.group * l.size) < 2 ^ 64
whole_run_bytes l start len s h =
    let m : (start + len) * (l.group * l.size) ≤ l.elements * (l.group * l.size) = mul-le-mul_right (l.group * l.size) h in
    let e : l.elements * (l.group * l.size) ≡ layout_components l * l.size = omega arith in
    omega (arith, s.bytes_fit)

whole_at : (l : PackedLayout) (n : ℕ) → IsPackedLayout l → is_whole l ≡ true → n * element_bits_len l ≡ 8 * (n * (l.group * l.size))
whole_at l n s h = ap (λ k. n * k) (whole_element l s h) ∙ (let d : n * (8 * (l.group * l.size)) ≡ 8 * (n * (l.group * l.size)) = omega arith in d)

pub whole_run_start : (l : PackedLayout) (start len : ℕ) → IsPackedLayout l → is_whole l ≡ true → start * (l.group * l.size) ≡ run_start l (start, len)
whole_run_start l start len s h =
    let e = whole_at l start s h in
    let z : lead l ≡ 0 = ap (λ (p : PackBitsPaddingEncoding). length (padding_bytes_before p 0)) (s.bare h) in
    omega arith

pub whole_run_end : (l : PackedLayout) (start len : ℕ) → IsPackedLayout l → is_whole l ≡ true → (start + len) * (l.group * l.size) ≡ run_end l (start, len)
whole_run_end l start len s h =
    let e = whole_at l (start + len) s h in
    let z : lead l ≡ 0 = ap (λ (p : PackBitsPaddingEncoding). length (padding_bytes_before p 0)) (s.bare h) in
    omega arith

pub run_some : (l : PackedLayout) (start len : ℕ) → IsPackedLayout l → 0 < len → start * element_bits_len l + 1 ≤ (start + len) * element_bits_len l
run_some l start len s h =
    let one : 1 ≤ len = omega arith in
    let m : 1 * element_bits_len l ≤ len * element_bits_len l = mul-le-mul_right (element_bits_len l) one in
    let e : (start + len) * element_bits_len l ≡ start * element_bits_len l + len * element_bits_len l = omega arith in
    omega (arith, element_some l s)

-- ---- a run's components are its places' components

pub run_elements : (l : PackedLayout) (v : List ℕ) (start len : ℕ) → components_from l (start * element_bits_len l) (len * l.group) (bits_of (drop (lead l) v)) ≡ flat_map (element_bits l v) (range_with_len start len)
run_elements l v start zero = ap (λ n. components_from l (start * element_bits_len l) n (bits_of (drop (lead l) v))) (let e : 0 * l.group ≡ 0 = omega arith in e)
run_elements l v start (suc len) =
    let bits = bits_of (drop (lead l) v) in
    let at = start * element_bits_len l in
    ap (λ n. components_from l at n bits) (let e : suc len * l.group ≡ len * l.group + l.group = omega arith in e)
    ∙ components_more l at (len * l.group) l.group bits
    ∙ ap (λ xs. xs ++ components_from l (at + len * l.group * l.count) l.group bits) (run_elements l v start len)
    ∙ ap (λ n. flat_map (element_bits l v) (range_with_len start len) ++ components_from l n l.group bits) (let e : at + len * l.group * l.count ≡ (start + len) * element_bits_len l = omega arith in e)
    ∙ ap (λ xs. flat_map (element_bits l v) (range_with_len start len) ++ xs) (sym (append-nil (element_bits l v (start + len))))
    ∙ sym (flat_map-append (element_bits l v) (range_with_len start len) ((start + len) ∷ []))
    ∙ ap (flat_map (element_bits l v)) (sym (range_more start len) ∙ ap (range_with_len start) (let e : len + 1 ≡ suc len = omega arith in e))

-- and its bytes lie inside where those of its places do
both_le : (a b n : ℕ) → a ≤ b → (nat_le a n && nat_le b n) ≡ nat_le b n
both_le a b n h = grind (arith, nat_tests)

pub place_end : (l : PackedLayout) (n p : ℕ) → IsPackedLayout l → all_below n (packed_place_bytes l p) ≡ nat_le (run_end l (p, 1)) n
place_end l n p s =
    let next : (p + 1) * element_bits_len l ≡ p * element_bits_len l + element_bits_len l = omega arith in
    let some : run_start l (p, 1) < run_end l (p, 1) = omega (arith, element_some l s) in
    all_below-range n (run_start l (p, 1)) (run_end l (p, 1) - run_start l (p, 1)) (omega arith) ∙ ap (λ k. nat_le k n) (let e : run_start l (p, 1) + (run_end l (p, 1) - run_start l (p, 1)) ≡ run_end l (p, 1) = omega arith in e)

pub run_inside : (l : PackedLayout) (n start len : ℕ) → IsPackedLayout l → all_below n (flat_map (packed_place_bytes l) (range_with_len start (len + 1))) ≡ nat_le (run_end l (start, len + 1)) n
run_inside l n start zero s =
    list_all-append (λ k. nat_lt k n) (packed_place_bytes l start) []
    ∙ ap (λ (b : Bool). b && true) (place_end l n start s)
    ∙ and_true (nat_le (run_end l (start, 1)) n)
  where
    and_true : (b : Bool) → (b && true) ≡ b
    and_true true = refl
    and_true false = refl
run_inside l n start (suc len) s =
    let p = start + suc len in
    let front = flat_map (packed_place_bytes l) (range_with_len start (suc len)) in
    let more : (start + (len + 1)) * element_bits_len l ≤ (p + 1) * element_bits_len l = mul-le-mul_right (element_bits_len l) (let e : start + (len + 1) ≤ p + 1 = omega arith in e) in
    ap (λ ns. all_below n (flat_map (packed_place_bytes l) ns)) (range_more start (suc len))
    ∙ ap (all_below n) (flat_map-append (packed_place_bytes l) (range_with_len start (suc len)) (p ∷ []) ∙ ap (λ xs. front ++ xs) (append-nil (packed_place_bytes l p)))
    ∙ list_all-append (λ k. nat_lt k n) front (packed_place_bytes l p)
    ∙ ap (λ (b : Bool). b && all_below n (packed_place_bytes l p)) (ap (λ m. all_below n (flat_map (packed_place_bytes l) (range_with_len start m))) (let e : suc len ≡ len + 1 = omega arith in e) ∙ run_inside l n start len s)
    ∙ ap (λ (b : Bool). nat_le (run_end l (start, len + 1)) n && b) (place_end l n p s)
    ∙ both_le (run_end l (start, len + 1)) (run_end l (p, 1)) n (omega arith)
    ∙ ap (λ m. nat_le (lead l + (m * element_bits_len l + 7) / 8) n) (let e : p + 1 ≡ start + (suc len + 1) = omega arith in e)

-- ---- of a run's bytes

run_len_holds : (l : PackedLayout) (start len : ℕ) → start * element_bits_len l % 8 + len * element_bits_len l ≤ 8 * (run_end l (start, len) - run_start l (start, len))
run_len_holds l start len =
    let e : (start + len) * element_bits_len l ≡ start * element_bits_len l + len * element_bits_len l = omega arith in
    omega arith

run_of_piece : (l : PackedLayout) (v : List ℕ) (start len : ℕ) → run_end l (start, len) ≤ length v → run_start l (start, len) ≤ run_end l (start, len)
    → components_from l (start * element_bits_len l % 8) (len * l.group) (bits_of (take (run_end l (start, len) - run_start l (start, len)) (drop (run_start l (start, len)) v))) ≡ components_from l (start * element_bits_len l) (len * l.group) (bits_of (drop (lead l) v))
run_of_piece l v start len h le =
    let k = l.count in
    let from = run_start l (start, len) in
    let m = run_end l (start, len) - from in
    let o = start * element_bits_len l % 8 in
    let here : ℕ → List ℕ = λ part. field (o + part * k) k (bits_of (take m (drop from v))) in
    let there : ℕ → List ℕ = λ part. field (start * element_bits_len l + part * k) k (bits_of (drop (lead l) v)) in
    let same : (part : ℕ) → part < len * l.group → here part ≡ there part = λ part lt.
    let more : part + 1 ≤ len * l.group = omega arith in
    let row : (part + 1) * k ≤ len * l.group * k = mul-le-mul_right k more in
    let next : (part + 1) * k ≡ part * k + k = omega arith in
    let all : len * l.group * k ≡ len * element_bits_len l = omega arith in
    field_of_piece v from m (o + part * k) k (omega arith) (omega (arith, run_len_holds l start len))
    ∙ ap (λ n. field n k (bits_of v)) (let e : 8 * from + (o + part * k) ≡ 8 * lead l + (start * element_bits_len l + part * k) = omega arith in e)
    ∙ sym (field_of_rest v (lead l) (start * element_bits_len l + part * k) k) in
    flat_range_same (λ part. full_component l.first l.above l.sign (here part)) (λ part. full_component l.first l.above l.sign (there part)) (len * l.group) (λ part lt. ap (full_component l.first l.above l.sign) (same part lt))

pub record IsRun (count : ℕ) (r : ℕ × ℕ) (rs : List (ℕ × ℕ)) : Type 0 where
  pub some : 0 < r.1
  pub within : r.0 + r.1 ≤ count
  pub rest : are_runs count rs ≡ true

pub is_run : (count : ℕ) (r : ℕ × ℕ) (rs : List (ℕ × ℕ)) → are_runs count (r ∷ rs) ≡ true → IsRun count r rs
is_run count r rs h =
    let here = first_true (nat_lt 0 r.1 && nat_le (r.0 + r.1) count) (are_runs count rs) h in
    record {
      some = from_lt_test _ _ (first_true (nat_lt 0 r.1) (nat_le (r.0 + r.1) count) here);
      within = from_le_test _ _ (second_true (nat_lt 0 r.1) (nat_le (r.0 + r.1) count) here);
      rest = second_true (nat_lt 0 r.1 && nat_le (r.0 + r.1) count) (are_runs count rs) h;
    }

-- ---- reading runs is reading places

pub head_of : (a b : ℕ × ℕ) (xs ys : List (ℕ × ℕ)) → a ∷ xs ≡ b ∷ ys → a ≡ b
head_of a b xs ys e = cc

pub tail_of : (a b : ℕ × ℕ) (xs ys : List (ℕ × ℕ)) → a ∷ xs ≡ b ∷ ys → xs ≡ ys
tail_of a b xs ys e = cc

pub run_bits_are : (l : PackedLayout) (v : List ℕ) (runs : List (ℕ × ℕ)) (rs : List ByteSpan) → spans rs ≡ map (run_span l) runs → end_within (length v) rs ≡ true → run_bits l (ranges_bytes v rs) runs ≡ flat_map (element_bits l v) (joined_runs runs)
run_bits_are l v [] rs e h = refl
run_bits_are l v (p ∷ runs) [] e h = cc
run_bits_are l v (p ∷ runs) (r ∷ rs) e h =
    let pair = head_of (r.start, r.end) (run_span l p) (spans rs) (map (run_span l) runs) e in
    let rest = tail_of (r.start, r.end) (run_span l p) (spans rs) (map (run_span l) runs) e in
    let s : r.start ≡ run_start l p = ap (λ (x : ℕ × ℕ). x.0) pair in
    let t : r.end ≡ run_end l p = ap (λ (x : ℕ × ℕ). x.1) pair in
    let within : r.end ≤ length v = from_le_test _ _ (first_true _ _ h) in
    let o' = ordered_run l p.0 p.1 in
    let ordered : r.start ≤ r.end = omega arith in
    let len = run_end l p - run_start l p in
    let piece = take len (drop (run_start l p) v) in
    let is : range_bytes v r ≡ piece = ap (λ n. take (n - r.start) (drop r.start v)) t ∙ ap (λ n. take (run_end l p - n) (drop n v)) s in
    let n : length piece ≡ len = length-take-le len (drop (run_start l p) v) (omega (arith, length-drop (run_start l p) v)) in
    let more = ranges_bytes v rs in
    let o = p.0 * element_bits_len l % 8 in
    let g = p.1 * l.group in
    ap (λ b. components_from l o g (bits_of (take len (b ++ more))) ++ run_bits l (drop len (b ++ more)) runs) is
    ∙ ap (λ b. components_from l o g (bits_of b) ++ run_bits l (drop len (piece ++ more)) runs) (take_at piece more len n)
    ∙ ap (λ b. components_from l o g (bits_of piece) ++ run_bits l b runs) (drop_at piece more len n)
    ∙ ap (λ b. b ++ run_bits l more runs) (run_of_piece l v p.0 p.1 (omega arith) (omega arith) ∙ run_elements l v p.0 p.1)
    ∙ ap (λ b. flat_map (element_bits l v) (range_with_len p.0 p.1) ++ b) (run_bits_are l v runs rs rest (second_true _ _ h))
    ∙ sym (flat_map-append (element_bits l v) (range_with_len p.0 p.1) (joined_runs runs))

pub runs_len_is : (l : PackedLayout) (v : List ℕ) (runs : List (ℕ × ℕ)) (rs : List ByteSpan) → spans rs ≡ map (run_span l) runs → end_within (length v) rs ≡ true → length (ranges_bytes v rs) ≡ runs_len l runs
runs_len_is l v [] [] e h = refl
runs_len_is l v [] (r ∷ rs) e h = cc
runs_len_is l v (p ∷ runs) [] e h = cc
runs_len_is l v (p ∷ runs) (r ∷ rs) e h =
    let pair = head_of (r.start, r.end) (run_span l p) (spans rs) (map (run_span l) runs) e in
    let rest = tail_of (r.start, r.end) (run_span l p) (spans rs) (map (run_span l) runs) e in
    let s : r.start ≡ run_start l p = ap (λ (x : ℕ × ℕ). x.0) pair in
    let t : r.end ≡ run_end l p = ap (λ (x : ℕ × ℕ). x.1) pair in
    let within : r.end ≤ length v = from_le_test _ _ (first_true _ _ h) in
    let o' = ordered_run l p.0 p.1 in
    let ordered : r.start ≤ r.end = omega arith in
    let n : length (range_bytes v r) ≡ r.end - r.start = length-take-le (r.end - r.start) (drop r.start v) (omega (arith, length-drop r.start v)) in
    omega (arith, length-append (range_bytes v r) (ranges_bytes v rs), runs_len_is l v runs rs rest (second_true _ _ h))

run_inside_at : (l : PackedLayout) (n start len : ℕ) → IsPackedLayout l → 0 < len → all_below n (flat_map (packed_place_bytes l) (range_with_len start len)) ≡ nat_le (run_end l (start, len)) n
run_inside_at l n start len s h =
    let e : len ≡ (len - 1) + 1 = omega arith in
    ap (λ m. all_below n (flat_map (packed_place_bytes l) (range_with_len start m))) e ∙ run_inside l n start (len - 1) s ∙ ap (λ m. nat_le (run_end l (start, m)) n) (sym e)

-- the ranges end inside exactly where the places' bytes lie inside
pub runs_inside : (l : PackedLayout) (n : ℕ) (runs : List (ℕ × ℕ)) (rs : List ByteSpan) → IsPackedLayout l → are_runs l.elements runs ≡ true → spans rs ≡ map (run_span l) runs → all_below n (flat_map (packed_place_bytes l) (joined_runs runs)) ≡ end_within n rs
runs_inside l n [] [] s h e = refl
runs_inside l n [] (r ∷ rs) s h e = cc
runs_inside l n (p ∷ runs) [] s h e = cc
runs_inside l n (p ∷ runs) (r ∷ rs) s h e =
    let pair = head_of (r.start, r.end) (run_span l p) (spans rs) (map (run_span l) runs) e in
    let rest = tail_of (r.start, r.end) (run_span l p) (spans rs) (map (run_span l) runs) e in
    let t : run_end l p ≡ r.end = sym (ap (λ (x : ℕ × ℕ). x.1) pair) in
    let run = is_run l.elements p runs h in
    ap (all_below n) (flat_map-append (packed_place_bytes l) (range_with_len p.0 p.1) (joined_runs runs))
    ∙ list_all-append (λ k. nat_lt k n) (flat_map (packed_place_bytes l) (range_with_len p.0 p.1)) (flat_map (packed_place_bytes l) (joined_runs runs))
    ∙ ap (λ (b : Bool). b && all_below n (flat_map (packed_place_bytes l) (joined_runs runs))) (run_inside_at l n p.0 p.1 s run.some ∙ ap (λ k. nat_le k n) t)
    ∙ ap (λ (b : Bool). nat_le r.end n && b) (runs_inside l n runs rs s run.rest rest)

-- what a read of ranges makes of the runs
abbrev pub finished_runs : PackedLayout → List ℕ → List (ℕ × ℕ) → Result (Option (List ℕ)) CodecError → Result (List ℕ) CodecError
finished_runs l fill runs (Ok None) = Ok (flat_map (λ p. fill) (joined_runs runs))
finished_runs l fill runs (Ok (Some b)) = Ok (packing (run_bits l b runs))
finished_runs l fill runs (Err e) = Err e

abbrev read_if : Bool → List ℕ → Result (Option (List ℕ)) CodecError
read_if b bytes = (demand b InvalidByteRange >>= λ _. Ok bytes) >>= λ x. Ok (Some x)

at_value : (l : PackedLayout) (fill v : List ℕ) (runs : List (ℕ × ℕ)) (rs : List ByteSpan) (b : Bool) → spans rs ≡ map (run_span l) runs → end_within (length v) rs ≡ b
    → (if b then Ok (packing (flat_map (element_bits l v) (joined_runs runs))) else Err InvalidByteRange) ≡ finished_runs l fill runs (read_if b (ranges_bytes v rs))
at_value l fill v runs rs true e h = ap (λ b. Ok (packing b)) (sym (run_bits_are l v runs rs e h))
at_value l fill v runs rs false e h = refl

runs_at : (l : PackedLayout) (value : Option (List ℕ)) (fill : List ℕ) (runs : List (ℕ × ℕ)) (rs : List ByteSpan) → IsPackedLayout l → are_runs l.elements runs ≡ true → spans rs ≡ map (run_span l) runs → local_read l value fill (joined_runs runs) ≡ finished_runs l fill runs (read_ranges value rs)
runs_at l None fill runs rs s h e = refl
runs_at l (Some v) fill runs rs s h e =
    ap (λ (b : Bool). if b then Ok (packing (flat_map (element_bits l v) (joined_runs runs))) else Err InvalidByteRange) (runs_inside l (length v) runs rs s h e)
    ∙ at_value l fill v runs rs (end_within (length v) rs) e refl

pub runs_read : (l : PackedLayout) (value : Option (List ℕ)) (fill : List ℕ) (runs : List (ℕ × ℕ)) (rs ls : List ByteSpan) → IsPackedLayout l → are_runs l.elements runs ≡ true → spans rs ≡ map (run_span l) runs → ls ≡ rs
    → local_read l value fill (joined_runs runs) ≡ finished_runs l fill runs (read_ranges value ls)
runs_read l value fill runs rs ls s h e same =
    runs_at l value fill runs rs s h e ∙ ap (λ (x : List ByteSpan). finished_runs l fill runs (read_ranges value x)) (sym same)

taken_len : (l : PackedLayout) (v b : List ℕ) (runs : List (ℕ × ℕ)) (rs : List ByteSpan) (t : Bool) → spans rs ≡ map (run_span l) runs → end_within (length v) rs ≡ t → read_if t (ranges_bytes v rs) ≡ Ok (Some b) → length b ≡ runs_len l runs
taken_len l v b runs rs true e h is = let same : ranges_bytes v rs ≡ b = cc in ap length (sym same) ∙ runs_len_is l v runs rs e h
taken_len l v b runs rs false e h is = cc

pub runs_read_len : (l : PackedLayout) (value : Option (List ℕ)) (b : List ℕ) (runs : List (ℕ × ℕ)) (rs ls : List ByteSpan) → spans rs ≡ map (run_span l) runs → ls ≡ rs → read_ranges value ls ≡ Ok (Some b) → length b ≡ runs_len l runs
runs_read_len l None b runs rs ls e same is = cc
runs_read_len l (Some v) b runs rs ls e same is =
    taken_len l v b runs rs (end_within (length v) rs) e refl (ap (λ (x : List ByteSpan). read_ranges (Some v) x) (sym same) ∙ is)

-- ---- sure bytes

pub all_at : (q : ℕ → Bool) (s n : ℕ) → list_all q (range_with_len s n) ≡ true → (k : ℕ) → s ≤ k → k < s + n → q k ≡ true
all_at q s zero h k a b = absurd (omega arith)
all_at q s (suc n) h k a b =
    elim (cases_lt s k) [
      | inl lt ↦ all_at q (s + 1) n (second_true _ _ h) k (omega arith) (omega arith)
      | inr le ↦ ap q (let e : k ≡ s = omega arith in e) ∙ first_true _ _ h
    ]

all_split : (q : ℕ → Bool) (xs ys : List ℕ) → list_all q (xs ++ ys) ≡ true → (list_all q xs && list_all q ys) ≡ true
all_split q xs ys h = sym (list_all-append q xs ys) ∙ h

-- each byte of a run is a byte of one of its places
run_sure : (q : ℕ → Bool) (l : PackedLayout) (start len : ℕ) → IsPackedLayout l → list_all q (flat_map (packed_place_bytes l) (range_with_len start len)) ≡ true
    → (k : ℕ) → run_start l (start, len) ≤ k → k < run_end l (start, len) → 0 < len → q k ≡ true
run_sure q l start zero s h k a b some = absurd (omega arith)
run_sure q l start (suc len) s h k a b some =
    let front = flat_map (packed_place_bytes l) (range_with_len start len) in
    let p = start + len in
    let split : flat_map (packed_place_bytes l) (range_with_len start (suc len)) ≡ front ++ packed_place_bytes l p
    = ap (λ m. flat_map (packed_place_bytes l) (range_with_len start m)) (let e : suc len ≡ len + 1 = omega arith in e) ∙ ap (flat_map (packed_place_bytes l)) (range_more start len)
    ∙ flat_map-append (packed_place_bytes l) (range_with_len start len) (p ∷ []) ∙ ap (λ xs. front ++ xs) (append-nil (packed_place_bytes l p)) in
    let both = all_split q front (packed_place_bytes l p) (sym (ap (list_all q) split) ∙ h) in
    let end : (p + 1) * element_bits_len l ≡ (start + suc len) * element_bits_len l = ap (λ n. n * element_bits_len l) (let e : p + 1 ≡ start + suc len = omega arith in e) in
    let next : (p + 1) * element_bits_len l ≡ p * element_bits_len l + element_bits_len l = omega arith in
    let here : run_start l (p, 1) ≤ k → q k ≡ true = λ le. all_at q (run_start l (p, 1)) (run_end l (p, 1) - run_start l (p, 1)) (second_true _ _ both) k le (omega arith) in
    elim (cases_lt k (run_end l (start, len))) [
      | inl lt ↦ (elim (cases_lt 0 len) [
        | inl more ↦ run_sure q l start len s (first_true _ _ both) k a lt more
        | inr none ↦ here (let z : p * element_bits_len l ≡ start * element_bits_len l = ap (λ n. n * element_bits_len l) (let e : p ≡ start = omega arith in e) in omega arith)
      ])
      | inr le ↦ here (let z : p * element_bits_len l ≡ (start + len) * element_bits_len l = refl in omega arith)
    ]

pub runs_sure : (q : ℕ → Bool) (l : PackedLayout) (runs : List (ℕ × ℕ)) (rs : List ByteSpan) → IsPackedLayout l → are_runs l.elements runs ≡ true → spans rs ≡ map (run_span l) runs
    → list_all q (flat_map (packed_place_bytes l) (joined_runs runs)) ≡ true → list_all q (range_indices rs) ≡ true
runs_sure q l [] [] s h e g = refl
runs_sure q l [] (r ∷ rs) s h e g = cc
runs_sure q l (p ∷ runs) [] s h e g = cc
runs_sure q l (p ∷ runs) (r ∷ rs) s h e g =
    let pair = head_of (r.start, r.end) (run_span l p) (spans rs) (map (run_span l) runs) e in
    let rest = tail_of (r.start, r.end) (run_span l p) (spans rs) (map (run_span l) runs) e in
    let a : r.start ≡ run_start l p = ap (λ (x : ℕ × ℕ). x.0) pair in
    let b : r.end ≡ run_end l p = ap (λ (x : ℕ × ℕ). x.1) pair in
    let run = is_run l.elements p runs h in
    let both = all_split q (flat_map (packed_place_bytes l) (range_with_len p.0 p.1)) (flat_map (packed_place_bytes l) (joined_runs runs)) (sym (ap (list_all q) (flat_map-append (packed_place_bytes l) (range_with_len p.0 p.1) (joined_runs runs))) ∙ g) in
    let here : list_all q (range_with_len r.start (r.end - r.start)) ≡ true
    = range_passes q r.start (r.end - r.start) (λ k x y. run_sure q l p.0 p.1 s (first_true _ _ both) k (omega arith) (omega arith) run.some) in
    list_all-append q (range_with_len r.start (r.end - r.start)) (range_indices rs)
    ∙ ap (λ (x : Bool). x && list_all q (range_indices rs)) here
    ∙ runs_sure q l runs rs s run.rest rest (second_true _ _ both)

pub sure_runs : (sure : Option (ℕ → Bool)) (l : PackedLayout) (runs : List (ℕ × ℕ)) (rs ls : List ByteSpan) → IsPackedLayout l → are_runs l.elements runs ≡ true → spans rs ≡ map (run_span l) runs → ls ≡ rs
    → are_sure sure (flat_map (packed_place_bytes l) (joined_runs runs)) ≡ true → are_sure sure (range_indices ls) ≡ true
sure_runs None l runs rs ls s h e same g = g
sure_runs (Some q) l runs rs ls s h e same g = ap (λ (x : List ByteSpan). list_all q (range_indices x)) same ∙ runs_sure q l runs rs s h e g
