-- Runs of elements as runs of their bytes.
use Rattle.std.proofs.Common.{◌≡◌, ℕ, zero, suc, ◌+◌, ◌*◌, ◌<◌, ◌^◌, max, true, nat_lt, Result, Ok, List, [], ◌∷◌, ◌++◌, length, map, take, drop, set, get_or, arith, refl, ap, ap₂, sym, ◌∙◌}
use Rattle.std.specs.List.{All, list_all, range_with_len}
use Rattle.std.proofs.Math.Seq.{set-append_seam}
use Rattle.std.proofs.lemmas.List.{drop_more, take_more, map-append, length-map, length-take-le, append_assoc}
use Rattle.std.proofs.lemmas.List.Elements.{All-tail}
use Rattle.zarrs_chunk.specs.Runs.{joined_runs}
use Rattle.zarrs_chunk.specs.declared.codec_error.CodecError.{CodecError}
use Rattle.zarrs_codec.specs.BytePieces.{end_of, furthest_end, pieces_fit, with_zeros, with_pieces}
use Rattle.zarrs_array_bytes.specs.Update.{update}
use Rattle.zarrs_bytes.specs.PartialRead.{place_bytes}
use Rattle.zarrs_bytes.specs.PartialWrite.{end_of_places, with_place_bytes}
use Rattle.zarrs_bytes.proofs.Ranges.{place_bytes-run, place_bytes-append, place_lengths}
use Rattle.zarrs_chunk.proofs.WholeAxes.{positive_whole}
use Rattle.zarrs_codec.specs.SampleLaws.{eq_test}
use Rattle.zarrs_chunk.proofs.Inside.{lt_test}

-- ---- one run after another, in place

abbrev byte_run : ℕ → ℕ × ℕ → ℕ × ℕ
byte_run size run = (run.0 * size, run.1 * size)

-- runs of elements of one size as runs of their bytes
abbrev pub byte_runs : ℕ → List (ℕ × ℕ) → List (ℕ × ℕ)
byte_runs size runs = map (λ run. (run.0 * size, run.1 * size)) runs

-- the run at an index is still one of elements
pub run_at : (size : ℕ) (runs now : List (ℕ × ℕ)) (index : ℕ) (d : ℕ × ℕ) → index < length runs → now ≡ byte_runs size (take index runs) ++ drop index runs → get_or now index d ≡ get_or runs index d
run_at size runs now index d lt is =
    let front : List (ℕ × ℕ) = byte_runs size (take index runs) in
    let long : length front ≡ index = length-map (take index runs) (byte_run size) ∙ length-take-le index runs (omega arith) in
    ap (λ xs. get_or xs index d) (is ∙ ap (λ xs. front ++ xs) (drop_more runs index d lt)) ∙ at_seam front (get_or runs index d) (drop (index + 1) runs) index d long
  where
    at_seam : (front : List (ℕ × ℕ)) (x : ℕ × ℕ) (back : List (ℕ × ℕ)) (at : ℕ) (d : ℕ × ℕ) → length front ≡ at → get_or (front ++ x ∷ back) at d ≡ x
    at_seam [] x back zero d e = refl
    at_seam [] x back (suc at) d e = absurd (omega arith)
    at_seam (y ∷ front) x back zero d e = absurd (omega arith)
    at_seam (y ∷ front) x back (suc at) d e = at_seam front x back at d (omega arith)

-- one run more
pub run_scaled : (size : ℕ) (runs now : List (ℕ × ℕ)) (index : ℕ) (d : ℕ × ℕ) → index < length runs → now ≡ byte_runs size (take index runs) ++ drop index runs
    → set now index ((get_or runs index d).0 * size, (get_or runs index d).1 * size) ≡ byte_runs size (take (index + 1) runs) ++ drop (index + 1) runs
run_scaled size runs now index d lt is =
    let front : List (ℕ × ℕ) = byte_runs size (take index runs) in
    let run : ℕ × ℕ = get_or runs index d in
    let back : List (ℕ × ℕ) = drop (index + 1) runs in
    let long : length front ≡ index = length-map (take index runs) (byte_run size) ∙ length-take-le index runs (omega arith) in
    ap (λ xs. set xs index (byte_run size run)) (is ∙ ap (λ xs. front ++ xs) (drop_more runs index d lt))
    ∙ ap (λ k. set (front ++ run ∷ back) k (byte_run size run)) (sym long)
    ∙ set-append_seam front run back (byte_run size run)
    ∙ sym (append_assoc front (byte_run size run ∷ []) back)
    ∙ ap (λ xs. xs ++ back) (sym (map-append (byte_run size) (take index runs) (run ∷ [])))
    ∙ ap (λ xs. byte_runs size xs ++ back) (sym (take_more runs index d lt))

-- ---- their bytes

pub byte_runs-numbers : (size : ℕ) (runs : List (ℕ × ℕ)) → joined_runs (byte_runs size runs) ≡ place_bytes size (joined_runs runs)
byte_runs-numbers size [] = refl
byte_runs-numbers size (run ∷ runs) =
    ap₂ (λ xs ys. xs ++ ys) (sym (place_bytes-run size run.0 run.1)) (byte_runs-numbers size runs)
    ∙ sym (place_bytes-append size (range_with_len run.0 run.1) (joined_runs runs))

end_of_filled : (start count : ℕ) → 0 < count → end_of start count ≡ start + count
end_of_filled start zero h = absurd (omega arith)
end_of_filled start (suc count) h = refl

end_of_places-append : (size : ℕ) (xs ys : List ℕ) → end_of_places size (xs ++ ys) ≡ max (end_of_places size xs) (end_of_places size ys)
end_of_places-append size [] ys = omega arith
end_of_places-append size (x ∷ xs) ys = omega (arith, end_of_places-append size xs ys)

end_of_places-run : (size start count : ℕ) → 0 < count → end_of_places size (range_with_len start count) ≡ start * size + count * size
end_of_places-run size start zero h = absurd (omega arith)
end_of_places-run size start (suc zero) h = omega arith
end_of_places-run size start (suc (suc count)) h =
    let rest = end_of_places-run size (start + 1) (suc count) (omega arith) in
    let next : (start + 1) * size ≡ start * size + size = omega arith in
    let all : suc (suc count) * size ≡ size + suc count * size = omega arith in
    omega (arith, rest, next, all)

pub byte_runs-end : (size : ℕ) (runs : List (ℕ × ℕ)) → 0 < size → All (λ run. 0 < run.1) runs → furthest_end (byte_runs size runs) ≡ end_of_places size (joined_runs runs)
byte_runs-end size [] p h = refl
byte_runs-end size (run ∷ runs) p h =
    let filled : 0 < run.1 = h 0 run (omega arith) in
    let here : end_of (run.0 * size) (run.1 * size) ≡ end_of_places size (range_with_len run.0 run.1)
    = end_of_filled (run.0 * size) (run.1 * size) (positive_whole run.1 size filled p) ∙ sym (end_of_places-run size run.0 run.1 filled) in
    ap₂ (λ a b. max a b) here (byte_runs-end size runs p (All-tail (λ (r : ℕ × ℕ). 0 < r.1) run runs h))
    ∙ sym (end_of_places-append size (range_with_len run.0 run.1) (joined_runs runs))

byte_runs-fit : (size : ℕ) (runs : List (ℕ × ℕ)) → All (λ run. (run.0 + run.1) * size < 2 ^ 64) runs → list_all (λ piece. nat_lt (piece.0 + piece.1) (2 ^ 64)) (byte_runs size runs) ≡ true
byte_runs-fit size [] h = refl
byte_runs-fit size (run ∷ runs) h =
    let here : (run.0 + run.1) * size < 2 ^ 64 = h 0 run (omega arith) in
    let spread : (run.0 + run.1) * size ≡ run.0 * size + run.1 * size = omega arith in
    rw (lt_test (run.0 * size + run.1 * size) (2 ^ 64) (omega (arith, here, spread))) (byte_runs-fit size runs (All-tail (λ (r : ℕ × ℕ). (r.0 + r.1) * size < 2 ^ 64) run runs h))

abbrev pub ready : Result (Unit {0}) CodecError
ready = Ok tt

-- the bytes of runs can be written
pub byte_runs-ready : (size : ℕ) (runs : List (ℕ × ℕ)) (count : ℕ) → All (λ run. (run.0 + run.1) * size < 2 ^ 64) runs → count ≡ length (joined_runs runs) * size → count < 2 ^ 64 → pieces_fit (byte_runs size runs) count ≡ ready
byte_runs-ready size runs count ends e small =
    let numbers : List ℕ = joined_runs (byte_runs size runs) in
    let long : length numbers ≡ count = ap length (byte_runs-numbers size runs) ∙ place_lengths size (joined_runs runs) ∙ sym e in
    rw (byte_runs-fit size runs ends, lt_test (length numbers) (2 ^ 64) (omega (arith, long, small)), eq_test count (length numbers) (sym long)) refl

-- and are the bytes of the places
pub byte_runs-written : (size : ℕ) (runs : List (ℕ × ℕ)) (value bytes : List ℕ) → 0 < size → All (λ run. 0 < run.1) runs → with_pieces value (byte_runs size runs) bytes ≡ with_place_bytes size value (joined_runs runs) bytes
byte_runs-written size runs value bytes p h =
    ap₂ (λ end numbers. update (with_zeros value end) numbers bytes) (byte_runs-end size runs p h) (byte_runs-numbers size runs)
