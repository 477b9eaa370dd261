-- The bytes of an inner chunk, straight from those of the chunk.
use Rattle.std.proofs.Common.{◌≡◌, ℕ, zero, suc, ◌+◌, ◌*◌, ◌-◌, ◌<◌, ◌≤◌, ◌++◌, ◌&&◌, nat_eq, Bool, true, false, Some, None, Result, List, [], ◌∷◌, length, map, take, drop, get_or, arith, refl, ap, sym, subst, ◌∙◌}
use Rattle.std.specs.Cmp.Lexicographic.{pointwise}
use Rattle.std.specs.List.{All, flat_map, list_all, range_with_len, between}
use Rattle.std.proofs.lemmas.List.{at_drop_more, length-map, map-append}
use Rattle.std.proofs.lemmas.List.Concat.{flat_map-append}
use Rattle.std.proofs.lemmas.List.Elements.{All-cons, All-head, All-nil, All-tail}
use Rattle.std.proofs.lemmas.List.Folds.{list_all-append, list_all-map}
use Rattle.zarrs_chunk.specs.Answer.{Gives}
use Rattle.zarrs_chunk.specs.declared.codec_error.CodecError.{CodecError}
use Rattle.zarrs_chunk.specs.Runs.{joined_runs}
use Rattle.zarrs_chunk.proofs.CountedRuns.{joined_runs-take_more}
use Rattle.zarrs_array_bytes.specs.Elements.{piece}
use Rattle.zarrs_array_bytes.specs.Pieces.{pieces, pieces_at}
use Rattle.zarrs_array_bytes.proofs.ElementLemmas.{length_piece}
use Rattle.zarrs_array_bytes.proofs.OffsetLemmas.{flat_map-concat}
use Rattle.zarrs_array_bytes.proofs.Pieces.{AllSized, length-concat, pieces-concat}
use Rattle.zarrs_array_bytes.proofs.RunLemmas.{pieces_of_run, places_below}
use Rattle.zarrs_shard_bytes.specs.InnerPlaces.{places_from}
use Rattle.zarrs_chain.specs.sharding.ShardWalk.{are_item, kept_part}
use Rattle.zarrs_shard_bytes.specs.FillElements.{Repeats}
use Rattle.zarrs_shard_bytes.proofs.InnerPlaces.{moved_end, range_moved, runs_moved}

-- ---- run by run

places_more : (start : ℕ) (runs : List (ℕ × ℕ)) (i : ℕ) → i < length runs
    → places_from start (take (i + 1) runs) ≡ places_from start (take i runs) ++ range_with_len (start + (get_or runs i (0, 0)).0) (get_or runs i (0, 0)).1
places_more start runs i l =
    let run = get_or runs i (0, 0) in
    ap (map (λ place. start + place)) (joined_runs-take_more runs i l)
    ∙ map-append (λ place. start + place) (joined_runs (take i runs)) (range_with_len run.0 run.1)
    ∙ ap (λ ps. places_from start (take i runs) ++ ps) (range_moved start run.0 run.1)

-- the bytes of one run more
pub run_more : (size : ℕ) (bytes : List ℕ) (start : ℕ) (runs : List (ℕ × ℕ)) (i : ℕ) → i < length runs
    → pieces_at size bytes (places_from start (take (i + 1) runs))
    ≡ pieces_at size bytes (places_from start (take i runs)) ++ between ((start + (get_or runs i (0, 0)).0) * size) ((start + (get_or runs i (0, 0)).0) * size + (get_or runs i (0, 0)).1 * size) bytes
run_more size bytes start runs i l =
    let run = get_or runs i (0, 0) in
    ap (flat_map (piece size bytes)) (places_more start runs i l)
    ∙ flat_map-append (piece size bytes) (places_from start (take i runs)) (range_with_len (start + run.0) run.1)
    ∙ ap (λ xs. pieces_at size bytes (places_from start (take i runs)) ++ xs) (pieces_of_run size bytes (start + run.0) run.1)

-- ---- whole elements

-- the element at a place ends within so many bytes
abbrev pub EndsInside : ℕ → ℕ → ℕ → Type 0
EndsInside size len place = place * size + size ≤ len

range_inside : (size len start count : ℕ) → (start + count) * size ≤ len → All (EndsInside size len) (range_with_len start count)
range_inside size len start zero h = All-nil (EndsInside size len)
range_inside size len start (suc count) h =
    let split : (start + suc count) * size ≡ start * size + size + count * size = omega arith in
    let rest : (start + 1 + count) * size ≡ start * size + size + count * size = omega arith in
    All-cons (EndsInside size len) start (range_with_len (start + 1) count) (omega (arith, h, split)) (range_inside size len (start + 1) count (omega (arith, h, split, rest)))

pieces_whole : (size : ℕ) (items places : List ℕ) → All (EndsInside size (length items)) places → AllSized size (map (piece size items) places)
pieces_whole size items [] h = tt
pieces_whole size items (place ∷ places) h =
    (length_piece size place items (All-head (EndsInside size (length items)) place places h), pieces_whole size items places (All-tail (EndsInside size (length items)) place places h))

pub gathered_pieces : (size : ℕ) (items places : List ℕ) → All (EndsInside size (length items)) places → pieces size (length places) (pieces_at size items places) ≡ map (piece size items) places
gathered_pieces size items places h =
    let parts = map (piece size items) places in
    (λ i. pieces size (sym (length-map places (piece size items)) i) (flat_map-concat (piece size items) places i)) ∙ pieces-concat size parts (pieces_whole size items places h)

pub gathered_long : (size : ℕ) (items places : List ℕ) → All (EndsInside size (length items)) places → length (pieces_at size items places) ≡ length places * size
gathered_long size items places h =
    ap length (flat_map-concat (piece size items) places) ∙ length-concat size (map (piece size items) places) (pieces_whole size items places h) ∙ ap (λ n. n * size) (length-map places (piece size items))

-- what is found of the gathered bytes is so of the elements at the places
pub gathered_told : (item items places : List ℕ) (told : Bool) → All (EndsInside (length item) (length items)) places
    → ((count : ℕ) → length (pieces_at (length item) items places) ≡ count * length item → told ≡ list_all (λ part. pointwise nat_eq part item) (pieces (length item) count (pieces_at (length item) items places)))
    → told ≡ are_item item items places
gathered_told item items places told h tells =
    tells (length places) (gathered_long (length item) items places h)
    ∙ ap (list_all (λ part. pointwise nat_eq part item)) (gathered_pieces (length item) items places h)
    ∙ list_all-map (λ part. pointwise nat_eq part item) (piece (length item) items) places

-- what is found of the bytes of a run is so of its elements
run_told : (item bytes : List ℕ) (start count : ℕ) (told : Bool) → (start + count) * length item ≤ length bytes → Repeats item (between (start * length item) (start * length item + count * length item) bytes) told
    → told ≡ are_item item bytes (range_with_len start count)
run_told item bytes start count told inside tells =
    gathered_told item bytes (range_with_len start count) told (range_inside (length item) (length bytes) start count inside)
    (subst (λ (xs : List ℕ). Repeats item xs told) (sym (pieces_of_run (length item) bytes start count)) tells)

-- the elements of a run and of those behind it
pub runs_told : (item bytes : List ℕ) (start : ℕ) (runs : List (ℕ × ℕ)) (i : ℕ) (told : Bool) → i < length runs
    → (start + ((get_or runs i (0, 0)).0 + (get_or runs i (0, 0)).1)) * length item ≤ length bytes
    → Repeats item (between ((start + (get_or runs i (0, 0)).0) * length item) ((start + (get_or runs i (0, 0)).0) * length item + (get_or runs i (0, 0)).1 * length item) bytes) told
    → are_item item bytes (places_from start (drop i runs)) ≡ told && are_item item bytes (places_from start (drop (i + 1) runs))
runs_told item bytes start runs i told below inside tells =
    let run = get_or runs i (0, 0) in
    let rest = drop (i + 1) runs in
    let test = λ (place : ℕ). pointwise nat_eq (piece (length item) bytes place) item in
    let same : (start + run.0 + run.1) * length item ≡ (start + (run.0 + run.1)) * length item = omega arith in
    let here = run_told item bytes (start + run.0) run.1 told (omega (arith, inside, same)) tells in
    at_drop_more (λ (rs : List (ℕ × ℕ)). are_item item bytes (places_from start rs)) runs i (0, 0) below
    ∙ ap (are_item item bytes) (map-append (λ place. start + place) (range_with_len run.0 run.1) (joined_runs rest) ∙ ap (λ (ps : List ℕ). ps ++ places_from start rest) (range_moved start run.0 run.1))
    ∙ list_all-append test (range_with_len (start + run.0) run.1) (places_from start rest)
    ∙ ap (λ b. b && are_item item bytes (places_from start rest)) (sym here)

pub kept_none : (item bytes places : List ℕ) → are_item item bytes places ≡ true → kept_part item bytes places ≡ None
kept_none item bytes places e = rw e refl

pub kept_some : (item bytes places : List ℕ) → are_item item bytes places ≡ false → kept_part item bytes places ≡ Some (pieces_at (length item) bytes places)
kept_some item bytes places e = rw e refl

-- the same answer, where the same is expected
pub given_as : {T V : Type 0} (view : T → V) (result : Result T CodecError) (a b : Result V CodecError) → a ≡ b → Gives view result a → Gives view result b
given_as view result a b e g = subst (λ (x : Result _ CodecError). Gives view result x) e g

at_most : (a n size : ℕ) → a ≤ n → a * size ≤ n * size
at_most a n size l =
    let e : n ≡ a + (n - a) = omega arith in
    let spread : (a + (n - a)) * size ≡ a * size + (n - a) * size = omega arith in
    let whole : n * size ≡ (a + (n - a)) * size = ap (λ k. k * size) e in
    omega (arith, spread, whole)

-- runs that end within the elements end within their bytes
pub runs_inside : (count size len start : ℕ) (runs : List (ℕ × ℕ)) → len ≡ count * size → All (λ run. start + (run.0 + run.1) ≤ count) runs → All (λ run. (start + (run.0 + run.1)) * size ≤ len) runs
runs_inside count size len start runs e h = λ k d l. let b = at_most (start + ((get_or runs k d).0 + (get_or runs k d).1)) count size (h k d l) in omega (arith, b, e)

-- and cover elements alone
pub places_there : (count start : ℕ) (runs : List (ℕ × ℕ)) → All (λ run. start + (run.0 + run.1) ≤ count) runs → All (λ place. place < count) (places_from start runs)
places_there count start runs h =
    subst (All (λ place. place < count)) (runs_moved start runs) (places_below count (map (λ run. (start + run.0, run.1)) runs) (moved_end start count runs h))

pub places_count : (start count : ℕ) (runs : List (ℕ × ℕ)) → length (joined_runs runs) ≡ count → length (places_from start runs) ≡ count
places_count start count runs e = length-map (joined_runs runs) (λ place. start + place) ∙ e
