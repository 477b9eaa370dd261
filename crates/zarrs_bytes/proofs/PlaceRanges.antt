-- Ranges of bytes that are made of places, one after another.
use Rattle.std.proofs.Common.{◌≡◌, ℕ, ◌+◌, ◌-◌, ◌*◌, ◌<◌, ◌≤◌, List, [], ◌∷◌, ◌++◌, length, take, get_or, arith, ap, sym, ◌∙◌}
use Rattle.std.specs.List.{range_with_len}
use Rattle.std.proofs.lemmas.List.{append_assoc, append-nil, take_more}
use Rattle.zarrs_chunk.proofs.Consecutive.{range-append}
use Rattle.zarrs_bytes.specs.PartialRead.{place_bytes}
use Rattle.zarrs_bytes.proofs.Ranges.{place_bytes-append}

-- the bytes of one place more
place_bytes-push : (size : ℕ) (places : List ℕ) (index d : ℕ) → index < length places → place_bytes size (take (index + 1) places) ≡ place_bytes size (take index places) ++ range_with_len (get_or places index d * size) size
place_bytes-push size places index d h =
    ap (place_bytes size) (take_more places index d h)
    ∙ place_bytes-append size (take index places) (get_or places index d ∷ [])
    ∙ ap (λ (l : List ℕ). place_bytes size (take index places) ++ l) (append-nil (range_with_len (get_or places index d * size) size))

-- a range that goes on with a place's bytes
pub one_place_more : (size : ℕ) (places front : List ℕ) (index d begin here : ℕ) → index < length places → begin ≤ here → here ≡ get_or places index d * size → front ++ range_with_len begin (here - begin) ≡ place_bytes size (take index places)
    → front ++ range_with_len begin (here + size - begin) ≡ place_bytes size (take (index + 1) places)
one_place_more size places front index d begin here h ordered at is =
    let more : here + size - begin ≡ (here - begin) + size = omega (arith, ordered) in
    let ends : begin + (here - begin) ≡ get_or places index d * size = omega (arith, ordered, at) in
    ap (λ n. front ++ range_with_len begin n) more
    ∙ ap (λ (l : List ℕ). front ++ l) (range-append begin (here - begin) size)
    ∙ sym (append_assoc front (range_with_len begin (here - begin)) (range_with_len (begin + (here - begin)) size))
    ∙ ap (λ (l : List ℕ). l ++ range_with_len (begin + (here - begin)) size) is
    ∙ ap (λ k. place_bytes size (take index places) ++ range_with_len k size) ends
    ∙ sym (place_bytes-push size places index d h)

-- a range that begins here has no bytes yet
pub begun : (front back : List ℕ) (here : ℕ) → front ≡ back → front ++ range_with_len here (here - here) ≡ back
begun front back here is =
    let none : here - here ≡ 0 = omega arith in
    ap (λ n. front ++ range_with_len here n) none ∙ append-nil front ∙ is
