-- Pieces of one size, each turned round.
use Rattle.std.proofs.Common.{◌≡◌, ℕ, zero, suc, ◌+◌, ◌*◌, ◌≤◌, List, [], ◌∷◌, ◌++◌, length, map, take, drop, reverse, arith, refl, ap, sym, ◌∙◌}
use Rattle.std.specs.List.{concat}
use Rattle.std.proofs.lemmas.List.{append-nil, map-append, length-map, length-reverse, nil_from_length}
use Rattle.std.proofs.lemmas.List.Folds.{concat-append}
use Rattle.zarrs_array_bytes.specs.Pieces.{pieces}
use Rattle.zarrs_array_bytes.proofs.Pieces.{AllSized, length-pieces, pieces_sized, length-concat, concat-pieces, pieces-split, pieces-suc, pieces-take}
use Rattle.zarrs_array_bytes.specs.Turned.{reversed_pieces}

pub reverse_sized : (size : ℕ) (parts : List (List ℕ)) → AllSized size parts → AllSized size (map reverse parts)
reverse_sized size [] h = tt
reverse_sized size (piece ∷ parts) h = (length-reverse piece ∙ h.0, reverse_sized size parts h.1)

pub length-reversed_pieces : (size count : ℕ) (bytes : List ℕ) → count * size ≤ length bytes → length (reversed_pieces size count bytes) ≡ count * size
length-reversed_pieces size count bytes h =
    let parts = pieces size count bytes in
    length-concat size (map reverse parts) (reverse_sized size parts (pieces_sized size count bytes h))
    ∙ ap (λ n. n * size) (length-map parts reverse ∙ length-pieces size count bytes)

-- one piece more
pub reversed_pieces-more : (size count : ℕ) (bytes : List ℕ) → reversed_pieces size (count + 1) bytes ≡ reversed_pieces size count bytes ++ reverse (take size (drop (count * size) bytes))
reversed_pieces-more size count bytes =
    let last = take size (drop (count * size) bytes) in
    ap (λ (parts : List (List ℕ)). concat (map reverse parts)) (pieces-split size count 1 bytes ∙ ap (λ (parts : List (List ℕ)). pieces size count bytes ++ parts) (pieces-suc size 0 (drop (count * size) bytes)))
    ∙ ap concat (map-append reverse (pieces size count bytes) (last ∷ []))
    ∙ concat-append (map reverse (pieces size count bytes)) (reverse last ∷ [])
    ∙ ap (λ (tail : List ℕ). reversed_pieces size count bytes ++ tail) (append-nil (reverse last))

-- pieces in groups of so many: turned round one by one, and group by group
pub reversed_pieces-groups : (size group count : ℕ) (bytes : List ℕ) → reversed_pieces size (count * group) bytes ≡ concat (map (reversed_pieces size group) (pieces (group * size) count bytes))
reversed_pieces-groups size group zero bytes = ap (λ n. reversed_pieces size n bytes) (let z : zero * group ≡ 0 = omega arith in z)
reversed_pieces-groups size group (suc count) bytes =
    let s : suc count * group ≡ group + count * group = omega arith in
    let first = pieces size group bytes in
    let rest = pieces size (count * group) (drop (group * size) bytes) in
    ap (λ n. reversed_pieces size n bytes) s
    ∙ ap (λ (parts : List (List ℕ)). concat (map reverse parts)) (pieces-split size group (count * group) bytes)
    ∙ ap concat (map-append reverse first rest)
    ∙ concat-append (map reverse first) (map reverse rest)
    ∙ ap (λ (parts : List (List ℕ)). concat (map reverse parts) ++ concat (map reverse rest)) (sym (pieces-take size group bytes))
    ∙ ap (λ (tail : List ℕ). reversed_pieces size group (take (group * size) bytes) ++ tail) (reversed_pieces-groups size group count (drop (group * size) bytes))
    ∙ sym (ap (λ (parts : List (List ℕ)). concat (map (reversed_pieces size group) parts)) (pieces-suc (group * size) count bytes))

reverse_first : (bytes : List ℕ) → reverse (take 1 bytes) ≡ take 1 bytes
reverse_first [] = refl
reverse_first (b ∷ bytes) = refl

singles : (count : ℕ) (bytes : List ℕ) → map reverse (pieces 1 count bytes) ≡ pieces 1 count bytes
singles zero bytes = refl
singles (suc count) bytes =
    ap (map reverse) (pieces-suc 1 count bytes)
    ∙ (λ i. reverse_first bytes i ∷ singles count (drop 1 bytes) i)
    ∙ sym (pieces-suc 1 count bytes)

nothing : (count : ℕ) (bytes : List ℕ) → concat (map reverse (pieces 0 count bytes)) ≡ []
nothing zero bytes = refl
nothing (suc count) bytes =
    ap (λ (parts : List (List ℕ)). concat (map reverse parts)) (pieces-suc 0 count bytes) ∙ nothing count (drop 0 bytes)

-- pieces of one byte at most are what they were when they are turned round
pub reversed_pieces-single : (size count : ℕ) (bytes : List ℕ) → size ≤ 1 → length bytes ≡ count * size → reversed_pieces size count bytes ≡ bytes
reversed_pieces-single zero count bytes l h = nothing count bytes ∙ sym (nil_from_length bytes (h ∙ omega arith))
reversed_pieces-single (suc zero) count bytes l h = ap concat (singles count bytes) ∙ concat-pieces 1 count bytes h
reversed_pieces-single (suc (suc size)) count bytes l h = absurd (omega arith)
