-- Pieces turned round in place, one after another.
use Rattle.std.proofs.Common.{◌≡◌, ℕ, ◌+◌, ◌*◌, ◌≤◌, List, [], ◌∷◌, ◌++◌, length, take, drop, reverse, swap, arith, ap, ◌∙◌, sym, refl}
use Rattle.std.proofs.lemmas.List.{append_assoc, take_at, drop_at, drop-drop}
use Rattle.zarrs_array_bytes.specs.Turned.{reversed_pieces}
use Rattle.zarrs_array_bytes.proofs.ReversedPieces.{length-reversed_pieces, reversed_pieces-more}
use borrow.Rule.Slice.PartMut.{put_mid, mid_of}

-- one piece more is turned round in place
pub turned_step : (size index k : ℕ) (bytes now piece : List ℕ) → (index + 1) * size ≤ length bytes → k ≡ size → now ≡ reversed_pieces size index bytes ++ drop (index * size) bytes → piece ≡ reverse (mid_of (index * size) k now) → put_mid (index * size) k now piece ≡ reversed_pieces size (index + 1) bytes ++ drop ((index + 1) * size) bytes
turned_step size index k bytes now piece h e is was =
    let front = reversed_pieces size index bytes in
    let rest = drop (index * size) bytes in
    let l : length front ≡ index * size = length-reversed_pieces size index bytes (omega arith) in
    let a = index * size in
    let taken : take a now ≡ front = ap (take a) is ∙ take_at front rest a l in
    let dropped : drop a now ≡ rest = ap (drop a) is ∙ drop_at front rest a l in
    let turned : piece ≡ reverse (take size rest) = was ∙ ap (λ xs. reverse (take k xs)) dropped ∙ ap (λ n. reverse (take n rest)) e in
    let left : drop k (drop a now) ≡ drop ((index + 1) * size) bytes
    = ap (drop k) dropped ∙ drop-drop k a bytes ∙ ap (λ n. drop n bytes) (let q : a + k ≡ (index + 1) * size = omega (arith, e) in q) in
    ap (λ xs. xs ++ (piece ++ drop k (drop a now))) taken
    ∙ ap (λ xs. front ++ (xs ++ drop k (drop a now))) turned
    ∙ ap (λ xs. front ++ (reverse (take size rest) ++ xs)) left
    ∙ sym (append_assoc front (reverse (take size rest)) (drop ((index + 1) * size) bytes))
    ∙ ap (λ xs. xs ++ drop ((index + 1) * size) bytes) (sym (reversed_pieces-more size index bytes))

-- eight bytes, swapped pair by pair
pub reverse_eight : (bytes : List ℕ) → length bytes ≡ 8 → swap (swap (swap (swap bytes 0 7) 1 6) 2 5) 3 4 ≡ reverse bytes
reverse_eight (a ∷ b ∷ c ∷ d ∷ e ∷ f ∷ g ∷ h ∷ []) l = refl
reverse_eight bytes l = absurd (omega arith)
