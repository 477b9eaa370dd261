-- Elements of one size written over the bytes of their places.
use Rattle.std.proofs.Common.{◌≡◌, ℕ, zero, suc, ◌+◌, ◌-◌, ◌*◌, ◌<◌, ◌≤◌, List, [], ◌∷◌, ◌++◌, length, take, drop, set, replicate, arith, refl, ap, ap₂, sym, ◌∙◌}
use Rattle.std.specs.List.{All, concat, range_with_len}
use Rattle.std.proofs.Math.Nat.{mul-le-mul_right}
use Rattle.std.proofs.lemmas.List.{append-nil, append_assoc, drop_at, drop-drop, length-set}
use Rattle.std.proofs.lemmas.List.Elements.{All-tail}
use Rattle.std.proofs.lemmas.List.FromFn.{length-range_with_len}
use Rattle.zarrs_codec.specs.BytePieces.{with_zeros}
use Rattle.zarrs_codec.proofs.PieceLemmas.{update-from}
use Rattle.zarrs_array_bytes.specs.Update.{update}
use Rattle.zarrs_array_bytes.proofs.Pieces.{AllSized, length-concat}
use Rattle.zarrs_array_bytes.proofs.WriteLemmas.{update-append}
use Rattle.zarrs_bytes.specs.PartialRead.{place_bytes}
use Rattle.zarrs_bytes.specs.PartialWrite.{end_of_places, with_place_bytes}
use Rattle.zarrs_array_bytes.proofs.UpdatedLemmas.{set_sized}

-- one piece replaced
concat-set : (size : ℕ) (xs : List (List ℕ)) (place : ℕ) (y : List ℕ) → AllSized size xs → place < length xs → take (place * size) (concat xs) ++ (y ++ drop (place * size + size) (concat xs)) ≡ concat (set xs place y)
concat-set size [] place y h l = absurd (omega arith)
concat-set size (x ∷ xs) zero y h l =
    let start : zero * size ≡ 0 = omega arith in
    let end : zero * size + size ≡ size = omega arith in
    ap₂ (λ a b. take a (x ++ concat xs) ++ (y ++ drop b (x ++ concat xs))) start end
    ∙ ap (λ zs. y ++ zs) (drop_at x (concat xs) size h.0)
concat-set size (x ∷ xs) (suc place) y h l =
    let start : suc place * size ≡ size + place * size = omega arith in
    let end : suc place * size + size ≡ size + (place * size + size) = omega arith in
    let behind : (n : ℕ) → drop (size + n) (x ++ concat xs) ≡ drop n (concat xs) = λ n. sym (drop-drop n size (x ++ concat xs)) ∙ ap (drop n) (drop_at x (concat xs) size h.0) in
    ap₂ (λ a b. take a (x ++ concat xs) ++ (y ++ drop b (x ++ concat xs))) start end
    ∙ ap₂ (λ zs ws. zs ++ (y ++ ws)) (take-past size (place * size) x (concat xs) h.0) (behind (place * size + size))
    ∙ append_assoc x (take (place * size) (concat xs)) (y ++ drop (place * size + size) (concat xs))
    ∙ ap (λ zs. x ++ zs) (concat-set size xs place y h.1 (omega arith))
  where
    take-past : (m n : ℕ) (xs ys : List ℕ) → length xs ≡ m → take (m + n) (xs ++ ys) ≡ xs ++ take n ys
    take-past zero n [] ys e = ap (λ k. take k ys) (let z : 0 + n ≡ n = omega arith in z)
    take-past zero n (x ∷ xs) ys e = absurd (omega arith)
    take-past (suc m) n [] ys e = absurd (omega arith)
    take-past (suc m) n (x ∷ xs) ys e = ap (λ k. take k (x ∷ (xs ++ ys))) (let z : suc m + n ≡ suc (m + n) = omega arith in z) ∙ ap (λ zs. x ∷ zs) (take-past m n xs ys (omega arith))

one_place : (size : ℕ) (xs : List (List ℕ)) (place : ℕ) (y : List ℕ) → AllSized size xs → length y ≡ size → place < length xs → update (concat xs) (range_with_len (place * size) size) y ≡ concat (set xs place y)
one_place size xs place y h e l =
    let next : place + 1 ≤ length xs = omega arith in
    let row : (place + 1) * size ≤ length xs * size = mul-le-mul_right size next in
    let spread : (place + 1) * size ≡ place * size + size = omega arith in
    let room : place * size + length y ≤ length (concat xs) = omega (arith, row, spread, e, length-concat size xs h) in
    ap (λ n. update (concat xs) (range_with_len (place * size) n) y) (sym e)
    ∙ update-from (concat xs) y (place * size) room
    ∙ ap (λ n. take (place * size) (concat xs) ++ (y ++ drop (place * size + n) (concat xs))) e
    ∙ concat-set size xs place y h l

-- writing over the bytes of places is an update of the pieces
pub written_in_place : (size : ℕ) (xs : List (List ℕ)) (places : List ℕ) (ys : List (List ℕ)) → AllSized size xs → AllSized size ys → length places ≡ length ys → All (λ place. place < length xs) places → update (concat xs) (place_bytes size places) (concat ys) ≡ concat (update xs places ys)
written_in_place size xs [] [] h g e below = refl
written_in_place size xs [] (y ∷ ys) h g e below = absurd (omega arith)
written_in_place size xs (place ∷ places) [] h g e below = absurd (omega arith)
written_in_place size xs (place ∷ places) (y ∷ ys) h g e below =
    let inside : place < length xs = below 0 place (omega arith) in
    let same : length (set xs place y) ≡ length xs = length-set xs place y in
    let rest : All (λ p. p < length (set xs place y)) places = rw same (All-tail (λ p. p < length xs) place places below) in
    update-append (concat xs) (range_with_len (place * size) size) (place_bytes size places) y (concat ys) (length-range_with_len (place * size) size ∙ sym g.0)
    ∙ ap (λ zs. update zs (place_bytes size places) (concat ys)) (one_place size xs place y h g.0 inside)
    ∙ written_in_place size (set xs place y) places ys (set_sized size xs place y h g.0) g.1 (omega arith) rest

-- places inside end inside
end_inside : (size count : ℕ) (places : List ℕ) → All (λ place. place < count) places → end_of_places size places ≤ count * size
end_inside size count [] h = omega arith
end_inside size count (place ∷ places) h =
    let inside : place < count = h 0 place (omega arith) in
    let next : place + 1 ≤ count = omega arith in
    let row : (place + 1) * size ≤ count * size = mul-le-mul_right size next in
    let spread : (place + 1) * size ≡ place * size + size = omega arith in
    omega (arith, row, spread, end_inside size count places (All-tail (λ p. p < count) place places h))

-- a value that is long enough gets no zeros
no_zeros : (value : List ℕ) (end : ℕ) → end ≤ length value → with_zeros value end ≡ value
no_zeros value end h =
    let none : end - length value ≡ 0 = omega arith in
    ap (λ n. value ++ replicate n 0) none ∙ append-nil value

-- over a value of pieces, the bytes of places inside that are written make the updated pieces
pub pieces_written : (size : ℕ) (xs : List (List ℕ)) (places : List ℕ) (ys : List (List ℕ)) → AllSized size xs → AllSized size ys → length places ≡ length ys → All (λ place. place < length xs) places → with_place_bytes size (concat xs) places (concat ys) ≡ concat (update xs places ys)
pieces_written size xs places ys h g e below =
    let long : length (concat xs) ≡ length xs * size = length-concat size xs h in
    ap (λ value. update value (place_bytes size places) (concat ys)) (no_zeros (concat xs) (end_of_places size places) (omega (arith, long, end_inside size (length xs) places below)))
    ∙ written_in_place size xs places ys h g e below
