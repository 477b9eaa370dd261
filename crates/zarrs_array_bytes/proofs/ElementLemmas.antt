-- The elements of bytes one behind another.
use Rattle.std.proofs.Common.{◌≡◌, ℕ, zero, suc, ◌+◌, ◌-◌, ◌*◌, ◌<◌, ◌≤◌, List, [], ◌∷◌, ◌++◌, length, map, take, drop, get_or, refl, ap, arith, zero-mul, take_at, drop_at, drop-drop, append_assoc, length-append, length-take, length-drop}
use Rattle.std.specs.List.{flat_map, between}
use Rattle.zarrs_array_bytes.specs.Elements.{piece}
use Rattle.zarrs_array_bytes.specs.Pieces.{ends}

-- pieces of one size, joined
pub piece_at : {X : Type 0} (f : X → List ℕ) (size : ℕ) (ps : List X) (i : ℕ) (d : X) → ((k : ℕ) → k < length ps → length (f (get_or ps k d)) ≡ size) → i < length ps → take size (drop (i * size) (flat_map f ps)) ≡ f (get_or ps i d)
piece_at f size [] i d each l = absurd (omega arith)
piece_at f size (p ∷ ps) zero d each l = rw zero-mul (take_at (f p) (flat_map f ps) size (each 0 (omega arith)))
piece_at f size (p ∷ ps) (suc i) d each l =
    let first : length (f p) ≡ size = each 0 (omega arith) in
    let at : suc i * size ≡ size + i * size = omega arith in
    rw (at, ← drop-drop (i * size) size (f p ++ flat_map f ps), drop_at (f p) (flat_map f ps) size first) (piece_at f size ps i d (λ k h. each (suc k) (omega arith)) (omega arith))

pub length-flat_map_sized : {X : Type 0} (f : X → List ℕ) (size : ℕ) (ps : List X) (d : X) → ((k : ℕ) → k < length ps → length (f (get_or ps k d)) ≡ size) → length (flat_map f ps) ≡ length ps * size
length-flat_map_sized f size [] d each = omega arith
length-flat_map_sized f size (p ∷ ps) d each =
    omega (arith, length-append (f p) (flat_map f ps), each 0 (omega arith), length-flat_map_sized f size ps d (λ k h. each (suc k) (omega arith)))

-- what stands between the ends of joined pieces
pub cut_at : {X : Type 0} (f : X → List ℕ) (pre : List ℕ) (at : ℕ) (ps : List X) (i : ℕ) (d : X) → length pre ≡ at → i < length ps
    → between (get_or (at ∷ ends at (map f ps)) i 0) (get_or (ends at (map f ps)) i 0) (pre ++ flat_map f ps) ≡ f (get_or ps i d)
cut_at f pre at [] i d e l = absurd (omega arith)
cut_at f pre at (p ∷ ps) zero d e l =
    let n : at + length (f p) - at ≡ length (f p) = omega arith in
    rw (drop_at pre (f p ++ flat_map f ps) at e, n) (take_at (f p) (flat_map f ps) (length (f p)) refl)
cut_at f pre at (p ∷ ps) (suc i) d e l =
    rw (← append_assoc pre (f p) (flat_map f ps)) (cut_at f (pre ++ f p) (at + length (f p)) ps i d (omega (arith, length-append pre (f p))) (omega arith))

pub length_ends : (at : ℕ) (xs : List (List ℕ)) → length (ends at xs) ≡ length xs
length_ends at [] = refl
length_ends at (x ∷ xs) = ap suc (length_ends (at + length x) xs)

pub length_between : (a b : ℕ) (xs : List ℕ) → a ≤ b → b ≤ length xs → length (between a b xs) ≡ b - a
length_between a b xs h l = omega (arith, length-take (b - a) (drop a xs), length-drop a xs)

pub length_piece : (size i : ℕ) (xs : List ℕ) → i * size + size ≤ length xs → length (piece size xs i) ≡ size
length_piece size i xs h = omega (arith, length_between (i * size) (i * size + size) xs (omega arith) h)
