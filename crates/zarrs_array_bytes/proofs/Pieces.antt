-- Lists cut into pieces of one size, and put together again.
use Rattle.std.proofs.Common.{◌≡◌, Bool, ℕ, zero, suc, ◌+◌, ◌*◌, ◌≤◌, List, [], ◌∷◌, ◌++◌, length, map, take, drop, refl, sym, ap, ap₂, subst, ◌∙◌, arith, take_at, drop_at, drop-drop, length-append, length-take-le, length-drop, ◌-◌}
use Rattle.std.specs.List.{concat, range_with_len}
use Rattle.std.proofs.lemmas.Simd.{map-map}
use Rattle.std.proofs.lemmas.List.{nil_from_length, take-append-drop, take-take, drop-take}
use Rattle.std.proofs.lemmas.List.FromFn.{length-map-range_with_len}
use Rattle.zarrs_data_type.specs.ElementType.{fixed, element_size}
use Rattle.zarrs_data_type.specs.Element.{plain}
use Rattle.zarrs_array_bytes.specs.Held.{Raw, flen}
use Rattle.zarrs_array_bytes.specs.Elements.{piece, elements}
use Rattle.zarrs_array_bytes.specs.Pieces.{pieces}
use Rattle.zarrs_array_bytes.proofs.RunLemmas.{piece_is}

-- what lies within the first items
pub take-drop-take : (count s n : ℕ) (xs : List ℕ) → s + count ≤ n → take count (drop s (take n xs)) ≡ take count (drop s xs)
take-drop-take count s n xs h =
    ap (λ k. take count (drop s (take k xs))) (let e : n ≡ s + (n - s) = omega arith in e)
    ∙ ap (take count) (drop-take s (n - s) xs)
    ∙ take-take count (n - s) (drop s xs) (omega arith)

-- each part has so many items
abbrev pub AllSized : ℕ → List (List ℕ) → Type 0
AllSized size [] = Unit {0}
AllSized size (part ∷ parts) = (length part ≡ size) × AllSized size parts

-- ---- one piece after another

pub piece-behind : (size place : ℕ) (items : List ℕ) → piece size items (place + 1) ≡ piece size (drop size items) place
piece-behind size place items =
    let at : size + place * size ≡ (place + 1) * size = omega arith in
    piece_is size (place + 1) items ∙ ap (λ n. take size (drop n items)) (sym at)
    ∙ ap (take size) (sym (drop-drop (place * size) size items)) ∙ sym (piece_is size place (drop size items))

pieces-behind : (size first count : ℕ) (items : List ℕ) → map (piece size items) (range_with_len (first + 1) count) ≡ map (piece size (drop size items)) (range_with_len first count)
pieces-behind size first zero items = refl
pieces-behind size first (suc count) items = ap₂ (λ p ps. p ∷ ps) (piece-behind size first items) (pieces-behind size (first + 1) count items)

-- the first piece, and those of what stands behind it
pub pieces-suc : (size count : ℕ) (items : List ℕ) → pieces size (suc count) items ≡ take size items ∷ pieces size count (drop size items)
pieces-suc size count items =
    let z : 0 * size ≡ 0 = omega arith in
    ap₂ (λ p ps. p ∷ ps) (piece_is size 0 items ∙ ap (λ n. take size (drop n items)) z) (pieces-behind size 0 count items)

pub length-pieces : (size count : ℕ) (items : List ℕ) → length (pieces size count items) ≡ count
length-pieces size count items = length-map-range_with_len (piece size items) 0 count

pub pieces_sized : (size count : ℕ) (items : List ℕ) → count * size ≤ length items → AllSized size (pieces size count items)
pieces_sized size zero items h = tt
pieces_sized size (suc count) items h =
    let m : suc count * size ≡ size + count * size = omega arith in
    subst (AllSized size) (sym (pieces-suc size count items)) (length-take-le size items (omega arith), pieces_sized size count (drop size items) (omega (arith, length-drop size items)))

pub length-concat : (size : ℕ) (parts : List (List ℕ)) → AllSized size parts → length (concat parts) ≡ length parts * size
length-concat size [] h = omega arith
length-concat size (part ∷ parts) h =
    omega (arith, length-append part (concat parts), length-concat size parts h.1, h.0)

-- parts of one size that are put together are cut into themselves
pub pieces-concat : (size : ℕ) (parts : List (List ℕ)) → AllSized size parts → pieces size (length parts) (concat parts) ≡ parts
pieces-concat size [] h = refl
pieces-concat size (part ∷ parts) h =
    pieces-suc size (length parts) (part ++ concat parts)
    ∙ ap₂ (λ p xs. p ∷ pieces size (length parts) xs) (take_at part (concat parts) size h.0) (drop_at part (concat parts) size h.0)
    ∙ ap (λ ps. part ∷ ps) (pieces-concat size parts h.1)

-- what is cut wholly is its pieces, put together
pub concat-pieces : (size count : ℕ) (items : List ℕ) → length items ≡ count * size → concat (pieces size count items) ≡ items
concat-pieces size zero items h = sym (nil_from_length items (h ∙ omega arith))
concat-pieces size (suc count) items h =
    let m : suc count * size ≡ size + count * size = omega arith in
    ap concat (pieces-suc size count items)
    ∙ ap (λ (rest : List ℕ). take size items ++ rest) (concat-pieces size count (drop size items) (omega (arith, length-drop size items)))
    ∙ take-append-drop size items

-- the first pieces, and those behind them
pub pieces-split : (size count more : ℕ) (items : List ℕ) → pieces size (count + more) items ≡ pieces size count items ++ pieces size more (drop (count * size) items)
pieces-split size zero more items =
    let e : 0 + more ≡ more = omega arith in
    let f : 0 * size ≡ 0 = omega arith in
    ap (λ n. pieces size n items) e ∙ ap (λ n. pieces size more (drop n items)) (sym f)
pieces-split size (suc count) more items =
    let e : suc count + more ≡ suc (count + more) = omega arith in
    let f : size + count * size ≡ suc count * size = omega arith in
    ap (λ n. pieces size n items) e
    ∙ pieces-suc size (count + more) items
    ∙ ap (λ ps. take size items ∷ ps) (pieces-split size count more (drop size items))
    ∙ ap (λ xs. take size items ∷ (pieces size count (drop size items) ++ pieces size more xs)) (drop-drop (count * size) size items ∙ ap (λ n. drop n items) f)
    ∙ ap (λ ps. ps ++ pieces size more (drop (suc count * size) items)) (sym (pieces-suc size count items))

-- pieces from the front don't look behind
pub pieces-take : (size count : ℕ) (items : List ℕ) → pieces size count (take (count * size) items) ≡ pieces size count items
pieces-take size zero items = refl
pieces-take size (suc count) items =
    let s : suc count * size ≡ size + count * size = omega arith in
    let rest : drop size (take (suc count * size) items) ≡ take (count * size) (drop size items)
    = ap (λ n. drop size (take n items)) s ∙ drop-take size (count * size) items in
    pieces-suc size count (take (suc count * size) items)
    ∙ ap₂ (λ part xs. part ∷ pieces size count xs) (take-take size (suc count * size) items (omega arith)) rest
    ∙ ap (λ ps. take size items ∷ ps) (pieces-take size count (drop size items))
    ∙ sym (pieces-suc size count items)

pub pieces-front : (size count : ℕ) (items behind : List ℕ) → length items ≡ count * size → pieces size count (items ++ behind) ≡ pieces size count items
pieces-front size count items behind h =
    sym (pieces-take size count (items ++ behind)) ∙ ap (pieces size count) (take_at items behind (count * size) h)

-- what is made of the pieces place by place is made of the pieces
pub read_pieces : {A : Type 0} (f : List ℕ → A) (size count : ℕ) (items : List ℕ) → map (λ place. f (piece size items place)) (range_with_len 0 count) ≡ map f (pieces size count items)
read_pieces f size count items = sym (map-map f (piece size items) (range_with_len 0 count))

pub elements-pieces : (width components : ℕ) (sign : Bool) (count : ℕ) (raw : Raw) → elements (fixed width components sign) count (flen raw) ≡ map plain (pieces (element_size width components) count raw.items)
elements-pieces width components sign count raw = read_pieces plain (element_size width components) count raw.items
