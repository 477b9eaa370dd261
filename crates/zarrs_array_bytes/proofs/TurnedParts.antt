-- Bytes turned round part by part.
use Rattle.std.proofs.Common.{◌≡◌, ℕ, ◌+◌, ◌*◌, ◌/◌, ◌<◌, ◌≤◌, List, [], ◌∷◌, ◌++◌, length, map, take, drop, reverse, swap, Some, arith, refl, ap, ◌∙◌, sym}
use Rattle.std.specs.List.{concat}
use Rattle.std.proofs.Math.Nat.{mul-add-div_right, mul-div_cancel, mul_assoc}
use Rattle.std.proofs.lemmas.List.{append_assoc, append-nil, map-append, length-append, take_at, drop_at, drop_all, take_all, drop-drop}
use Rattle.std.proofs.Math.Seq.{take-add}
use Rattle.std.proofs.lemmas.List.Folds.{concat-append}
use Rattle.zarrs_array_bytes.specs.Pieces.{pieces}
use Rattle.zarrs_array_bytes.proofs.Pieces.{pieces-split, pieces-front}
use Rattle.zarrs_array_bytes.specs.Turned.{reversed_pieces, turned_bytes}
use Rattle.zarrs_array_bytes.proofs.ReversedPieces.{length-reversed_pieces}
use borrow.Rule.Slice.PartMut.{put_mid, mid_of}

pub reversed_pieces-split : (size count more : ℕ) (bytes : List ℕ) → reversed_pieces size (count + more) bytes ≡ reversed_pieces size count bytes ++ reversed_pieces size more (drop (count * size) bytes)
reversed_pieces-split size count more bytes =
    let first = pieces size count bytes in
    let rest = pieces size more (drop (count * size) bytes) in
    ap (λ (parts : List (List ℕ)). concat (map reverse parts)) (pieces-split size count more bytes)
    ∙ ap concat (map-append reverse first rest)
    ∙ concat-append (map reverse first) (map reverse rest)

-- so many whole pieces and what follows them
pub turned_at : (size count more : ℕ) (front rest : List ℕ) → length front ≡ count * size → reversed_pieces size (count + more) (front ++ rest) ++ drop ((count + more) * size) (front ++ rest) ≡ reversed_pieces size count front ++ (reversed_pieces size more rest ++ drop (more * size) rest)
turned_at size count more front rest l =
    let all = front ++ rest in
    let dropped : drop (count * size) all ≡ rest = drop_at front rest (count * size) l in
    let left : drop ((count + more) * size) all ≡ drop (more * size) rest
    = ap (λ n. drop n all) (let q : (count + more) * size ≡ count * size + more * size = omega arith in q) ∙ sym (drop-drop (more * size) (count * size) all) ∙ ap (drop (more * size)) dropped in
    let pieces_of : reversed_pieces size (count + more) all ≡ reversed_pieces size count front ++ reversed_pieces size more rest
    = reversed_pieces-split size count more all
    ∙ ap (λ (parts : List (List ℕ)). concat (map reverse parts) ++ reversed_pieces size more (drop (count * size) all)) (pieces-front size count front rest l)
    ∙ ap (λ (bytes : List ℕ). reversed_pieces size count front ++ reversed_pieces size more bytes) dropped in
    ap (λ (xs : List ℕ). xs ++ drop ((count + more) * size) all) pieces_of
    ∙ ap (λ (xs : List ℕ). (reversed_pieces size count front ++ reversed_pieces size more rest) ++ xs) left
    ∙ append_assoc (reversed_pieces size count front) (reversed_pieces size more rest) (drop (more * size) rest)

-- whole pieces alone
pub turned_bytes-whole : (size count : ℕ) (front : List ℕ) → 0 < size → length front ≡ count * size → turned_bytes (Some size) front ≡ reversed_pieces size count front
turned_bytes-whole size count front p l =
    let quotient : length front / size ≡ count
    = ap (λ n. n / size) l ∙ mul-div_cancel count p in
    ap (λ n. reversed_pieces size n front ++ drop (n * size) front) quotient
    ∙ ap (λ (xs : List ℕ). reversed_pieces size count front ++ xs) (drop_all (count * size) front (omega (arith, l)))
    ∙ append-nil (reversed_pieces size count front)

-- whole pieces and what follows them are turned each on its own
pub turned_bytes-append : (size count : ℕ) (front rest : List ℕ) → 0 < size → length front ≡ count * size → turned_bytes (Some size) (front ++ rest) ≡ turned_bytes (Some size) front ++ turned_bytes (Some size) rest
turned_bytes-append size count front rest p l =
    let more = length rest / size in
    let quotient : length (front ++ rest) / size ≡ count + more
    = ap (λ n. n / size) (length-append front rest ∙ ap (λ n. n + length rest) l) ∙ mul-add-div_right p count (length rest) in
    ap (λ n. reversed_pieces size n (front ++ rest) ++ drop (n * size) (front ++ rest)) quotient
    ∙ turned_at size count more front rest l
    ∙ ap (λ (xs : List ℕ). xs ++ turned_bytes (Some size) rest) (sym (turned_bytes-whole size count front p l))

length-turned_bytes-whole : (size count : ℕ) (front : List ℕ) → 0 < size → length front ≡ count * size → length (turned_bytes (Some size) front) ≡ count * size
length-turned_bytes-whole size count front p l = ap length (turned_bytes-whole size count front p l) ∙ length-reversed_pieces size count front (omega (arith, l))

front_length : (n a : ℕ) (bytes : List ℕ) → a ≡ n → a ≤ length bytes → length (take a bytes) ≡ n
front_length n a bytes e h = search (Rattle.std.proofs.Common.rules, e, h)

turned_bytes-part : (size count a k : ℕ) (bytes : List ℕ) → 0 < size → a ≡ count * size → a ≤ length bytes → turned_bytes (Some size) (take (a + k) bytes) ≡ turned_bytes (Some size) (take a bytes) ++ turned_bytes (Some size) (take k (drop a bytes))
turned_bytes-part size count a k bytes p e h =
    ap (turned_bytes (Some size)) (take-add a k bytes)
    ∙ turned_bytes-append size count (take a bytes) (take k (drop a bytes)) p (front_length (count * size) a bytes e h)

-- a part more is turned in place
pub turned_more : (size count a k b : ℕ) (bytes now piece : List ℕ) → 0 < size → a ≡ count * size → a ≤ length bytes → a + k ≡ b → now ≡ turned_bytes (Some size) (take a bytes) ++ drop a bytes → piece ≡ turned_bytes (Some size) (mid_of a k now) → put_mid a k now piece ≡ turned_bytes (Some size) (take b bytes) ++ drop b bytes
turned_more size count a k b bytes now piece p e h q is was =
    let front = turned_bytes (Some size) (take a bytes) in
    let rest = drop a bytes in
    let l : length front ≡ a = length-turned_bytes-whole size count (take a bytes) p (front_length (count * size) a bytes e h) ∙ sym e in
    let taken : take a now ≡ front = ap (take a) is ∙ take_at front rest a l in
    let dropped : drop a now ≡ rest = ap (drop a) is ∙ drop_at front rest a l in
    let made : piece ≡ turned_bytes (Some size) (take k rest) = was ∙ ap (λ (xs : List ℕ). turned_bytes (Some size) (take k xs)) dropped in
    let left : drop k (drop a now) ≡ drop (a + k) bytes = ap (drop k) dropped ∙ drop-drop k a bytes in
    ap (λ (xs : List ℕ). xs ++ (piece ++ drop k (drop a now))) taken
    ∙ ap (λ (xs : List ℕ). front ++ (xs ++ drop k (drop a now))) made
    ∙ ap (λ (xs : List ℕ). front ++ (turned_bytes (Some size) (take k rest) ++ xs)) left
    ∙ sym (append_assoc front (turned_bytes (Some size) (take k rest)) (drop (a + k) bytes))
    ∙ ap (λ (xs : List ℕ). xs ++ drop (a + k) bytes) (sym (turned_bytes-part size count a k bytes p e h))
    ∙ ap (λ n. turned_bytes (Some size) (take n bytes) ++ drop n bytes) q

-- the whole is a part that has no rest
pub turned_bytes-all : (size n : ℕ) (bytes : List ℕ) → n ≡ length bytes → turned_bytes (Some size) (take n bytes) ++ drop n bytes ≡ turned_bytes (Some size) bytes
turned_bytes-all size n bytes e =
    ap (λ (xs : List ℕ). turned_bytes (Some size) xs ++ drop n bytes) (take_all n bytes (omega (arith, e)))
    ∙ ap (λ (xs : List ℕ). turned_bytes (Some size) bytes ++ xs) (drop_all n bytes (omega (arith, e)))
    ∙ append-nil (turned_bytes (Some size) bytes)

-- a part more is appended
pub appended_more : (size count a k b : ℕ) (bytes was now : List ℕ) → 0 < size → a ≡ count * size → a ≤ length bytes → a + k ≡ b → was ≡ turned_bytes (Some size) (take a bytes) → now ≡ was ++ turned_bytes (Some size) (take k (drop a bytes)) → now ≡ turned_bytes (Some size) (take b bytes)
appended_more size count a k b bytes was now p e h q is made =
    made
    ∙ ap (λ (xs : List ℕ). xs ++ turned_bytes (Some size) (take k (drop a bytes))) is
    ∙ sym (turned_bytes-part size count a k bytes p e h)
    ∙ ap (λ n. turned_bytes (Some size) (take n bytes)) q

-- a group is whole pieces, and so are many groups
pub groups_whole : (size group index : ℕ) → group / size * size ≡ group → index * group ≡ index * (group / size) * size
groups_whole size group index e = ap (λ n. index * n) (sym e) ∙ sym (mul_assoc index (group / size) size)
