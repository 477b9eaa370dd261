-- Bytes of elements of one size, extracted from under a mask and put back, by the first mask byte and the rest.
use Rattle.std.proofs.Common.{◌≡◌, ℕ, zero, suc, ◌+◌, ◌-◌, ◌*◌, ◌<◌, ◌≤◌, ◌^◌, Bool, true, false, ◌&&◌, nat_lt, lt-ltb, ltb-true, Some, Ok, List, [], ◌∷◌, ◌++◌, length, map, take, drop, slice_index, replicate, refl, sym, ap, ap₂, ◌∙◌, subst, arith, take_at, drop-drop, append_assoc, length-append, length-take-le}
use Rattle.std.specs.List.{All, concat}
use Rattle.std.proofs.lemmas.List.Elements.{All-cons, All-tail}
use Rattle.std.proofs.lemmas.List.{drop_more, take-replicate, drop-replicate, length-map, length-replicate}
use Rattle.zarrs_array_bytes.specs.Elements.{piece}
use Rattle.zarrs_array_bytes.specs.Pieces.{pieces, pieces_at, fixed_of}
use Rattle.zarrs_array_bytes.specs.Present.{present_places, container_spread}
use Rattle.zarrs_array_bytes.specs.Update.{update, with_items_at, pieces_update}
use Rattle.zarrs_array_bytes.proofs.Pieces.{piece-behind, pieces-suc}
use Rattle.std.proofs.lemmas.Nat.{row_fits}
use Rattle.zarrs_data_type.specs.ElementType.{ElementType, fixed, text, bytes, optional, element_size, fixed_size_of}
use Rattle.zarrs_array_bytes.specs.Held.{Raw, flen}
use Rattle.zarrs_array_bytes.specs.Extracted.{container_selection}
use Rattle.zarrs_array_bytes.specs.Validity.{sizes_fit}
use Rattle.zarrs_array_bytes.proofs.ValidLemmas.{demand_ok, raw_items, fixed_fits}
use Rattle.zarrs_array_bytes.proofs.ElementLemmas.{length_piece}
use Rattle.zarrs_array_bytes.proofs.RunLemmas.{piece_is}
use Rattle.zarrs_array_bytes.proofs.PresentLemmas.{marked, present_places-marked, update-suc}

-- ---- extracted

-- the elements at the mask bytes that aren't 0
abbrev pub keeps : ℕ → List ℕ → List ℕ → List ℕ
keeps size [] items = []
keeps size (zero ∷ mask) items = keeps size mask (drop size items)
keeps size (suc byte ∷ mask) items = take size items ++ keeps size mask (drop size items)

pieces_at-suc : (size : ℕ) (items places : List ℕ) → pieces_at size items (map suc places) ≡ pieces_at size (drop size items) places
pieces_at-suc size items [] = refl
pieces_at-suc size items (place ∷ places) =
    let next : suc place ≡ place + 1 = omega arith in
    ap₂ (λ xs ys. xs ++ ys) (ap (piece size items) next ∙ piece-behind size place items) (pieces_at-suc size items places)

keeps-marked : (size : ℕ) (mask items : List ℕ) → keeps size mask items ≡ pieces_at size items (marked mask)
keeps-marked size [] items = refl
keeps-marked size (zero ∷ mask) items = keeps-marked size mask (drop size items) ∙ sym (pieces_at-suc size items (marked mask))
keeps-marked size (suc byte ∷ mask) items =
    let z : 0 * size ≡ 0 = omega arith in
    ap₂ (λ xs ys. xs ++ ys) (sym (piece_is size 0 items ∙ ap (λ n. take size (drop n items)) z)) (keeps-marked size mask (drop size items) ∙ sym (pieces_at-suc size items (marked mask)))

pub keeps-places : (size : ℕ) (mask items : List ℕ) → keeps size mask items ≡ pieces_at size items (present_places mask)
keeps-places size mask items = keeps-marked size mask items ∙ ap (pieces_at size items) (sym (present_places-marked mask))

-- ---- put back

-- the elements at the mask bytes that aren't 0, and old ones between them
abbrev pub spread : ℕ → List ℕ → List ℕ → List ℕ → List ℕ
spread size [] old items = []
spread size (zero ∷ mask) old items = take size old ++ spread size mask (drop size old) items
spread size (suc byte ∷ mask) old items = take size items ++ spread size mask (drop size old) (drop size items)

spread-marked : (size : ℕ) (mask old items : List ℕ) → spread size mask old items ≡ concat (update (pieces size (length mask) old) (marked mask) (pieces size (length (marked mask)) items))
spread-marked size [] old items = refl
spread-marked size (zero ∷ mask) old items =
    let count : length (marked mask) ≡ length (map suc (marked mask)) = sym (length-map (marked mask) suc) in
    sym (ap₂ (λ xs n. concat (update xs (map suc (marked mask)) (pieces size n items))) (pieces-suc size (length mask) old) (sym count)
    ∙ ap concat (update-suc (take size old) (pieces size (length mask) (drop size old)) (marked mask) (pieces size (length (marked mask)) items))
    ∙ ap (λ xs. take size old ++ xs) (sym (spread-marked size mask (drop size old) items)))
spread-marked size (suc byte ∷ mask) old items =
    let count : length (marked mask) ≡ length (map suc (marked mask)) = sym (length-map (marked mask) suc) in
    sym (ap₂ (λ xs n. concat (update xs (0 ∷ map suc (marked mask)) (pieces size (suc n) items))) (pieces-suc size (length mask) old) (sym count)
    ∙ ap (λ ys. concat (update (take size old ∷ pieces size (length mask) (drop size old)) (0 ∷ map suc (marked mask)) ys)) (pieces-suc size (length (marked mask)) items)
    ∙ ap concat (update-suc (take size items) (pieces size (length mask) (drop size old)) (marked mask) (pieces size (length (marked mask)) (drop size items)))
    ∙ ap (λ xs. take size items ++ xs) (sym (spread-marked size mask (drop size old) (drop size items))))

pub spread-places : (size : ℕ) (mask old items : List ℕ) → spread size mask old items ≡ pieces_update size (length mask) old (present_places mask) items
spread-places size mask old items =
    spread-marked size mask old items
    ∙ ap (λ ps. concat (update (pieces size (length mask) old) ps (pieces size (length ps) items))) (sym (present_places-marked mask))

-- ---- one element more

-- what stands before a place that is written
pub before_written : (old part : List ℕ) (at : ℕ) → at ≤ length old → take at (with_items_at old at part) ≡ take at old
before_written old part at h = take_at (take at old) (part ++ drop (at + length part) old) at (length-take-le at old h)

-- the same, and what is written there
pub with_written : (old part : List ℕ) (at next : ℕ) → at ≤ length old → next ≡ at + length part → take next (with_items_at old at part) ≡ take at old ++ part
with_written old part at next h e =
    ap (take next) (sym (append_assoc (take at old) part (drop (at + length part) old)))
    ∙ take_at (take at old ++ part) (drop (at + length part) old) next (omega (arith, length-append (take at old) part, length-take-le at old h))

-- the first mask byte, 0 or not
keeps-present : (size byte : ℕ) (mask items : List ℕ) → 0 < byte → keeps size (byte ∷ mask) items ≡ take size items ++ keeps size mask (drop size items)
keeps-present size zero mask items l = absurd (omega arith)
keeps-present size (suc byte) mask items l = refl

keeps-absent : (size byte : ℕ) (mask items : List ℕ) → byte ≡ 0 → keeps size (byte ∷ mask) items ≡ keeps size mask (drop size items)
keeps-absent size zero mask items e = refl
keeps-absent size (suc byte) mask items e = absurd (omega arith)

spread-present_first : (size byte : ℕ) (mask old items : List ℕ) → 0 < byte → spread size (byte ∷ mask) old items ≡ take size items ++ spread size mask (drop size old) (drop size items)
spread-present_first size zero mask old items l = absurd (omega arith)
spread-present_first size (suc byte) mask old items l = refl

spread-absent_first : (size byte : ℕ) (mask old items : List ℕ) → byte ≡ 0 → spread size (byte ∷ mask) old items ≡ take size old ++ spread size mask (drop size old) items
spread-absent_first size zero mask old items e = refl
spread-absent_first size (suc byte) mask old items e = absurd (omega arith)

marked-present : (byte : ℕ) (mask : List ℕ) → 0 < byte → length (marked (byte ∷ mask)) ≡ length (marked mask) + 1
marked-present zero mask l = absurd (omega arith)
marked-present (suc byte) mask l = omega (arith, length-map (marked mask) suc)

marked-absent : (byte : ℕ) (mask : List ℕ) → byte ≡ 0 → length (marked (byte ∷ mask)) ≡ length (marked mask)
marked-absent zero mask e = length-map (marked mask) suc
marked-absent (suc byte) mask e = absurd (omega arith)

-- how many are left behind a place that is present, or absent
pub left-present : (mask : List ℕ) (place : ℕ) → place < length mask → 0 < slice_index mask place → length (marked (drop place mask)) ≡ length (marked (drop (place + 1) mask)) + 1
left-present mask place l some = ap (λ m. length (marked m)) (drop_more mask place 0 l) ∙ marked-present (slice_index mask place) (drop (place + 1) mask) some

pub left-absent : (mask : List ℕ) (place : ℕ) → place < length mask → slice_index mask place ≡ 0 → length (marked (drop place mask)) ≡ length (marked (drop (place + 1) mask))
left-absent mask place l none = ap (λ m. length (marked m)) (drop_more mask place 0 l) ∙ marked-absent (slice_index mask place) (drop (place + 1) mask) none

behind : (size place : ℕ) (items : List ℕ) → drop size (drop (place * size) items) ≡ drop ((place + 1) * size) items
behind size place items =
    let at : place * size + size ≡ (place + 1) * size = omega arith in
    drop-drop size (place * size) items ∙ ap (λ n. drop n items) at

-- an element that is written and stays, or doesn't
pub kept_more : (size done place : ℕ) (out mask items : List ℕ) → place < length mask → 0 < slice_index mask place → done * size ≤ length out → place * size + size ≤ length items
    → take ((done + 1) * size) (with_items_at out (done * size) (piece size items place)) ++ keeps size (drop (place + 1) mask) (drop ((place + 1) * size) items) ≡ take (done * size) out ++ keeps size (drop place mask) (drop (place * size) items)
kept_more size done place out mask items l some room whole =
    let part : List ℕ = piece size items place in
    let rest : List ℕ = keeps size (drop (place + 1) mask) (drop ((place + 1) * size) items) in
    let next : (done + 1) * size ≡ done * size + length part = omega (arith, length_piece size place items whole) in
    let told : keeps size (drop place mask) (drop (place * size) items) ≡ part ++ rest =
    ap (λ m. keeps size m (drop (place * size) items)) (drop_more mask place 0 l)
    ∙ keeps-present size (slice_index mask place) (drop (place + 1) mask) (drop (place * size) items) some
    ∙ ap₂ (λ xs ys. xs ++ keeps size (drop (place + 1) mask) ys) (sym (piece_is size place items)) (behind size place items) in
    ap (λ xs. xs ++ rest) (with_written out part (done * size) ((done + 1) * size) room next)
    ∙ append_assoc (take (done * size) out) part rest
    ∙ ap (λ xs. take (done * size) out ++ xs) (sym told)

pub kept_same : (size done place : ℕ) (out mask items part : List ℕ) → place < length mask → slice_index mask place ≡ 0 → done * size ≤ length out
    → take (done * size) (with_items_at out (done * size) part) ++ keeps size (drop (place + 1) mask) (drop ((place + 1) * size) items) ≡ take (done * size) out ++ keeps size (drop place mask) (drop (place * size) items)
kept_same size done place out mask items part l none room =
    let told : keeps size (drop place mask) (drop (place * size) items) ≡ keeps size (drop (place + 1) mask) (drop ((place + 1) * size) items) =
    ap (λ m. keeps size m (drop (place * size) items)) (drop_more mask place 0 l)
    ∙ keeps-absent size (slice_index mask place) (drop (place + 1) mask) (drop (place * size) items) none
    ∙ ap (λ ys. keeps size (drop (place + 1) mask) ys) (behind size place items) in
    ap₂ (λ xs ys. xs ++ ys) (before_written out part (done * size) room) (sym told)

-- an element that is put at its place, or an old one
pub put_more : (size done place : ℕ) (out mask old items : List ℕ) → place < length mask → 0 < slice_index mask place → place * size ≤ length out → done * size + size ≤ length items
    → take ((place + 1) * size) (with_items_at out (place * size) (piece size items done)) ++ spread size (drop (place + 1) mask) (drop ((place + 1) * size) old) (drop ((done + 1) * size) items)
    ≡ take (place * size) out ++ spread size (drop place mask) (drop (place * size) old) (drop (done * size) items)
put_more size done place out mask old items l some room whole =
    let part : List ℕ = piece size items done in
    let rest : List ℕ = spread size (drop (place + 1) mask) (drop ((place + 1) * size) old) (drop ((done + 1) * size) items) in
    let next : (place + 1) * size ≡ place * size + length part = omega (arith, length_piece size done items whole) in
    let told : spread size (drop place mask) (drop (place * size) old) (drop (done * size) items) ≡ part ++ rest =
    ap (λ m. spread size m (drop (place * size) old) (drop (done * size) items)) (drop_more mask place 0 l)
    ∙ spread-present_first size (slice_index mask place) (drop (place + 1) mask) (drop (place * size) old) (drop (done * size) items) some
    ∙ ap₂ (λ xs ys. xs ++ spread size (drop (place + 1) mask) ys (drop size (drop (done * size) items))) (sym (piece_is size done items)) (behind size place old)
    ∙ ap (λ ys. part ++ spread size (drop (place + 1) mask) (drop ((place + 1) * size) old) ys) (behind size done items) in
    ap (λ xs. xs ++ rest) (with_written out part (place * size) ((place + 1) * size) room next)
    ∙ append_assoc (take (place * size) out) part rest
    ∙ ap (λ xs. take (place * size) out ++ xs) (sym told)

pub put_old : (size done place : ℕ) (out mask old items part : List ℕ) → place < length mask → slice_index mask place ≡ 0 → place * size ≤ length out → length part ≡ size → part ≡ piece size old place
    → take ((place + 1) * size) (with_items_at out (place * size) part) ++ spread size (drop (place + 1) mask) (drop ((place + 1) * size) old) (drop (done * size) items)
    ≡ take (place * size) out ++ spread size (drop place mask) (drop (place * size) old) (drop (done * size) items)
put_old size done place out mask old items part l none room len same =
    let rest : List ℕ = spread size (drop (place + 1) mask) (drop ((place + 1) * size) old) (drop (done * size) items) in
    let next : (place + 1) * size ≡ place * size + length part = omega (arith, len) in
    let told : spread size (drop place mask) (drop (place * size) old) (drop (done * size) items) ≡ part ++ rest =
    ap (λ m. spread size m (drop (place * size) old) (drop (done * size) items)) (drop_more mask place 0 l)
    ∙ spread-absent_first size (slice_index mask place) (drop (place + 1) mask) (drop (place * size) old) (drop (done * size) items) none
    ∙ ap₂ (λ xs ys. xs ++ spread size (drop (place + 1) mask) ys (drop (done * size) items)) (sym (same ∙ piece_is size place old)) (behind size place old) in
    ap (λ xs. xs ++ rest) (with_written out part (place * size) ((place + 1) * size) room next)
    ∙ append_assoc (take (place * size) out) part rest
    ∙ ap (λ xs. take (place * size) out ++ xs) (sym told)

-- bytes that stand in front of others
pub held_in_front : (held element behind : List ℕ) → held ≡ element → take (length element) (held ++ behind) ≡ element
held_in_front held element behind e =
    ap (λ xs. take (length element) (xs ++ behind)) e ∙ take_at element behind (length element) refl

-- an element of zeros
pub zeros_at : (size n place : ℕ) → place < n → size ≤ 16 → take {A = ℕ} size (replicate 16 0) ≡ piece size (replicate (n * size) 0) place
zeros_at size n place l short =
    let room : place * size + size ≤ n * size = row_fits place size n size l (omega arith) in
    take-replicate {X = ℕ} size 16 0 short
    ∙ sym (piece_is size place (replicate (n * size) 0) ∙ ap (take size) (drop-replicate {X = ℕ} (place * size) (n * size) 0)
    ∙ take-replicate {X = ℕ} size (n * size - place * size) 0 (omega (arith, room)))

pub zeros_long : (old : List ℕ) (n : ℕ) → old ≡ replicate n 0 → length old ≡ n
zeros_long old n e = ap length e ∙ length-replicate n 0

-- ---- the whole container

-- elements of one size at places are the bytes there
pub selected_fixed : (t : ElementType) (r : Raw) (ps : List ℕ) (size : ℕ) → fixed_size_of t ≡ Some size → container_selection t (flen r) ps ≡ fixed_of (pieces_at size r.items ps)
selected_fixed (fixed w c s) r ps size i =
    let is : element_size w c ≡ size = cc in
    ap (λ k. fixed_of (pieces_at k r.items ps)) is
selected_fixed text r ps size i = cc
selected_fixed bytes r ps size i = cc
selected_fixed (optional t) r ps size i = cc

pub sizes_fixed : (t : ElementType) (n size : ℕ) → sizes_fit t n ≡ Ok tt → fixed_size_of t ≡ Some size → n * size < 2 ^ 64
sizes_fixed (fixed w c s) n size h i =
    let is : element_size w c ≡ size = cc in
    rw (← is) (ltb-true (n * element_size w c) (2 ^ 64) (demand_ok (nat_lt (n * element_size w c) (2 ^ 64)) _ h))
sizes_fixed text n size h i = cc
sizes_fixed bytes n size h i = cc
sizes_fixed (optional t) n size h i = cc

pub spread_fixed : (t : ElementType) (r : Raw) (mask : List ℕ) (size : ℕ) → fixed_size_of t ≡ Some size
    → container_spread t (flen r) mask ≡ fixed_of (pieces_update size (length mask) (replicate (length mask * size) 0) (present_places mask) r.items)
spread_fixed (fixed w c s) r mask size i =
    let is : element_size w c ≡ size = cc in
    ap (λ k. fixed_of (pieces_update k (length mask) (replicate (length mask * k) 0) (present_places mask) r.items)) is
spread_fixed text r mask size i = cc
spread_fixed bytes r mask size i = cc
spread_fixed (optional t) r mask size i = cc

pub ruleset masked_calls = (raw_items, fixed_fits, selected_fixed, sizes_fixed, spread_fixed)

-- ---- the largest byte

absorbs_left : (b c r : Bool) → (c ≡ true → b ≡ true) → c && r ≡ b && (c && r)
absorbs_left b true r h = rw (h refl) refl
absorbs_left true false r h = refl
absorbs_left false false r h = refl

absorbs_right : (b c r : Bool) → (b ≡ true → c ≡ true) → b && r ≡ b && (c && r)
absorbs_right true c r h = rw (h refl) refl
absorbs_right false c r h = refl

-- a byte that is the largest so far speaks for those before it
pub flag_larger : (largest byte : ℕ) (rest : Bool) → largest < byte → nat_lt byte 2 && rest ≡ nat_lt largest 2 && (nat_lt byte 2 && rest)
flag_larger largest byte rest l = absorbs_left (nat_lt largest 2) (nat_lt byte 2) rest (λ h. lt-ltb largest 2 (omega (arith, ltb-true byte 2 h)))

pub flag_smaller : (largest byte : ℕ) (rest : Bool) → byte ≤ largest → nat_lt largest 2 && rest ≡ nat_lt largest 2 && (nat_lt byte 2 && rest)
flag_smaller largest byte rest l = absorbs_right (nat_lt largest 2) (nat_lt byte 2) rest (λ h. lt-ltb byte 2 (omega (arith, ltb-true largest 2 h)))

-- the present places are places
all_suc : (n : ℕ) (ps : List ℕ) → All (λ p. p < n) ps → All (λ p. p < suc n) (map suc ps)
all_suc n [] h = λ k d l. absurd (omega arith)
all_suc n (p ∷ ps) h = All-cons (λ q. q < suc n) (suc p) (map suc ps) (let first : p < n = h 0 p (omega arith) in let more : suc p < suc n = omega arith in more) (all_suc n ps (All-tail (λ q. q < n) p ps h))

marked_below : (mask : List ℕ) → All (λ p. p < length mask) (marked mask)
marked_below [] = λ k d l. absurd (omega arith)
marked_below (zero ∷ mask) = all_suc (length mask) (marked mask) (marked_below mask)
marked_below (suc byte ∷ mask) = All-cons (λ p. p < suc (length mask)) 0 (map suc (marked mask)) (let first : 0 < suc (length mask) = omega arith in first) (all_suc (length mask) (marked mask) (marked_below mask))

pub present_below : (mask : List ℕ) → All (λ p. p < length mask) (present_places mask)
present_below mask = subst (λ ps. All (λ p. p < length mask) ps) (sym (present_places-marked mask)) (marked_below mask)
