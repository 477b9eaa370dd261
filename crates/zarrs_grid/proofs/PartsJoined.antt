-- An answer is put together part by part.
use Rattle.std.proofs.Common.{◌≡◌, ◌≢◌, ◌⊎◌, inl, inr, ℕ, zero, suc, ◌<◌, ◌∙◌, List, [], ◌∷◌, length, map, get_or, arith, refl, ap, sym, subst}
use Rattle.std.specs.List.{Contains, range_with_len}
use Rattle.std.proofs.lemmas.Bool.Decides.{eqb_tells}
use Rattle.std.proofs.lemmas.List.{ext_get_or}
use Rattle.std.proofs.lemmas.List.FromFn.{length-map-range_with_len, get_or-map-range_with_len}
use Rattle.std.proofs.lemmas.Simd.{map-map}
use Rattle.zarrs_chunk.specs.ChunkShape.{product}
use Rattle.zarrs_chunk.specs.Indices.{box_tuple}
use Rattle.zarrs_chunk.specs.Region.{Region}
use Rattle.zarrs_chunk.proofs.NumberedTuples.{tuple_of_number-inside, box_tuples-numbered}
use Rattle.zarrs_array_bytes.proofs.UpdateLaw.{untouched, written}
use Rattle.zarrs_array_bytes.proofs.WriteLemmas.{length-update}
use Rattle.zarrs_grid.specs.JoinedParts.{chunk_of_place, PartIsJoined, AllPartsAreJoined}
use Rattle.zarrs_grid.specs.RegionElements.{region_elements, elements_of_part, places_in_region, chunk_element}
use Rattle.zarrs_grid.specs.Touched.{FitsGrid, touched_chunks}
use Rattle.zarrs_grid.proofs.Cut.{listed_touches, into_listed}
use Rattle.zarrs_grid.proofs.PartPlaces.{part_count, length-places, places_apart, length-elements, element_at, same_there, found_in_part}
use Rattle.zarrs_grid.proofs.Tuples.{Touches, touches, chunk_with-touches}

-- a number stands at some index of a list, or at none
abbrev pub Stands : List ℕ → ℕ → Type 0
Stands ps q = (k : ℕ) × (k < length ps) × (get_or ps k 0 ≡ q)

pub stands_or_not : (ps : List ℕ) (q : ℕ) → Stands ps q ⊎ ((k : ℕ) → k < length ps → get_or ps k 0 ≢ q)
stands_or_not [] q = inr (λ k l. absurd (omega arith))
stands_or_not (p ∷ ps) q =
    elim (eqb_tells p q) [
      | inl h ↦ inl (0, omega arith, h.1)
      | inr h ↦ elim (stands_or_not ps q) [
        | inl s ↦ inl (suc s.0, omega (arith, s.1), s.2)
        | inr n ↦ inr (λ k. elim k as (λ j. j < length (p ∷ ps) → get_or (p ∷ ps) j 0 ≢ q) [ zero ↦ (λ l. h.1) | suc j ↦ (λ l. n j (omega arith)) ])
      ]
    ]

-- the first of a list, or one behind it
first_or_behind : {X : Type 0} (x : X) (xs : List X) (y : X) → Contains (x ∷ xs) y → (x ≡ y) ⊎ Contains xs y
first_or_behind x xs y c = at c.0 c.1 c.2
  where
    at : (k : ℕ) → k < length (x ∷ xs) → get_or (x ∷ xs) k y ≡ y → (x ≡ y) ⊎ Contains xs y
    at zero l e = inl e
    at (suc k) l e = inr (k, omega arith, e)

-- the chunk of a place of the region is touched
place_touches : (shape : List ℕ) (region : Region) (place : ℕ) → FitsGrid shape region → place < product region.lengths
    → Touches shape (chunk_of_place shape region place) region.starts region.lengths
place_touches shape region place g l =
    touches shape region.starts region.lengths (chunk_of_place shape region place) g.positive g.starts g.lengths
    (chunk_with-touches shape region.starts region.lengths _ g.positive g.starts g.lengths (tuple_of_number-inside region.lengths place l))

pub place_listed : (shape : List ℕ) (region : Region) (place : ℕ) → FitsGrid shape region → place < product region.lengths
    → Contains (touched_chunks shape region) (chunk_of_place shape region place)
place_listed shape region place g l =
    into_listed shape region (chunk_of_place shape region place) g
    (chunk_with-touches shape region.starts region.lengths _ g.positive g.starts g.lengths (tuple_of_number-inside region.lengths place l))

-- a part more
pub part_joined : {A : Type 0} → PartIsJoined A
part_joined element shape region numbers chunks answer g c has =
    let r = listed_touches shape region numbers g c in
    let starts = region.starts in
    let lengths = region.lengths in
    let ps = places_in_region shape region numbers in
    let elements = elements_of_part element shape region numbers in
    let count = length-places shape numbers starts lengths r in
    let enough : length ps ≡ length elements = count ∙ sym (length-elements shape numbers starts lengths r (chunk_element element shape numbers)) in
    record {
      long = length-update answer ps elements ∙ has.long;
      each = λ place default l among. elim (stands_or_not ps place) [
        | inl s ↦ (
            let k : s.0 < part_count shape numbers starts lengths = omega (arith, s.1, count) in
            written answer elements ps place default s.0 (omega (arith, l, has.long)) enough s.1 s.2
            (λ j h m e. places_apart shape numbers starts lengths r j s.0 h (omega (arith, m, count)) (e ∙ sym s.2))
            ∙ element_at shape numbers starts lengths r (chunk_element element shape numbers) s.0 default k
            ∙ ap element (same_there shape numbers starts lengths r s.0 place k s.2))
        | inr n ↦ (
            untouched answer elements ps place default n
            ∙ elim (first_or_behind numbers chunks (chunk_of_place shape region place) among)
            as (λ _. get_or answer place default ≡ element (box_tuple starts lengths place)) [
              | inl same ↦ absurd (other place l n same)
              | inr behind ↦ has.each place default l behind
            ])
      ];
    }
  where
    other : (place : ℕ) → place < product region.lengths
        → ((k : ℕ) → k < length (places_in_region shape region numbers) → get_or (places_in_region shape region numbers) k 0 ≢ place)
        → numbers ≡ chunk_of_place shape region place → ⊥
    other place l n same =
        let touching = place_touches shape region place g l in
        let found = found_in_part shape region.starts region.lengths place g.positive g.starts g.lengths l touching in
        let count = length-places shape (chunk_of_place shape region place) region.starts region.lengths touching in
        let here : Stands (places_in_region shape region (chunk_of_place shape region place)) place = (found.0, omega (arith, found.1, count), found.2) in
        let there = subst (λ ns. Stands (places_in_region shape region ns) place) (sym same) here in
        n there.0 there.1 there.2

-- ---- all parts

length-region : {A : Type 0} (element : List ℕ → A) (shape : List ℕ) (region : Region) → FitsGrid shape region
    → length (region_elements element region) ≡ product region.lengths
length-region {A} element shape region g =
    ap (λ (ts : List (List ℕ)). length (map element ts)) (box_tuples-numbered region.starts region.lengths (g.starts ∙ sym g.lengths))
    ∙ ap (λ (xs : List A). length xs) (map-map element (box_tuple region.starts region.lengths) (range_with_len 0 (product region.lengths)))
    ∙ length-map-range_with_len (λ k. element (box_tuple region.starts region.lengths k)) 0 (product region.lengths)

region_at : {A : Type 0} (element : List ℕ → A) (shape : List ℕ) (region : Region) (place : ℕ) (d : A) → FitsGrid shape region
    → place < product region.lengths
    → get_or (region_elements element region) place d ≡ element (box_tuple region.starts region.lengths place)
region_at {A} element shape region place d g l =
    ap (λ (ts : List (List ℕ)). get_or (map element ts) place d) (box_tuples-numbered region.starts region.lengths (g.starts ∙ sym g.lengths))
    ∙ ap (λ (xs : List A). get_or xs place d) (map-map element (box_tuple region.starts region.lengths) (range_with_len 0 (product region.lengths)))
    ∙ get_or-map-range_with_len (λ k. element (box_tuple region.starts region.lengths k)) 0 (product region.lengths) place place d l (omega arith)

empty_is : {A : Type 0} (xs : List A) → length xs ≡ 0 → [] ≡ xs
empty_is [] e = refl
empty_is (x ∷ xs) e = absurd (omega arith)

pub all_joined : {A : Type 0} → AllPartsAreJoined A
all_joined element shape region chunks [] g all has = empty_is (region_elements element region) (length-region element shape region g ∙ sym has.long)
all_joined element shape region chunks (first ∷ answer) g all has =
    ext_get_or first (first ∷ answer) (region_elements element region) (has.long ∙ sym (length-region element shape region g))
    (λ place l.
    let below : place < product region.lengths = omega (arith, l, has.long) in
    has.each place first below (all (chunk_of_place shape region place) (place_listed shape region place g below))
    ∙ sym (region_at element shape region place first g below))
