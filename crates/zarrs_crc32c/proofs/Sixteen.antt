-- Sixteen bytes at once: what they are, and where they are written.
use Rattle.std.proofs.Common.{◌≡◌, ℕ, ◌+◌, ◌-◌, ◌<◌, ◌≤◌, inl, inr, bit_xor, List, ◌++◌, length, take, drop, get_or, refl, sym, ap, ap₂, ◌∙◌, arith}
use Rattle.std.specs.List.{copy_within}
use Rattle.std.proofs.Math.Seq.{paste}
use Rattle.std.proofs.lemmas.List.Edits.{take-paste}
use Rattle.std.specs.Simd.Lanes.{zip2, put_chunk}
use Rattle.std.proofs.lemmas.Simd.{put_chunk_whole, length-zip2, get_or-zip2, length-chunk, get_or-chunk}
use Rattle.std.specs.Prelude.{replicate}
use Rattle.std.proofs.lemmas.Bool.{cases_lt}
use Rattle.std.proofs.lemmas.List.{get_or-replicate, length-replicate, get_or_past, get_or-take, get_or-drop, get_or_append_left, get_or-append_right, length-take-le, length-drop}

-- sixteen items, of which each is known
abbrev pub AreSixteen : List ℕ → (ℕ → ℕ) → Type 0
AreSixteen items item = (length items ≡ 16) × ((place : ℕ) → place < 16 → get_or items place 0 ≡ item place)

pub sixteen_of : (bytes items : List ℕ) (at : ℕ) → items ≡ take 16 (drop at bytes) → at + 16 ≤ length bytes → AreSixteen items (λ place. get_or bytes (at + place) 0)
sixteen_of bytes items at is inside =
    (ap length is ∙ length-chunk at 16 bytes inside, λ place l. ap (λ (xs : List ℕ). get_or xs place 0) is ∙ get_or-chunk at 16 bytes place 0 l)

pub sixteen_added : (xs ys : List ℕ) (f g : ℕ → ℕ) → AreSixteen xs f → AreSixteen ys g → AreSixteen (zip2 bit_xor xs ys) (λ place. bit_xor (f place) (g place))
sixteen_added xs ys f g first second = (
  length-zip2 bit_xor xs ys (first.0 ∙ sym second.0) ∙ first.0,
  λ place l. get_or-zip2 bit_xor xs ys place 0 0 0 (omega (arith, l, first.0)) (omega (arith, l, second.0)) ∙ ap₂ bit_xor (first.1 place l) (second.1 place l),
)

-- a vector that is written over as many items
pub lanes_written : (items vector : List ℕ) (at count : ℕ) → count ≡ length vector → at + length vector ≤ length items
    → take at items ++ (put_chunk 0 (take count (drop at items)) vector ++ drop count (drop at items)) ≡ take at items ++ (vector ++ drop (length vector) (drop at items))
lanes_written items vector at count e inside =
    let same : length (take count (drop at items)) ≡ length vector = length-take-le count (drop at items) (omega (arith, e, length-drop at items, inside)) ∙ e in
    ap₂ (λ (xs : List ℕ) (n : ℕ). take at items ++ (xs ++ drop n (drop at items))) (put_chunk_whole (take count (drop at items)) vector same) e

-- ---- items of which some are written over

module _ (items written : List ℕ) (at : ℕ) (inside : at + length written ≤ length items) where
  front_long : length (take at items) ≡ at
  front_long = length-take-le at items (omega (arith, inside))

  pub before_written : (i : ℕ) → i < at → get_or (take at items ++ (written ++ drop (length written) (drop at items))) i 0 ≡ get_or items i 0
  before_written i l =
      get_or_append_left (take at items) (written ++ drop (length written) (drop at items)) 0 i (omega (arith, l, front_long))
      ∙ get_or-take at items i 0 l

  pub where_written : (i place : ℕ) → i ≡ at + place → place < length written → get_or (take at items ++ (written ++ drop (length written) (drop at items))) i 0 ≡ get_or written place 0
  where_written i place e l =
      get_or-append_right (take at items) (written ++ drop (length written) (drop at items)) at i 0 front_long (omega (arith, e))
      ∙ ap (λ (k : ℕ). get_or (written ++ drop (length written) (drop at items)) k 0) (let f : i - at ≡ place = omega (arith, e) in f)
      ∙ get_or_append_left written (drop (length written) (drop at items)) 0 place l

-- items that were copied to the front
pub moved_front : (items : List ℕ) (from end i there : ℕ) → there ≡ from + i → from + i < end → end ≤ length items → get_or (copy_within items from end 0) i 0 ≡ get_or items there 0
moved_front items from end i there e l inside =
    let count : ℕ = end - from in
    let moved : List ℕ = drop from items in
    let long : count ≤ length moved = omega (arith, length-drop from items, inside) in
    let all : take count (paste items 0 moved count) ≡ take count moved =
    ap (λ (n : ℕ). take n (paste items 0 moved count)) (let f : count ≡ 0 + count = omega arith in f) ∙ take-paste items 0 moved count (omega arith) long in
    sym (get_or-take count (paste items 0 moved count) i 0 (omega (arith, l)))
    ∙ ap (λ (xs : List ℕ). get_or xs i 0) all
    ∙ get_or-take count moved i 0 (omega (arith, l))
    ∙ get_or-drop from items i 0
    ∙ ap (λ (n : ℕ). get_or items n 0) (sym e)

-- ---- bytes with zeros behind them

abbrev pub zeros : ℕ → List ℕ
zeros count = replicate count 0

pub zero_read : (count i : ℕ) → get_or (zeros count) i 0 ≡ 0
zero_read count i =
    elim (cases_lt i count) [
      | inl l ↦ get_or-replicate count i 0 0 l
      | inr k ↦ get_or_past (zeros count) i 0 (let e : length (zeros count) ≡ count = length-replicate count 0 in omega (arith, k, e))
    ]

module _ (items written : List ℕ) (count : ℕ) (inside : length written ≤ count) (is : items ≡ written ++ drop (length written) (zeros count)) where
  pub front_read : (i : ℕ) → i < length written → get_or items i 0 ≡ get_or written i 0
  front_read i l = ap (λ (xs : List ℕ). get_or xs i 0) is ∙ get_or_append_left written (drop (length written) (zeros count)) 0 i l

  pub behind_read : (i : ℕ) → length written ≤ i → get_or items i 0 ≡ 0
  behind_read i l =
      ap (λ (xs : List ℕ). get_or xs i 0) is
      ∙ get_or-append_right written (drop (length written) (zeros count)) (length written) i 0 refl l
      ∙ get_or-drop (length written) (zeros count) (i - length written) 0
      ∙ zero_read count (length written + (i - length written))
