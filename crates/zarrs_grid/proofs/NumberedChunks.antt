-- The chunks of a box by number, and the parts of a region one chunk after another.
use Rattle.std.proofs.Common.{◌≡◌, ℕ, ◌+◌, ◌<◌, ◌^◌, ◌∙◌, ◌==◌, Bool, true, false, if◌then◌else◌, Option, Some, None, List, [], ◌∷◌, ◌++◌, length, map, get_or, arith, refl, ap, ap₂, sym, subst}
use Rattle.std.specs.List.{All, Contains, list_any, range_with_len}
use Rattle.std.proofs.lemmas.List.{map-append}
use Rattle.std.proofs.lemmas.List.Elements.{All-nil, All-push}
use Rattle.std.proofs.lemmas.List.FromFn.{get_or-map-range_with_len, map-range_with_len_more}
use Rattle.zarrs_chunk.specs.ChunkShape.{product, shape_of}
use Rattle.zarrs_chunk.specs.Indices.{tuple_of_number, box_tuple, IsTupleOfNumber}
use Rattle.zarrs_chunk.specs.Region.{Region}
use Rattle.zarrs_chunk.specs.Tuples.{box_tuples, is_tuple_inside}
use Rattle.zarrs_chunk.proofs.BoxTuples.{box_tuples-nothing, length-box_tuples}
use Rattle.zarrs_chunk.proofs.Inside.{is_tuple_inside-length, is_tuple_inside-at}
use Rattle.zarrs_chunk.proofs.NumberedTuples.{box_tuples-numbered, tuple_of_number_is}
use Rattle.zarrs_grid.specs.Parts.{IsChunkPart}
use Rattle.zarrs_grid.specs.RegionParts.{AreRegionParts}
use Rattle.zarrs_grid.specs.Touched.{touched}
use Rattle.zarrs_grid.specs.declared.chunk_part.ChunkPart.{ChunkPart}

-- ---- the tuple of a number

-- what was found for a number is its tuple
pub record IsFound (sizes : List ℕ) (number : ℕ) (tuple : List ℕ) : Type 0 where
  pub inside : is_tuple_inside sizes tuple ≡ true
  pub is : tuple ≡ tuple_of_number sizes number

pub found_tuple : {sizes tuple : List ℕ} {number : ℕ} {found : Option (List ℕ)} → IsTupleOfNumber sizes number found → found ≡ Some tuple
    → IsFound sizes number tuple
found_tuple {sizes} {tuple} {number} h e =
    let it = subst (IsTupleOfNumber sizes number) e h in
    record { inside = it.0; is = sym (tuple_of_number_is sizes tuple number it.0 it.1) }

-- a tuple below the counts, moved to where its box begins, has no index past 64 bits
pub moved_fits : (starts counts tuple : List ℕ) → length starts ≡ length counts
    → ((axis : ℕ) → axis < length starts → get_or starts axis 0 + get_or counts axis 0 < 2 ^ 64) → is_tuple_inside counts tuple ≡ true
    → (axis : ℕ) → axis < length tuple → get_or starts axis 0 + get_or tuple axis 0 < 2 ^ 64
moved_fits starts counts tuple e fits inside = λ axis l.
    let long = is_tuple_inside-length counts tuple inside in
    let below = is_tuple_inside-at counts tuple axis inside (omega (arith, l, long)) in
    let end = fits axis (omega (arith, l, long, e)) in
    omega (arith, below, end)

-- the tuple of a number is one of the box
pub listed_at : (starts lengths tuple : List ℕ) (number : ℕ) → length starts ≡ length lengths → number < product lengths
    → tuple ≡ box_tuple starts lengths number → Contains (box_tuples starts lengths) tuple
listed_at starts lengths tuple number e below same = (
  number,
  omega (arith, below, length-box_tuples starts lengths e),
  ap (λ (ts : List (List ℕ)). get_or ts number tuple) (box_tuples-numbered starts lengths e)
      ∙ get_or-map-range_with_len (box_tuple starts lengths) 0 (product lengths) number number tuple below (omega arith) ∙ sym same,
)

-- ---- the parts

abbrev pub chunk_in : ChunkPart → List ℕ
chunk_in part = part.chunk.items

abbrev pub IsOwnPart : List ℕ → Region → ChunkPart → Type 0
IsOwnPart shape region part = IsChunkPart shape region part.chunk.items part

-- a part more
pub chunks_more : (first counts : List ℕ) (parts : List ChunkPart) (part : ChunkPart) (number : ℕ)
    → map chunk_in parts ≡ map (box_tuple first counts) (range_with_len 0 number) → part.chunk.items ≡ box_tuple first counts number
    → map chunk_in (parts ++ part ∷ []) ≡ map (box_tuple first counts) (range_with_len 0 (number + 1))
chunks_more first counts parts part number done here =
    map-append chunk_in parts (part ∷ []) ∙ ap₂ (λ xs x. xs ++ x ∷ []) done here ∙ sym (map-range_with_len_more (box_tuple first counts) 0 number number (omega arith))

pub each_more : (shape : List ℕ) (region : Region) (parts : List ChunkPart) (part : ChunkPart) (numbers : List ℕ)
    → All (IsOwnPart shape region) parts → IsChunkPart shape region numbers part → All (IsOwnPart shape region) (parts ++ part ∷ [])
each_more shape region parts part numbers done here =
    All-push (IsOwnPart shape region) parts part done (subst (λ (ns : List ℕ). IsChunkPart shape region ns part) (sym here.chunk) here)

-- all parts
pub all_parts : (shape : List ℕ) (region : Region) (first counts : List ℕ) (parts : List ChunkPart) (count : ℕ)
    → record { starts = first; lengths = counts } ≡ touched shape region → length first ≡ length counts → count ≡ product counts
    → map chunk_in parts ≡ map (box_tuple first counts) (range_with_len 0 count) → All (IsOwnPart shape region) parts
    → AreRegionParts shape region parts
all_parts shape region first counts parts count is e n done each = record {
  chunks = done ∙ ap (λ k. map (box_tuple first counts) (range_with_len 0 k)) n ∙ sym (box_tuples-numbered first counts e)
      ∙ (λ i. box_tuples (is i).starts (is i).lengths);
  each = each;
}

-- and none, where there are no chunks
has_zero : (test : Bool) (sizes : List ℕ) → (if test then None else Some sizes) ≡ None → test ≡ true
has_zero true sizes e = refl
has_zero false sizes e = absurd cc

pub no_parts : (shape : List ℕ) (region chunks : Region) (counts : List ℕ) (parts : List ChunkPart) → chunks ≡ touched shape region
    → counts ≡ chunks.lengths → length chunks.starts ≡ length chunks.lengths → shape_of counts ≡ None → parts ≡ []
    → AreRegionParts shape region parts
no_parts shape region chunks counts parts is n e none p =
    let zero = has_zero (list_any (λ len. len == 0) chunks.lengths) chunks.lengths (ap shape_of (sym n) ∙ none) in
    record {
      chunks = ap (map chunk_in) p ∙ sym (box_tuples-nothing chunks.starts chunks.lengths e zero) ∙ (λ i. box_tuples (is i).starts (is i).lengths);
      each = subst (All (IsOwnPart shape region)) (sym p) (All-nil (IsOwnPart shape region));
    }
