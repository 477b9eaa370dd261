-- What is known of a region that is kept.
use Rattle.std.proofs.Common.{◌≡◌, ◌==◌, ℕ, ◌<◌, Bool, true, false, not, List, length, arith, refl, ap, ◌∙◌, sym, subst, inl, inr}
use Rattle.std.specs.Prelude.{is_ok}
use Rattle.std.specs.List.{list_any}
use Rattle.std.proofs.lemmas.Bool.{cases_Bool}
use Rattle.zarrs_chunk.specs.Answer.{◌>>=◌, demand}
use Rattle.zarrs_chunk.specs.ChunkShape.{product}
use Rattle.zarrs_chunk.specs.Region.{Region}
use Rattle.zarrs_chunk.specs.Selection.{Selection, subset, bounds_of}
use Rattle.zarrs_chunk.specs.Tuples.{is_box_inside}
use Rattle.zarrs_chunk.specs.declared.codec_error.CodecError.{CodecError}
use Rattle.zarrs_chunk.specs.declared.codec_error.CodecError.TheVariants.{IncompatibleDimensionality, OutOfBounds}
use Rattle.zarrs_chunk.proofs.Products.{All-positive, product_positive, product_zero}
use Rattle.zarrs_array_to_array.specs.ArrayToArrayCodec.{ArrayMapping}
use Rattle.zarrs_array_regions.specs.KeptRegions.{keeps_regions, is_filled, IsKept}
use Rattle.zarrs_array_to_array.proofs.BoxPlaces.{bounds_from}

both_demanded : (a b : Bool) (x y : CodecError) → is_ok (demand a x >>= λ _. demand b y) ≡ true → b ≡ true
both_demanded true true x y h = refl
both_demanded true false x y h = absurd (cc)
both_demanded false b x y h = absurd (cc)

not_any : (b : Bool) → not b ≡ true → b ≡ false
not_any true h = absurd (cc)
not_any false h = refl

-- a box with no length of zero has an element
pub filled_has : (region : Region) → is_filled region ≡ true → 0 < product region.lengths
filled_has region h = product_positive region.lengths (All-positive region.lengths (not_any (list_any (λ len. len == 0) region.lengths) h))

pub is_kept_by : (codecs : List ArrayMapping) (sizes : List ℕ) (selection : Selection) (region : Region) → selection ≡ subset region → is_ok (bounds_of selection sizes) ≡ true → is_filled region ≡ true → keeps_regions codecs ≡ true → IsKept codecs sizes selection region
is_kept_by codecs sizes selection region is bounds filled kept = record {
  selection_is = is;
  inside = both_demanded (length region.starts == length sizes) (is_box_inside sizes region.starts region.lengths) IncompatibleDimensionality OutOfBounds (subst (λ s. is_ok (bounds_of s sizes) ≡ true) is bounds);
  filled = filled_has region filled;
  kept = kept;
}

-- ---- where none is found, none is kept

has_filled : (region : Region) → 0 < product region.lengths → is_filled region ≡ true
has_filled region some = elim (cases_Bool (list_any (λ len. len == 0) region.lengths)) [
  | inl zero ↦ absurd (omega (arith, product_zero region.lengths zero, some))
  | inr none ↦ ap not none
]

-- a selection is one box at most
pub one_box : (selection : Selection) (found region : Region) → selection ≡ subset found → selection ≡ subset region → found ≡ region
one_box selection found region a b = boxes_are found region (sym a ∙ b)
  where
    boxes_are : (x y : Region) → subset x ≡ subset y → x ≡ y
    boxes_are x y e = cc

pub kept_in_bounds : (codecs : List ArrayMapping) (sizes : List ℕ) (selection : Selection) (region : Region) → IsKept codecs sizes selection region → is_ok (bounds_of selection sizes) ≡ true
kept_in_bounds codecs sizes selection region kept =
    subst (λ s. is_ok (bounds_of s sizes) ≡ true) (sym kept.selection_is) (ap is_ok (bounds_from sizes region kept.inside))

pub kept_filled : (codecs : List ArrayMapping) (sizes : List ℕ) (selection : Selection) (found region : Region) → selection ≡ subset found → IsKept codecs sizes selection region → is_filled found ≡ true
kept_filled codecs sizes selection found region is kept =
    subst (λ box. is_filled box ≡ true) (one_box selection region found kept.selection_is is) (has_filled region kept.filled)
