-- Reads of boxes of shards: where a region stands as a box, and what is read there where an index is kept.
use Rattle.std.proofs.Common.{◌≡◌, ◌<◌, ◌^◌, ℕ, nat_eq, Bool, true, false, List, Result, Ok, refl, ap, sym, subst, ◌∙◌}
use Rattle.std.specs.Cmp.Lexicographic.{pointwise, same_text}
use Rattle.std.specs.List.{All}
use Rattle.std.specs.Prelude.{not}
use Rattle.zarrs_array_regions.proofs.KeptChains.{last_inside}
use Rattle.zarrs_array_regions.proofs.KeptWindows.{places_are}
use Rattle.zarrs_array_regions.specs.KeptRegions.{IsKept, keeps_regions}
use Rattle.zarrs_array_regions.specs.WindowLaws.{region_places}
use Rattle.zarrs_array_regions.specs.Windows.{last_window, window_of, window_places}
use Rattle.zarrs_array_regions.specs.declared.window.Window.{Window}
use Rattle.zarrs_array_to_array.specs.ArrayToArrayCodec.{ArrayMapping, IsMapping, chained}
use Rattle.zarrs_chain_meaning.proofs.ArraySteps.{ok_is}
use Rattle.zarrs_chunk.specs.ChunkShape.{product}
use Rattle.zarrs_chunk.specs.Region.{Region}
use Rattle.zarrs_chunk.specs.Selection.{Selection, places_of}
use Rattle.zarrs_chunk.specs.Tuples.{is_box_inside}
use Rattle.zarrs_chunk.specs.declared.codec_error.CodecError.{CodecError}
use Rattle.zarrs_codec.specs.CoordinateMap.{CoordinateMap}
use Rattle.zarrs_codecs.specs.ChunkRead.{standing_places}

-- the places of a selection that is a box are those of the box
pub box_places_are : (codecs : List ArrayMapping) (sizes : List ℕ) (selection : Selection) (region : Region) (places : List ℕ) → IsKept codecs sizes selection region → product sizes < 2 ^ 64 → places_of selection sizes ≡ Ok places → region_places sizes region ≡ places
box_places_are codecs sizes selection region places kept counted e =
    ok_is (region_places sizes region) places (sym (places_are sizes region kept.inside counted) ∙ ap (λ (s : Selection). places_of s sizes) (sym kept.selection_is) ∙ e)

abbrev pub ok_box : Region → Result Region CodecError
ok_box region = Ok region

-- a copy of a box
pub same_box : (region own : Region) → ok_box region ≡ ok_box own → region ≡ own
same_box region own e = cc

abbrev pub ok_window : Window → Result Window CodecError
ok_window window = Ok window

window_is : (one other : Window) → ok_window one ≡ ok_window other → one ≡ other
window_is one other e = cc

-- ---- where a region stands

-- shapes that aren't different are the same
pub same_sizes : (xs ys : List ℕ) → false ≡ not (pointwise nat_eq xs ys) → xs ≡ ys
same_sizes xs ys e = same_text xs ys (so (pointwise nat_eq xs ys) e)
  where
    so : (b : Bool) → false ≡ not b → true ≡ b
    so true e = refl
    so false e = absurd cc

-- a region whose last window is one of the moved chunk's own sizes stands there as a box
pub record IsLastBox (arrays : List ArrayMapping) (sizes encoded : List ℕ) (region box : Region) : Type 0 where
  pub places : standing_places arrays sizes region ≡ region_places encoded box
  pub inside : is_box_inside encoded box.starts box.lengths ≡ true
  pub filled : 0 < product box.lengths

pub last_box : (arrays given : List ArrayMapping) (sizes encoded : List ℕ) (m : CoordinateMap) (region : Region) (window : Window) → given ≡ arrays → ok_window (last_window given (window_of sizes region)) ≡ ok_window window → window.sizes ≡ encoded
    → All IsMapping arrays → All (λ size. 0 < size) sizes → chained arrays sizes ≡ Ok m → keeps_regions arrays ≡ true → is_box_inside sizes region.starts region.lengths ≡ true → 0 < product region.lengths
    → IsLastBox arrays sizes encoded region window.region
last_box arrays given sizes encoded m region window same at of are positive chained_is kept inside filled =
    let last : last_window arrays (window_of sizes region) ≡ window = ap (λ (cs : List ArrayMapping). last_window cs (window_of sizes region)) (sym same) ∙ window_is (last_window given (window_of sizes region)) window at in
    let known = last_inside arrays sizes m region are positive chained_is kept inside in
    record {
      places = ap window_places last ∙ ap (λ (xs : List ℕ). region_places xs window.region) of;
      inside = subst (λ (xs : List ℕ). is_box_inside xs window.region.starts window.region.lengths ≡ true) of (subst (λ (w : Window). is_box_inside w.sizes w.region.starts w.region.lengths ≡ true) last known.inside);
      filled = subst (λ (n : ℕ). 0 < n) (sym (sym (ap (λ (w : Window). product w.region.lengths) last) ∙ known.count)) filled;
    }
