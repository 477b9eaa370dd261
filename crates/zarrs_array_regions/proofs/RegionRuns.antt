-- The runs of a region that one transposition takes as a region.
use Rattle.std.proofs.Common.{◌≡◌, ◌<◌, ◌^◌, ℕ, true, List, [], ◌∷◌, length, Result, Ok, Vec, Global, arith, refl, ap, ◌∙◌, sym, subst}
use Rattle.std.specs.Prelude.{is_ok, slice_index, IfOk}
use Rattle.std.proofs.lemmas.List.{get_or_default}
use Rattle.std.specs.List.{All}
use Rattle.zarrs_chunk.specs.Answer.{Gives}
use Rattle.zarrs_chunk.specs.ChunkShape.{product}
use Rattle.zarrs_chunk.specs.Region.{Region}
use Rattle.zarrs_chunk.specs.Runs.{places_in, EndWithin}
use Rattle.zarrs_chunk.specs.declared.codec_error.CodecError.{CodecError}
use Rattle.zarrs_chunk.proofs.Inside.{is_box_inside-lengths}
use Rattle.zarrs_chunk.proofs.Rising.{Rises-box, Rises-room}
use Rattle.zarrs_data_type.specs.ElementType.{ElementType}
use Rattle.zarrs_array_bytes.specs.Held.{Held}
use Rattle.zarrs_metadata.specs.Orders.{is_order}
use Rattle.zarrs_metadata.proofs.Orders.{order_parts}
use Rattle.zarrs_array_to_array.specs.ArrayToArrayCodec.{ArrayMapping, transpose, coordinates}
use Rattle.zarrs_array_to_array.specs.Orders.{permuted}
use Rattle.zarrs_array_to_array.proofs.Orders.{permuted_product}
use Rattle.zarrs_array_regions.specs.declared.window.Window.{Window}
use Rattle.zarrs_array_regions.specs.OrderedRuns.{AreAxes, ordered_places}
use Rattle.zarrs_array_regions.specs.Parts.{FitsRegion, EncodesPart}
use Rattle.zarrs_array_regions.specs.Windows.{EncodesMapped, TakesRegion, GivesRegionRuns, window_places}
use Rattle.zarrs_array_regions.proofs.WindowCalls.{first_taken, WindowStep, WindowStays}
use Rattle.zarrs_array_to_array.proofs.ArrayLaws.{array_laws}
use Rattle.zarrs_array_to_array.proofs.PermutedBoxes.{order_axes}
use Rattle.zarrs_array_to_array.proofs.TransposedBoxes.{permuted_box}

all_below : (order : List ℕ) (n : ℕ) → ((i : ℕ) → i < length order → slice_index order i < n) → All (λ axis. axis < n) order
all_below order n h = λ k d l. rw (get_or_default order k d 0 l) (h k l)

module _ (order sizes : List ℕ) (region : Region) (takes : TakesRegion (transpose order ∷ []) sizes region) where
  taken : is_ok (coordinates (transpose order) sizes) ≡ true
  taken = let f = first_taken (transpose order ∷ []) [] (transpose order) sizes refl takes.taken in rw f.is refl

  axes_are : length order ≡ length sizes
  axes_are = order_axes order sizes taken

  pub region_axes : length order ≡ length region.lengths
  region_axes = axes_are ∙ sym (is_box_inside-lengths sizes region.starts region.lengths takes.inside).1

  pub region_fits : FitsRegion (transpose order) region
  region_fits = (array_laws (transpose order)).part_fits sizes region.lengths (is_box_inside-lengths sizes region.starts region.lengths takes.inside).1 taken

  pub axes_there : (axes shape starts lengths : List ℕ) → axes ≡ order → shape ≡ sizes → starts ≡ region.starts → lengths ≡ region.lengths → is_order axes ≡ true → All (λ size. 0 < size) shape → AreAxes axes shape starts lengths
  axes_there axes shape starts lengths a s b l h positive =
      let o = order_parts axes h in
      let both = is_box_inside-lengths sizes region.starts region.lengths takes.inside in
      let here : length axes ≡ length shape = ap length a ∙ axes_are ∙ sym (ap length s) in
      record {
        below = subst (λ n. All (λ axis. axis < n) axes) here (all_below axes (length axes) o.below);
        starts = ap length b ∙ both.0 ∙ sym (ap length s);
        lengths = ap length l ∙ both.1 ∙ sym (ap length s);
        positive = positive;
        inside = rw (a, s, b, l) (permuted_box order sizes region.starts region.lengths (order_parts order (subst (λ xs. is_order xs ≡ true) a h)) axes_are takes.inside);
      }

  pub count_there : (axes shape : List ℕ) → axes ≡ order → shape ≡ sizes → is_order axes ≡ true → product (permuted axes shape) ≡ product sizes
  count_there axes shape a s h = rw (a, s) (permuted_product order sizes (order_parts order (subst (λ xs. is_order xs ≡ true) a h)) axes_are)

  -- the region has fewer places than 64 bits count
  pub places_there : (axes shape starts lengths : List ℕ) → axes ≡ order → shape ≡ sizes → is_order axes ≡ true → AreAxes axes shape starts lengths → length (ordered_places axes shape starts lengths) < 2 ^ 64
  places_there axes shape starts lengths a s h there =
      let S = permuted axes shape in
      let room = Rises-room 0 (product S) (ordered_places axes shape starts lengths) (Rises-box S (permuted axes starts) (permuted axes lengths) there.inside) in
      omega (arith, room, count_there axes shape a s h, takes.counted)

-- runs of the moved region's places and a container of its moved elements are what is asked for
pub encoded_there : (order sizes : List ℕ) (region : Region) (type : ElementType) (held there : Held) (runs : Vec (ℕ × ℕ) Global) → GivesRegionRuns (transpose order ∷ []) sizes region (Ok runs) → EncodesPart (transpose order) type region held (Ok there) → EncodesMapped (transpose order ∷ []) type sizes region held (Ok (runs, there))
encoded_there order sizes region type held there runs places encoded = record { is = (same _ _ places.is, encoded.is); no_fault = refl }
  where
    same : (xs ys : List ℕ) → ◌≡◌ {A = Result (List ℕ) CodecError} (Ok xs) (Ok ys) → ys ≡ xs
    same xs ys h = cc

-- ---- codecs one after another

-- where the window stays, so do its runs
pub runs_stay : (all : List ArrayMapping) (sizes : List ℕ) (region : Region) (r : Result (Vec (ℕ × ℕ) Global) CodecError) → WindowStays all sizes region → GivesRegionRuns [] sizes region r → GivesRegionRuns all sizes region r
runs_stay all sizes region r s g = subst (λ w. Gives places_in r (Ok (window_places w))) (sym s.last_is) g

-- the runs of the next window are the region's
pub runs_go : (all codecs : List ArrayMapping) (codec : ArrayMapping) (sizes : List ℕ) (region : Region) (next : Window) → WindowStep all codecs codec sizes region next → (r : Result (Vec (ℕ × ℕ) Global) CodecError) → GivesRegionRuns codecs next.sizes next.region r → GivesRegionRuns all sizes region r
runs_go all codecs codec sizes region next s r g = subst (λ w. Gives places_in r (Ok (window_places w))) (sym s.last_is) g

-- runs that end within chunks of as many elements
pub inside_here : (r : Result (Vec (ℕ × ℕ) Global) CodecError) (count other : ℕ) → count ≡ other → IfOk r (λ runs. EndWithin count runs.items) → IfOk r (λ runs. EndWithin other runs.items)
inside_here r count other e h = subst (λ n. IfOk r (λ runs. EndWithin n runs.items)) e h
