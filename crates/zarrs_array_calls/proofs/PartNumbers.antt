-- The numbers of a part, and its places by them.
use Rattle.std.proofs.Common.{◌≡◌, ◌∙◌, ℕ, ◌+◌, ◌*◌, ◌<◌, ◌^◌, ◌==◌, Bool, true, false, Ok, Some, Result, List, [], ◌∷◌, ◌++◌, length, take, drop, arith, refl, ap, ap₂, sym, eq-eqb, eqb-true, take_at, drop_at, drop-drop, length-append}
use Rattle.std.specs.List.{All, list_any}
use Rattle.std.proofs.lemmas.Bool.{false_from_ne_true}
use Rattle.zarrs_chunk.specs.Answer.{◌>>=◌, demand}
use Rattle.zarrs_chunk.specs.ArraySubset.{subset_of_start_shape}
use Rattle.zarrs_chunk.specs.ChunkShape.{product, shape_of}
use Rattle.zarrs_chunk.specs.Levels.{box_places}
use Rattle.zarrs_chunk.specs.Region.{Region, IsRegion}
use Rattle.zarrs_chunk.specs.Selection.{subset, places_of}
use Rattle.zarrs_chunk.specs.Tuples.{is_box_inside}
use Rattle.zarrs_chunk.proofs.Inside.{lt_test, is_box_inside-at, is_box_inside-lengths}
use Rattle.zarrs_chunk.proofs.PlaceLaws.{known_below}
use Rattle.zarrs_chunk.proofs.RowLaws.{few_fronts}
use Rattle.zarrs_array_bytes.specs.FixedView.{fixed_view}
use Rattle.zarrs_grid.specs.ChunkTuples.{quotients}
use Rattle.zarrs_grid.specs.Parts.{box_in_region, starts_in_chunk, starts_in_region, part_lengths}
use Rattle.zarrs_grid.specs.RegionElements.{places_in_region}
use Rattle.zarrs_grid.specs.Touched.{touched_counts}
use Rattle.zarrs_grid.proofs.Cut.{listed, listed_touches}
use Rattle.zarrs_grid.proofs.KnownBoxes.{box_made}
use Rattle.zarrs_grid.proofs.OneAxis.{some_touched}
use Rattle.zarrs_grid.proofs.Tuples.{InBox, Touches, Touches-length, part_in_chunk, part_in_region}
use Rattle.zarrs_array_calls.specs.ArrayLaws.{IsPartOfBytes}
use Rattle.zarrs_array_calls.specs.ArraysGiven.{part_given}
use Rattle.zarrs_array_calls.specs.CrossedPlans.{part_numbers}
use Rattle.zarrs_array_calls.specs.PartBytes.{part_places}
use Rattle.zarrs_array_calls.specs.Refusals.{grid_answer}
use Rattle.zarrs_array_calls.specs.declared.refusal.ArrayRefusal.{ArrayRefusal}
use Rattle.zarrs_array_calls.specs.declared.refusal.ArrayRefusal.TheVariants.{Argument}

-- ---- numbers

passed : {A : Type 0} (test : Bool) (rest : Result A ArrayRefusal) → test ≡ true → (demand test Argument >>= λ _. rest) ≡ rest
passed true rest e = refl
passed false rest e = absurd (cc)

-- of four lists of as many numbers as axes, the last two are read
split_given : (axes : ℕ) (a b c d : List ℕ) → length a ≡ axes → length b ≡ axes → length c ≡ axes → length d ≡ axes
    → part_given axes (a ++ (b ++ (c ++ d))) ≡ grid_answer (subset_of_start_shape d c)
split_given axes a b c d ha hb hc hd =
    let all : List ℕ = a ++ (b ++ (c ++ d)) in
    let long : length all ≡ axes * 4 = omega (arith, length-append a (b ++ (c ++ d)), length-append b (c ++ d), length-append c d, ha, hb, hc, hd) in
    let two : 2 * axes ≡ axes + axes = omega arith in
    let there : drop (2 * axes) all ≡ c ++ d =
    ap (λ n. drop n all) two ∙ sym (drop-drop axes axes all) ∙ ap (drop axes) (drop_at a (b ++ (c ++ d)) axes ha) ∙ drop_at b (c ++ d) axes hb in
    passed (length all == axes * 4) (grid_answer (subset_of_start_shape (drop axes (drop (2 * axes) all)) (take axes (drop (2 * axes) all)))) (eq-eqb (length all) (axes * 4) long)
    ∙ ap (λ xs. grid_answer (subset_of_start_shape (drop axes xs) (take axes xs))) there
    ∙ ap₂ (λ starts lengths. grid_answer (subset_of_start_shape starts lengths)) (drop_at c d axes hc) (take_at c d axes hc)

-- ---- lengths of a region with a chunk

-- a number that isn't zero
not_zero : (n : ℕ) → 0 < n → (n == 0) ≡ false
not_zero n some = false_from_ne_true (n == 0) (λ e. omega (arith, some, eqb-true n 0 e))

lengths_some : (shape starts lengths numbers : List ℕ) → length starts ≡ length shape → length lengths ≡ length shape
    → InBox (quotients shape starts) (touched_counts shape starts lengths) numbers → list_any (λ size. size == 0) lengths ≡ false
lengths_some [] starts [] numbers e f r = refl
lengths_some [] starts (len ∷ lengths) numbers e f r = absurd (omega arith)
lengths_some (size ∷ shape) [] lengths numbers e f r = absurd (omega arith)
lengths_some (size ∷ shape) (start ∷ starts) [] numbers e f r = absurd (omega arith)
lengths_some (size ∷ shape) (start ∷ starts) (len ∷ lengths) [] e f r = absurd r
lengths_some (size ∷ shape) (start ∷ starts) (len ∷ lengths) (number ∷ numbers) e f r =
    rw (not_zero len (some_touched size start len number r.1 r.0)) (lengths_some shape starts lengths numbers (omega arith) (omega arith) r.2)

-- ---- views

-- a box inside sizes has places
places_due : (sizes : List ℕ) (box : Region) → is_box_inside sizes box.starts box.lengths ≡ true → product sizes < 2 ^ 64
    → places_of (subset box) sizes ≡ Ok (box_places sizes box.starts box.lengths)
places_due sizes box within small =
    let long = is_box_inside-lengths sizes box.starts box.lengths within in
    rw (eq-eqb (length box.starts) (length sizes) long.0, within, lt_test (product sizes) (2 ^ 64) small) refl

-- bytes of as many elements as a shape has are seen by a box inside
view_due : (size : ℕ) (sizes bytes : List ℕ) (box : Region) → 0 < size → is_box_inside sizes box.starts box.lengths ≡ true
    → product sizes * size < 2 ^ 64 → length bytes ≡ product sizes * size
    → fixed_view bytes size sizes box
    ≡ Ok (record { bytes = bytes; element_size = size; count = product sizes; places = box_places sizes box.starts box.lengths })
view_due size sizes bytes box some within fits whole =
    rw (
      lt_test 0 size some,
      places_due sizes box within (few_fronts (product sizes) size some fits),
      lt_test (product sizes * size) (2 ^ 64) fits,
      eq-eqb (length bytes) (product sizes * size) whole,
    ) refl

module _ (chunk_shape : List ℕ) (region : Region) (chunk : List ℕ) (size : ℕ) (own : IsPartOfBytes chunk_shape region chunk size) where
  touches : Touches chunk_shape chunk region.starts region.lengths
  touches = listed_touches chunk_shape region chunk own.grid own.touched

  there : is_box_inside region.lengths (box_in_region chunk_shape region chunk).starts (box_in_region chunk_shape region chunk).lengths ≡ true
  there = part_in_region chunk_shape chunk region.starts region.lengths touches

  is_region : IsRegion (starts_in_region chunk_shape chunk region.starts) (part_lengths chunk_shape chunk region.starts region.lengths)
  is_region =
      let starts = starts_in_region chunk_shape chunk region.starts in
      let lengths = part_lengths chunk_shape chunk region.starts region.lengths in
      let axes = is_box_inside-lengths region.lengths starts lengths there in
      record {
        axes = axes.0 ∙ sym axes.1;
        ends = λ axis l. omega (arith, is_box_inside-at region.lengths starts lengths axis there (omega (arith, l, axes.0)), own.ends.ends axis (omega (arith, l, axes.0, own.ends.axes)));
      }

  given : part_given (length region.lengths) (part_numbers chunk_shape region chunk) ≡ Ok (box_in_region chunk_shape region chunk)
  given =
      let inside = starts_in_chunk chunk_shape chunk region.starts in
      let starts = starts_in_region chunk_shape chunk region.starts in
      let lengths = part_lengths chunk_shape chunk region.starts region.lengths in
      let axes = is_box_inside-lengths region.lengths starts lengths there in
      let in_chunk = is_box_inside-lengths chunk_shape inside lengths (part_in_chunk chunk_shape chunk region.starts region.lengths touches) in
      split_given (length region.lengths) chunk inside lengths starts (Touches-length chunk_shape chunk region.starts region.lengths touches ∙ sym own.grid.lengths)
      (in_chunk.0 ∙ sym own.grid.lengths) axes.1 axes.0
      ∙ ap grid_answer (box_made starts lengths is_region)

  shape_is : shape_of region.lengths ≡ Some region.lengths
  shape_is =
      rw (lengths_some chunk_shape region.starts region.lengths chunk own.grid.starts own.grid.lengths (listed chunk_shape region chunk own.grid own.touched)) refl

  -- the part by its numbers has its places among the bytes
  pub places_are : (bytes : List ℕ) (part_bytes : ℕ) → length bytes ≡ product region.lengths * size
      → part_bytes ≡ length (places_in_region chunk_shape region chunk) * size
      → part_places size region.lengths (part_numbers chunk_shape region chunk) bytes part_bytes ≡ Ok (places_in_region chunk_shape region chunk)
  places_are bytes part_bytes whole fit =
      rw (
        shape_is,
        given,
        view_due size region.lengths bytes (box_in_region chunk_shape region chunk) own.some there own.counted whole,
        eq-eqb part_bytes (length (places_in_region chunk_shape region chunk) * size) fit,
      ) refl

  -- which are below the number of the region's elements
  pub places_inside : All (λ place. place < product region.lengths) (places_in_region chunk_shape region chunk)
  places_inside =
      known_below (subset (box_in_region chunk_shape region chunk)) region.lengths (places_in_region chunk_shape region chunk)
      (places_due region.lengths (box_in_region chunk_shape region chunk) there (few_fronts (product region.lengths) size own.some own.counted))
