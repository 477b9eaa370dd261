-- Regions that make few runs.
use Rattle.std.proofs.Common.{◌^◌, ◌≡◌, ◌==◌, ◌+◌, ◌++◌, ◌<◌, ◌≤◌, ℕ, zero, suc, Bool, true, List, [], ◌∷◌, length, map, take, arith, refl, ap, ◌∙◌, sym, subst, get_or, ◌-◌, ◌*◌}
use Rattle.std.specs.Prelude.{nat_le}
use Rattle.std.specs.List.{All, range_with_len}
use Rattle.std.proofs.lemmas.Bool.{eqb-true, le-leb}
use Rattle.std.proofs.lemmas.List.{length-append, length-map}
use Rattle.zarrs_chunk.specs.ChunkShape.{product}
use Rattle.zarrs_chunk.specs.Region.{Region}
use Rattle.zarrs_chunk.specs.Tuples.{is_box_inside}
use Rattle.zarrs_chunk.specs.Levels.{box_places}
use Rattle.zarrs_chunk.specs.Rows.{row_at, AreBoxRuns}
use Rattle.zarrs_chunk.specs.Runs.{EndWithin}
use Rattle.zarrs_chunk.proofs.Inside.{is_box_inside-lengths}
use Rattle.std.proofs.lemmas.List.FromFn.{get_or-range_with_len, length-range_with_len}
use Rattle.zarrs_array_to_array.specs.ArrayToArrayCodec.{ArrayMapping, transpose}
use Rattle.zarrs_array_to_array.specs.Mapping.{mapping_of}
use Rattle.zarrs_array_to_array.specs.declared.array_to_array_codec.ArrayToArrayCodec.{ArrayToArrayCodec}
use Rattle.zarrs_array_to_array.proofs.CoordinateMaps.{kept_places}
use Rattle.zarrs_array_bytes.specs.Elements.{elements}
use Rattle.zarrs_array_bytes.proofs.UpdatedLemmas.{length-elements}
use Rattle.zarrs_bytes.specs.ReadingCalls.{consecutive_runs}
use Rattle.zarrs_bytes.proofs.ConsecutiveRuns.{runs_of_places}
use Rattle.zarrs_array_regions.specs.FewRuns.{HasRegionRuns, TakesFew}
use Rattle.zarrs_array_regions.proofs.RegionRuns.{region_fits}
use Rattle.zarrs_array_regions.proofs.WindowCalls.{few_places}
use Rattle.zarrs_array_regions.specs.Windows.{TakesRegion, window_of, window_places, last_window}
use Rattle.zarrs_array_to_array.specs.Orders.{permuted}
use Rattle.zarrs_array_to_array.proofs.Orders.{each_entry}
use Rattle.zarrs_array_regions.specs.OrderedRuns.{fronts_over, ordered_places, AreAxes, HasRoom}
use Rattle.zarrs_array_regions.proofs.OrderedRows.{fronts_last, last_room}
use Rattle.zarrs_chunk.specs.declared.rows.Row.{Row}

abbrev pub eight : List ℕ
eight = 0 ∷ (1 ∷ (2 ∷ (3 ∷ (4 ∷ (5 ∷ (6 ∷ (7 ∷ [])))))))

-- the first of eight axes
first_of_eight : (n : ℕ) → n ≤ 8 → take n eight ≡ range_with_len 0 n
first_of_eight zero l = refl
first_of_eight (suc zero) l = refl
first_of_eight (suc (suc zero)) l = refl
first_of_eight (suc (suc (suc zero))) l = refl
first_of_eight (suc (suc (suc (suc zero)))) l = refl
first_of_eight (suc (suc (suc (suc (suc zero))))) l = refl
first_of_eight (suc (suc (suc (suc (suc (suc zero)))))) l = refl
first_of_eight (suc (suc (suc (suc (suc (suc (suc zero))))))) l = refl
first_of_eight (suc (suc (suc (suc (suc (suc (suc (suc zero)))))))) l = refl
first_of_eight (suc (suc (suc (suc (suc (suc (suc (suc (suc n))))))))) l = absurd (omega arith)

pub first_axes : (sizes shape : List ℕ) → shape ≡ sizes → length sizes ≤ 8 → take (length shape) eight ≡ range_with_len 0 (length sizes)
first_axes sizes shape e few = ap (λ (xs : List ℕ). take (length xs) eight) e ∙ first_of_eight (length sizes) few

-- runs of a box that has the places of a region's last window
pub region_runs_there : (codecs : List ArrayMapping) (sizes : List ℕ) (region : Region) (S T L : List ℕ) (runs : List (ℕ × ℕ)) → product S ≡ product sizes → box_places S T L ≡ window_places (last_window codecs (window_of sizes region)) → AreBoxRuns S T L runs → HasRegionRuns codecs sizes region runs
region_runs_there codecs sizes region S T L runs count same are = record {
  places = are.places ∙ same;
  filled = are.filled;
  below = subst (λ n. EndWithin n runs) count are.below;
  apart = are.apart;
}

pub moved_places : (order sizes : List ℕ) (region : Region) (axes shape starts lengths : List ℕ) → axes ≡ order → shape ≡ sizes → starts ≡ region.starts → lengths ≡ region.lengths → ordered_places axes shape starts lengths ≡ window_places (last_window (transpose order ∷ []) (window_of sizes region))
moved_places order sizes region axes shape starts lengths a s b l =
    ap (λ (xs : List ℕ). box_places (permuted xs shape) (permuted xs starts) (permuted xs lengths)) a
    ∙ ap (λ (xs : List ℕ). box_places (permuted order xs) (permuted order starts) (permuted order lengths)) s
    ∙ ap (λ (xs : List ℕ). box_places (permuted order sizes) (permuted order xs) (permuted order lengths)) b
    ∙ ap (λ (xs : List ℕ). box_places (permuted order sizes) (permuted order region.starts) (permuted order xs)) l

pub moved_runs_there : (order sizes : List ℕ) (region : Region) (axes shape starts lengths : List ℕ) (runs : List (ℕ × ℕ)) → axes ≡ order → shape ≡ sizes → starts ≡ region.starts → lengths ≡ region.lengths → product (permuted axes shape) ≡ product sizes
    → AreBoxRuns (permuted axes shape) (permuted axes starts) (permuted axes lengths) runs → HasRegionRuns (transpose order ∷ []) sizes region runs
moved_runs_there order sizes region axes shape starts lengths runs a s b l count are = region_runs_there (transpose order ∷ []) sizes region (permuted axes shape) (permuted axes starts) (permuted axes lengths) runs count
    (moved_places order sizes region axes shape starts lengths a s b l) are

-- the order that leaves each axis where it is
pub own_order : (xs : List ℕ) (n : ℕ) → length xs ≡ n → permuted (range_with_len 0 n) xs ≡ xs
own_order xs n e = subst (λ k. permuted (range_with_len 0 k) xs ≡ xs) e (each_entry xs)

module _ (sizes : List ℕ) (region : Region) (inside : is_box_inside sizes region.starts region.lengths ≡ true) (axes shape starts lengths : List ℕ) (a : axes ≡ range_with_len 0 (length sizes)) (s : shape ≡ sizes) (b : starts ≡ region.starts) (l : lengths ≡ region.lengths) where
  both : (length region.starts ≡ length sizes) × (length region.lengths ≡ length sizes)
  both = is_box_inside-lengths sizes region.starts region.lengths inside

  sizes_are : permuted axes shape ≡ sizes
  sizes_are = ap (λ (xs : List ℕ). permuted xs shape) a ∙ ap (permuted (range_with_len 0 (length sizes))) s ∙ own_order sizes (length sizes) refl

  starts_are : permuted axes starts ≡ region.starts
  starts_are = ap (λ (xs : List ℕ). permuted xs starts) a ∙ ap (permuted (range_with_len 0 (length sizes))) b ∙ own_order region.starts (length sizes) both.0

  lengths_are : permuted axes lengths ≡ region.lengths
  lengths_are = ap (λ (xs : List ℕ). permuted xs lengths) a ∙ ap (permuted (range_with_len 0 (length sizes))) l ∙ own_order region.lengths (length sizes) both.1

  axes_below : All (λ axis. axis < length shape) axes
  axes_below =
      subst (λ xs. All (λ axis. axis < length xs) axes) (sym s) (subst (λ xs. All (λ axis. axis < length sizes) xs) (sym a)
      (λ k d h. let m : k < length sizes = omega (arith, h, length-range_with_len 0 (length sizes)) in rw (get_or-range_with_len 0 (length sizes) k d m) (let n : 0 + k < length sizes = omega (arith, m) in n)))

  pub own_axes : All (λ size. 0 < size) shape → AreAxes axes shape starts lengths
  own_axes positive = record {
    below = axes_below;
    starts = ap length b ∙ both.0 ∙ sym (ap length s);
    lengths = ap length l ∙ both.1 ∙ sym (ap length s);
    positive = positive;
    inside = rw (sizes_are, starts_are, lengths_are) inside;
  }

  pub own_count : product (permuted axes shape) ≡ product sizes
  own_count = ap product sizes_are

  pub own_places : ordered_places axes shape starts lengths ≡ window_places (window_of sizes region)
  own_places =
      ap (λ (xs : List ℕ). box_places xs (permuted axes starts) (permuted axes lengths)) sizes_are
      ∙ ap (λ (xs : List ℕ). box_places sizes xs (permuted axes lengths)) starts_are
      ∙ ap (λ (xs : List ℕ). box_places sizes region.starts xs) lengths_are

  pub own_runs_there : (runs : List (ℕ × ℕ)) → AreBoxRuns (permuted axes shape) (permuted axes starts) (permuted axes lengths) runs → HasRegionRuns [] sizes region runs
  own_runs_there runs are = region_runs_there [] sizes region (permuted axes shape) (permuted axes starts) (permuted axes lengths) runs own_count own_places are

-- ---- how many there are

-- runs of a box are all the runs of its places
counted : (sizes starts lengths : List ℕ) (runs : List (ℕ × ℕ)) → AreBoxRuns sizes starts lengths runs → length (consecutive_runs (box_places sizes starts lengths)) ≡ length runs
counted sizes starts lengths runs are = ap length (sym (runs_of_places (box_places sizes starts lengths) runs are.filled are.apart are.places))

pub one_few : (sizes starts lengths : List ℕ) (before runs : List (ℕ × ℕ)) (run : ℕ × ℕ) → before ≡ [] → runs ≡ before ++ run ∷ [] → AreBoxRuns sizes starts lengths runs → true ≡ nat_le (length (consecutive_runs (box_places sizes starts lengths))) 15
one_few sizes starts lengths before runs run none is are =
    let one : length (consecutive_runs (box_places sizes starts lengths)) ≡ 1 = counted sizes starts lengths runs are ∙ ap length (is ∙ ap (λ (rs : List (ℕ × ℕ)). rs ++ run ∷ []) none) in
    sym (le-leb (length (consecutive_runs (box_places sizes starts lengths))) 15 (omega (arith, one)))

pub rows_few : (sizes starts lengths : List ℕ) (row : Row) (fronts : List ℕ) (before : List (ℕ × ℕ)) (done : Bool) → AreBoxRuns sizes starts lengths (before ++ map (row_at row) fronts) → done ≡ nat_le (length before + length fronts) 15
    → done ≡ nat_le (length (consecutive_runs (box_places sizes starts lengths))) 15
rows_few sizes starts lengths row fronts before done are e =
    e ∙ ap (λ n. nat_le n 15) (sym (
    counted sizes starts lengths (before ++ map (row_at row) fronts) are
    ∙ length-append before (map (row_at row) fronts)
    ∙ ap (λ n. length before + n) (length-map fronts (row_at row))))

-- ---- one axis before the last one

one_front_at : (first : ℕ) (sizes starts lengths : List ℕ) (axis : ℕ) → axis ≡ first → fronts_over (first ∷ []) sizes starts lengths (0 ∷ []) ≡ range_with_len (get_or starts axis 0) (get_or lengths axis 0)
one_front_at first sizes starts lengths axis e =
    let none : 0 * get_or sizes axis 0 + get_or starts axis 0 ≡ get_or starts axis 0 = omega arith in
    fronts_last (first ∷ []) sizes starts lengths axis 0 (omega arith) (omega arith) e ∙ ap (λ n. range_with_len n (get_or lengths axis 0)) none

one_room_at : (first : ℕ) (sizes starts lengths : List ℕ) (row : Row) (axis : ℕ) → axis ≡ first → AreAxes (first ∷ []) sizes starts lengths → HasRoom 0 (first ∷ []) sizes row → (get_or starts axis 0 + get_or lengths axis 0) * row.step < 2 ^ 64
one_room_at first sizes starts lengths row axis e axes room =
    let none : 0 * get_or sizes axis 0 + get_or starts axis 0 + get_or lengths axis 0 ≡ get_or starts axis 0 + get_or lengths axis 0 = omega arith in
    subst (λ n. n * row.step < 2 ^ 64) none (last_room (first ∷ []) sizes starts lengths 0 row axis (omega arith) e axes room (omega arith))

first_alone : (order : List ℕ) (n : ℕ) → n ≡ 2 → n ≤ length order → take (n - 1) order ≡ get_or order 0 0 ∷ []
first_alone [] n e l = absurd (omega arith)
first_alone (first ∷ order) n e l = ap (λ k. take (k - 1) (first ∷ order)) e

pub one_front : (order sizes starts lengths : List ℕ) (n axis : ℕ) → n ≡ 2 → n ≤ length order → axis ≡ get_or order 0 0 → fronts_over (take (n - 1) order) sizes starts lengths (0 ∷ []) ≡ range_with_len (get_or starts axis 0) (get_or lengths axis 0)
one_front order sizes starts lengths n axis e l is =
    ap (λ (axes : List ℕ). fronts_over axes sizes starts lengths (0 ∷ [])) (first_alone order n e l)
    ∙ one_front_at (get_or order 0 0) sizes starts lengths axis is

pub one_room : (order sizes starts lengths : List ℕ) (row : Row) (n axis : ℕ) → n ≡ 2 → n ≤ length order → axis ≡ get_or order 0 0 → AreAxes (take (n - 1) order) sizes starts lengths → HasRoom 0 (take (n - 1) order) sizes row → (get_or starts axis 0 + get_or lengths axis 0) * row.step < 2 ^ 64
one_room order sizes starts lengths row n axis e l is axes room =
    let alone = first_alone order n e l in
    one_room_at (get_or order 0 0) sizes starts lengths row axis is (subst (λ xs. AreAxes xs sizes starts lengths) alone axes) (subst (λ xs. HasRoom 0 xs sizes row) alone room)

-- ---- one codec at most

none_takes : (sizes : List ℕ) (region : Region) → TakesRegion [] sizes region → TakesFew [] sizes region
none_takes sizes region takes = record {
  fits = tt;
  counted = few_places [] sizes region takes;
  moved = λ type held. sym (kept_places region.lengths (elements type (product region.lengths) held) (length-elements type (product region.lengths) held));
}

pub none_take : (codecs : List ArrayToArrayCodec) (sizes : List ℕ) (region : Region) → (length codecs == 0) ≡ true → TakesRegion (map mapping_of codecs) sizes region → TakesFew (map mapping_of codecs) sizes region
none_take [] sizes region e takes = none_takes sizes region takes
none_take (codec ∷ codecs) sizes region e takes = absurd (omega (arith, eqb-true (length (codec ∷ codecs)) 0 e))

pub one_takes : (codecs : List ArrayToArrayCodec) (order sizes : List ℕ) (region : Region) → map mapping_of codecs ≡ transpose order ∷ [] → TakesRegion (map mapping_of codecs) sizes region → TakesFew (map mapping_of codecs) sizes region
one_takes codecs order sizes region e takes =
    let one = subst (λ cs. TakesRegion cs sizes region) e takes in
    subst (λ cs. TakesFew cs sizes region) (sym e) (record {
      fits = region_fits order sizes region one;
      counted = few_places (transpose order ∷ []) sizes region one;
      moved = λ type held. refl;
    })
