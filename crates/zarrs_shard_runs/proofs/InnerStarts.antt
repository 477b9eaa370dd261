-- Where a window starts in its inner chunk, axis by axis from the first one on.
use Rattle.std.proofs.Common.{◌≡◌, ℕ, ◌+◌, ◌-◌, ◌*◌, ◌/◌, ◌%◌, ◌<◌, ◌≤◌, ◌^◌, ◌==◌, ◌&&◌, ◌++◌, nat_le, Bool, true, false, List, [], ◌∷◌, length, drop, get_or, Ok, arith, refl, ap, sym, ◌∙◌}
use Rattle.std.specs.List.{All}
use Rattle.std.proofs.lemmas.Bool.{and_from, and_parts, eq-eqb, eqb-true, false_from_ne_true}
use Rattle.std.proofs.lemmas.List.{append-nil, append_assoc, drop_all, drop_more}
use Rattle.std.proofs.lemmas.List.Elements.{All-drop, All-head, All-tail}
use Rattle.std.proofs.lemmas.Nat.{mod_below}
use Rattle.zarrs_array_to_array.proofs.BoxNumbers.{factors_positive}
use Rattle.zarrs_chain_meaning.proofs.InnerChunks.{is_cut}
use Rattle.zarrs_chain_meaning.specs.sharding.InnerChunks.{is_divided, grid}
use Rattle.zarrs_grid.specs.ChunkTuples.{quotients, remainders}
use Rattle.zarrs_chunk.proofs.Inside.{from_le_test, is_box_inside-lengths, lt_test, number_behind-le}
use Rattle.zarrs_chunk.proofs.Products.{product_positive}
use Rattle.zarrs_chunk.specs.ArraySubset.{ends_fit, subset_of_start_shape}
use Rattle.zarrs_chunk.specs.ChunkShape.{product}
use Rattle.zarrs_chunk.specs.Levels.{number_behind}
use Rattle.zarrs_chunk.specs.Tuples.{is_box_inside, row_major}
use Rattle.zarrs_shard_runs.proofs.Blocks.{divided_axes, divided_drop}
use Rattle.zarrs_shard_runs.proofs.CellSteps.{are_within}
use Rattle.zarrs_shard_runs.proofs.InnerCells.{left_of_part, number_below, same_part}
use Rattle.zarrs_shard_runs.specs.InnerBox.{lies_in_one}

-- ---- the loop over the axes

-- of each there is one for an axis
pub record HaveBoxAxes (shape sizes starts lengths : List ℕ) : Type 0 where
  pub sizes_axes : length sizes ≡ length shape
  pub starts_axes : length starts ≡ length shape
  pub lengths_axes : length lengths ≡ length shape

pub box_axes : (shape sizes starts lengths : List ℕ) → is_divided shape sizes ≡ true → is_box_inside sizes starts lengths ≡ true → HaveBoxAxes shape sizes starts lengths
box_axes shape sizes starts lengths d b =
    let sizes_are = (divided_axes shape sizes d).same in
    let box = is_box_inside-lengths sizes starts lengths b in
    record { sizes_axes = sizes_are; starts_axes = box.0 ∙ sizes_are; lengths_axes = box.1 ∙ sizes_are }

-- with the axes that are left it is the whole
pub record IsStarted (shape sizes starts lengths : List ℕ) (axis number : ℕ) (inside : List ℕ) : Type 0 where
  pub number_is : number_behind number (grid (drop axis shape) (drop axis sizes)) (quotients (drop axis shape) (drop axis starts)) ≡ row_major (grid shape sizes) (quotients shape starts)
  pub inside_is : inside ++ remainders (drop axis shape) (drop axis starts) ≡ remainders shape starts
  pub one_is : lies_in_one (drop axis shape) (drop axis starts) (drop axis lengths) ≡ lies_in_one shape starts lengths

pub started_first : (shape sizes starts lengths : List ℕ) → IsStarted shape sizes starts lengths 0 0 []
started_first shape sizes starts lengths = record { number_is = omega arith; inside_is = refl; one_is = refl }

module _ (shape sizes starts lengths : List ℕ) (divided : is_divided shape sizes ≡ true) (positive : All (λ part. 0 < part) shape) (box : is_box_inside sizes starts lengths ≡ true) (filled : 0 < product lengths) where
  lengths_filled : All (λ len. 0 < len) lengths
  lengths_filled = factors_positive lengths filled

  axes : HaveBoxAxes shape sizes starts lengths
  axes = box_axes shape sizes starts lengths divided box

  -- the number stays below the number of the shard's elements
  started_small : (axis number : ℕ) (inside : List ℕ) → All (λ size. 0 < size) sizes → IsStarted shape sizes starts lengths axis number inside → number < product sizes
  started_small axis number inside some it =
      let parts = drop axis shape in
      let others = drop axis sizes in
      let cut = is_cut parts others (All-drop (λ part. 0 < part) axis shape positive) (divided_drop axis shape sizes divided) in
      let low = cut.chunk_below 0 (product_positive others (All-drop (λ size. 0 < size) axis sizes some)) in
      let behind = number_behind-le (grid parts others) (quotients parts (drop axis starts)) number (omega (arith, low)) in
      let same = it.number_is in
      let below = number_below shape sizes starts lengths divided positive box lengths_filled in
      let within = (are_within shape sizes divided positive some).chunks in
      omega (arith, behind, same, below, within)

  -- one axis more
  module _ (axis : ℕ) (here : axis < length shape) (number : ℕ) (inside : List ℕ) (it : IsStarted shape sizes starts lengths axis number inside) where
    abbrev part : ℕ
    part = get_or shape axis 0

    abbrev size : ℕ
    size = get_or sizes axis 0

    abbrev start : ℕ
    start = get_or starts axis 0

    abbrev len : ℕ
    len = get_or lengths axis 0

    low : start % part < part
    low = mod_below start part (positive axis 0 here)

    some : 0 < len
    some = lengths_filled axis 0 (let e = axes.lengths_axes in omega (arith, e, here))

    shape_is : drop axis shape ≡ part ∷ drop (axis + 1) shape
    shape_is = drop_more shape axis 0 here

    sizes_is : drop axis sizes ≡ size ∷ drop (axis + 1) sizes
    sizes_is = drop_more sizes axis 0 (let e = axes.sizes_axes in omega (arith, e, here))

    starts_is : drop axis starts ≡ start ∷ drop (axis + 1) starts
    starts_is = drop_more starts axis 0 (let e = axes.starts_axes in omega (arith, e, here))

    lengths_is : drop axis lengths ≡ len ∷ drop (axis + 1) lengths
    lengths_is = drop_more lengths axis 0 (let e = axes.lengths_axes in omega (arith, e, here))

    one_more : (test : Bool) → (start / part == (start + len - 1) / part) ≡ test → (test && lies_in_one (drop (axis + 1) shape) (drop (axis + 1) starts) (drop (axis + 1) lengths)) ≡ lies_in_one shape starts lengths
    one_more test e =
        ap (λ test. test && lies_in_one (drop (axis + 1) shape) (drop (axis + 1) starts) (drop (axis + 1) lengths)) (sym e)
        ∙ (λ i. lies_in_one (sym shape_is i) (sym starts_is i) (sym lengths_is i))
        ∙ it.one_is

    pub started_next : len ≤ part - start % part → IsStarted shape sizes starts lengths (axis + 1) (number * (size / part) + start / part) (inside ++ start % part ∷ [])
    started_next left =
        let count = product (grid (drop (axis + 1) shape) (drop (axis + 1) sizes)) in
        let rest = row_major (grid (drop (axis + 1) shape) (drop (axis + 1) sizes)) (quotients (drop (axis + 1) shape) (drop (axis + 1) starts)) in
        let behind : (number * (size / part) + start / part) * count + rest ≡ number * (size / part * count) + (start / part * count + rest) = omega arith in
        record {
          number_is = behind ∙ (λ i. number_behind number (grid (sym shape_is i) (sym sizes_is i)) (quotients (sym shape_is i) (sym starts_is i))) ∙ it.number_is;
          inside_is = append_assoc inside (start % part ∷ []) (remainders (drop (axis + 1) shape) (drop (axis + 1) starts)) ∙ (λ i. inside ++ remainders (sym shape_is i) (sym starts_is i)) ∙ it.inside_is;
          one_is = one_more true (eq-eqb (start / part) ((start + len - 1) / part) (same_part start len part some (omega (arith, left, low))));
        }

    pub next_fits : len ≤ part - start % part → All (λ size. 0 < size) sizes → product sizes < 2 ^ 64 → number * (size / part) + start / part < 2 ^ 64
    next_fits left others fits = let small = started_small (axis + 1) (number * (size / part) + start / part) (inside ++ start % part ∷ []) others (started_next left) in omega (arith, small, fits)

    -- the box leaves the inner chunk along this axis
    pub started_leaves : part - start % part < len → lies_in_one shape starts lengths ≡ false
    started_leaves leaves =
        sym (one_more false (false_from_ne_true (start / part == (start + len - 1) / part) (λ e.
        let left = left_of_part start len part (positive axis 0 here) some (eqb-true (start / part) ((start + len - 1) / part) e) in
        omega (arith, left, leaves, low))))

-- behind all axes
pub record IsStart (shape sizes starts lengths : List ℕ) (number : ℕ) (inside : List ℕ) : Type 0 where
  pub number_is : number ≡ row_major (grid shape sizes) (quotients shape starts)
  pub inside_is : inside ≡ remainders shape starts
  pub one_is : true ≡ lies_in_one shape starts lengths

pub started_last : (shape sizes starts lengths : List ℕ) (axis number : ℕ) (inside : List ℕ) → is_divided shape sizes ≡ true → is_box_inside sizes starts lengths ≡ true → length shape ≤ axis → IsStarted shape sizes starts lengths axis number inside → IsStart shape sizes starts lengths number inside
started_last shape sizes starts lengths axis number inside d b l it =
    let axes = box_axes shape sizes starts lengths d b in
    let shape_is = drop_all axis shape l in
    let sizes_is = drop_all axis sizes (let e = axes.sizes_axes in omega (arith, e, l)) in
    let starts_is = drop_all axis starts (let e = axes.starts_axes in omega (arith, e, l)) in
    let lengths_is = drop_all axis lengths (let e = axes.lengths_axes in omega (arith, e, l)) in
    record {
      number_is = (let e : number ≡ number * 1 + 0 = omega arith in e) ∙ (λ i. number_behind number (grid (sym shape_is i) (sym sizes_is i)) (quotients (sym shape_is i) (sym starts_is i))) ∙ it.number_is;
      inside_is = sym (append-nil inside) ∙ (λ i. inside ++ remainders (sym shape_is i) (sym starts_is i)) ∙ it.inside_is;
      one_is = (λ i. lies_in_one (sym shape_is i) (sym starts_is i) (sym lengths_is i)) ∙ it.one_is;
    }

-- ---- the box that is made

box_ends : (sizes starts lengths : List ℕ) → is_box_inside sizes starts lengths ≡ true → All (λ size. size < 2 ^ 64) sizes → ends_fit starts lengths ≡ true
box_ends [] [] [] b small = refl
box_ends [] [] (len ∷ lengths) b small = absurd cc
box_ends [] (start ∷ starts) lengths b small = absurd cc
box_ends (size ∷ sizes) [] lengths b small = absurd cc
box_ends (size ∷ sizes) (start ∷ starts) [] b small = absurd cc
box_ends (size ∷ sizes) (start ∷ starts) (len ∷ lengths) b small =
    let boxes = and_parts (nat_le (start + len) size) (is_box_inside sizes starts lengths) b in
    let within = from_le_test (start + len) size boxes.0 in
    let one = All-head (λ size. size < 2 ^ 64) size sizes small in
    and_from _ _ (lt_test (start + len) (2 ^ 64) (omega (arith, within, one))) (box_ends sizes starts lengths boxes.1 (All-tail (λ size. size < 2 ^ 64) size sizes small))

pub box_made : (sizes starts lengths : List ℕ) → is_box_inside sizes starts lengths ≡ true → All (λ size. size < 2 ^ 64) sizes → subset_of_start_shape starts lengths ≡ Ok (record { starts = starts; lengths = lengths })
box_made sizes starts lengths b small =
    let axes = is_box_inside-lengths sizes starts lengths b in
    rw (eq-eqb (length starts) (length lengths) (axes.0 ∙ sym axes.1), box_ends sizes starts lengths b small) refl
