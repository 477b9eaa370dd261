-- Bands of rows that stay in one inner chunk.
use Rattle.std.proofs.Common.{◌≡◌, ℕ, zero, suc, ◌+◌, ◌*◌, ◌/◌, ◌%◌, ◌<◌, ◌≤◌, Bool, true, List, [], ◌∷◌, length, drop, get_or, arith, ap, sym, subst, ◌∙◌, ⊎_elim}
use Rattle.std.specs.List.{All}
use Rattle.std.proofs.Math.Nat.{mod_self, mul-mod_left, mul-le-mul_right}
use Rattle.std.proofs.Math.Path.{transport}
use Rattle.std.proofs.lemmas.Bool.{cases_lt}
use Rattle.std.proofs.lemmas.List.{drop_all, drop_more}
use Rattle.std.proofs.lemmas.List.Elements.{All-drop, All-tail}
use Rattle.std.proofs.lemmas.Nat.{mod_below, div-add-mod', div-mul-add, mod-mul-add}
use Rattle.zarrs_chain_meaning.specs.sharding.InnerChunks.{is_divided, grid, inner_chunk_of, place_inside}
use Rattle.zarrs_chunk.specs.ChunkShape.{product}
use Rattle.zarrs_chunk.proofs.Products.{product_positive, product_drop}
use Rattle.zarrs_chunk.proofs.WholeAxes.{product_drop-le}
use Rattle.zarrs_shard_runs.specs.BlockRows.{AreBlocks, IsBand}
use Rattle.zarrs_shard_runs.proofs.Blocks.{IsBlockFrom, block_climbs, divided_at, divided_axes, divided_rest, from_last, next_block, takes}
use Rattle.zarrs_shard_runs.proofs.Numbers.{by_product, multiple, stay_div, stay_mod, stays_in_row}

-- ---- one step along an axis

-- a row more keeps the quotient, and the remainder goes on by a row
pub record IsRowBelow (place row : ℕ) : Type 0 where
  pub quotient : (place + row) / row ≡ place / row + 1
  pub remainder : (place + row) % row ≡ place % row

row_below : (place row : ℕ) → 0 < row → IsRowBelow place row
row_below place row r =
    let low : place % row < row = mod_below place row r in
    let d = div-add-mod' place row in
    let e : place + row ≡ (place / row + 1) * row + place % row = omega (arith, d) in
    record {
      quotient = ap (λ n. n / row) e ∙ div-mul-add (place / row + 1) row (place % row) low;
      remainder = ap (λ n. n % row) e ∙ mod-mul-add (place / row + 1) row (place % row) low;
    }

-- in a band of so many rows the one below is one of them
below_inside : (place part row : ℕ) → 0 < part → 0 < row → place % (part * row) + row < part * row → place / row % part + 1 < part
below_inside place part row p r l =
    ⊎_elim (λ (h : place / row % part + 1 < part). h)
    (λ (h : part ≤ place / row % part + 1).
    let by = (by_product place part row p r).remainder in
    let up : part * row ≤ (place / row % part + 1) * row = mul-le-mul_right row h in
    absurd (omega (arith, by, up, l)))
    (cases_lt (place / row % part + 1) part)

-- along the axis before the rows
band_here : (part size : ℕ) (shape sizes : List ℕ) → 0 < part → size % part ≡ 0 → 0 < product sizes → IsBand (part ∷ shape) (size ∷ sizes) (product shape) (product sizes) (part * product sizes)
band_here part size shape sizes p e r = record {
  some = let s = mul-le-mul_right (product sizes) p in omega (arith, s, r);
  divides = ap (λ n. n % (part * product sizes)) whole ∙ mul-mod_left (size / part) (part * product sizes);
  number = λ place l.
      let below = row_below place (product sizes) r in
      let inside = below_inside place part (product sizes) p r l in
      (λ i. below.quotient i / part * product (grid shape sizes) + inner_chunk_of shape sizes (below.remainder i))
      ∙ ap (λ n. n * product (grid shape sizes) + inner_chunk_of shape sizes (place % product sizes)) (stay_div (place / product sizes) 1 part inside);
  inside = λ place l.
      let below = row_below place (product sizes) r in
      let inside = below_inside place part (product sizes) p r l in
      (λ i. below.quotient i % part * product shape + place_inside shape sizes (below.remainder i))
      ∙ ap (λ n. n * product shape + place_inside shape sizes (place % product sizes)) (stay_mod (place / product sizes) 1 part inside)
      ∙ omega arith;
}
  where
    whole : size * product sizes ≡ size / part * (part * product sizes)
    whole =
        let d = div-add-mod' size part in
        let f : size / part * part ≡ size = omega (arith, d, e) in
        let g : size / part * part * product sizes ≡ size * product sizes = ap (λ n. n * product sizes) f in
        omega (arith, g)

-- where there is no axis before them, there is no row below
band_none : (gain : ℕ) (shape sizes : List ℕ) → 0 < product sizes → IsBand shape sizes gain (product sizes) (product sizes)
band_none gain shape sizes r = record {
  some = r;
  divides = mod_self (product sizes);
  number = λ place l. absurd (omega (arith, l));
  inside = λ place l. absurd (omega (arith, l));
}

-- an axis in front leaves bands as they are
band_up : (part size gain row band : ℕ) (shape sizes : List ℕ) → 0 < product sizes → IsBand shape sizes gain row band → IsBand (part ∷ shape) (size ∷ sizes) gain row band
band_up part size gain row band shape sizes r b = record {
  some = b.some;
  divides = multiple size (product sizes) band b.divides;
  number = λ place l.
      let stays = stays_in_row place row band (product sizes) b.some r b.divides l in
      let quotient = stay_div place row (product sizes) stays.in_row in
      let left = stay_mod place row (product sizes) stays.in_row in
      (λ i. quotient i / part * product (grid shape sizes) + inner_chunk_of shape sizes (left i))
      ∙ ap (λ n. place / product sizes / part * product (grid shape sizes) + n) (b.number (place % product sizes) stays.in_block);
  inside = λ place l.
      let stays = stays_in_row place row band (product sizes) b.some r b.divides l in
      let quotient = stay_div place row (product sizes) stays.in_row in
      let left = stay_mod place row (product sizes) stays.in_row in
      (λ i. quotient i % part * product shape + place_inside shape sizes (left i))
      ∙ ap (λ n. place / product sizes % part * product shape + n) (b.inside (place % product sizes) stays.in_block)
      ∙ omega arith;
}

band_climbs : (axis gain row band : ℕ) (shape sizes : List ℕ) → is_divided shape sizes ≡ true → All (λ size. 0 < size) sizes → IsBand (drop axis shape) (drop axis sizes) gain row band → IsBand shape sizes gain row band
band_climbs zero gain row band shape sizes d p b = b
band_climbs (suc axis) gain row band [] [] d p b = b
band_climbs (suc axis) gain row band [] (size ∷ sizes) d p b = absurd cc
band_climbs (suc axis) gain row band (part ∷ shape) [] d p b = absurd cc
band_climbs (suc axis) gain row band (part ∷ shape) (size ∷ sizes) d p b =
    let rest = All-tail (λ size. 0 < size) size sizes p in
    band_up part size gain row band shape sizes (product_positive sizes rest) (band_climbs axis gain row band shape sizes (divided_rest part size shape sizes d) rest b)

-- ---- the loop that multiplies axes from the last one on

pub record IsRowFrom (shape sizes : List ℕ) (axis block row : ℕ) (whole : Bool) : Type 0 where
  pub from : IsBlockFrom shape sizes axis block whole
  pub block_is : block ≡ product (drop axis shape)
  pub row_is : row ≡ product (drop axis sizes)

-- what one axis more makes of a row
pub record TakesRow (shape sizes : List ℕ) (axis row : ℕ) : Type 0 where
  pub row_fits : row * get_or sizes axis 0 ≤ product sizes
  pub band_fits : row * get_or shape axis 0 ≤ product sizes

pub takes_row : (shape sizes : List ℕ) (before axis row : ℕ) → is_divided shape sizes ≡ true → All (λ size. 0 < size) sizes → before ≡ axis + 1 → before ≤ length shape → row ≡ product (drop before sizes) → TakesRow shape sizes axis row
takes_row shape sizes before axis row d p e l b =
    let axes = (divided_axes shape sizes d).same in
    let here : axis < length sizes = omega (arith, e, l, axes) in
    let is : product (drop axis sizes) ≡ get_or sizes axis 0 * row = product_drop sizes axis here ∙ ap (λ n. get_or sizes axis 0 * product (drop n sizes)) (sym e) ∙ ap (λ n. get_or sizes axis 0 * n) (sym b) in
    let within = product_drop-le sizes axis p in
    record { row_fits = omega (arith, is, within); band_fits = (takes shape sizes before axis row d p e l b).fits }

next_factor : (sizes : List ℕ) (before axis factor : ℕ) → before ≡ axis + 1 → axis < length sizes → factor ≡ product (drop before sizes) → factor * get_or sizes axis 0 ≡ product (drop axis sizes)
next_factor sizes before axis factor e here b =
    let is : product (drop axis sizes) ≡ get_or sizes axis 0 * factor = product_drop sizes axis here ∙ ap (λ n. get_or sizes axis 0 * product (drop n sizes)) (sym e) ∙ ap (λ n. get_or sizes axis 0 * n) (sym b) in
    omega (arith, is)

pub row_start : (shape sizes : List ℕ) → is_divided shape sizes ≡ true → IsRowFrom shape sizes (length shape) 1 1 true
row_start shape sizes d =
    let none = drop_all (length shape) shape (omega arith) in
    let also = drop_all (length shape) sizes (let e = (divided_axes shape sizes d).same in omega (arith, e)) in
    record { from = from_last shape sizes d; block_is = sym (ap product none); row_is = sym (ap product also) }

pub next_row : (shape sizes : List ℕ) (before axis block row : ℕ) (whole next : Bool) → is_divided shape sizes ≡ true → All (λ part. 0 < part) shape → All (λ size. 0 < size) sizes → before ≡ axis + 1 → whole ≡ true → (next ≡ true → get_or shape axis 0 ≡ get_or sizes axis 0)
    → IsRowFrom shape sizes before block row whole → IsRowFrom shape sizes axis (block * get_or shape axis 0) (row * get_or sizes axis 0) next
next_row shape sizes before axis block row whole next d p q e w n r =
    let axes = (divided_axes shape sizes d).same in
    let here : axis < length shape = let l = r.from.axes in omega (arith, e, l) in
    record {
      from = next_block shape sizes before axis block whole next d p q e w n r.from;
      block_is = next_factor shape before axis block e here r.block_is;
      row_is = next_factor sizes before axis row e (omega (arith, here, axes)) r.row_is;
    }

-- ---- what the loop ends with

blocks_are : (shape sizes : List ℕ) (axis block row band : ℕ) (whole : Bool) → is_divided shape sizes ≡ true → All (λ size. 0 < size) sizes → IsRowFrom shape sizes axis block row whole → IsBand shape sizes block row band → AreBlocks shape sizes (record { block = block; row = row; band = band })
blocks_are shape sizes axis block row band whole d p r b = record {
  block = block_climbs axis block shape sizes d p r.from.is;
  rows = ap (λ n. n % block) r.row_is ∙ r.from.is.divides;
  band = b;
}

-- at the first axis
pub all_blocks : (shape sizes : List ℕ) (axis block row : ℕ) (whole : Bool) → is_divided shape sizes ≡ true → All (λ size. 0 < size) sizes → IsRowFrom shape sizes axis block row whole → axis ≡ 0 → AreBlocks shape sizes (record { block = block; row = row; band = row })
all_blocks shape sizes axis block row whole d p r e =
    let all : row ≡ product sizes = r.row_is ∙ ap (λ k. product (drop k sizes)) e in
    blocks_are shape sizes axis block row row whole d p r (subst (λ n. IsBand shape sizes block n n) (sym all) (band_none block shape sizes (product_positive sizes p)))

-- at a later one
pub band_blocks : (shape sizes : List ℕ) (before axis block row : ℕ) (whole : Bool) → is_divided shape sizes ≡ true → All (λ part. 0 < part) shape → All (λ size. 0 < size) sizes → IsRowFrom shape sizes before block row whole → before ≡ axis + 1
    → AreBlocks shape sizes (record { block = block; row = row; band = row * get_or shape axis 0 })
band_blocks shape sizes before axis block row whole d q p r e =
    let axes = (divided_axes shape sizes d).same in
    let part = get_or shape axis 0 in
    let size = get_or sizes axis 0 in
    let here : axis < length shape = let l = r.from.axes in omega (arith, e, l) in
    let there : axis < length sizes = omega (arith, here, axes) in
    let shape_is : drop axis shape ≡ part ∷ drop before shape = drop_more shape axis 0 here ∙ ap (λ k. part ∷ drop k shape) (sym e) in
    let sizes_is : drop axis sizes ≡ size ∷ drop before sizes = drop_more sizes axis 0 there ∙ ap (λ k. size ∷ drop k sizes) (sym e) in
    let some = product_positive (drop before sizes) (All-drop (λ size. 0 < size) before sizes p) in
    let band_is : part * product (drop before sizes) ≡ row * part = let b = ap (λ k. part * k) r.row_is in omega (arith, b) in
    let band = band_here part size (drop before shape) (drop before sizes) (q axis 0 here) (divided_at shape sizes axis d here) some in
    let moved : IsBand (drop axis shape) (drop axis sizes) block row (row * part) =
    transport (λ i. IsBand (sym shape_is i) (sym sizes_is i) (sym r.block_is i) (sym r.row_is i) (band_is i)) band in
    blocks_are shape sizes before block row (row * part) whole d p r (band_climbs axis block row (row * part) shape sizes d p moved)
