-- The inner chunk of a place, and the place in it, axis by axis from the last one on.
use Rattle.std.proofs.Common.{◌≡◌, ℕ, ◌+◌, ◌*◌, ◌/◌, ◌%◌, ◌<◌, ◌≤◌, ◌^◌, true, List, ◌∷◌, length, drop, get_or, arith, ap, sym, subst, ◌∙◌}
use Rattle.std.specs.List.{All}
use Rattle.std.proofs.Math.Nat.{div-one, mod-eq_of_lt, mul-le-mul_left, mul-le-mul_right}
use Rattle.std.proofs.lemmas.List.{drop_all, drop_more}
use Rattle.std.proofs.lemmas.List.Elements.{All-drop}
use Rattle.std.proofs.lemmas.Nat.{mod_below, div-mul-add, mod-mul-add}
use Rattle.zarrs_chain_meaning.specs.sharding.InnerChunks.{is_divided, inner_chunk_count, inner_chunk_of, place_inside}
use Rattle.zarrs_chain_meaning.proofs.InnerChunks.{is_cut}
use Rattle.zarrs_chain_meaning.proofs.ShardSizes.{cut_count}
use Rattle.zarrs_chunk.specs.ChunkShape.{product}
use Rattle.zarrs_chunk.proofs.Products.{product_positive}
use Rattle.zarrs_chunk.proofs.WholeAxes.{product_drop-le}
use Rattle.zarrs_shard_runs.specs.CutRuns.{cell}
use Rattle.zarrs_shard_runs.proofs.Numbers.{by_product}
use Rattle.zarrs_shard_runs.proofs.Blocks.{divided_axes, divided_drop}

-- by the axes from this one on
pub record IsReached (shape sizes : List ℕ) (place axis rest number inside chunks elements : ℕ) : Type 0 where
  pub axes : axis ≤ length sizes
  pub rest_is : rest ≡ place / product (drop axis sizes)
  pub number_is : number ≡ inner_chunk_of (drop axis shape) (drop axis sizes) (place % product (drop axis sizes))
  pub inside_is : inside ≡ place_inside (drop axis shape) (drop axis sizes) (place % product (drop axis sizes))
  pub chunks_are : chunks ≡ inner_chunk_count (drop axis shape) (drop axis sizes)
  pub elements_are : elements ≡ product (drop axis shape)

pub reached_start : (shape sizes : List ℕ) (place : ℕ) → is_divided shape sizes ≡ true → IsReached shape sizes place (length sizes) place 0 0 1 1
reached_start shape sizes place d =
    let none = drop_all (length sizes) sizes (omega arith) in
    let also = drop_all (length sizes) shape (let e = (divided_axes shape sizes d).same in omega (arith, e)) in
    record {
      axes = omega arith;
      rest_is = sym (div-one place) ∙ ap (λ (xs : List ℕ). place / product xs) (sym none);
      number_is = λ i. inner_chunk_of (sym also i) (sym none i) (place % product (drop (length sizes) sizes));
      inside_is = λ i. place_inside (sym also i) (sym none i) (place % product (drop (length sizes) sizes));
      chunks_are = λ i. inner_chunk_count (sym also i) (sym none i);
      elements_are = sym (ap product also);
    }

-- one axis more
record IsMore (part size place : ℕ) (shape sizes : List ℕ) : Type 0 where
  pub rest : place / product sizes / size ≡ place / product (size ∷ sizes)
  pub number : inner_chunk_of shape sizes (place % product sizes) + place / product sizes % size / part * inner_chunk_count shape sizes ≡ inner_chunk_of (part ∷ shape) (size ∷ sizes) (place % product (size ∷ sizes))
  pub inside : place_inside shape sizes (place % product sizes) + place / product sizes % size % part * product shape ≡ place_inside (part ∷ shape) (size ∷ sizes) (place % product (size ∷ sizes))

is_more : (part size place : ℕ) (shape sizes : List ℕ) → 0 < size → 0 < product sizes → IsMore part size place shape sizes
is_more part size place shape sizes s r =
    let rest = product sizes in
    let by = by_product place size rest s r in
    let low = mod_below place rest r in
    let quotient : place % (size * rest) / rest ≡ place / rest % size = ap (λ n. n / rest) by.remainder ∙ div-mul-add (place / rest % size) rest (place % rest) low in
    let left : place % (size * rest) % rest ≡ place % rest = ap (λ n. n % rest) by.remainder ∙ mod-mul-add (place / rest % size) rest (place % rest) low in
    record {
      rest = sym by.quotient;
      number = (omega arith) ∙ (λ i. sym quotient i / part * inner_chunk_count shape sizes + inner_chunk_of shape sizes (sym left i));
      inside = (omega arith) ∙ (λ i. sym quotient i % part * product shape + place_inside shape sizes (sym left i));
    }

pub reached_next : (shape sizes : List ℕ) (place before axis rest number inside chunks elements : ℕ) → is_divided shape sizes ≡ true → All (λ size. 0 < size) sizes → before ≡ axis + 1
    → IsReached shape sizes place before rest number inside chunks elements
    → IsReached shape sizes place axis (rest / get_or sizes axis 0) (number + rest % get_or sizes axis 0 / get_or shape axis 0 * chunks) (inside + rest % get_or sizes axis 0 % get_or shape axis 0 * elements) (chunks * (get_or sizes axis 0 / get_or shape axis 0)) (elements * get_or shape axis 0)
reached_next shape sizes place before axis rest number inside chunks elements d p e r =
    let part = get_or shape axis 0 in
    let size = get_or sizes axis 0 in
    let there : axis < length sizes = let l = r.axes in omega (arith, e, l) in
    let here : axis < length shape = let a = (divided_axes shape sizes d).same in omega (arith, there, a) in
    let shape_is : drop axis shape ≡ part ∷ drop before shape = drop_more shape axis 0 here ∙ ap (λ k. part ∷ drop k shape) (sym e) in
    let sizes_is : drop axis sizes ≡ size ∷ drop before sizes = drop_more sizes axis 0 there ∙ ap (λ k. size ∷ drop k sizes) (sym e) in
    let some = product_positive (drop before sizes) (All-drop (λ size. 0 < size) before sizes p) in
    let more = is_more part size place (drop before shape) (drop before sizes) (p axis 0 there) some in
    let product_is : product (size ∷ drop before sizes) ≡ product (drop axis sizes) = sym (ap product sizes_is) in
    record {
      axes = omega (arith, there);
      rest_is = ap (λ n. n / size) r.rest_is ∙ more.rest ∙ ap (λ n. place / n) product_is;
      number_is = (λ i. r.number_is i + r.rest_is i % size / part * r.chunks_are i) ∙ more.number ∙ (λ i. inner_chunk_of (sym shape_is i) (sym sizes_is i) (place % product (sym sizes_is i)));
      inside_is = (λ i. r.inside_is i + r.rest_is i % size % part * r.elements_are i) ∙ more.inside ∙ (λ i. place_inside (sym shape_is i) (sym sizes_is i) (place % product (sym sizes_is i)));
      chunks_are = ap (λ n. n * (size / part)) r.chunks_are ∙ (omega arith) ∙ (λ i. inner_chunk_count (sym shape_is i) (sym sizes_is i));
      elements_are = ap (λ n. n * part) r.elements_are ∙ (omega arith) ∙ (λ i. product (sym shape_is i));
    }

-- an inner chunk is no larger than the chunk, and there are no more inner chunks than elements
pub record AreWithin (shape sizes : List ℕ) : Type 0 where
  pub elements : product shape ≤ product sizes
  pub chunks : inner_chunk_count shape sizes ≤ product sizes

pub are_within : (shape sizes : List ℕ) → is_divided shape sizes ≡ true → All (λ part. 0 < part) shape → All (λ size. 0 < size) sizes → AreWithin shape sizes
are_within shape sizes d p q =
    let count = cut_count shape sizes d in
    let one = product_positive shape p in
    let some : 0 < inner_chunk_count shape sizes = let c = (is_cut shape sizes p d).chunk_below 0 (product_positive sizes q) in omega (arith, c) in
    let chunks : inner_chunk_count shape sizes * 1 ≤ inner_chunk_count shape sizes * product shape = mul-le-mul_left (inner_chunk_count shape sizes) one in
    let elements : 1 * product shape ≤ inner_chunk_count shape sizes * product shape = mul-le-mul_right (product shape) some in
    record { elements = omega (arith, elements, count); chunks = omega (arith, chunks, count) }

pub inner_within : (shape sizes : List ℕ) → is_divided shape sizes ≡ true → All (λ part. 0 < part) shape → All (λ size. 0 < size) sizes → product shape ≤ product sizes
inner_within shape sizes d p q = (are_within shape sizes d p q).elements

-- the same with the slices that the code has
pub inner_small : (shape sizes parts others : List ℕ) → parts ≡ shape → others ≡ sizes → All (λ part. 0 < part) parts → All (λ size. 0 < size) others → is_divided shape sizes ≡ true → product sizes < 2 ^ 64 → product shape < 2 ^ 64
inner_small shape sizes parts others p o a b d l =
    let h = (are_within shape sizes d (subst (All (λ part. 0 < part)) p a) (subst (All (λ size. 0 < size)) o b)).elements in
    omega (arith, h, l)

-- all of these are below the number of the chunk's elements
pub record AreSmall (size number inside chunks elements : ℕ) : Type 0 where
  pub number_small : number < size
  pub inside_small : inside < size
  pub chunks_small : chunks ≤ size
  pub elements_small : elements ≤ size

pub reached_small : (shape sizes : List ℕ) (place axis rest number inside chunks elements : ℕ) → is_divided shape sizes ≡ true → All (λ part. 0 < part) shape → All (λ size. 0 < size) sizes
    → IsReached shape sizes place axis rest number inside chunks elements → AreSmall (product sizes) number inside chunks elements
reached_small shape sizes place axis rest number inside chunks elements d p q r =
    let parts = drop axis shape in
    let others = drop axis sizes in
    let positive = All-drop (λ part. 0 < part) axis shape p in
    let some = product_positive others (All-drop (λ size. 0 < size) axis sizes q) in
    let even = divided_drop axis shape sizes d in
    let cut = is_cut parts others positive even in
    let low = mod_below place (product others) some in
    let number_low = cut.chunk_below (place % product others) low in
    let inside_low = cut.inside_below (place % product others) low in
    let within = product_drop-le sizes axis q in
    let all = are_within parts others even positive (All-drop (λ size. 0 < size) axis sizes q) in
    let elements_low = all.elements in
    let chunks_low = all.chunks in
    let a = r.number_is in
    let b = r.inside_is in
    let c = r.chunks_are in
    let e = r.elements_are in
    record {
      number_small = omega (arith, a, number_low, chunks_low, within);
      inside_small = omega (arith, b, inside_low, elements_low, within);
      chunks_small = omega (arith, c, chunks_low, within);
      elements_small = omega (arith, e, elements_low, within);
    }

pub reached_end : (shape sizes : List ℕ) (place axis rest number inside chunks elements : ℕ) → axis ≡ 0 → place < product sizes → IsReached shape sizes place axis rest number inside chunks elements → (number, inside) ≡ cell shape sizes place
reached_end shape sizes place axis rest number inside chunks elements e l r =
    let all : place % product (drop axis sizes) ≡ place = ap (λ k. place % product (drop k sizes)) e ∙ mod-eq_of_lt l in
    λ i. ((r.number_is ∙ (λ j. inner_chunk_of (drop (e j) shape) (drop (e j) sizes) (all j))) i, (r.inside_is ∙ (λ j. place_inside (drop (e j) shape) (drop (e j) sizes) (all j))) i)
