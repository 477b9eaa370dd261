-- Blocks of places that stay in one inner chunk.
use Rattle.std.proofs.Common.{◌≡◌, ℕ, zero, suc, ◌+◌, ◌*◌, ◌/◌, ◌%◌, ◌<◌, ◌≤◌, ◌==◌, Bool, true, List, [], ◌∷◌, length, drop, get_or, arith, refl, ap, sym, subst, ◌∙◌}
use Rattle.std.specs.List.{All}
use Rattle.std.proofs.Math.Nat.{div-eq_of_lt, mod-eq_of_lt, div_self, mul-mod_left, mul-le-mul_right}
use Rattle.std.proofs.lemmas.Bool.{eqb-true}
use Rattle.std.proofs.lemmas.List.{drop_all, drop_more}
use Rattle.std.proofs.lemmas.List.Elements.{All-drop, All-head, All-tail}
use Rattle.std.proofs.lemmas.Nat.{div_below, mod_below, div-add-mod'}
use Rattle.zarrs_chain_meaning.specs.sharding.InnerChunks.{is_divided, grid, inner_chunk_of, place_inside}
use Rattle.zarrs_chunk.specs.ChunkShape.{product}
use Rattle.zarrs_chunk.proofs.NumberedTuples.{factor_positive}
use Rattle.zarrs_chunk.proofs.Products.{product_positive, product_drop}
use Rattle.zarrs_chunk.proofs.WholeAxes.{product_drop-le}
use Rattle.zarrs_codec.proofs.Fences.{second_true, first_true}
use Rattle.zarrs_shard_runs.specs.CutRuns.{IsBlock}
use Rattle.zarrs_shard_runs.proofs.Numbers.{stay_div, stay_mod, by_product, stays_in_row, multiple}

-- ---- sizes that are divided

pub divided_first : (part size : ℕ) (shape sizes : List ℕ) → is_divided (part ∷ shape) (size ∷ sizes) ≡ true → size % part ≡ 0
divided_first part size shape sizes d = eqb-true (size % part) 0 (first_true (size % part == 0) (is_divided shape sizes) d)

pub divided_rest : (part size : ℕ) (shape sizes : List ℕ) → is_divided (part ∷ shape) (size ∷ sizes) ≡ true → is_divided shape sizes ≡ true
divided_rest part size shape sizes d = second_true (size % part == 0) (is_divided shape sizes) d

pub divided_drop : (axis : ℕ) (shape sizes : List ℕ) → is_divided shape sizes ≡ true → is_divided (drop axis shape) (drop axis sizes) ≡ true
divided_drop zero shape sizes d = d
divided_drop (suc axis) [] [] d = refl
divided_drop (suc axis) [] (size ∷ sizes) d = absurd cc
divided_drop (suc axis) (part ∷ shape) [] d = absurd cc
divided_drop (suc axis) (part ∷ shape) (size ∷ sizes) d = divided_drop axis shape sizes (divided_rest part size shape sizes d)

-- of as many axes
pub record HaveAxes (shape sizes : List ℕ) : Type 0 where
  pub same : length sizes ≡ length shape

pub divided_axes : (shape sizes : List ℕ) → is_divided shape sizes ≡ true → HaveAxes shape sizes
divided_axes [] [] d = record { same = refl }
divided_axes [] (size ∷ sizes) d = absurd cc
divided_axes (part ∷ shape) [] d = absurd cc
divided_axes (part ∷ shape) (size ∷ sizes) d = record { same = ap suc (divided_axes shape sizes (divided_rest part size shape sizes d)).same }

pub divided_at : (shape sizes : List ℕ) (axis : ℕ) → is_divided shape sizes ≡ true → axis < length shape → get_or sizes axis 0 % get_or shape axis 0 ≡ 0
divided_at [] sizes axis d l = absurd (omega (arith, l))
divided_at (part ∷ shape) [] axis d l = absurd cc
divided_at (part ∷ shape) (size ∷ sizes) zero d l = divided_first part size shape sizes d
divided_at (part ∷ shape) (size ∷ sizes) (suc axis) d l = divided_at shape sizes axis (divided_rest part size shape sizes d) (omega (arith, l))

-- a part is no larger than what it divides
pub part_small : (part size : ℕ) → 0 < size → size % part ≡ 0 → part ≤ size
part_small part size s e = small (size / part) part size (let d = div-add-mod' size part in omega (arith, d, e)) s
  where
    small : (n part size : ℕ) → n * part ≡ size → 0 < size → part ≤ size
    small zero part size e s = absurd (omega (arith, e, s))
    small (suc n) part size e s = omega (arith, e)

-- ---- where inner chunks are whole

pub record IsWhole (sizes : List ℕ) (place : ℕ) : Type 0 where
  pub number : inner_chunk_of sizes sizes place ≡ 0
  pub inside : place_inside sizes sizes place ≡ place

-- a chunk that is one inner chunk
whole_chunk : (sizes : List ℕ) (place : ℕ) → place < product sizes → IsWhole sizes place
whole_chunk [] place l = record { number = refl; inside = omega (arith, l) }
whole_chunk (size ∷ sizes) place l =
    let rest = product sizes in
    let some : 0 < rest = factor_positive place size rest l in
    let low : place / rest < size = div_below place rest size some l in
    let behind = whole_chunk sizes (place % rest) (mod_below place rest some) in
    let none : place / rest / size * product (grid sizes sizes) ≡ 0 = ap (λ n. n * product (grid sizes sizes)) (div-eq_of_lt low) ∙ omega arith in
    let same : place / rest % size * rest ≡ place / rest * rest = ap (λ n. n * rest) (mod-eq_of_lt low) in
    let d = div-add-mod' place rest in
    record {
      number = let n = behind.number in omega (arith, none, n);
      inside = let n = behind.inside in omega (arith, same, d, n);
    }

whole_grid : (sizes : List ℕ) → All (λ size. 0 < size) sizes → product (grid sizes sizes) ≡ 1
whole_grid [] p = refl
whole_grid (size ∷ sizes) p =
    let one = div_self (All-head (λ size. 0 < size) size sizes p) in
    let rest = whole_grid sizes (All-tail (λ size. 0 < size) size sizes p) in
    (λ i. one i * rest i)

-- ---- blocks

block_none : IsBlock [] [] 1
block_none = record { some = omega arith; divides = refl; number = λ place more l. refl; inside = λ place more l. omega (arith, l) }

block_whole : (part size : ℕ) (sizes : List ℕ) → 0 < part → size % part ≡ 0 → All (λ size. 0 < size) sizes → IsBlock (part ∷ sizes) (size ∷ sizes) (part * product sizes)
block_whole part size sizes p e positive =
    record {
      some = let s = mul-le-mul_right rest p in omega (arith, s, r);
      divides = ap (λ n. n % (part * rest)) whole ∙ mul-mod_left (size / part) (part * rest);
      number = λ place more l. number_is (place + more) ∙ stay_div place more (part * rest) l ∙ sym (number_is place);
      inside = λ place more l. inside_is (place + more) ∙ stay_mod place more (part * rest) l ∙ ap (λ n. n + more) (sym (inside_is place));
    }
  where
    rest : ℕ
    rest = product sizes

    r : 0 < product sizes
    r = product_positive sizes positive

    whole : size * product sizes ≡ size / part * (part * product sizes)
    whole =
        let d = div-add-mod' size part in
        let f : size / part * part ≡ size = omega (arith, d, e) in
        let g : size / part * part * product sizes ≡ size * product sizes = ap (λ n. n * product sizes) f in
        omega (arith, g)

    number_is : (place : ℕ) → inner_chunk_of (part ∷ sizes) (size ∷ sizes) place ≡ place / (part * product sizes)
    number_is place =
        let behind = whole_chunk sizes (place % product sizes) (mod_below place (product sizes) r) in
        let one = whole_grid sizes positive in
        let by = by_product place part (product sizes) p r in
        (λ i. place / product sizes / part * one i + behind.number i) ∙ (omega arith) ∙ sym by.quotient

    inside_is : (place : ℕ) → place_inside (part ∷ sizes) (size ∷ sizes) place ≡ place % (part * product sizes)
    inside_is place =
        let behind = whole_chunk sizes (place % product sizes) (mod_below place (product sizes) r) in
        let by = by_product place part (product sizes) p r in
        ap (λ n. place / product sizes % part * product sizes + n) behind.inside ∙ sym by.remainder

-- an axis in front leaves blocks as they are
block_up : (part size block : ℕ) (shape sizes : List ℕ) → 0 < product sizes → IsBlock shape sizes block → IsBlock (part ∷ shape) (size ∷ sizes) block
block_up part size block shape sizes r b = record {
  some = b.some;
  divides = multiple size (product sizes) block b.divides;
  number = λ place more l.
      let stays = stays_in_row place more block (product sizes) b.some r b.divides l in
      let quotient = stay_div place more (product sizes) stays.in_row in
      let left = stay_mod place more (product sizes) stays.in_row in
      (λ i. quotient i / part * product (grid shape sizes) + inner_chunk_of shape sizes (left i))
      ∙ ap (λ n. place / product sizes / part * product (grid shape sizes) + n) (b.number (place % product sizes) more stays.in_block);
  inside = λ place more l.
      let stays = stays_in_row place more block (product sizes) b.some r b.divides l in
      let quotient = stay_div place more (product sizes) stays.in_row in
      let left = stay_mod place more (product sizes) stays.in_row in
      (λ i. quotient i % part * product shape + place_inside shape sizes (left i))
      ∙ ap (λ n. place / product sizes % part * product shape + n) (b.inside (place % product sizes) more stays.in_block)
      ∙ omega arith;
}

pub block_climbs : (axis block : ℕ) (shape sizes : List ℕ) → is_divided shape sizes ≡ true → All (λ size. 0 < size) sizes → IsBlock (drop axis shape) (drop axis sizes) block → IsBlock shape sizes block
block_climbs zero block shape sizes d p b = b
block_climbs (suc axis) block [] [] d p b = b
block_climbs (suc axis) block [] (size ∷ sizes) d p b = absurd cc
block_climbs (suc axis) block (part ∷ shape) [] d p b = absurd cc
block_climbs (suc axis) block (part ∷ shape) (size ∷ sizes) d p b =
    let rest = All-tail (λ size. 0 < size) size sizes p in
    block_up part size block shape sizes (product_positive sizes rest) (block_climbs axis block shape sizes (divided_rest part size shape sizes d) rest b)

-- ---- the loop that multiplies axes from the last one on, while inner chunks cover them whole

pub record IsBlockFrom (shape sizes : List ℕ) (axis block : ℕ) (whole : Bool) : Type 0 where
  pub axes : axis ≤ length shape
  pub is : IsBlock (drop axis shape) (drop axis sizes) block
  pub same : whole ≡ true → drop axis shape ≡ drop axis sizes
  pub all : whole ≡ true → block ≡ product (drop axis sizes)

pub from_last : (shape sizes : List ℕ) → is_divided shape sizes ≡ true → IsBlockFrom shape sizes (length shape) 1 true
from_last shape sizes d =
    let none = drop_all (length shape) shape (omega arith) in
    let also = drop_all (length shape) sizes (let e = (divided_axes shape sizes d).same in omega (arith, e)) in
    record {
      axes = omega arith;
      is = subst (λ (xs : List ℕ). IsBlock xs (drop (length shape) sizes) 1) (sym none) (subst (λ (xs : List ℕ). IsBlock [] xs 1) (sym also) block_none);
      same = λ _. none ∙ sym also;
      all = λ _. sym (ap product also);
    }

-- what one axis more makes of the block
pub record TakesAxis (shape sizes : List ℕ) (axis block : ℕ) : Type 0 where
  pub part : get_or shape axis 0 ≤ get_or sizes axis 0
  pub fits : block * get_or shape axis 0 ≤ product sizes

pub takes : (shape sizes : List ℕ) (before axis block : ℕ) → is_divided shape sizes ≡ true → All (λ size. 0 < size) sizes → before ≡ axis + 1 → before ≤ length shape → block ≡ product (drop before sizes) → TakesAxis shape sizes axis block
takes shape sizes before axis block d p e l b =
    let axes = (divided_axes shape sizes d).same in
    let here : axis < length sizes = omega (arith, e, l, axes) in
    let even = divided_at shape sizes axis d (omega (arith, e, l)) in
    let small = part_small (get_or shape axis 0) (get_or sizes axis 0) (p axis 0 here) even in
    let up : get_or shape axis 0 * block ≤ get_or sizes axis 0 * block = mul-le-mul_right block small in
    let is : product (drop axis sizes) ≡ get_or sizes axis 0 * block = product_drop sizes axis here ∙ ap (λ n. get_or sizes axis 0 * product (drop n sizes)) (sym e) ∙ ap (λ n. get_or sizes axis 0 * n) (sym b) in
    let within = product_drop-le sizes axis p in
    record { part = small; fits = omega (arith, up, is, within) }

pub takes_axis : (shape sizes : List ℕ) (before axis block : ℕ) (whole : Bool) → is_divided shape sizes ≡ true → All (λ size. 0 < size) sizes → before ≡ axis + 1 → whole ≡ true → IsBlockFrom shape sizes before block whole → TakesAxis shape sizes axis block
takes_axis shape sizes before axis block whole d p e w r = takes shape sizes before axis block d p e r.axes (r.all w)

pub next_block : (shape sizes : List ℕ) (before axis block : ℕ) (whole next : Bool) → is_divided shape sizes ≡ true → All (λ part. 0 < part) shape → All (λ size. 0 < size) sizes → before ≡ axis + 1 → whole ≡ true → (next ≡ true → get_or shape axis 0 ≡ get_or sizes axis 0)
    → IsBlockFrom shape sizes before block whole → IsBlockFrom shape sizes axis (block * get_or shape axis 0) next
next_block shape sizes before axis block whole next d p q e w n r =
    let axes = (divided_axes shape sizes d).same in
    let part = get_or shape axis 0 in
    let size = get_or sizes axis 0 in
    let here : axis < length shape = let l = r.axes in omega (arith, e, l) in
    let there : axis < length sizes = omega (arith, here, axes) in
    let shape_is : drop axis shape ≡ part ∷ drop before shape = drop_more shape axis 0 here ∙ ap (λ k. part ∷ drop k shape) (sym e) in
    let sizes_is : drop axis sizes ≡ size ∷ drop before sizes = drop_more sizes axis 0 there ∙ ap (λ k. size ∷ drop k sizes) (sym e) in
    let behind : All (λ size. 0 < size) (drop before sizes) = All-drop (λ size. 0 < size) before sizes q in
    let block_is : part * product (drop before sizes) ≡ block * part = let b = ap (λ k. part * k) (r.all w) in omega (arith, b) in
    record {
      axes = omega (arith, here);
      is = subst (λ (k : ℕ). IsBlock (drop axis shape) (drop axis sizes) k) block_is
          (subst (λ (xs : List ℕ). IsBlock xs (drop axis sizes) (part * product (drop before sizes))) (sym shape_is ∙ refl)
          (subst (λ (xs : List ℕ). IsBlock (part ∷ drop before shape) xs (part * product (drop before sizes))) (sym sizes_is)
          (subst (λ (xs : List ℕ). IsBlock (part ∷ xs) (size ∷ drop before sizes) (part * product (drop before sizes))) (sym (r.same w))
          (block_whole part size (drop before sizes) (p axis 0 here) (divided_at shape sizes axis d here) behind))));
      same = λ t. shape_is ∙ (λ i. n t i ∷ r.same w i) ∙ sym sizes_is;
      all = λ t. sym block_is ∙ ap (λ k. k * product (drop before sizes)) (n t) ∙ sym (ap product sizes_is);
    }
