use Rattle.std.proofs.Common.{◌≡◌, ◌<◌, ◌+◌, ◌*◌, ◌++◌, ◌∷◌, [], ℕ, List, take, drop, set, get_or, length, arith, ap, sym, ◌∙◌}
use Rattle.std.specs.List.{flat_map, range_with_len}
use Rattle.std.proofs.lemmas.List.{drop-set-lt, take_more_set, get_or-drop, drop-drop, length-set}
use Rattle.zarrs_chunk.proofs.BoxTuples.{flat_map-take_more}
use Rattle.zarrs_chunk.proofs.boxes.step_fronts.Goals as goal

-- a number that is still to be done is the one that stood there
at : (xs ys : List ℕ) (i : ℕ) → drop i xs ≡ drop i ys → get_or xs i 0 ≡ get_or ys i 0
at xs ys i e =
    let back : i + 0 ≡ i = omega arith in
    ap (λ n. get_or xs n 0) (sym back) ∙ sym (get_or-drop i xs 0 0) ∙ ap (λ zs. get_or zs 0 0) e ∙ get_or-drop i ys 0 0 ∙ ap (λ n. get_or ys n 0) back

drop_next : (xs ys : List ℕ) (i : ℕ) → drop i xs ≡ drop i ys → drop (i + 1) xs ≡ drop (i + 1) ys
drop_next xs ys i e = sym (drop-drop 1 i xs) ∙ ap (drop 1) e ∙ drop-drop 1 i ys

abbrev steps : ℕ → ℕ → List ℕ → List ℕ
steps size start fronts = flat_map (λ front. range_with_len (front * size + start) 1) fronts

step_more : (size start : ℕ) (xs ys : List ℕ) (i : ℕ) → i < length xs → i < length ys → take i xs ≡ steps size start (take i ys) → drop i xs ≡ drop i ys → take (i + 1) (set xs i (get_or xs i 0 * size + start)) ≡ steps size start (take (i + 1) ys)
step_more size start xs ys i l m done left =
    take_more_set xs i (get_or xs i 0 * size + start) l
    ∙ ap (λ ns. ns ++ (get_or xs i 0 * size + start) ∷ []) done
    ∙ ap (λ n. steps size start (take i ys) ++ (n * size + start) ∷ []) (at xs ys i left)
    ∙ sym (flat_map-take_more (λ front. range_with_len (front * size + start) 1) ys i 0 m)

pub overflow_mul-fronts : goal.overflow_mul-fronts
overflow_mul-fronts c =
    let same = at c.loop-index.fronts c.args.fronts.now c.loop-index.index c.loop-index.invariant.left in
    let room = c.requires.fits c.loop-index.index (omega arith) in
    rw same (omega (arith, room))

pub overflow_add-fronts : goal.overflow_add-fronts
overflow_add-fronts c =
    let same = at c.loop-index.fronts c.args.fronts.now c.loop-index.index c.loop-index.invariant.left in
    let room = c.requires.fits c.loop-index.index (omega arith) in
    rw same (omega (arith, room))

pub loop-index-preserved : goal.loop-index-preserved
loop-index-preserved c =
    let fronts = c.loop-index.fronts in
    let old = c.args.fronts.now in
    let index = c.loop-index.index in
    let next = get_or fronts index 0 * c.args.size + c.args.start in
    record {
      stepped = step_more c.args.size c.args.start fronts old index (omega arith) (omega (arith, c.loop-index.invariant.count)) c.loop-index.invariant.stepped c.loop-index.invariant.left;
      left = drop-set-lt (index + 1) fronts index next (omega arith) ∙ drop_next fronts old index c.loop-index.invariant.left;
      count = length-set fronts index next ∙ c.loop-index.invariant.count;
    }
