use Rattle.std.proofs.Common.{◌≡◌, ℕ, List, ◌+◌, ◌*◌, ◌<◌, get_or, length, map, drop, arith, sym, ap, ◌∙◌, Vec, Global}
use Rattle.std.specs.List.{All}
use Rattle.std.proofs.lemmas.List.{drop_all, get_or_default}
use Rattle.std.proofs.lemmas.Result.{IfOk-weaker}
use Rattle.zarrs_chunk.specs.ChunkShape.{product}
use Rattle.zarrs_chunk.specs.Levels.{numbers_behind, box_places, IsFitting}
use Rattle.zarrs_chunk.specs.Tuples.{row_major}
use Rattle.zarrs_chunk.proofs.BoxTuples.{box_tuples-nothing, numbers_behind-end}
use Rattle.zarrs_chunk.proofs.boxes.box_places.Goals as goal

pub returns-then-contains-clause-places : goal.returns-then-contains-clause-places
returns-then-contains-clause-places c =
    let e = box_tuples-nothing c.args.starts.now c.args.lengths.now (omega arith) (sym c.contains.ensures.value ∙ c.if-contains.true) in
    c.new.ensures.items ∙ sym (ap (map (row_major c.args.sizes.now)) e)

pub returns-clause-places : goal.returns-clause-places
returns-clause-places c =
    let n = length c.args.sizes.now in
    let P = λ (v : Vec ℕ Global). numbers_behind (drop n c.args.sizes.now) (drop n c.args.starts.now) (drop n c.args.lengths.now) v.items ≡ box_places c.args.sizes.now c.args.starts.now c.args.lengths.now in
    let Q = λ (v : Vec ℕ Global). v.items ≡ box_places c.args.sizes.now c.args.starts.now c.args.lengths.now in
    IfOk-weaker c.box_fronts.result P Q (λ v h. sym (numbers_behind-end c.args.sizes.now c.args.starts.now _ v.items n (omega arith) (omega arith)) ∙ h) c.box_fronts.ensures.fronts

fitting_below : (total rest : ℕ) (xs : List ℕ) → rest ≡ 1 → IsFitting total rest xs → All (λ p. p < total) xs
fitting_below total rest xs e h = λ k d l.
    let grown : (get_or xs k 0 + 1) * rest ≡ (get_or xs k 0 + 1) * 1 = ap (λ n. (get_or xs k 0 + 1) * n) e in
    omega (arith, h k l, grown, get_or_default xs k d 0 l)

pub returns-clause-below : goal.returns-clause-below
returns-clause-below c =
    let sizes = c.args.sizes.now in
    let n = length sizes in
    let none = ap product (drop_all n sizes (omega arith)) in
    IfOk-weaker c.box_fronts.result (λ (v : Vec ℕ Global). IsFitting (product sizes) (product (drop n sizes)) v.items) (λ (v : Vec ℕ Global). All (λ p. p < product sizes) v.items) (λ v h. fitting_below (product sizes) (product (drop n sizes)) v.items none h) c.box_fronts.ensures.fits
