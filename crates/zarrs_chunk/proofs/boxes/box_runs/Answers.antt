use Rattle.std.proofs.Common.{◌≡◌, ◌++◌, [], ◌∷◌, List, ℕ, map, arith, sym, ap, ◌∙◌}
use Rattle.zarrs_chunk.specs.ChunkShape.{product}
use Rattle.zarrs_chunk.specs.Runs.{joined_runs}
use Rattle.zarrs_chunk.specs.Tuples.{row_major}
use Rattle.zarrs_chunk.proofs.Apart.{AreApart-nil, AreApart-one}
use Rattle.zarrs_chunk.proofs.BoxTuples.{box_tuples-nothing}
use Rattle.zarrs_chunk.proofs.Products.{product_positive}
use Rattle.zarrs_chunk.proofs.WholeAxes.{all_whole, one_filled}
use Rattle.zarrs_chunk.proofs.boxes.box_runs.Goals as goal

pub returns-then-contains-clause-places : goal.returns-then-contains-clause-places
returns-then-contains-clause-places c =
    let e = box_tuples-nothing c.args.starts.now c.args.lengths.now (omega arith) (sym c.contains.ensures.value ∙ c.if-contains.true) in
    rw c.new.ensures.items (sym (ap (map (row_major c.args.sizes.now)) e))

pub returns-then-axes-eq0-clause-places : goal.returns-then-axes-eq0-clause-places
returns-then-axes-eq0-clause-places c =
    let sizes = c.args.sizes.now in
    let runs : c.push.new.self.items ≡ (0, product sizes) ∷ []
    = c.in_ok-push.ensures.items ∙ ap (λ (xs : List (ℕ × ℕ)). xs ++ (0, c.known_product.result) ∷ []) c.new-runs.ensures.items ∙ ap (λ n. (0, n) ∷ []) c.known_product.ensures.value in
    ap joined_runs runs
    ∙ all_whole sizes c.args.starts.now c.args.lengths.now c.outer_axes-axes.result c.if-axes-eq0.true c.requires.starts c.requires.lengths c.outer_axes-axes.ensures.whole

pub returns-then-axes-eq0-clause-filled : goal.returns-then-axes-eq0-clause-filled
returns-then-axes-eq0-clause-filled c =
    let sizes = c.args.sizes.now in
    let runs : c.push.new.self.items ≡ (0, product sizes) ∷ []
    = c.in_ok-push.ensures.items ∙ ap (λ (xs : List (ℕ × ℕ)). xs ++ (0, c.known_product.result) ∷ []) c.new-runs.ensures.items ∙ ap (λ n. (0, n) ∷ []) c.known_product.ensures.value in
    rw runs (one_filled (product sizes) (product_positive sizes c.requires.positive))

pub returns-then-contains-clause-apart : goal.returns-then-contains-clause-apart
returns-then-contains-clause-apart c = rw c.new.ensures.items AreApart-nil

pub returns-then-axes-eq0-clause-apart : goal.returns-then-axes-eq0-clause-apart
returns-then-axes-eq0-clause-apart c =
    let runs : c.push.new.self.items ≡ (0, product c.args.sizes.now) ∷ []
    = c.in_ok-push.ensures.items ∙ ap (λ (xs : List (ℕ × ℕ)). xs ++ (0, c.known_product.result) ∷ []) c.new-runs.ensures.items ∙ ap (λ n. (0, n) ∷ []) c.known_product.ensures.value in
    rw runs (AreApart-one (0, product c.args.sizes.now))
