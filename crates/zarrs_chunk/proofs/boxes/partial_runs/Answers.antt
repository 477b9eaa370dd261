use Rattle.std.proofs.Common.{◌≡◌, ◌∷◌, [], ℕ, List, Vec, Global, ◌-◌, ◌*◌, map, drop, get_or, arith, ap, ◌∙◌}
use Rattle.std.proofs.lemmas.List.{take_rest}
use Rattle.std.proofs.lemmas.Result.{IfOk-weaker}
use Rattle.zarrs_chunk.specs.ChunkShape.{product}
use Rattle.zarrs_chunk.specs.Levels.{rows_behind}
use Rattle.zarrs_chunk.specs.Rows.{row_at, AreBoxRuns}
use Rattle.zarrs_chunk.proofs.RowLaws.{step_fits, step_positive, start_fits, len_fits, made_runs, next_are, next_fit, rows_room, zero_are, zero_fit}
use Rattle.zarrs_chunk.proofs.WholeAxes.{product_drop-le}
use Rattle.zarrs_chunk.proofs.boxes.partial_runs.Goals as goal

pub known_product-whole-requires : goal.known_product-whole-requires
known_product-whole-requires c =
    let sizes = c.args.sizes.now in
    record { fits = rw (take_rest sizes c.args.axes) (omega (arith, product_drop-le sizes c.args.axes c.requires.positive, c.requires.fits)) }

pub overflow_mul-row : goal.overflow_mul-row
overflow_mul-row c =
    let whole : c.known_product-whole.result ≡ product (drop c.args.axes c.args.sizes.now) = c.known_product-whole.ensures.value ∙ ap product (take_rest c.args.sizes.now c.args.axes) in
    rw whole (omega (arith, step_fits c.args.sizes.now c.args.starts.now c.args.lengths.now c.requires.inside c.requires.positive c.requires.filled c.args.axes c.requires.some c.requires.axes c.requires.whole c.requires.partial, c.requires.fits))

pub overflow_mul-row-2 : goal.overflow_mul-row-2
overflow_mul-row-2 c =
    let whole : c.known_product-whole.result ≡ product (drop c.args.axes c.args.sizes.now) = c.known_product-whole.ensures.value ∙ ap product (take_rest c.args.sizes.now c.args.axes) in
    rw whole (omega (arith, step_fits c.args.sizes.now c.args.starts.now c.args.lengths.now c.requires.inside c.requires.positive c.requires.filled c.args.axes c.requires.some c.requires.axes c.requires.whole c.requires.partial, start_fits c.args.sizes.now c.args.starts.now c.args.lengths.now c.requires.inside c.requires.positive c.requires.filled c.args.axes c.requires.some c.requires.axes c.requires.whole c.requires.partial, c.requires.fits))

pub overflow_mul-row-3 : goal.overflow_mul-row-3
overflow_mul-row-3 c =
    let whole : c.known_product-whole.result ≡ product (drop c.args.axes c.args.sizes.now) = c.known_product-whole.ensures.value ∙ ap product (take_rest c.args.sizes.now c.args.axes) in
    rw whole (omega (arith, step_fits c.args.sizes.now c.args.starts.now c.args.lengths.now c.requires.inside c.requires.positive c.requires.filled c.args.axes c.requires.some c.requires.axes c.requires.whole c.requires.partial, len_fits c.args.sizes.now c.args.starts.now c.args.lengths.now c.requires.inside c.requires.positive c.requires.filled c.args.axes c.requires.some c.requires.axes c.requires.whole c.requires.partial, c.requires.fits))

pub row_runs-requires-clause-start : goal.row_runs-requires-clause-start
row_runs-requires-clause-start c =
    let whole : c.known_product-whole.result ≡ product (drop c.args.axes c.args.sizes.now) = c.known_product-whole.ensures.value ∙ ap product (take_rest c.args.sizes.now c.args.axes) in
    rw whole (start_fits c.args.sizes.now c.args.starts.now c.args.lengths.now c.requires.inside c.requires.positive c.requires.filled c.args.axes c.requires.some c.requires.axes c.requires.whole c.requires.partial)

pub row_runs-requires-clause-step : goal.row_runs-requires-clause-step
row_runs-requires-clause-step c =
    let whole : c.known_product-whole.result ≡ product (drop c.args.axes c.args.sizes.now) = c.known_product-whole.ensures.value ∙ ap product (take_rest c.args.sizes.now c.args.axes) in
    rw whole (step_positive c.args.sizes.now c.args.starts.now c.args.lengths.now c.requires.inside c.requires.positive c.requires.filled c.args.axes c.requires.some c.requires.axes c.requires.whole c.requires.partial)

pub returns-then-last-eq0 : goal.returns-then-last-eq0
returns-then-last-eq0 c =
    let whole : c.known_product-whole.result ≡ product (drop c.args.axes c.args.sizes.now) = c.known_product-whole.ensures.value ∙ ap product (take_rest c.args.sizes.now c.args.axes) in
    let sizes = c.args.sizes.now in
    let last = c.args.axes - 1 in
    record {
      runs = IfOk-weaker c.row_runs.result (λ (v : Vec (ℕ × ℕ) Global). v.items ≡ map (row_at (record { step = get_or c.args.sizes.now (c.args.axes - 1) 0 * c.known_product-whole.result; start = get_or c.args.starts.now (c.args.axes - 1) 0 * c.known_product-whole.result; len = get_or c.args.lengths.now (c.args.axes - 1) 0 * c.known_product-whole.result })) (0 ∷ [])) (λ (v : Vec (ℕ × ℕ) Global). AreBoxRuns sizes c.args.starts.now c.args.lengths.now v.items)
          (λ v h. made_runs c.args.sizes.now c.args.starts.now c.args.lengths.now c.requires.inside c.requires.positive c.requires.filled c.args.axes c.requires.some c.requires.axes c.requires.whole c.requires.partial c.known_product-whole.result (0 ∷ []) v.items whole (zero_are sizes c.args.starts.now c.args.lengths.now last c.if-last-eq0.true) (zero_fit sizes last c.if-last-eq0.true) h) c.row_runs.ensures.rows;
    }

pub row_runs-requires-then-before-eq0-clause-room : goal.row_runs-requires-then-before-eq0-clause-room
row_runs-requires-then-before-eq0-clause-room c =
    let whole : c.known_product-whole.result ≡ product (drop c.args.axes c.args.sizes.now) = c.known_product-whole.ensures.value ∙ ap product (take_rest c.args.sizes.now c.args.axes) in
    λ k l. rows_room c.args.sizes.now c.args.starts.now c.args.lengths.now c.requires.inside c.requires.positive c.requires.filled c.args.axes c.requires.some c.requires.axes c.requires.whole c.requires.partial c.known_product-whole.result (c.args.axes - 1 - 1) k (0 ∷ []) whole (omega arith) (zero_fit c.args.sizes.now (c.args.axes - 1 - 1) c.if-before-eq0.true) c.requires.fits l

pub row_runs-requires-then-before-eq0-clause-start : goal.row_runs-requires-then-before-eq0-clause-start
row_runs-requires-then-before-eq0-clause-start c =
    let whole : c.known_product-whole.result ≡ product (drop c.args.axes c.args.sizes.now) = c.known_product-whole.ensures.value ∙ ap product (take_rest c.args.sizes.now c.args.axes) in
    rw whole (start_fits c.args.sizes.now c.args.starts.now c.args.lengths.now c.requires.inside c.requires.positive c.requires.filled c.args.axes c.requires.some c.requires.axes c.requires.whole c.requires.partial)

pub row_runs-requires-then-before-eq0-clause-step : goal.row_runs-requires-then-before-eq0-clause-step
row_runs-requires-then-before-eq0-clause-step c =
    let whole : c.known_product-whole.result ≡ product (drop c.args.axes c.args.sizes.now) = c.known_product-whole.ensures.value ∙ ap product (take_rest c.args.sizes.now c.args.axes) in
    rw whole (step_positive c.args.sizes.now c.args.starts.now c.args.lengths.now c.requires.inside c.requires.positive c.requires.filled c.args.axes c.requires.some c.requires.axes c.requires.whole c.requires.partial)

pub returns-then-before-eq0 : goal.returns-then-before-eq0
returns-then-before-eq0 c =
    let whole : c.known_product-whole.result ≡ product (drop c.args.axes c.args.sizes.now) = c.known_product-whole.ensures.value ∙ ap product (take_rest c.args.sizes.now c.args.axes) in
    let sizes = c.args.sizes.now in
    let starts = c.args.starts.now in
    let lengths = c.args.lengths.now in
    let before = c.args.axes - 1 - 1 in
    let rows = rows_behind (get_or sizes before 0) (get_or starts before 0) (get_or lengths before 0) (0 ∷ []) in
    record {
      runs = IfOk-weaker c.row_runs-then-before-eq0.result (λ (v : Vec (ℕ × ℕ) Global). v.items ≡ map (row_at (record { step = get_or c.args.sizes.now (c.args.axes - 1) 0 * c.known_product-whole.result; start = get_or c.args.starts.now (c.args.axes - 1) 0 * c.known_product-whole.result; len = get_or c.args.lengths.now (c.args.axes - 1) 0 * c.known_product-whole.result })) rows) (λ (v : Vec (ℕ × ℕ) Global). AreBoxRuns sizes starts lengths v.items)
          (λ v h. made_runs c.args.sizes.now c.args.starts.now c.args.lengths.now c.requires.inside c.requires.positive c.requires.filled c.args.axes c.requires.some c.requires.axes c.requires.whole c.requires.partial c.known_product-whole.result rows v.items whole (next_are c.args.sizes.now c.args.starts.now c.args.lengths.now c.requires.inside c.requires.positive c.requires.filled c.args.axes c.requires.some c.requires.axes c.requires.whole c.requires.partial before (0 ∷ []) (omega arith) (zero_are c.args.sizes.now c.args.starts.now c.args.lengths.now (c.args.axes - 1 - 1) c.if-before-eq0.true)) (next_fit c.args.sizes.now c.args.starts.now c.args.lengths.now c.requires.inside c.requires.positive c.requires.filled c.args.axes c.requires.some c.requires.axes c.requires.whole c.requires.partial before (0 ∷ []) (omega arith) (zero_fit c.args.sizes.now (c.args.axes - 1 - 1) c.if-before-eq0.true)) h) c.row_runs-then-before-eq0.ensures.rows;
    }

pub row_runs-requires-2-clause-room : goal.row_runs-requires-2-clause-room
row_runs-requires-2-clause-room c =
    let whole : c.known_product-whole.result ≡ product (drop c.args.axes c.args.sizes.now) = c.known_product-whole.ensures.value ∙ ap product (take_rest c.args.sizes.now c.args.axes) in
    rw c.as_slice.ensures.value λ k l. rows_room c.args.sizes.now c.args.starts.now c.args.lengths.now c.requires.inside c.requires.positive c.requires.filled c.args.axes c.requires.some c.requires.axes c.requires.whole c.requires.partial c.known_product-whole.result (c.args.axes - 1 - 1) k c.in_ok-fronts.fronts.items whole (omega arith) c.in_ok-fronts.ensures.fits c.requires.fits l

pub row_runs-requires-2-clause-start : goal.row_runs-requires-2-clause-start
row_runs-requires-2-clause-start c =
    let whole : c.known_product-whole.result ≡ product (drop c.args.axes c.args.sizes.now) = c.known_product-whole.ensures.value ∙ ap product (take_rest c.args.sizes.now c.args.axes) in
    rw whole (start_fits c.args.sizes.now c.args.starts.now c.args.lengths.now c.requires.inside c.requires.positive c.requires.filled c.args.axes c.requires.some c.requires.axes c.requires.whole c.requires.partial)

pub row_runs-requires-2-clause-step : goal.row_runs-requires-2-clause-step
row_runs-requires-2-clause-step c =
    let whole : c.known_product-whole.result ≡ product (drop c.args.axes c.args.sizes.now) = c.known_product-whole.ensures.value ∙ ap product (take_rest c.args.sizes.now c.args.axes) in
    rw whole (step_positive c.args.sizes.now c.args.starts.now c.args.lengths.now c.requires.inside c.requires.positive c.requires.filled c.args.axes c.requires.some c.requires.axes c.requires.whole c.requires.partial)

pub returns : goal.returns
returns c =
    let whole : c.known_product-whole.result ≡ product (drop c.args.axes c.args.sizes.now) = c.known_product-whole.ensures.value ∙ ap product (take_rest c.args.sizes.now c.args.axes) in
    let sizes = c.args.sizes.now in
    let starts = c.args.starts.now in
    let lengths = c.args.lengths.now in
    let before = c.args.axes - 1 - 1 in
    let rows : List ℕ → List ℕ = rows_behind (get_or sizes before 0) (get_or starts before 0) (get_or lengths before 0) in
    let fronts = c.in_ok-fronts.fronts.items in
    record {
      runs = IfOk-weaker c.row_runs-2.result (λ (v : Vec (ℕ × ℕ) Global). v.items ≡ map (row_at (record { step = get_or c.args.sizes.now (c.args.axes - 1) 0 * c.known_product-whole.result; start = get_or c.args.starts.now (c.args.axes - 1) 0 * c.known_product-whole.result; len = get_or c.args.lengths.now (c.args.axes - 1) 0 * c.known_product-whole.result })) (rows c.as_slice.result.now)) (λ (v : Vec (ℕ × ℕ) Global). AreBoxRuns sizes starts lengths v.items)
          (λ v h. made_runs c.args.sizes.now c.args.starts.now c.args.lengths.now c.requires.inside c.requires.positive c.requires.filled c.args.axes c.requires.some c.requires.axes c.requires.whole c.requires.partial c.known_product-whole.result (rows fronts) v.items whole (next_are c.args.sizes.now c.args.starts.now c.args.lengths.now c.requires.inside c.requires.positive c.requires.filled c.args.axes c.requires.some c.requires.axes c.requires.whole c.requires.partial before c.in_ok-fronts.fronts.items (omega arith) c.in_ok-fronts.ensures.fronts) (next_fit c.args.sizes.now c.args.starts.now c.args.lengths.now c.requires.inside c.requires.positive c.requires.filled c.args.axes c.requires.some c.requires.axes c.requires.whole c.requires.partial before c.in_ok-fronts.fronts.items (omega arith) c.in_ok-fronts.ensures.fits) (h ∙ ap (λ ns. map (row_at (record { step = get_or c.args.sizes.now (c.args.axes - 1) 0 * c.known_product-whole.result; start = get_or c.args.starts.now (c.args.axes - 1) 0 * c.known_product-whole.result; len = get_or c.args.lengths.now (c.args.axes - 1) 0 * c.known_product-whole.result })) (rows ns)) c.as_slice.ensures.value)) c.row_runs-2.ensures.rows;
    }
