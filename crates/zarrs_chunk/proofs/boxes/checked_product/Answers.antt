use Rattle.std.proofs.Common.{◌≡◌, ◌+◌, ◌*◌, arith, drop, sym, refl, ap, ◌∙◌}
use Rattle.std.proofs.lemmas.List.{drop_all}
use Rattle.zarrs_chunk.specs.ChunkShape.{product}
use Rattle.zarrs_chunk.proofs.Products.{All-positive, product_zero, product_more, product_more-le}
use Rattle.zarrs_chunk.proofs.boxes.checked_product.Goals as goal

pub returns-then-contains : goal.returns-then-contains
returns-then-contains c =
    let e = product_zero c.args.sizes.now (sym c.contains.ensures.value ∙ c.if-contains.true) in
    record { value = (omega (arith, e), sym e) }

pub returns-in_err-count : goal.returns-in_err-count
returns-in_err-count c =
    let positive = All-positive c.args.sizes.now (sym c.contains.ensures.value ∙ c.if-contains.false) in
    let e = product_more-le c.args.sizes.now c.loop-size.size-index c.loop-size.count _ (omega arith) refl positive c.loop-size.invariant.is in
    let h = c.in_err-count.ensures in
    rw c.from_residual.ensures (record { value = λ fits. absurd (h (omega (arith, e, fits))) })

pub loop-size-preserved : goal.loop-size-preserved
loop-size-preserved c =
    let e = product_more c.args.sizes.now c.loop-size.size-index c.loop-size.count _ (omega arith) refl in
    record {
      is = ap (λ n. n * product (drop (c.loop-size.size-index + 1) c.args.sizes.now)) c.in_ok-count.ensures.1 ∙ e ∙ c.loop-size.invariant.is;
      fits = omega (arith, c.in_ok-count.ensures);
    }

pub returns : goal.returns
returns c =
    let e = ap product (drop_all c.loop-size.size-index c.args.sizes.now (omega arith)) in
    let is : c.loop-size.count * product (drop c.loop-size.size-index c.args.sizes.now) ≡ product c.args.sizes.now = c.loop-size.invariant.is in
    let same : c.loop-size.count ≡ product c.args.sizes.now = omega (arith, ap (λ n. c.loop-size.count * n) e, is) in
    record { value = (omega (arith, same), same) }
