use Rattle.std.proofs.Common.{◌≡◌, ◌+◌, ◌*◌, ◌∙◌, get_or, arith, sym, true}
use Rattle.zarrs_chunk.specs.Tuples.{is_tuple_inside}
use Rattle.zarrs_chunk.proofs.Inside.{is_tuple_inside-length, number_behind-more}
use Rattle.zarrs_chunk.proofs.Numbers.{ravel_overflows, ravel_ends}
use Rattle.zarrs_chunk.proofs.indices.ravel_indices.Goals as goal

pub bounds-indices-axis : goal.bounds-indices-axis
bounds-indices-axis c =
    let inside : is_tuple_inside c.as_slice-sizes.result.now c.args.indices.now ≡ true = cc in
    omega (arith, is_tuple_inside-length c.as_slice-sizes.result.now c.args.indices.now inside)

pub returns-in_err-checked_mul : goal.returns-in_err-checked_mul
returns-in_err-checked_mul c =
    let sizes = c.as_slice-sizes.result.now in
    let inside : is_tuple_inside sizes c.args.indices.now ≡ true = cc in
    let h = c.in_err-checked_mul.ensures in
    let none = ravel_overflows sizes c.args.indices.now c.loop-axis.number c.loop-axis.axis inside (omega arith) c.loop-axis.invariant.number (omega (arith, h)) in
    rw (c.from_residual.ensures, ← c.as_slice-sizes.ensures.value) (record { answer = sym none })

pub returns-in_err-number : goal.returns-in_err-number
returns-in_err-number c =
    let sizes = c.as_slice-sizes.result.now in
    let inside : is_tuple_inside sizes c.args.indices.now ≡ true = cc in
    let h = c.in_err-number.ensures in
    let product = c.in_ok-checked_mul.ensures.1 in
    let none = ravel_overflows sizes c.args.indices.now c.loop-axis.number c.loop-axis.axis inside (omega arith) c.loop-axis.invariant.number (omega (arith, h, product)) in
    rw (c.from_residual-in_err-number.ensures, ← c.as_slice-sizes.ensures.value) (record { answer = sym none })

pub loop-axis-preserved : goal.loop-axis-preserved
loop-axis-preserved c =
    let sizes = c.as_slice-sizes.result.now in
    let inside : is_tuple_inside sizes c.args.indices.now ≡ true = cc in
    let l = is_tuple_inside-length sizes c.args.indices.now inside in
    let next : c.in_ok-number.number ≡ c.loop-axis.number * get_or sizes c.loop-axis.axis 0 + get_or c.args.indices.now c.loop-axis.axis 0 = omega (arith, c.in_ok-number.ensures, c.in_ok-checked_mul.ensures) in
    record {
      number = rw next (number_behind-more sizes c.args.indices.now c.loop-axis.number c.loop-axis.axis (omega arith) (omega (arith, l)) ∙ c.loop-axis.invariant.number);
      fits = omega (arith, c.in_ok-number.ensures);
    }

pub returns : goal.returns
returns c =
    let sizes = c.as_slice-sizes.result.now in
    let inside : is_tuple_inside sizes c.args.indices.now ≡ true = cc in
    rw (← c.as_slice-sizes.ensures.value) (record { answer = ravel_ends sizes c.args.indices.now c.loop-axis.number c.loop-axis.axis inside (omega arith) (omega arith) c.loop-axis.invariant.number })
