-- One axis: the chunks that a range touches, and the part of it in each.
use Rattle.std.proofs.Common.{ℕ, zero, suc, ◌+◌, ◌*◌, ◌/◌, ◌<◌, ◌≤◌, arith}
use Rattle.std.proofs.lemmas.Nat.{div-add-mod', mod_below, le-div}
use Rattle.std.proofs.Math.Nat.{mul-le-mul_right}
use Rattle.zarrs_grid.specs.Touched.{touched_count}

-- an index lies in its chunk
pub chunk_begins : (size index : ℕ) → index / size * size ≤ index
chunk_begins size index = let d = div-add-mod' index size in omega (arith, d)

pub chunk_ends : (size index : ℕ) → 0 < size → index < index / size * size + size
chunk_ends size index p =
    let d = div-add-mod' index size in
    let m = mod_below index size p in
    omega (arith, d, m)

-- the chunk of a later index isn't an earlier one
pub quotient_le : (size a b : ℕ) → 0 < size → a ≤ b → a / size ≤ b / size
quotient_le size a b p l = le-div (a / size) b size p (let c = chunk_begins size a in omega (arith, c, l))

-- the chunk of an index of the range is one of those that are touched
pub quotient_touched : (size start len index : ℕ) → 0 < size → start ≤ index → index < start + len
    → index / size < start / size + touched_count size start len
quotient_touched size start zero index p l h = absurd (omega (arith, l, h))
quotient_touched size start (suc more) index p l h =
    let low = quotient_le size start (start + more) p (omega arith) in
    let high = quotient_le size index (start + more) p (omega (arith, h)) in
    omega (arith, low, high)

-- a chunk that is touched begins before the range's end
pub begins_before : (size start len number : ℕ) → 0 < size → number < start / size + touched_count size start len → start / size ≤ number
    → number * size < start + len
begins_before size start zero number p h l = absurd (omega (arith, h, l))
begins_before size start (suc more) number p h l =
    let some = quotient_le size start (start + more) p (omega arith) in
    let last : number ≤ (start + more) / size = omega (arith, h, l) in
    let m = mul-le-mul_right size last in
    let c = chunk_begins size (start + more) in
    omega (arith, m, c)

-- and ends behind its start
pub ends_behind : (size start number : ℕ) → 0 < size → start / size ≤ number → start < number * size + size
ends_behind size start number p l =
    let m = mul-le-mul_right size l in
    let c = chunk_ends size start p in
    omega (arith, m, c)

-- a range that touches a chunk has an index
pub some_touched : (size start len number : ℕ) → number < start / size + touched_count size start len → start / size ≤ number → 0 < len
some_touched size start zero number h l = absurd (omega (arith, h, l))
some_touched size start (suc more) number h l = omega arith
