use Rattle.std.proofs.Common.{◌≡◌, ℕ, ◌+◌, ◌≤◌, List, ◌++◌, length, take, drop, get_or, refl, sym, ap, subst, ◌∙◌, arith}
use Rattle.zarrs_crc32c.specs.Quotient.{AreSums}
use Rattle.zarrs_crc32c.proofs.Quotients.{divided_sixteen}
use Rattle.zarrs_crc32c.proofs.Sixteen.{before_written, where_written}
use Rattle.zarrs_crc32c.proofs.quotient.divide_sixteen.Goals as goal

pub returns : goal.returns
returns c =
    let old : List ℕ = c.args.quotient.now in
    let new : List ℕ = c.put_sixteen.new.items in
    let sums : List ℕ = c.sums_at-sums.result in
    let at : ℕ = c.args.at in
    let are : AreSums old c.args.bytes.now at sums = c.sums_at-sums.ensures.value in
    let inside : at + 418 + length sums ≤ length old = omega (arith, are.0, c.told-quotient, c.requires.inside) in
    let is : new ≡ take (at + 418) old ++ (sums ++ drop (length sums) (drop (at + 418) old)) = c.put_sixteen.ensures.written in
    record {
      same =
          divided_sixteen old new sums c.args.bytes.now at (at + 16) (λ i. c.fits-quotient i) (λ i. (c.type_inv.bytes i).fits)
          (λ i l. ap (λ (xs : List ℕ). get_or xs i 0) is ∙ before_written old sums (at + 418) inside i l)
          (λ place l. ap (λ (xs : List ℕ). get_or xs (at + 418 + place) 0) is ∙ where_written old sums (at + 418) inside (at + 418 + place) place refl (omega (arith, l, are.0)))
          are refl c.requires.len;
    }
