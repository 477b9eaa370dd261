use Rattle.std.proofs.Common.{rules, ◌≡◌, ℕ, List, [], ◌∷◌, ◌+◌, ◌*◌, ◌++◌, Ok, length, map, sym, ap, ap₂, ◌∙◌, arith}
use Rattle.std.specs.List.{range_with_len}
use Rattle.zarrs_array_bytes.specs.Filled.{copies}
use Rattle.zarrs_array_bytes.proofs.FillLemmas.{length-copies, ends-replicate}
use Rattle.zarrs_array_bytes.proofs.repeat.repeat_cuts.Goals as goal

pub append_ends-requires : goal.append_ends-requires
append_ends-requires c =
    let is : copies c.args.bytes.now c.args.count ≡ c.in_ok-out.out.items = cc (c.in_ok-out.ensures.exact.is) in
    record { fits = omega (arith, length-copies c.args.bytes.now c.args.count, ap length is, c.in_ok-out.ensures.small) }

pub returns-clause-exact : goal.returns-clause-exact
returns-clause-exact c =
    let bytes = c.args.bytes.now in
    let count = c.args.count in
    let is : copies bytes count ≡ c.in_ok-out.out.items = cc (c.in_ok-out.ensures.exact.is) in
    let one : c.push.new.self.items ≡ 0 ∷ [] = c.in_ok-push.ensures.items ∙ ap (λ (xs : List ℕ). xs ++ 0 ∷ []) c.in_ok-ends.ensures.items in
    let all : c.append_ends.new.ends.items ≡ 0 ∷ map (λ place. place * length bytes + length bytes) (range_with_len 0 count)
    = c.in_ok-append_ends.ensures.appended ∙ ap (λ (xs : List ℕ). xs ++ map (λ place. place * length bytes + length bytes) (range_with_len 0 count)) one in
    let begins : 0 ≡ 0 * length bytes = omega arith in
    record { is = ap₂ (λ (xs ns : List ℕ). Ok (xs, ns)) is (ap (λ (ns : List ℕ). 0 ∷ ns) (ends-replicate bytes 0 0 count begins) ∙ sym all); no_fault = search rules }
