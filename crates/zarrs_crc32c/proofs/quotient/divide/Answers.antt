use Rattle.std.proofs.Common.{◌≡◌, ℕ, ◌+◌, ◌*◌, List, length, drop, get_or, ap, subst, ◌∙◌, arith, rules}
use Rattle.zarrs_crc32c.specs.Quotient.{after_division}
use Rattle.zarrs_crc32c.proofs.Quotients.{divided_same}
use Rattle.zarrs_crc32c.proofs.Sixteen.{moved_front}
use Rattle.zarrs_crc32c.proofs.quotient.divide.Goals as goal

pub loop-index-preserved : goal.loop-index-preserved
loop-index-preserved c =
    subst (λ (n : ℕ). after_division c.divide_sixteen.new.quotient n (drop n c.args.bytes.now) ≡ after_division c.loop-index.quotient (c.loop-index.index * 16) (drop (c.loop-index.index * 16) c.args.bytes.now))
    (let e : c.loop-index.index * 16 + 16 ≡ (c.loop-index.index + 1) * 16 = omega arith in e) c.divide_sixteen.ensures.same
    ∙ c.loop-index.invariant

pub returns : goal.returns
returns c =
    let old : List ℕ = c.loop-index.quotient in
    let count : ℕ = c.args.sixteens * 16 in
    let end : c.loop-index.index ≡ c.args.sixteens = omega (arith, c.loop-index-test.false, c.loop-index.auto.index-end) in
    let long : length old ≡ 1442 = search rules in
    record {
      same =
          divided_same c.copy_within.new.self old 0 count (drop count c.args.bytes.now)
          (λ i l. ap (λ (xs : List ℕ). get_or xs (0 + i) 0) c.copy_within.ensures.after ∙ moved_front old count (count + 418) (0 + i) (count + i) (omega arith) (omega (arith, l)) (omega (arith, c.requires.few, long)))
          ∙ subst (λ (n : ℕ). after_division old (n * 16) (drop (n * 16) c.args.bytes.now) ≡ after_division c.args.quotient.now 0 c.args.bytes.now) end c.loop-index.invariant;
    }
