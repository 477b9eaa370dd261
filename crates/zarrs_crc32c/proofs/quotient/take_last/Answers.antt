use Rattle.std.proofs.Common.{◌≡◌, ℕ, ◌+◌, ◌-◌, ◌*◌, List, ◌++◌, length, take, drop, sym, ap, subst, ◌∙◌, arith}
use Rattle.std.proofs.lemmas.List.{length-take-le, get_or-take, length-drop, take_all}
use Rattle.zarrs_crc32c.specs.Checksum.{after_bytes}
use Rattle.zarrs_crc32c.specs.Quotient.{AreSums, after_sums, owed, after_division}
use Rattle.zarrs_crc32c.proofs.Sixteen.{zeros, front_read, behind_read}
use Rattle.zarrs_crc32c.proofs.Sums.{sums_same}
use Rattle.zarrs_crc32c.proofs.Quotients.{divided_same, taken_sixteen, all_taken}
use Rattle.zarrs_crc32c.proofs.quotient.take_last.Goals as goal

pub loop-index-init : goal.loop-index-init
loop-index-init c =
    let quotient : List ℕ = c.args.quotient.now in
    let last : List ℕ = c.put_at.new.items in
    let front : List ℕ = take 418 quotient in
    let long : length front ≡ 418 = length-take-le 418 quotient (omega (arith, c.told-quotient)) in
    let is : last ≡ front ++ drop (length front) (zeros 720) = c.put_at.ensures.written in
    sums_same 0 (λ (place : ℕ). owed last 0 (0 * 16 + place)) (owed last 0) c.args.bytes.now (λ place. ap (owed last 0) (let e : 0 * 16 + place ≡ place = omega arith in e))
    ∙ divided_same last quotient 0 0 c.args.bytes.now
    (λ i l. front_read last front 720 (omega (arith, long)) is (0 + i) (omega (arith, l, long)) ∙ get_or-take 418 quotient (0 + i) 0 (omega (arith, l)))

pub loop-index-preserved : goal.loop-index-preserved
loop-index-preserved c =
    let quotient : List ℕ = c.args.quotient.now in
    let last : List ℕ = c.put_at.new.items in
    let front : List ℕ = take 418 quotient in
    let long : length front ≡ 418 = length-take-le 418 quotient (omega (arith, c.told-quotient)) in
    let is : last ≡ front ++ drop (length front) (zeros 720) = c.put_at.ensures.written in
    let sums : List ℕ = c.as_array.result.now in
    let at : ℕ = c.loop-index.index * 16 in
    let next : ℕ = (c.loop-index.index + 1) * 16 in
    let are : AreSums last c.args.bytes.now at sums = subst (AreSums last c.args.bytes.now at) (sym c.as_array.ensures) c.sums_at-sums.ensures.value in
    ap (λ (register : ℕ). after_sums register (λ (place : ℕ). owed last 0 (next + place)) (drop next c.args.bytes.now)) c.take_bytes-register.ensures.value
    ∙ taken_sixteen last c.args.bytes.now sums c.loop-index.register at next
    (λ i l. behind_read last front 720 (omega (arith, long)) is i (omega (arith, l, long)))
    are (omega arith) (omega (arith, c.requires.len, c.loop-index-test.true))
    ∙ c.loop-index.invariant

pub returns : goal.returns
returns c =
    let last : List ℕ = c.put_at.new.items in
    let bytes : List ℕ = c.args.bytes.now in
    let end : c.loop-index.index ≡ 27 = omega (arith, c.loop-index-test.false, c.loop-index.auto.index-end) in
    record {
      value =
          c.take_bytes.ensures.value
          ∙ ap (after_bytes c.loop-index.register) (take_all (length bytes - 432) (drop 432 bytes) (omega (arith, length-drop 432 bytes)))
          ∙ sym (all_taken last (drop 432 bytes) c.loop-index.register 432 (omega arith))
          ∙ subst (λ (n : ℕ). after_sums c.loop-index.register (λ (place : ℕ). owed last 0 (n * 16 + place)) (drop (n * 16) bytes) ≡ after_division c.args.quotient.now 0 bytes) end c.loop-index.invariant;
    }
