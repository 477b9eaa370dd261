use Rattle.std.proofs.Common.{ℕ, ◌+◌, bit_xor, List, get_or, arith}
use Rattle.std.specs.Simd.Lanes.{zip2}
use Rattle.zarrs_crc32c.proofs.Sixteen.{sixteen_of, sixteen_added}
use Rattle.zarrs_crc32c.proofs.quotient.sums_at.Goals as goal

pub returns : goal.returns
returns c =
    let bytes : List ℕ = c.args.bytes.now in
    let quotient : List ℕ = c.args.quotient.now in
    let at : ℕ = c.args.at in
    let r0 : List ℕ = c.sixteen_at-2.result in
    let r1 : List ℕ = c.sixteen_at-3.result in
    let r2 : List ℕ = c.sixteen_at-4.result in
    let r3 : List ℕ = c.sixteen_at-5.result in
    let r4 : List ℕ = c.sixteen_at-6.result in
    let f0 : ℕ → ℕ = λ (place : ℕ). get_or quotient (at + place) 0 in
    let f1 : ℕ → ℕ = λ (place : ℕ). get_or quotient (at + 28 + place) 0 in
    let f2 : ℕ → ℕ = λ (place : ℕ). get_or quotient (at + 78 + place) 0 in
    let f3 : ℕ → ℕ = λ (place : ℕ). get_or quotient (at + 108 + place) 0 in
    let f4 : ℕ → ℕ = λ (place : ℕ). get_or quotient (at + 288 + place) 0 in
    let g1 : ℕ → ℕ = λ (place : ℕ). bit_xor (f0 place) (f1 place) in
    let g2 : ℕ → ℕ = λ (place : ℕ). bit_xor (g1 place) (f2 place) in
    let g3 : ℕ → ℕ = λ (place : ℕ). bit_xor (g2 place) (f3 place) in
    let g4 : ℕ → ℕ = λ (place : ℕ). bit_xor (g3 place) (f4 place) in
    let s1 : List ℕ = zip2 bit_xor r0 r1 in
    let s2 : List ℕ = zip2 bit_xor s1 r2 in
    let s3 : List ℕ = zip2 bit_xor s2 r3 in
    let of = λ (k : ℕ) (result : List ℕ). sixteen_of quotient result (at + k) in
    record {
      value =
          sixteen_added c.sixteen_at.result (zip2 bit_xor s3 r4) (λ (place : ℕ). get_or bytes (at + place) 0) g4
          (sixteen_of bytes c.sixteen_at.result at c.sixteen_at.ensures.value c.requires.len)
          (sixteen_added s3 r4 g3 f4
          (sixteen_added s2 r3 g2 f3
          (sixteen_added s1 r2 g1 f2
          (sixteen_added r0 r1 f0 f1 (sixteen_of quotient r0 at c.sixteen_at-2.ensures.value (omega (arith, c.requires.inside))) (of 28 r1 c.sixteen_at-3.ensures.value (omega (arith, c.requires.inside))))
          (of 78 r2 c.sixteen_at-4.ensures.value (omega (arith, c.requires.inside))))
          (of 108 r3 c.sixteen_at-5.ensures.value (omega (arith, c.requires.inside))))
          (of 288 r4 c.sixteen_at-6.ensures.value (omega (arith, c.requires.inside))));
    }
