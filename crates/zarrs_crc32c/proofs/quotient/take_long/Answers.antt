use Rattle.std.proofs.Common.{◌≡◌, ℕ, List, [], ◌∷◌, ◌++◌, drop, get_or, ap, ◌∙◌, arith}
use Rattle.zarrs_crc32c.proofs.Sixteen.{zeros}
use Rattle.zarrs_crc32c.proofs.Quotients.{begun, ones_read}
use Rattle.zarrs_crc32c.proofs.quotient.take_long.Goals as goal

pub loop-rest-init : goal.loop-rest-init
loop-rest-init c =
    let quotient : List ℕ = c.put_at.new.items in
    let is : quotient ≡ (255 ∷ 255 ∷ 255 ∷ 255 ∷ []) ++ drop 4 (zeros 1442) = c.put_at.ensures.written in
    record { long = c.requires.len; same = begun quotient c.args.bytes.now (λ i l. ap (λ (xs : List ℕ). get_or xs i 0) is ∙ ones_read i) (omega (arith, c.requires.len)) }
