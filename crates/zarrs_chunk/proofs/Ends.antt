-- Where the ranges of a box end.
use Rattle.std.proofs.Common.{◌≡◌, ℕ, zero, suc, ◌+◌, ◌^◌, ◌<◌, true, List, [], ◌∷◌, length, get_or, nat_lt, arith}
use Rattle.std.proofs.lemmas.Bool.{and_parts}
use Rattle.std.proofs.lemmas.Bool.Decides.{nat_tests}
use Rattle.zarrs_chunk.specs.ArraySubset.{ends_fit}
use Rattle.zarrs_chunk.specs.Region.{IsRegion}

from_test : (start len limit : ℕ) → nat_lt (start + len) limit ≡ true → start + len < limit
from_test start len limit h = grind (arith, nat_tests)

ends_fit-at : (starts lengths : List ℕ) (axis : ℕ) → ends_fit starts lengths ≡ true → length starts ≡ length lengths → axis < length starts → get_or starts axis 0 + get_or lengths axis 0 < 2 ^ 64
ends_fit-at [] lengths axis h e l = absurd (omega arith)
ends_fit-at (start ∷ starts) [] axis h e l = absurd (omega arith)
ends_fit-at (start ∷ starts) (len ∷ lengths) zero h e l = from_test start len (2 ^ 64) (and_parts _ _ h).0
ends_fit-at (start ∷ starts) (len ∷ lengths) (suc axis) h e l = ends_fit-at starts lengths axis (and_parts _ _ h).1 (omega arith) (omega arith)

-- a box whose ends were tested
pub IsRegion-tested : (starts lengths : List ℕ) → length starts ≡ length lengths → ends_fit starts lengths ≡ true → IsRegion starts lengths
IsRegion-tested starts lengths e h = record { axes = e; ends = λ axis l. ends_fit-at starts lengths axis h e l }
