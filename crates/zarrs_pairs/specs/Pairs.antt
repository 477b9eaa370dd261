-- Pairs of decoded bytes and of what they are encoded as.
use Rattle.std.specs.Prelude.{◌≡◌, ℕ, nat_eq, if◌then◌else◌, List, [], ◌∷◌, map, Option, Some, None, Contains, ◌↔◌}
use Rattle.std.specs.Cmp.Lexicographic.{pointwise}
use Rattle.zarrs_pairs.specs.declared.pair.Pair.{Pair}

-- pairs as contracts see them: the two sides of each, the decoded bytes first
abbrev pub Pairs : Type 0
Pairs = List (List ℕ × List ℕ)

-- the two sides of a pair
abbrev pub sides : Pair → List ℕ × List ℕ
sides pair = (pair.decoded.now, pair.encoded.now)

-- the second side first
abbrev pub turned : List ℕ × List ℕ → List ℕ × List ℕ
turned row = (row.1, row.0)

-- what stands beside these bytes, in the first row that begins with them
abbrev pub beside : Pairs → List ℕ → Option (List ℕ)
beside [] bytes = None
beside (row ∷ rows) bytes = if pointwise nat_eq row.0 bytes then Some row.1 else beside rows bytes

-- what pairs encode bytes as
abbrev pub encoded_with : Pairs → List ℕ → Option (List ℕ)
encoded_with pairs decoded = beside pairs decoded

-- what pairs decode encoded bytes to
abbrev pub decoded_with : Pairs → List ℕ → Option (List ℕ)
decoded_with pairs encoded = beside (map turned pairs) encoded

-- a pair of these decoded and these encoded bytes is there
abbrev pub IsPair : Pairs → List ℕ → List ℕ → Type 0
IsPair pairs decoded encoded = Contains pairs (decoded, encoded)

-- no pair has these decoded bytes
abbrev pub LacksDecoded : Pairs → List ℕ → Type 0
LacksDecoded pairs decoded = (encoded : List ℕ) → IsPair pairs decoded encoded → ⊥

-- no pair has these encoded bytes
abbrev pub LacksEncoded : Pairs → List ℕ → Type 0
LacksEncoded pairs encoded = (decoded : List ℕ) → IsPair pairs decoded encoded → ⊥

-- two lists have the same pairs, in whatever order and however often
abbrev pub HaveSamePairs : Pairs → Pairs → Type 0
HaveSamePairs first second = (decoded encoded : List ℕ) → IsPair first decoded encoded ↔ IsPair second decoded encoded

-- One to one: no bytes have two encodings, and no encoded bytes are those of two. The same pair may be there twice.
pub record AreOneToOne (pairs : Pairs) : Type 0 where
  pub one_encoded : (decoded first second : List ℕ) → IsPair pairs decoded first → IsPair pairs decoded second → first ≡ second
  pub one_decoded : (first second encoded : List ℕ) → IsPair pairs first encoded → IsPair pairs second encoded → first ≡ second
