-- Reads of runs and of places, as the bytes of the elements joined.
use Rattle.std.proofs.Common.{◌≡◌, ℕ, ◌+◌, ◌-◌, ◌<◌, ◌≤◌, Bool, true, ◌&&◌, nat_lt, nat_le, List, [], ◌∷◌, take, drop, Option, Result, arith, refl, ap, ◌∙◌}
use Rattle.std.specs.List.{All, list_all}
use Rattle.std.proofs.lemmas.Bool.Decides.{nat_tests}
use Rattle.std.proofs.lemmas.List.Elements.{All-head, All-tail}
use Rattle.zarrs_chunk.specs.declared.codec_error.CodecError.{CodecError}
use Rattle.zarrs_codec.specs.ByteRanges.{bytes_in_ranges}
use Rattle.zarrs_codec.specs.ByteSpan.{ByteSpan}
use Rattle.zarrs_packbits.specs.declared.layout.PackedLayout.{PackedLayout}
use Rattle.zarrs_packbits.specs.PartialRead.{read_packed_bytes}

-- and the fill element at each place where nothing is stored
abbrev pub local_read : PackedLayout → Option (List ℕ) → List ℕ → List ℕ → Result (List ℕ) CodecError
local_read l value fill ps = read_packed_bytes l value fill ps

-- no run is empty, and each ends within so many places
abbrev pub are_runs : ℕ → List (ℕ × ℕ) → Bool
are_runs count runs = list_all (λ r. nat_lt 0 r.1 && nat_le (r.0 + r.1) count) runs

both_tests : (a b c : ℕ) → 0 < a → b ≤ c → (nat_lt 0 a && nat_le b c) ≡ true
both_tests a b c h k = grind (arith, nat_tests)

pub are_runs-from : (count : ℕ) (runs : List (ℕ × ℕ)) → All (λ (r : ℕ × ℕ). 0 < r.1) runs → All (λ (r : ℕ × ℕ). r.0 + r.1 ≤ count) runs → are_runs count runs ≡ true
are_runs-from count [] h k = refl
are_runs-from count (r ∷ runs) h k =
    ap (λ (b : Bool). b && are_runs count runs) (both_tests r.1 (r.0 + r.1) count (All-head (λ (r : ℕ × ℕ). 0 < r.1) r runs h) (All-head (λ (r : ℕ × ℕ). r.0 + r.1 ≤ count) r runs k))
    ∙ are_runs-from count runs (All-tail (λ (r : ℕ × ℕ). 0 < r.1) r runs h) (All-tail (λ (r : ℕ × ℕ). r.0 + r.1 ≤ count) r runs k)

-- the bytes of one range
abbrev pub range_bytes : List ℕ → ByteSpan → List ℕ
range_bytes v r = take (r.end - r.start) (drop r.start v)

-- the bytes of the ranges, joined in order
abbrev pub ranges_bytes : List ℕ → List ByteSpan → List ℕ
ranges_bytes v rs = bytes_in_ranges v rs

-- each range ends within n bytes
abbrev pub end_within : ℕ → List ByteSpan → Bool
end_within n rs = list_all (λ r. nat_le r.end n) rs
