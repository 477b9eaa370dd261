-- Zeros and ones are kept by every codec.
use Rattle.std.proofs.Common.{◌≡◌, ℕ, ◌+◌, ◌-◌, nat_lt, nat_le, ◌&&◌, Bool, true, false, List, [], ◌∷◌, map, if◌then◌else◌, arith, refl, ap, ◌∙◌}
use Rattle.std.specs.List.{flat_map, range_with_len}
use Rattle.zarrs_data_type.specs.Element.{plain, absent, present, Chunk}
use Rattle.zarrs_packbits.specs.KeptBits.{component_bits, kept_component}
use Rattle.zarrs_packbits.specs.Packing.{packing}
use Rattle.zarrs_codec.proofs.Fences.{second_true, first_true}
use Rattle.zarrs_chunk.proofs.Inside.{from_lt_test, from_le_test}
use Rattle.zarrs_chain_meaning.specs.optional.Optional.{flag_of, flag_type}
use Rattle.zarrs_chain_meaning.specs.Meaning.{Keeping}

-- zero and one are kept
pub record KeepsFlags (keep : Keeping) : Type 0 where
  pub zero_kept : keep flag_type (plain (0 ∷ [])) ≡ plain (0 ∷ [])
  pub one_kept : keep flag_type (plain (1 ∷ [])) ≡ plain (1 ∷ [])

-- a byte of one component of one bit, as so many bits from the first on are kept
abbrev kept_flag : ℕ → ℕ → ℕ → List ℕ
kept_flag first last byte = packing (flat_map (λ part. kept_component first (last + 1 - first) false (component_bits 1 (byte ∷ []) part)) (range_with_len 0 1))

only_bit : (first last byte : ℕ) → (nat_le first last && nat_lt last 1) ≡ true → kept_flag 0 0 byte ≡ byte ∷ [] → kept_flag first last byte ≡ byte ∷ []
only_bit first last byte h e =
    let le = from_le_test first last (first_true (nat_le first last) (nat_lt last 1) h) in
    let lt = from_lt_test last 1 (second_true (nat_le first last) (nat_lt last 1) h) in
    let last_zero : last ≡ 0 = omega arith in
    let first_zero : first ≡ 0 = omega arith in
    (λ i. kept_flag (first_zero i) (last_zero i) byte) ∙ e

pub flag_by : (test : Bool) (first last byte : ℕ) → (nat_le first last && nat_lt last 1) ≡ test → kept_flag 0 0 byte ≡ byte ∷ [] → (if test then plain (kept_flag first last byte) else plain (byte ∷ [])) ≡ plain (byte ∷ [])
flag_by true first last byte h e = ap plain (only_bit first last byte h e)
flag_by false first last byte h e = refl

-- the flags of a chunk are kept
pub flags_stay : (keep : Keeping) → KeepsFlags keep → (chunk : Chunk) → map (keep flag_type) (map flag_of chunk) ≡ map flag_of chunk
flags_stay keep k [] = refl
flags_stay keep k (plain items ∷ chunk) = λ i. k.zero_kept i ∷ flags_stay keep k chunk i
flags_stay keep k (absent ∷ chunk) = λ i. k.zero_kept i ∷ flags_stay keep k chunk i
flags_stay keep k (present element ∷ chunk) = λ i. k.one_kept i ∷ flags_stay keep k chunk i
