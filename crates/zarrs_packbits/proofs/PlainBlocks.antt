-- Components whose lowest bits are kept, without a sign, are their kept bits.
use Rattle.std.proofs.Common.{◌≡◌, ℕ, zero, suc, ◌+◌, ◌-◌, ◌*◌, ◌/◌, ◌%◌, ◌^◌, ◌<◌, List, [], ◌∷◌, ◌++◌, map, arith, refl, ap, ap₂, sym, ◌∙◌}
use Rattle.std.specs.Int.Bits.{xor_zero_r}
use Rattle.std.specs.List.{flat_map}
use Rattle.std.proofs.lemmas.List.{map-append}
use Rattle.zarrs_packbits.specs.BlockBits.{fields_of, lifted_byte}

plain_byte : (x : ℕ) → x < 256 → lifted_byte 0 0 x ≡ x
plain_byte x h =
    ap (λ n. (n + (2 ^ 8 - 0)) % 2 ^ 8 * 2 ^ 0 % 2 ^ 8) (xor_zero_r x)
    ∙ (let e : (x + (2 ^ 8 - 0)) % 2 ^ 8 * 2 ^ 0 % 2 ^ 8 ≡ x = omega arith in e)

plain_fields : (n b : ℕ) → map (lifted_byte 0 0) (fields_of 4 n b) ≡ fields_of 4 n b
plain_fields zero b = refl
plain_fields (suc n) b =
    ap₂ (λ x (xs : List ℕ). x ∷ xs) (plain_byte (b % 2 ^ 4) (let e : b % 2 ^ 4 < 256 = omega arith in e)) (plain_fields n (b / 2 ^ 4))

pub plain_halves : (bytes : List ℕ) → flat_map (fields_of 4 2) bytes ≡ map (lifted_byte 0 0) (flat_map (fields_of 4 2) bytes)
plain_halves [] = refl
plain_halves (b ∷ bytes) =
    sym (map-append (lifted_byte 0 0) (fields_of 4 2 b) (flat_map (fields_of 4 2) bytes)
    ∙ ap₂ (λ (xs ys : List ℕ). xs ++ ys) (plain_fields 2 b) (sym (plain_halves bytes)))
