-- The parts of a list of codecs.
use Rattle.std.proofs.Common.{◌≡◌, ℕ, ◌-◌, ◌<◌, ◌≤◌, List, [], ◌∷◌, length, take, drop, get_or, map, arith, refl, ap, sym, ◌∙◌}
use Rattle.std.proofs.lemmas.List.{take_all}
use Rattle.zarrs_array_to_array.specs.Mapping.{mapping_of}
use Rattle.zarrs_array_to_array.specs.declared.array_to_array_codec.ArrayToArrayCodec.{ArrayToArrayCodec}

-- all items but the first
abbrev pub rest_of : {X : Type 0} → List X → List X
rest_of xs = take (length xs - 1) (drop 1 xs)

pub take_whole : {X : Type 0} (xs : List X) (n : ℕ) → n ≡ length xs → take n xs ≡ xs
take_whole {X} xs n e = ap (λ (k : ℕ). take k xs) e ∙ take_all (length xs) xs (omega arith)

pub first_is : {X : Type 0} (xs : List X) (first : X) → 1 ≤ length xs → first ≡ get_or xs 0 first → xs ≡ first ∷ rest_of xs
first_is [] first l e = absurd (omega arith)
first_is (x ∷ xs) first l e = ap (λ y. y ∷ xs) (sym e) ∙ ap (λ ys. first ∷ ys) (sym (take_whole xs (length (x ∷ xs) - 1) (omega arith)))

pub mappings_are : (codecs : List ArrayToArrayCodec) (first : ArrayToArrayCodec) → 1 ≤ length codecs → first ≡ get_or codecs 0 first → map mapping_of codecs ≡ mapping_of first ∷ map mapping_of (rest_of codecs)
mappings_are codecs first l e = ap (map mapping_of) (first_is codecs first l e)

pub no_mappings : (codecs : List ArrayToArrayCodec) → length codecs < 1 → map mapping_of codecs ≡ []
no_mappings [] l = refl
no_mappings (codec ∷ codecs) l = absurd (omega (arith, l))
