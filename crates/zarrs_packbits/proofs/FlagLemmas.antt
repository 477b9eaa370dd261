-- One bit of each of some bytes.
use Rattle.std.proofs.Common.{◌≡◌, ℕ, ◌+◌, ◌*◌, ◌/◌, ◌%◌, ◌^◌, ◌<◌, List, [], ◌∷◌, ◌++◌, length, take, drop, get_or, arith, ap, sym, ◌∙◌}
use Rattle.std.specs.List.{flat_map, range_with_len}
use Rattle.std.proofs.lemmas.List.{drop-drop, drop_more}
use Rattle.zarrs_packbits.specs.Bits.{low_bits, bits_of, field}
use Rattle.zarrs_packbits.specs.KeptBits.{component_bits}
use Rattle.zarrs_packbits.specs.WrittenBits.{flags_of}
use Rattle.zarrs_packbits.proofs.FieldLemmas.{flat_more}
use Rattle.zarrs_packbits.proofs.LocalLemmas.{flat_range_same}
use Rattle.zarrs_array_bytes.proofs.Pieces.{take-drop-take}
use Rattle.zarrs_packbits.proofs.LowBits.{bit_at-bytes, length-bits_of, low_bits-cat}
use Rattle.zarrs_packbits.proofs.ElementBits.{flat_split}

-- the bit of the byte at an index
pub flag_at : (bytes : List ℕ) (index bit : ℕ) → index < length bytes → bit < 8 → field bit 1 (component_bits 1 bytes index) ≡ (get_or bytes index 0 / 2 ^ bit % 2) ∷ []
flag_at bytes index bit h l =
    let byte = get_or bytes index 0 in
    let one : component_bits 1 bytes index ≡ bits_of (byte ∷ []) = ap (λ n. bits_of (take 1 (drop n bytes))) (let e : index * 1 ≡ index = omega arith in e) ∙ ap (λ (b : List ℕ). bits_of (take 1 b)) (drop_more bytes index 0 h) in
    ap (field bit 1) one
    ∙ ap (take 1) (drop_more (bits_of (byte ∷ [])) bit 0 (omega (arith, length-bits_of (byte ∷ []))))
    ∙ ap (λ (x : ℕ). x ∷ []) (ap (λ n. get_or (bits_of (byte ∷ [])) n 0) (let e : bit ≡ 0 * 8 + bit = omega arith in e) ∙ bit_at-bytes (byte ∷ []) 0 bit (omega arith) l)

-- the bits of the first bytes, so many
abbrev pub flags_before : ℕ → List ℕ → ℕ → List ℕ
flags_before bit bytes count = flat_map (λ part. field bit 1 (component_bits 1 bytes part)) (range_with_len 0 count)

-- one more
pub flags_more : (bytes : List ℕ) (index bit word flag : ℕ) → index < length bytes → bit < 8 → word < 2 ^ index → low_bits index word ≡ flags_before bit bytes index → flag ≡ get_or bytes index 0 / 2 ^ bit % 2 → low_bits (index + 1) (flag * 2 ^ index + word) ≡ flags_before bit bytes (index + 1)
flags_more bytes index bit word flag h l below same e =
    let small : flag % 2 ≡ flag = omega arith in
    low_bits-cat index 1 word flag below
    ∙ ap (λ (bits : List ℕ). bits ++ (flag % 2 ∷ [])) same
    ∙ ap (λ (x : ℕ). flags_before bit bytes index ++ x ∷ []) (small ∙ e)
    ∙ ap (λ (bits : List ℕ). flags_before bit bytes index ++ bits) (sym (flag_at bytes index bit h l))
    ∙ sym (flat_more (λ part. field bit 1 (component_bits 1 bytes part)) index)

-- those of a slice behind those of the bytes before it
pub flags_split : (bytes slice : List ℕ) (bit done more : ℕ) → slice ≡ take more (drop done bytes) → length slice ≡ more → flags_before bit bytes (done + more) ≡ flags_before bit bytes done ++ flags_of bit slice
flags_split bytes slice bit done more is long =
    let f : ℕ → List ℕ = λ part. field bit 1 (component_bits 1 bytes part) in
    let g : ℕ → List ℕ = λ part. field bit 1 (component_bits 1 slice part) in
    flat_split f done more
    ∙ ap (λ (bits : List ℕ). flags_before bit bytes done ++ bits) (flat_range_same (λ j. f (done + j)) g more (λ j lt.
    ap (field bit 1) (ap bits_of (
    ap (λ n. take 1 (drop n bytes)) (let e : (done + j) * 1 ≡ done + j * 1 = omega arith in e)
    ∙ ap (take 1) (sym (drop-drop (j * 1) done bytes))
    ∙ sym (take-drop-take 1 (j * 1) more (drop done bytes) (omega arith))
    ∙ ap (λ (b : List ℕ). take 1 (drop (j * 1) b)) (sym is))))
    ∙ ap (λ n. flat_map g (range_with_len 0 n)) (sym long))
