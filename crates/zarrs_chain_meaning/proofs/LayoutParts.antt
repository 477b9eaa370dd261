-- The parts of a value of `vlen`, cut by the length that its head says.
use Rattle.std.proofs.Common.{◌≡◌, ℕ, ◌+◌, ◌-◌, ◌≤◌, Bool, true, false, nat_le, List, length, take, drop, Result, arith, refl, ap, ap₂, sym, ◌∙◌}
use Rattle.std.proofs.lemmas.Bool.Decides.{nat_tests}
use Rattle.std.proofs.lemmas.List.{drop-drop, take_rest}
use Rattle.zarrs_chunk.specs.Answer.{◌>>=◌, demand}
use Rattle.zarrs_chunk.specs.declared.codec_error.CodecError.{CodecError}
use Rattle.zarrs_chunk.specs.declared.codec_error.CodecError.TheVariants.{InvalidBytesLength, IndexLength}
use Rattle.zarrs_codec.specs.ByteSpan.{ByteSpan}
use Rattle.zarrs_bytes.proofs.Coding.{ok}
use Rattle.zarrs_chain_meaning.specs.Parts.{length_of}
use Rattle.zarrs_chain_meaning.specs.vlen.Vlen.{vlen_value_parts}
use Rattle.zarrs_chain_meaning.specs.vlen.VlenLayout.{VlenLayout, span_bytes, head_at, layout_at, layout_within}

abbrev Parts : Type 0
Parts = List ℕ × List ℕ

-- the index and the data of a value that has this layout
abbrev pub parts_at : List ℕ → VlenLayout → Parts
parts_at value layout = (span_bytes value layout.index, span_bytes value layout.content)

-- the index and the data of a value, cut from it
abbrev pub cut_parts : Bool → List ℕ → Result Parts CodecError
cut_parts false value =
    let size = length_of (take 8 value) in
    demand (nat_le 8 (length value)) (InvalidBytesLength (length value) 8) >>= λ _.
    demand (nat_le size (length value - 8)) IndexLength >>= λ _. ok (take size (drop 8 value), drop size (drop 8 value))
cut_parts true value =
    let size = length_of (drop (length value - 8) value) in
    demand (nat_le 8 (length value)) (InvalidBytesLength (length value) 8) >>= λ _.
    demand (nat_le size (length value - 8)) IndexLength >>= λ _. ok (take size (drop (length value - 8 - size) value), take (length value - 8 - size) value)

outer : (test : Bool) (cause : CodecError) (head : ByteSpan) (f : Result Parts CodecError) (g : ByteSpan → Result VlenLayout CodecError) (view : VlenLayout → Parts)
    → (test ≡ true → f ≡ (g head >>= λ l. ok (view l))) → (demand test cause >>= λ _. f) ≡ (((demand test cause >>= λ _. ok head) >>= g) >>= λ l. ok (view l))
outer true cause head f g view h = h refl
outer false cause head f g view h = refl

inner : (test : Bool) (cause : CodecError) (parts : Parts) (layout : VlenLayout) (view : VlenLayout → Parts)
    → (test ≡ true → parts ≡ view layout) → (demand test cause >>= λ _. ok parts) ≡ ((demand test cause >>= λ _. ok layout) >>= λ l. ok (view l))
inner true cause parts layout view h = ap ok (h refl)
inner false cause parts layout view h = refl

pair : (a b c d : List ℕ) → a ≡ c → b ≡ d → ◌≡◌ {A = Parts} (a, b) (c, d)
pair a b c d e f = ap₂ (λ (x y : List ℕ). (x, y)) e f

-- what is cut is what stands at the layout
pub parts_are : (at_end : Bool) (value : List ℕ) → cut_parts at_end value ≡ vlen_value_parts at_end value
parts_are false value =
    let n = length value in
    let size = length_of (take 8 value) in
    outer (nat_le 8 n) (InvalidBytesLength n 8) (head_at false n) (demand (nat_le size (n - 8)) IndexLength >>= λ _. ok (take size (drop 8 value), drop size (drop 8 value)))
    (λ head. layout_within false n (length_of (span_bytes value head))) (parts_at value)
    (λ _. inner (nat_le size (n - 8)) IndexLength (take size (drop 8 value), drop size (drop 8 value)) (layout_at false n size) (parts_at value)
    (λ _.
    let index : size ≡ 8 + size - 8 = omega arith in
    pair _ _ _ _ (ap (λ k. take k (drop 8 value)) index) (drop-drop size 8 value ∙ sym (take_rest value (8 + size)))))
parts_are true value =
    let n = length value in
    let at = n - 8 in
    let size = length_of (drop at value) in
    let head : span_bytes value (head_at true n) ≡ drop at value = take_rest value at in
    outer (nat_le 8 n) (InvalidBytesLength n 8) (head_at true n) (demand (nat_le size at) IndexLength >>= λ _. ok (take size (drop (at - size) value), take (at - size) value))
    (λ head. layout_within true n (length_of (span_bytes value head))) (parts_at value)
    (λ _. inner (nat_le size at) IndexLength (take size (drop (at - size) value), take (at - size) value) (layout_at true n size) (parts_at value)
    (λ t.
    let le : size ≤ at = grind (arith, nat_tests) in
    let index : size ≡ at - (at - size) = omega arith in
    let all : at - size ≡ at - size - 0 = omega arith in
    pair _ _ _ _ (ap (λ k. take k (drop (at - size) value)) index) (ap (λ k. take k value) all))
    ∙ ap (λ k. layout_within true n k >>= λ l. ok (parts_at value l)) (ap length_of (sym head)))
