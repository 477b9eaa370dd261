-- Of a place's bytes a read looks at its kept bits alone.
use Rattle.std.proofs.Common.{◌≡◌, ℕ, ◌+◌, ◌*◌, ◌≤◌, ◌&&◌, Bool, true, nat_lt, nat_le, List, [], ◌∷◌, length, map, drop, arith, refl, ap, sym, ◌∙◌}
use Rattle.std.specs.List.{All}
use Rattle.std.proofs.Math.Nat.{mul-le-mul_right}
use Rattle.std.proofs.lemmas.Bool.Decides.{nat_tests}
use Rattle.std.proofs.lemmas.List.{drop-drop}
use Rattle.std.proofs.lemmas.List.Elements.{All-head, All-tail}
use Rattle.std.proofs.lemmas.List.Folds.{list_all-append}
use Rattle.zarrs_data_type.specs.Element.{plain}
use Rattle.zarrs_data_type.specs.ElementType.{fixed, text, bytes, optional}
use Rattle.zarrs_bytes.proofs.Coding.{ok}
use Rattle.zarrs_packbits.specs.Bits.{bits_of, field}
use Rattle.zarrs_packbits.specs.BitStream.{element_bits, packed_element}
use Rattle.zarrs_packbits.specs.KeptBits.{full_component}
use Rattle.zarrs_packbits.specs.declared.layout.PackedLayout.{PackedLayout}
use Rattle.zarrs_packbits.specs.Laws.{SameBits, place_bits}
use Rattle.zarrs_packbits.specs.Laws as laws
use Rattle.zarrs_packbits.specs.PackedLayout.{IsPackedLayout, element_bits_len}
use Rattle.zarrs_packbits.specs.PaddingByte.{lead}
use Rattle.zarrs_packbits.specs.Packing.{packing}
use Rattle.zarrs_packbits.specs.PartialRead.{all_below, packed_place_bytes, packed_places_bytes, run_end}
use Rattle.zarrs_packbits.proofs.LocalLemmas.{flat_range_same}
use Rattle.zarrs_array_bytes.proofs.Pieces.{take-drop-take}
use Rattle.zarrs_packbits.proofs.RunLemmas.{place_end}
use Rattle.zarrs_packbits.proofs.Taken.{taken}

-- a component's kept bits are some of the place's
field_inside : (at whole off count : ℕ) (bits : List ℕ) → off + count ≤ whole → field (at + off) count bits ≡ field off count (field at whole bits)
field_inside at whole off count bits h =
    ap (field 0 count) (sym (drop-drop off at bits)) ∙ sym (take-drop-take count off whole (drop at bits) h)

element_of_bits : (l : PackedLayout) (value other : List ℕ) (p : ℕ) → place_bits l value p ≡ place_bits l other p → element_bits l value p ≡ element_bits l other p
element_of_bits l value other p same =
    let at = p * element_bits_len l in
    let mine = bits_of (drop (lead l) value) in
    let theirs = bits_of (drop (lead l) other) in
    flat_range_same (λ part. full_component l.first l.above l.sign (field (at + part * l.count) l.count mine)) (λ part. full_component l.first l.above l.sign (field (at + part * l.count) l.count theirs)) l.group
    (λ part lt.
    let more : part + 1 ≤ l.group = omega arith in
    let row : (part + 1) * l.count ≤ l.group * l.count = mul-le-mul_right l.count more in
    let inside : part * l.count + l.count ≤ element_bits_len l = (let e : (part + 1) * l.count ≡ part * l.count + l.count = omega arith in omega arith) in
    ap (full_component l.first l.above l.sign) (field_inside at (element_bits_len l) (part * l.count) l.count mine inside ∙ ap (field (part * l.count) l.count) same ∙ sym (field_inside at (element_bits_len l) (part * l.count) l.count theirs inside)))

inside_both : (l : PackedLayout) (value other places : List ℕ) → IsPackedLayout l → All (SameBits l value other) places → (all_below (length value) (packed_places_bytes l places) ≡ true) × (all_below (length other) (packed_places_bytes l places) ≡ true)
inside_both l value other [] s h = (refl, refl)
inside_both l value other (p ∷ ps) s h =
    let one : SameBits l value other p = All-head (SameBits l value other) p ps h in
    let rest = inside_both l value other ps s (All-tail (SameBits l value other) p ps h) in
    let a : nat_le (run_end l (p, 1)) (length value) ≡ true = (let e = one.in_value in grind (arith, nat_tests)) in
    let b : nat_le (run_end l (p, 1)) (length other) ≡ true = (let e = one.in_other in grind (arith, nat_tests)) in (
      list_all-append (λ k. nat_lt k (length value)) (packed_place_bytes l p) (packed_places_bytes l ps) ∙ ap (λ (x : Bool). x && all_below (length value) (packed_places_bytes l ps)) (place_end l (length value) p s ∙ a) ∙ rest.0,
      list_all-append (λ k. nat_lt k (length other)) (packed_place_bytes l p) (packed_places_bytes l ps) ∙ ap (λ (x : Bool). x && all_below (length other) (packed_places_bytes l ps)) (place_end l (length other) p s ∙ b) ∙ rest.1,
    )

elements_of_bits : (l : PackedLayout) (value other places : List ℕ) → All (SameBits l value other) places → map (packed_element l value) places ≡ map (packed_element l other) places
elements_of_bits l value other [] h = refl
elements_of_bits l value other (p ∷ ps) h =
    let one : SameBits l value other p = All-head (SameBits l value other) p ps h in
    let first = ap (λ (b : List ℕ). plain (packing b)) (element_of_bits l value other p one.same) in
    λ i. first i ∷ elements_of_bits l value other ps (All-tail (SameBits l value other) p ps h) i

pub reads_bits_alike : laws.ReadsBitsAlike
reads_bits_alike settings sizes (fixed width components sign) fill l value other places e h =
    let t = taken settings sizes width components sign fill l e in
    let both = inside_both l value other places t.sound h in
    rw (both.0, both.1) (ap ok (elements_of_bits l value other places h))
reads_bits_alike settings sizes text fill l value other places e h = absurd cc
reads_bits_alike settings sizes bytes fill l value other places e h = absurd cc
reads_bits_alike settings sizes (optional type) fill l value other places e h = absurd cc
