-- What is known of chunks that the codec accepts.
use Rattle.zarrs_data_type.specs.Form.{form_of}
use Rattle.std.proofs.Common.{◌≡◌, ℕ, ◌+◌, ◌-◌, ◌*◌, ◌<◌, ◌≤◌, ◌&&◌, Bool, true, nat_lt, nat_le, Ok, List, arith, ap, sym, ◌∙◌, subst}
use Rattle.zarrs_chunk.specs.Answer.{demand, checked_u64}
use Rattle.zarrs_chunk.specs.ChunkShape.{product}
use Rattle.zarrs_chunk.specs.declared.codec_error.CodecError.TheVariants.{InvalidFillValue, BitRange, Overflow}
use Rattle.zarrs_data_type.specs.ElementType.{fixed, element_size, component_bytes}
use Rattle.zarrs_data_type.specs.FillValue.{fill_fits}
use Rattle.zarrs_bytes.proofs.Coding.{bind_ok, demand_ok, checked_ok, ok}
use Rattle.zarrs_packbits.specs.declared.layout.PackedLayout.{PackedLayout}
use Rattle.zarrs_packbits.specs.PackBitsSettings.{PackBitsSettings, first_of, last_bit_of, has_bits, layout_for, packed_layout}
use Rattle.zarrs_packbits.specs.PackedLayout.{IsPackedLayout, is_in_reach}
use Rattle.zarrs_packbits.proofs.LayoutLemmas.{layout_sound, bare_padding}
use Rattle.zarrs_codec.proofs.Fences.{second_true, first_true}
use Rattle.zarrs_chunk.proofs.Inside.{from_lt_test, from_le_test}

pub record IsTaken (settings : PackBitsSettings) (sizes : List ℕ) (width components : ℕ) (sign : Bool) (fill : List ℕ) (l : PackedLayout) : Type 0 where
  pub is : l ≡ layout_for settings (product sizes) width components sign
  pub filled : fill_fits (fixed width components sign) fill ≡ true
  pub bits : has_bits settings width ≡ true
  pub sound : IsPackedLayout l
  pub elements : l.elements ≡ product sizes
  pub size : element_size width components ≡ l.group * l.size

layout_is : (k l : PackedLayout) → ok k ≡ ok l → l ≡ k
layout_is k l e = cc

sound_for : (settings : PackBitsSettings) (n width components : ℕ) (sign : Bool) → has_bits settings width ≡ true → 0 < components → is_in_reach (layout_for settings n width components sign) ≡ true → IsPackedLayout (layout_for settings n width components sign)
sound_for settings n width components sign h some reach =
    let first = first_of settings in
    let last = last_bit_of settings width in
    let ordered : first ≤ last = from_le_test first last (first_true (nat_le first last) (nat_lt last width) h) in
    let within : last < width = from_lt_test last width (second_true (nat_le first last) (nat_lt last width) h) in
    let size = component_bytes width in
    layout_sound (layout_for settings n width components sign) (let e : 0 < last + 1 - first = omega arith in e) some
    (let e : first + (last + 1 - first) + (8 * size - (last + 1)) ≡ 8 * size = omega arith in e)
    (λ whole. bare_padding _ _ whole) reach

pub taken : (settings : PackBitsSettings) (sizes : List ℕ) (width components : ℕ) (sign : Bool) (fill : List ℕ) (l : PackedLayout) → packed_layout settings (form_of sizes (fixed width components sign) fill) ≡ Ok l → IsTaken settings sizes width components sign fill l
taken settings sizes width components sign fill l e =
    let n = product sizes in
    let a = bind_ok (demand (fill_fits (fixed width components sign) fill) InvalidFillValue) _ l e in
    let b = bind_ok (demand (has_bits settings width && nat_lt 0 components) BitRange) _ l a.2 in
    let c = bind_ok (checked_u64 n) _ l b.2 in
    let count = checked_ok n c.0 c.1 in
    let d = bind_ok (demand (is_in_reach (layout_for settings c.0 width components sign)) Overflow) _ l c.2 in
    let both = demand_ok (has_bits settings width && nat_lt 0 components) BitRange b.0 b.1 in
    let bits = first_true (has_bits settings width) (nat_lt 0 components) both in
    let some = from_lt_test 0 components (second_true (has_bits settings width) (nat_lt 0 components) both) in
    let reach = demand_ok (is_in_reach (layout_for settings c.0 width components sign)) Overflow d.0 d.1 in
    let at : l ≡ layout_for settings c.0 width components sign = layout_is _ l d.2 in
    let is : l ≡ layout_for settings n width components sign = at ∙ ap (λ k. layout_for settings k width components sign) count.1 in
    record {
      is = is;
      filled = demand_ok (fill_fits (fixed width components sign) fill) InvalidFillValue a.0 a.1;
      bits = bits;
      sound = subst IsPackedLayout (sym at) (sound_for settings c.0 width components sign bits some reach);
      elements = ap (λ (k : PackedLayout). k.elements) is;
      size = sym (ap (λ (k : PackedLayout). k.group * k.size) is);
    }
