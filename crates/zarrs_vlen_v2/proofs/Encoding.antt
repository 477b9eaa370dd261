-- What is encoded: the value of the elements between a container's offsets is that of its chunk.
use Rattle.std.proofs.Common.{◌≡◌, ℕ, ◌-◌, ◌+◌, true, List, length, map, Ok, arith, ap, sym, ◌∙◌}
use Rattle.std.specs.List.{range_with_len}
use Rattle.zarrs_chunk.specs.Answer.{◌>>=◌, checked_u64, seen}
use Rattle.zarrs_chunk.specs.ChunkShape.{product}
use Rattle.zarrs_chunk.specs.declared.codec_error.CodecError.TheVariants.{InvalidBytesLength}
use Rattle.zarrs_data_type.specs.Element.{plain}
use Rattle.zarrs_data_type.specs.ElementType.{ElementType, fixed, text, bytes, optional, is_variable}
use Rattle.zarrs_data_type.specs.Form.{Form}
use Rattle.zarrs_array_bytes.specs.Elements.{elements, cut}
use Rattle.zarrs_array_bytes.specs.Held.{Raw, Held, flen, vlen, masked}
use Rattle.zarrs_array_bytes.specs.Parts.{variable_part}
use Rattle.zarrs_array_bytes.specs.Validity.{validity, sizes_fit, levels_fit}
use Rattle.zarrs_array_bytes.proofs.ValidLemmas.{both_ok, variable_fits}
use Rattle.zarrs_bytes.proofs.Coding.{checked_ok}
use Rattle.zarrs_codec.specs.declared.bytes_representation.BytesRepresentation.{BytesRepresentation}
use Rattle.zarrs_vlen_v2.specs.VlenV2Codec.{vlen_v2_represented, vlen_v2_value, prefixed_value}
use Rattle.zarrs_vlen_v2.specs.declared.vlen_v2_codec.VlenV2Codec.{VlenV2Codec}
use Rattle.zarrs_vlen_v2.proofs.CodecLaws.{accepted}
use Rattle.zarrs_vlen_v2.proofs.Writing.{cut_elements}
use Rattle.zarrs_codec.specs.CountLaws.{same_value}

-- the elements of such a container are those between its offsets
are_cut : (type : ElementType) (count : ℕ) (raw : Raw) (offsets : List ℕ) → is_variable type ≡ true → length offsets ≡ count + 1 → elements type count (vlen raw offsets) ≡ cut_elements offsets raw.items
are_cut (fixed width components sign) count raw offsets v long = absurd cc
are_cut text count raw offsets v long =
    let same : count ≡ length offsets - 1 = omega (arith, long) in
    ap (λ n. map (λ place. plain (cut offsets raw.items place)) (range_with_len 0 n)) same
are_cut bytes count raw offsets v long =
    let same : count ≡ length offsets - 1 = omega (arith, long) in
    ap (λ n. map (λ place. plain (cut offsets raw.items place)) (range_with_len 0 n)) same
are_cut (optional type) count raw offsets v long = absurd cc

held_value : (codec : VlenV2Codec) (form : Form) (r : BytesRepresentation) (held : Held) (items offsets : List ℕ) → vlen_v2_represented codec form ≡ Ok r → validity form.type (product form.sizes) held ≡ Ok tt → seen {Y = List ℕ × List ℕ} (λ (parts : Raw × List ℕ). (parts.0.items, parts.1)) (variable_part held) ≡ Ok (items, offsets)
    → vlen_v2_value codec form held ≡ prefixed_value (cut_elements offsets items)
held_value codec form r (flen raw) items offsets t valid parts = absurd cc
held_value codec form r (masked inner mask) items offsets t valid parts = absurd cc
held_value codec form r (vlen raw places) items offsets t valid parts =
    let count = product form.sizes in
    let fit = both_ok (sizes_fit form.type count) (levels_fit InvalidBytesLength form.type count (vlen raw places)) valid in
    let long : length places ≡ count + 1 = variable_fits InvalidBytesLength form.type count raw places fit.1 in
    let same : (raw.items, places) ≡ (items, offsets) = same_value (raw.items, places) (items, offsets) parts in
    ap (λ x. x >>= (λ _. validity form.type count (vlen raw places) >>= (λ _. prefixed_value (elements form.type count (vlen raw places))))) t
    ∙ ap (λ x. x >>= (λ _. prefixed_value (elements form.type count (vlen raw places)))) valid
    ∙ ap prefixed_value (are_cut form.type count raw places (accepted codec form r t).variable long ∙ ap (λ (x : List ℕ × List ℕ). cut_elements x.1 x.0) same)

-- the same, by what the calls answer
pub value_of : (codec : VlenV2Codec) (form : Form) (r : BytesRepresentation) (held : Held) (count : ℕ) (items offsets lent : List ℕ) → Ok r ≡ vlen_v2_represented codec form → Ok count ≡ checked_u64 (product form.sizes) → Ok tt ≡ validity form.type count held
    → Ok (items, offsets) ≡ seen {Y = List ℕ × List ℕ} (λ (parts : Raw × List ℕ). (parts.0.items, parts.1)) (variable_part held) → lent ≡ offsets → vlen_v2_value codec form held ≡ prefixed_value (cut_elements lent items)
value_of codec form r held count items offsets lent t counted valid parts same =
    let is = (checked_ok (product form.sizes) count (sym counted)).1 in
    held_value codec form r held items offsets (sym t) (ap (λ n. validity form.type n held) (sym is) ∙ sym valid) (sym parts)
    ∙ ap (λ (xs : List ℕ). prefixed_value (cut_elements xs items)) (sym same)
