-- What array-to-bytes codecs answer of values stands, with chains inside too.
use Rattle.std.proofs.Common.{◌≡◌, ℕ, zero, suc, ◌+◌, ◌<◌, Bool, true, List, [], ◌∷◌, length, map, Ok, arith, refl, ap, sym, subst, ◌∙◌}
use Rattle.std.specs.List.{All, range_with_len}
use Rattle.std.proofs.lemmas.List.{length-map}
use Rattle.std.proofs.lemmas.List.Elements.{All-nil, All-cons}
use Rattle.std.proofs.lemmas.List.FromFn.{length-map-range_with_len}
use Rattle.zarrs_chunk.specs.Answer.{demand, checked_u64}
use Rattle.zarrs_chunk.specs.ChunkShape.{product}
use Rattle.zarrs_chunk.specs.declared.codec_error.CodecError.TheVariants.{InvalidOffsets}
use Rattle.zarrs_data_type.specs.ElementType.{ElementType, optional, is_variable}
use Rattle.zarrs_data_type.specs.Element.{Element, plain, Chunk, IsElement, AreElements}
use Rattle.zarrs_array_bytes.specs.Elements.{cut}
use Rattle.zarrs_array_bytes.specs.Offsets.{rises, last_of}
use Rattle.zarrs_codec.specs.BytesToBytesCodec.{BytesCodecs}
use Rattle.zarrs_codec.specs.CoordinateMap.{IsCoordinateMap, moved_chunk, inverse_map}
use Rattle.zarrs_codec.specs.declared.bytes_representation.BytesRepresentation.{BytesRepresentation}
use Rattle.zarrs_array_to_array.specs.ArrayToArrayCodec.{ArrayMapping, IsMapping}
use Rattle.zarrs_array_to_array.proofs.CoordinateMaps.{moved_again, undone_map}
use Rattle.zarrs_bytes.specs.BytesCodec.{IsChunk}
use Rattle.zarrs_bytes.proofs.Coding.{demand_ok, checked_ok, bind_ok}
use Rattle.zarrs_chain_meaning.specs.ArrayStages.{arrays_map}
use Rattle.zarrs_chain_meaning.specs.BytesStages.{outer_bytes}
use Rattle.zarrs_chain_meaning.specs.Meaning.{Decoder, around_chunk, Measure, Standing, StandsThrough, in_a_row}
use Rattle.zarrs_chain_meaning.specs.vlen.Vlen.{offsets_in_chunk, slices, vlen_value_parts, vlen_offsets, vlen_chunk, offset_bytes, offset_type, VlenStands}
use Rattle.zarrs_chain_meaning.specs.optional.Optional.{optional_parts, under_flags, optional_chunk, flag_of, present_of, flag_type, blank_fill, OptionalStands, flag_in}
use Rattle.zarrs_chain_meaning.specs.Parts.{all_bytes, byte_type, for_each}
use Rattle.zarrs_vlen_v2.proofs.Rows.{string_is}
use Rattle.zarrs_chain_meaning.proofs.ArraySteps.{ok_is}
use Rattle.zarrs_chain_meaning.proofs.NestedParts.{vlen_cut, optional_cut_found, flag_element, flags_found, flags_under, present_under, length_under, elements_under}
use Rattle.zarrs_chain_meaning.proofs.NestedStages.{arrays_are_map, row_positive}
use Rattle.zarrs_chain_meaning.proofs.NestedWrittenStands.{moved_is}
use Rattle.zarrs_chain_meaning.proofs.OptionalFor.{count_set}

-- what a chain answers of a value stands, and its elements are of the type
abbrev pub Reads : Standing → Decoder → Type 0
Reads stand decode =
    (sizes : List ℕ) (type : ElementType) (fill value : List ℕ) (chunk : Chunk)
    → All (λ size. 0 < size) sizes → decode sizes type fill value ≡ Ok chunk → stand sizes type fill value chunk × IsChunk type (product sizes) chunk

-- what an array-to-bytes codec answers of values of chunks that it takes
abbrev pub ReadsTaken : Standing → Decoder → Measure → Type 0
ReadsTaken stand decode measure =
    (sizes : List ℕ) (type : ElementType) (fill value : List ℕ) (chunk : Chunk) (r : BytesRepresentation)
    → All (λ size. 0 < size) sizes → measure sizes type fill ≡ Ok r → decode sizes type fill value ≡ Ok chunk → stand sizes type fill value chunk × IsChunk type (product sizes) chunk

-- ---- parts

-- a part that stands for elements of the type, so many of them
abbrev PartReads : Standing → ElementType → List ℕ → ℕ → List ℕ → Chunk → Type 0
PartReads stand type fill count part chunk = in_a_row (Unit {0}) (λ sizes. stand sizes type fill part chunk) (length chunk) × (length chunk ≡ count) × AreElements type chunk

row_stands : (stand : Standing) (type : ElementType) (fill part : List ℕ) (count : ℕ) (chunk : Chunk) → length chunk ≡ suc count → stand (suc count ∷ []) type fill part chunk → in_a_row (Unit {0}) (λ sizes. stand sizes type fill part chunk) (length chunk)
row_stands stand type fill part count [] long s = absurd (omega (arith, long))
row_stands stand type fill part count (x ∷ chunk) long s = subst (λ (n : ℕ). stand (n ∷ []) type fill part (x ∷ chunk)) (sym long) s

part_read : (stand : Standing) (decode : Decoder) → Reads stand decode → (type : ElementType) (fill : List ℕ) (count : ℕ) (part : List ℕ) (chunk : Chunk) → in_a_row (Ok []) (λ sizes. decode sizes type fill part) count ≡ Ok chunk → PartReads stand type fill count part chunk
part_read stand decode law type fill zero part chunk e = subst (PartReads stand type fill zero part) (ok_is [] chunk e) (tt, refl, All-nil (IsElement type))
part_read stand decode law type fill (suc count) part chunk e =
    let read = law (suc count ∷ []) type fill part chunk (row_positive (suc count) (omega arith)) e in
    let long : length chunk ≡ suc count = omega (arith, read.1.count_is) in
    (row_stands stand type fill part count chunk long read.0, long, read.1.each)

-- ---- codecs with chains inside

strings_are : (type : ElementType) (made : ℕ → List ℕ) (places : List ℕ) → is_variable type ≡ true → AreElements type (map (λ place. plain (made place)) places)
strings_are type made [] v = All-nil (IsElement type)
strings_are type made (place ∷ places) v = All-cons (IsElement type) (plain (made place)) (map (λ at. plain (made at)) places) (string_is type (made place) v) (strings_are type made places v)

slices_are : (type : ElementType) (count : ℕ) (offsets items : List ℕ) → is_variable type ≡ true → IsChunk type count (slices count offsets items)
slices_are type count offsets items v =
    let made : ℕ → Element = λ place. plain (cut offsets items place) in
    record { count_is = length-map-range_with_len made 0 count; each = strings_are type (cut offsets items) (range_with_len 0 count) v }

pub vlen_read : (wide at_end : Bool) (is cs : Standing) (ie ce : Decoder) → Reads is ie → Reads cs ce → (count : ℕ) (type : ElementType) (value : List ℕ) (chunk : Chunk)
    → is_variable type ≡ true → vlen_chunk wide at_end ie ce count value ≡ Ok chunk → VlenStands wide at_end is cs count value chunk × IsChunk type count chunk
vlen_read wide at_end is cs ie ce ilaw claw count type value chunk v e =
    let a = bind_ok (vlen_value_parts at_end value) _ chunk e in
    let found = vlen_cut at_end value a.0 a.1 in
    let o = bind_ok (vlen_offsets wide ie count a.0.0) _ chunk a.2 in
    let offsets = o.0 in
    let b = bind_ok (checked_u64 (count + 1)) _ offsets o.1 in
    let i = bind_ok (ie ((count + 1) ∷ []) (offset_type wide) (offset_bytes wide 0) a.0.0) _ offsets b.2 in
    let numbers = offsets_in_chunk wide i.0 in
    let r = bind_ok (demand (rises numbers) InvalidOffsets) _ offsets i.2 in
    let same : numbers ≡ offsets = ok_is numbers offsets r.2 in
    let d = bind_ok (in_a_row (Ok []) (λ sizes. ce sizes byte_type (0 ∷ []) a.0.1) (last_of offsets)) _ chunk o.2 in
    let slices_is : slices count offsets (all_bytes d.0) ≡ chunk = ok_is (slices count offsets (all_bytes d.0)) chunk d.2 in
    let index = ilaw ((count + 1) ∷ []) (offset_type wide) (offset_bytes wide 0) a.0.0 i.0 (row_positive (count + 1) (omega arith)) i.1 in
    let items = part_read cs ce claw byte_type (0 ∷ []) (last_of offsets) a.0.1 d.0 d.1 in (
      record {
        head = found.head;
        index_part = a.0.0;
        data_part = a.0.1;
        offset_chunk = i.0;
        byte_chunk = d.0;
        parts = found.parts;
        head_size = found.head_size;
        head_is = found.head_is;
        countable = (checked_ok (count + 1) b.0 b.1).0;
        index_stands = index.0;
        rising = demand_ok (rises numbers) InvalidOffsets r.0 r.1;
        byte_count = items.1 ∙ sym (ap last_of same);
        data_stands = items.0;
        elements = sym slices_is ∙ ap (λ (x : List ℕ). slices count x (all_bytes d.0)) (sym same);
      },
      subst (IsChunk type count) slices_is (slices_are type count offsets (all_bytes d.0) v),
    )

pub optional_read : (ms cs : Standing) (me ce : Decoder) → Reads ms me → Reads cs ce → (sizes : List ℕ) (type : ElementType) (value : List ℕ) (chunk : Chunk) → All (λ size. 0 < size) sizes
    → optional_chunk me ce sizes (optional type) value ≡ Ok chunk → OptionalStands ms cs sizes type value chunk × IsChunk (optional type) (product sizes) chunk
optional_read ms cs me ce mlaw claw sizes type value chunk positive e =
    let a = bind_ok (optional_parts value) _ chunk e in
    let found = optional_cut_found value a.0 a.1 in
    let m = bind_ok (me sizes flag_type (0 ∷ []) a.0.0) _ chunk a.2 in
    let b = bind_ok (for_each flag_in m.0) _ chunk m.2 in
    let d = bind_ok (in_a_row (Ok []) (λ sizes. ce sizes type (blank_fill type) a.0.1) (count_set b.0)) _ chunk b.2 in
    let whole : under_flags b.0 d.0 ≡ chunk = ok_is (under_flags b.0 d.0) chunk d.2 in
    let mask = mlaw sizes flag_type (0 ∷ []) a.0.0 m.0 positive m.1 in
    let items = part_read cs ce claw type (blank_fill type) (count_set b.0) a.0.1 d.0 d.1 in
    let flags : m.0 ≡ map flag_element b.0 = flags_found m.0 b.0 b.1 in
    let marks : m.0 ≡ map flag_of chunk = flags ∙ sym (flags_under b.0 d.0 items.1) ∙ ap (map flag_of) whole in
    let present_is : d.0 ≡ present_of chunk = sym (present_under b.0 d.0 items.1) ∙ ap present_of whole in
    let is : IsChunk (optional type) (product sizes) chunk = record {
      count_is = ap length (sym whole) ∙ length_under b.0 d.0 ∙ sym (length-map b.0 flag_element) ∙ ap length (sym flags) ∙ mask.1.count_is;
      each = subst (AreElements (optional type)) whole (elements_under type b.0 d.0 items.2);
    } in (
      record {
        head = found.head;
        next = found.next;
        mask_part = a.0.0;
        data_part = a.0.1;
        parts = found.parts;
        head_size = found.head_size;
        next_size = found.next_size;
        head_is = found.head_is;
        next_is = found.next_is;
        small = found.small;
        elements = is;
        mask_stands = subst (ms sizes flag_type (0 ∷ []) a.0.0) marks mask.0;
        data_stands = subst (λ (chunk : Chunk). in_a_row (Unit {0}) (λ sizes. cs sizes type (blank_fill type) a.0.1 chunk) (length chunk)) present_is items.0;
      },
      is,
    )

-- ---- chains

pub through_read : {B : Type 0} (f : BytesCodecs B) (arrays : List ArrayMapping) (measure : Measure) (stand : Standing) (decode : Decoder) (outer : List B) → All IsMapping arrays → ReadsTaken stand decode measure
    → Reads (StandsThrough f arrays measure stand outer) (around_chunk f arrays measure decode outer)
through_read f arrays measure stand decode outer mappings law sizes type fill value chunk positive e =
    let m = bind_ok (arrays_map type arrays sizes) _ chunk e in
    let r = bind_ok (measure m.0.encoded type fill) _ chunk m.2 in
    let below = bind_ok (outer_bytes f outer r.0 value) _ chunk r.2 in
    let c = bind_ok (decode m.0.encoded type fill below.0) _ chunk below.2 in
    let h : IsCoordinateMap sizes m.0 = arrays_are_map arrays sizes type m.0 mappings positive m.1 in
    let read = law m.0.encoded type fill below.0 c.0 r.0 (h.positive positive) r.1 c.1 in
    let back : moved_chunk (inverse_map sizes m.0) c.0 ≡ chunk = ok_is (moved_chunk (inverse_map sizes m.0) c.0) chunk c.2 in
    let long : length c.0 ≡ product sizes = read.1.count_is ∙ h.count in
    let again : moved_chunk m.0 chunk ≡ c.0 = ap (moved_chunk m.0) (sym back) ∙ moved_again sizes m.0 c.0 h long in
    let is : IsChunk type (product sizes) chunk = subst (IsChunk type (product sizes)) back (moved_is m.0.encoded type (inverse_map sizes m.0) c.0 (undone_map sizes m.0 positive h) read.1) in (
      record {
        map_is = m.0;
        size = r.0;
        below = below.0;
        mapped = m.1;
        measured = r.1;
        elements = is;
        opened = below.1;
        stands = subst (stand m.0.encoded type fill below.0) (sym again) read.0;
      },
      is,
    )
