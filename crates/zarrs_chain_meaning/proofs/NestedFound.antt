-- What array-to-bytes codecs answer of chunks that they take is written, with chains inside too.
use Rattle.std.proofs.Common.{◌≡◌, ℕ, suc, ◌<◌, ◌^◌, nat_eq, if◌then◌else◌, Bool, true, false, List, [], ◌∷◌, length, map, Ok, arith, refl, ap, sym, subst, ◌∙◌}
use Rattle.std.specs.Cmp.Lexicographic.{pointwise}
use Rattle.std.specs.List.{All}
use Rattle.std.proofs.lemmas.List.{length-map}
use Rattle.std.proofs.lemmas.List.Elements.{All-nil, All-cons}
use Rattle.zarrs_chunk.specs.Answer.{demand}
use Rattle.zarrs_chunk.specs.ChunkShape.{product}
use Rattle.zarrs_chunk.specs.declared.codec_error.CodecError.TheVariants.{OffsetTooLarge, OffsetNotKept}
use Rattle.zarrs_data_type.specs.ElementType.{ElementType, fixed, optional}
use Rattle.zarrs_data_type.specs.Element.{Element, plain, absent, present, Chunk, IsElement, AreElements}
use Rattle.zarrs_array_bytes.specs.Validity.{sizes_fit}
use Rattle.zarrs_codec.specs.BytesToBytesCodec.{BytesCodecs}
use Rattle.zarrs_codec.specs.CoordinateMap.{CoordinateMap, IsCoordinateMap, moved_chunk}
use Rattle.zarrs_codec.specs.declared.bytes_representation.BytesRepresentation.{BytesRepresentation}
use Rattle.zarrs_array_to_array.specs.ArrayToArrayCodec.{ArrayMapping, IsMapping}
use Rattle.zarrs_bytes.specs.ByteOrder.{bytes_of}
use Rattle.zarrs_bytes.specs.BytesCodec.{IsChunk}
use Rattle.zarrs_bytes.proofs.Coding.{demand_ok, bind_ok}
use Rattle.zarrs_codec.proofs.Fences.{second_true, first_true}
use Rattle.zarrs_chain_meaning.specs.ArrayStages.{arrays_map}
use Rattle.zarrs_chain_meaning.specs.BytesStages.{in_memory}
use Rattle.zarrs_chain_meaning.specs.Meaning.{Encoder, around_value, Measure, around_representation, Standing, WrittenThrough, Keeping, in_a_row}
use Rattle.zarrs_chain_meaning.specs.vlen.Vlen.{chunk_offsets, offset_bytes, offset_elements, offset_fits, is_same_bytes, vlen_value, offset_type, VlenWritten, arranged}
use Rattle.zarrs_chain_meaning.specs.Parts.{byte_elements, all_bytes, byte_type, part_length_bytes}
use Rattle.zarrs_chain_meaning.specs.optional.Optional.{flag_of, present_of, optional_layout, optional_value, flag_type, blank_fill, OptionalWritten}
use Rattle.zarrs_chain_meaning.proofs.ArraySteps.{ok_is}
use Rattle.zarrs_chain_meaning.proofs.NestedForNormal.{items_are, present_are, row_is}
use Rattle.zarrs_chain_meaning.proofs.NestedNormal.{KeepsTypes}
use Rattle.zarrs_chain_meaning.proofs.NestedStages.{in_memory_so, arrays_are_map, row_positive}
use Rattle.zarrs_chain_meaning.proofs.NestedWrittenStands.{moved_is}
use Rattle.zarrs_array_bytes.specs.SameBytesLaws.{same_numbers}

-- what a chain answers of elements of the type is written
abbrev pub Founds : Standing → Encoder → Type 0
Founds write encode =
    (sizes : List ℕ) (type : ElementType) (fill value : List ℕ) (chunk : Chunk)
    → All (λ size. 0 < size) sizes → IsChunk type (product sizes) chunk → encode sizes type fill chunk ≡ Ok value → write sizes type fill value chunk

-- what an array-to-bytes codec answers of chunks that it takes
abbrev pub FoundsTaken : Standing → Encoder → Measure → Type 0
FoundsTaken write encode measure =
    (sizes : List ℕ) (type : ElementType) (fill value : List ℕ) (chunk : Chunk) (r : BytesRepresentation)
    → All (λ size. 0 < size) sizes → IsChunk type (product sizes) chunk → measure sizes type fill ≡ Ok r → encode sizes type fill chunk ≡ Ok value → write sizes type fill value chunk

-- ---- steps

part_found : (write : Standing) (encode : Encoder) → Founds write encode → (type : ElementType) (fill part : List ℕ) (chunk : Chunk) → AreElements type chunk → in_a_row (Ok []) (λ sizes. encode sizes type fill chunk) (length chunk) ≡ Ok part → in_a_row (part ≡ []) (λ sizes. write sizes type fill part chunk) (length chunk)
part_found write encode law type fill part [] each e = sym (ok_is [] part e)
part_found write encode law type fill part (x ∷ chunk) each e =
    law (length (x ∷ chunk) ∷ []) type fill part (x ∷ chunk) (row_positive (suc (length chunk)) (omega arith)) (row_is type (x ∷ chunk) each) e

-- ---- offsets

offset_is : (wide : Bool) (offset : ℕ) → IsElement (offset_type wide) (plain (offset_bytes wide offset))
unfolding offset_bytes
offset_is true offset = refl
offset_is false offset = refl

pub offsets_are : (wide : Bool) (offsets : List ℕ) → AreElements (offset_type wide) (offset_elements wide offsets)
offsets_are wide [] = All-nil (IsElement (offset_type wide))
offsets_are wide (offset ∷ offsets) = All-cons (IsElement (offset_type wide)) (plain (offset_bytes wide offset)) (offset_elements wide offsets) (offset_is wide offset) (offsets_are wide offsets)

fixed_plain : (width components : ℕ) (sign : Bool) (element : Element) → IsElement (fixed width components sign) element → element ≡ plain (bytes_of element)
fixed_plain width components sign (plain items) h = refl
fixed_plain width components sign absent h = absurd h
fixed_plain width components sign (present element) h = absurd h

offset_same : (wide : Bool) (keep : Keeping) → KeepsTypes keep → (offset : ℕ) → pointwise nat_eq (bytes_of (keep (offset_type wide) (plain (offset_bytes wide offset)))) (offset_bytes wide offset) ≡ true → keep (offset_type wide) (plain (offset_bytes wide offset)) ≡ plain (offset_bytes wide offset)
offset_same wide keep k offset h =
    let kept = keep (offset_type wide) (plain (offset_bytes wide offset)) in
    fixed_plain (if wide then 64 else 32) 1 false kept (k (offset_type wide) (plain (offset_bytes wide offset)) (offset_is wide offset)) ∙ ap plain (same_numbers (bytes_of kept) (offset_bytes wide offset) h)

pub offsets_same : (wide : Bool) (keep : Keeping) → KeepsTypes keep → (offsets : List ℕ) → is_same_bytes (map (keep (offset_type wide)) (offset_elements wide offsets)) (offset_elements wide offsets) ≡ true
    → map (keep (offset_type wide)) (offset_elements wide offsets) ≡ offset_elements wide offsets
offsets_same wide keep k [] h = refl
offsets_same wide keep k (offset ∷ offsets) h =
    let here = pointwise nat_eq (bytes_of (keep (offset_type wide) (plain (offset_bytes wide offset)))) (offset_bytes wide offset) in
    let more = is_same_bytes (map (keep (offset_type wide)) (offset_elements wide offsets)) (offset_elements wide offsets) in
    let first = offset_same wide keep k offset (first_true here more h) in
    let rest = offsets_same wide keep k offsets (second_true here more h) in
    λ i. first i ∷ rest i

-- ---- codecs with chains inside

pub vlen_found : (wide at_end : Bool) (keep : Keeping) (iw cw : Standing) (ie ce : Encoder) → KeepsTypes keep → Founds iw ie → Founds cw ce → (value : List ℕ) (chunk : Chunk)
    → vlen_value wide at_end keep ie ce chunk ≡ Ok value → VlenWritten wide at_end keep iw cw value chunk
vlen_found wide at_end keep iw cw ie ce k ilaw claw value chunk e =
    let offsets = chunk_offsets chunk in
    let rows = offset_elements wide offsets in
    let a = bind_ok (in_memory (all_bytes chunk)) _ value e in
    let all = in_memory_so (all_bytes chunk) a.0 a.1 in
    let b = bind_ok (demand (offset_fits wide (length a.0)) OffsetTooLarge) _ value a.2 in
    let i = bind_ok (ie (length rows ∷ []) (offset_type wide) (offset_bytes wide 0) rows) _ value b.2 in
    let same = is_same_bytes (map (keep (offset_type wide)) rows) rows in
    let c = bind_ok (demand same OffsetNotKept) _ value i.2 in
    let d = bind_ok (in_a_row (Ok []) (λ sizes. ce sizes byte_type (0 ∷ []) (byte_elements a.0)) (length (byte_elements a.0))) _ value c.2 in
    let whole = in_memory_so (arranged at_end (part_length_bytes i.0) i.0 d.0) value d.2 in
    let fits : offset_fits wide (length a.0) ≡ true = demand_ok (offset_fits wide (length a.0)) OffsetTooLarge b.0 b.1 in
    record {
      index_part = i.0;
      data_part = d.0;
      small = subst (λ (x : List ℕ). length x < 2 ^ 64) (sym whole.1) whole.0;
      parts = whole.1;
      bytes_small = all.0;
      fit = subst (λ (x : List ℕ). offset_fits wide (length x) ≡ true) all.1 fits;
      kept = offsets_same wide keep k offsets (demand_ok same OffsetNotKept c.0 c.1);
      index_written = ilaw (length rows ∷ []) (offset_type wide) (offset_bytes wide 0) i.0 rows (row_positive (length rows) (omega arith)) (row_is (offset_type wide) rows (offsets_are wide offsets)) i.1;
      data_written = part_found cw ce claw byte_type (0 ∷ []) d.0 (byte_elements (all_bytes chunk)) (items_are (all_bytes chunk)) (ap (λ (x : List ℕ). in_a_row (Ok []) (λ sizes. ce sizes byte_type (0 ∷ []) (byte_elements x)) (length (byte_elements x))) (sym all.1) ∙ d.1);
    }

flag_is : (element : Element) → IsElement flag_type (flag_of element)
flag_is (plain items) = refl
flag_is absent = refl
flag_is (present element) = refl

flags_are : (chunk : Chunk) → AreElements flag_type (map flag_of chunk)
flags_are [] = All-nil (IsElement flag_type)
flags_are (element ∷ chunk) = All-cons (IsElement flag_type) (flag_of element) (map flag_of chunk) (flag_is element) (flags_are chunk)

pub optional_found : (mw cw : Standing) (me ce : Encoder) → Founds mw me → Founds cw ce → (sizes : List ℕ) (type : ElementType) (value : List ℕ) (chunk : Chunk) → All (λ size. 0 < size) sizes → IsChunk (optional type) (product sizes) chunk
    → optional_value me ce sizes (optional type) chunk ≡ Ok value → OptionalWritten mw cw sizes type value chunk
optional_found mw cw me ce mlaw claw sizes type value chunk positive is e =
    let m = bind_ok (me sizes flag_type (0 ∷ []) (map flag_of chunk)) _ value e in
    let d = bind_ok (in_a_row (Ok []) (λ sizes. ce sizes type (blank_fill type) (present_of chunk)) (length (present_of chunk))) _ value m.2 in
    let whole = in_memory_so (optional_layout m.0 d.0) value d.2 in
    record {
      mask_part = m.0;
      data_part = d.0;
      small = subst (λ (x : List ℕ). length x < 2 ^ 64) (sym whole.1) whole.0;
      parts = whole.1;
      mask_written = mlaw sizes flag_type (0 ∷ []) m.0 (map flag_of chunk) positive (record { count_is = length-map chunk flag_of ∙ is.count_is; each = flags_are chunk }) m.1;
      data_written = part_found cw ce claw type (blank_fill type) d.0 (present_of chunk) (present_are type chunk is.each) d.1;
    }

-- ---- chains

pub through_found : {B : Type 0} (f : BytesCodecs B) (arrays : List ArrayMapping) (measure : Measure) (write : Standing) (encode : Encoder) (outer : List B) → All IsMapping arrays → FoundsTaken write encode measure
    → Founds (WrittenThrough f arrays measure write outer) (around_value f arrays measure encode outer)
through_found f arrays measure write encode outer mappings law sizes type fill value chunk positive is e =
    let a = bind_ok (around_representation f arrays measure outer sizes type fill) _ value e in
    let d = bind_ok (sizes_fit type (product sizes)) _ value a.2 in
    let m = bind_ok (arrays_map type arrays sizes) _ value d.2 in
    let below = bind_ok (encode m.0.encoded type fill (moved_chunk m.0 chunk)) _ value m.2 in
    let n = bind_ok (arrays_map type arrays sizes) _ a.0 a.1 in
    let r = bind_ok (measure n.0.encoded type fill) _ a.0 n.2 in
    let same : n.0 ≡ m.0 = ok_is n.0 m.0 (sym n.1 ∙ m.1) in
    let measured : measure m.0.encoded type fill ≡ Ok r.0 = subst (λ (x : CoordinateMap). measure x.encoded type fill ≡ Ok r.0) same r.1 in
    let h : IsCoordinateMap sizes m.0 = arrays_are_map arrays sizes type m.0 mappings positive m.1 in
    record {
      map_is = m.0;
      size = r.0;
      below = below.0;
      mapped = m.1;
      measured = measured;
      countable = d.1;
      elements = is;
      written = law m.0.encoded type fill below.0 (moved_chunk m.0 chunk) r.0 (h.positive positive) (moved_is sizes type m.0 chunk h is) measured below.1;
      around = below.2;
    }
