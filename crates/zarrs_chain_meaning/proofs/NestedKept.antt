-- Written values are bytes, as many as was declared, by chains with chains inside too.
use Rattle.std.proofs.Common.{◌≡◌, ℕ, suc, ◌+◌, ◌<◌, ◌≤◌, ◌^◌, nat_lt, if◌then◌else◌, Bool, true, false, List, [], ◌∷◌, ◌++◌, length, map, Result, Ok, Err, arith, refl, ap, sym, subst, ◌∙◌}
use Rattle.std.specs.List.{All}
use Rattle.std.proofs.lemmas.List.{length-append}
use Rattle.std.proofs.lemmas.List.Elements.{All-append, All-nil, All-cons, All-head, All-tail}
use Rattle.zarrs_chunk.specs.Answer.{seen}
use Rattle.zarrs_chunk.specs.ChunkShape.{product}
use Rattle.zarrs_chunk.specs.declared.codec_error.CodecError.{CodecError}
use Rattle.zarrs_data_type.specs.ElementType.{ElementType, fixed, text, bytes, optional}
use Rattle.zarrs_data_type.specs.Element.{Element, plain, absent, present, Chunk}
use Rattle.zarrs_codec.specs.BytesToBytesCodec.{BytesCodecs, IsLawful, AreBytes, KeepsTo, IsAtMost}
use Rattle.zarrs_codec.specs.CoordinateMap.{IsCoordinateMap, origins, moved_chunk}
use Rattle.zarrs_codec.specs.declared.bytes_representation.BytesRepresentation.{BytesRepresentation}
use Rattle.zarrs_codec.specs.declared.bytes_representation.BytesRepresentation.TheVariants.{FixedSize, BoundedSize, UnboundedSize}
use Rattle.zarrs_array_to_array.specs.ArrayToArrayCodec.{ArrayMapping, IsMapping}
use Rattle.zarrs_array_to_array.proofs.CoordinateMaps.{length-moved}
use Rattle.zarrs_bytes.specs.ByteOrder.{bytes_of}
use Rattle.zarrs_packbits.specs.Laws.{HasBytes}
use Rattle.zarrs_chain_meaning.specs.BytesStages.{outer_representation}
use Rattle.zarrs_chain_meaning.specs.vlen.Vlen.{chunk_offsets, offset_bytes, offset_elements, offset_type, VlenWritten, arranged}
use Rattle.zarrs_chain_meaning.specs.Parts.{part_length_bytes, byte_elements, all_bytes, byte_type}
use Rattle.zarrs_chain_meaning.specs.optional.Optional.{flag_of, present_of, optional_layout, flag_type, blank_fill, bounded, optional_representation, bounded_total}
use Rattle.zarrs_chain_meaning.specs.Meaning.{Measure, around_representation, Standing, WrittenThrough, Keeping, in_a_row}
use Rattle.zarrs_chain_meaning.proofs.ArraySteps.{ok_is}
use Rattle.zarrs_chain_meaning.proofs.NestedGrowth.{Grows, is_both}
use Rattle.zarrs_chain_meaning.proofs.NestedStages.{all_selected, element_bytes, OuterWritten, outer_written, outer_opened, arrays_are_map, row_positive, is_byte}
use Rattle.zarrs_codec.specs.SampleLaws.{low_first_are_bytes}
use Rattle.zarrs_chain_meaning.proofs.OptionalFor.{OptionalWrittenFor}

-- bytes, as many as was declared
pub record AreKept (r : BytesRepresentation) (value : List ℕ) : Type 0 where
  pub each : AreBytes value
  pub keeps : KeepsTo r value

-- what an array-to-bytes codec writes
abbrev pub KeepsSize : Standing → Measure → Type 0
KeepsSize write measure =
    (sizes : List ℕ) (type : ElementType) (fill value : List ℕ) (chunk : Chunk) (r : BytesRepresentation)
    → All (λ size. 0 < size) sizes → length chunk ≡ product sizes → All HasBytes chunk → write sizes type fill value chunk → measure sizes type fill ≡ Ok r → AreKept r value

-- bytes, as many as is declared of such a chunk
pub record IsMeasured (measure : Measure) (sizes : List ℕ) (type : ElementType) (fill value : List ℕ) : Type 0 where
  pub size : BytesRepresentation
  pub measured : measure sizes type fill ≡ Ok size
  pub kept : AreKept size value

-- what a chain writes
abbrev pub WritesMeasured : Standing → Measure → Type 0
WritesMeasured write measure =
    (sizes : List ℕ) (type : ElementType) (fill value : List ℕ) (chunk : Chunk)
    → All (λ size. 0 < size) sizes → All HasBytes chunk → write sizes type fill value chunk → IsMeasured measure sizes type fill value

-- ---- bytes of numbers

length_are : (part : List ℕ) → AreBytes (part_length_bytes part)
unfolding part_length_bytes
length_are part = low_first_are_bytes 0 8 (length part)

pub length_long : (part : List ℕ) → length (part_length_bytes part) ≡ 8
unfolding part_length_bytes
length_long part = refl

offset_are : (wide : Bool) (offset : ℕ) → AreBytes (offset_bytes wide offset)
unfolding offset_bytes
offset_are true offset = low_first_are_bytes 0 8 offset
offset_are false offset = low_first_are_bytes 0 4 offset

-- ---- bytes of the chunks of inner chains

pub offsets_have : (wide : Bool) (offsets : List ℕ) → All HasBytes (offset_elements wide offsets)
offsets_have wide [] = All-nil HasBytes
offsets_have wide (offset ∷ offsets) = All-cons HasBytes (plain (offset_bytes wide offset)) (offset_elements wide offsets) (offset_are wide offset) (offsets_have wide offsets)

pub items_have : (items : List ℕ) → AreBytes items → All HasBytes (byte_elements items)
items_have [] h = All-nil HasBytes
items_have (byte ∷ items) h =
    All-cons HasBytes (plain (byte ∷ [])) (byte_elements items) (All-cons is_byte byte [] (All-head is_byte byte items h) (All-nil is_byte)) (items_have items (All-tail is_byte byte items h))

pub all_are : (chunk : Chunk) → All HasBytes chunk → AreBytes (all_bytes chunk)
all_are [] h = All-nil is_byte
all_are (element ∷ chunk) h = All-append is_byte (bytes_of element) (all_bytes chunk) (element_bytes element (All-head HasBytes element chunk h)) (all_are chunk (All-tail HasBytes element chunk h))

flag_has : (element : Element) → HasBytes (flag_of element)
flag_has (plain items) = All-cons is_byte 0 [] (omega arith) (All-nil is_byte)
flag_has absent = All-cons is_byte 0 [] (omega arith) (All-nil is_byte)
flag_has (present element) = All-cons is_byte 1 [] (omega arith) (All-nil is_byte)

pub flags_have : (chunk : Chunk) → All HasBytes (map flag_of chunk)
flags_have [] = All-nil HasBytes
flags_have (element ∷ chunk) = All-cons HasBytes (flag_of element) (map flag_of chunk) (flag_has element) (flags_have chunk)

pub present_have : (chunk : Chunk) → All HasBytes chunk → All HasBytes (present_of chunk)
present_have [] h = All-nil HasBytes
present_have (plain items ∷ chunk) h = present_have chunk (All-tail HasBytes (plain items) chunk h)
present_have (absent ∷ chunk) h = present_have chunk (All-tail HasBytes absent chunk h)
present_have (present element ∷ chunk) h = All-cons HasBytes element (present_of chunk) (All-head HasBytes (present element) chunk h) (present_have chunk (All-tail HasBytes (present element) chunk h))

-- ---- parts

part_are : (write : Standing) (measure : Measure) → WritesMeasured write measure → (type : ElementType) (fill part : List ℕ) (chunk : Chunk) → All HasBytes chunk → in_a_row (part ≡ []) (λ sizes. write sizes type fill part chunk) (length chunk) → AreBytes part
part_are write measure law type fill part [] each w = subst AreBytes (sym w) (All-nil is_byte)
part_are write measure law type fill part (x ∷ chunk) each w =
    (law (length (x ∷ chunk) ∷ []) type fill part (x ∷ chunk) (row_positive (suc (length chunk)) (omega arith)) each w).kept.each

-- the bytes are no more than was declared
abbrev pub IsWithin : BytesRepresentation → List ℕ → Type 0
IsWithin (FixedSize size) value = length value ≤ size
IsWithin (BoundedSize size) value = length value ≤ size
IsWithin UnboundedSize value = Unit {0}

within : (r s : BytesRepresentation) (value : List ℕ) → KeepsTo r value → IsAtMost r s → IsWithin s value
within (FixedSize m) (FixedSize n) value k h = omega arith
within (FixedSize m) (BoundedSize n) value k h = omega arith
within (FixedSize m) UnboundedSize value k h = tt
within (BoundedSize m) (FixedSize n) value k h = omega arith
within (BoundedSize m) (BoundedSize n) value k h = omega arith
within (BoundedSize m) UnboundedSize value k h = tt
within UnboundedSize (FixedSize n) value k h = absurd h
within UnboundedSize (BoundedSize n) value k h = absurd h
within UnboundedSize UnboundedSize value k h = tt

none_within : (s : BytesRepresentation) (value : List ℕ) → length value ≡ 0 → IsWithin s value
none_within (FixedSize n) value e = omega arith
none_within (BoundedSize n) value e = omega arith
none_within UnboundedSize value e = tt

part_within : (write : Standing) (measure : Measure) → WritesMeasured write measure → Grows measure → (type : ElementType) (fill part : List ℕ) (chunk : Chunk) (sizes : List ℕ) (s : BytesRepresentation)
    → All (λ size. 0 < size) sizes → length chunk ≤ product sizes → measure sizes type fill ≡ Ok s → All HasBytes chunk → in_a_row (part ≡ []) (λ sizes. write sizes type fill part chunk) (length chunk) → IsWithin s part
part_within write measure law grows type fill part [] sizes s positive le e each w = none_within s part (ap length w)
part_within write measure law grows type fill part (x ∷ chunk) sizes s positive le e each w =
    let row = row_positive (suc (length chunk)) (omega arith) in
    let here = law (length (x ∷ chunk) ∷ []) type fill part (x ∷ chunk) row each w in
    within here.size s part here.kept.keeps (grows (length (x ∷ chunk) ∷ []) sizes type fill here.size s row positive (omega (arith, le)) here.measured e)

-- ---- layouts

layout_are : (at_end : Bool) (index items : List ℕ) → AreBytes index → AreBytes items → AreBytes (arranged at_end (part_length_bytes index) index items)
layout_are false index items i d = All-append is_byte (part_length_bytes index) (index ++ items) (length_are index) (All-append is_byte index items i d)
layout_are true index items i d = All-append is_byte items (index ++ part_length_bytes index) d (All-append is_byte index (part_length_bytes index) i (length_are index))

optional_are : (mask items : List ℕ) → AreBytes mask → AreBytes items → AreBytes (optional_layout mask items)
optional_are mask items m d =
    All-append is_byte (part_length_bytes mask) (part_length_bytes items ++ (mask ++ items)) (length_are mask)
    (All-append is_byte (part_length_bytes items) (mask ++ items) (length_are items) (All-append is_byte mask items m d))

optional_long : (mask items : List ℕ) → length (optional_layout mask items) ≡ 16 + length mask + length items
optional_long mask items =
    omega (arith, length-append (part_length_bytes mask) (part_length_bytes items ++ (mask ++ items)), length-append (part_length_bytes items) (mask ++ items), length-append mask items, length_long mask, length_long items)

tested_keeps : (test : Bool) (n : ℕ) (value : List ℕ) → length value ≤ n → KeepsTo (if test then BoundedSize n else UnboundedSize) value
tested_keeps true n value h = h
tested_keeps false n value h = tt

pub bounded_keeps : (n : ℕ) (value : List ℕ) → length value ≤ n → KeepsTo (bounded n) value
bounded_keeps n value h = tested_keeps (nat_lt n (2 ^ 64)) n value h

-- no more elements are present than there are
present_few : (chunk : Chunk) → length (present_of chunk) ≤ length chunk
present_few [] = omega arith
present_few (plain items ∷ chunk) = let rest = present_few chunk in omega (arith, rest)
present_few (absent ∷ chunk) = let rest = present_few chunk in omega (arith, rest)
present_few (present element ∷ chunk) = let rest = present_few chunk in omega (arith, rest)

-- ---- codecs with chains inside

pub vlen_are : (wide at_end : Bool) (own : Keeping) (index content : Standing) (im dm : Measure) → WritesMeasured index im → WritesMeasured content dm → (value : List ℕ) (chunk : Chunk) → All HasBytes chunk
    → VlenWritten wide at_end own index content value chunk → AreBytes value
vlen_are wide at_end own index content im dm i d value chunk each w =
    let offsets = offset_elements wide (chunk_offsets chunk) in
    let indices : AreBytes w.index_part =
    (i (length offsets ∷ []) (offset_type wide) (offset_bytes wide 0) w.index_part offsets (row_positive (length offsets) (omega arith)) (offsets_have wide (chunk_offsets chunk)) w.index_written).kept.each in
    let items : AreBytes w.data_part = part_are content dm d byte_type (0 ∷ []) w.data_part (byte_elements (all_bytes chunk)) (items_have (all_bytes chunk) (all_are chunk each)) w.data_written in
    subst AreBytes (sym w.parts) (layout_are at_end w.index_part w.data_part indices items)

optional_keeps : (m d : BytesRepresentation) (value mask items : List ℕ) → length value ≡ 16 + length mask + length items → KeepsTo m mask → IsWithin d items → KeepsTo (bounded_total (λ mask content. 16 + mask + content) m d) value
optional_keeps (FixedSize m) (FixedSize d) value mask items l k h = bounded_keeps (16 + m + d) value (omega (arith, l, k, h))
optional_keeps (FixedSize m) (BoundedSize d) value mask items l k h = bounded_keeps (16 + m + d) value (omega (arith, l, k, h))
optional_keeps (FixedSize m) UnboundedSize value mask items l k h = tt
optional_keeps (BoundedSize m) (FixedSize d) value mask items l k h = bounded_keeps (16 + m + d) value (omega (arith, l, k, h))
optional_keeps (BoundedSize m) (BoundedSize d) value mask items l k h = bounded_keeps (16 + m + d) value (omega (arith, l, k, h))
optional_keeps (BoundedSize m) UnboundedSize value mask items l k h = tt
optional_keeps UnboundedSize (FixedSize d) value mask items l k h = tt
optional_keeps UnboundedSize (BoundedSize d) value mask items l k h = tt
optional_keeps UnboundedSize UnboundedSize value mask items l k h = tt

pub optional_kept : (mask content : Standing) (mm dm : Measure) → WritesMeasured mask mm → WritesMeasured content dm → Grows dm
    → (sizes : List ℕ) (type : ElementType) (fill value : List ℕ) (chunk : Chunk) (r : BytesRepresentation) → All (λ size. 0 < size) sizes → length chunk ≡ product sizes → All HasBytes chunk
    → OptionalWrittenFor mask content sizes type value chunk → optional_representation mm dm sizes type fill ≡ Ok r → AreKept r value
optional_kept mask content mm dm m d grows sizes (fixed width components sign) fill value chunk r positive long each w e = absurd w
optional_kept mask content mm dm m d grows sizes text fill value chunk r positive long each w e = absurd w
optional_kept mask content mm dm m d grows sizes bytes fill value chunk r positive long each w e = absurd w
optional_kept mask content mm dm m d grows sizes (optional type) fill value chunk r positive long each w e =
    let said = is_both mm dm sizes type fill r e in
    let flags = m sizes flag_type (0 ∷ []) w.mask_part (map flag_of chunk) positive (flags_have chunk) w.mask_written in
    let first : KeepsTo said.mask_size w.mask_part = subst (λ (x : BytesRepresentation). KeepsTo x w.mask_part) (ok_is flags.size said.mask_size (sym flags.measured ∙ said.masked)) flags.kept.keeps in
    let inside = present_have chunk each in
    let items : AreBytes w.data_part = part_are content dm d type (blank_fill type) w.data_part (present_of chunk) inside w.data_written in
    let second : IsWithin said.data_size w.data_part =
    part_within content dm d grows type (blank_fill type) w.data_part (present_of chunk) sizes said.data_size positive (omega (arith, present_few chunk, long)) said.measured inside w.data_written in
    record {
      each = subst AreBytes (sym w.parts) (optional_are w.mask_part w.data_part flags.kept.each items);
      keeps = subst (λ (x : BytesRepresentation). KeepsTo x value) said.is (optional_keeps said.mask_size said.data_size value w.mask_part w.data_part (ap length w.parts ∙ optional_long w.mask_part w.data_part) first second);
    }

-- ---- chains

outer_are : {B : Type 0} (f : BytesCodecs B) → IsLawful f → (codecs : List B) (below value : List ℕ) → AreBytes below → OuterWritten f codecs below value → AreBytes value
outer_are f lawful [] below value each h = subst AreBytes (sym h.1) each
outer_are f lawful (codec ∷ codecs) below value each h = outer_are f lawful codecs (f.encoded_bytes codec below) value (lawful.are_bytes codec below (record { each = each; small = h.0 })) h.1

pub through_measured : {B : Type 0} (f : BytesCodecs B) → IsLawful f → (arrays : List ArrayMapping) (measure : Measure) (content : Standing) (outer : List B) → All IsMapping arrays → KeepsSize content measure
    → WritesMeasured (WrittenThrough f arrays measure content outer) (around_representation f arrays measure outer)
through_measured f lawful arrays measure content outer mappings law sizes type fill value chunk positive each w =
    let h : IsCoordinateMap sizes w.map_is = arrays_are_map arrays sizes type w.map_is mappings positive w.mapped in
    let kept = law w.map_is.encoded type fill w.below (moved_chunk w.map_is chunk) w.size (h.positive positive) (length-moved w.map_is chunk) (all_selected chunk (origins w.map_is) each) w.written w.measured in
    record {
      size = outer_representation f outer w.size;
      measured = rw (w.mapped, w.measured) refl;
      kept = record {
        each = outer_are f lawful outer w.below value kept.each (outer_written f outer w.below value w.around);
        keeps = (outer_opened f outer w.size w.below value lawful kept.each kept.keeps w.around).1;
      };
    }

pub fixed_kept : (r : Result ℕ CodecError) (size : BytesRepresentation) (value : List ℕ) → seen FixedSize r ≡ Ok size → ((len : ℕ) → r ≡ Ok len → length value ≡ len) → KeepsTo size value
fixed_kept (Ok len) size value e h = subst (λ (s : BytesRepresentation). KeepsTo s value) (ok_is (FixedSize len) size e) (h len refl)
fixed_kept (Err error) size value e h = absurd cc

pub unbounded_keeps : (value : List ℕ) → KeepsTo UnboundedSize value
unbounded_keeps value = tt
