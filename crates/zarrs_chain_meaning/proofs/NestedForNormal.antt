-- What is written for a chunk is what is written for its normal form, by chains with chains inside too.
use Rattle.zarrs_data_type.specs.Form.{form_of}
use Rattle.std.proofs.Common.{◌≡◌, ℕ, zero, suc, ◌+◌, ◌<◌, ◌^◌, Bool, true, List, [], ◌∷◌, ◌++◌, length, get_or, map, arith, refl, ap, sym, subst, ◌∙◌}
use Rattle.std.proofs.lemmas.List.{length-map, map-id, map-append}
use Rattle.std.proofs.lemmas.List.Elements.{All-nil, All-cons, All-head, All-tail}
use Rattle.zarrs_chunk.specs.ChunkShape.{product}
use Rattle.zarrs_data_type.specs.ElementType.{ElementType, fixed, text, bytes, optional}
use Rattle.zarrs_data_type.specs.Element.{Element, plain, absent, present, Chunk, IsElement, AreElements}
use Rattle.zarrs_array_bytes.specs.Elements.{select}
use Rattle.zarrs_array_bytes.specs.Pieces.{ends}
use Rattle.zarrs_codec.specs.BytesToBytesCodec.{BytesCodecs}
use Rattle.zarrs_codec.specs.CoordinateMap.{origins, moved_chunk}
use Rattle.zarrs_array_to_array.specs.ArrayToArrayCodec.{ArrayMapping}
use Rattle.zarrs_bytes.specs.ByteOrder.{bytes_of}
use Rattle.zarrs_bytes.specs.BytesCodec.{IsChunk}
use Rattle.zarrs_packbits.specs.BitStream.{chunk_stream}
use Rattle.zarrs_packbits.specs.NormalForm.{normal_chunk, normal_element as packbits_element}
use Rattle.zarrs_packbits.specs.PackBitsCodec.{PackBitsWritten}
use Rattle.zarrs_packbits.specs.PackBitsSettings.{PackBitsSettings}
use Rattle.zarrs_packbits.specs.PaddingByte.{value_with}
use Rattle.zarrs_packbits.proofs.CodecLaws as packbits
use Rattle.zarrs_chain_meaning.specs.vlen.Vlen.{chunk_offsets, offset_bytes, offset_elements, offset_fits, vlen_normal, offset_type, VlenWritten}
use Rattle.zarrs_chain_meaning.specs.Parts.{byte_elements, all_bytes, byte_type}
use Rattle.zarrs_chain_meaning.specs.optional.Optional.{flag_of, present_of, optional_normal, flag_type, blank_fill}
use Rattle.zarrs_chain_meaning.specs.Meaning.{Measure, Standing, WrittenThrough, Keeping, in_a_row}
use Rattle.zarrs_chain_meaning.proofs.ArraySteps.{ok_is}
use Rattle.zarrs_chain_meaning.proofs.NestedNormal.{KeepsTypes, kept_byte, kept_as_byte, KeepsAbsent, kept_elements, kept_selected}
use Rattle.zarrs_chain_meaning.proofs.OptionalFor.{OptionalWrittenFor}

-- what is written for a chunk is written for what is kept of it
abbrev pub WrittenKept : Standing → Keeping → Type 0
WrittenKept write keep =
    (sizes : List ℕ) (type : ElementType) (fill value : List ℕ) (chunk : Chunk)
    → write sizes type fill value chunk → write sizes type fill value (map (keep type) chunk)

-- and the other way round, for elements of the type
abbrev pub KeptWritten : Standing → Keeping → Type 0
KeptWritten write keep =
    (sizes : List ℕ) (type : ElementType) (fill value : List ℕ) (chunk : Chunk)
    → IsChunk type (product sizes) chunk → write sizes type fill value (map (keep type) chunk) → write sizes type fill value chunk

-- the same, for elements that were selected of some of the type
abbrev pub KeptSelected : Standing → Keeping → Type 0
KeptSelected write keep =
    (sizes : List ℕ) (type : ElementType) (fill value : List ℕ) (chunk : Chunk) (places : List ℕ)
    → AreElements type chunk → write sizes type fill value (map (keep type) (select chunk places)) → write sizes type fill value (select chunk places)

-- ---- parts

pub row_is : (type : ElementType) (chunk : Chunk) → AreElements type chunk → IsChunk type (product (length chunk ∷ [])) chunk
row_is type chunk each = record { count_is = omega arith; each = each }

part_kept : (write : Standing) (keep : Keeping) → WrittenKept write keep → (type : ElementType) (fill part : List ℕ) (chunk : Chunk) → in_a_row (part ≡ []) (λ sizes. write sizes type fill part chunk) (length chunk) → in_a_row (part ≡ []) (λ sizes. write sizes type fill part (map (keep type) chunk)) (length (map (keep type) chunk))
part_kept write keep law type fill part [] w = w
part_kept write keep law type fill part (x ∷ chunk) w =
    subst (λ (n : ℕ). write (n ∷ []) type fill part (map (keep type) (x ∷ chunk))) (sym (length-map (x ∷ chunk) (keep type))) (law (length (x ∷ chunk) ∷ []) type fill part (x ∷ chunk) w)

kept_part : (write : Standing) (keep : Keeping) → KeptWritten write keep → (type : ElementType) (fill part : List ℕ) (chunk : Chunk) → AreElements type chunk → in_a_row (part ≡ []) (λ sizes. write sizes type fill part (map (keep type) chunk)) (length (map (keep type) chunk)) → in_a_row (part ≡ []) (λ sizes. write sizes type fill part chunk) (length chunk)
kept_part write keep law type fill part [] each w = w
kept_part write keep law type fill part (x ∷ chunk) each w =
    law (length (x ∷ chunk) ∷ []) type fill part (x ∷ chunk) (row_is type (x ∷ chunk) each)
    (subst (λ (n : ℕ). write (n ∷ []) type fill part (map (keep type) (x ∷ chunk))) (length-map (x ∷ chunk) (keep type)) w)

-- ---- strings

-- an element's bytes, each as it is kept
abbrev pub IsStringKept : Keeping → (Element → Element) → Type 0
IsStringKept keep string = (element : Element) → bytes_of (string element) ≡ map (kept_byte keep) (bytes_of element)

pub text_kept : (keep : Keeping) → IsStringKept keep (vlen_normal keep text)
text_kept keep (plain items) = refl
text_kept keep absent = refl
text_kept keep (present element) = refl

pub bytes_kept : (keep : Keeping) → IsStringKept keep (vlen_normal keep bytes)
bytes_kept keep (plain items) = refl
bytes_kept keep absent = refl
bytes_kept keep (present element) = refl

ends_kept : (keep : Keeping) (string : Element → Element) → IsStringKept keep string → (at : ℕ) (chunk : Chunk) → ends at (map bytes_of (map string chunk)) ≡ ends at (map bytes_of chunk)
ends_kept keep string s at [] = refl
ends_kept keep string s at (element ∷ chunk) =
    let long : length (bytes_of (string element)) ≡ length (bytes_of element) = ap length (s element) ∙ length-map (bytes_of element) (kept_byte keep) in
    ap (λ (n : ℕ). (at + n) ∷ ends (at + n) (map bytes_of (map string chunk))) long ∙ ap (λ (xs : List ℕ). (at + length (bytes_of element)) ∷ xs) (ends_kept keep string s (at + length (bytes_of element)) chunk)

pub offsets_kept : (keep : Keeping) (string : Element → Element) → IsStringKept keep string → (chunk : Chunk) → chunk_offsets (map string chunk) ≡ chunk_offsets chunk
offsets_kept keep string s chunk = ap (λ (xs : List ℕ). 0 ∷ xs) (ends_kept keep string s 0 chunk)

pub all_kept : (keep : Keeping) (string : Element → Element) → IsStringKept keep string → (chunk : Chunk) → all_bytes (map string chunk) ≡ map (kept_byte keep) (all_bytes chunk)
all_kept keep string s [] = refl
all_kept keep string s (element ∷ chunk) =
    ap (λ (xs : List ℕ). xs ++ all_bytes (map string chunk)) (s element) ∙ ap (λ (xs : List ℕ). map (kept_byte keep) (bytes_of element) ++ xs) (all_kept keep string s chunk)
    ∙ sym (map-append (kept_byte keep) (bytes_of element) (all_bytes chunk))

pub items_kept : (keep : Keeping) → KeepsTypes keep → (items : List ℕ) → map (keep byte_type) (byte_elements items) ≡ byte_elements (map (kept_byte keep) items)
items_kept keep k [] = refl
items_kept keep k (byte ∷ items) = λ i. kept_as_byte keep k byte i ∷ items_kept keep k items i

-- bytes as elements are elements of one byte
pub items_are : (items : List ℕ) → AreElements byte_type (byte_elements items)
items_are [] = All-nil (IsElement byte_type)
items_are (byte ∷ items) = All-cons (IsElement byte_type) (plain (byte ∷ [])) (byte_elements items) refl (items_are items)

-- with the same offsets and as many bytes, another chunk is written alike if its bytes are
vlen_with : (wide at_end : Bool) (own : Keeping) (index content : Standing) (value : List ℕ) (chunk other : Chunk) → chunk_offsets chunk ≡ chunk_offsets other → length (all_bytes chunk) ≡ length (all_bytes other)
    → ((part : List ℕ) → in_a_row (part ≡ []) (λ sizes. content sizes byte_type (0 ∷ []) part (byte_elements (all_bytes chunk))) (length (byte_elements (all_bytes chunk))) → in_a_row (part ≡ []) (λ sizes. content sizes byte_type (0 ∷ []) part (byte_elements (all_bytes other))) (length (byte_elements (all_bytes other))))
    → VlenWritten wide at_end own index content value chunk → VlenWritten wide at_end own index content value other
vlen_with wide at_end own index content value chunk other offsets long items w = record {
  index_part = w.index_part;
  data_part = w.data_part;
  small = w.small;
  parts = w.parts;
  bytes_small = subst (λ (n : ℕ). n < 2 ^ 64) long w.bytes_small;
  fit = subst (λ (n : ℕ). offset_fits wide n ≡ true) long w.fit;
  kept = subst (λ (os : List ℕ). map (own (offset_type wide)) (offset_elements wide os) ≡ offset_elements wide os) offsets w.kept;
  index_written = subst (λ (os : List ℕ). index (length (offset_elements wide os) ∷ []) (offset_type wide) (offset_bytes wide 0) w.index_part (offset_elements wide os)) offsets w.index_written;
  data_written = items w.data_part w.data_written;
}

long_kept : (keep : Keeping) (string : Element → Element) → IsStringKept keep string → (chunk : Chunk) → length (all_bytes (map string chunk)) ≡ length (all_bytes chunk)
long_kept keep string s chunk = ap length (all_kept keep string s chunk) ∙ length-map (all_bytes chunk) (kept_byte keep)

bytes_alike : (keep : Keeping) (string : Element → Element) → KeepsTypes keep → IsStringKept keep string → (chunk : Chunk) → map (keep byte_type) (byte_elements (all_bytes chunk)) ≡ byte_elements (all_bytes (map string chunk))
bytes_alike keep string k s chunk = items_kept keep k (all_bytes chunk) ∙ ap byte_elements (sym (all_kept keep string s chunk))

string_kept : (wide at_end : Bool) (own keep : Keeping) (index content : Standing) (string : Element → Element) → KeepsTypes keep → IsStringKept keep string → WrittenKept content keep → (value : List ℕ) (chunk : Chunk)
    → VlenWritten wide at_end own index content value chunk → VlenWritten wide at_end own index content value (map string chunk)
string_kept wide at_end own keep index content string k s law value chunk =
    vlen_with wide at_end own index content value chunk (map string chunk) (sym (offsets_kept keep string s chunk)) (sym (long_kept keep string s chunk))
    (λ part w. subst (λ (chunk : Chunk). in_a_row (part ≡ []) (λ sizes. content sizes byte_type (0 ∷ []) part chunk) (length chunk)) (bytes_alike keep string k s chunk) (part_kept content keep law byte_type (0 ∷ []) part (byte_elements (all_bytes chunk)) w))

kept_string : (wide at_end : Bool) (own keep : Keeping) (index content : Standing) (string : Element → Element) → KeepsTypes keep → IsStringKept keep string → KeptWritten content keep → (value : List ℕ) (chunk : Chunk)
    → VlenWritten wide at_end own index content value (map string chunk) → VlenWritten wide at_end own index content value chunk
kept_string wide at_end own keep index content string k s law value chunk =
    vlen_with wide at_end own index content value (map string chunk) chunk (offsets_kept keep string s chunk) (long_kept keep string s chunk)
    (λ part w. kept_part content keep law byte_type (0 ∷ []) part (byte_elements (all_bytes chunk)) (items_are (all_bytes chunk)) (subst (λ (chunk : Chunk). in_a_row (part ≡ []) (λ sizes. content sizes byte_type (0 ∷ []) part chunk) (length chunk)) (sym (bytes_alike keep string k s chunk)) w))

pub vlen_kept : (wide at_end : Bool) (own keep : Keeping) (index content : Standing) → KeepsTypes keep → WrittenKept content keep → (type : ElementType) (value : List ℕ) (chunk : Chunk)
    → VlenWritten wide at_end own index content value chunk → VlenWritten wide at_end own index content value (map (vlen_normal keep type) chunk)
vlen_kept wide at_end own keep index content k law (fixed width components sign) value chunk w = subst (VlenWritten wide at_end own index content value) (sym (map-id chunk)) w
vlen_kept wide at_end own keep index content k law text value chunk w = string_kept wide at_end own keep index content (vlen_normal keep text) k (text_kept keep) law value chunk w
vlen_kept wide at_end own keep index content k law bytes value chunk w = string_kept wide at_end own keep index content (vlen_normal keep bytes) k (bytes_kept keep) law value chunk w
vlen_kept wide at_end own keep index content k law (optional type) value chunk w = subst (VlenWritten wide at_end own index content value) (sym (map-id chunk)) w

pub kept_vlen : (wide at_end : Bool) (own keep : Keeping) (index content : Standing) → KeepsTypes keep → KeptWritten content keep → (type : ElementType) (value : List ℕ) (chunk : Chunk)
    → VlenWritten wide at_end own index content value (map (vlen_normal keep type) chunk) → VlenWritten wide at_end own index content value chunk
kept_vlen wide at_end own keep index content k law (fixed width components sign) value chunk w = subst (VlenWritten wide at_end own index content value) (map-id chunk) w
kept_vlen wide at_end own keep index content k law text value chunk w = kept_string wide at_end own keep index content (vlen_normal keep text) k (text_kept keep) law value chunk w
kept_vlen wide at_end own keep index content k law bytes value chunk w = kept_string wide at_end own keep index content (vlen_normal keep bytes) k (bytes_kept keep) law value chunk w
kept_vlen wide at_end own keep index content k law (optional type) value chunk w = subst (VlenWritten wide at_end own index content value) (map-id chunk) w

-- ---- optional elements

pub flags_kept : (keep : Keeping) (type : ElementType) (chunk : Chunk) → map flag_of (map (optional_normal keep (optional type)) chunk) ≡ map flag_of chunk
flags_kept keep type [] = refl
flags_kept keep type (plain items ∷ chunk) = ap (λ (c : Chunk). plain (0 ∷ []) ∷ c) (flags_kept keep type chunk)
flags_kept keep type (absent ∷ chunk) = ap (λ (c : Chunk). plain (0 ∷ []) ∷ c) (flags_kept keep type chunk)
flags_kept keep type (present element ∷ chunk) = ap (λ (c : Chunk). plain (1 ∷ []) ∷ c) (flags_kept keep type chunk)

pub present_kept : (keep : Keeping) (type : ElementType) (chunk : Chunk) → present_of (map (optional_normal keep (optional type)) chunk) ≡ map (keep type) (present_of chunk)
present_kept keep type [] = refl
present_kept keep type (plain items ∷ chunk) = present_kept keep type chunk
present_kept keep type (absent ∷ chunk) = present_kept keep type chunk
present_kept keep type (present element ∷ chunk) = ap (λ (c : Chunk). keep type element ∷ c) (present_kept keep type chunk)

pub present_are : (type : ElementType) (chunk : Chunk) → AreElements (optional type) chunk → AreElements type (present_of chunk)
present_are type [] h = All-nil (IsElement type)
present_are type (plain items ∷ chunk) h = present_are type chunk (All-tail (IsElement (optional type)) (plain items) chunk h)
present_are type (absent ∷ chunk) h = present_are type chunk (All-tail (IsElement (optional type)) absent chunk h)
present_are type (present element ∷ chunk) h =
    All-cons (IsElement type) element (present_of chunk) (All-head (IsElement (optional type)) (present element) chunk h) (present_are type chunk (All-tail (IsElement (optional type)) (present element) chunk h))

-- an absent element stands where there is none, and is one of an optional type
optional_at : (type : ElementType) (chunk : Chunk) (place : ℕ) → AreElements (optional type) chunk → IsElement (optional type) (get_or chunk place absent)
optional_at type [] place h = tt
optional_at type (element ∷ chunk) zero h = All-head (IsElement (optional type)) element chunk h
optional_at type (element ∷ chunk) (suc place) h = optional_at type chunk place (All-tail (IsElement (optional type)) element chunk h)

optional_selected : (type : ElementType) (chunk : Chunk) (places : List ℕ) → AreElements (optional type) chunk → AreElements (optional type) (select chunk places)
optional_selected type chunk [] h = All-nil (IsElement (optional type))
optional_selected type chunk (place ∷ places) h = All-cons (IsElement (optional type)) (get_or chunk place absent) (select chunk places) (optional_at type chunk place h) (optional_selected type chunk places h)

pub optional_kept : (mask content : Standing) (keep : Keeping) → WrittenKept content keep → (sizes : List ℕ) (type : ElementType) (value : List ℕ) (chunk : Chunk)
    → OptionalWrittenFor mask content sizes type value chunk → OptionalWrittenFor mask content sizes type value (map (optional_normal keep type) chunk)
optional_kept mask content keep law sizes (fixed width components sign) value chunk w = absurd w
optional_kept mask content keep law sizes text value chunk w = absurd w
optional_kept mask content keep law sizes bytes value chunk w = absurd w
optional_kept mask content keep law sizes (optional type) value chunk w = record {
  mask_part = w.mask_part;
  data_part = w.data_part;
  small = w.small;
  parts = w.parts;
  mask_written = subst (mask sizes flag_type (0 ∷ []) w.mask_part) (sym (flags_kept keep type chunk)) w.mask_written;
  data_written = subst (λ (chunk : Chunk). in_a_row (w.data_part ≡ []) (λ sizes. content sizes type (blank_fill type) w.data_part chunk) (length chunk)) (sym (present_kept keep type chunk)) (part_kept content keep law type (blank_fill type) w.data_part (present_of chunk) w.data_written);
}

pub kept_optional : (mask content : Standing) (keep : Keeping) → KeptWritten content keep → (sizes : List ℕ) (type : ElementType) (value : List ℕ) (chunk : Chunk) (places : List ℕ) → AreElements type chunk
    → OptionalWrittenFor mask content sizes type value (map (optional_normal keep type) (select chunk places)) → OptionalWrittenFor mask content sizes type value (select chunk places)
kept_optional mask content keep law sizes (fixed width components sign) value chunk places each w = absurd w
kept_optional mask content keep law sizes text value chunk places each w = absurd w
kept_optional mask content keep law sizes bytes value chunk places each w = absurd w
kept_optional mask content keep law sizes (optional type) value chunk places each w =
    let picked = select chunk places in
    record {
      mask_part = w.mask_part;
      data_part = w.data_part;
      small = w.small;
      parts = w.parts;
      mask_written = subst (mask sizes flag_type (0 ∷ []) w.mask_part) (flags_kept keep type picked) w.mask_written;
      data_written = kept_part content keep law type (blank_fill type) w.data_part (present_of picked) (present_are type picked (optional_selected type chunk places each))
          (subst (λ (chunk : Chunk). in_a_row (w.data_part ≡ []) (λ sizes. content sizes type (blank_fill type) w.data_part chunk) (length chunk)) (present_kept keep type picked) w.data_written);
    }

-- ---- packbits

pub kept_packed : (settings : PackBitsSettings) (sizes : List ℕ) (type : ElementType) (fill value : List ℕ) (chunk : Chunk) → AreElements type chunk → PackBitsWritten settings (form_of sizes type fill) value (normal_chunk settings type chunk) → PackBitsWritten settings (form_of sizes type fill) value chunk
kept_packed settings sizes type fill value chunk each written =
    let l = written.layout in
    let own = value_with l (chunk_stream l chunk) in
    let is : IsChunk type (product sizes) chunk = record { count_is = sym (length-map chunk (packbits_element settings type)) ∙ written.elements.count_is; each = each } in
    let normal = packbits.normal_written settings sizes type fill own chunk (record { layout = l; taken = written.taken; elements = is; spelt = refl }) in
    let same : l ≡ normal.layout = ok_is l normal.layout (sym written.taken ∙ normal.taken) in
    record {
      layout = l;
      taken = written.taken;
      elements = is;
      spelt = written.spelt ∙ ap (λ k. value_with k (chunk_stream k (normal_chunk settings type chunk))) same ∙ sym normal.spelt;
    }

-- ---- chains

pub through_kept : {B : Type 0} (f : BytesCodecs B) (arrays : List ArrayMapping) (measure : Measure) (content : Standing) (outer : List B) (keep : Keeping) → KeepsTypes keep → KeepsAbsent keep → WrittenKept content keep → WrittenKept (WrittenThrough f arrays measure content outer) keep
through_kept f arrays measure content outer keep types absents law sizes type fill value chunk w = record {
  map_is = w.map_is;
  size = w.size;
  below = w.below;
  mapped = w.mapped;
  measured = w.measured;
  countable = w.countable;
  elements = kept_elements keep types type (product sizes) chunk w.elements;
  written = subst (content w.map_is.encoded type fill w.below) (kept_selected keep absents type chunk (origins w.map_is)) (law w.map_is.encoded type fill w.below (moved_chunk w.map_is chunk) w.written);
  around = w.around;
}

pub kept_through : {B : Type 0} (f : BytesCodecs B) (arrays : List ArrayMapping) (measure : Measure) (content : Standing) (outer : List B) (keep : Keeping) → KeepsAbsent keep → KeptSelected content keep → KeptWritten (WrittenThrough f arrays measure content outer) keep
kept_through f arrays measure content outer keep absents law sizes type fill value chunk is w = record {
  map_is = w.map_is;
  size = w.size;
  below = w.below;
  mapped = w.mapped;
  measured = w.measured;
  countable = w.countable;
  elements = is;
  written = law w.map_is.encoded type fill w.below chunk (origins w.map_is) is.each (subst (content w.map_is.encoded type fill w.below) (sym (kept_selected keep absents type chunk (origins w.map_is))) w.written);
  around = w.around;
}
