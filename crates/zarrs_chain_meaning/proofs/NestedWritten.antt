-- For a chunk at most one value is written, by chains with chains inside too.
use Rattle.zarrs_data_type.specs.Form.{form_of}
use Rattle.std.proofs.Common.{◌≡◌, ℕ, Bool, List, [], ◌∷◌, length, map, ap, sym, subst, ◌∙◌}
use Rattle.zarrs_data_type.specs.ElementType.{ElementType, fixed, text, bytes, optional}
use Rattle.zarrs_data_type.specs.Element.{Chunk}
use Rattle.zarrs_codec.specs.BytesToBytesCodec.{BytesCodecs}
use Rattle.zarrs_codec.specs.CoordinateMap.{CoordinateMap, moved_chunk}
use Rattle.zarrs_array_to_array.specs.ArrayToArrayCodec.{ArrayMapping}
use Rattle.zarrs_packbits.specs.BitStream.{chunk_stream}
use Rattle.zarrs_packbits.specs.PackBitsCodec.{PackBitsWritten}
use Rattle.zarrs_packbits.specs.PackBitsSettings.{PackBitsSettings}
use Rattle.zarrs_packbits.specs.PaddingByte.{value_with}
use Rattle.zarrs_chain_meaning.specs.BytesStages.{outer_value}
use Rattle.zarrs_chain_meaning.specs.vlen.Vlen.{chunk_offsets, offset_bytes, offset_elements, offset_type, VlenWritten, arranged}
use Rattle.zarrs_chain_meaning.specs.Parts.{byte_elements, all_bytes, byte_type, part_length_bytes}
use Rattle.zarrs_chain_meaning.specs.optional.Optional.{flag_of, present_of, optional_layout, flag_type, blank_fill, OptionalWritten}
use Rattle.zarrs_chain_meaning.specs.Meaning.{Measure, Standing, WrittenThrough, Keeping, in_a_row}
use Rattle.zarrs_chain_meaning.proofs.ArraySteps.{ok_is}
use Rattle.zarrs_chain_meaning.proofs.OptionalFor.{OptionalWrittenFor}

-- for a chunk at most one value is written
abbrev pub WritesOnce : Standing → Type 0
WritesOnce write =
    (sizes : List ℕ) (type : ElementType) (fill value other : List ℕ) (chunk : Chunk)
    → write sizes type fill value chunk → write sizes type fill other chunk → value ≡ other

pub packed_once : (settings : PackBitsSettings) → WritesOnce (λ sizes type fill. PackBitsWritten settings (form_of sizes type fill))
packed_once settings sizes type fill value other chunk one two =
    let same : one.layout ≡ two.layout = ok_is one.layout two.layout (sym one.taken ∙ two.taken) in
    one.spelt ∙ ap (λ l. value_with l (chunk_stream l chunk)) same ∙ sym two.spelt

part_once : (write : Standing) → WritesOnce write → (type : ElementType) (fill part other : List ℕ) (chunk : Chunk) → in_a_row (part ≡ []) (λ sizes. write sizes type fill part chunk) (length chunk) → in_a_row (other ≡ []) (λ sizes. write sizes type fill other chunk) (length chunk) → part ≡ other
part_once write one type fill part other [] a b = a ∙ sym b
part_once write one type fill part other (x ∷ chunk) a b = one (length (x ∷ chunk) ∷ []) type fill part other (x ∷ chunk) a b

pub vlen_once : (wide at_end : Bool) (keep : Keeping) (index content : Standing) → WritesOnce index → WritesOnce content → (value other : List ℕ) (chunk : Chunk)
    → VlenWritten wide at_end keep index content value chunk → VlenWritten wide at_end keep index content other chunk → value ≡ other
vlen_once wide at_end keep index content i d value other chunk a b =
    let offsets = offset_elements wide (chunk_offsets chunk) in
    let indices : a.index_part ≡ b.index_part = i (length offsets ∷ []) (offset_type wide) (offset_bytes wide 0) a.index_part b.index_part offsets a.index_written b.index_written in
    let items : a.data_part ≡ b.data_part = part_once content d byte_type (0 ∷ []) a.data_part b.data_part (byte_elements (all_bytes chunk)) a.data_written b.data_written in
    a.parts ∙ (λ k. arranged at_end (part_length_bytes (indices k)) (indices k) (items k)) ∙ sym b.parts

optional_once : (mask content : Standing) → WritesOnce mask → WritesOnce content → (sizes : List ℕ) (type : ElementType) (value other : List ℕ) (chunk : Chunk)
    → OptionalWritten mask content sizes type value chunk → OptionalWritten mask content sizes type other chunk → value ≡ other
optional_once mask content m d sizes type value other chunk a b =
    let flags : a.mask_part ≡ b.mask_part = m sizes flag_type (0 ∷ []) a.mask_part b.mask_part (map flag_of chunk) a.mask_written b.mask_written in
    let items : a.data_part ≡ b.data_part = part_once content d type (blank_fill type) a.data_part b.data_part (present_of chunk) a.data_written b.data_written in
    a.parts ∙ (λ k. optional_layout (flags k) (items k)) ∙ sym b.parts

pub optional_once_for : (mask content : Standing) → WritesOnce mask → WritesOnce content → (sizes : List ℕ) (type : ElementType) (value other : List ℕ) (chunk : Chunk)
    → OptionalWrittenFor mask content sizes type value chunk → OptionalWrittenFor mask content sizes type other chunk → value ≡ other
optional_once_for mask content m d sizes (fixed width components sign) value other chunk a b = absurd a
optional_once_for mask content m d sizes text value other chunk a b = absurd a
optional_once_for mask content m d sizes bytes value other chunk a b = absurd a
optional_once_for mask content m d sizes (optional type) value other chunk a b = optional_once mask content m d sizes type value other chunk a b

pub through_once : {B : Type 0} (f : BytesCodecs B) (arrays : List ArrayMapping) (measure : Measure) (content : Standing) (outer : List B) → WritesOnce content → WritesOnce (WrittenThrough f arrays measure content outer)
through_once f arrays measure content outer one sizes type fill value other chunk a b =
    let m : a.map_is ≡ b.map_is = ok_is a.map_is b.map_is (sym a.mapped ∙ b.mapped) in
    let second : content a.map_is.encoded type fill b.below (moved_chunk a.map_is chunk)
    = subst (λ (x : CoordinateMap). content x.encoded type fill b.below (moved_chunk x chunk)) (sym m) b.written in
    let below : a.below ≡ b.below = one a.map_is.encoded type fill a.below b.below (moved_chunk a.map_is chunk) a.written second in
    ok_is value other (sym a.around ∙ ap (outer_value f outer) below ∙ b.around)
