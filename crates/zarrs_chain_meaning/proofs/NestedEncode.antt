-- What array-to-bytes codecs answer is what is written, with chains inside too.
use Rattle.std.proofs.Common.{◌≡◌, ℕ, ◌<◌, ◌^◌, nat_lt, Bool, true, List, [], ◌∷◌, length, map, Ok, arith, refl, ap, sym, subst, ◌∙◌}
use Rattle.std.proofs.lemmas.Bool.Decides.{nat_tests}
use Rattle.zarrs_data_type.specs.ElementType.{ElementType, fixed, text, bytes, optional}
use Rattle.zarrs_data_type.specs.Element.{Chunk}
use Rattle.zarrs_codec.specs.BytesToBytesCodec.{BytesCodecs}
use Rattle.zarrs_codec.specs.CoordinateMap.{moved_chunk}
use Rattle.zarrs_array_to_array.specs.ArrayToArrayCodec.{ArrayMapping}
use Rattle.zarrs_bytes.specs.ByteOrder.{bytes_of}
use Rattle.zarrs_chain_meaning.specs.BytesStages.{in_memory}
use Rattle.zarrs_chain_meaning.specs.Meaning.{Encoder, around_value, Measure, Standing, WrittenThrough, Keeping, in_a_row}
use Rattle.zarrs_chain_meaning.specs.vlen.Vlen.{chunk_offsets, offset_bytes, offset_elements, offset_fits, is_same_bytes, vlen_value, offset_type, VlenWritten, arranged}
use Rattle.zarrs_chain_meaning.specs.Parts.{byte_elements, all_bytes, byte_type, part_length_bytes}
use Rattle.zarrs_chain_meaning.specs.optional.Optional.{flag_of, present_of, optional_layout, optional_value, flag_type, blank_fill}
use Rattle.zarrs_bytes.proofs.Coding.{ok}
use Rattle.zarrs_array_bytes.specs.SameBytesLaws.{numbers_same}
use Rattle.zarrs_chain_meaning.proofs.OptionalFor.{OptionalWrittenFor}

-- what is written is answered
abbrev pub Encodes : Standing → Encoder → Type 0
Encodes write encode =
    (sizes : List ℕ) (type : ElementType) (fill value : List ℕ) (chunk : Chunk)
    → write sizes type fill value chunk → encode sizes type fill chunk ≡ Ok value

-- ---- steps

small_test : (n : ℕ) → n < 2 ^ 64 → nat_lt n (2 ^ 64) ≡ true
small_test n l = grind (arith, nat_tests)

pub memory_so : (xs : List ℕ) → length xs < 2 ^ 64 → in_memory xs ≡ Ok xs
memory_so xs l = rw (small_test (length xs) l) refl

pub same_bytes : (chunk : Chunk) → is_same_bytes chunk chunk ≡ true
same_bytes [] = refl
same_bytes (element ∷ chunk) = rw (numbers_same (bytes_of element)) (same_bytes chunk)

part_only : (write : Standing) (encode : Encoder) → Encodes write encode → (type : ElementType) (fill part : List ℕ) (chunk : Chunk) → in_a_row (part ≡ []) (λ sizes. write sizes type fill part chunk) (length chunk) → in_a_row (Ok []) (λ sizes. encode sizes type fill chunk) (length chunk) ≡ Ok part
part_only write encode law type fill part [] w = ap ok (sym w)
part_only write encode law type fill part (x ∷ chunk) w = law (length (x ∷ chunk) ∷ []) type fill part (x ∷ chunk) w

-- ---- codecs with chains inside

vlen_steps : (wide at_end : Bool) (keep : Keeping) (index content : Encoder) (chunk : Chunk) (i d : List ℕ) → in_memory (all_bytes chunk) ≡ Ok (all_bytes chunk) → offset_fits wide (length (all_bytes chunk)) ≡ true
    → index (length (offset_elements wide (chunk_offsets chunk)) ∷ []) (offset_type wide) (offset_bytes wide 0) (offset_elements wide (chunk_offsets chunk)) ≡ Ok i
    → is_same_bytes (map (keep (offset_type wide)) (offset_elements wide (chunk_offsets chunk))) (offset_elements wide (chunk_offsets chunk)) ≡ true
    → in_a_row (Ok []) (λ sizes. content sizes byte_type (0 ∷ []) (byte_elements (all_bytes chunk))) (length (byte_elements (all_bytes chunk))) ≡ Ok d
    → vlen_value wide at_end keep index content chunk ≡ in_memory (arranged at_end (part_length_bytes i) i d)
vlen_steps wide at_end keep index content chunk i d a b c e g = rw (a, b, c, e, g) refl

pub vlen_only : (wide at_end : Bool) (keep : Keeping) (iw cw : Standing) (ie ce : Encoder) → Encodes iw ie → Encodes cw ce → (value : List ℕ) (chunk : Chunk)
    → VlenWritten wide at_end keep iw cw value chunk → vlen_value wide at_end keep ie ce chunk ≡ Ok value
vlen_only wide at_end keep iw cw ie ce i d value chunk w =
    let rows = offset_elements wide (chunk_offsets chunk) in
    vlen_steps wide at_end keep ie ce chunk w.index_part w.data_part (memory_so (all_bytes chunk) w.bytes_small) w.fit
    (i (length rows ∷ []) (offset_type wide) (offset_bytes wide 0) w.index_part rows w.index_written)
    (ap (λ (c : Chunk). is_same_bytes c rows) w.kept ∙ same_bytes rows)
    (part_only cw ce d byte_type (0 ∷ []) w.data_part (byte_elements (all_bytes chunk)) w.data_written)
    ∙ memory_so (arranged at_end (part_length_bytes w.index_part) w.index_part w.data_part) (subst (λ (x : List ℕ). length x < 2 ^ 64) w.parts w.small) ∙ ap ok (sym w.parts)

optional_steps : (mask content : Encoder) (sizes : List ℕ) (type : ElementType) (chunk : Chunk) (m d : List ℕ) → mask sizes flag_type (0 ∷ []) (map flag_of chunk) ≡ Ok m → in_a_row (Ok []) (λ sizes. content sizes type (blank_fill type) (present_of chunk)) (length (present_of chunk)) ≡ Ok d
    → optional_value mask content sizes (optional type) chunk ≡ in_memory (optional_layout m d)
optional_steps mask content sizes type chunk m d a b = rw (a, b) refl

pub optional_only : (mw cw : Standing) (me ce : Encoder) → Encodes mw me → Encodes cw ce → (sizes : List ℕ) (type : ElementType) (value : List ℕ) (chunk : Chunk)
    → OptionalWrittenFor mw cw sizes type value chunk → optional_value me ce sizes type chunk ≡ Ok value
optional_only mw cw me ce m d sizes (fixed width components sign) value chunk w = absurd w
optional_only mw cw me ce m d sizes text value chunk w = absurd w
optional_only mw cw me ce m d sizes bytes value chunk w = absurd w
optional_only mw cw me ce m d sizes (optional type) value chunk w =
    optional_steps me ce sizes type chunk w.mask_part w.data_part (m sizes flag_type (0 ∷ []) w.mask_part (map flag_of chunk) w.mask_written) (part_only cw ce d type (blank_fill type) w.data_part (present_of chunk) w.data_written)
    ∙ memory_so (optional_layout w.mask_part w.data_part) (subst (λ (x : List ℕ). length x < 2 ^ 64) w.parts w.small) ∙ ap ok (sym w.parts)

-- ---- chains

pub through_only : {B : Type 0} (f : BytesCodecs B) (arrays : List ArrayMapping) (measure : Measure) (write : Standing) (encode : Encoder) (outer : List B) → Encodes write encode → Encodes (WrittenThrough f arrays measure write outer) (around_value f arrays measure encode outer)
through_only f arrays measure write encode outer law sizes type fill value chunk w =
    rw (w.mapped, w.measured, w.countable, law w.map_is.encoded type fill w.below (moved_chunk w.map_is chunk) w.written) w.around
