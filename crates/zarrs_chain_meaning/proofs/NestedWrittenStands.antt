-- What is written for a chunk stands for its normal form, through chains inside too.
use Rattle.std.proofs.Common.{◌≡◌, ℕ, zero, suc, ◌+◌, ◌<◌, ◌^◌, nat_lt, Bool, true, List, [], ◌∷◌, ◌++◌, length, get_or, map, Ok, arith, refl, ap, sym, subst, ◌∙◌}
use Rattle.std.specs.List.{All}
use Rattle.std.proofs.lemmas.List.{length-append, length-map}
use Rattle.zarrs_chunk.specs.Answer.{demand}
use Rattle.zarrs_chunk.specs.ChunkShape.{product}
use Rattle.zarrs_chunk.specs.declared.codec_error.CodecError.TheVariants.{Overflow}
use Rattle.zarrs_data_type.specs.ElementType.{ElementType, fixed, text, bytes, optional, is_variable}
use Rattle.zarrs_data_type.specs.Element.{Element, absent, Chunk, IsElement, AreElements}
use Rattle.zarrs_array_bytes.specs.Offsets.{rises, last_of}
use Rattle.zarrs_array_bytes.specs.Validity.{sizes_fit}
use Rattle.zarrs_codec.specs.BytesToBytesCodec.{BytesCodecs, IsLawful}
use Rattle.zarrs_codec.specs.CoordinateMap.{CoordinateMap, IsCoordinateMap, origins, moved_chunk}
use Rattle.zarrs_codec.specs.declared.bytes_representation.BytesRepresentation.{BytesRepresentation}
use Rattle.zarrs_array_to_array.specs.ArrayToArrayCodec.{ArrayMapping, IsMapping}
use Rattle.zarrs_array_to_array.proofs.CoordinateMaps.{length-moved, moved_at}
use Rattle.zarrs_bytes.specs.BytesCodec.{IsChunk}
use Rattle.zarrs_bytes.proofs.Coding.{demand_ok}
use Rattle.zarrs_packbits.specs.Laws.{HasBytes}
use Rattle.zarrs_chunk.proofs.Inside.{from_lt_test}
use Rattle.zarrs_chain_meaning.specs.vlen.Vlen.{offsets_in_chunk, slices, chunk_offsets, offset_bytes, offset_elements, vlen_normal, offset_type, vlen_representation, VlenStands, VlenWritten}
use Rattle.zarrs_chain_meaning.specs.Parts.{part_length_bytes, byte_elements, all_bytes, byte_type}
use Rattle.zarrs_chain_meaning.specs.optional.Optional.{flag_of, present_of, optional_layout, optional_normal, flag_type, blank_fill}
use Rattle.zarrs_chain_meaning.specs.Meaning.{Measure, Standing, StandsThrough, WrittenThrough, Keeping, in_a_row}
use Rattle.zarrs_chain_meaning.proofs.NestedFlags.{KeepsFlags, flags_stay}
use Rattle.zarrs_chain_meaning.proofs.NestedForNormal.{IsStringKept, text_kept, bytes_kept, offsets_kept, all_kept, items_kept, flags_kept, present_kept}
use Rattle.zarrs_chain_meaning.proofs.NestedKept.{KeepsSize, offsets_have, items_have, all_are, flags_have, present_have, length_long}
use Rattle.zarrs_chain_meaning.proofs.NestedNormal.{KeepsTypes, KeepsAbsent, kept_byte, all_kept_are, kept_elements, kept_selected}
use Rattle.zarrs_chain_meaning.proofs.NestedRows.{length_again, index_small, offsets_again, offsets_rise, offsets_last, offsets_long, slices_again, items_again, items_long}
use Rattle.zarrs_chain_meaning.proofs.NestedStages.{all_selected, outer_opened, arrays_are_map, row_positive}
use Rattle.zarrs_chain_meaning.proofs.OptionalFor.{OptionalStandsFor, OptionalWrittenFor}

-- what a chain writes stands for what is kept
abbrev pub StandsKept : Standing → Standing → Keeping → Type 0
StandsKept write stand keep =
    (sizes : List ℕ) (type : ElementType) (fill value : List ℕ) (chunk : Chunk)
    → All (λ size. 0 < size) sizes → All HasBytes chunk → write sizes type fill value chunk → stand sizes type fill value (map (keep type) chunk)

-- what an array-to-bytes codec writes of a chunk that it takes
abbrev pub StandsTaken : Standing → Standing → Measure → Keeping → Type 0
StandsTaken write stand measure keep =
    (sizes : List ℕ) (type : ElementType) (fill value : List ℕ) (chunk : Chunk) (r : BytesRepresentation)
    → All (λ size. 0 < size) sizes → All HasBytes chunk → IsChunk type (product sizes) chunk → sizes_fit type (product sizes) ≡ Ok tt → measure sizes type fill ≡ Ok r
    → write sizes type fill value chunk → stand sizes type fill value (map (keep type) chunk)

-- ---- parts

part_stands : (write stand : Standing) (keep : Keeping) → StandsKept write stand keep → (type : ElementType) (fill part : List ℕ) (chunk : Chunk) → All HasBytes chunk → in_a_row (part ≡ []) (λ sizes. write sizes type fill part chunk) (length chunk) → in_a_row (Unit {0}) (λ sizes. stand sizes type fill part (map (keep type) chunk)) (length (map (keep type) chunk))
part_stands write stand keep law type fill part [] each w = tt
part_stands write stand keep law type fill part (x ∷ chunk) each w =
    subst (λ (n : ℕ). stand (n ∷ []) type fill part (map (keep type) (x ∷ chunk))) (sym (length-map (x ∷ chunk) (keep type)))
    (law (length (x ∷ chunk) ∷ []) type fill part (x ∷ chunk) (row_positive (suc (length chunk)) (omega arith)) each w)

-- ---- strings

string_stands : (wide at_end : Bool) (own keep : Keeping) (iw cw is cs : Standing) (string : Element → Element) → StandsKept iw is own → StandsKept cw cs keep → KeepsTypes keep → IsStringKept keep string
    → (type : ElementType) (count : ℕ) (value : List ℕ) (chunk : Chunk) → is_variable type ≡ true → All HasBytes chunk → length chunk ≡ count → AreElements type (map string chunk) → count + 1 < 2 ^ 64
    → VlenWritten wide at_end own iw cw value chunk → VlenStands wide at_end is cs count value (map string chunk)
string_stands wide at_end own keep iw cw is cs string ilaw claw k s type count value chunk v each long are countable w =
    let offsets = chunk_offsets chunk in
    let items = all_bytes chunk in
    let rows = offset_elements wide offsets in
    let small : length w.index_part < 2 ^ 64 = index_small at_end w.index_part w.data_part (subst (λ (x : List ℕ). length x < 2 ^ 64) w.parts w.small) in
    let numbers : offsets_in_chunk wide rows ≡ offsets = offsets_again wide chunk w.bytes_small w.fit in
    let kept_items = byte_elements (map (kept_byte keep) items) in
    let found : is (length rows ∷ []) (offset_type wide) (offset_bytes wide 0) w.index_part rows =
    subst (is (length rows ∷ []) (offset_type wide) (offset_bytes wide 0) w.index_part) w.kept
    (ilaw (length rows ∷ []) (offset_type wide) (offset_bytes wide 0) w.index_part rows (row_positive (length rows) (omega arith)) (offsets_have wide offsets) w.index_written) in
    let counted : length rows ≡ count + 1 = offsets_long wide chunk ∙ ap (λ (n : ℕ). n + 1) long in
    let all_long : length (map (kept_byte keep) items) ≡ length items = length-map items (kept_byte keep) in
    let again : slices (length (map string chunk)) (chunk_offsets (map string chunk)) (all_bytes (map string chunk)) ≡ map string chunk = slices_again type (map string chunk) v are in
    let strings : length (map string chunk) ≡ count = length-map chunk string ∙ long in
    let offs : chunk_offsets (map string chunk) ≡ offsets_in_chunk wide rows = offsets_kept keep string s chunk ∙ sym numbers in
    let alls : all_bytes (map string chunk) ≡ all_bytes kept_items = all_kept keep string s chunk ∙ sym (items_again (map (kept_byte keep) items)) in
    record {
      head = part_length_bytes w.index_part;
      index_part = w.index_part;
      data_part = w.data_part;
      offset_chunk = rows;
      byte_chunk = kept_items;
      parts = w.parts;
      head_size = length_long w.index_part;
      head_is = length_again w.index_part small;
      countable = countable;
      index_stands = subst (λ (n : ℕ). is (n ∷ []) (offset_type wide) (offset_bytes wide 0) w.index_part rows) counted found;
      rising = ap rises numbers ∙ offsets_rise chunk;
      byte_count = items_long (map (kept_byte keep) items) ∙ all_long ∙ sym (offsets_last chunk) ∙ ap last_of (sym numbers);
      data_stands = subst (λ (chunk : Chunk). in_a_row (Unit {0}) (λ sizes. cs sizes byte_type (0 ∷ []) w.data_part chunk) (length chunk)) (items_kept keep k items) (part_stands cw cs keep claw byte_type (0 ∷ []) w.data_part (byte_elements items) (items_have items (all_are chunk each)) w.data_written);
      elements = sym again ∙ (λ i. slices (strings i) (offs i) (alls i));
    }

one_more : (count : ℕ) → demand (nat_lt (count + 1) (2 ^ 64)) Overflow ≡ Ok tt → count + 1 < 2 ^ 64
one_more count e = from_lt_test (count + 1) (2 ^ 64) (demand_ok (nat_lt (count + 1) (2 ^ 64)) Overflow tt e)

pub vlen_stands : (wide at_end : Bool) (own keep : Keeping) (iw cw is cs : Standing) → StandsKept iw is own → StandsKept cw cs keep → KeepsTypes keep → KeepsTypes (vlen_normal keep)
    → (sizes : List ℕ) (type : ElementType) (fill value : List ℕ) (chunk : Chunk) (r : BytesRepresentation) → All HasBytes chunk → IsChunk type (product sizes) chunk → sizes_fit type (product sizes) ≡ Ok tt → vlen_representation sizes type fill ≡ Ok r
    → VlenWritten wide at_end own iw cw value chunk → VlenStands wide at_end is cs (product sizes) value (map (vlen_normal keep type) chunk)
vlen_stands wide at_end own keep iw cw is cs ilaw claw k t sizes (fixed width components sign) fill value chunk r each h room e w = absurd cc
vlen_stands wide at_end own keep iw cw is cs ilaw claw k t sizes text fill value chunk r each h room e w =
    string_stands wide at_end own keep iw cw is cs (vlen_normal keep text) ilaw claw k (text_kept keep) text (product sizes) value chunk refl each h.count_is (all_kept_are (vlen_normal keep) t text chunk h.each) (one_more (product sizes) room) w
vlen_stands wide at_end own keep iw cw is cs ilaw claw k t sizes bytes fill value chunk r each h room e w =
    string_stands wide at_end own keep iw cw is cs (vlen_normal keep bytes) ilaw claw k (bytes_kept keep) bytes (product sizes) value chunk refl each h.count_is (all_kept_are (vlen_normal keep) t bytes chunk h.each) (one_more (product sizes) room) w
vlen_stands wide at_end own keep iw cw is cs ilaw claw k t sizes (optional type) fill value chunk r each h room e w = absurd cc

-- ---- optional elements

optional_parts : (mask items : List ℕ) → length (optional_layout mask items) ≡ 8 + (8 + (length mask + length items))
optional_parts mask items =
    omega (arith, length-append (part_length_bytes mask) (part_length_bytes items ++ (mask ++ items)), length-append (part_length_bytes items) (mask ++ items), length-append mask items, length_long mask, length_long items)

pub optional_stands : (keep mkeep : Keeping) (mw cw ms cs : Standing) → StandsKept mw ms mkeep → KeepsFlags mkeep → StandsKept cw cs keep → KeepsTypes (optional_normal keep)
    → (sizes : List ℕ) (type : ElementType) (value : List ℕ) (chunk : Chunk) → All (λ size. 0 < size) sizes → All HasBytes chunk → IsChunk type (product sizes) chunk
    → OptionalWrittenFor mw cw sizes type value chunk → OptionalStandsFor ms cs sizes type value (map (optional_normal keep type) chunk)
optional_stands keep mkeep mw cw ms cs mlaw flags claw t sizes (fixed width components sign) value chunk positive each h w = absurd w
optional_stands keep mkeep mw cw ms cs mlaw flags claw t sizes text value chunk positive each h w = absurd w
optional_stands keep mkeep mw cw ms cs mlaw flags claw t sizes bytes value chunk positive each h w = absurd w
optional_stands keep mkeep mw cw ms cs mlaw flags claw t sizes (optional type) value chunk positive each h w =
    let long : length value ≡ 8 + (8 + (length w.mask_part + length w.data_part)) = ap length w.parts ∙ optional_parts w.mask_part w.data_part in
    let lt = w.small in
    let found : ms sizes flag_type (0 ∷ []) w.mask_part (map flag_of chunk) =
    subst (ms sizes flag_type (0 ∷ []) w.mask_part) (flags_stay mkeep flags chunk) (mlaw sizes flag_type (0 ∷ []) w.mask_part (map flag_of chunk) positive (flags_have chunk) w.mask_written) in
    record {
      head = part_length_bytes w.mask_part;
      next = part_length_bytes w.data_part;
      mask_part = w.mask_part;
      data_part = w.data_part;
      parts = w.parts;
      head_size = length_long w.mask_part;
      next_size = length_long w.data_part;
      head_is = length_again w.mask_part (omega (arith, long, lt));
      next_is = length_again w.data_part (omega (arith, long, lt));
      small = w.small;
      elements = record { count_is = length-map chunk (optional_normal keep (optional type)) ∙ h.count_is; each = all_kept_are (optional_normal keep) t (optional type) chunk h.each };
      mask_stands = subst (ms sizes flag_type (0 ∷ []) w.mask_part) (sym (flags_kept keep type chunk)) found;
      data_stands = subst (λ (chunk : Chunk). in_a_row (Unit {0}) (λ sizes. cs sizes type (blank_fill type) w.data_part chunk) (length chunk)) (sym (present_kept keep type chunk)) (part_stands cw cs keep claw type (blank_fill type) w.data_part (present_of chunk) (present_have chunk each) w.data_written);
    }

-- ---- chains

get_or_any : (chunk : Chunk) (k : ℕ) (d e : Element) → k < length chunk → get_or chunk k d ≡ get_or chunk k e
get_or_any [] k d e l = absurd (omega (arith, l))
get_or_any (x ∷ chunk) zero d e l = refl
get_or_any (x ∷ chunk) (suc k) d e l = get_or_any chunk k d e (omega (arith, l))

-- moved elements are elements of the type
pub moved_is : (sizes : List ℕ) (type : ElementType) (m : CoordinateMap) (chunk : Chunk) → IsCoordinateMap sizes m → IsChunk type (product sizes) chunk → IsChunk type (product m.encoded) (moved_chunk m chunk)
moved_is sizes type m chunk h is = record {
  count_is = length-moved m chunk;
  each = λ k d l.
      let here : k < product m.encoded = omega (arith, l, length-moved m chunk) in
      let place : k < product sizes = omega (arith, here, h.count) in
      let from = h.places.from_below k place in
      subst (IsElement type) (sym (get_or_any (moved_chunk m chunk) k d absent l ∙ moved_at m chunk k here)) (is.each (m.from k) absent (omega (arith, from, is.count_is)));
}

pub through_stands : {B : Type 0} (f : BytesCodecs B) → IsLawful f → (arrays : List ArrayMapping) (measure : Measure) (write stand : Standing) (outer : List B) (keep : Keeping) → KeepsTypes keep → KeepsAbsent keep → All IsMapping arrays → KeepsSize write measure → StandsTaken write stand measure keep
    → StandsKept (WrittenThrough f arrays measure write outer) (StandsThrough f arrays measure stand outer) keep
through_stands f lawful arrays measure write stand outer keep types absents mappings sized law sizes type fill value chunk positive each w =
    let h : IsCoordinateMap sizes w.map_is = arrays_are_map arrays sizes type w.map_is mappings positive w.mapped in
    let moved = moved_chunk w.map_is chunk in
    let inside = h.positive positive in
    let kept = sized w.map_is.encoded type fill w.below moved w.size inside (length-moved w.map_is chunk) (all_selected chunk (origins w.map_is) each) w.written w.measured in
    record {
      map_is = w.map_is;
      size = w.size;
      below = w.below;
      mapped = w.mapped;
      measured = w.measured;
      elements = kept_elements keep types type (product sizes) chunk w.elements;
      opened = (outer_opened f outer w.size w.below value lawful kept.each kept.keeps w.around).0;
      stands = subst (stand w.map_is.encoded type fill w.below) (kept_selected keep absents type chunk (origins w.map_is))
          (law w.map_is.encoded type fill w.below moved w.size inside (all_selected chunk (origins w.map_is) each) (moved_is sizes type w.map_is chunk h w.elements) (ap (sizes_fit type) h.count ∙ w.countable) w.measured w.written);
    }
