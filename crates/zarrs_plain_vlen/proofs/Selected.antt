-- A read in part of a value that whole decode reads.
use Rattle.std.proofs.Common.{◌≡◌, ℕ, zero, suc, ◌+◌, ◌-◌, ◌*◌, ◌<◌, ◌≤◌, ◌^◌, ◌&&◌, ◌||◌, ◌==◌, nat_lt, nat_le, if◌then◌else◌, Bool, true, false, Option, Some, None, Err, List, [], ◌∷◌, ◌++◌, length, map, get_or, slice_index, Result, Ok, arith, refl, ap, ap₂, sym, ◌∙◌, eqb-true}
use Rattle.std.specs.List.{All, flat_map, list_all, range_with_len}
use Rattle.std.proofs.lemmas.Bool.Decides.{nat_tests}
use Rattle.std.proofs.lemmas.List.Elements.{All-tail}
use Rattle.std.proofs.lemmas.List.FromFn.{get_or-map-range_with_len, length-map-range_with_len}
use Rattle.zarrs_chunk.specs.Answer.{◌>>=◌, demand, checked_u64, seen}
use Rattle.zarrs_chunk.specs.AnswerLaws.{demand_ok}
use Rattle.zarrs_chunk.specs.ChunkShape.{product}
use Rattle.zarrs_chunk.specs.Selection.{Selection, places_of}
use Rattle.zarrs_chunk.proofs.PlaceLaws.{known_below}
use Rattle.zarrs_chain_meaning.specs.CodecMeaning.{bytes_codec, meaning, codec_representation, codec_chunk, CodecStands}
use Rattle.zarrs_chain_meaning.specs.Meaning.{Decoder, around_chunk, in_a_row}
use Rattle.zarrs_chain_meaning.specs.vlen.Vlen.{vlen_chunk, vlen_value_parts, slices}
use Rattle.zarrs_chain_meaning.specs.Parts.{all_bytes, byte_type}
use Rattle.zarrs_chunk.specs.declared.codec_error.CodecError.{CodecError}
use Rattle.zarrs_chunk.specs.declared.codec_error.CodecError.TheVariants.{InvalidBytesLength, InvalidByteRange, Overflow, EndiannessMissing}
use Rattle.zarrs_data_type.specs.Element.{Element, plain, absent, Chunk}
use Rattle.zarrs_data_type.specs.ElementType.{ElementType}
use Rattle.zarrs_data_type.specs.Form.{form_of}
use Rattle.zarrs_data_type.specs.declared.endianness.Endianness.{Endianness}
use Rattle.zarrs_data_type.specs.declared.endianness.Endianness.TheVariants.{Little, Big}
use Rattle.zarrs_array_bytes.specs.Elements.{cut, piece, select}
use Rattle.zarrs_array_bytes.specs.Offsets.{is_offsets, last_of}
use Rattle.zarrs_array_bytes.proofs.ElementLemmas.{length_piece}
use Rattle.zarrs_array_bytes.proofs.OffsetLemmas.{rising_steps, rising_last, flat_map-concat}
use Rattle.zarrs_array_bytes.proofs.Pieces.{concat-pieces}
use Rattle.zarrs_codec.specs.BytesToBytesCodec.{BytesCodecs}
use Rattle.zarrs_codec.specs.CoordinateMap.{moved_chunk, same_places}
use Rattle.zarrs_codec.specs.declared.bytes_representation.BytesRepresentation.TheVariants.{FixedSize}
use Rattle.zarrs_array_to_array.specs.ArrayToArrayCodec.{IsMapping}
use Rattle.zarrs_array_to_array.proofs.CoordinateMaps.{kept_places}
use Rattle.zarrs_array_bytes.proofs.ReversedPieces.{reversed_pieces-single}
use Rattle.zarrs_bytes.specs.ByteOrder.{bytes_of, has_order}
use Rattle.zarrs_bytes.specs.BytesCodec.{bytes_chunk, bytes_length, bytes_element}
use Rattle.zarrs_bytes.proofs.Coding.{ok, bind_ok}
use Rattle.zarrs_chain_meaning.proofs.ArraySteps.{err, ok_is, next_answer}
use Rattle.zarrs_chain_meaning.proofs.CodecLaws.{chunk_only}
use Rattle.zarrs_plain_vlen.specs.Laws.{VlenReadSelects, PartSelects}
use Rattle.zarrs_chain_meaning.specs.vlen.PlainVlen.{plain_codec_of}
use Rattle.zarrs_chain_meaning.specs.vlen.PlainForm.{PlainForm}
use Rattle.zarrs_plain_vlen.specs.VlenRead.{element_is_there, offsets_read, elements_read, vlen_read}
use Rattle.zarrs_plain_vlen.proofs.IndexOffsets.{offsets_long, offsets_rise, row_is}
use Rattle.zarrs_chain_meaning.proofs.VlenOffsets.{rises_are}

-- what the codec `bytes` reads
abbrev pub bytes_decoder : Option Endianness → Decoder
bytes_decoder order sizes type fill value = bytes_chunk order (form_of sizes type fill) value

one_byte : (order : Option Endianness) (part : List ℕ) (place : ℕ) → place + 1 ≤ length part → bytes_of (bytes_element order byte_type part place) ≡ piece 1 part place
one_byte None part place h = refl
one_byte (Some Little) part place h = refl
one_byte (Some Big) part place h =
    let long : length (piece 1 part place) ≡ 1 * 1 = length_piece 1 place part (omega arith) in
    reversed_pieces-single 1 1 (piece 1 part place) (omega arith) long

bytes_from : (order : Option Endianness) (part : List ℕ) (s n : ℕ) → s + n ≤ length part → all_bytes (map (bytes_element order byte_type part) (range_with_len s n)) ≡ flat_map (piece 1 part) (range_with_len s n)
bytes_from order part s zero h = refl
bytes_from order part s (suc n) h =
    ap₂ (λ (x y : List ℕ). x ++ y) (one_byte order part s (omega arith)) (bytes_from order part (s + 1) n (omega arith))

-- the bytes that single bytes as elements are
bytes_back : (order : Option Endianness) (part : List ℕ) (n : ℕ) → length part ≡ n → all_bytes (map (bytes_element order byte_type part) (range_with_len 0 n)) ≡ part
bytes_back order part n e =
    bytes_from order part 0 n (omega (arith, e))
    ∙ flat_map-concat (piece 1 part) (range_with_len 0 n)
    ∙ concat-pieces 1 n part (let l : length part ≡ n * 1 = omega (arith, e) in l)

checked_if : (test : Bool) (a b : ℕ) → nat_lt a (2 ^ 64) ≡ test → (if test then ok a else err Overflow) ≡ Ok b → b ≡ a
checked_if true a b t h = sym (ok_is a b h)
checked_if false a b t h = absurd cc

pub checked_is : (a b : ℕ) → checked_u64 a ≡ Ok b → b ≡ a
checked_is a b h = checked_if (nat_lt a (2 ^ 64)) a b refl h

data_length : (order : Option Endianness) (n len : ℕ) → bytes_length order (form_of (n ∷ []) byte_type (0 ∷ [])) ≡ Ok len → len ≡ n
data_length order n len h =
    let c = bind_ok (checked_u64 (product (n ∷ []))) (λ count. checked_u64 (count * 1) >>= λ len. demand (has_order order 8) EndiannessMissing >>= λ _. ok len) len h in
    let s = bind_ok (checked_u64 (c.0 * 1)) (λ len. demand (has_order order 8) EndiannessMissing >>= λ _. ok len) len c.2 in
    let o = bind_ok (demand (has_order order 8) EndiannessMissing) (λ _. ok s.0) len s.2 in
    let one = checked_is (product (n ∷ [])) c.0 c.1 in
    let two = checked_is (c.0 * 1) s.0 s.1 in
    sym (ok_is s.0 len o.2) ∙ omega (arith, one, two)

-- the data of an index: as many bytes as the last offset says; where these are none, any
data_known : (order : Option Endianness) (last : ℕ) (part : List ℕ) (chunk : Chunk) → in_a_row (Ok []) (λ sizes. bytes_decoder order sizes byte_type (0 ∷ []) part) last ≡ Ok chunk → 0 < last → (length part ≡ last) × (all_bytes chunk ≡ part)
data_known order zero part chunk e some = absurd (omega arith)
data_known order (suc n) part chunk e some =
    let l = bind_ok (bytes_length order (form_of (suc n ∷ []) byte_type (0 ∷ []))) _ chunk e in
    let d = bind_ok (demand (length part == l.0) (InvalidBytesLength (length part) l.0)) _ chunk l.2 in
    let long : length part ≡ l.0 = eqb-true (length part) l.0 (demand_ok (length part == l.0) (InvalidBytesLength (length part) l.0) d.1) in
    let size : l.0 ≡ suc n = data_length order (suc n) l.0 l.1 in
    (long ∙ size, ap all_bytes (sym (ok_is _ chunk d.2)) ∙ ap (λ k. all_bytes (map (bytes_element order byte_type part) (range_with_len 0 k))) (row_is (suc n)) ∙ bytes_back order part (suc n) (long ∙ size))

-- ---- elements

select_slices : (count : ℕ) (offsets items places : List ℕ) → All (λ place. place < count) places → select (slices count offsets items) places ≡ map (λ place. plain (cut offsets items place)) places
select_slices count offsets items [] h = refl
select_slices count offsets items (place ∷ places) h =
    let f : ℕ → Element = λ place. plain (cut offsets items place) in
    let first : get_or (map f (range_with_len 0 count)) place absent ≡ f place = get_or-map-range_with_len f 0 count place place absent (h 0 place (omega arith)) (omega arith) in
    ap₂ (λ (x : Element) (xs : Chunk). x ∷ xs) first (select_slices count offsets items places (All-tail (λ p. p < count) place places h))

there_if : (empty : Bool) (a b last size : ℕ) → nat_le last 0 ≡ empty → a ≤ b → b ≤ last → (0 < last → size ≡ last) → (nat_le b a || nat_le b size) ≡ true
there_if true a b last size t h l whole = grind (arith, nat_tests)
there_if false a b last size t h l whole =
    let some : 0 < last = grind (arith, nat_tests) in
    let size_is : size ≡ last = whole some in
    grind (arith, nat_tests)

-- elements of data that are as many as the last offset says are there, and so are those of none
there_one : (offsets : List ℕ) (size place : ℕ) → is_offsets offsets ≡ true → place + 1 < length offsets → (0 < last_of offsets → size ≡ last_of offsets) → element_is_there offsets size place ≡ true
there_one offsets size place rising known whole =
    there_if (nat_le (last_of offsets) 0) (slice_index offsets place) (slice_index offsets (place + 1)) (last_of offsets) size refl (rising_steps offsets rising place known) (rising_last offsets rising (place + 1) known) whole

there_all : (offsets : List ℕ) (size count : ℕ) (places : List ℕ) → is_offsets offsets ≡ true → length offsets ≡ count + 1 → (0 < last_of offsets → size ≡ last_of offsets) → All (λ place. place < count) places → list_all (element_is_there offsets size) places ≡ true
there_all offsets size count [] rising long whole h = refl
there_all offsets size count (place ∷ places) rising long whole h =
    let below : place < count = h 0 place (omega arith) in
    ap₂ (λ (a b : Bool). a && b) (there_one offsets size place rising (omega (arith, long, below)) whole) (there_all offsets size count places rising long whole (All-tail (λ p. p < count) place places h))

cut_if : (empty : Bool) (offsets items content : List ℕ) (place : ℕ) → nat_le (last_of offsets) 0 ≡ empty → slice_index offsets (place + 1) ≤ last_of offsets → (0 < last_of offsets → items ≡ content) → cut offsets items place ≡ cut offsets content place
cut_if true offsets items content place t top whole =
    let none : slice_index offsets (place + 1) - slice_index offsets place ≡ 0 = grind (arith, nat_tests) in
    rw none refl
cut_if false offsets items content place t top whole =
    let some : 0 < last_of offsets = grind (arith, nat_tests) in
    ap (λ (xs : List ℕ). cut offsets xs place) (whole some)

cut_one : (offsets items content : List ℕ) (place : ℕ) → is_offsets offsets ≡ true → place + 1 < length offsets → (0 < last_of offsets → items ≡ content) → cut offsets items place ≡ cut offsets content place
cut_one offsets items content place rising known whole = cut_if (nat_le (last_of offsets) 0) offsets items content place refl (rising_last offsets rising (place + 1) known) whole

cuts_all : (offsets items content : List ℕ) (count : ℕ) (places : List ℕ) → is_offsets offsets ≡ true → length offsets ≡ count + 1 → (0 < last_of offsets → items ≡ content) → All (λ place. place < count) places
    → map (λ place. plain (cut offsets items place)) places ≡ map (λ place. plain (cut offsets content place)) places
cuts_all offsets items content count [] rising long whole h = refl
cuts_all offsets items content count (place ∷ places) rising long whole h =
    let below : place < count = h 0 place (omega arith) in
    ap₂ (λ (x : List ℕ) (xs : Chunk). plain x ∷ xs) (cut_one offsets items content place rising (omega (arith, long, below)) whole) (cuts_all offsets items content count places rising long whole (All-tail (λ p. p < count) place places h))

-- ---- the law

whole_selects : (form : PlainForm) (order : Option Endianness) (count : ℕ) (value : List ℕ) (chunk : Chunk) (places : List ℕ)
    → vlen_chunk form.wide form.at_end (bytes_decoder (Some form.order)) (bytes_decoder order) count value ≡ Ok chunk → All (λ place. place < count) places
    → vlen_read form count value places ≡ Ok (select chunk places)
whole_selects form order count value chunk places e below =
    let parts = bind_ok (vlen_value_parts form.at_end value) _ chunk e in
    let index = parts.0.0 in
    let content = parts.0.1 in
    let found = bind_ok (offsets_read form count index) _ chunk parts.2 in
    let offsets = found.0 in
    let read = found.1 in
    let items = bind_ok (in_a_row (Ok []) (λ sizes. bytes_decoder order sizes byte_type (0 ∷ []) content) (last_of offsets)) _ chunk found.2 in
    let is : slices count offsets (all_bytes items.0) ≡ chunk = ok_is _ chunk items.2 in
    let long : length offsets ≡ count + 1 = offsets_long form count index offsets read in
    let up : is_offsets offsets ≡ true = rises_are offsets (omega (arith, long)) ∙ offsets_rise form count index offsets read in
    let known = data_known order (last_of offsets) content items.0 items.1 in
    let there : list_all (element_is_there offsets (length content)) places ≡ true = there_all offsets (length content) count places up long (λ some. (known some).0) below in
    next_answer (vlen_value_parts form.at_end value) parts.0 (λ p. offsets_read form count p.0 >>= λ os. elements_read os p.1 places) parts.1
    ∙ next_answer (offsets_read form count index) offsets (λ os. elements_read os content places) read
    ∙ ap (λ (b : Bool). demand b InvalidByteRange >>= λ _. ok (map (λ place. plain (cut offsets content place)) places)) there
    ∙ ap ok (sym (cuts_all offsets (all_bytes items.0) content count places up long (λ some. (known some).1) below))
    ∙ ap ok (sym (select_slices count offsets (all_bytes items.0) places below))
    ∙ ap (λ (c : Chunk). ok (select c places)) is

-- ---- chains of a lone codec `bytes`

lone_if : (test : Bool) (sizes : List ℕ) (cause : CodecError) (chunk : Chunk) → length chunk ≡ product sizes
    → ((demand test cause >>= λ _. ok chunk) >>= λ c. ok (moved_chunk (same_places sizes) c)) ≡ (demand test cause >>= λ _. ok chunk)
lone_if true sizes cause chunk long = ap ok (kept_places sizes chunk long)
lone_if false sizes cause chunk long = refl

lone_at : (order : Option Endianness) (sizes : List ℕ) (type : ElementType) (fill value : List ℕ) (r : Result ℕ CodecError)
    → let read : Result Chunk CodecError = r >>= λ len. demand (length value == len) (InvalidBytesLength (length value) len) >>= λ _. ok (map (bytes_element order type value) (range_with_len 0 (product sizes))) in
    (seen FixedSize r >>= λ _. read >>= λ c. ok (moved_chunk (same_places sizes) c)) ≡ read
lone_at order sizes type fill value (Ok len) =
    lone_if (length value == len) sizes (InvalidBytesLength (length value) len) (map (bytes_element order type value) (range_with_len 0 (product sizes))) (length-map-range_with_len (bytes_element order type value) 0 (product sizes))
lone_at order sizes type fill value (Err e) = refl

-- such a chain reads what the codec reads
lone_chain : {B : Type 0} (f : BytesCodecs B) (order : Option Endianness) (sizes : List ℕ) (type : ElementType) (fill value : List ℕ)
    → around_chunk f [] (codec_representation f (bytes_codec order)) (codec_chunk f (bytes_codec order)) [] sizes type fill value ≡ bytes_decoder order sizes type fill value
unfolding meaning
lone_chain f order sizes type fill value = lone_at order sizes type fill value (bytes_length order (form_of sizes type fill))

plain_chunk : {B : Type 0} (f : BytesCodecs B) (form : PlainForm) (order : Option Endianness) (sizes : List ℕ) (type : ElementType) (fill value : List ℕ)
    → codec_chunk f (plain_codec_of form order) sizes type fill value ≡ vlen_chunk form.wide form.at_end (bytes_decoder (Some form.order)) (bytes_decoder order) (product sizes) value
unfolding meaning
plain_chunk f form order sizes type fill value =
    λ k. vlen_chunk form.wide form.at_end (λ s t l v. lone_chain f (Some form.order) s t l v k) (λ s t l v. lone_chain f order s t l v k) (product sizes) value

-- a read of places inside selects the elements of the chunk that whole decode answers
pub decoded_selects : {B : Type 0} (f : BytesCodecs B) (form : PlainForm) (order : Option Endianness) (sizes : List ℕ) (type : ElementType) (fill value : List ℕ) (chunk : Chunk) (places : List ℕ)
    → codec_chunk f (plain_codec_of form order) sizes type fill value ≡ Ok chunk → All (λ place. place < product sizes) places → vlen_read form (product sizes) value places ≡ Ok (select chunk places)
decoded_selects f form order sizes type fill value chunk places e below =
    whole_selects form order (product sizes) value chunk places (sym (plain_chunk f form order sizes type fill value) ∙ e) below

none_mapping : All IsMapping []
none_mapping = λ k d l. absurd (omega arith)

pub read_selects : {B : Type 0} (f : BytesCodecs B) → VlenReadSelects f
unfolding meaning
read_selects f form order sizes type fill value chunk places positive stands below =
    decoded_selects f form order sizes type fill value chunk places
    (chunk_only f (plain_codec_of form order) ((none_mapping, tt), (none_mapping, tt)) sizes type fill value chunk positive stands)
    below

part_if : {B : Type 0} (f : BytesCodecs B) (form : PlainForm) (order : Option Endianness) (sizes : List ℕ) (type : ElementType) (fill value : List ℕ) (chunk : Chunk) (selection : Selection) (r : Result (List ℕ) CodecError)
    → All (λ size. 0 < size) sizes → CodecStands f (plain_codec_of form order) sizes type fill value chunk → places_of selection sizes ≡ r
    → (r >>= λ places. vlen_read form (product sizes) value places) ≡ seen (select chunk) r
part_if f form order sizes type fill value chunk selection (Ok places) positive stands e =
    read_selects f form order sizes type fill value chunk places positive stands (known_below selection sizes places e)
part_if f form order sizes type fill value chunk selection (Err cause) positive stands e = refl

pub part_selects : {B : Type 0} (f : BytesCodecs B) → PartSelects f
part_selects f form order sizes type fill value chunk selection positive stands =
    part_if f form order sizes type fill value chunk selection (places_of selection sizes) positive stands refl
