-- What the stages of a chain round its array-to-bytes codec do, and the bytes of elements.
use Rattle.std.proofs.Common.{◌≡◌, ℕ, zero, suc, ◌+◌, ◌*◌, ◌-◌, ◌<◌, ◌^◌, nat_lt, if◌then◌else◌, Bool, true, false, Option, Some, None, List, [], ◌∷◌, length, take, drop, get_or, reverse, map, Ok, arith, refl, ap, sym, subst, ◌∙◌}
use Rattle.std.specs.List.{All, concat, range_with_len}
use Rattle.std.proofs.lemmas.List.Elements.{All-append, All-nil, All-cons, All-head, All-tail}
use Rattle.std.proofs.lemmas.Bool.Decides.{nat_tests}
use Rattle.zarrs_chunk.specs.Answer.{◌>>=◌}
use Rattle.zarrs_chunk.specs.declared.codec_error.CodecError.TheVariants.{OutOfMemory}
use Rattle.zarrs_data_type.specs.ElementType.{ElementType, fixed, text, bytes, optional, component_bytes}
use Rattle.zarrs_data_type.specs.Element.{Element, plain, absent, present, Chunk}
use Rattle.zarrs_data_type.specs.declared.endianness.Endianness.{Endianness}
use Rattle.zarrs_data_type.specs.declared.endianness.Endianness.TheVariants.{Little, Big}
use Rattle.zarrs_array_bytes.specs.Elements.{piece, select}
use Rattle.zarrs_codec.specs.BytesToBytesCodec.{BytesCodecs, IsLawful, AreBytes, IsValue, KeepsTo}
use Rattle.zarrs_codec.specs.CoordinateMap.{CoordinateMap, IsCoordinateMap, composition}
use Rattle.zarrs_codec.specs.declared.bytes_representation.BytesRepresentation.{BytesRepresentation}
use Rattle.zarrs_array_to_array.specs.ArrayToArrayCodec.{ArrayMapping, IsMapping, coordinates, chained}
use Rattle.zarrs_array_to_array.proofs.Chains.{chain_map}
use Rattle.zarrs_bytes.specs.ByteOrder.{bytes_of, bytes_in_order, spelled_chunk}
use Rattle.zarrs_bytes.specs.BytesCodec.{spelling}
use Rattle.zarrs_packbits.specs.Laws.{HasBytes}
use Rattle.zarrs_chain_meaning.specs.ArrayStages.{arrays_map}
use Rattle.zarrs_chain_meaning.specs.BytesStages.{in_memory, outer_value, outer_bytes, outer_representation}
use Rattle.zarrs_bytes.proofs.Coding.{ok, bind_ok}
use Rattle.zarrs_chain_meaning.proofs.ArraySteps.{map_parts, next_answer, err, ok_is}
use Rattle.zarrs_codec.specs.SampleLaws.{reversed_are_bytes}

-- ---- bytes

abbrev pub is_byte : ℕ → Type 0
is_byte byte = byte < 256

all_take : (n : ℕ) (xs : List ℕ) → AreBytes xs → AreBytes (take n xs)
all_take zero xs h = All-nil is_byte
all_take (suc n) [] h = All-nil is_byte
all_take (suc n) (x ∷ xs) h = All-cons is_byte x (take n xs) (All-head is_byte x xs h) (all_take n xs (All-tail is_byte x xs h))

all_drop : (n : ℕ) (xs : List ℕ) → AreBytes xs → AreBytes (drop n xs)
all_drop zero xs h = h
all_drop (suc n) [] h = All-nil is_byte
all_drop (suc n) (x ∷ xs) h = all_drop n xs (All-tail is_byte x xs h)

all_pieces : (size : ℕ) (xs : List ℕ) (places : List ℕ) → AreBytes xs → AreBytes (concat (map reverse (map (piece size xs) places)))
all_pieces size xs [] h = All-nil is_byte
all_pieces size xs (place ∷ places) h =
    All-append is_byte (reverse (piece size xs place)) (concat (map reverse (map (piece size xs) places))) (reversed_are_bytes (piece size xs place) (all_take (place * size + size - place * size) (drop (place * size) xs) (all_drop (place * size) xs h))) (all_pieces size xs places h)

all_ordered : (order : Option Endianness) (width components : ℕ) (xs : List ℕ) → AreBytes xs → AreBytes (bytes_in_order order width components xs)
all_ordered None width components xs h = h
all_ordered (Some Little) width components xs h = h
all_ordered (Some Big) width components xs h = all_pieces (component_bytes width) xs (range_with_len 0 components) h

pub element_bytes : (element : Element) → HasBytes element → AreBytes (bytes_of element)
element_bytes (plain items) h = h
element_bytes absent h = All-nil is_byte
element_bytes (present element) h = All-nil is_byte

all_spelled : (order : Option Endianness) (width components : ℕ) (chunk : Chunk) → All HasBytes chunk → AreBytes (spelled_chunk order width components chunk)
all_spelled order width components [] h = All-nil is_byte
all_spelled order width components (element ∷ chunk) h =
    All-append is_byte (bytes_in_order order width components (bytes_of element)) (spelled_chunk order width components chunk) (all_ordered order width components (bytes_of element) (element_bytes element (All-head HasBytes element chunk h))) (all_spelled order width components chunk (All-tail HasBytes element chunk h))

pub spelling_bytes : (order : Option Endianness) (type : ElementType) (chunk : Chunk) → All HasBytes chunk → AreBytes (spelling order type chunk)
spelling_bytes order (fixed width components sign) chunk h = all_spelled order width components chunk h
spelling_bytes order text chunk h = All-nil is_byte
spelling_bytes order bytes chunk h = All-nil is_byte
spelling_bytes order (optional type) chunk h = All-nil is_byte

at_place : (chunk : Chunk) (place : ℕ) → All HasBytes chunk → HasBytes (get_or chunk place absent)
at_place [] place h = tt
at_place (element ∷ chunk) zero h = All-head HasBytes element chunk h
at_place (element ∷ chunk) (suc place) h = at_place chunk place (All-tail HasBytes element chunk h)

-- selected elements have bytes
pub all_selected : (chunk : Chunk) (places : List ℕ) → All HasBytes chunk → All HasBytes (select chunk places)
all_selected chunk [] h = All-nil HasBytes
all_selected chunk (place ∷ places) h = All-cons HasBytes (get_or chunk place absent) (select chunk places) (at_place chunk place h) (all_selected chunk places h)

-- ---- bytes-to-bytes codecs

memory_test : (test : Bool) (xs ys : List ℕ) → (if test then ok xs else err OutOfMemory) ≡ ok ys → (test ≡ true) × (ys ≡ xs)
memory_test true xs ys e = (refl, sym (ok_is xs ys e))
memory_test false xs ys e = absurd cc

pub in_memory_so : (xs ys : List ℕ) → in_memory xs ≡ Ok ys → (length xs < 2 ^ 64) × (ys ≡ xs)
in_memory_so xs ys e =
    let t = memory_test (nat_lt (length xs) (2 ^ 64)) xs ys e in
    (grind (arith, nat_tests, t.0), t.1)

-- each codec's bytes are made of those below, and 64 bits count all of them
abbrev pub OuterWritten : {B : Type 0} → BytesCodecs B → List B → List ℕ → List ℕ → Type 0
OuterWritten f [] below value = (length below < 2 ^ 64) × (value ≡ below)
OuterWritten f (codec ∷ codecs) below value =
    (length below < 2 ^ 64) × OuterWritten f codecs (f.encoded_bytes codec below) value

pub outer_written : {B : Type 0} (f : BytesCodecs B) (codecs : List B) (below value : List ℕ) → outer_value f codecs below ≡ Ok value → OuterWritten f codecs below value
outer_written f [] below value e = in_memory_so below value e
outer_written f (codec ∷ codecs) below value e =
    let a = bind_ok (in_memory below) _ value e in
    let b = in_memory_so below a.0 a.1 in
    (b.0, outer_written f codecs (f.encoded_bytes codec below) value (subst (λ u. outer_value f codecs (f.encoded_bytes codec u) ≡ Ok value) b.1 a.2))

outer_small : {B : Type 0} (f : BytesCodecs B) (codecs : List B) (below value : List ℕ) → OuterWritten f codecs below value → length below < 2 ^ 64
outer_small f [] below value h = h.0
outer_small f (codec ∷ codecs) below value h = h.0

opened : {B : Type 0} (f : BytesCodecs B) (codecs : List B) (r : BytesRepresentation) (below value : List ℕ) → IsLawful f → AreBytes below → KeepsTo r below → OuterWritten f codecs below value
    → (outer_bytes f codecs r value ≡ Ok below) × KeepsTo (outer_representation f codecs r) value
opened f [] r below value lawful each keeps h = (ap ok h.1, subst (KeepsTo r) (sym h.1) keeps)
opened f (codec ∷ codecs) r below value lawful each keeps h =
    let above = f.encoded_bytes codec below in
    let is_value : IsValue below = record { each = each; small = h.0 } in
    let small = outer_small f codecs above value h.1 in
    let rest = opened f codecs (f.representation codec r) above value lawful (lawful.are_bytes codec below is_value) (lawful.kept codec r below is_value keeps small) h.1 in
    (next_answer (outer_bytes f codecs (f.representation codec r) value) above (f.decoded_bytes codec r) rest.0 ∙ lawful.decode_undoes codec r below is_value keeps small, rest.1)

-- what was written is opened again, and is as many bytes as was declared
pub outer_opened : {B : Type 0} (f : BytesCodecs B) (codecs : List B) (r : BytesRepresentation) (below value : List ℕ) → IsLawful f → AreBytes below → KeepsTo r below → outer_value f codecs below ≡ Ok value
    → (outer_bytes f codecs r value ≡ Ok below) × KeepsTo (outer_representation f codecs r) value
outer_opened f codecs r below value lawful each keeps e = opened f codecs r below value lawful each keeps (outer_written f codecs below value e)

-- ---- array-to-array codecs

chained_more : (codec : ArrayMapping) (codecs : List ArrayMapping) (sizes : List ℕ) (first rest : CoordinateMap) → coordinates codec sizes ≡ Ok first → chained codecs first.encoded ≡ Ok rest → chained (codec ∷ codecs) sizes ≡ Ok (composition first rest)
chained_more codec codecs sizes first rest a b = next_answer (coordinates codec sizes) first (λ m. chained codecs m.encoded >>= (λ n. ok (composition m n))) a ∙ next_answer (chained codecs first.encoded) rest (λ n. ok (composition first n)) b

-- where codecs take a chunk of the type, they do what they do of any
pub chained_of : (type : ElementType) (codecs : List ArrayMapping) (sizes : List ℕ) (m : CoordinateMap) → arrays_map type codecs sizes ≡ Ok m → chained codecs sizes ≡ Ok m
chained_of type [] sizes m e = e
chained_of type (codec ∷ codecs) sizes m e =
    let p = map_parts type codec codecs sizes m e in
    let rest = chained_of type codecs p.first.encoded p.rest p.others in
    chained_more codec codecs sizes p.first p.rest p.done rest ∙ ap ok (sym p.is)

pub arrays_are_map : (arrays : List ArrayMapping) (sizes : List ℕ) (type : ElementType) (m : CoordinateMap) → All IsMapping arrays → All (λ size. 0 < size) sizes → arrays_map type arrays sizes ≡ Ok m → IsCoordinateMap sizes m
arrays_are_map arrays sizes type m mappings positive e = chain_map arrays sizes m mappings positive (chained_of type arrays sizes m e)

-- ---- sizes of rows

abbrev pub is_positive : ℕ → Type 0
is_positive size = 0 < size

pub row_positive : (count : ℕ) → 0 < count → All (λ size. 0 < size) (count ∷ [])
row_positive count h = All-cons is_positive count [] h (All-nil is_positive)
