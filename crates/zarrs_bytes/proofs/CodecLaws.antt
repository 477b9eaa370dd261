-- The laws of the codec.
use Rattle.zarrs_data_type.specs.Form.{form_of}
use Rattle.std.proofs.Common.{◌≡◌, ◌==◌, ◌↔◌, ℕ, suc, ◌+◌, ◌*◌, ◌<◌, ◌≤◌, Bool, true, Option, Some, Ok, List, [], ◌∷◌, length, map, get_or, arith, refl, ap, sym, ◌∙◌, subst}
use Rattle.std.specs.List.{All, list_all, range_with_len}
use Rattle.std.proofs.Math.Nat.{mul-le-mul_right}
use Rattle.std.proofs.lemmas.Bool.{and_from}
use Rattle.std.proofs.lemmas.List.{length-map}
use Rattle.std.proofs.lemmas.List.FromFn.{length-range_with_len, get_or-map-range_with_len}
use Rattle.zarrs_chunk.specs.Answer.{demand}
use Rattle.zarrs_chunk.specs.ChunkShape.{product}
use Rattle.zarrs_chunk.specs.declared.codec_error.CodecError.TheVariants.{InvalidBytesLength}
use Rattle.zarrs_data_type.specs.Element.{Element, absent, Chunk}
use Rattle.zarrs_data_type.specs.ElementType.{ElementType, fixed, text, bytes, optional}
use Rattle.zarrs_data_type.specs.declared.endianness.Endianness.{Endianness}
use Rattle.zarrs_array_bytes.specs.Elements.{select}
use Rattle.zarrs_bytes.specs.BytesCodec.{bytes_length, bytes_element, spelling, BytesStands, BytesWritten}
use Rattle.zarrs_bytes.specs.PartialRead.{has_place, place_size, read_places}
use Rattle.zarrs_bytes.proofs.Coding.{bind_ok, ok, taken}
use Rattle.zarrs_bytes.proofs.Exact.{decoded_only, stands_length}
use Rattle.zarrs_chunk.proofs.Inside.{le_test}

pub written_stands : (order : Option Endianness) (sizes : List ℕ) (type : ElementType) (fill value : List ℕ) (chunk : Chunk) → BytesWritten order (form_of sizes type fill) value chunk → BytesStands order (form_of sizes type fill) value chunk
written_stands order sizes type fill value chunk written = record {
  len = written.len;
  length_is = written.length_is;
  elements = written.elements;
  value_is = written.value_is;
}

pub chunk_is : (x y : Chunk) → ok x ≡ ok y → x ≡ y
chunk_is x y e = cc

pub stands_for_one : (order : Option Endianness) (sizes : List ℕ) (type : ElementType) (fill value : List ℕ) (chunk other : Chunk) → BytesStands order (form_of sizes type fill) value chunk → BytesStands order (form_of sizes type fill) value other → chunk ≡ other
stands_for_one order sizes type fill value chunk other one two =
    chunk_is chunk other (sym (decoded_only order sizes type fill value chunk one) ∙ decoded_only order sizes type fill value other two)

written_same : (order : Option Endianness) (sizes : List ℕ) (type : ElementType) (fill value other_value : List ℕ) (chunk other : Chunk) → BytesWritten order (form_of sizes type fill) value chunk → BytesWritten order (form_of sizes type fill) other_value other → chunk ≡ other → value ≡ other_value
written_same order sizes type fill value other_value chunk other one two e = one.value_is ∙ ap (spelling order type) e ∙ sym two.value_is

pub written_alike : (order : Option Endianness) (sizes : List ℕ) (type : ElementType) (fill value other_value : List ℕ) (chunk other : Chunk) → BytesWritten order (form_of sizes type fill) value chunk → BytesWritten order (form_of sizes type fill) other_value other → (value ≡ other_value) ↔ (chunk ≡ other)
written_alike order sizes type fill value other_value chunk other one two = (
  λ e. stands_for_one order sizes type fill value chunk other (written_stands order sizes type fill value chunk one) (subst (λ (v : List ℕ). BytesStands order (form_of sizes type fill) v other) (sym e) (written_stands order sizes type fill other_value other two)),
  λ e. written_same order sizes type fill value other_value chunk other one two e,
)

pub has_represented_length : (order : Option Endianness) (sizes : List ℕ) (type : ElementType) (fill value : List ℕ) (chunk : Chunk) (len : ℕ) → BytesWritten order (form_of sizes type fill) value chunk → bytes_length order (form_of sizes type fill) ≡ Ok len → length value ≡ len
has_represented_length order sizes type fill value chunk len written e =
    stands_length order sizes type fill value chunk len (written_stands order sizes type fill value chunk written) e

-- ---- reading selects

all_inside : (type : ElementType) (value places : List ℕ) (count : ℕ) → length value ≡ count * place_size type → All (λ place. place < count) places → list_all (has_place type value) places ≡ true
all_inside type value [] count long h = refl
all_inside type value (place ∷ places) count long h =
    let lt : place < count = h 0 place (omega arith) in
    let next : place + 1 ≤ count = omega arith in
    and_from _ _ (le_test _ _ (omega (arith, mul-le-mul_right (place_size type) next, long)))
    (all_inside type value places count long (λ k d l. h (suc k) d (omega arith)))

pub read_each : (f : ℕ → Element) (count : ℕ) (places : List ℕ) → All (λ place. place < count) places → map f places ≡ select (map f (range_with_len 0 count)) places
read_each f count [] h = refl
read_each f count (place ∷ places) h =
    let lt : place < count = h 0 place (omega arith) in
    let one : f place ≡ get_or (map f (range_with_len 0 count)) place absent = sym (get_or-map-range_with_len f 0 count place place absent lt (omega arith)) in
    λ i. one i ∷ read_each f count places (λ k d l. h (suc k) d (omega arith)) i

-- the chunk that a value stands for is read place by place
stands_read : (order : Option Endianness) (sizes : List ℕ) (width components : ℕ) (sign : Bool) (fill value : List ℕ) (chunk : Chunk) → BytesStands order (form_of sizes (fixed width components sign) fill) value chunk → map (bytes_element order (fixed width components sign) value) (range_with_len 0 (product sizes)) ≡ chunk
stands_read order sizes width components sign fill value chunk stands =
    let type = fixed width components sign in
    let a = bind_ok (bytes_length order (form_of sizes type fill)) _ chunk (decoded_only order sizes type fill value chunk stands) in
    let b = bind_ok (demand (length value == a.0) (InvalidBytesLength (length value) a.0)) _ chunk a.2 in
    chunk_is (map (bytes_element order type value) (range_with_len 0 (product sizes))) chunk b.2

pub read_selects : (order : Option Endianness) (sizes : List ℕ) (type : ElementType) (fill value : List ℕ) (chunk : Chunk) (places : List ℕ) → BytesStands order (form_of sizes type fill) value chunk → All (λ place. place < length chunk) places → read_places order type fill (Some value) places ≡ Ok (select chunk places)
read_selects order sizes (fixed width components sign) fill value chunk places stands h =
    let type = fixed width components sign in
    let n = product sizes in
    let t = taken order sizes width components sign fill stands.len stands.length_is in
    let is = stands_read order sizes width components sign fill value chunk stands in
    let count : length chunk ≡ n = sym (ap length is) ∙ length-map (range_with_len 0 n) (bytes_element order type value) ∙ length-range_with_len 0 n in
    let below : All (λ place. place < n) places = subst (λ k. All (λ place. place < k) places) count h in
    let long : length value ≡ n * place_size type = stands_length order sizes type fill value chunk stands.len stands stands.length_is ∙ t.len_is in
    let inside = all_inside type value places n long below in
    let read : map (bytes_element order type value) places ≡ select chunk places = read_each (bytes_element order type value) n places below ∙ ap (λ (c : Chunk). select c places) is in
    rw inside (ap ok read)
read_selects order sizes text fill value chunk places stands h = absurd cc
read_selects order sizes bytes fill value chunk places stands h = absurd cc
read_selects order sizes (optional type) fill value chunk places stands h = absurd cc
