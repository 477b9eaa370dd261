-- Values are written and read exactly where the grammar has them.
use Rattle.zarrs_data_type.specs.Form.{form_of}
use Rattle.std.proofs.Common.{◌≡◌, ℕ, suc, ◌*◌, ◌^◌, ◌==◌, Bool, true, Option, Result, Ok, Err, List, [], ◌∷◌, length, map, nat_lt, arith, refl, ap, sym, ◌∙◌, subst}
use Rattle.std.specs.List.{concat, range_with_len}
use Rattle.std.proofs.lemmas.Simd.{map-map}
use Rattle.std.proofs.lemmas.Bool.Decides.{nat_tests}
use Rattle.std.proofs.lemmas.List.{length-map}
use Rattle.zarrs_chunk.specs.Answer.{◌>>=◌, demand}
use Rattle.zarrs_chunk.specs.ChunkShape.{product}
use Rattle.zarrs_chunk.specs.declared.codec_error.CodecError.{CodecError}
use Rattle.zarrs_chunk.specs.declared.codec_error.CodecError.TheVariants.{InvalidBytesLength, Overflow}
use Rattle.zarrs_data_type.specs.Element.{Element, plain, absent, present, Chunk, IsElement, AreElements}
use Rattle.zarrs_data_type.specs.ElementType.{ElementType, fixed, text, bytes, optional, element_size}
use Rattle.zarrs_data_type.specs.declared.endianness.Endianness.{Endianness}
use Rattle.zarrs_array_bytes.specs.Elements.{elements}
use Rattle.zarrs_array_bytes.specs.Held.{Held, flen, vlen, masked, owned_bytes}
use Rattle.zarrs_array_bytes.specs.Validity.{Holds, validity}
use Rattle.zarrs_array_bytes.specs.Pieces.{pieces}
use Rattle.zarrs_array_bytes.proofs.ElementLaw.{AreElements-held}
use Rattle.zarrs_array_bytes.proofs.Pieces.{AllSized, length-pieces, pieces_sized, length-concat, pieces-concat, concat-pieces, elements-pieces, read_pieces}
use Rattle.zarrs_bytes.specs.ByteOrder.{bytes_in_order, spelled_chunk}
use Rattle.zarrs_bytes.specs.BytesCodec.{bytes_length, spelling, bytes_value, bytes_chunk, bytes_element, BytesStands, BytesWritten}
use Rattle.zarrs_bytes.proofs.Coding.{bind_ok, demand_ok, ok, two_steps, taken}
use Rattle.zarrs_bytes.proofs.Spelled.{Holds-pieces, ordered_twice, ordered_sized, spelled_chunk-plain}

-- ---- a chunk of a fixed type and its elements' bytes

AreElements-tail : (type : ElementType) (element : Element) (chunk : Chunk) → AreElements type (element ∷ chunk) → AreElements type chunk
AreElements-tail type element chunk h = λ k d l. h (suc k) d (omega arith)

-- the bytes of a chunk's elements, and that each has the type's size
pub record PiecesOf (width components : ℕ) (chunk : Chunk) : Type 0 where
  pub parts : List (List ℕ)
  pub are : chunk ≡ map plain parts
  pub sized : AllSized (element_size width components) parts

one_piece : (width components : ℕ) (sign : Bool) (element : Element) (chunk : Chunk) → IsElement (fixed width components sign) element → PiecesOf width components chunk → PiecesOf width components (element ∷ chunk)
one_piece width components sign (plain items) chunk h rest = record {
  parts = items ∷ rest.parts;
  are = ap (λ (c : Chunk). plain items ∷ c) rest.are;
  sized = (h, rest.sized);
}
one_piece width components sign absent chunk h rest = absurd h
one_piece width components sign (present element) chunk h rest = absurd h

pub pieces_of : (width components : ℕ) (sign : Bool) (chunk : Chunk) → AreElements (fixed width components sign) chunk → PiecesOf width components chunk
pieces_of width components sign [] h = record { parts = []; are = refl; sized = tt }
pieces_of width components sign (element ∷ chunk) h =
    one_piece width components sign element chunk (h 0 absent (omega arith)) (pieces_of width components sign chunk (AreElements-tail (fixed width components sign) element chunk h))

ordered_back : (order : Option Endianness) (width components : ℕ) (parts : List (List ℕ)) → AllSized (element_size width components) parts → map (bytes_in_order order width components) (map (bytes_in_order order width components) parts) ≡ parts
ordered_back order width components [] h = refl
ordered_back order width components (piece ∷ parts) h = λ i. ordered_twice order width components piece h.0 i ∷ ordered_back order width components parts h.1 i

-- ---- encoding

pub encoded_only : (order : Option Endianness) (sizes : List ℕ) (type : ElementType) (fill value : List ℕ) (held : Held) (chunk : Chunk) → Holds type held chunk → BytesWritten order (form_of sizes type fill) value chunk → bytes_value order (form_of sizes type fill) held ≡ Ok value
encoded_only order sizes (fixed width components sign) fill value held chunk holds written =
    let type = fixed width components sign in
    let count = written.elements.count_is in
    let valid : validity type (product sizes) held ≡ Ok tt = ap (λ n. validity type n held) (sym count) ∙ holds.valid in
    let same : elements type (product sizes) held ≡ chunk = ap (λ n. elements type n held) (sym count) ∙ holds.elements_are in
    two_steps (bytes_length order (form_of sizes type fill)) (validity type (product sizes) held) written.len tt (spelling order type (elements type (product sizes) held)) written.length_is valid
    ∙ ap (λ (c : Chunk). ok (spelled_chunk order width components c)) same
    ∙ ap ok (sym written.value_is)
encoded_only order sizes text fill value held chunk holds written = absurd cc
encoded_only order sizes bytes fill value held chunk holds written = absurd cc
encoded_only order sizes (optional type) fill value held chunk holds written = absurd cc

pub bytes_are : (x y : List ℕ) → ok x ≡ ok y → y ≡ x
bytes_are x y e = cc

pub encoded_found : (order : Option Endianness) (sizes : List ℕ) (type : ElementType) (fill value : List ℕ) (held : Held) → bytes_value order (form_of sizes type fill) held ≡ Ok value → (chunk : Chunk) × Holds type held chunk × BytesWritten order (form_of sizes type fill) value chunk
encoded_found order sizes (fixed width components sign) fill value (flen raw) e =
    let type = fixed width components sign in
    let size = element_size width components in
    let n = product sizes in
    let a = bind_ok (bytes_length order (form_of sizes type fill)) _ value e in
    let b = bind_ok (validity type n (flen raw)) _ value a.2 in
    let t = taken order sizes width components sign fill a.0 a.1 in
    let v = bind_ok (demand (nat_lt (n * size) (2 ^ 64)) Overflow) _ tt b.1 in
    let long_test = demand_ok (length raw.items == n * size) (InvalidBytesLength (length raw.items) (n * size)) tt v.2 in
    let long : length raw.items ≡ n * size = grind (arith, nat_tests) in
    let parts = pieces size n raw.items in
    let sized = pieces_sized size n raw.items (omega (arith, long)) in
    let are = elements-pieces width components sign n raw in
    let chunk = elements type n (flen raw) in
    let count : length chunk ≡ n = ap length are ∙ length-map parts plain ∙ length-pieces size n raw.items in
    let holds : Holds type (flen raw) chunk = record {
      valid = ap (λ k. validity type k (flen raw)) count ∙ b.1;
      elements_are = ap (λ k. elements type k (flen raw)) count;
    } in
    let value_is : value ≡ spelled_chunk order width components chunk = bytes_are (spelled_chunk order width components chunk) value b.2 in
    let bytes_long : length (spelled_chunk order width components chunk) ≡ n * size
    = ap (λ (c : Chunk). length (spelled_chunk order width components c)) are
    ∙ ap length (spelled_chunk-plain order width components parts)
    ∙ length-concat size (map (bytes_in_order order width components) parts) (ordered_sized order width components parts sized)
    ∙ ap (λ k. k * size) (length-map parts (bytes_in_order order width components) ∙ length-pieces size n raw.items) in (
      chunk,
      holds,
      record {
        len = a.0;
        length_is = a.1;
        elements = record { count_is = count; each = AreElements-held type (flen raw) chunk holds };
        value_is = value_is;
        small = omega (arith, ap length value_is, bytes_long, t.len_is, t.small);
      },
    )
encoded_found order sizes (fixed width components sign) fill value (vlen raw offsets) e =
    let a = bind_ok (bytes_length order (form_of sizes (fixed width components sign) fill)) _ value e in
    let b = bind_ok (validity (fixed width components sign) (product sizes) (vlen raw offsets)) _ value a.2 in
    let v = bind_ok (demand (nat_lt (product sizes * element_size width components) (2 ^ 64)) Overflow) _ tt b.1 in
    absurd (let w = v.2 in cc)
encoded_found order sizes (fixed width components sign) fill value (masked inner mask) e =
    let a = bind_ok (bytes_length order (form_of sizes (fixed width components sign) fill)) _ value e in
    let b = bind_ok (validity (fixed width components sign) (product sizes) (masked inner mask)) _ value a.2 in
    let v = bind_ok (demand (nat_lt (product sizes * element_size width components) (2 ^ 64)) Overflow) _ tt b.1 in
    absurd (let w = v.2 in cc)
encoded_found order sizes text fill value held e = absurd cc
encoded_found order sizes bytes fill value held e = absurd cc
encoded_found order sizes (optional type) fill value held e = absurd cc

-- ---- decoding

pub chunk_are : (x y : Chunk) → ok x ≡ ok y → y ≡ x
chunk_are x y e = cc

pub decoded_found : (order : Option Endianness) (sizes : List ℕ) (type : ElementType) (fill value : List ℕ) (chunk : Chunk) → bytes_chunk order (form_of sizes type fill) value ≡ Ok chunk → BytesStands order (form_of sizes type fill) value chunk
decoded_found order sizes (fixed width components sign) fill value chunk e =
    let type = fixed width components sign in
    let size = element_size width components in
    let n = product sizes in
    let a = bind_ok (bytes_length order (form_of sizes type fill)) _ chunk e in
    let b = bind_ok (demand (length value == a.0) (InvalidBytesLength (length value) a.0)) _ chunk a.2 in
    let t = taken order sizes width components sign fill a.0 a.1 in
    let long_test = demand_ok (length value == a.0) (InvalidBytesLength (length value) a.0) b.0 b.1 in
    let found : length value ≡ a.0 = grind (arith, nat_tests) in
    let long : length value ≡ n * size = found ∙ t.len_is in
    let parts = pieces size n value in
    let sized = pieces_sized size n value (omega (arith, long)) in
    let turned_pieces = map (bytes_in_order order width components) parts in
    let all_sized = ordered_sized order width components parts sized in
    let number : length turned_pieces ≡ n = length-map parts (bytes_in_order order width components) ∙ length-pieces size n value in
    let turned_long : length (concat turned_pieces) ≡ n * size = length-concat size turned_pieces all_sized ∙ ap (λ k. k * size) number in
    let holds = Holds-pieces order width components sign (owned_bytes (concat turned_pieces)) parts sized refl (omega (arith, turned_long, t.len_is, t.small)) in
    let read_so : chunk ≡ map (λ piece. plain (bytes_in_order order width components piece)) parts
    = chunk_are _ chunk b.2 ∙ read_pieces (λ piece. plain (bytes_in_order order width components piece)) size n value in
    let are : chunk ≡ map plain turned_pieces = read_so ∙ sym (map-map plain (bytes_in_order order width components) parts) in
    record {
      len = a.0;
      length_is = a.1;
      elements = record {
        count_is = ap length are ∙ length-map turned_pieces plain ∙ number;
        each = subst (AreElements type) (sym read_so) (AreElements-held type (flen (owned_bytes (concat turned_pieces))) (map (λ piece. plain (bytes_in_order order width components piece)) parts) holds);
      };
      value_is = sym (ap (spelled_chunk order width components) are ∙ spelled_chunk-plain order width components turned_pieces ∙ ap concat (ordered_back order width components parts sized) ∙ concat-pieces size n value long);
    }
decoded_found order sizes text fill value chunk e = absurd cc
decoded_found order sizes bytes fill value chunk e = absurd cc
decoded_found order sizes (optional type) fill value chunk e = absurd cc

two_tests : {A : Type 0} (r : Result ℕ CodecError) (test : ℕ → Bool) (cause : ℕ → CodecError) (x : A) (len : ℕ) → r ≡ Ok len → test len ≡ true → (r >>= λ n. demand (test n) (cause n) >>= λ _. ok x) ≡ ok x
two_tests (Ok n) test cause x len e t =
    let same : n ≡ len = number_is n len e in
    let passed : test n ≡ true = ap test same ∙ t in
    rw passed refl
  where
    number_is : (n m : ℕ) → ok n ≡ ok m → n ≡ m
    number_is n m e = cc
two_tests (Err d) test cause x len e t = absurd cc

pub decoded_only : (order : Option Endianness) (sizes : List ℕ) (type : ElementType) (fill value : List ℕ) (chunk : Chunk) → BytesStands order (form_of sizes type fill) value chunk → bytes_chunk order (form_of sizes type fill) value ≡ Ok chunk
decoded_only order sizes (fixed width components sign) fill value chunk stands =
    let type = fixed width components sign in
    let size = element_size width components in
    let n = product sizes in
    let t = taken order sizes width components sign fill stands.len stands.length_is in
    let p = pieces_of width components sign chunk stands.elements.each in
    let turned_pieces = map (bytes_in_order order width components) p.parts in
    let sized = ordered_sized order width components p.parts p.sized in
    let value_is : value ≡ concat turned_pieces = stands.value_is ∙ ap (spelled_chunk order width components) p.are ∙ spelled_chunk-plain order width components p.parts in
    let number : length turned_pieces ≡ n
    = length-map p.parts (bytes_in_order order width components) ∙ sym (length-map p.parts plain) ∙ sym (ap length p.are) ∙ stands.elements.count_is in
    let long : length value ≡ n * size = ap length value_is ∙ length-concat size turned_pieces sized ∙ ap (λ k. k * size) number in
    let found : length value ≡ stands.len = long ∙ sym t.len_is in
    let passed : (length value == stands.len) ≡ true = grind (arith, nat_tests) in
    let cut : pieces size n value ≡ turned_pieces = ap (pieces size n) value_is ∙ ap (λ k. pieces size k (concat turned_pieces)) (sym number) ∙ pieces-concat size turned_pieces sized in
    let read : map (bytes_element order type value) (range_with_len 0 n) ≡ chunk
    = read_pieces (λ piece. plain (bytes_in_order order width components piece)) size n value
    ∙ ap (map (λ piece. plain (bytes_in_order order width components piece))) cut
    ∙ sym (map-map plain (bytes_in_order order width components) turned_pieces)
    ∙ ap (map plain) (ordered_back order width components p.parts p.sized)
    ∙ sym p.are in
    two_tests (bytes_length order (form_of sizes type fill)) (λ l. length value == l) (λ l. InvalidBytesLength (length value) l) (map (bytes_element order type value) (range_with_len 0 n)) stands.len stands.length_is passed
    ∙ ap ok read
decoded_only order sizes text fill value chunk stands = absurd cc
decoded_only order sizes bytes fill value chunk stands = absurd cc
decoded_only order sizes (optional type) fill value chunk stands = absurd cc

-- ---- at the calls

-- a value that stands for a chunk has the chunk's length
pub stands_length : (order : Option Endianness) (sizes : List ℕ) (type : ElementType) (fill value : List ℕ) (chunk : Chunk) (len : ℕ) → BytesStands order (form_of sizes type fill) value chunk → bytes_length order (form_of sizes type fill) ≡ Ok len → length value ≡ len
stands_length order sizes type fill value chunk len stands e =
    let a = bind_ok (bytes_length order (form_of sizes type fill)) _ chunk (decoded_only order sizes type fill value chunk stands) in
    let b = bind_ok (demand (length value == a.0) (InvalidBytesLength (length value) a.0)) _ chunk a.2 in
    let long_test = demand_ok (length value == a.0) (InvalidBytesLength (length value) a.0) b.0 b.1 in
    let long : length value ≡ a.0 = grind (arith, nat_tests) in
    let same : a.0 ≡ len = ok_number a.0 len (sym a.1 ∙ e) in
    long ∙ same
  where
    ok_number : (n m : ℕ) → ok n ≡ ok m → n ≡ m
    ok_number n m e = cc
