-- Elements of a fixed type, spelled in a byte order and read in it.
use Rattle.std.proofs.Common.{◌≡◌, ℕ, ◌*◌, ◌/◌, ◌<◌, ◌≤◌, ◌^◌, ◌==◌, Bool, true, false, nat_le, nat_lt, cond, Option, Some, None, List, [], ◌∷◌, ◌++◌, length, map, map-id, drop, reverse, arith, refl, ap, sym, ◌∙◌}
use Rattle.std.specs.List.{concat}
use mathlib.Core.List.{reverse-reverse}
use Rattle.std.proofs.Math.Nat.{mul-div_cancel, div-mul-le_self}
use Rattle.std.proofs.lemmas.Bool.Decides.{nat_tests}
use Rattle.std.proofs.lemmas.Simd.{map-map}
use Rattle.std.proofs.lemmas.List.{append-nil, drop_all, length-append, length-drop, length-map}
use Rattle.zarrs_data_type.specs.Element.{plain}
use Rattle.zarrs_data_type.specs.ElementType.{fixed, component_bytes, element_size}
use Rattle.zarrs_data_type.specs.declared.endianness.Endianness.{Endianness}
use Rattle.zarrs_data_type.specs.declared.endianness.Endianness.TheVariants.{Little, Big}
use Rattle.zarrs_array_bytes.specs.Elements.{elements}
use Rattle.zarrs_array_bytes.specs.Held.{Raw, flen}
use Rattle.zarrs_array_bytes.specs.Validity.{Holds}
use Rattle.zarrs_array_bytes.specs.Pieces.{pieces}
use Rattle.zarrs_array_bytes.proofs.Pieces.{AllSized, length-pieces, pieces_sized, length-concat, pieces-concat, concat-pieces, elements-pieces}
use Rattle.zarrs_array_bytes.specs.Turned.{reversed_pieces, turned_bytes}
use Rattle.zarrs_bytes.specs.ByteOrder.{bytes_in_order, spelled_chunk}
use Rattle.zarrs_bytes.specs.BytesCodec.{turn_size}
use Rattle.zarrs_array_bytes.proofs.ReversedPieces.{reverse_sized, length-reversed_pieces, reversed_pieces-groups, reversed_pieces-single}

-- ---- one element

reverse_twice : (parts : List (List ℕ)) → map reverse (map reverse parts) ≡ parts
reverse_twice [] = refl
reverse_twice (piece ∷ parts) = λ i. reverse-reverse piece i ∷ reverse_twice parts i

reversed_twice : (size count : ℕ) (items : List ℕ) → length items ≡ count * size → reversed_pieces size count (reversed_pieces size count items) ≡ items
reversed_twice size count items h =
    let parts = pieces size count items in
    let number : length (map reverse parts) ≡ count = length-map parts reverse ∙ length-pieces size count items in
    let again : pieces size count (concat (map reverse parts)) ≡ map reverse parts
    = ap (λ n. pieces size n (concat (map reverse parts))) (sym number) ∙ pieces-concat size (map reverse parts) (reverse_sized size parts (pieces_sized size count items (omega (arith, h)))) in
    ap (λ (xs : List (List ℕ)). concat (map reverse xs)) again ∙ ap concat (reverse_twice parts) ∙ concat-pieces size count items h

pub length-bytes_in_order : (order : Option Endianness) (width components : ℕ) (items : List ℕ) → length items ≡ element_size width components → length (bytes_in_order order width components items) ≡ element_size width components
length-bytes_in_order None width components items h = h
length-bytes_in_order (Some Little) width components items h = h
length-bytes_in_order (Some Big) width components items h = length-reversed_pieces (component_bytes width) components items (omega (arith, h))

pub ordered_twice : (order : Option Endianness) (width components : ℕ) (items : List ℕ) → length items ≡ element_size width components → bytes_in_order order width components (bytes_in_order order width components items) ≡ items
ordered_twice None width components items h = refl
ordered_twice (Some Little) width components items h = refl
ordered_twice (Some Big) width components items h = reversed_twice (component_bytes width) components items h

pub ordered_sized : (order : Option Endianness) (width components : ℕ) (parts : List (List ℕ)) → AllSized (element_size width components) parts → AllSized (element_size width components) (map (bytes_in_order order width components) parts)
ordered_sized order width components [] h = tt
ordered_sized order width components (piece ∷ parts) h =
    (length-bytes_in_order order width components piece h.0, ordered_sized order width components parts h.1)

-- ---- all elements at once

-- turning leaves the length
pub length-turned_bytes : (size : Option ℕ) (items : List ℕ) → length (turned_bytes size items) ≡ length items
length-turned_bytes None items = refl
length-turned_bytes (Some size) items =
    let count = length items / size in
    let within : count * size ≤ length items = div-mul-le_self (length items) size in
    omega (arith, length-append (reversed_pieces size count items) (drop (count * size) items), length-reversed_pieces size count items within, length-drop (count * size) items, within)

single_pieces : (width components : ℕ) (parts : List (List ℕ)) → component_bytes width ≤ 1 → AllSized (element_size width components) parts → map (bytes_in_order (Some Big) width components) parts ≡ parts
single_pieces width components [] l h = refl
single_pieces width components (piece ∷ parts) l h = λ i. reversed_pieces-single (component_bytes width) components piece l h.0 i ∷ single_pieces width components parts l h.1 i

turned_big : (test : Bool) (width components count : ℕ) (items : List ℕ) → nat_le (component_bytes width) 1 ≡ test → length items ≡ count * element_size width components → turned_bytes (cond test None (Some (component_bytes width))) items ≡ concat (map (bytes_in_order (Some Big) width components) (pieces (element_size width components) count items))
turned_big true width components count items e h =
    let l : component_bytes width ≤ 1 = grind (arith, nat_tests) in
    let size = element_size width components in
    sym (ap concat (single_pieces width components (pieces size count items) l (pieces_sized size count items (omega (arith, h)))) ∙ concat-pieces size count items h)
turned_big false width components count items e h =
    let size = component_bytes width in
    let positive : 0 < size = grind (arith, nat_tests) in
    let all : length items ≡ (count * components) * size = omega (arith, h) in
    let number : length items / size ≡ count * components = ap (λ n. n / size) all ∙ mul-div_cancel (count * components) positive in
    let rest : drop (length items / size * size) items ≡ [] = drop_all (length items / size * size) items (omega (arith, all, ap (λ n. n * size) number)) in
    ap (λ (tail : List ℕ). reversed_pieces size (length items / size) items ++ tail) rest
    ∙ append-nil (reversed_pieces size (length items / size) items)
    ∙ ap (λ n. reversed_pieces size n items) number
    ∙ reversed_pieces-groups size components count items

-- what the code turns round at once is every element in the byte order
pub turned_is : (order : Option Endianness) (width components : ℕ) (sign : Bool) (count : ℕ) (items : List ℕ) → length items ≡ count * element_size width components → turned_bytes (turn_size order (fixed width components sign)) items ≡ concat (map (bytes_in_order order width components) (pieces (element_size width components) count items))
turned_is None width components sign count items h =
    sym (ap concat (map-id (pieces (element_size width components) count items)) ∙ concat-pieces (element_size width components) count items h)
turned_is (Some Little) width components sign count items h =
    sym (ap concat (map-id (pieces (element_size width components) count items)) ∙ concat-pieces (element_size width components) count items h)
turned_is (Some Big) width components sign count items h =
    turned_big (nat_le (component_bytes width) 1) width components count items refl h

-- ---- elements in a container

pub spelled_chunk-plain : (order : Option Endianness) (width components : ℕ) (parts : List (List ℕ)) → spelled_chunk order width components (map plain parts) ≡ concat (map (bytes_in_order order width components) parts)
spelled_chunk-plain order width components [] = refl
spelled_chunk-plain order width components (piece ∷ parts) =
    ap (λ (rest : List ℕ). bytes_in_order order width components piece ++ rest) (spelled_chunk-plain order width components parts)

-- a container of pieces in the byte order holds the elements that the pieces are read as
pub Holds-pieces : (order : Option Endianness) (width components : ℕ) (sign : Bool) (raw : Raw) (parts : List (List ℕ)) → AllSized (element_size width components) parts → raw.items ≡ concat (map (bytes_in_order order width components) parts) → length raw.items < 2 ^ 64
    → Holds (fixed width components sign) (flen raw) (map (λ piece. plain (bytes_in_order order width components piece)) parts)
Holds-pieces order width components sign raw parts sized is small =
    let size = element_size width components in
    let turned_pieces = map (bytes_in_order order width components) parts in
    let all_sized = ordered_sized order width components parts sized in
    let number : length (map (λ piece. plain (bytes_in_order order width components piece)) parts) ≡ length turned_pieces = length-map parts (λ piece. plain (bytes_in_order order width components piece)) ∙ sym (length-map parts (bytes_in_order order width components)) in
    let long : length raw.items ≡ length turned_pieces * size = ap length is ∙ length-concat size turned_pieces all_sized in
    let small_test : nat_lt (length turned_pieces * size) (2 ^ 64) ≡ true = grind (arith, nat_tests) in
    let long_test : (length raw.items == length turned_pieces * size) ≡ true = grind (arith, nat_tests) in
    let cut : pieces size (length turned_pieces) raw.items ≡ turned_pieces = ap (pieces size (length turned_pieces)) is ∙ pieces-concat size turned_pieces all_sized in
    record {
      valid = rw (number, small_test, long_test) refl;
      elements_are = ap (λ n. elements (fixed width components sign) n (flen raw)) number
          ∙ elements-pieces width components sign (length turned_pieces) raw
          ∙ ap (map plain) cut
          ∙ map-map plain (bytes_in_order order width components) parts;
    }
