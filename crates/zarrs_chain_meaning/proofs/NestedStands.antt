-- A value stands for at most one chunk, through chains inside too.
use Rattle.std.proofs.Common.{◌≡◌, ℕ, suc, ◌+◌, ◌<◌, Bool, true, false, List, [], ◌∷◌, ◌++◌, length, get_or, drop, map, arith, refl, ap, sym, subst, ◌∙◌}
use Rattle.std.specs.List.{All}
use Rattle.std.proofs.lemmas.List.{append_assoc, length-append}
use Rattle.std.proofs.lemmas.List.Elements.{All-head, All-tail}
use Rattle.zarrs_data_type.specs.ElementType.{ElementType, fixed, text, bytes, optional}
use Rattle.zarrs_data_type.specs.Element.{Element, plain, absent, present, Chunk, IsElement, AreElements}
use Rattle.zarrs_array_bytes.specs.Offsets.{last_of}
use Rattle.zarrs_codec.specs.BytesToBytesCodec.{BytesCodecs}
use Rattle.zarrs_codec.specs.CoordinateMap.{CoordinateMap, IsCoordinateMap, moved_chunk, inverse_map}
use Rattle.zarrs_array_to_array.specs.ArrayToArrayCodec.{ArrayMapping, IsMapping}
use Rattle.zarrs_array_to_array.proofs.CoordinateMaps.{moved_back}
use Rattle.zarrs_chain_meaning.specs.BytesStages.{outer_bytes}
use Rattle.zarrs_chain_meaning.specs.vlen.Vlen.{offset_bytes, offsets_in_chunk, slices, offset_type, arranged, VlenStands}
use Rattle.zarrs_chain_meaning.specs.Parts.{all_bytes, length_of, byte_type}
use Rattle.zarrs_chain_meaning.specs.optional.Optional.{flag_of, present_of, flag_type, blank_fill, OptionalStands}
use Rattle.zarrs_chain_meaning.specs.Meaning.{Measure, Standing, StandsThrough, in_a_row}
use Rattle.zarrs_vlen_v2.proofs.Rows.{front_same}
use Rattle.zarrs_chain_meaning.proofs.ArraySteps.{ok_is}
use Rattle.zarrs_chain_meaning.proofs.NestedStages.{arrays_are_map, row_positive}
use Rattle.zarrs_chain_meaning.proofs.OptionalFor.{OptionalStandsFor}

-- a value stands for at most one chunk
abbrev pub StandsOnce : Standing → Type 0
StandsOnce stand =
    (sizes : List ℕ) (type : ElementType) (fill value : List ℕ) (chunk other : Chunk)
    → All (λ size. 0 < size) sizes → stand sizes type fill value chunk → stand sizes type fill value other → chunk ≡ other

-- ---- parts of lists

pub back_same : (a b c d : List ℕ) → length b ≡ length d → a ++ b ≡ c ++ d → (a ≡ c) × (b ≡ d)
back_same a b c d l e =
    let total = ap length e in
    front_same a b c d (omega (arith, length-append a b, length-append c d, total)) e

-- the parts of a value are found by the length
arranged_once : (at_end : Bool) (head index rest head' index' rest' : List ℕ) → length head ≡ length head' → length_of head ≡ length index → length_of head' ≡ length index'
    → arranged at_end head index rest ≡ arranged at_end head' index' rest' → (index ≡ index') × (rest ≡ rest')
arranged_once false head index rest head' index' rest' l a b e =
    let one = front_same head (index ++ rest) head' (index' ++ rest') l e in
    front_same index rest index' rest' (sym a ∙ ap length_of one.0 ∙ b) one.1
arranged_once true head index rest head' index' rest' l a b e =
    let one = back_same (rest ++ index) head (rest' ++ index') head' l (append_assoc rest index head ∙ e ∙ sym (append_assoc rest' index' head')) in
    let two = back_same rest index rest' index' (sym a ∙ ap length_of one.1 ∙ b) one.0 in
    (two.1, two.0)

-- ---- parts of chunks

part_once : (stand : Standing) → StandsOnce stand → (type : ElementType) (fill part : List ℕ) (chunk other : Chunk) → length chunk ≡ length other → in_a_row (Unit {0}) (λ sizes. stand sizes type fill part chunk) (length chunk) → in_a_row (Unit {0}) (λ sizes. stand sizes type fill part other) (length other) → chunk ≡ other
part_once stand one type fill part [] [] l a b = refl
part_once stand one type fill part [] (y ∷ other) l a b = absurd (omega (arith, l))
part_once stand one type fill part (x ∷ chunk) [] l a b = absurd (omega (arith, l))
part_once stand one type fill part (x ∷ chunk) (y ∷ other) l a b =
    one (length (x ∷ chunk) ∷ []) type fill part (x ∷ chunk) (y ∷ other) (row_positive (suc (length chunk)) (omega arith)) a (subst (λ (n : ℕ). stand (n ∷ []) type fill part (y ∷ other)) (sym l) b)

abbrev first_of : Chunk → Element
first_of chunk = get_or chunk 0 absent

-- chunks with the same flags have as many elements present
flags_count : (type : ElementType) (chunk other : Chunk) → AreElements (optional type) chunk → AreElements (optional type) other → map flag_of chunk ≡ map flag_of other → length (present_of chunk) ≡ length (present_of other)
flags_count type [] [] h g e = refl
flags_count type [] (y ∷ other) h g e = absurd cc
flags_count type (x ∷ chunk) [] h g e = absurd cc
flags_count type (plain items ∷ chunk) (y ∷ other) h g e = absurd (All-head (IsElement (optional type)) (plain items) chunk h)
flags_count type (x ∷ chunk) (plain items ∷ other) h g e = absurd (All-head (IsElement (optional type)) (plain items) other g)
flags_count type (absent ∷ chunk) (absent ∷ other) h g e = flags_count type chunk other (All-tail (IsElement (optional type)) absent chunk h) (All-tail (IsElement (optional type)) absent other g) (ap (drop 1) e)
flags_count type (absent ∷ chunk) (present y ∷ other) h g e = absurd cc
flags_count type (present x ∷ chunk) (absent ∷ other) h g e = absurd cc
flags_count type (present x ∷ chunk) (present y ∷ other) h g e =
    ap suc (flags_count type chunk other (All-tail (IsElement (optional type)) (present x) chunk h) (All-tail (IsElement (optional type)) (present y) other g) (ap (drop 1) e))

-- and with the same elements present they are the same
flags_same : (type : ElementType) (chunk other : Chunk) → AreElements (optional type) chunk → AreElements (optional type) other → map flag_of chunk ≡ map flag_of other → present_of chunk ≡ present_of other → chunk ≡ other
flags_same type [] [] h g e p = refl
flags_same type [] (y ∷ other) h g e p = absurd cc
flags_same type (x ∷ chunk) [] h g e p = absurd cc
flags_same type (plain items ∷ chunk) (y ∷ other) h g e p = absurd (All-head (IsElement (optional type)) (plain items) chunk h)
flags_same type (x ∷ chunk) (plain items ∷ other) h g e p = absurd (All-head (IsElement (optional type)) (plain items) other g)
flags_same type (absent ∷ chunk) (absent ∷ other) h g e p =
    ap (λ (c : Chunk). absent ∷ c) (flags_same type chunk other (All-tail (IsElement (optional type)) absent chunk h) (All-tail (IsElement (optional type)) absent other g) (ap (drop 1) e) p)
flags_same type (absent ∷ chunk) (present y ∷ other) h g e p = absurd cc
flags_same type (present x ∷ chunk) (absent ∷ other) h g e p = absurd cc
flags_same type (present x ∷ chunk) (present y ∷ other) h g e p =
    let first : x ≡ y = ap first_of p in
    let rest : chunk ≡ other = flags_same type chunk other (All-tail (IsElement (optional type)) (present x) chunk h) (All-tail (IsElement (optional type)) (present y) other g) (ap (drop 1) e) (ap (drop 1) p) in
    λ i. present (first i) ∷ rest i

-- ---- codecs with chains inside

pub vlen_once : (wide at_end : Bool) (index content : Standing) → StandsOnce index → StandsOnce content → (count : ℕ) (value : List ℕ) (chunk other : Chunk)
    → VlenStands wide at_end index content count value chunk → VlenStands wide at_end index content count value other → chunk ≡ other
vlen_once wide at_end index content i d count value chunk other a b =
    let parts = arranged_once at_end a.head a.index_part a.data_part b.head b.index_part b.data_part (a.head_size ∙ sym b.head_size) a.head_is b.head_is (sym a.parts ∙ b.parts) in
    let offsets : a.offset_chunk ≡ b.offset_chunk =
    i ((count + 1) ∷ []) (offset_type wide) (offset_bytes wide 0) a.index_part a.offset_chunk b.offset_chunk (row_positive (count + 1) (omega arith)) a.index_stands
    (subst (λ (p : List ℕ). index ((count + 1) ∷ []) (offset_type wide) (offset_bytes wide 0) p b.offset_chunk) (sym parts.0) b.index_stands) in
    let long : length a.byte_chunk ≡ length b.byte_chunk = a.byte_count ∙ ap (λ (c : Chunk). last_of (offsets_in_chunk wide c)) offsets ∙ sym b.byte_count in
    let items : a.byte_chunk ≡ b.byte_chunk =
    part_once content d byte_type (0 ∷ []) a.data_part a.byte_chunk b.byte_chunk long a.data_stands (subst (λ (p : List ℕ). in_a_row (Unit {0}) (λ sizes. content sizes byte_type (0 ∷ []) p b.byte_chunk) (length b.byte_chunk)) (sym parts.1) b.data_stands) in
    a.elements ∙ (λ k. slices count (offsets_in_chunk wide (offsets k)) (all_bytes (items k))) ∙ sym b.elements

optional_once : (mask content : Standing) → StandsOnce mask → StandsOnce content → (sizes : List ℕ) (type : ElementType) (value : List ℕ) (chunk other : Chunk) → All (λ size. 0 < size) sizes
    → OptionalStands mask content sizes type value chunk → OptionalStands mask content sizes type value other → chunk ≡ other
optional_once mask content m d sizes type value chunk other positive a b =
    let one = front_same a.head (a.next ++ (a.mask_part ++ a.data_part)) b.head (b.next ++ (b.mask_part ++ b.data_part)) (a.head_size ∙ sym b.head_size) (sym a.parts ∙ b.parts) in
    let two = front_same a.next (a.mask_part ++ a.data_part) b.next (b.mask_part ++ b.data_part) (a.next_size ∙ sym b.next_size) one.1 in
    let parts = front_same a.mask_part a.data_part b.mask_part b.data_part (sym a.head_is ∙ ap length_of one.0 ∙ b.head_is) two.1 in
    let flags : map flag_of chunk ≡ map flag_of other =
    m sizes flag_type (0 ∷ []) a.mask_part (map flag_of chunk) (map flag_of other) positive a.mask_stands (subst (λ (p : List ℕ). mask sizes flag_type (0 ∷ []) p (map flag_of other)) (sym parts.0) b.mask_stands) in
    let inside : present_of chunk ≡ present_of other =
    part_once content d type (blank_fill type) a.data_part (present_of chunk) (present_of other) (flags_count type chunk other a.elements.each b.elements.each flags) a.data_stands
    (subst (λ (p : List ℕ). in_a_row (Unit {0}) (λ sizes. content sizes type (blank_fill type) p (present_of other)) (length (present_of other))) (sym parts.1) b.data_stands) in
    flags_same type chunk other a.elements.each b.elements.each flags inside

pub optional_once_for : (mask content : Standing) → StandsOnce mask → StandsOnce content → (sizes : List ℕ) (type : ElementType) (value : List ℕ) (chunk other : Chunk) → All (λ size. 0 < size) sizes
    → OptionalStandsFor mask content sizes type value chunk → OptionalStandsFor mask content sizes type value other → chunk ≡ other
optional_once_for mask content m d sizes (fixed width components sign) value chunk other positive a b = absurd a
optional_once_for mask content m d sizes text value chunk other positive a b = absurd a
optional_once_for mask content m d sizes bytes value chunk other positive a b = absurd a
optional_once_for mask content m d sizes (optional type) value chunk other positive a b = optional_once mask content m d sizes type value chunk other positive a b

-- ---- chains

pub through_once : {B : Type 0} (f : BytesCodecs B) (arrays : List ArrayMapping) (measure : Measure) (content : Standing) (outer : List B) → All IsMapping arrays → StandsOnce content → StandsOnce (StandsThrough f arrays measure content outer)
through_once f arrays measure content outer mappings one sizes type fill value chunk other positive a b =
    let m : a.map_is ≡ b.map_is = ok_is a.map_is b.map_is (sym a.mapped ∙ b.mapped) in
    let size : a.size ≡ b.size = ok_is a.size b.size (sym a.measured ∙ ap (λ (x : CoordinateMap). measure x.encoded type fill) m ∙ b.measured) in
    let below : a.below ≡ b.below = ok_is a.below b.below (sym a.opened ∙ ap (λ s. outer_bytes f outer s value) size ∙ b.opened) in
    let second : content a.map_is.encoded type fill a.below (moved_chunk a.map_is other)
    = subst (λ (x : CoordinateMap). content x.encoded type fill a.below (moved_chunk x other)) (sym m) (subst (λ u. content b.map_is.encoded type fill u (moved_chunk b.map_is other)) (sym below) b.stands) in
    let h : IsCoordinateMap sizes a.map_is = arrays_are_map arrays sizes type a.map_is mappings positive a.mapped in
    let same = one a.map_is.encoded type fill a.below (moved_chunk a.map_is chunk) (moved_chunk a.map_is other) (h.positive positive) a.stands second in
    sym (moved_back sizes a.map_is chunk h a.elements.count_is) ∙ ap (moved_chunk (inverse_map sizes a.map_is)) same ∙ moved_back sizes a.map_is other h b.elements.count_is
