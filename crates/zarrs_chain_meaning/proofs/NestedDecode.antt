-- What stands is what array-to-bytes codecs answer, with chains inside too.
use Rattle.std.proofs.Common.{◌≡◌, ℕ, suc, ◌+◌, ◌-◌, ◌<◌, ◌^◌, nat_eq, nat_lt, nat_le, Bool, true, false, List, [], ◌∷◌, ◌++◌, length, take, drop, map, Ok, arith, refl, ap, sym, subst, ◌∙◌}
use Rattle.std.specs.List.{All}
use Rattle.std.proofs.lemmas.Bool.{eq-eqb, le-leb}
use Rattle.std.proofs.lemmas.List.{append_assoc, length-append, take_at, drop_at}
use Rattle.std.proofs.lemmas.List.Elements.{All-head, All-tail}
use Rattle.zarrs_data_type.specs.ElementType.{ElementType, fixed, text, bytes, optional}
use Rattle.zarrs_data_type.specs.Element.{plain, absent, present, Chunk, IsElement, AreElements}
use Rattle.zarrs_array_bytes.specs.Offsets.{rises, last_of}
use Rattle.zarrs_codec.specs.BytesToBytesCodec.{BytesCodecs}
use Rattle.zarrs_codec.specs.CoordinateMap.{IsCoordinateMap, moved_chunk, inverse_map}
use Rattle.zarrs_array_to_array.specs.ArrayToArrayCodec.{ArrayMapping, IsMapping}
use Rattle.zarrs_array_to_array.proofs.CoordinateMaps.{moved_back}
use Rattle.zarrs_chunk.proofs.Inside.{lt_test}
use Rattle.zarrs_chain_meaning.specs.Meaning.{Decoder, around_chunk, Measure, Standing, StandsThrough, in_a_row}
use Rattle.zarrs_chain_meaning.specs.Parts.{length_of, all_bytes, byte_type, for_each}
use Rattle.zarrs_chain_meaning.specs.vlen.Vlen.{offsets_in_chunk, slices, vlen_value_parts, vlen_chunk, offset_bytes, offset_type, arranged, VlenStands}
use Rattle.zarrs_chain_meaning.specs.optional.Optional.{optional_parts, under_flags, optional_chunk, flag_of, present_of, flag_type, blank_fill, flag_in}
use Rattle.zarrs_bytes.proofs.Coding.{ok}
use Rattle.zarrs_chain_meaning.proofs.LayoutParts.{cut_parts, parts_are}
use Rattle.zarrs_chain_meaning.proofs.NestedStages.{arrays_are_map, row_positive}
use Rattle.zarrs_chain_meaning.proofs.OptionalFor.{OptionalStandsFor, count_set}

-- where a value stands for a chunk, it is the chunk that is answered
abbrev pub Decodes : Standing → Decoder → Type 0
Decodes stand decode =
    (sizes : List ℕ) (type : ElementType) (fill value : List ℕ) (chunk : Chunk)
    → All (λ size. 0 < size) sizes → stand sizes type fill value chunk → decode sizes type fill value ≡ Ok chunk

part_only : (stand : Standing) (decode : Decoder) → Decodes stand decode → (type : ElementType) (fill part : List ℕ) (chunk : Chunk) → in_a_row (Unit {0}) (λ sizes. stand sizes type fill part chunk) (length chunk) → in_a_row (Ok []) (λ sizes. decode sizes type fill part) (length chunk) ≡ Ok chunk
part_only stand decode law type fill part [] s = refl
part_only stand decode law type fill part (x ∷ chunk) s = law (length (x ∷ chunk) ∷ []) type fill part (x ∷ chunk) (row_positive (suc (length chunk)) (omega arith)) s

-- ---- parts of values

cut_parts_of : (at_end : Bool) (head index items : List ℕ) → length head ≡ 8 → length_of head ≡ length index → cut_parts at_end (arranged at_end head index items) ≡ Ok (index, items)
cut_parts_of false head index items eight is =
    let v : List ℕ = head ++ (index ++ items) in
    let long : length v ≡ 8 + (length index + length items) = omega (arith, length-append head (index ++ items), length-append index items, eight) in
    let number : length_of (take 8 v) ≡ length index = ap length_of (take_at head (index ++ items) 8 eight) ∙ is in
    let rest : drop 8 v ≡ index ++ items = drop_at head (index ++ items) 8 eight in
    let ix : take (length_of (take 8 v)) (drop 8 v) ≡ index = (λ i. take (number i) (rest i)) ∙ take_at index items (length index) refl in
    let dx : drop (length_of (take 8 v)) (drop 8 v) ≡ items = (λ i. drop (number i) (rest i)) ∙ drop_at index items (length index) refl in
    let first : nat_le 8 (length v) ≡ true = le-leb 8 (length v) (omega arith) in
    let second : nat_le (length_of (take 8 v)) (length v - 8) ≡ true = le-leb (length_of (take 8 v)) (length v - 8) (omega (arith, number)) in
    rw (first, second) (λ i. ok (ix i, dx i))
cut_parts_of true head index items eight is =
    let v : List ℕ = items ++ (index ++ head) in
    let split : (items ++ index) ++ head ≡ v = append_assoc items index head in
    let long : length v ≡ length items + (length index + 8) = omega (arith, length-append items (index ++ head), length-append index head, eight) in
    let at : length (items ++ index) ≡ length v - 8 = omega (arith, length-append items index) in
    let number : length_of (drop (length v - 8) v) ≡ length index = ap (λ (x : List ℕ). length_of (drop (length v - 8) x)) (sym split) ∙ ap length_of (drop_at (items ++ index) head (length v - 8) at) ∙ is in
    let from : length items ≡ length v - 8 - length_of (drop (length v - 8) v) = omega (arith, number) in
    let rest : drop (length v - 8 - length_of (drop (length v - 8) v)) v ≡ index ++ head = drop_at items (index ++ head) (length v - 8 - length_of (drop (length v - 8) v)) from in
    let ix : take (length_of (drop (length v - 8) v)) (drop (length v - 8 - length_of (drop (length v - 8) v)) v) ≡ index = (λ i. take (number i) (rest i)) ∙ take_at index head (length index) refl in
    let dx : take (length v - 8 - length_of (drop (length v - 8) v)) v ≡ items = take_at items (index ++ head) (length v - 8 - length_of (drop (length v - 8) v)) from in
    let first : nat_le 8 (length v) ≡ true = le-leb 8 (length v) (omega arith) in
    let second : nat_le (length_of (drop (length v - 8) v)) (length v - 8) ≡ true = le-leb (length_of (drop (length v - 8) v)) (length v - 8) (omega (arith, number)) in
    rw (first, second) (λ i. ok (ix i, dx i))

vlen_parts_of : (at_end : Bool) (head index items : List ℕ) → length head ≡ 8 → length_of head ≡ length index → vlen_value_parts at_end (arranged at_end head index items) ≡ Ok (index, items)
vlen_parts_of at_end head index items eight is = sym (parts_are at_end (arranged at_end head index items)) ∙ cut_parts_of at_end head index items eight is

optional_parts_of : (head next mask items : List ℕ) → length head ≡ 8 → length next ≡ 8 → length_of head ≡ length mask → length_of next ≡ length items → length (head ++ (next ++ (mask ++ items))) < 2 ^ 64
    → optional_parts (head ++ (next ++ (mask ++ items))) ≡ Ok (mask, items)
optional_parts_of head next mask items a8 b8 hm hd lt =
    let v : List ℕ = head ++ (next ++ (mask ++ items)) in
    let long : length v ≡ 16 + length mask + length items = omega (arith, length-append head (next ++ (mask ++ items)), length-append next (mask ++ items), length-append mask items, a8, b8) in
    let rest8 : drop 8 v ≡ next ++ (mask ++ items) = drop_at head (next ++ (mask ++ items)) 8 a8 in
    let m : length_of (take 8 v) ≡ length mask = ap length_of (take_at head (next ++ (mask ++ items)) 8 a8) ∙ hm in
    let d : length_of (take 8 (drop 8 v)) ≡ length items = ap (λ (x : List ℕ). length_of (take 8 x)) rest8 ∙ ap length_of (take_at next (mask ++ items) 8 b8) ∙ hd in
    let sixteen : (head ++ next) ++ (mask ++ items) ≡ v = append_assoc head next (mask ++ items) in
    let heads : length (head ++ next) ≡ 16 = omega (arith, length-append head next, a8, b8) in
    let rest : drop 16 v ≡ mask ++ items = ap (drop 16) (sym sixteen) ∙ drop_at (head ++ next) (mask ++ items) 16 heads in
    let mx : take (length_of (take 8 v)) (drop 16 v) ≡ mask = (λ i. take (m i) (rest i)) ∙ take_at mask items (length mask) refl in
    let dx : drop (length_of (take 8 v)) (drop 16 v) ≡ items = (λ i. drop (m i) (rest i)) ∙ drop_at mask items (length mask) refl in
    let total : 16 + length_of (take 8 v) + length_of (take 8 (drop 8 v)) ≡ length v = omega (arith, m, d, long) in
    let first : nat_le 16 (length v) ≡ true = le-leb 16 (length v) (omega arith) in
    let second : nat_lt (16 + length_of (take 8 v) + length_of (take 8 (drop 8 v))) (2 ^ 64) ≡ true = lt_test (16 + length_of (take 8 v) + length_of (take 8 (drop 8 v))) (2 ^ 64) (omega (arith, lt, total)) in
    let third : nat_eq (length v) (16 + length_of (take 8 v) + length_of (take 8 (drop 8 v))) ≡ true = eq-eqb (length v) (16 + length_of (take 8 v) + length_of (take 8 (drop 8 v))) (sym total) in
    rw (first, second, third) (λ i. ok (mx i, dx i))

-- ---- codecs with chains inside

vlen_steps : (wide at_end : Bool) (index content : Decoder) (count : ℕ) (value i d : List ℕ) (rows items : Chunk) → vlen_value_parts at_end value ≡ Ok (i, d) → nat_lt (count + 1) (2 ^ 64) ≡ true
    → index ((count + 1) ∷ []) (offset_type wide) (offset_bytes wide 0) i ≡ Ok rows → rises (offsets_in_chunk wide rows) ≡ true → in_a_row (Ok []) (λ sizes. content sizes byte_type (0 ∷ []) d) (last_of (offsets_in_chunk wide rows)) ≡ Ok items
    → vlen_chunk wide at_end index content count value ≡ Ok (slices count (offsets_in_chunk wide rows) (all_bytes items))
vlen_steps wide at_end index content count value i d rows items a b c e g = rw (a, b, c, e, g) refl

pub vlen_only : (wide at_end : Bool) (is cs : Standing) (ie ce : Decoder) → Decodes is ie → Decodes cs ce → (count : ℕ) (value : List ℕ) (chunk : Chunk)
    → VlenStands wide at_end is cs count value chunk → vlen_chunk wide at_end ie ce count value ≡ Ok chunk
vlen_only wide at_end is cs ie ce ilaw claw count value chunk s =
    let parts : vlen_value_parts at_end value ≡ Ok (s.index_part, s.data_part) = ap (vlen_value_parts at_end) s.parts ∙ vlen_parts_of at_end s.head s.index_part s.data_part s.head_size s.head_is in
    let offsets = offsets_in_chunk wide s.offset_chunk in
    vlen_steps wide at_end ie ce count value s.index_part s.data_part s.offset_chunk s.byte_chunk parts (lt_test (count + 1) (2 ^ 64) s.countable)
    (ilaw ((count + 1) ∷ []) (offset_type wide) (offset_bytes wide 0) s.index_part s.offset_chunk (row_positive (count + 1) (omega arith)) s.index_stands) s.rising
    (subst (λ (n : ℕ). in_a_row (Ok []) (λ sizes. ce sizes byte_type (0 ∷ []) s.data_part) n ≡ Ok s.byte_chunk) s.byte_count (part_only cs ce claw byte_type (0 ∷ []) s.data_part s.byte_chunk s.data_stands))
    ∙ ap (λ (c : Chunk). ok c) (sym s.elements)

-- which elements are present
abbrev bits_of : Chunk → List Bool
bits_of [] = []
bits_of (plain items ∷ chunk) = false ∷ bits_of chunk
bits_of (absent ∷ chunk) = false ∷ bits_of chunk
bits_of (present element ∷ chunk) = true ∷ bits_of chunk

flags_again : (chunk : Chunk) → for_each flag_in (map flag_of chunk) ≡ Ok (bits_of chunk)
flags_again [] = refl
flags_again (plain items ∷ chunk) = rw (flags_again chunk) refl
flags_again (absent ∷ chunk) = rw (flags_again chunk) refl
flags_again (present element ∷ chunk) = rw (flags_again chunk) refl

count_again : (chunk : Chunk) → length (present_of chunk) ≡ count_set (bits_of chunk)
count_again [] = refl
count_again (plain items ∷ chunk) = count_again chunk
count_again (absent ∷ chunk) = count_again chunk
count_again (present element ∷ chunk) = ap suc (count_again chunk)

under_again : (type : ElementType) (chunk : Chunk) → AreElements (optional type) chunk → under_flags (bits_of chunk) (present_of chunk) ≡ chunk
under_again type [] h = refl
under_again type (plain items ∷ chunk) h = absurd (All-head (IsElement (optional type)) (plain items) chunk h)
under_again type (absent ∷ chunk) h = ap (λ (c : Chunk). absent ∷ c) (under_again type chunk (All-tail (IsElement (optional type)) absent chunk h))
under_again type (present element ∷ chunk) h = ap (λ (c : Chunk). present element ∷ c) (under_again type chunk (All-tail (IsElement (optional type)) (present element) chunk h))

optional_steps : (mask content : Decoder) (sizes : List ℕ) (type : ElementType) (value m d : List ℕ) (flags items : Chunk) (bits : List Bool) → optional_parts value ≡ Ok (m, d) → mask sizes flag_type (0 ∷ []) m ≡ Ok flags → for_each flag_in flags ≡ Ok bits
    → in_a_row (Ok []) (λ sizes. content sizes type (blank_fill type) d) (count_set bits) ≡ Ok items → optional_chunk mask content sizes (optional type) value ≡ Ok (under_flags bits items)
optional_steps mask content sizes type value m d flags items bits a b c e = rw (a, b, c, e) refl

pub optional_only : (ms cs : Standing) (me ce : Decoder) → Decodes ms me → Decodes cs ce → (sizes : List ℕ) (type : ElementType) (value : List ℕ) (chunk : Chunk) → All (λ size. 0 < size) sizes
    → OptionalStandsFor ms cs sizes type value chunk → optional_chunk me ce sizes type value ≡ Ok chunk
optional_only ms cs me ce mlaw claw sizes (fixed width components sign) value chunk positive s = absurd s
optional_only ms cs me ce mlaw claw sizes text value chunk positive s = absurd s
optional_only ms cs me ce mlaw claw sizes bytes value chunk positive s = absurd s
optional_only ms cs me ce mlaw claw sizes (optional type) value chunk positive s =
    let parts : optional_parts value ≡ Ok (s.mask_part, s.data_part) =
    ap optional_parts s.parts ∙ optional_parts_of s.head s.next s.mask_part s.data_part s.head_size s.next_size s.head_is s.next_is (subst (λ (x : List ℕ). length x < 2 ^ 64) s.parts s.small) in
    optional_steps me ce sizes type value s.mask_part s.data_part (map flag_of chunk) (present_of chunk) (bits_of chunk) parts
    (mlaw sizes flag_type (0 ∷ []) s.mask_part (map flag_of chunk) positive s.mask_stands) (flags_again chunk)
    (subst (λ (n : ℕ). in_a_row (Ok []) (λ sizes. ce sizes type (blank_fill type) s.data_part) n ≡ Ok (present_of chunk)) (count_again chunk) (part_only cs ce claw type (blank_fill type) s.data_part (present_of chunk) s.data_stands))
    ∙ ap (λ (c : Chunk). ok c) (under_again type chunk s.elements.each)

-- ---- chains

through_steps : {B : Type 0} (f : BytesCodecs B) (arrays : List ArrayMapping) (measure : Measure) (stand : Standing) (decode : Decoder) (outer : List B) → Decodes stand decode → (sizes : List ℕ) (type : ElementType) (fill value : List ℕ) (chunk : Chunk)
    → (s : StandsThrough f arrays measure stand outer sizes type fill value chunk) → All (λ size. 0 < size) s.map_is.encoded → around_chunk f arrays measure decode outer sizes type fill value ≡ Ok (moved_chunk (inverse_map sizes s.map_is) (moved_chunk s.map_is chunk))
through_steps f arrays measure stand decode outer law sizes type fill value chunk s positive =
    rw (s.mapped, s.measured, s.opened, law s.map_is.encoded type fill s.below (moved_chunk s.map_is chunk) positive s.stands) refl

pub through_only : {B : Type 0} (f : BytesCodecs B) (arrays : List ArrayMapping) (measure : Measure) (stand : Standing) (decode : Decoder) (outer : List B) → All IsMapping arrays → Decodes stand decode → Decodes (StandsThrough f arrays measure stand outer) (around_chunk f arrays measure decode outer)
through_only f arrays measure stand decode outer mappings law sizes type fill value chunk positive s =
    let h : IsCoordinateMap sizes s.map_is = arrays_are_map arrays sizes type s.map_is mappings positive s.mapped in
    through_steps f arrays measure stand decode outer law sizes type fill value chunk s (h.positive positive) ∙ ap (λ (c : Chunk). ok c) (moved_back sizes s.map_is chunk h s.elements.count_is)
