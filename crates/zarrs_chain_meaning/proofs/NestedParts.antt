-- Values cut into the parts that their headers say, and flags that are found in a mask.
use Rattle.std.proofs.Common.{◌≡◌, ℕ, zero, suc, ◌+◌, ◌-◌, ◌<◌, ◌≤◌, ◌^◌, nat_eq, nat_lt, nat_le, Bool, true, false, List, [], ◌∷◌, ◌++◌, length, take, drop, map, Ok, arith, refl, ap, sym, subst, ◌∙◌}
use Rattle.std.proofs.lemmas.Bool.{eqb-true}
use Rattle.std.proofs.lemmas.List.{append_assoc, length-append, length-take-le, length-drop, take-append-drop, drop-drop, drop_at}
use Rattle.std.proofs.lemmas.List.Elements.{All-nil, All-cons, All-head, All-tail}
use Rattle.zarrs_chunk.specs.Answer.{demand}
use Rattle.zarrs_chunk.specs.declared.codec_error.CodecError.TheVariants.{InvalidBytesLength, IndexLength, HeaderOverflow}
use Rattle.zarrs_data_type.specs.ElementType.{ElementType, optional}
use Rattle.zarrs_data_type.specs.Element.{Element, plain, absent, present, Chunk, IsElement, AreElements}
use Rattle.zarrs_bytes.proofs.Coding.{demand_ok, ok, bind_ok}
use Rattle.zarrs_chunk.proofs.Inside.{from_lt_test, from_le_test}
use Rattle.zarrs_chain_meaning.specs.Parts.{length_of, for_each}
use Rattle.zarrs_chain_meaning.specs.vlen.Vlen.{vlen_value_parts, arranged}
use Rattle.zarrs_chain_meaning.specs.optional.Optional.{optional_parts, flag_in, under_flags, flag_of, present_of}
use Rattle.zarrs_chain_meaning.proofs.ArraySteps.{ok_is}
use Rattle.zarrs_chain_meaning.proofs.LayoutParts.{cut_parts, parts_are}
use Rattle.zarrs_chain_meaning.proofs.OptionalFor.{count_set}

-- ---- parts of lists

-- a header, a part of so many bytes behind it, and the rest
front_cut : (value : List ℕ) (size : ℕ) → 8 ≤ length value → size ≤ length value - 8
    → (value ≡ take 8 value ++ (take size (drop 8 value) ++ drop size (drop 8 value))) × (length (take 8 value) ≡ 8) × (length (take size (drop 8 value)) ≡ size)
front_cut value size eight le = (
  sym (ap (λ (xs : List ℕ). take 8 value ++ xs) (take-append-drop size (drop 8 value)) ∙ take-append-drop 8 value),
  length-take-le 8 value eight,
  length-take-le size (drop 8 value) (omega (arith, length-drop 8 value)),
)

-- a rest, a part of so many bytes behind it, and a trailer
back_cut : (value : List ℕ) (at size : ℕ) → 8 + at ≡ length value → size ≤ at
    → (value ≡ take (at - size) value ++ (take size (drop (at - size) value) ++ drop at value)) × (length (drop at value) ≡ 8) × (length (take size (drop (at - size) value)) ≡ size)
back_cut value at size long le =
    let back : (at - size) + size ≡ at = omega arith in
    let last : drop size (drop (at - size) value) ≡ drop at value = drop-drop size (at - size) value ∙ ap (λ (n : ℕ). drop n value) back in
    let parts : take size (drop (at - size) value) ++ drop at value ≡ drop (at - size) value = ap (λ (xs : List ℕ). take size (drop (at - size) value) ++ xs) (sym last) ∙ take-append-drop size (drop (at - size) value) in (
      sym (ap (λ (xs : List ℕ). take (at - size) value ++ xs) parts ∙ take-append-drop (at - size) value),
      omega (arith, length-drop at value),
      length-take-le size (drop (at - size) value) (omega (arith, length-drop (at - size) value)),
    )

-- two headers and two parts, where the lengths add up
pub optional_cut : (value : List ℕ) (mask content : ℕ) → length value ≡ 16 + mask + content
    → (value ≡ take 8 value ++ (take 8 (drop 8 value) ++ (take mask (drop 16 value) ++ drop mask (drop 16 value))))
    × (length (take 8 value) ≡ 8) × (length (take 8 (drop 8 value)) ≡ 8) × (length (take mask (drop 16 value)) ≡ mask) × (length (drop mask (drop 16 value)) ≡ content)
optional_cut value mask content long =
    let twice : drop 8 (drop 8 value) ≡ drop 16 value = drop-drop 8 8 value in
    let parts : take mask (drop 16 value) ++ drop mask (drop 16 value) ≡ drop 8 (drop 8 value) = take-append-drop mask (drop 16 value) ∙ sym twice in
    let rest : take 8 (drop 8 value) ++ (take mask (drop 16 value) ++ drop mask (drop 16 value)) ≡ drop 8 value = ap (λ (xs : List ℕ). take 8 (drop 8 value) ++ xs) parts ∙ take-append-drop 8 (drop 8 value) in (
      sym (ap (λ (xs : List ℕ). take 8 value ++ xs) rest ∙ take-append-drop 8 value),
      length-take-le 8 value (omega arith),
      length-take-le 8 (drop 8 value) (omega (arith, length-drop 8 value)),
      length-take-le mask (drop 16 value) (omega (arith, length-drop 16 value)),
      omega (arith, length-drop mask (drop 16 value), length-drop 16 value),
    )

-- ---- parts of values

-- the parts of a value of `vlen`, arranged as they stand
pub record VlenCut (at_end : Bool) (value index items : List ℕ) : Type 0 where
  pub head : List ℕ
  pub parts : value ≡ arranged at_end head index items
  pub head_size : length head ≡ 8
  pub head_is : length_of head ≡ length index

abbrev IsVlenCut : Bool → List ℕ → List ℕ × List ℕ → Type 0
IsVlenCut at_end value parts = VlenCut at_end value parts.0 parts.1

cut_so : (at_end : Bool) (value : List ℕ) (parts : List ℕ × List ℕ) → cut_parts at_end value ≡ Ok parts → VlenCut at_end value parts.0 parts.1
cut_so false value parts e =
    let size = length_of (take 8 value) in
    let a = bind_ok (demand (nat_le 8 (length value)) (InvalidBytesLength (length value) 8)) _ parts e in
    let b = bind_ok (demand (nat_le size (length value - 8)) IndexLength) _ parts a.2 in
    let enough = from_le_test 8 (length value) (demand_ok (nat_le 8 (length value)) (InvalidBytesLength (length value) 8) a.0 a.1) in
    let inside = from_le_test size (length value - 8) (demand_ok (nat_le size (length value - 8)) IndexLength b.0 b.1) in
    let c = front_cut value size enough inside in
    subst (IsVlenCut false value) (ok_is (take size (drop 8 value), drop size (drop 8 value)) parts b.2) (record { head = take 8 value; parts = c.0; head_size = c.1; head_is = sym c.2 })
cut_so true value parts e =
    let at = length value - 8 in
    let size = length_of (drop at value) in
    let a = bind_ok (demand (nat_le 8 (length value)) (InvalidBytesLength (length value) 8)) _ parts e in
    let b = bind_ok (demand (nat_le size at) IndexLength) _ parts a.2 in
    let enough = from_le_test 8 (length value) (demand_ok (nat_le 8 (length value)) (InvalidBytesLength (length value) 8) a.0 a.1) in
    let inside = from_le_test size at (demand_ok (nat_le size at) IndexLength b.0 b.1) in
    let c = back_cut value at size (omega (arith, enough)) inside in
    subst (IsVlenCut true value) (ok_is (take size (drop (at - size) value), take (at - size) value) parts b.2) (record { head = drop at value; parts = c.0; head_size = c.1; head_is = sym c.2 })

pub vlen_cut : (at_end : Bool) (value : List ℕ) (parts : List ℕ × List ℕ) → vlen_value_parts at_end value ≡ Ok parts → VlenCut at_end value parts.0 parts.1
vlen_cut at_end value parts e = cut_so at_end value parts (parts_are at_end value ∙ e)

-- the parts of a value of `optional`
pub record OptionalCut (value mask items : List ℕ) : Type 0 where
  pub head : List ℕ
  pub next : List ℕ
  pub parts : value ≡ head ++ (next ++ (mask ++ items))
  pub head_size : length head ≡ 8
  pub next_size : length next ≡ 8
  pub head_is : length_of head ≡ length mask
  pub next_is : length_of next ≡ length items
  pub small : length value < 2 ^ 64

abbrev IsOptionalCut : List ℕ → List ℕ × List ℕ → Type 0
IsOptionalCut value parts = OptionalCut value parts.0 parts.1

pub optional_cut_found : (value : List ℕ) (parts : List ℕ × List ℕ) → optional_parts value ≡ Ok parts → OptionalCut value parts.0 parts.1
optional_cut_found value parts e =
    let mask = length_of (take 8 value) in
    let content = length_of (take 8 (drop 8 value)) in
    let size = 16 + mask + content in
    let a = bind_ok (demand (nat_le 16 (length value)) (InvalidBytesLength (length value) 16)) _ parts e in
    let b = bind_ok (demand (nat_lt size (2 ^ 64)) HeaderOverflow) _ parts a.2 in
    let c = bind_ok (demand (nat_eq (length value) size) (InvalidBytesLength (length value) size)) _ parts b.2 in
    let small : size < 2 ^ 64 = from_lt_test size (2 ^ 64) (demand_ok (nat_lt size (2 ^ 64)) HeaderOverflow b.0 b.1) in
    let long : length value ≡ size = eqb-true (length value) size (demand_ok (nat_eq (length value) size) (InvalidBytesLength (length value) size) c.0 c.1) in
    let d = optional_cut value mask content long in
    subst (IsOptionalCut value) (ok_is (take mask (drop 16 value), drop mask (drop 16 value)) parts c.2)
    (record {
      head = take 8 value;
      next = take 8 (drop 8 value);
      parts = d.0;
      head_size = d.1;
      next_size = d.2;
      head_is = sym d.3;
      next_is = sym d.4;
      small = subst (λ (n : ℕ). n < 2 ^ 64) (sym long) small;
    })

-- behind the header and the mask stand the data
pub owned_parts : (value mask items : List ℕ) → Ok (mask, items) ≡ optional_parts value → optional_parts value ≡ Ok (mask, drop (16 + length mask) value)
owned_parts value mask items e =
    let c = optional_cut_found value (mask, items) (sym e) in
    let front = (c.head ++ c.next) ++ mask in
    let whole : front ++ items ≡ value = append_assoc (c.head ++ c.next) mask items ∙ append_assoc c.head c.next (mask ++ items) ∙ sym c.parts in
    let long : length front ≡ 16 + length mask = omega (arith, length-append (c.head ++ c.next) mask, length-append c.head c.next, c.head_size, c.next_size) in
    let rest : drop (16 + length mask) value ≡ items = ap (drop (16 + length mask)) (sym whole) ∙ drop_at front items (16 + length mask) long in
    sym e ∙ ap (λ (xs : List ℕ). ok (mask, xs)) (sym rest)

-- and they stand inside
pub mask_inside : (value mask items : List ℕ) → Ok (mask, items) ≡ optional_parts value → 16 + length mask ≤ length value
mask_inside value mask items e =
    let c = optional_cut_found value (mask, items) (sym e) in
    let long : length value ≡ length (c.head ++ (c.next ++ (mask ++ items))) = ap length c.parts in
    omega (arith, long, length-append c.head (c.next ++ (mask ++ items)), length-append c.next (mask ++ items), length-append mask items, c.head_size, c.next_size)

-- ---- flags

-- a flag as an element
abbrev pub flag_element : Bool → Element
flag_element true = plain (1 ∷ [])
flag_element false = plain (0 ∷ [])

flag_found : (element : Element) (flag : Bool) → flag_in element ≡ Ok flag → element ≡ flag_element flag
flag_found (plain []) flag e = absurd cc
flag_found (plain (zero ∷ [])) flag e = ap flag_element (ok_is false flag e)
flag_found (plain (suc zero ∷ [])) flag e = ap flag_element (ok_is true flag e)
flag_found (plain (suc (suc byte) ∷ [])) flag e = absurd cc
flag_found (plain (zero ∷ more ∷ items)) flag e = absurd cc
flag_found (plain (suc zero ∷ more ∷ items)) flag e = absurd cc
flag_found (plain (suc (suc byte) ∷ more ∷ items)) flag e = absurd cc
flag_found absent flag e = absurd cc
flag_found (present element) flag e = absurd cc

pub flags_found : (mask : Chunk) (flags : List Bool) → for_each flag_in mask ≡ Ok flags → mask ≡ map flag_element flags
flags_found [] flags e = ap (map flag_element) (ok_is [] flags e)
flags_found (element ∷ mask) flags e =
    let a = bind_ok (flag_in element) _ flags e in
    let b = bind_ok (for_each flag_in mask) _ flags a.2 in
    let first = flag_found element a.0 a.1 in
    let rest = flags_found mask b.0 b.1 in
    (λ i. first i ∷ rest i) ∙ ap (map flag_element) (ok_is (a.0 ∷ b.0) flags b.2)

-- elements under flags have these flags, and are present elements again
pub flags_under : (flags : List Bool) (elements : Chunk) → length elements ≡ count_set flags → map flag_of (under_flags flags elements) ≡ map flag_element flags
flags_under [] elements e = refl
flags_under (false ∷ flags) elements e = ap (λ (c : Chunk). plain (0 ∷ []) ∷ c) (flags_under flags elements e)
flags_under (true ∷ flags) [] e = absurd (omega (arith, e))
flags_under (true ∷ flags) (element ∷ elements) e = ap (λ (c : Chunk). plain (1 ∷ []) ∷ c) (flags_under flags elements (omega (arith, e)))

pub present_under : (flags : List Bool) (elements : Chunk) → length elements ≡ count_set flags → present_of (under_flags flags elements) ≡ elements
present_under [] [] e = refl
present_under [] (element ∷ elements) e = absurd (omega (arith, e))
present_under (false ∷ flags) elements e = present_under flags elements e
present_under (true ∷ flags) [] e = absurd (omega (arith, e))
present_under (true ∷ flags) (element ∷ elements) e = ap (λ (c : Chunk). element ∷ c) (present_under flags elements (omega (arith, e)))

pub length_under : (flags : List Bool) (elements : Chunk) → length (under_flags flags elements) ≡ length flags
length_under [] elements = refl
length_under (false ∷ flags) elements = ap suc (length_under flags elements)
length_under (true ∷ flags) [] = ap suc (length_under flags [])
length_under (true ∷ flags) (element ∷ elements) = ap suc (length_under flags elements)

pub elements_under : (type : ElementType) (flags : List Bool) (elements : Chunk) → AreElements type elements → AreElements (optional type) (under_flags flags elements)
elements_under type [] elements h = All-nil (IsElement (optional type))
elements_under type (false ∷ flags) elements h = All-cons (IsElement (optional type)) absent (under_flags flags elements) tt (elements_under type flags elements h)
elements_under type (true ∷ flags) [] h = All-cons (IsElement (optional type)) absent (under_flags flags []) tt (elements_under type flags [] h)
elements_under type (true ∷ flags) (element ∷ elements) h =
    All-cons (IsElement (optional type)) (present element) (under_flags flags elements) (All-head (IsElement type) element elements h) (elements_under type flags elements (All-tail (IsElement type) element elements h))
