-- Mask bytes as flags, and elements under a mask as the chain's definitions say them.
use Rattle.std.proofs.Common.{◌≡◌, ℕ, zero, suc, ◌*◌, ◌<◌, ◌^◌, nat_eq, nat_lt, ◌&&◌, Bool, true, false, List, [], ◌∷◌, length, map, Result, Ok, Err, arith, refl, ap, sym, ◌∙◌}
use Rattle.std.specs.List.{list_all}
use Rattle.std.proofs.lemmas.Bool.{eq-eqb, eqb-true}
use Rattle.std.proofs.lemmas.Bool.Decides.{nat_tests}
use Rattle.std.proofs.lemmas.List.{length-map}
use Rattle.zarrs_chunk.specs.Answer.{◌>>=◌, demand}
use Rattle.zarrs_chunk.specs.declared.codec_error.CodecError.{CodecError}
use Rattle.zarrs_chunk.specs.declared.codec_error.CodecError.TheVariants.{MaskValue, Overflow, InvalidBytesLength}
use Rattle.zarrs_data_type.specs.ElementType.{element_size}
use Rattle.zarrs_data_type.specs.Element.{plain, absent, present, Chunk}
use Rattle.zarrs_array_bytes.specs.Elements.{elements}
use Rattle.zarrs_array_bytes.specs.Held.{Raw, Held, flen, vlen, masked}
use Rattle.zarrs_array_bytes.specs.Parts.{fixed_part}
use Rattle.zarrs_array_bytes.specs.Pieces.{pieces}
use Rattle.zarrs_array_bytes.specs.Present.{present_elements, mask_of, expansion, present_places}
use Rattle.zarrs_array_bytes.specs.Validity.{sizes_fit, levels_fit, validity, Holds}
use Rattle.zarrs_array_bytes.proofs.Pieces.{pieces-suc, elements-pieces}
use Rattle.zarrs_array_bytes.proofs.PresentLemmas.{marked, present_places-marked}
use Rattle.zarrs_array_bytes.proofs.ValidLemmas.{both_ok, then_ok}
use Rattle.zarrs_bytes.proofs.Coding.{demand_ok, ok}
use Rattle.zarrs_chunk.proofs.Inside.{lt_test}
use Rattle.zarrs_chain_meaning.specs.optional.Optional.{under_flags, flag_of, present_of, flag_type, flag_in}
use Rattle.zarrs_chain_meaning.specs.Parts.{byte_elements, for_each}
use Rattle.zarrs_chain_meaning.proofs.ArraySteps.{err}
use Rattle.zarrs_chain_meaning.proofs.OptionalFor.{count_set}

-- ---- flags of mask bytes

-- the flags that mask bytes are: a byte that isn't 0 is set
abbrev pub set_in : List ℕ → List Bool
set_in [] = []
set_in (zero ∷ mask) = false ∷ set_in mask
set_in (suc byte ∷ mask) = true ∷ set_in mask

abbrev is_flag : ℕ → Bool
is_flag byte = nat_lt byte 2

-- these flags, or the error of another byte
abbrev pub flags_or_refusal : Bool → List Bool → Result (List Bool) CodecError
flags_or_refusal passed flags = demand passed MaskValue >>= (λ _. ok flags)

one_more : (passed flag : Bool) (flags : List Bool) → flags_or_refusal passed flags >>= (λ rest. ok (flag ∷ rest)) ≡ flags_or_refusal passed (flag ∷ flags)
one_more true flag flags = refl
one_more false flag flags = refl

not_passed : (test more : Bool) (flags : List Bool) → test ≡ false → flags_or_refusal (test && more) flags ≡ err MaskValue
not_passed true more flags e = absurd cc
not_passed false more flags e = refl

no_flag : (byte : ℕ) → is_flag (suc (suc byte)) ≡ false
no_flag byte = grind (arith, nat_tests)

after_flag : (flag : Bool) (r s : Result (List Bool) CodecError) → r ≡ s → r >>= (λ flags. ok (flag ∷ flags)) ≡ s >>= (λ flags. ok (flag ∷ flags))
after_flag flag r s e = ap (λ (x : Result (List Bool) CodecError). x >>= (λ flags. ok (flag ∷ flags))) e

-- the flags of mask bytes
pub flags_read : (mask : List ℕ) → for_each flag_in (byte_elements mask) ≡ flags_or_refusal (list_all (λ byte. nat_lt byte 2) mask) (set_in mask)
flags_read [] = refl
flags_read (zero ∷ mask) = after_flag false (for_each flag_in (byte_elements mask)) (flags_or_refusal (list_all is_flag mask) (set_in mask)) (flags_read mask) ∙ one_more (list_all is_flag mask) false (set_in mask)
flags_read (suc zero ∷ mask) = after_flag true (for_each flag_in (byte_elements mask)) (flags_or_refusal (list_all is_flag mask) (set_in mask)) (flags_read mask) ∙ one_more (list_all is_flag mask) true (set_in mask)
flags_read (suc (suc byte) ∷ mask) = sym (not_passed (is_flag (suc (suc byte))) (list_all is_flag mask) (set_in (suc (suc byte) ∷ mask)) (no_flag byte))

count_marked : (mask : List ℕ) → count_set (set_in mask) ≡ length (marked mask)
count_marked [] = refl
count_marked (zero ∷ mask) = count_marked mask ∙ sym (length-map (marked mask) suc)
count_marked (suc byte ∷ mask) = ap suc (count_marked mask ∙ sym (length-map (marked mask) suc))

-- as many flags are set as elements are present
pub count_present : (mask : List ℕ) → count_set (set_in mask) ≡ length (present_places mask)
count_present mask = count_marked mask ∙ ap (λ (places : List ℕ). length places) (sym (present_places-marked mask))

-- elements put back under a mask stand under its flags
pub expansion_under : (mask : List ℕ) (items : Chunk) → expansion mask items ≡ under_flags (set_in mask) items
expansion_under [] items = refl
expansion_under (zero ∷ mask) items = ap (λ (c : Chunk). absent ∷ c) (expansion_under mask items)
expansion_under (suc byte ∷ mask) [] = ap (λ (c : Chunk). absent ∷ c) (expansion_under mask [])
expansion_under (suc byte ∷ mask) (element ∷ items) = ap (λ (c : Chunk). present element ∷ c) (expansion_under mask items)

-- ---- flags of elements

pub present_same : (chunk : Chunk) → present_elements chunk ≡ present_of chunk
present_same [] = refl
present_same (plain items ∷ chunk) = present_same chunk
present_same (absent ∷ chunk) = present_same chunk
present_same (present element ∷ chunk) = ap (λ (c : Chunk). element ∷ c) (present_same chunk)

pub flags_bytes : (chunk : Chunk) → map flag_of chunk ≡ byte_elements (mask_of chunk)
flags_bytes [] = refl
flags_bytes (plain items ∷ chunk) = ap (λ (c : Chunk). plain (0 ∷ []) ∷ c) (flags_bytes chunk)
flags_bytes (absent ∷ chunk) = ap (λ (c : Chunk). plain (0 ∷ []) ∷ c) (flags_bytes chunk)
flags_bytes (present element ∷ chunk) = ap (λ (c : Chunk). plain (1 ∷ []) ∷ c) (flags_bytes chunk)

-- ---- bytes as elements

single_bytes : (items : List ℕ) → map plain (pieces 1 (length items) items) ≡ byte_elements items
single_bytes [] = refl
single_bytes (byte ∷ items) = ap (map plain) (pieces-suc 1 (length items) (byte ∷ items)) ∙ ap (λ (c : Chunk). plain (byte ∷ []) ∷ c) (single_bytes items)

-- the elements of a container of flags are its bytes
pub flag_elements : (raw : Raw) (count : ℕ) → length raw.items ≡ count → elements flag_type count (flen raw) ≡ byte_elements raw.items
flag_elements raw count long = ap (λ (n : ℕ). elements flag_type n (flen raw)) (sym long) ∙ elements-pieces 1 1 false (length raw.items) raw ∙ single_bytes raw.items

pub flags_valid : (raw : Raw) → length raw.items < 2 ^ 64 → validity flag_type (length raw.items) (flen raw) ≡ Ok tt
flags_valid raw small =
    let n = length raw.items in
    let one : n * element_size 1 1 ≡ n = omega arith in
    let fits : sizes_fit flag_type n ≡ Ok tt = ap (λ (b : Bool). demand b Overflow) (lt_test (n * element_size 1 1) (2 ^ 64) (omega (arith, one, small))) in
    let long : levels_fit InvalidBytesLength flag_type n (flen raw) ≡ Ok tt = ap (λ (b : Bool). demand b (InvalidBytesLength n (n * element_size 1 1))) (eq-eqb n (n * element_size 1 1) (sym one)) in
    then_ok (sizes_fit flag_type n) (levels_fit InvalidBytesLength flag_type n (flen raw)) fits long

-- a container that holds flags has their bytes
pub flags_in_bytes : (held : Held) (raw : Raw) (chunk : Chunk) → Holds flag_type held chunk → fixed_part held ≡ Ok raw → chunk ≡ byte_elements raw.items
flags_in_bytes (flen raw) same chunk holds e =
    let is : raw ≡ same = cc e in
    let valid = both_ok (sizes_fit flag_type (length chunk)) (levels_fit InvalidBytesLength flag_type (length chunk) (flen raw)) holds.valid in
    let n = length chunk in
    let long : length raw.items ≡ n = omega (arith, eqb-true (length raw.items) (n * element_size 1 1) (demand_ok (nat_eq (length raw.items) (n * element_size 1 1)) (InvalidBytesLength (length raw.items) (n * element_size 1 1)) tt valid.1)) in
    sym holds.elements_are ∙ flag_elements raw n long ∙ ap (λ (r : Raw). byte_elements r.items) is
flags_in_bytes (vlen raw offsets) same chunk holds e = absurd cc
flags_in_bytes (masked inner mask) same chunk holds e = absurd cc

-- and it has no other kind
pub flags_are_fixed : (held : Held) (chunk : Chunk) (cause : CodecError) → Holds flag_type held chunk → fixed_part held ≡ Err cause → ⊥
flags_are_fixed (flen raw) chunk cause holds e = absurd cc
flags_are_fixed (vlen raw offsets) chunk cause holds e =
    let valid = both_ok (sizes_fit flag_type (length chunk)) (levels_fit InvalidBytesLength flag_type (length chunk) (vlen raw offsets)) holds.valid in
    absurd (cc valid.1)
flags_are_fixed (masked inner mask) chunk cause holds e =
    let valid = both_ok (sizes_fit flag_type (length chunk)) (levels_fit InvalidBytesLength flag_type (length chunk) (masked inner mask)) holds.valid in
    absurd (cc valid.1)
