-- Which inner chunks are left out, as the code finds it.
use Rattle.std.proofs.Common.{◌≡◌, ℕ, ◌&&◌, Bool, true, false, List, [], ◌∷◌, map, Result, Ok, refl, ap, sym, subst, ◌∙◌}
use Rattle.std.specs.List.{list_all}
use Rattle.std.specs.Prelude.{IsOkAnd}
use Rattle.std.proofs.lemmas.List.Folds.{list_all-map}
use Rattle.zarrs_chunk.specs.declared.codec_error.CodecError.{CodecError}
use Rattle.zarrs_data_type.specs.Element.{Element, plain, absent, present, Chunk, fill_element}
use Rattle.zarrs_data_type.specs.ElementType.{ElementType}
use Rattle.zarrs_data_type.specs.FillValue.{fill_fits}
use Rattle.zarrs_array_bytes.specs.Chunks.{fill_chunk}
use Rattle.zarrs_array_bytes.specs.Elements.{elements}
use Rattle.zarrs_array_bytes.specs.Held.{Held}
use Rattle.zarrs_array_bytes.specs.Validity.{Holds, sizes_fit, validity}
use Rattle.zarrs_array_to_array.proofs.MappedChunks.{holds_elements}
use Rattle.zarrs_bytes.proofs.Coding.{ok}
use Rattle.zarrs_codec.proofs.Fences.{first_true, second_true}
use Rattle.zarrs_chain_meaning.specs.CodecMeaning.{PlainCodec, codec_normal_element, normal_form}
use Rattle.zarrs_array_bytes.specs.SameBytesLaws.{numbers_same}
use Rattle.zarrs_chain_meaning.specs.Meaning.{Keeping}
use Rattle.zarrs_chain_meaning.specs.sharding.Sharding.{is_kept_as_fill, is_left_out, is_same_element}
use Rattle.zarrs_chain_meaning.proofs.ArraySteps.{ok_is}
use Rattle.zarrs_chain_meaning.proofs.ShardStands.{same_element}
use Rattle.zarrs_chain.specs.sharding.ShardingCalls.{KeepsAll}

element_same : (element : Element) → is_same_element element element ≡ true
element_same (plain items) = numbers_same items
element_same absent = refl
element_same (present element) = element_same element

and_true : (b : Bool) → b && true ≡ b
and_true true = refl
and_true false = refl

-- what is kept of elements is the fill element, element by element
kept_left_out : (keep : Keeping) (type : ElementType) (fill : List ℕ) (chunk : Chunk) → is_left_out (λ _ element. element) type fill (map (keep type) chunk) ≡ is_left_out keep type fill chunk
kept_left_out keep type fill chunk = list_all-map (λ element. is_same_element element (fill_element type fill)) (keep type) chunk

-- of fill elements the normal form is the fill element
filled_left_out : (keep : Keeping) (type : ElementType) (fill : List ℕ) (chunk : Chunk) → is_kept_as_fill keep type fill (fill_element type fill) ≡ true → is_left_out (λ _ element. element) type fill chunk ≡ true → is_left_out keep type fill chunk ≡ true
filled_left_out keep type fill [] n h = refl
filled_left_out keep type fill (element ∷ chunk) n h =
    let same = same_element element (fill_element type fill) (first_true (is_same_element element (fill_element type fill)) (list_all (λ e. is_same_element e (fill_element type fill)) chunk) h) in
    let rest = filled_left_out keep type fill chunk n (second_true (is_same_element element (fill_element type fill)) (list_all (λ e. is_same_element e (fill_element type fill)) chunk) h) in
    (λ i. is_same_element (keep type (same i)) (fill_element type fill) && rest i) ∙ ap (λ b. b && true) n

pub same_left_out : {B : Type 0} (codec : PlainCodec B) (type : ElementType) (fill : List ℕ) (chunk : Chunk) → KeepsAll codec → is_left_out (codec_normal_element codec) type fill chunk ≡ is_left_out (λ _ element. element) type fill chunk
same_left_out codec type fill [] same = refl
same_left_out codec type fill (element ∷ chunk) same = λ i. is_same_element (same type element i) (fill_element type fill) && same_left_out codec type fill chunk same i

-- ---- as the code finds it

pub fill_kept_all : {B : Type 0} (codec : PlainCodec B) (type : ElementType) (fill : List ℕ) → KeepsAll codec → ok (is_kept_as_fill (codec_normal_element codec) type fill (fill_element type fill)) ≡ ok true
fill_kept_all codec type fill same = ap ok (ap (λ (e : Element). is_same_element e (fill_element type fill)) (same type (fill_element type fill)) ∙ element_same (fill_element type fill))

pub fill_kept_told : {B : Type 0} (codec : PlainCodec B) (type : ElementType) (fill : List ℕ) (element kept : Held) (told : Result Bool CodecError) → fill_fits type fill ≡ true → sizes_fit type 1 ≡ Ok tt → IsOkAnd (fill_chunk type 1 fill) (Holds type element)
    → Holds type kept (normal_form codec type (elements type 1 element)) → ((chunk : Chunk) → Holds type kept chunk → told ≡ Ok (is_left_out (λ _ element. element) type fill chunk))
    → told ≡ Ok (is_kept_as_fill (codec_normal_element codec) type fill (fill_element type fill))
fill_kept_told codec type fill element kept told fits room made h tells =
    let filled : fill_chunk type 1 fill ≡ Ok (fill_element type fill ∷ []) = rw (fits, room) refl in
    let holds : Holds type element (fill_element type fill ∷ []) = subst (λ (r : Result Chunk CodecError). IsOkAnd r (Holds type element)) filled made in
    tells (normal_form codec type (elements type 1 element)) h
    ∙ ap ok
    (ap (λ (c : Chunk). is_left_out (λ _ element. element) type fill (normal_form codec type c)) holds.elements_are
    ∙ and_true (is_kept_as_fill (codec_normal_element codec) type fill (fill_element type fill)))

pub left_out_filled : {B : Type 0} (codec : PlainCodec B) (type : ElementType) (fill : List ℕ) (count : ℕ) (held : Held) → validity type count held ≡ Ok tt → is_kept_as_fill (codec_normal_element codec) type fill (fill_element type fill) ≡ true
    → ((chunk : Chunk) → Holds type held chunk → ok true ≡ Ok (is_left_out (λ _ element. element) type fill chunk)) → ok (is_left_out (codec_normal_element codec) type fill (elements type count held)) ≡ ok true
left_out_filled codec type fill count held valid normal tells =
    let chunk = elements type count held in
    ap ok (filled_left_out (codec_normal_element codec) type fill chunk normal (sym (ok_is true (is_left_out (λ _ element. element) type fill chunk) (tells chunk (holds_elements type count held valid)))))

pub left_out_not : {B : Type 0} (codec : PlainCodec B) (type : ElementType) (fill : List ℕ) (count : ℕ) (held : Held) → validity type count held ≡ Ok tt → KeepsAll codec
    → ((chunk : Chunk) → Holds type held chunk → ok false ≡ Ok (is_left_out (λ _ element. element) type fill chunk)) → ok (is_left_out (codec_normal_element codec) type fill (elements type count held)) ≡ ok false
left_out_not codec type fill count held valid same tells =
    let chunk = elements type count held in
    ap ok (same_left_out codec type fill chunk same ∙ sym (ok_is false (is_left_out (λ _ element. element) type fill chunk) (tells chunk (holds_elements type count held valid))))

pub left_out_told : {B : Type 0} (codec : PlainCodec B) (type : ElementType) (fill : List ℕ) (count : ℕ) (held kept : Held) (told : Result Bool CodecError) → Holds type kept (normal_form codec type (elements type count held))
    → ((chunk : Chunk) → Holds type kept chunk → told ≡ Ok (is_left_out (λ _ element. element) type fill chunk)) → told ≡ Ok (is_left_out (codec_normal_element codec) type fill (elements type count held))
left_out_told codec type fill count held kept told h tells =
    let chunk = elements type count held in
    tells (normal_form codec type chunk) h ∙ ap ok (kept_left_out (codec_normal_element codec) type fill chunk)
