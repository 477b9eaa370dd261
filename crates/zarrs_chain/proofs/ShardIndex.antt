-- The index of a shard, as the code makes and reads it.
use Rattle.std.proofs.Common.{◌≡◌, ℕ, ◌*◌, ◌-◌, ◌<◌, ◌^◌, nat_eq, Bool, true, false, List, [], ◌∷◌, ◌++◌, length, map, Result, Ok, Err, IfOk, arith, refl, ap, sym, subst, ◌∙◌}
use Rattle.std.specs.Cmp.Lexicographic.{pointwise}
use Rattle.std.specs.List.{All}
use Rattle.std.specs.Prelude.{IsOkAnd, Vec}
use Rattle.std.specs.declared.alloc.Global.{Global}
use Rattle.std.proofs.lemmas.List.{length-map}
use Rattle.std.proofs.lemmas.List.Elements.{All-nil, All-cons, All-append}
use Rattle.zarrs_chunk.specs.Answer.{◌>>=◌, Answers, demand, memory, seen}
use Rattle.zarrs_chunk.specs.ChunkShape.{product}
use Rattle.zarrs_chunk.specs.declared.codec_error.CodecError.{CodecError}
use Rattle.zarrs_chunk.specs.declared.codec_error.CodecError.TheVariants.{ArrayBytesKind, OffsetNotKept}
use Rattle.zarrs_data_type.specs.Element.{Chunk}
use Rattle.zarrs_data_type.specs.ElementType.{ElementType}
use Rattle.zarrs_array_bytes.specs.Elements.{elements}
use Rattle.zarrs_array_bytes.specs.Held.{Held, Raw, flen, vlen, masked}
use Rattle.zarrs_array_bytes.specs.Parts.{fixed_part}
use Rattle.zarrs_array_bytes.specs.Validity.{Holds, validity}
use Rattle.zarrs_array_bytes.proofs.ElementLaw.{AreElements-held}
use Rattle.zarrs_bytes.specs.BytesCodec.{IsChunk}
use Rattle.zarrs_bytes.proofs.Coding.{ok, bind_ok}
use Rattle.zarrs_codec.specs.BytesToBytesCodec.{BytesCodecs, IsLawful}
use Rattle.zarrs_chain_meaning.specs.Chain.{held_value}
use Rattle.zarrs_chain_meaning.specs.CodecMeaning.{PlainCodec, PlainChain, codec_normal_element, normal_form, chain_representation, chain_value, chain_chunk}
use Rattle.zarrs_chain_meaning.specs.Laws.{IsChainOfMappings}
use Rattle.zarrs_chain_meaning.specs.sharding.Sharding.{fixed_size}
use Rattle.zarrs_chain_meaning.specs.vlen.Vlen.{is_same_bytes, offset_bytes, offset_elements, offset_type, offsets_in_chunk}
use Rattle.zarrs_chain_meaning.specs.vlen.VlenSteps.{bytes_from, read_offsets}
use Rattle.zarrs_chain_meaning.proofs.ArraySteps.{err, error_is, ok_is, ok_no_err}
use Rattle.zarrs_chain_meaning.proofs.ChainRelations.{held_value_is}
use Rattle.zarrs_chain_meaning.proofs.ChainSteps.{held_chunk}
use Rattle.zarrs_chain_meaning.proofs.CodecLaws.{chain_keeps, chain_value_found}
use Rattle.zarrs_chain_meaning.proofs.NestedEncode.{same_bytes}
use Rattle.zarrs_chain_meaning.proofs.NestedKept.{offsets_have}
use Rattle.zarrs_chain_meaning.proofs.NestedStages.{is_positive}
use Rattle.zarrs_chain_meaning.proofs.OptionalSteps.{chunk_long}
use Rattle.zarrs_chain_meaning.proofs.ShardNormal.{elements_long, product_two}
use Rattle.zarrs_chain_meaning.proofs.ShardStands.{fixed_so}
use Rattle.zarrs_chain_meaning.proofs.VlenOffsets.{fixed_held, holds_from, numbers_in, numbers_long}
use Rattle.zarrs_chain.specs.ChainView.{plain_chain}
use Rattle.zarrs_chain.specs.declared.codec_chain.CodecChain.{CodecChain}
use Rattle.zarrs_chain.specs.sharding.ShardingCalls.{KeepsAll, shard_index_part}
use Rattle.zarrs_chain.proofs.KeepsAll.{all_same}
use Rattle.zarrs_chain.proofs.VlenDecode.{bytes_there, fixed_there}
use Rattle.zarrs_chain.proofs.VlenKept.{held_same}

-- ---- numbers in a container

from_zero : (numbers : List ℕ) → map (λ number. number - 0) numbers ≡ numbers
from_zero [] = refl
from_zero (number ∷ numbers) = let e : number - 0 ≡ number = omega arith in λ i. e i ∷ from_zero numbers i

pub rows_hold : (numbers : List ℕ) (raw : Raw) → raw.items ≡ bytes_from true 0 numbers → length raw.items < 2 ^ 64 → Holds (offset_type true) (flen raw) (offset_elements true numbers)
rows_hold numbers raw is small = subst (λ (ns : List ℕ). Holds (offset_type true) (flen raw) (offset_elements true ns)) (from_zero numbers) (holds_from true 0 numbers raw is small)

-- so many rows are valid, and they are the numbers
pub rows_valid : (numbers : List ℕ) (raw : Raw) (type : ElementType) → type ≡ offset_type true → raw.items ≡ bytes_from true 0 numbers → length raw.items < 2 ^ 64 → validity type (length numbers) (flen raw) ≡ Ok tt
rows_valid numbers raw type t is small =
    ap (λ u. validity u (length numbers) (flen raw)) t ∙ ap (λ n. validity (offset_type true) n (flen raw)) (sym (elements_long numbers)) ∙ (rows_hold numbers raw is small).valid

pub rows_are : (numbers : List ℕ) (raw : Raw) → raw.items ≡ bytes_from true 0 numbers → length raw.items < 2 ^ 64 → elements (offset_type true) (length numbers) (flen raw) ≡ offset_elements true numbers
rows_are numbers raw is small = ap (λ n. elements (offset_type true) n (flen raw)) (sym (elements_long numbers)) ∙ (rows_hold numbers raw is small).elements_are

-- ---- what is kept of numbers

pub kept_numbers : {B : Type 0} (codec : PlainCodec B) (numbers : List ℕ) → KeepsAll codec → is_same_bytes (normal_form codec (offset_type true) (offset_elements true numbers)) (offset_elements true numbers) ≡ true
kept_numbers codec numbers same =
    ap (λ (c : Chunk). is_same_bytes c (offset_elements true numbers)) (all_same (codec_normal_element codec) same (offset_type true) (offset_elements true numbers)) ∙ same_bytes (offset_elements true numbers)

-- the test of the bytes is that of the elements
pub rows_tested : {B : Type 0} (codec : PlainCodec B) (type : ElementType) (raw other : Raw) (kept : Held) (rows : Chunk) → Holds type (flen raw) rows → Holds type kept (normal_form codec type rows) → fixed_part kept ≡ Ok other
    → is_same_bytes (normal_form codec type rows) rows ≡ pointwise nat_eq other.items raw.items
rows_tested codec type raw other kept rows h k part =
    held_same type other raw (normal_form codec type rows) rows (subst (λ (x : Held). Holds type x (normal_form codec type rows)) (fixed_held kept other part) k) h (length-map rows (codec_normal_element codec type))

-- the test of the bytes is that of the numbers
pub numbers_tested : {B : Type 0} (codec : PlainCodec B) (numbers : List ℕ) (raw other : Raw) (kept : Held) (type : ElementType) → type ≡ offset_type true → raw.items ≡ bytes_from true 0 numbers → length raw.items < 2 ^ 64
    → Holds type kept (normal_form codec type (elements type (length numbers) (flen raw))) → fixed_part kept ≡ Ok other
    → is_same_bytes (normal_form codec (offset_type true) (offset_elements true numbers)) (offset_elements true numbers) ≡ pointwise nat_eq other.items raw.items
numbers_tested codec numbers raw other kept type t is small h part =
    let wide : Holds (offset_type true) kept (normal_form codec (offset_type true) (elements (offset_type true) (length numbers) (flen raw))) = subst (λ (u : ElementType). Holds u kept (normal_form codec u (elements u (length numbers) (flen raw)))) t h in
    let rows = rows_are numbers raw is small in
    rows_tested codec (offset_type true) raw other kept (offset_elements true numbers) (rows_hold numbers raw is small) (subst (λ (c : Chunk). Holds (offset_type true) kept (normal_form codec (offset_type true) c)) rows wide) part

no_numbers : {B : Type 0} (codec : PlainCodec B) (numbers : List ℕ) (raw : Raw) (kept : Held) (type : ElementType) → type ≡ offset_type true
    → Holds type kept (normal_form codec type (elements type (length numbers) (flen raw))) → fixed_part kept ≡ Err ArrayBytesKind → ⊥
no_numbers codec numbers raw kept type t h e =
    let wide = subst (λ (u : ElementType). Holds u kept (normal_form codec u (elements u (length numbers) (flen raw)))) t h in
    fixed_there 64 1 false kept (ok (normal_form codec (offset_type true) (elements (offset_type true) (length numbers) (flen raw)))) ArrayBytesKind wide e

-- what the code finds of the container of what is kept
pub numbers_told : {B : Type 0} (codec : PlainCodec B) (numbers : List ℕ) (raw : Raw) (kept : Held) (type : ElementType) (r : Result Bool CodecError) → type ≡ offset_type true → raw.items ≡ bytes_from true 0 numbers → length raw.items < 2 ^ 64
    → Holds type kept (normal_form codec type (elements type (length numbers) (flen raw))) → r ≡ seen (λ (x : Raw). pointwise nat_eq x.items raw.items) (fixed_part kept)
    → r ≡ Ok (is_same_bytes (normal_form codec (offset_type true) (offset_elements true numbers)) (offset_elements true numbers))
numbers_told codec numbers raw (flen other) type r t is small h e = e ∙ ap ok (sym (numbers_tested codec numbers raw other (flen other) type t is small h refl))
numbers_told codec numbers raw (vlen other offsets) type r t is small h e = absurd (no_numbers codec numbers raw (vlen other offsets) type t h refl)
numbers_told codec numbers raw (masked inner mask) type r t is small h e = absurd (no_numbers codec numbers raw (masked inner mask) type t h refl)

-- ---- the index part

-- what the code asks a chain of
pub record IsIndexForm (counts sizes : List ℕ) (type : ElementType) (fill : List ℕ) : Type 0 where
  pub sizes_are : sizes ≡ counts ++ 2 ∷ []
  pub type_is : type ≡ offset_type true
  pub fill_is : fill ≡ offset_bytes true 0

pub index_form : (counts sizes : List ℕ) (type : ElementType) (fill : List ℕ) → ok (counts ++ 2 ∷ []) ≡ ok sizes → type ≡ offset_type true → ok (offset_bytes true 0) ≡ ok fill → IsIndexForm counts sizes type fill
index_form counts sizes type fill s t e = record { sizes_are = sym (ok_is (counts ++ 2 ∷ []) sizes s); type_is = t; fill_is = sym (ok_is (offset_bytes true 0) fill e) }

pub value_in_rows : {B : Type 0} (f : BytesCodecs B) (chain : PlainChain B) (counts numbers sizes : List ℕ) (type : ElementType) (fill : List ℕ) (raw : Raw) → IsIndexForm counts sizes type fill → length numbers ≡ product counts * 2 → raw.items ≡ bytes_from true 0 numbers → length raw.items < 2 ^ 64
    → held_value f chain sizes type fill (flen raw) ≡ chain_value f chain (counts ++ 2 ∷ []) (offset_type true) (offset_bytes true 0) (offset_elements true numbers)
value_in_rows f chain counts numbers sizes type fill raw g long is small =
    (λ i. held_value f chain (g.sizes_are i) (g.type_is i) (g.fill_is i) (flen raw))
    ∙ held_value_is f chain (counts ++ 2 ∷ []) (offset_type true) (offset_bytes true 0) (flen raw) (offset_elements true numbers) (rows_hold numbers raw is small) (elements_long numbers ∙ long ∙ sym (product_two counts))

-- the container that the code makes of numbers
pub record IsIndexRows (numbers : List ℕ) (held : Held) (raw : Raw) : Type 0 where
  pub made : held ≡ flen raw
  pub items : raw.items ≡ bytes_from true 0 numbers
  pub small : length raw.items < 2 ^ 64

-- what the chain makes of it
pub value_of_rows : {B : Type 0} (f : BytesCodecs B) (chain : PlainChain B) (counts numbers sizes : List ℕ) (type : ElementType) (fill : List ℕ) (held : Held) (raw : Raw) → IsIndexForm counts sizes type fill → IsIndexRows numbers held raw → length numbers ≡ product counts * 2
    → chain_value f chain (counts ++ 2 ∷ []) (offset_type true) (offset_bytes true 0) (offset_elements true numbers) ≡ held_value f chain sizes type fill held
value_of_rows f chain counts numbers sizes type fill held raw g r long =
    sym (ap (held_value f chain sizes type fill) r.made ∙ value_in_rows f chain counts numbers sizes type fill raw g long r.items r.small)

pub part_kept : {B : Type 0} (f : BytesCodecs B) (chain : CodecChain B) (counts numbers part : List ℕ) → chain_value f (plain_chain chain) (counts ++ 2 ∷ []) (offset_type true) (offset_bytes true 0) (offset_elements true numbers) ≡ Ok part
    → ◌≡◌ {A = Result (Unit {0}) CodecError} (demand (is_same_bytes (normal_form (plain_chain chain).array_to_bytes (offset_type true) (offset_elements true numbers)) (offset_elements true numbers)) OffsetNotKept) (Ok tt)
    → shard_index_part f chain numbers counts ≡ Ok part
part_kept f chain counts numbers part e h = rw (e, h) refl

pub part_not_kept : {B : Type 0} (f : BytesCodecs B) (chain : CodecChain B) (counts numbers part : List ℕ) (cause : CodecError) → chain_value f (plain_chain chain) (counts ++ 2 ∷ []) (offset_type true) (offset_bytes true 0) (offset_elements true numbers) ≡ Ok part
    → ◌≡◌ {A = Result (Unit {0}) CodecError} (demand (is_same_bytes (normal_form (plain_chain chain).array_to_bytes (offset_type true) (offset_elements true numbers)) (offset_elements true numbers)) OffsetNotKept) (Err cause)
    → shard_index_part f chain numbers counts ≡ Err cause
part_not_kept f chain counts numbers part cause e h = rw (e, h) refl

pub part_refused : {B : Type 0} (f : BytesCodecs B) (chain : CodecChain B) (counts numbers : List ℕ) (cause : CodecError) → chain_value f (plain_chain chain) (counts ++ 2 ∷ []) (offset_type true) (offset_bytes true 0) (offset_elements true numbers) ≡ Err cause
    → shard_index_part f chain numbers counts ≡ Err cause
part_refused f chain counts numbers cause e = rw e refl

-- ---- the numbers of a part

pub numbers_found : {B : Type 0} (f : BytesCodecs B) (chain : PlainChain B) (counts sizes part numbers : List ℕ) (type : ElementType) (fill : List ℕ) (held : Held) (raw : Raw) → IsIndexForm counts sizes type fill
    → IsOkAnd (chain_chunk f chain sizes type fill part) (Holds type held) → fixed_part held ≡ Ok raw → numbers ≡ read_offsets true raw.items
    → (seen (offsets_in_chunk true) (chain_chunk f chain (counts ++ 2 ∷ []) (offset_type true) (offset_bytes true 0) part) ≡ Ok numbers) × (length numbers ≡ product counts * 2)
numbers_found f chain counts sizes part numbers type fill held raw g h is read =
    let here : IsOkAnd (chain_chunk f chain (counts ++ 2 ∷ []) (offset_type true) (offset_bytes true 0) part) (Holds (offset_type true) held) = subst (λ (x : List ℕ × ElementType × List ℕ). IsOkAnd (chain_chunk f chain x.0 x.1 x.2 part) (Holds x.1 held)) (λ i. (g.sizes_are i, g.type_is i, g.fill_is i)) h in
    let c = held_chunk (offset_type true) held (chain_chunk f chain (counts ++ 2 ∷ []) (offset_type true) (offset_bytes true 0) part) here in
    let holds : Holds (offset_type true) (flen raw) c.0 = subst (λ (x : Held). Holds (offset_type true) x c.0) (fixed_held held raw is) c.2 in
    let same : offsets_in_chunk true c.0 ≡ numbers = sym (read ∙ numbers_in true raw c.0 holds) in
    let long : length numbers ≡ product counts * 2 = ap length (sym same) ∙ numbers_long true c.0 ∙ chunk_long f chain (counts ++ 2 ∷ []) (offset_type true) (offset_bytes true 0) part c.0 c.1 ∙ product_two counts in
    (rw c.1 (ap ok same), long)

pub rows_fixed : {B : Type 0} (f : BytesCodecs B) (chain : PlainChain B) (counts sizes part : List ℕ) (type : ElementType) (fill : List ℕ) (held : Held) (cause : CodecError) → IsIndexForm counts sizes type fill
    → IsOkAnd (chain_chunk f chain sizes type fill part) (Holds type held) → fixed_part held ≡ Err cause → ⊥
rows_fixed f chain counts sizes part type fill held cause g h e =
    fixed_there 64 1 false held (chain_chunk f chain sizes type fill part) cause (subst (λ (u : ElementType). IsOkAnd (chain_chunk f chain sizes type fill part) (Holds u held)) g.type_is h) e

pub numbers_refused : {B : Type 0} (f : BytesCodecs B) (chain : PlainChain B) (counts sizes part : List ℕ) (type : ElementType) (fill : List ℕ) (cause : CodecError) → IsIndexForm counts sizes type fill
    → chain_chunk f chain sizes type fill part ≡ Err cause → seen (offsets_in_chunk true) (chain_chunk f chain (counts ++ 2 ∷ []) (offset_type true) (offset_bytes true 0) part) ≡ Err cause
numbers_refused f chain counts sizes part type fill cause g e =
    let here : chain_chunk f chain (counts ++ 2 ∷ []) (offset_type true) (offset_bytes true 0) part ≡ Err cause = (λ i. chain_chunk f chain (sym g.sizes_are i) (sym g.type_is i) (sym g.fill_is i) part) ∙ e in
    rw here refl

-- the numbers that the code reads
pub numbers_answered : {B : Type 0} (r : Result (Vec ℕ Global) CodecError) (f : BytesCodecs B) (chain : PlainChain B) (counts sizes part : List ℕ) (type : ElementType) (fill items : List ℕ) (held : Held) → IsIndexForm counts sizes type fill
    → IsOkAnd (chain_chunk f chain sizes type fill part) (Holds type held) → ok items ≡ seen (λ (raw : Raw). raw.items) (fixed_part held) → Answers memory (λ v. v.items) r (ok (read_offsets true items))
    → Answers memory (λ v. v.items) r (seen (offsets_in_chunk true) (chain_chunk f chain (counts ++ 2 ∷ []) (offset_type true) (offset_bytes true 0) part))
numbers_answered (Ok v) f chain counts sizes part type fill items held g h is read =
    let raw = bytes_there held items is in
    (numbers_found f chain counts sizes part v.items type fill held raw.0 g h raw.1 (sym (ok_is (read_offsets true items) v.items read) ∙ ap (read_offsets true) raw.2)).0
numbers_answered (Err cause) f chain counts sizes part type fill items held g h is read = λ ne. absurd (ok_no_err (read_offsets true items) cause (read ne))

pub numbers_counted : {B : Type 0} (r : Result (Vec ℕ Global) CodecError) (f : BytesCodecs B) (chain : PlainChain B) (counts sizes part : List ℕ) (type : ElementType) (fill items : List ℕ) (held : Held) → IsIndexForm counts sizes type fill
    → IsOkAnd (chain_chunk f chain sizes type fill part) (Holds type held) → ok items ≡ seen (λ (raw : Raw). raw.items) (fixed_part held) → Answers memory (λ v. v.items) r (ok (read_offsets true items)) → IfOk r (λ v. length v.items ≡ product counts * 2)
numbers_counted (Ok v) f chain counts sizes part type fill items held g h is read =
    let raw = bytes_there held items is in
    (numbers_found f chain counts sizes part v.items type fill held raw.0 g h raw.1 (sym (ok_is (read_offsets true items) v.items read) ∙ ap (read_offsets true) raw.2)).1
numbers_counted (Err cause) f chain counts sizes part type fill items held g h is read = tt

bytes_missing : (held : Held) (cause : CodecError) → err cause ≡ seen (λ (raw : Raw). raw.items) (fixed_part held) → fixed_part held ≡ Err cause
bytes_missing (flen raw) cause e = absurd cc
bytes_missing (vlen raw offsets) cause e = ap err (error_is [] ArrayBytesKind cause (sym e))
bytes_missing (masked inner mask) cause e = ap err (error_is [] ArrayBytesKind cause (sym e))

-- the container of an index is never of another kind
pub rows_there : {B : Type 0} (f : BytesCodecs B) (chain : PlainChain B) (counts sizes part : List ℕ) (type : ElementType) (fill : List ℕ) (held : Held) (cause : CodecError) → IsIndexForm counts sizes type fill
    → IsOkAnd (chain_chunk f chain sizes type fill part) (Holds type held) → err cause ≡ seen (λ (raw : Raw). raw.items) (fixed_part held) → ⊥
rows_there f chain counts sizes part type fill held cause g h e = rows_fixed f chain counts sizes part type fill held cause g h (bytes_missing held cause e)

-- ---- how many bytes

-- the index part has as many bytes as the chain fixes
pub part_sized : {B : Type 0} (f : BytesCodecs B) (chain : PlainChain B) (counts numbers part : List ℕ) (raw : Raw) (size : ℕ) → IsLawful f → IsChainOfMappings chain → All is_positive counts → length numbers ≡ product counts * 2 → raw.items ≡ bytes_from true 0 numbers → length raw.items < 2 ^ 64
    → chain_value f chain (counts ++ 2 ∷ []) (offset_type true) (offset_bytes true 0) (offset_elements true numbers) ≡ Ok part → (chain_representation f chain (counts ++ 2 ∷ []) (offset_type true) (offset_bytes true 0) >>= fixed_size) ≡ Ok size
    → length part ≡ size
part_sized f chain counts numbers part raw size lawful is p long items small e s =
    let sizes = counts ++ 2 ∷ [] in
    let rows = offset_elements true numbers in
    let positive : All is_positive sizes = All-append is_positive counts (2 ∷ []) p (All-cons is_positive 2 [] (omega arith) (All-nil is_positive)) in
    let elements : IsChunk (offset_type true) (product sizes) rows = record { count_is = elements_long numbers ∙ long ∙ sym (product_two counts); each = AreElements-held (offset_type true) (flen raw) rows (rows_hold numbers raw items small) } in
    let w = chain_value_found f chain is sizes (offset_type true) (offset_bytes true 0) part rows positive elements e in
    let r = bind_ok (chain_representation f chain sizes (offset_type true) (offset_bytes true 0)) fixed_size size s in
    fixed_so r.0 size part r.2 (chain_keeps f chain sizes (offset_type true) (offset_bytes true 0) part rows r.0 lawful is (offsets_have true numbers) positive w r.1)
