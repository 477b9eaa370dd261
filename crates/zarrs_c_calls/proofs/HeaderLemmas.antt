-- What holds of the header that a text is: no size is zero, and its array-to-array codecs keep the invariants of their types.
use Rattle.std.proofs.Common.{◌≡◌, ℕ, ◌<◌, ◌==◌, Bool, true, false, if◌then◌else◌, Option, Some, None, List, Result, Ok, Err, refl, ap, subst}
use Rattle.std.specs.Prelude.{codes, ok_or}
use Rattle.std.specs.List.{All, list_any}
use Rattle.serde_json.specs.Data.{Data, Members}
use Rattle.serde_json.specs.Find.{as_array, as_object, get_member}
use Rattle.zarrs_chunk.proofs.Products.{All-positive}
use Rattle.zarrs_metadata.specs.declared.plugin_create_error.PluginCreateError.{PluginCreateError}
use Rattle.zarrs_array_to_array.specs.ArrayToArrayCodec.{IsMapping}
use Rattle.zarrs_array_to_array.proofs.AnswerSteps.{step_ok}
use Rattle.zarrs_json.specs.KnownBytesCodec.{known_codecs}
use Rattle.zarrs_json.specs.KnownMaker.{known_made}
use Rattle.zarrs_chain_meaning.specs.MadeChain.{chain_made}
use Rattle.zarrs_chain_meaning.specs.CodecMeaning.{chain_representation}
use Rattle.zarrs_array_to_array.proofs.MadeSound.{same_value}
use Rattle.zarrs_chain_meaning.proofs.MadeMappings.{chain_mappings}
use Rattle.zarrs_chain.specs.ChainJson.{create_answer, metadatas_shown, chain_shown}
use Rattle.zarrs_chain.specs.declared.metadata.chain_json_error.ChainJsonError.{ChainJsonError}
use Rattle.zarrs_chain.specs.declared.metadata.chain_json_error.ChainJsonError.TheVariants.{NotAList}
use Rattle.zarrs_json.specs.Json as json
use Rattle.zarrs_json.specs.Refusal.{codec_answer, chain_answer}
use Rattle.zarrs_json.specs.declared.refusal.Refusal.{Refusal}
use Rattle.zarrs_json.specs.declared.refusal.Refusal.TheVariants.{Syntax}
use Rattle.zarrs_json.specs.Header.{Header, shape_at, data_type_at, fill_value_at, codecs_at, header_in, line_header}
use Rattle.zarrs_c_calls.specs.Calls.{header_given}
use Rattle.zarrs_c_calls.specs.Codes.{refusal_answer}
use Rattle.zarrs_json.specs.declared.known_maker.KnownMaker.TheVariants.{Shipped}

-- ---- steps

create_ok : {A : Type 0} (r : Result A PluginCreateError) (x : A) → create_answer r ≡ Ok x → r ≡ Ok x
create_ok (Ok y) x e = ap (λ (z : _). Ok z) (same_value y x e)
create_ok (Err refusal) x e = absurd (cc)

chain_ok : {A : Type 0} (r : Result A ChainJsonError) (x : A) → chain_answer r ≡ Ok x → r ≡ Ok x
chain_ok (Ok y) x e = ap (λ (z : _). Ok z) (same_value y x e)
chain_ok (Err refusal) x e = absurd (cc)

refusal_ok : {A : Type 0} (r : Result A Refusal) (x : A) → refusal_answer r ≡ Ok x → r ≡ Ok x
refusal_ok (Ok y) x e = ap (λ (z : _). Ok z) (same_value y x e)
refusal_ok (Err refusal) x e = absurd (cc)

-- ---- a header

-- no size is zero, and the array-to-array codecs are mappings
pub record IsSound (header : Header) : Type 0 where
  pub mappings : All IsMapping header.chain.array_to_array
  pub positive : All (λ size. 0 < size) header.sizes

shaped : (t : Bool) (xs sizes : List ℕ) → ok_or (if t then None else Some xs) Syntax ≡ Ok sizes → (t ≡ false) × (xs ≡ sizes)
shaped true xs sizes e = absurd (cc)
shaped false xs sizes e = (refl, same_value xs sizes e)

sizes_are : (tree : Option Data) (sizes : List ℕ) → shape_at tree ≡ Ok sizes → All (λ size. 0 < size) sizes
sizes_are None sizes e = absurd (cc)
sizes_are (Some tree) sizes e =
    let a = step_ok (json.number_list_shown tree) _ sizes e in
    let s = shaped (list_any (λ size. size == 0) a.0) a.0 sizes a.2 in
    subst (λ (xs : List ℕ). All (λ size. 0 < size) xs) s.1 (All-positive a.0 s.0)

listed_are : (tree : Data) (chain : _) → chain_shown (known_made Shipped) tree ≡ Ok chain → All IsMapping chain.array_to_array
listed_are tree chain e =
    let a = step_ok (ok_or (as_array tree) NotAList) _ chain e in
    let b = step_ok (create_answer (metadatas_shown a.0)) _ chain a.2 in
    chain_mappings (known_made Shipped) b.0 chain (create_ok (chain_made (known_made Shipped) b.0) chain b.2)

codecs_are : (tree : Option Data) (chain : _) → codecs_at Shipped tree ≡ Ok chain → All IsMapping chain.array_to_array
codecs_are tree chain e =
    let a = step_ok (ok_or tree Syntax) _ chain e in
    listed_are a.0 chain (chain_ok (chain_shown (known_made Shipped) a.0) chain a.2)

members_sound : (members : Members) (header : Header) → header_in Shipped members ≡ Ok header → IsSound header
members_sound members header e =
    let a = step_ok (shape_at (get_member (codes "shape") members)) _ header e in
    let b = step_ok (data_type_at (get_member (codes "data_type") members)) _ header a.2 in
    let c = step_ok (fill_value_at (get_member (codes "fill_value") members)) _ header b.2 in
    let d = step_ok (codecs_at Shipped (get_member (codes "codecs") members)) _ header c.2 in
    let f = step_ok (codec_answer (chain_representation known_codecs d.0 a.0 b.0 c.0)) _ header d.2 in
    subst (λ (h : Header). IsSound h) (same_value _ header f.2)
    (record { mappings = codecs_are (get_member (codes "codecs") members) d.0 d.1; positive = sizes_are (get_member (codes "shape") members) a.0 a.1 })

pub header_sound : (text : List ℕ) (header : Header) → header_given text ≡ Ok header → IsSound header
header_sound text header e =
    let b = step_ok (json.tree_of text) _ header (refusal_ok (line_header Shipped text) header e) in
    let c = step_ok (ok_or (as_object b.0) Syntax) (header_in Shipped) header b.2 in
    members_sound c.0 header c.2
