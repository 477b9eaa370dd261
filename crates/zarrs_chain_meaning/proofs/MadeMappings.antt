-- What holds of the chain that is made of metadata: its array-to-array codecs are what their types hold to.
use Rattle.std.proofs.Common.{◌≡◌, Bool, true, false, not, Option, Some, None, List, [], ◌∷◌, Result, Ok, Err, refl, subst}
use Rattle.std.specs.Prelude.{is_some, ok_or}
use Rattle.std.specs.List.{All}
use Rattle.std.proofs.lemmas.List.Elements.{All-nil, All-cons, All-append}
use Rattle.zarrs_chunk.specs.Answer.{demand, seen}
use Rattle.zarrs_chain_meaning.specs.declared.codec_name.KnownCodec.{KnownCodec}
use Rattle.zarrs_chain_meaning.specs.declared.codec_name.KnownCodec.TheVariants.{Array}
use Rattle.zarrs_metadata.specs.Metadata.{Metadata}
use Rattle.zarrs_metadata.specs.declared.plugin_create_error.PluginCreateError.{PluginCreateError}
use Rattle.zarrs_metadata.specs.declared.plugin_create_error.PluginCreateError.TheVariants.{MissingArrayToBytes, MultipleArrayToBytes}
use Rattle.zarrs_array_to_array.specs.ArrayToArrayCodec.{ArrayMapping, IsMapping}
use Rattle.zarrs_array_to_array.specs.MappingMetadata.{mapping_made}
use Rattle.zarrs_array_to_array.proofs.AnswerSteps.{step_ok}
use Rattle.zarrs_array_to_array.proofs.ArrayLaws.{made_is}
use Rattle.zarrs_array_to_array.proofs.MadeSound.{same_value}
use Rattle.zarrs_chain_meaning.specs.MadeChain.{CodecMade, array_made, to_bytes_made, outer_made, Gathered, codec_named, asked_maker, made_by_name, codec_made, with_codec, joined, gathered, finished, nothing_gathered, depth_all, chain_in, chain_made}
use Rattle.zarrs_chain_meaning.specs.CodecMeaning.{PlainChain, PlainCodec}

-- ---- the array-to-array codecs of a chain

abbrev MakesMapping : {B : Type 0} → CodecMade B → Type 0
MakesMapping (array_made codec) = IsMapping codec
MakesMapping (to_bytes_made codec) = Unit {0}
MakesMapping (outer_made codec) = Unit {0}

array_is : {B : Type 0} (r : Result ArrayMapping PluginCreateError) (made : CodecMade B) → ((codec : ArrayMapping) → r ≡ Ok codec → IsMapping codec) → seen array_made r ≡ Ok made → MakesMapping made
array_is {B} (Ok codec) made f e = subst (λ (m : CodecMade B). MakesMapping m) (same_value (array_made codec) made e) (f codec refl)
array_is (Err x) made f e = absurd (cc)

to_bytes_is : {B A : Type 0} (make : A → PlainCodec B) (r : Result A PluginCreateError) (made : CodecMade B) → seen (λ x. to_bytes_made (make x)) r ≡ Ok made → MakesMapping made
to_bytes_is {B} make (Ok x) made e = subst (λ (m : CodecMade B). MakesMapping m) (same_value (to_bytes_made (make x)) made e) tt
to_bytes_is make (Err x) made e = absurd (cc)

asked_is : {B : Type 0} (r : Result (Option B) PluginCreateError) (made : CodecMade B) → asked_maker r ≡ Ok made → MakesMapping made
asked_is {B} (Ok (Some codec)) made e = subst (λ (m : CodecMade B). MakesMapping m) (same_value (outer_made codec) made e) tt
asked_is (Ok None) made e = absurd (cc)
asked_is (Err x) made e = absurd (cc)

module _ {B : Type 0} (inside : List Metadata → Result (PlainChain B) PluginCreateError) (makes : Metadata → Result (Option B) PluginCreateError) where
  named_is : (metadata : Metadata) (made : CodecMade B) (name : Option KnownCodec) → made_by_name name inside makes metadata ≡ Ok made → MakesMapping made
  named_is metadata made (Some Array) e = array_is (mapping_made metadata) made (made_is metadata) e
  named_is metadata made None e = asked_is (makes metadata) made e
  named_is metadata made name e = to_bytes_is _ _ made e

  -- those gathered so far are mappings
  abbrev HasMappings : Gathered B → Type 0
  HasMappings so_far = All IsMapping so_far.array_to_array

  with_one : (made : CodecMade B) (so_far next : Gathered B) → MakesMapping made → HasMappings so_far → with_codec made so_far ≡ Ok next → HasMappings next
  with_one (array_made codec) so_far next m are e =
      subst (λ (g : Gathered B). HasMappings g) (same_value _ next e) (All-append IsMapping so_far.array_to_array (codec ∷ []) are (All-cons IsMapping codec [] m (All-nil IsMapping)))
  with_one (to_bytes_made codec) so_far next m are e =
      let s = step_ok (demand (not (is_some so_far.array_to_bytes)) MultipleArrayToBytes) _ next e in
      subst (λ (g : Gathered B). HasMappings g) (same_value _ next s.2) are
  with_one (outer_made codec) so_far next m are e = subst (λ (g : Gathered B). HasMappings g) (same_value _ next e) are

  with_next : (r : Result (CodecMade B) PluginCreateError) (must : Bool) (so_far next : Gathered B) → ((made : CodecMade B) → r ≡ Ok made → MakesMapping made) → HasMappings so_far → joined r must so_far ≡ Ok next → HasMappings next
  with_next (Ok made) must so_far next f are e = with_one made so_far next (f made refl) are e
  with_next (Err x) true so_far next f are e = absurd (cc)
  with_next (Err x) false so_far next f are e = subst (λ (g : Gathered B). HasMappings g) (same_value so_far next e) are

  with_all : (metadatas : List Metadata) (so_far all : Gathered B) → HasMappings so_far → gathered inside makes metadatas so_far ≡ Ok all → HasMappings all
  with_all [] so_far all are e = subst (λ (g : Gathered B). HasMappings g) (same_value so_far all e) are
  with_all (metadata ∷ metadatas) so_far all are e =
      let s = step_ok (joined (codec_made inside makes metadata) metadata.must_understand so_far) (gathered inside makes metadatas) all e in
      with_all metadatas s.0 all (with_next (codec_made inside makes metadata) metadata.must_understand so_far s.0 (λ made m. named_is metadata made (codec_named metadata.name) m) are s.1) s.2

-- the array-to-array codecs of a chain that is made are mappings
pub chain_mappings : {B : Type 0} (makes : Metadata → Result (Option B) PluginCreateError) (metadatas : List Metadata) (chain : PlainChain B) → chain_made makes metadatas ≡ Ok chain → All IsMapping chain.array_to_array
unfolding chain_made
chain_mappings {B} makes metadatas chain e =
    let inside = chain_in makes (depth_all metadatas) in
    let g = step_ok (gathered inside makes metadatas nothing_gathered) finished chain e in
    let c = step_ok (ok_or g.0.array_to_bytes MissingArrayToBytes) _ chain g.2 in
    subst (λ (x : PlainChain B). All IsMapping x.array_to_array) (same_value _ chain c.2) (with_all inside makes metadatas nothing_gathered g.0 (All-nil IsMapping) g.1)
