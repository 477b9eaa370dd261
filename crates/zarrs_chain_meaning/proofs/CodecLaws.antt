-- Every array-to-bytes codec keeps the laws and is made again of its metadata, and so every chain: by one induction each, and each law by its name.
use Rattle.std.proofs.Common.{◌≡◌, ◌↔◌, ℕ, ◌<◌, Bool, List, [], Option, Ok, Err, ap, sym, subst, ◌∙◌, length}
use Rattle.std.specs.Prelude.{Result, IfOk}
use Rattle.std.specs.List.{All}
use Rattle.zarrs_chunk.specs.ChunkShape.{product}
use Rattle.zarrs_data_type.specs.ElementType.{ElementType}
use Rattle.zarrs_data_type.specs.Element.{Chunk, AreElements}
use Rattle.zarrs_array_bytes.specs.Update.{update}
use Rattle.zarrs_codec.specs.BytesToBytesCodec.{BytesCodecs, IsLawful, KeepsTo}
use Rattle.zarrs_codec.specs.CoordinateMap.{CoordinateMap, origins, moved_chunk}
use Rattle.zarrs_codec.specs.declared.bytes_representation.BytesRepresentation.{BytesRepresentation}
use Rattle.zarrs_bytes.specs.BytesCodec.{IsChunk}
use Rattle.zarrs_packbits.specs.Laws.{HasBytes}
use Rattle.zarrs_chain_meaning.specs.Meaning.{through}
use Rattle.zarrs_chain_meaning.specs.CodecMeaning.{PlainCodec, bytes_codec, packbits_codec, vlen_v2_codec, vlen_codec, optional_codec, sharding_codec, PlainChain, meaning, chain_meaning, HasMappings, codec_normal_element, normal_form, codec_representation, chain_representation, codec_value, chain_value, codec_chunk, chain_chunk, CodecStands, ChainStands, CodecWritten, ChainWritten}
use Rattle.zarrs_chain_meaning.specs.Laws.{IsChainOfMappings}
use Rattle.zarrs_chain_meaning.specs.MadeAgain.{IsMadeAgain, HasRanges, HasOuter, HasBytesCodecs, ChainsAreMadeAgain}
use Rattle.zarrs_chain_meaning.specs.MadeChain.{to_bytes_made, chain_made}
use Rattle.zarrs_chain_meaning.specs.WrittenMetadata.{chain_metadatas}
use Rattle.zarrs_metadata.specs.Metadata.{Metadata}
use Rattle.zarrs_metadata.specs.declared.plugin_create_error.PluginCreateError.{PluginCreateError}
use Rattle.zarrs_metadata.proofs.ReadBack.{bytes-reads_back}
use Rattle.zarrs_chain_meaning.proofs.ArraySteps.{ok_is}
use Rattle.zarrs_chain_meaning.proofs.NestedNormal.{KeepsTypes, kept_elements, all_twice, kept_selected, kept_updated}
use Rattle.zarrs_chain_meaning.proofs.NestedStands.{StandsOnce}
use Rattle.zarrs_chain_meaning.proofs.NestedWritten.{WritesOnce}
use Rattle.zarrs_chain_meaning.proofs.NestedForNormal.{WrittenKept}
use Rattle.zarrs_chain_meaning.proofs.NestedWrittenStands.{StandsKept, StandsTaken}
use Rattle.zarrs_chain_meaning.proofs.NestedEncode.{Encodes}
use Rattle.zarrs_chain_meaning.proofs.NestedFound.{Founds, FoundsTaken}
use Rattle.zarrs_chain_meaning.proofs.NestedDecode.{Decodes}
use Rattle.zarrs_chain_meaning.proofs.NestedRead.{ReadsTaken}
use Rattle.zarrs_chain_meaning.proofs.LawfulCodec.{IsLawfulCodec, IsLawfulChain, through_laws}
use Rattle.zarrs_chain_meaning.proofs.MadeAgain.{clean-order, IsAgain, chain-again, packbits-again, vlen-again, optional-again, sharding-again}
use Rattle.zarrs_chain_meaning.proofs.PlainLaws.{bytes_laws, packbits_laws}
use Rattle.zarrs_chain_meaning.proofs.VlenV2Laws.{vlen_v2_laws, vlen_v2-again}
use Rattle.zarrs_chain_meaning.proofs.VlenLaws.{vlen_laws}
use Rattle.zarrs_chain_meaning.proofs.OptionalLaws.{optional_laws}
use Rattle.zarrs_chain_meaning.proofs.ShardingLaws.{shard_laws}
use Rattle.zarrs_chunk.specs.Answer.{checked_u64, seen, Answers}
use Rattle.zarrs_chain_meaning.proofs.NestedRoom.{HasFill, HasRoom}

-- every array-to-bytes codec keeps the laws
pub codec_laws : {B : Type 0} (codec : PlainCodec B) → IsLawfulCodec (meaning codec)
unfolding meaning
codec_laws (bytes_codec order) = bytes_laws order
codec_laws (packbits_codec settings) = packbits_laws settings
codec_laws (vlen_v2_codec codec) = vlen_v2_laws codec
codec_laws (vlen_codec ia ix ib da dx db wide at_end) = vlen_laws wide at_end (through ia (meaning ix) ib) (through da (meaning dx) db) (through_laws ia (meaning ix) ib (codec_laws ix)) (through_laws da (meaning dx) db (codec_laws dx))
codec_laws (optional_codec ma mx mb da dx db) = optional_laws (through ma (meaning mx) mb) (through da (meaning dx) db) (through_laws ma (meaning mx) mb (codec_laws mx)) (through_laws da (meaning dx) db (codec_laws dx))
codec_laws (sharding_codec sa sx sb ia ix ib shape at_end) = shard_laws shape at_end (through sa (meaning sx) sb) (through ia (meaning ix) ib) (through_laws sa (meaning sx) sb (codec_laws sx)) (through_laws ia (meaning ix) ib (codec_laws ix))

-- and every chain
pub chain_laws : {B : Type 0} (chain : PlainChain B) → IsLawfulChain (chain_meaning chain)
chain_laws chain = through_laws chain.array_to_array (meaning chain.array_to_bytes) chain.bytes_to_bytes (codec_laws chain.array_to_bytes)

-- every array-to-bytes codec is made again of its metadata
codec-again : {B : Type 0} (described : B → Metadata) (makes : Metadata → Result (Option B) PluginCreateError) (codec : PlainCodec B) → HasMappings codec → HasRanges codec → HasOuter (IsMadeAgain described makes) codec → IsAgain described makes codec
unfolding meaning
codec-again described makes (bytes_codec order) m r o =
    record { clean = clean-order order; made = ap (λ r. seen (λ o. to_bytes_made (bytes_codec o)) r) (bytes-reads_back order) }
codec-again described makes (packbits_codec settings) m r o = packbits-again described makes settings r
codec-again described makes (vlen_v2_codec codec) m r o = vlen_v2-again described makes codec
codec-again described makes (vlen_codec ia ix ib da dx db wide at_end) m r o =
    vlen-again described makes ia ix ib da dx db wide at_end
    (chain-again described makes ia ix ib m.0.0 (codec-again described makes ix m.0.1 r.0 o.0.0) o.0.1)
    (chain-again described makes da dx db m.1.0 (codec-again described makes dx m.1.1 r.1 o.1.0) o.1.1)
codec-again described makes (optional_codec ma mx mb da dx db) m r o =
    optional-again described makes ma mx mb da dx db
    (chain-again described makes ma mx mb m.0.0 (codec-again described makes mx m.0.1 r.0 o.0.0) o.0.1)
    (chain-again described makes da dx db m.1.0 (codec-again described makes dx m.1.1 r.1 o.1.0) o.1.1)
codec-again described makes (sharding_codec sa sx sb ia ix ib shape at_end) m r o =
    sharding-again described makes sa sx sb ia ix ib shape at_end m.0
    (chain-again described makes sa sx sb m.1.0 (codec-again described makes sx m.1.1 r.0 o.0.0) o.0.1)
    (chain-again described makes ia ix ib m.2.0 (codec-again described makes ix m.2.1 r.1 o.1.0) o.1.1)

-- ---- each law by its name

-- 64 bits count the elements of a chunk that a codec takes
pub codec_counted : {B : Type 0} (f : BytesCodecs B) (codec : PlainCodec B) (sizes : List ℕ) (type : ElementType) (fill : List ℕ) (r : BytesRepresentation) → codec_representation f codec sizes type fill ≡ Ok r → checked_u64 (product sizes) ≡ Ok (product sizes)
codec_counted f codec = (codec_laws codec).counted f

-- where memory has the elements of a chunk that a codec takes, 64 bits count their bytes
pub codec_room : {B : Type 0} (f : BytesCodecs B) (codec : PlainCodec B) → HasMappings codec → HasRoom (codec_representation f codec)
codec_room f codec = (codec_laws codec).room f

-- the fill value of a chunk that a codec takes fits the type
pub codec_fits : {B : Type 0} (f : BytesCodecs B) (codec : PlainCodec B) → HasFill (codec_representation f codec)
codec_fits f codec = (codec_laws codec).fits f

-- a chunk that is answered has as many elements as its sizes say
pub chunk_count : {B : Type 0} (f : BytesCodecs B) (codec : PlainCodec B) (sizes : List ℕ) (type : ElementType) (fill value : List ℕ) (chunk : Chunk) → codec_chunk f codec sizes type fill value ≡ Ok chunk → length chunk ≡ product sizes
chunk_count f codec = (codec_laws codec).long f

pub kept_is : {B : Type 0} (codec : PlainCodec B) → KeepsTypes (codec_normal_element codec)
kept_is codec = (codec_laws codec).types

pub normal_elements : {B : Type 0} (codec : PlainCodec B) (type : ElementType) (count : ℕ) (chunk : Chunk) → IsChunk type count chunk → IsChunk type count (normal_form codec type chunk)
normal_elements codec type count chunk is = kept_elements (codec_normal_element codec) (kept_is codec) type count chunk is

pub normal_twice : {B : Type 0} (codec : PlainCodec B) (type : ElementType) (chunk : Chunk) → AreElements type chunk → normal_form codec type (normal_form codec type chunk) ≡ normal_form codec type chunk
normal_twice codec type chunk h = all_twice (codec_normal_element codec) (codec_laws codec).twice type chunk h

pub normal_moved : {B : Type 0} (codec : PlainCodec B) (type : ElementType) (m : CoordinateMap) (chunk : Chunk) → normal_form codec type (moved_chunk m chunk) ≡ moved_chunk m (normal_form codec type chunk)
normal_moved codec type m chunk = kept_selected (codec_normal_element codec) (codec_laws codec).absents type chunk (origins m)

pub normal_updated : {B : Type 0} (codec : PlainCodec B) (type : ElementType) (chunk : Chunk) (places : List ℕ) (new : Chunk) → normal_form codec type (update chunk places new) ≡ update (normal_form codec type chunk) places (normal_form codec type new)
normal_updated codec type chunk places new = kept_updated (codec_normal_element codec) type chunk places new

pub chain_one : {B : Type 0} (f : BytesCodecs B) (chain : PlainChain B) → IsChainOfMappings chain → StandsOnce (ChainStands f chain)
chain_one f chain is = (chain_laws chain).stands_once f (is.mappings, is.inner_mappings)

pub chain_once : {B : Type 0} (f : BytesCodecs B) (chain : PlainChain B) → WritesOnce (ChainWritten f chain)
chain_once f chain = (chain_laws chain).writes_once f

pub normal_as_written : {B : Type 0} (f : BytesCodecs B) (chain : PlainChain B) → WrittenKept (ChainWritten f chain) (codec_normal_element chain.array_to_bytes)
normal_as_written f chain = (chain_laws chain).kept f

-- what is written for a chunk of the sizes and the type is what is written for its normal form
pub written_for_normal : {B : Type 0} (f : BytesCodecs B) (chain : PlainChain B) (sizes : List ℕ) (type : ElementType) (fill value : List ℕ) (chunk : Chunk) → IsChunk type (product sizes) chunk
    → ChainWritten f chain sizes type fill value chunk ↔ ChainWritten f chain sizes type fill value (normal_form chain.array_to_bytes type chunk)
written_for_normal f chain sizes type fill value chunk is = (
  λ w. (chain_laws chain).kept f sizes type fill value chunk w,
  λ w. (chain_laws chain).kept_back f sizes type fill value chunk is w,
)

-- a written value is as many bytes as the representation says
pub chain_keeps : {B : Type 0} (f : BytesCodecs B) (chain : PlainChain B) (sizes : List ℕ) (type : ElementType) (fill value : List ℕ) (chunk : Chunk) (r : BytesRepresentation) → IsLawful f → IsChainOfMappings chain → All HasBytes chunk → All (λ size. 0 < size) sizes
    → ChainWritten f chain sizes type fill value chunk → chain_representation f chain sizes type fill ≡ Ok r → KeepsTo r value
chain_keeps f chain sizes type fill value chunk r lawful is each positive w e =
    let measured = (chain_laws chain).measured f lawful (is.mappings, is.inner_mappings) sizes type fill value chunk positive each w in
    subst (λ (s : BytesRepresentation). KeepsTo s value) (ok_is measured.size r (sym measured.measured ∙ e)) measured.kept.keeps

pub codec_stands : {B : Type 0} (f : BytesCodecs B) → IsLawful f → (codec : PlainCodec B) → HasMappings codec → StandsTaken (CodecWritten f codec) (CodecStands f codec) (codec_representation f codec) (codec_normal_element codec)
codec_stands f lawful codec has = (codec_laws codec).stands f lawful has

-- what is written for a chunk stands for its normal form
pub chain_stands : {B : Type 0} (f : BytesCodecs B) (chain : PlainChain B) → IsLawful f → IsChainOfMappings chain → StandsKept (ChainWritten f chain) (ChainStands f chain) (codec_normal_element chain.array_to_bytes)
chain_stands f chain lawful is = (chain_laws chain).stands f lawful (is.mappings, is.inner_mappings)

-- two chunks are written alike exactly if their normal forms are equal
pub chain_alike : {B : Type 0} (f : BytesCodecs B) (chain : PlainChain B) (sizes : List ℕ) (type : ElementType) (fill value other_value : List ℕ) (chunk other : Chunk) → IsLawful f → IsChainOfMappings chain → All HasBytes chunk → All HasBytes other → All (λ size. 0 < size) sizes
    → ChainWritten f chain sizes type fill value chunk → ChainWritten f chain sizes type fill other_value other → (value ≡ other_value) ↔ (normal_form chain.array_to_bytes type chunk ≡ normal_form chain.array_to_bytes type other)
chain_alike f chain sizes type fill value other_value chunk other lawful is each also positive a b =
    let first = normal_form chain.array_to_bytes type chunk in
    let second = normal_form chain.array_to_bytes type other in (
      λ e. chain_one f chain is sizes type fill value first second positive (chain_stands f chain lawful is sizes type fill value chunk positive each a) (subst (λ v. ChainStands f chain sizes type fill v second) (sym e) (chain_stands f chain lawful is sizes type fill other_value other positive also b)),
      λ e. chain_once f chain sizes type fill value other_value first (normal_as_written f chain sizes type fill value chunk a) (subst (ChainWritten f chain sizes type fill other_value) (sym e) (normal_as_written f chain sizes type fill other_value other b)),
    )

pub value_only : {B : Type 0} (f : BytesCodecs B) (codec : PlainCodec B) → Encodes (CodecWritten f codec) (codec_value f codec)
value_only f codec = (codec_laws codec).encodes f

pub chain_value_only : {B : Type 0} (f : BytesCodecs B) (chain : PlainChain B) → Encodes (ChainWritten f chain) (chain_value f chain)
chain_value_only f chain = (chain_laws chain).encodes f

pub value_found : {B : Type 0} (f : BytesCodecs B) (codec : PlainCodec B) → HasMappings codec → FoundsTaken (CodecWritten f codec) (codec_value f codec) (codec_representation f codec)
value_found f codec has = (codec_laws codec).founds f has

pub chain_value_found : {B : Type 0} (f : BytesCodecs B) (chain : PlainChain B) → IsChainOfMappings chain → Founds (ChainWritten f chain) (chain_value f chain)
chain_value_found f chain is = (chain_laws chain).founds f (is.mappings, is.inner_mappings)

pub chunk_only : {B : Type 0} (f : BytesCodecs B) (codec : PlainCodec B) → HasMappings codec → Decodes (CodecStands f codec) (codec_chunk f codec)
chunk_only f codec has = (codec_laws codec).decodes f has

pub chain_chunk_only : {B : Type 0} (f : BytesCodecs B) (chain : PlainChain B) → IsChainOfMappings chain → Decodes (ChainStands f chain) (chain_chunk f chain)
chain_chunk_only f chain is = (chain_laws chain).decodes f (is.mappings, is.inner_mappings)

pub chunk_read : {B : Type 0} (f : BytesCodecs B) (codec : PlainCodec B) → HasMappings codec → ReadsTaken (CodecStands f codec) (codec_chunk f codec) (codec_representation f codec)
chunk_read f codec has = (codec_laws codec).reads f has

pub chain_read_found : {B : Type 0} (f : BytesCodecs B) (chain : PlainChain B) → IsChainOfMappings chain → (sizes : List ℕ) (type : ElementType) (fill value : List ℕ) (chunk : Chunk)
    → All (λ size. 0 < size) sizes → chain_chunk f chain sizes type fill value ≡ Ok chunk → ChainStands f chain sizes type fill value chunk
chain_read_found f chain is sizes type fill value chunk positive e = ((chain_laws chain).reads f (is.mappings, is.inner_mappings) sizes type fill value chunk positive e).0

-- ---- what is written of a chain makes an equal one

pub chains_made_again : {B : Type 0} → ChainsAreMadeAgain B
chains_made_again described makes chain h =
    let again = codec-again described makes chain.array_to_bytes h.array_to_bytes.0 h.array_to_bytes.1 h.array_to_bytes.2 in
    (chain-again described makes chain.array_to_array chain.array_to_bytes chain.bytes_to_bytes h.array_to_array again h.bytes_to_bytes).made

-- what is in the list, where there is one
metadatas_in : {A : Type 0} (view : A → List Metadata) (result : Result A PluginCreateError) → List Metadata
metadatas_in view (Ok list) = view list
metadatas_in view (Err e) = []

-- the list that a call answers as what is written of a chain makes the chain again
pub list_makes_again : {A B : Type 0} (excuse : PluginCreateError → Bool) (view : A → List Metadata) (result : Result A PluginCreateError) (described : B → Metadata) (chain : PlainChain B)
    → Answers excuse view result (Ok (chain_metadatas described chain)) → IsChainOfMappings chain → HasRanges chain.array_to_bytes
    → IfOk result (λ list. (makes : Metadata → Result (Option B) PluginCreateError) → HasBytesCodecs (IsMadeAgain described makes) chain → chain_made makes (view list) ≡ Ok chain)
unfolding metadatas_in
list_makes_again excuse view (Ok list) described chain answer m r = λ makes o.
    ap (λ x. chain_made makes (metadatas_in (λ l. l) x)) (sym answer)
    ∙ chains_made_again described makes chain (record { array_to_array = m.mappings; array_to_bytes = (m.inner_mappings, r, o.inside); bytes_to_bytes = o.bytes_to_bytes })
list_makes_again excuse view (Err e) described chain answer m r = tt
