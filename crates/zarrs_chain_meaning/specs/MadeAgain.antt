-- What is written of a chain makes an equal one.
use Rattle.std.specs.Prelude.{◌≡◌, true, List, Option, Some, None, Result, Ok, All}
use Rattle.zarrs_metadata.specs.Metadata.{Metadata, has_no_float}
use Rattle.zarrs_metadata.specs.declared.plugin_create_error.PluginCreateError.{PluginCreateError}
use Rattle.zarrs_array_to_array.specs.ArrayToArrayCodec.{IsMapping}
use Rattle.zarrs_chain_meaning.specs.CodecMeaning.{PlainCodec, PlainChain, metadata_facts, HasMappings}
use Rattle.zarrs_chain_meaning.specs.MadeChain.{codec_named, chain_made}
use Rattle.zarrs_chain_meaning.specs.WrittenMetadata.{chain_metadatas}

-- A bytes-to-bytes codec whose metadata has no name of the table and no float, and which the maker makes of it again.
pub record IsMadeAgain {B : Type 0} (described : B → Metadata) (makes : Metadata → Result (Option B) PluginCreateError) (codec : B) : Type 0 where
  pub name : codec_named (described codec).name ≡ None
  pub floats : has_no_float (described codec).configuration ≡ true
  pub made : makes (described codec) ≡ Ok (Some codec)

-- the bits that the codec keeps, and those of all chains inside, are ranges
abbrev pub HasRanges : {B : Type 0} → PlainCodec B → Type 0
HasRanges codec = (metadata_facts codec).Ranges

-- P holds of each bytes-to-bytes codec of all chains inside
abbrev pub HasOuter : {B : Type 0} → (B → Type 0) → PlainCodec B → Type 0
HasOuter P codec = (metadata_facts codec).Outer P

-- the array-to-array codecs of all chains inside are what their types hold to, so are bit ranges, and P holds of each bytes-to-bytes codec
abbrev pub HasCodecs : {B : Type 0} → (B → Type 0) → PlainCodec B → Type 0
HasCodecs P codec = HasMappings codec × HasRanges codec × HasOuter P codec

-- a chain whose codecs, and those of all chains inside, are what their types hold to, and P holds of each bytes-to-bytes codec
pub record IsChainOf {B : Type 0} (P : B → Type 0) (chain : PlainChain B) : Type 0 where
  pub array_to_array : All IsMapping chain.array_to_array
  pub array_to_bytes : HasCodecs P chain.array_to_bytes
  pub bytes_to_bytes : All P chain.bytes_to_bytes

-- P holds of each bytes-to-bytes codec of the chain, and of those of all chains inside
pub record HasBytesCodecs {B : Type 0} (P : B → Type 0) (chain : PlainChain B) : Type 0 where
  pub inside : HasOuter P chain.array_to_bytes
  pub bytes_to_bytes : All P chain.bytes_to_bytes

-- what is written of a chain makes that chain, where the maker makes its bytes-to-bytes codecs again
abbrev pub ChainsAreMadeAgain : Type 0 → Type 0
ChainsAreMadeAgain B =
    (described : B → Metadata) (makes : Metadata → Result (Option B) PluginCreateError) (chain : PlainChain B)
    → IsChainOf (IsMadeAgain described makes) chain → chain_made makes (chain_metadatas described chain) ≡ Ok chain

-- of these metadata the chain is made by each maker that makes its bytes-to-bytes codecs again
abbrev pub MakesChain : {B : Type 0} → (B → Metadata) → PlainChain B → List Metadata → Type 0
MakesChain {B} described chain metadatas =
    (makes : Metadata → Result (Option B) PluginCreateError) → HasBytesCodecs (IsMadeAgain described makes) chain → chain_made makes metadatas ≡ Ok chain
