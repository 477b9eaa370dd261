-- The chains inside a chain are made as the chain itself.
use Rattle.std.proofs.Common.{◌≡◌, ◌∙◌, ℕ, zero, suc, ◌<◌, ◌≤◌, List, [], ◌∷◌, Ok, Err, Option, Some, IfOk, refl, ap, arith}
use Rattle.std.specs.Prelude.{Result}
use Rattle.zarrs_chunk.specs.Answer.{◌>>=◌, seen}
use Rattle.zarrs_chain_meaning.specs.declared.codec_name.KnownCodec.{KnownCodec}
use Rattle.zarrs_chain_meaning.specs.declared.codec_name.KnownCodec.TheVariants.{Vlen, Optional, Sharding}
use Rattle.zarrs_metadata.specs.CodecMetadata.{made_of}
use Rattle.zarrs_metadata.specs.Metadata.{Metadata}
use Rattle.zarrs_metadata.specs.OptionalConfiguration.{OptionalChains, read_optional}
use Rattle.zarrs_metadata.specs.ShardingConfiguration.{ShardingParts, read_sharding}
use Rattle.zarrs_metadata.specs.VlenConfiguration.{VlenParts, read_vlen}
use Rattle.zarrs_metadata.specs.declared.plugin_create_error.PluginCreateError.{PluginCreateError}
use Rattle.zarrs_chain_meaning.specs.sharding.ShardingSettings.{is_index_at_end}
use Rattle.zarrs_chain_meaning.specs.vlen.VlenSettings.{is_wide, is_at_end}
use Rattle.zarrs_chain_meaning.specs.CodecNames.{is_vlen_name, is_optional_name, is_sharding_name}
use Rattle.zarrs_chain_meaning.specs.MadeChain.{to_bytes_made, Gathered, location_or_start, vlen_of_parts, optional_of_chains, sharding_of_parts, codec_named, made_by_name, codec_made, joined, gathered, finished, nothing_gathered, chain_made_by, depth_of, depth_all, chain_in, chain_made}
use Rattle.zarrs_chain_meaning.specs.CodecMeaning.{PlainChain, vlen_codec_of, optional_codec_of, sharding_codec_of}
use Rattle.zarrs_chain_meaning.proofs.MetadataDepth.{VlenWithin, vlen_within, OptionalWithin, optional_within, ShardingWithin, sharding_within}

-- steps that go on alike
same_steps : {E A C : Type 0} (r : Result A E) (h k : A → Result C E) → IfOk r (λ a. h a ≡ k a) → (r >>= h) ≡ (r >>= k)
same_steps (Ok a) h k e = e
same_steps (Err e) h k _ = refl

each : {E A : Type 0} (r : Result A E) (P : A → Type 0) → ((a : A) → P a) → IfOk r P
each (Ok a) P h = h a
each (Err e) P h = tt

weaker : {E A : Type 0} (r : Result A E) (P Q : A → Type 0) → ((a : A) → P a → Q a) → IfOk r P → IfOk r Q
weaker (Ok a) P Q f h = f a h
weaker (Err e) P Q f h = tt

-- lists less deep than a bound are made alike
abbrev AreAlike : {B : Type 0} → (List Metadata → Result (PlainChain B) PluginCreateError) → (List Metadata → Result (PlainChain B) PluginCreateError) → ℕ → Type 0
AreAlike f g bound = (xs : List Metadata) → depth_all xs < bound → f xs ≡ g xs

parts-alike : {B : Type 0} (f g : List Metadata → Result (PlainChain B) PluginCreateError) (bound : ℕ) → AreAlike f g bound → (parts : VlenParts) → VlenWithin bound parts → vlen_of_parts f parts ≡ vlen_of_parts g parts
parts-alike f g bound alike parts within =
    ap (λ r. r >>= (λ index. f parts.data_codecs >>= (λ content. Ok (vlen_codec_of index content (is_wide parts.index_data_type) (is_at_end (location_or_start parts.index_location)))))) (alike parts.index_codecs within.0)
    ∙ ap (λ r. g parts.index_codecs >>= (λ index. r >>= (λ content. Ok (vlen_codec_of index content (is_wide parts.index_data_type) (is_at_end (location_or_start parts.index_location)))))) (alike parts.data_codecs within.1)

chains-alike : {B : Type 0} (f g : List Metadata → Result (PlainChain B) PluginCreateError) (bound : ℕ) → AreAlike f g bound → (chains : OptionalChains) → OptionalWithin bound chains → optional_of_chains f chains ≡ optional_of_chains g chains
chains-alike f g bound alike chains within =
    ap (λ r. r >>= (λ mask. f chains.data_codecs >>= (λ content. Ok (optional_codec_of mask content)))) (alike chains.mask_codecs within.0)
    ∙ ap (λ r. g chains.mask_codecs >>= (λ mask. r >>= (λ content. Ok (optional_codec_of mask content)))) (alike chains.data_codecs within.1)

inner-alike : {B : Type 0} (f g : List Metadata → Result (PlainChain B) PluginCreateError) (bound : ℕ) → AreAlike f g bound → (parts : ShardingParts) → ShardingWithin bound parts → sharding_of_parts f parts ≡ sharding_of_parts g parts
inner-alike f g bound alike parts within =
    ap (λ r. r >>= (λ inner. f parts.index_codecs >>= (λ index. Ok (sharding_codec_of inner index parts.chunk_shape (is_index_at_end parts.index_location))))) (alike parts.codecs within.0)
    ∙ ap (λ r. g parts.codecs >>= (λ inner. r >>= (λ index. Ok (sharding_codec_of inner index parts.chunk_shape (is_index_at_end parts.index_location))))) (alike parts.index_codecs within.1)

below : {B : Type 0} (f g : List Metadata → Result (PlainChain B) PluginCreateError) (depth bound : ℕ) → depth ≤ bound → AreAlike f g bound → AreAlike f g depth
below f g depth bound le alike = λ xs h. alike xs (omega (arith, h, le))

named-alike : {B : Type 0} (f g : List Metadata → Result (PlainChain B) PluginCreateError) (makes : Metadata → Result (Option B) PluginCreateError) (m : Metadata) → AreAlike f g (depth_of m) → (name : Option KnownCodec) → made_by_name name f makes m ≡ made_by_name name g makes m
named-alike f g makes m alike (Some Vlen) =
    ap (λ r. seen to_bytes_made r) (same_steps (made_of is_vlen_name read_vlen m) (vlen_of_parts f) (vlen_of_parts g) (weaker (made_of is_vlen_name read_vlen m) (VlenWithin (depth_of m)) (λ parts. vlen_of_parts f parts ≡ vlen_of_parts g parts) (parts-alike f g (depth_of m) alike) (vlen_within m)))
named-alike f g makes m alike (Some Optional) =
    ap (λ r. seen to_bytes_made r) (same_steps (made_of is_optional_name read_optional m) (optional_of_chains f) (optional_of_chains g) (weaker (made_of is_optional_name read_optional m) (OptionalWithin (depth_of m)) (λ chains. optional_of_chains f chains ≡ optional_of_chains g chains) (chains-alike f g (depth_of m) alike) (optional_within m)))
named-alike f g makes m alike (Some Sharding) =
    ap (λ r. seen to_bytes_made r) (same_steps (made_of is_sharding_name read_sharding m) (sharding_of_parts f) (sharding_of_parts g) (weaker (made_of is_sharding_name read_sharding m) (ShardingWithin (depth_of m)) (λ parts. sharding_of_parts f parts ≡ sharding_of_parts g parts) (inner-alike f g (depth_of m) alike) (sharding_within m)))
named-alike f g makes m alike name = refl

gathered-alike : {B : Type 0} (f g : List Metadata → Result (PlainChain B) PluginCreateError) (makes : Metadata → Result (Option B) PluginCreateError) (bound : ℕ) → AreAlike f g bound → (ms : List Metadata) (so_far : Gathered B) → depth_all ms ≤ bound → gathered f makes ms so_far ≡ gathered g makes ms so_far
gathered-alike f g makes bound alike [] so_far within = refl
gathered-alike f g makes bound alike (m ∷ ms) so_far within =
    ap (λ r. joined r m.must_understand so_far >>= gathered f makes ms) (named-alike f g makes m (below f g (depth_of m) bound (omega (arith, within)) alike) (codec_named m.name))
    ∙ same_steps (joined (codec_made g makes m) m.must_understand so_far) (gathered f makes ms) (gathered g makes ms)
    (each (joined (codec_made g makes m) m.must_understand so_far) (λ next. gathered f makes ms next ≡ gathered g makes ms next) (λ next. gathered-alike f g makes bound alike ms next (omega (arith, within))))

chain_in-alike : {B : Type 0} (makes : Metadata → Result (Option B) PluginCreateError) (n k : ℕ) (ms : List Metadata) → depth_all ms < n → depth_all ms < k → chain_in makes n ms ≡ chain_in makes k ms
chain_in-alike makes zero k ms a b = absurd (omega (arith, a))
chain_in-alike makes (suc n) zero ms a b = absurd (omega (arith, b))
chain_in-alike makes (suc n) (suc k) ms a b =
    ap (λ r. r >>= finished) (gathered-alike (chain_in makes n) (chain_in makes k) makes (depth_all ms) (λ xs h. chain_in-alike makes n k xs (omega (arith, h, a)) (omega (arith, h, b))) ms nothing_gathered (omega arith))

pub chain_made_at : {B : Type 0} (makes : Metadata → Result (Option B) PluginCreateError) (metadatas : List Metadata) → chain_made makes metadatas ≡ chain_made_by (chain_made makes) makes metadatas
unfolding chain_made
chain_made_at makes ms =
    ap (λ r. r >>= finished) (gathered-alike (chain_in makes (depth_all ms)) (chain_made makes) makes (depth_all ms) (λ xs h. chain_in-alike makes (depth_all ms) (suc (depth_all xs)) xs h (omega arith)) ms nothing_gathered (omega arith))
