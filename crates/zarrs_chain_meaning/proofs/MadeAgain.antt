-- What is written of one codec makes an equal one, by those of its chains where it has chains inside.
use Rattle.std.proofs.Common.{◌≡◌, ◌∙◌, ◌<◌, ℕ, List, [], ◌∷◌, ◌++◌, Ok, Err, Bool, true, false, Option, Some, None, map, refl, ap, sym, append_assoc, append-nil}
use Rattle.std.specs.Prelude.{Result, All}
use Rattle.std.proofs.lemmas.List.Elements.{All-head, All-tail}
use Rattle.serde_json.specs.Data.{Members}
use Rattle.serde_json.specs.Written.{members_have_float}
use Rattle.zarrs_chunk.specs.Answer.{◌>>=◌, seen}
use Rattle.zarrs_data_type.specs.declared.endianness.Endianness.{Endianness}
use Rattle.zarrs_data_type.specs.declared.endianness.Endianness.TheVariants.{Little, Big}
use Rattle.zarrs_metadata.specs.BytesConfiguration.{write_bytes}
use Rattle.zarrs_metadata.specs.Metadata.{Metadata, has_no_float}
use Rattle.zarrs_metadata.specs.MetadataList.{have_no_float}
use Rattle.zarrs_metadata.specs.OptionalConfiguration.{OptionalChains, read_optional, write_optional}
use Rattle.zarrs_metadata.specs.ShardingConfiguration.{ShardingParts, read_sharding, write_sharding}
use Rattle.zarrs_metadata.specs.VlenConfiguration.{VlenParts, read_vlen, write_vlen}
use Rattle.zarrs_metadata.specs.declared.plugin_create_error.PluginCreateError.{PluginCreateError}
use Rattle.zarrs_metadata.specs.declared.plugin_create_error.PluginCreateError.TheVariants.{InvalidConfiguration}
use Rattle.zarrs_metadata.proofs.ReadBack.{optional-reads_back, vlen-reads_back, sharding-reads_back}
use Rattle.zarrs_array_to_array.specs.ArrayToArrayCodec.{ArrayMapping, IsMapping}
use Rattle.zarrs_array_to_array.specs.MappingMetadata.{mapping_configuration}
use Rattle.zarrs_array_to_array.proofs.ArrayLaws.{array_laws, mapping_named, mappings_made_again}
use Rattle.zarrs_array_to_array.proofs.CleanMembers.{clean_members}
use Rattle.zarrs_array_to_array.proofs.Transposition.{shape_of-positive}
use Rattle.zarrs_packbits.specs.PackBitsSettings.{PackBitsSettings, is_reversed}
use Rattle.zarrs_packbits.specs.SettingsMetadata.{read_settings, write_settings}
use Rattle.zarrs_packbits.proofs.MadeAgain.{made_again}
use Rattle.zarrs_chain_meaning.specs.sharding.ShardingSettings.{is_index_at_end, shard_index_place}
use Rattle.zarrs_chain_meaning.specs.vlen.VlenSettings.{is_wide, is_at_end, offset_type_of, index_place}
use Rattle.zarrs_chain_meaning.specs.CodecMeaning.{PlainCodec, packbits_codec, vlen_codec, optional_codec, sharding_codec, PlainChain, vlen_codec_of, optional_codec_of, sharding_codec_of}
use Rattle.zarrs_chain_meaning.specs.MadeAgain.{IsMadeAgain}
use Rattle.zarrs_chain_meaning.specs.MadeChain.{array_made, to_bytes_made, outer_made, vlen_of_parts, optional_of_chains, sharding_of_parts, asked_maker, made_by_name, codec_made, joined, gathered, finished, chain_made}
use Rattle.zarrs_chain_meaning.specs.WrittenMetadata.{codec_configuration, to_bytes_metadata}
use Rattle.zarrs_chain_meaning.specs.MetadataFacts.{mapping_metadata, listed}
use Rattle.zarrs_chain_meaning.proofs.MadeAlike.{chain_made_at}

-- ---- no number that is written is a float: else it wouldn't be read

float-settings : (ms : Members) → members_have_float ms ≡ true → read_settings ms ≡ Err InvalidConfiguration
float-settings ms h = rw h refl

float-vlen : (ms : Members) → members_have_float ms ≡ true → read_vlen ms ≡ Err InvalidConfiguration
float-vlen ms h = rw h refl

float-optional : (ms : Members) → members_have_float ms ≡ true → read_optional ms ≡ Err InvalidConfiguration
float-optional ms h = rw h refl

float-sharding : (ms : Members) → members_have_float ms ≡ true → read_sharding ms ≡ Err InvalidConfiguration
float-sharding ms h = rw h refl

clean-mapping : (codec : ArrayMapping) → IsMapping codec → has_no_float (Some (mapping_configuration codec)) ≡ true
clean-mapping codec h = (array_laws codec).clean h

pub clean-order : (order : Option Endianness) → has_no_float (Some (write_bytes order)) ≡ true
clean-order None = refl
clean-order (Some Little) = refl
clean-order (Some Big) = refl

clean-outer : {B : Type 0} (described : B → Metadata) (makes : Metadata → Result (Option B) PluginCreateError) (outer : List B) → All (IsMadeAgain described makes) outer → have_no_float (map described outer) ≡ true
clean-outer described makes [] h = refl
clean-outer described makes (b ∷ bs) h =
    rw ((All-head (IsMadeAgain described makes) b bs h).floats) (clean-outer described makes bs (All-tail (IsMadeAgain described makes) b bs h))

clean-list : {B : Type 0} (described : B → Metadata) (makes : Metadata → Result (Option B) PluginCreateError) (arrays : List ArrayMapping) (codec : Metadata) (outer : List B) → All IsMapping arrays → has_no_float codec.configuration ≡ true → All (IsMadeAgain described makes) outer
    → have_no_float (listed described arrays codec outer) ≡ true
clean-list described makes [] codec outer h k l = rw k (clean-outer described makes outer l)
clean-list described makes (a ∷ rest) codec outer h k l =
    rw (clean-mapping a (All-head IsMapping a rest h)) (clean-list described makes rest codec outer (All-tail IsMapping a rest h) k l)

-- ---- one codec

array-again : {B : Type 0} (inside : List Metadata → Result (PlainChain B) PluginCreateError) (makes : Metadata → Result (Option B) PluginCreateError) (codec : ArrayMapping) → IsMapping codec → codec_made inside makes (mapping_metadata codec) ≡ Ok (array_made codec)
array-again inside makes codec h = rw (mapping_named codec) (ap (λ r. seen array_made r) (mappings_made_again codec h))

outer-again : {B : Type 0} (inside : List Metadata → Result (PlainChain B) PluginCreateError) (described : B → Metadata) (makes : Metadata → Result (Option B) PluginCreateError) (codec : B) → IsMadeAgain described makes codec → codec_made inside makes (described codec) ≡ Ok (outer_made codec)
outer-again inside described makes codec h =
    ap (λ name. made_by_name name inside makes (described codec)) h.name ∙ ap (λ r. asked_maker r) h.made

-- ---- a list

arrays-gathered : {B : Type 0} (inside : List Metadata → Result (PlainChain B) PluginCreateError) (makes : Metadata → Result (Option B) PluginCreateError) (arrays : List ArrayMapping) (rest : List Metadata) (done : List ArrayMapping) → All IsMapping arrays
    → gathered inside makes (map mapping_metadata arrays ++ rest) (record { array_to_array = done; array_to_bytes = None; bytes_to_bytes = [] }) ≡ gathered inside makes rest (record { array_to_array = done ++ arrays; array_to_bytes = None; bytes_to_bytes = [] })
arrays-gathered inside makes [] rest done h = ap (λ xs. gathered inside makes rest (record { array_to_array = xs; array_to_bytes = None; bytes_to_bytes = [] })) (sym (append-nil done))
arrays-gathered inside makes (a ∷ others) rest done h =
    ap (λ r. joined r true (record { array_to_array = done; array_to_bytes = None; bytes_to_bytes = [] }) >>= gathered inside makes (map mapping_metadata others ++ rest)) (array-again inside makes a (All-head IsMapping a others h))
    ∙ arrays-gathered inside makes others rest (done ++ a ∷ []) (All-tail IsMapping a others h)
    ∙ ap (λ xs. gathered inside makes rest (record { array_to_array = xs; array_to_bytes = None; bytes_to_bytes = [] })) (append_assoc done (a ∷ []) others)

outer-gathered : {B : Type 0} (inside : List Metadata → Result (PlainChain B) PluginCreateError) (described : B → Metadata) (makes : Metadata → Result (Option B) PluginCreateError) (outer : List B) (arrays : List ArrayMapping) (codec : PlainCodec B) (done : List B) → All (IsMadeAgain described makes) outer
    → gathered inside makes (map described outer) (record { array_to_array = arrays; array_to_bytes = Some codec; bytes_to_bytes = done }) ≡ Ok (record { array_to_array = arrays; array_to_bytes = Some codec; bytes_to_bytes = done ++ outer })
outer-gathered inside described makes [] arrays codec done h = ap (λ (xs : List _). Ok (record { array_to_array = arrays; array_to_bytes = Some codec; bytes_to_bytes = xs })) (sym (append-nil done))
outer-gathered inside described makes (b ∷ bs) arrays codec done h =
    ap (λ r. joined r (described b).must_understand (record { array_to_array = arrays; array_to_bytes = Some codec; bytes_to_bytes = done }) >>= gathered inside makes (map described bs)) (outer-again inside described makes b (All-head (IsMadeAgain described makes) b bs h))
    ∙ outer-gathered inside described makes bs arrays codec (done ++ b ∷ []) (All-tail (IsMadeAgain described makes) b bs h)
    ∙ ap (λ xs. Ok (record { array_to_array = arrays; array_to_bytes = Some codec; bytes_to_bytes = xs })) (append_assoc done (b ∷ []) bs)

list-again : {B : Type 0} (described : B → Metadata) (makes : Metadata → Result (Option B) PluginCreateError) (arrays : List ArrayMapping) (codec : PlainCodec B) (outer : List B) → All IsMapping arrays
    → codec_made (chain_made makes) makes (to_bytes_metadata described codec) ≡ Ok (to_bytes_made codec) → All (IsMadeAgain described makes) outer
    → chain_made makes (listed described arrays (to_bytes_metadata described codec) outer) ≡ Ok (record { array_to_array = arrays; array_to_bytes = codec; bytes_to_bytes = outer })
list-again described makes arrays codec outer h made l =
    chain_made_at makes (listed described arrays (to_bytes_metadata described codec) outer)
    ∙ ap (λ r. r >>= finished) (arrays-gathered (chain_made makes) makes arrays (to_bytes_metadata described codec ∷ map described outer) [] h
    ∙ ap (λ r. joined r true (record { array_to_array = arrays; array_to_bytes = None; bytes_to_bytes = [] }) >>= gathered (chain_made makes) makes (map described outer)) made
    ∙ outer-gathered (chain_made makes) described makes outer arrays codec [] l)

-- ---- codecs with chains inside

wide-again : (wide : Bool) → is_wide (offset_type_of wide) ≡ wide
wide-again false = refl
wide-again true = refl

at_end-again : (at_end : Bool) → is_at_end (index_place at_end) ≡ at_end
at_end-again false = refl
at_end-again true = refl

index_place-again : (at_end : Bool) → is_index_at_end (shard_index_place at_end) ≡ at_end
index_place-again false = refl
index_place-again true = refl

-- what is written of a codec has no float, and makes the codec again
pub record IsAgain {B : Type 0} (described : B → Metadata) (makes : Metadata → Result (Option B) PluginCreateError) (codec : PlainCodec B) : Type 0 where
  pub clean : has_no_float (Some (codec_configuration described codec)) ≡ true
  pub made : codec_made (chain_made makes) makes (to_bytes_metadata described codec) ≡ Ok (to_bytes_made codec)

-- and so of a chain
pub record IsChainAgain {B : Type 0} (described : B → Metadata) (makes : Metadata → Result (Option B) PluginCreateError) (arrays : List ArrayMapping) (codec : PlainCodec B) (outer : List B) : Type 0 where
  pub clean : have_no_float (listed described arrays (to_bytes_metadata described codec) outer) ≡ true
  pub made : chain_made makes (listed described arrays (to_bytes_metadata described codec) outer) ≡ Ok (record { array_to_array = arrays; array_to_bytes = codec; bytes_to_bytes = outer })

pub chain-again : {B : Type 0} (described : B → Metadata) (makes : Metadata → Result (Option B) PluginCreateError) (arrays : List ArrayMapping) (codec : PlainCodec B) (outer : List B) → All IsMapping arrays → IsAgain described makes codec → All (IsMadeAgain described makes) outer
    → IsChainAgain described makes arrays codec outer
chain-again described makes arrays codec outer h again l = record {
  clean = clean-list described makes arrays (to_bytes_metadata described codec) outer h again.clean l;
  made = list-again described makes arrays codec outer h again.made l;
}

pub packbits-again : {B : Type 0} (described : B → Metadata) (makes : Metadata → Result (Option B) PluginCreateError) (settings : PackBitsSettings) → is_reversed settings.first_bit settings.last_bit ≡ false → IsAgain described makes (packbits_codec settings)
packbits-again described makes settings range = record {
  clean = clean_members (members_have_float (write_settings settings)) (read_settings (write_settings settings)) settings (float-settings (write_settings settings)) (made_again settings range);
  made = ap (λ r. seen (λ s. to_bytes_made (packbits_codec s)) r) (made_again settings range);
}

pub vlen-again : {B : Type 0} (described : B → Metadata) (makes : Metadata → Result (Option B) PluginCreateError) (ia : List ArrayMapping) (ix : PlainCodec B) (ib : List B) (da : List ArrayMapping) (dx : PlainCodec B) (db : List B) (wide at_end : Bool)
    → IsChainAgain described makes ia ix ib → IsChainAgain described makes da dx db → IsAgain described makes (vlen_codec ia ix ib da dx db wide at_end)
vlen-again described makes ia ix ib da dx db wide at_end index content =
    let parts : VlenParts = record { index_codecs = listed described ia (to_bytes_metadata described ix) ib; data_codecs = listed described da (to_bytes_metadata described dx) db; index_data_type = offset_type_of wide; index_location = Some (index_place at_end) } in
    let read = vlen-reads_back parts index.clean content.clean in record {
      clean = clean_members (members_have_float (write_vlen parts)) (read_vlen (write_vlen parts)) parts (float-vlen (write_vlen parts)) read;
      made = ap (λ r. seen to_bytes_made (r >>= vlen_of_parts (chain_made makes))) read
          ∙ ap (λ r. seen to_bytes_made (r >>= (λ i. chain_made makes parts.data_codecs >>= (λ c. Ok (vlen_codec_of i c (is_wide (offset_type_of wide)) (is_at_end (index_place at_end))))))) index.made
          ∙ ap (λ r. seen to_bytes_made (r >>= (λ c. Ok (vlen_codec_of (record { array_to_array = ia; array_to_bytes = ix; bytes_to_bytes = ib }) c (is_wide (offset_type_of wide)) (is_at_end (index_place at_end)))))) content.made
          ∙ ap (λ w. Ok (to_bytes_made (vlen_codec ia ix ib da dx db w (is_at_end (index_place at_end))))) (wide-again wide)
          ∙ ap (λ e. Ok (to_bytes_made (vlen_codec ia ix ib da dx db wide e))) (at_end-again at_end);
    }

pub optional-again : {B : Type 0} (described : B → Metadata) (makes : Metadata → Result (Option B) PluginCreateError) (ma : List ArrayMapping) (mx : PlainCodec B) (mb : List B) (da : List ArrayMapping) (dx : PlainCodec B) (db : List B)
    → IsChainAgain described makes ma mx mb → IsChainAgain described makes da dx db → IsAgain described makes (optional_codec ma mx mb da dx db)
optional-again described makes ma mx mb da dx db mask content =
    let chains : OptionalChains = record { mask_codecs = listed described ma (to_bytes_metadata described mx) mb; data_codecs = listed described da (to_bytes_metadata described dx) db } in
    let read = optional-reads_back chains mask.clean content.clean in record {
      clean = clean_members (members_have_float (write_optional chains)) (read_optional (write_optional chains)) chains (float-optional (write_optional chains)) read;
      made = ap (λ r. seen to_bytes_made (r >>= optional_of_chains (chain_made makes))) read
          ∙ ap (λ r. seen to_bytes_made (r >>= (λ m. chain_made makes chains.data_codecs >>= (λ c. Ok (optional_codec_of m c))))) mask.made
          ∙ ap (λ r. seen to_bytes_made (r >>= (λ c. Ok (optional_codec_of (record { array_to_array = ma; array_to_bytes = mx; bytes_to_bytes = mb }) c)))) content.made;
    }

pub sharding-again : {B : Type 0} (described : B → Metadata) (makes : Metadata → Result (Option B) PluginCreateError) (sa : List ArrayMapping) (sx : PlainCodec B) (sb : List B) (ia : List ArrayMapping) (ix : PlainCodec B) (ib : List B) (shape : List ℕ) (at_end : Bool)
    → All (λ size. 0 < size) shape → IsChainAgain described makes sa sx sb → IsChainAgain described makes ia ix ib → IsAgain described makes (sharding_codec sa sx sb ia ix ib shape at_end)
sharding-again described makes sa sx sb ia ix ib shape at_end positive inner index =
    let parts : ShardingParts = record { chunk_shape = shape; codecs = listed described sa (to_bytes_metadata described sx) sb; index_codecs = listed described ia (to_bytes_metadata described ix) ib; index_location = shard_index_place at_end } in
    let read = sharding-reads_back parts (shape_of-positive shape positive) inner.clean index.clean in record {
      clean = clean_members (members_have_float (write_sharding parts)) (read_sharding (write_sharding parts)) parts (float-sharding (write_sharding parts)) read;
      made = ap (λ r. seen to_bytes_made (r >>= sharding_of_parts (chain_made makes))) read
          ∙ ap (λ r. seen to_bytes_made (r >>= (λ c. chain_made makes parts.index_codecs >>= (λ i. Ok (sharding_codec_of c i shape (is_index_at_end (shard_index_place at_end))))))) inner.made
          ∙ ap (λ r. seen to_bytes_made (r >>= (λ i. Ok (sharding_codec_of (record { array_to_array = sa; array_to_bytes = sx; bytes_to_bytes = sb }) i shape (is_index_at_end (shard_index_place at_end)))))) index.made
          ∙ ap (λ e. Ok (to_bytes_made (sharding_codec sa sx sb ia ix ib shape e))) (index_place-again at_end);
    }
