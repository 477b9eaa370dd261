-- Which codecs keep each element as it is.
use Rattle.std.proofs.Common.{◌≡◌, ℕ, Bool, List, [], ◌∷◌, map, refl, ap, sym, subst}
use Rattle.zarrs_data_type.specs.Element.{Element, plain, absent, present, Chunk}
use Rattle.zarrs_data_type.specs.ElementType.{ElementType, fixed, text, bytes, optional}
use Rattle.zarrs_chain_meaning.specs.CodecMeaning.{PlainChain, vlen_codec_of, optional_codec_of, sharding_codec_of, meaning, codec_normal_element}
use Rattle.zarrs_chain_meaning.specs.Meaning.{Keeping}
use Rattle.zarrs_chain_meaning.specs.Parts.{byte_type, the_byte}
use Rattle.zarrs_chain_meaning.specs.optional.Optional.{optional_normal}
use Rattle.zarrs_chain_meaning.specs.vlen.Vlen.{vlen_normal}
use Rattle.zarrs_chain.specs.ChainView.{plain_chain, plain_codec, plain_optional_at, plain_sharding_at, plain_vlen_at}
use Rattle.zarrs_chain.specs.declared.array_to_bytes_codec.ArrayToBytesCodec.{ArrayToBytesCodec}
use Rattle.zarrs_chain.specs.declared.array_to_bytes_codec.ArrayToBytesCodec.TheVariants.{PackBits, Vlen, Optional, Sharding}
use Rattle.zarrs_chain.specs.declared.optional.optional_codec.OptionalCodec.{OptionalCodec, out-OptionalCodec}
use Rattle.zarrs_chain.specs.declared.sharding.sharding_codec.ShardingCodec.{ShardingCodec, out-ShardingCodec}
use Rattle.zarrs_chain.specs.declared.vlen.vlen_codec.VlenCodec.{VlenCodec, out-VlenCodec}
use Rattle.zarrs_chain.specs.sharding.ShardingCalls.{KeepsAll}

-- each element is kept as it is
abbrev pub IsSame : Keeping → Type 0
IsSame keep = (type : ElementType) (element : Element) → keep type element ≡ element

pub all_same : (keep : Keeping) → IsSame keep → (type : ElementType) (chunk : Chunk) → map (keep type) chunk ≡ chunk
all_same keep same type [] = refl
all_same keep same type (element ∷ chunk) = λ i. same type element i ∷ all_same keep same type chunk i

-- ---- through `vlen` and `optional`

bytes_same : (keep : Keeping) → IsSame keep → (items : List ℕ) → map (λ byte. the_byte (keep byte_type (plain (byte ∷ [])))) items ≡ items
bytes_same keep same [] = refl
bytes_same keep same (byte ∷ items) = λ i. the_byte (same byte_type (plain (byte ∷ [])) i) ∷ bytes_same keep same items i

vlen_same : (keep : Keeping) → IsSame keep → IsSame (vlen_normal keep)
vlen_same keep same text (plain items) = ap plain (bytes_same keep same items)
vlen_same keep same text absent = refl
vlen_same keep same text (present element) = refl
vlen_same keep same bytes (plain items) = ap plain (bytes_same keep same items)
vlen_same keep same bytes absent = refl
vlen_same keep same bytes (present element) = refl
vlen_same keep same (fixed width components sign) element = refl
vlen_same keep same (optional type) element = refl

optional_same : (keep : Keeping) → IsSame keep → IsSame (optional_normal keep)
optional_same keep same (optional type) (present element) = ap present (same type element)
optional_same keep same (optional type) (plain items) = refl
optional_same keep same (optional type) absent = refl
optional_same keep same (fixed width components sign) element = refl
optional_same keep same text element = refl
optional_same keep same bytes element = refl

-- ---- plain codecs

vlen_is : {B : Type 0} (index content : PlainChain B) (wide at_end : Bool) → KeepsAll content.array_to_bytes → KeepsAll (vlen_codec_of index content wide at_end)
unfolding meaning
vlen_is index content wide at_end same = vlen_same (codec_normal_element content.array_to_bytes) same

optional_is : {B : Type 0} (mask content : PlainChain B) → KeepsAll content.array_to_bytes → KeepsAll (optional_codec_of mask content)
unfolding meaning
optional_is mask content same = optional_same (codec_normal_element content.array_to_bytes) same

sharding_is : {B : Type 0} (inner index : PlainChain B) (shape : List ℕ) (at_end : Bool) → KeepsAll inner.array_to_bytes → KeepsAll (sharding_codec_of inner index shape at_end)
unfolding meaning
sharding_is inner index shape at_end same = same

-- ---- as the code opens them

pub vlen_keeps_all : {B : Type 0} (codec : ArrayToBytesCodec B) (inner : VlenCodec B) → codec ≡ Vlen inner → KeepsAll (plain_codec (out-VlenCodec _ inner).data_codecs.value.array_to_bytes) → KeepsAll (plain_codec codec)
unfolding plain_codec
vlen_keeps_all codec inner e same =
    subst (λ c. KeepsAll (plain_codec c)) (sym e) (subst (λ p. KeepsAll p) (sym (plain_vlen_at inner)) (vlen_is _ (plain_chain (out-VlenCodec _ inner).data_codecs.value) _ _ same))

pub optional_keeps_all : {B : Type 0} (codec : ArrayToBytesCodec B) (inner : OptionalCodec B) → codec ≡ Optional inner → KeepsAll (plain_codec (out-OptionalCodec _ inner).data_codecs.value.array_to_bytes) → KeepsAll (plain_codec codec)
unfolding plain_codec
optional_keeps_all codec inner e same =
    subst (λ c. KeepsAll (plain_codec c)) (sym e) (subst (λ p. KeepsAll p) (sym (plain_optional_at inner)) (optional_is _ (plain_chain (out-OptionalCodec _ inner).data_codecs.value) same))

pub sharding_keeps_all : {B : Type 0} (codec : ArrayToBytesCodec B) (inner : ShardingCodec B) → codec ≡ Sharding inner → KeepsAll (plain_codec (out-ShardingCodec _ inner).codecs.value.array_to_bytes) → KeepsAll (plain_codec codec)
unfolding plain_codec
sharding_keeps_all codec inner e same =
    subst (λ c. KeepsAll (plain_codec c)) (sym e) (subst (λ p. KeepsAll p) (sym (plain_sharding_at inner)) (sharding_is (plain_chain (out-ShardingCodec _ inner).codecs.value) _ _ _ same))

-- a codec without a chain inside does, but for `packbits`
pub leaf_keeps_all : {B : Type 0} (codec : ArrayToBytesCodec B) → ((inner : _) → codec ≡ PackBits inner → ⊥) → ((inner : _) → codec ≡ Vlen inner → ⊥) → ((inner : _) → codec ≡ Optional inner → ⊥) → ((inner : _) → codec ≡ Sharding inner → ⊥) → KeepsAll (plain_codec codec)
unfolding plain_codec meaning
leaf_keeps_all (PackBits inner) p v o s = absurd (p inner refl)
leaf_keeps_all (Vlen inner) p v o s = absurd (v inner refl)
leaf_keeps_all (Optional inner) p v o s = absurd (o inner refl)
leaf_keeps_all (Sharding inner) p v o s = absurd (s inner refl)
leaf_keeps_all codec p v o s = λ type element. refl
