-- 64 bits count the bytes of chunks that a codec takes, where memory has their elements.
use Rattle.std.proofs.Common.{◌≡◌, ℕ, ◌+◌, ◌<◌, ◌^◌, List, [], ◌∷◌, length, Result, Ok, Err, IsOk, refl, ap, sym, subst, ◌∙◌}
use Rattle.std.specs.List.{All}
use Rattle.zarrs_chunk.specs.ChunkShape.{product}
use Rattle.zarrs_chunk.specs.declared.codec_error.CodecError.{CodecError}
use Rattle.zarrs_data_type.specs.ElementType.{ElementType}
use Rattle.zarrs_array_bytes.specs.Validity.{sizes_fit}
use Rattle.zarrs_codec.specs.BytesToBytesCodec.{BytesCodecs}
use Rattle.zarrs_codec.specs.declared.bytes_representation.BytesRepresentation.{BytesRepresentation}
use Rattle.zarrs_chain_meaning.specs.CodecMeaning.{PlainCodec, PlainChain, HasMappings, codec_representation, chain_chunk}
use Rattle.zarrs_chain_meaning.specs.Parts.{byte_elements}
use Rattle.zarrs_chain_meaning.specs.optional.Optional.{flag_type}
use Rattle.zarrs_chain_meaning.specs.optional.OptionalParts.{optional_inner}
use Rattle.zarrs_chain_meaning.proofs.NestedRows.{items_long}
use Rattle.zarrs_chain_meaning.proofs.OptionalSteps.{inner_is, chunk_long}
use Rattle.zarrs_chain_meaning.proofs.CodecLaws.{codec_room}

-- ---- codecs

taken_room : {B : Type 0} (f : BytesCodecs B) (codec : PlainCodec B) (sizes : List ℕ) (type : ElementType) (fill : List ℕ) (r : Result BytesRepresentation CodecError) → codec_representation f codec sizes type fill ≡ r
    → HasMappings codec → All (λ size. 0 < size) sizes → product sizes + 1 < 2 ^ 64 → IsOk r → sizes_fit type (product sizes) ≡ Ok tt
taken_room f codec sizes type fill (Ok r) e has positive small taken = codec_room f codec has sizes type fill r positive small e
taken_room f codec sizes type fill (Err error) e has positive small taken = absurd cc

-- a codec that takes a chunk has room for its elements
pub room_at : {B : Type 0} (f : BytesCodecs B) (codec : PlainCodec B) (sizes : List ℕ) (type : ElementType) (fill : List ℕ)
    → HasMappings codec → All (λ size. 0 < size) sizes → product sizes + 1 < 2 ^ 64 → IsOk (codec_representation f codec sizes type fill) → sizes_fit type (product sizes) ≡ Ok tt
room_at f codec sizes type fill has positive small taken = taken_room f codec sizes type fill (codec_representation f codec sizes type fill) refl has positive small taken

-- ---- under a mask

-- the mask that a chain read has a byte for each element
pub mask_long : {B : Type 0} (f : BytesCodecs B) (chain : PlainChain B) (sizes part mask : List ℕ) → chain_chunk f chain sizes flag_type (0 ∷ []) part ≡ Ok (byte_elements mask) → length mask ≡ product sizes
mask_long f chain sizes part mask e = sym (items_long mask) ∙ chunk_long f chain sizes flag_type (0 ∷ []) part (byte_elements mask) e

pub mask_room : {B : Type 0} (f : BytesCodecs B) (codec : PlainCodec B) (sizes : List ℕ) (type inner : ElementType) (fill mask : List ℕ)
    → HasMappings codec → All (λ size. 0 < size) sizes → IsOk (codec_representation f codec sizes type fill) → optional_inner type ≡ Ok inner → length mask ≡ product sizes → length mask + 1 < 2 ^ 64 → sizes_fit inner (length mask) ≡ Ok tt
mask_room f codec sizes type inner fill mask has positive taken is long small =
    let due : sizes_fit type (product sizes) ≡ Ok tt = room_at f codec sizes type fill has positive (subst (λ (n : ℕ). n + 1 < 2 ^ 64) long small) taken in
    ap (sizes_fit inner) long ∙ ap (λ u. sizes_fit u (product sizes)) (sym (inner_is type inner is)) ∙ due
