-- A container of bytes holds a chunk of bytes, and what is written for that chunk is decoded to what is kept of it.
use Rattle.std.proofs.Common.{◌≡◌, ℕ, zero, suc, ◌<◌, List, length, get_or, Ok, subst}
use Rattle.std.specs.List.{All, range_with_len}
use Rattle.std.specs.Prelude.{slice_index}
use Rattle.std.proofs.lemmas.List.Elements.{All-take, All-drop, All-map}
use Rattle.zarrs_chunk.specs.ChunkShape.{product}
use Rattle.zarrs_data_type.specs.Element.{Element, Chunk}
use Rattle.zarrs_data_type.specs.ElementType.{ElementType, fixed, text, bytes, optional}
use Rattle.zarrs_array_bytes.specs.Elements.{under_flag, element_at, elements}
use Rattle.zarrs_array_bytes.specs.Held.{Held, flen, vlen, masked}
use Rattle.zarrs_array_bytes.specs.Validity.{Holds, validity}
use Rattle.zarrs_array_bytes.proofs.ElementLaw.{AreElements-held}
use Rattle.zarrs_codec.specs.BytesToBytesCodec.{BytesCodecs, IsLawful}
use Rattle.zarrs_codec.specs.declared.bytes_representation.BytesRepresentation.{BytesRepresentation}
use Rattle.zarrs_bytes.specs.BytesCodec.{IsChunk}
use Rattle.zarrs_packbits.specs.Laws.{HasBytes}
use Rattle.zarrs_chain_meaning.specs.CodecMeaning.{PlainCodec, PlainChain, HasMappings, normal_form, codec_representation, codec_chunk, chain_chunk, CodecWritten, ChainWritten}
use Rattle.zarrs_chain_meaning.specs.Laws.{IsChainOfMappings}
use Rattle.zarrs_chain_meaning.specs.MachineBytes.{HeldHasBytes}
use Rattle.zarrs_chain_meaning.proofs.ChainSteps.{validity_fits}
use Rattle.zarrs_chain_meaning.proofs.CodecLaws.{chunk_only, chain_chunk_only, codec_stands, chain_stands}

flag_bytes : (byte : ℕ) (element : Element) → HasBytes element → HasBytes (under_flag byte element)
flag_bytes zero element h = tt
flag_bytes (suc byte) element h = h

element_bytes : (type : ElementType) (held : Held) (place : ℕ) → HeldHasBytes held → HasBytes (element_at type held place)
element_bytes (fixed width components sign) (flen raw) place h =
    All-take (λ (byte : ℕ). byte < 256) _ _ (All-drop (λ (byte : ℕ). byte < 256) _ raw.items h)
element_bytes (fixed width components sign) (vlen raw offsets) place h = tt
element_bytes (fixed width components sign) (masked inner mask) place h = tt
element_bytes text (flen raw) place h = tt
element_bytes text (vlen raw offsets) place h = All-take (λ (byte : ℕ). byte < 256) _ _ (All-drop (λ (byte : ℕ). byte < 256) _ raw.items h)
element_bytes text (masked inner mask) place h = tt
element_bytes bytes (flen raw) place h = tt
element_bytes bytes (vlen raw offsets) place h = All-take (λ (byte : ℕ). byte < 256) _ _ (All-drop (λ (byte : ℕ). byte < 256) _ raw.items h)
element_bytes bytes (masked inner mask) place h = tt
element_bytes (optional type) (flen raw) place h = tt
element_bytes (optional type) (vlen raw offsets) place h = tt
element_bytes (optional type) (masked inner mask) place h = flag_bytes (slice_index mask.items place) (element_at type inner place) (element_bytes type inner place h)

pub held_bytes : (type : ElementType) (count : ℕ) (held : Held) → HeldHasBytes held → All HasBytes (elements type count held)
held_bytes type count held h = All-map HasBytes (element_at type held) (range_with_len 0 count) (λ k d l. element_bytes type held (get_or (range_with_len 0 count) k d) h)

-- of the chunk that it holds too
pub chunk_bytes : (type : ElementType) (held : Held) (chunk : Chunk) → HeldHasBytes held → Holds type held chunk → All HasBytes chunk
chunk_bytes type held chunk small holds = subst (All HasBytes) holds.elements_are (held_bytes type (length chunk) held small)

-- ---- what is written for a chunk is decoded again to what is kept of it

pub codec_again : {B : Type 0} (f : BytesCodecs B) (codec : PlainCodec B) (sizes : List ℕ) (type : ElementType) (fill value : List ℕ) (held : Held) (chunk : Chunk) (r : BytesRepresentation)
    → IsLawful f → HasMappings codec → All (λ size. 0 < size) sizes → HeldHasBytes held → Holds type held chunk → length chunk ≡ product sizes
    → codec_representation f codec sizes type fill ≡ Ok r → CodecWritten f codec sizes type fill value chunk → codec_chunk f codec sizes type fill value ≡ Ok (normal_form codec type chunk)
codec_again f codec sizes type fill value held chunk r lawful is positive small holds count taken written =
    let valid : validity type (product sizes) held ≡ Ok tt = subst (λ (k : ℕ). validity type k held ≡ Ok tt) count holds.valid in
    let are : IsChunk type (product sizes) chunk = record { count_is = count; each = AreElements-held type held chunk holds } in
    let stands = codec_stands f lawful codec is sizes type fill value chunk r positive (chunk_bytes type held chunk small holds) are (validity_fits type (product sizes) held valid) taken written in
    chunk_only f codec is sizes type fill value (normal_form codec type chunk) positive stands

pub chain_again : {B : Type 0} (f : BytesCodecs B) (chain : PlainChain B) (sizes : List ℕ) (type : ElementType) (fill value : List ℕ) (held : Held) (chunk : Chunk)
    → IsLawful f → IsChainOfMappings chain → All (λ size. 0 < size) sizes → HeldHasBytes held → Holds type held chunk
    → ChainWritten f chain sizes type fill value chunk → chain_chunk f chain sizes type fill value ≡ Ok (normal_form chain.array_to_bytes type chunk)
chain_again f chain sizes type fill value held chunk lawful is positive small holds written =
    let stands = chain_stands f chain lawful is sizes type fill value chunk positive (chunk_bytes type held chunk small holds) written in
    chain_chunk_only f chain is sizes type fill value (normal_form chain.array_to_bytes type chunk) positive stands
