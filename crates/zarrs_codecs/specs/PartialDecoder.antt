-- What a partial decoder of a chain is made of.
use Rattle.std.specs.Prelude.{◌≡◌, ℕ, ◌+◌, ◌-◌, ◌^◌, min, Bool, Option, is_some, List, Result, Ok, Err, true, false, IfOk, IsOkAnd}
use Rattle.zarrs_chunk.specs.declared.codec_error.CodecError.{CodecError}
use Rattle.zarrs_codec.specs.ArrayReader.{ArrayReader}
use Rattle.zarrs_codec.specs.BytesToBytesCodec.{BytesCodecs}
use Rattle.zarrs_codec.specs.StorageState.{StorageState}
use Rattle.zarrs_codec.specs.declared.refused.Refused.{Refused}
use Rattle.zarrs_codecs.specs.ChunkCoder.{coder_form, coder_keeps_nothing, coder_wants_index, reader_source}
use Rattle.zarrs_codecs.specs.ChunkRead.{reads_surely, stored_read}
use Rattle.zarrs_codecs.specs.KeptIndex.{asks_index, form_index, index_held, knows_index}
use Rattle.zarrs_chain_meaning.specs.ChunkForm.{ChunkForm}
use Rattle.zarrs_codecs.specs.ChunkSource.{Source, held_by, is_cache, IsSizeOf, source_made}
use Rattle.zarrs_codecs.specs.declared.partial_decoder.array_partial_decoder.ArrayPartialDecoder.{ArrayPartialDecoder}
use Rattle.zarrs_codec.specs.declared.capabilities.PartialDecoderCapability.{PartialDecoderCapability}

-- the handle that a decoder reads
abbrev pub handle_of : {H B : Type 0} {h : _} {b : _} → ArrayPartialDecoder H B h b → H
handle_of decoder = decoder.handle

-- the chunk that a decoder reads, through its chain
abbrev pub decoder_form : {H B : Type 0} {h : _} {b : _} → ArrayPartialDecoder H B h b → ChunkForm B
decoder_form decoder = coder_form decoder.coder

-- what a decoder's answers rest on, where its handle has this value
abbrev pub decoder_source : {H B : Type 0} {h : _} {b : _} → ArrayPartialDecoder H B h b → Option (List ℕ) → Source
decoder_source decoder stored = reader_source decoder.coder stored

-- a decoder has a cache, so that its calls leave the handle alone
abbrev pub is_cached : {H B : Type 0} {h : _} {b : _} → ArrayPartialDecoder H B h b → Bool
is_cached decoder = is_cache decoder.coder.cache

-- a decoder keeps a shard's index
abbrev pub is_indexed : {H B : Type 0} {h : _} {b : _} → ArrayPartialDecoder H B h b → Bool
is_indexed decoder = knows_index decoder.coder.cache

-- it reads a shard by its index, and keeps nothing yet
abbrev pub wants_index : {H B : Type 0} {h : _} {b : _} → ArrayPartialDecoder H B h b → Bool
wants_index decoder = coder_wants_index decoder.coder

-- a decoder keeps nothing
abbrev pub is_bare : {H B : Type 0} {h : _} {b : _} → ArrayPartialDecoder H B h b → Bool
is_bare decoder = coder_keeps_nothing decoder.coder

-- how many bytes are kept in memory, where the handle keeps so many: the cache's alone, or else the handle's and those of a shard's index
abbrev pub decoder_held : {H B : Type 0} {h : _} {b : _} → ArrayPartialDecoder H B h b → ℕ → ℕ
decoder_held decoder held = held_by held decoder.coder.cache

-- the decoder that was made, or the error
abbrev pub made : {T H : Type 0} → Result T (Refused H) → Result T CodecError
made (Ok decoder) = Ok decoder
made (Err refused) = Err refused.error

-- the reader of a chunk of this form, with a cache or without one, where these bytes are sure and this value or none is stored: it answers of a selection what `stored_read` says
abbrev pub chunk_reader : {B : Type 0} → BytesCodecs B → ChunkForm B → Bool → Option (ℕ → Bool) → Option (List ℕ) → Bool → ArrayReader
chunk_reader f form cached sure stored in_part = record {
  sizes = form.sizes;
  type = form.type;
  is_stored = is_some stored;
  answer = stored_read f form stored;
  sure = reads_surely cached f form stored sure;
  in_part = in_part;
}

-- ---- what its calls give

-- a decoder's cache, where there is one, has so many bytes
abbrev pub KeepsCache : {H B : Type 0} {h : _} {b : _} → (H → StorageState) → BytesCodecs B → (B → PartialDecoderCapability) → ArrayPartialDecoder H B h b → ℕ → Type 0
KeepsCache state f reads decoder size =
    is_cached decoder ≡ true → IsOkAnd (source_made f reads (decoder_form decoder) (state (handle_of decoder)).value) (λ source. IsSizeOf (decoder_form decoder).type source size)

-- a decoder that has no cache and asks for no shard's index keeps what its handle keeps
abbrev pub KeepsHandle : {H B : Type 0} {h : _} {b : _} → (H → ℕ) → ArrayPartialDecoder H B h b → ℕ → Type 0
KeepsHandle held decoder size =
    is_cached decoder ≡ false → asks_index (decoder_form decoder).chain.bytes_to_bytes (decoder_form decoder).chain.array_to_bytes ≡ false → size ≡ held (handle_of decoder)

-- beside what its handle keeps in memory, a decoder that keeps a shard's index has its bytes: 16 for each inner chunk
abbrev pub KeepsIndex : {H B : Type 0} {h : _} {b : _} → (H → StorageState) → BytesCodecs B → (H → ℕ) → ArrayPartialDecoder H B h b → ℕ → Type 0
KeepsIndex state f held decoder size =
    is_indexed decoder ≡ true → IsOkAnd (form_index f (decoder_form decoder) (state (handle_of decoder)).value) (λ index. size ≡ min (held (handle_of decoder) + index_held index) (2 ^ 64 - 1))

-- Over `sharding_indexed` without bytes-to-bytes codecs a read that is answered leaves the index kept; and one that is kept stays.
pub record LeavesIndex {H B T : Type 0} {h : _} {b : _} (before after : ArrayPartialDecoder H B h b) (result : Result T CodecError) : Type 0 where
  pub kept : is_cached before ≡ false → asks_index (decoder_form before).chain.bytes_to_bytes (decoder_form before).chain.array_to_bytes ≡ true → IfOk result (λ _. is_indexed after ≡ true)
  pub stays : is_indexed before ≡ true → is_indexed after ≡ true
