-- What a partial encoder of a chain is made of, and what its calls leave.
-- Source: zarrs, `ArrayPartialEncoderTraits`.
use Rattle.std.specs.Prelude.{◌≡◌, Result}
use Rattle.zarrs_chunk.specs.Answer.{Answers}
use Rattle.zarrs_chunk.specs.declared.codec_error.CodecError.{CodecError}
use Rattle.zarrs_codec.specs.StorageState.{StorageState}
use Rattle.zarrs_codecs.specs.ChunkCoder.{coder_form}
use Rattle.zarrs_chain_meaning.specs.ChunkForm.{ChunkForm}
use Rattle.zarrs_codecs.specs.Edits.{edit_excuse, edited_store}
use Rattle.zarrs_codecs.specs.declared.partial_encoder.array_partial_encoder.ArrayPartialEncoder.{ArrayPartialEncoder}
use Rattle.zarrs_codecs.specs.declared.partial_encoder.edits.Edit.{Edit}

-- the handle that an encoder reads and writes
abbrev pub encoder_handle : {H B : Type 0} {h : _} {w : _} {b : _} → ArrayPartialEncoder H B h w b → H
encoder_handle encoder = encoder.handle

-- the chunk that an encoder writes, through its chain
abbrev pub encoder_form : {H B : Type 0} {h : _} {w : _} {b : _} → ArrayPartialEncoder H B h w b → ChunkForm B
encoder_form encoder = coder_form encoder.coder

-- that one edit through an encoder is answered as it is of what is stored
abbrev pub EncoderEdits : {H B : Type 0} {h : _} {w : _} {b : _} → (H → StorageState) → ArrayPartialEncoder H B h w b → ArrayPartialEncoder H B h w b → Edit → Result (Unit {0}) CodecError → Type 0
EncoderEdits {b = b} state before after edit result =
    Answers (edit_excuse edit) (λ _. (state (encoder_handle after)).value) result (edited_store b.functions (encoder_form before) (state (encoder_handle before)).value edit)
