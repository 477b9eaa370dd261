-- What a writing call leaves as it was: which bytes are sure.
use Rattle.std.proofs.Common.{◌≡◌, inl, inr, Result, Ok, Err, OnOk, OnErr, ap}
use Rattle.zarrs_chunk.specs.declared.codec_error.CodecError.{CodecError}
use Rattle.zarrs_codec.specs.ArrayWriter.{IsRefusedWrite}
use Rattle.zarrs_codec.specs.StorageState.{StorageState, after_writing, apart_from_value}

-- of one writing call
pub written_sure : {T : Type 0} (result : Result T CodecError) (old new : StorageState) → apart_from_value new ≡ after_writing result old → new.sure ≡ old.sure
written_sure result old new e = ap (λ (state : StorageState). state.sure) e

-- of a failed call
pub refused_sure : {T : Type 0} (result : Result T CodecError) (old new : StorageState) → IsRefusedWrite result old new → new.sure ≡ old.sure
refused_sure result old new (inl e) = ap (λ (state : StorageState). state.sure) e
refused_sure result old new (inr e) = ap (λ (state : StorageState). state.sure) e

-- of a call that makes one writing call, or fails
pub keeps_sure : {T : Type 0} (result : Result T CodecError) (old new : StorageState) → OnOk result (apart_from_value new ≡ after_writing result old) → OnErr result (IsRefusedWrite result old new) → new.sure ≡ old.sure
keeps_sure {T} (Ok x) old new one refused = written_sure {T = T} (Ok x) old new one
keeps_sure {T} (Err e) old new one refused = refused_sure {T = T} (Err e) old new refused
