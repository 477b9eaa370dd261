-- How a call leaves the handle that it reads.
use Rattle.std.specs.Prelude.{◌≡◌, Result}
use Rattle.zarrs_chunk.specs.declared.codec_error.CodecError.{CodecError}
use Rattle.zarrs_codec.specs.StorageState.{StorageState, after_reading}

-- Its state is as it was, but for the failure that is returned, and it is the same reference.
pub record HandleReads {H L T : Type 0} (state : H → StorageState) (lent : H → L) (before after : H) (result : Result T CodecError) : Type 0 where
  pub left : state after ≡ after_reading result (state before)
  pub same_reference : lent after ≡ lent before
