-- What a handle keeps, and what is read of it.
use Rattle.std.specs.Prelude.{◌≡◌, ℕ, true, false, List, Vec, Result, Ok}
use Rattle.std.proofs.Common.{Global}
use Rattle.zarrs_chunk.specs.Answer.{AnswersItems, is_fault, memory_or_fault}
use Rattle.zarrs_chunk.specs.declared.codec_error.CodecError.{CodecError}
use Rattle.zarrs_codec.specs.StorageState.{StorageState, are_sure, value_or_empty}

-- the bytes that a handle keeps; none, where it keeps no value
abbrev pub stored_bytes : StorageState → List ℕ
stored_bytes before = value_or_empty before.value

-- Where the bytes with these numbers are sure, no failure of the handle comes.
abbrev pub SureAt : {T : Type 0} → StorageState → List ℕ → Result T CodecError → Type 0
SureAt before numbers result = are_sure before.sure numbers ≡ true → is_fault result ≡ false

-- These bytes are read. Only a lack of memory or a failure of the handle may come in their place.
abbrev pub AreRead : List ℕ → Result (Vec ℕ Global) CodecError → Type 0
AreRead bytes result = AnswersItems memory_or_fault result (Ok bytes)
