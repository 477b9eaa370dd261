-- What is promised of the calls of a storage handle.
use Rattle.std.specs.Prelude.{◌≡◌, ℕ, Bool, true, false, Option, Some, List, Vec, Result, Ok, OnOk}
use Rattle.std.specs.Option.{option_map}
use Rattle.std.proofs.Common.{Global}
use Rattle.zarrs_chunk.specs.Answer.{Answers, fault, is_fault, memory_or_fault}
use Rattle.zarrs_chunk.specs.declared.codec_error.CodecError.{CodecError}
use Rattle.zarrs_codec.specs.BytePieces.{with_pieces}
use Rattle.zarrs_codec.specs.StorageState.{StorageState, value_or_empty}

-- The call returns this of what is stored. Only a failure of the handle may come in its place.
abbrev pub Tells : {T : Type 0} → Result T CodecError → T → Type 0
Tells result told = Answers fault (λ it. it) result (Ok told)

-- The bytes that are read are the expected ones, or none where nothing is stored; or the first error is returned. Only lack of memory or a failure of the handle may come in its place.
abbrev pub ReadsBytes : Result (Option (Vec ℕ Global)) CodecError → Result (Option (List ℕ)) CodecError → Type 0
ReadsBytes result expected = Answers memory_or_fault (option_map (λ bytes. bytes.items)) result expected

-- The writing call is accepted, or fails, as is expected. Only lack of memory or a failure of the handle may come in its place.
abbrev pub Accepts : Result (Unit {0}) CodecError → Result (Unit {0}) CodecError → Type 0
Accepts result expected = Answers memory_or_fault (λ written. written) result expected

-- Where this test holds, no failure of the handle comes.
abbrev pub NeverFailsIf : {T : Type 0} → Bool → Result T CodecError → Type 0
NeverFailsIf sure result = sure ≡ true → is_fault result ≡ false

-- An accepted call leaves the value that there was, an empty one where there was none, with these bytes written at the pieces. `state` is what the handle is seen as.
abbrev pub WritesPieces : {C T : Type 0} → (C → StorageState) → C → C → List (ℕ × ℕ) → List ℕ → Result T CodecError → Type 0
WritesPieces state before after pieces bytes result =
    OnOk result ((state after).value ≡ Some (with_pieces (value_or_empty (state before).value) pieces bytes))
