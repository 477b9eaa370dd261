-- A handle that tears nothing keeps its value where a write fails.
use Rattle.std.specs.Prelude.{OnErr, not}
use Rattle.std.proofs.Common.{◌≡◌, ℕ, Bool, true, false, Option, List, Result, Ok, Err}
use Rattle.zarrs_chunk.specs.declared.codec_error.CodecError.{CodecError}
use Rattle.zarrs_codec.specs.WatchedHandle.{torn_or_kept}

pub kept_alone : {T : Type 0} (tears : Bool) (result : Result T CodecError) (made now before : Option (List ℕ)) → OnErr result (now ≡ torn_or_kept tears result made before) → OnErr result (not tears ≡ true → now ≡ before)
kept_alone true (Err e) made now before h = λ t. absurd cc
kept_alone false (Err e) made now before h = λ t. h
kept_alone tears (Ok x) made now before h = tt
