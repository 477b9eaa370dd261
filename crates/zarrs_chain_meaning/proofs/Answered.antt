-- What is answered where nothing is rejected.
use Rattle.std.proofs.Common.{◌≡◌, true, Result, Ok, Err, refl}
use Rattle.std.specs.Prelude.{is_ok}
use Rattle.zarrs_chunk.specs.declared.codec_error.CodecError.{CodecError}

pub from_ok : {A : Type 0} (r : Result A CodecError) → is_ok r ≡ true → (x : A) × (r ≡ Ok x)
from_ok (Ok x) e = (x, refl)
from_ok (Err x) e = absurd cc
