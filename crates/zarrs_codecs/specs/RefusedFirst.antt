-- Which errors come before a handle is asked.
use Rattle.std.specs.Prelude.{Result, Err, IfErr}
use Rattle.zarrs_chunk.specs.Answer.{Answers, memory}
use Rattle.zarrs_chunk.specs.declared.codec_error.CodecError.{CodecError}

-- Where this check rejects, its cause is what the call answers, or a lack of memory: no failure of the handle comes in its place.
abbrev pub RefusedFirst : {A T : Type 0} → Result A CodecError → Result T CodecError → Type 0
RefusedFirst check result = IfErr check (λ cause. Answers memory (λ _. tt {0}) result (Err cause))
