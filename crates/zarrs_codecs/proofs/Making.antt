-- What is rejected first where a coder is made.
use Rattle.std.proofs.Common.{◌≡◌, ℕ, false, List, Result, Ok, Err}
use Rattle.std.specs.Prelude.{IfErr}
use Rattle.zarrs_chunk.specs.Answer.{◌>>=◌, memory, seen}
use Rattle.zarrs_chunk.specs.declared.codec_error.CodecError.{CodecError}
use Rattle.zarrs_data_type.specs.ElementType.{ElementType}
use Rattle.zarrs_codec.specs.BytesToBytesCodec.{BytesCodecs}
use Rattle.zarrs_codec.specs.CoordinateMap.{CoordinateMap}
use Rattle.zarrs_codec.specs.declared.bytes_representation.BytesRepresentation.{BytesRepresentation}
use Rattle.zarrs_chain_meaning.specs.ArrayStages.{arrays_map}
use Rattle.zarrs_chain_meaning.specs.BytesStages.{outer_representation}
use Rattle.zarrs_chain_meaning.specs.Chain.{taken_form}
use Rattle.zarrs_chain_meaning.specs.CodecMeaning.{PlainChain, codec_representation, chain_representation}
use Rattle.zarrs_bytes.proofs.Coding.{ok}

same_cause : {A : Type 0} (x e : CodecError) → ◌≡◌ {A = Result A CodecError} (Err x) (Err e) → ◌≡◌ {A = Result (Unit {0}) CodecError} (Err x) (Err e)
same_cause x e h = cc

-- a call that answers the check's error
pub refused_first : {A : Type 0} (check : Result A CodecError) (e : CodecError) → (memory e ≡ false → check ≡ Err e) → IfErr check (λ cause. memory e ≡ false → ◌≡◌ {A = Result (Unit {0}) CodecError} (Err cause) (Err e))
refused_first (Ok x) e h = tt
refused_first (Err x) e h = λ m. same_cause x e (h m)

no_cause : {X : Type 0} (x : X) (e : CodecError) → ◌≡◌ {A = Result X CodecError} (Ok x) (Err e) → ⊥
no_cause x e h = cc

-- a call that wants memory
pub wanting_first : {A X : Type 0} (check : Result A CodecError) (x : X) (e : CodecError) → (memory e ≡ false → ◌≡◌ {A = Result X CodecError} (Ok x) (Err e)) → IfErr check (λ cause. memory e ≡ false → ◌≡◌ {A = Result (Unit {0}) CodecError} (Err cause) (Err e))
wanting_first check x e h = refused_first check e (λ m. absurd (no_cause x e (h m)))

-- a check that passed
pub passed_first : {A : Type 0} (check : Result A CodecError) (x : A) (P : CodecError → Type 0) → check ≡ Ok x → IfErr check P
passed_first check x P e = rw e tt

measured : (r : Result BytesRepresentation CodecError) (encoded : List ℕ) (behind : BytesRepresentation → BytesRepresentation) (P : CodecError → Type 0) → IfErr (r >>= λ r. let taken : List ℕ × BytesRepresentation = (encoded, r) in ok taken) P → IfErr (r >>= λ r. ok (behind r)) P
measured (Ok r) encoded behind P h = tt
measured (Err e) encoded behind P h = h

mapped : (a : Result CoordinateMap CodecError) (measure : List ℕ → Result BytesRepresentation CodecError) (behind : BytesRepresentation → BytesRepresentation) (P : CodecError → Type 0)
    → IfErr (seen (λ (m : CoordinateMap). m.encoded) a >>= λ encoded. measure encoded >>= λ r. let taken : List ℕ × BytesRepresentation = (encoded, r) in ok taken) P
    → IfErr (a >>= λ (m : CoordinateMap). measure m.encoded >>= λ r. ok (behind r)) P
mapped (Ok m) measure behind P h = measured (measure m.encoded) m.encoded behind P h
mapped (Err e) measure behind P h = h

-- a chain rejects a representation where it doesn't take the chunks
pub representation_first : {B : Type 0} (f : BytesCodecs B) (chain : PlainChain B) (sizes : List ℕ) (type : ElementType) (fill : List ℕ) (P : CodecError → Type 0) → IfErr (taken_form f chain sizes type fill) P → IfErr (chain_representation f chain sizes type fill) P
representation_first f chain sizes type fill P h =
    mapped (arrays_map type chain.array_to_array sizes) (λ encoded. codec_representation f chain.array_to_bytes encoded type fill) (outer_representation f chain.bytes_to_bytes) P h
