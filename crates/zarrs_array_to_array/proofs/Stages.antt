-- Readers over the readers of moved chunks.
use Rattle.std.proofs.Common.{◌≡◌, Bool, true, false, Option, Result, Ok, Err, List, ℕ, refl, sym, ◌∙◌, IfErr, ◌||◌}
use Rattle.zarrs_chunk.specs.Answer.{◌>>=◌, AnswersBy, memory, fault, memory_or_fault}
use Rattle.zarrs_chunk.specs.Selection.{Selection, bounds_of}
use Rattle.zarrs_chunk.specs.declared.codec_error.CodecError.{CodecError}
use Rattle.zarrs_chunk.specs.declared.codec_error.CodecError.TheVariants.{Storage}
use Rattle.zarrs_codec.specs.ArrayReader.{image_calls, image_is_sure}
use Rattle.zarrs_codec.specs.Calls.{Calls, MakesKnownReads}
use Rattle.zarrs_codec.specs.CoordinateMap.{CoordinateMap}
use Rattle.zarrs_codec.specs.HandleCalls.{NeverFailsIf}
use Rattle.zarrs_codec.specs.MappedSelection.{image_of}
use Rattle.zarrs_codec.specs.StorageState.{StorageState, after_reading}

pub first_false : (a b : Bool) → (a || b) ≡ false → a ≡ false
first_false true b h = absurd (cc)
first_false false b h = refl

-- an error of the moved indexer is the reader's
pub refused_answer : {T V W : Type 0} (R : T → W → Type 0) (e : CodecError) (image : Result V CodecError) (f : V → Result W CodecError) → (memory e ≡ false → image ≡ Err e) → AnswersBy memory_or_fault R (Err e) (image >>= f)
refused_answer R e image f h = λ ne. rw (h (first_false (memory e) (fault e) ne)) refl

pub passed_answer : {T V W : Type 0} (R : T → W → Type 0) (r : Result T CodecError) (image : Result V CodecError) (v : V) (f : V → Result W CodecError) → image ≡ Ok v → AnswersBy memory_or_fault R r (f v) → AnswersBy memory_or_fault R r (image >>= f)
passed_answer R r image v f e h = rw e h

-- a read of the moved chunk is as sure as the read that asks for it
pub passed_sure : {T : Type 0} (sure : Selection → Bool) (r : Result T CodecError) (image : Result Selection CodecError) (v : Selection) → image ≡ Ok v → NeverFailsIf (sure v) r → NeverFailsIf (image_is_sure sure image) r
passed_sure sure r image v e h = rw e h

-- a read of the moved chunk makes the calls of the read that asks for it
pub passed_calls : {C E T : Type 0} (calls : C → Option Calls) (counted : Selection → Option ℕ) (image : Result Selection CodecError) (v : Selection) (before after : C) (r : Result T E) → image ≡ Ok v → MakesKnownReads calls (counted v) before after r → MakesKnownReads calls (image_calls counted image) before after r
passed_calls calls counted image v before after r e h = rw e h

module _ (coordinates : Result CoordinateMap CodecError) (asked : List ℕ → Selection → Selection) (sizes : List ℕ) (selection : Selection) where
  bounds_first : (cause : CodecError) → bounds_of selection sizes ≡ Err cause → image_of coordinates asked sizes selection ≡ Err cause
  bounds_first cause h = rw h refl

  pub refused_first : {T W : Type 0} (R : T → W → Type 0) (e : CodecError) → (memory e ≡ false → image_of coordinates asked sizes selection ≡ Err e) → IfErr (bounds_of selection sizes) (λ cause. AnswersBy memory R (Err e) (Err cause))
  refused_first {T} {W} R e h = go (bounds_of selection sizes) refl
    where
      go : (b : Result (Unit {0}) CodecError) → bounds_of selection sizes ≡ b → IfErr b (λ cause. AnswersBy memory R (Err e) (Err cause))
      go (Ok u) is = tt
      go (Err cause) is = λ ne. let same : ◌≡◌ {A = Result Selection CodecError} (Err cause) (Err e) = sym (bounds_first cause is) ∙ h ne in cc

  pub passed_first : (v : Selection) (P : CodecError → Type 0) → image_of coordinates asked sizes selection ≡ Ok v → IfErr (bounds_of selection sizes) P
  passed_first v P h = go (bounds_of selection sizes) refl
    where
      go : (b : Result (Unit {0}) CodecError) → bounds_of selection sizes ≡ b → IfErr b P
      go (Ok u) is = tt
      go (Err cause) is = absurd (let bad : ◌≡◌ {A = Result Selection CodecError} (Err cause) (Ok v) = sym (bounds_first cause is) ∙ h in cc)

-- an error that is no failure leaves the handle
pub left_alone : (T : Type 0) (e : CodecError) (state : StorageState) → fault e ≡ false → state ≡ after_reading {T = T} (Err e) state
left_alone T (Storage x) state h = absurd (cc)
left_alone T _ state h = refl
