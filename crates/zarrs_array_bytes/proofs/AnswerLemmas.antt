-- The answers of the calls over a chunk's container.
use Rattle.std.proofs.Common.{◌≡◌, ℕ, ◌<◌, ◌^◌, Bool, true, false, List, length, nat_lt, if◌then◌else◌, Ok, Err, Result, IfOk}
use Rattle.std.specs.List.{All}
use Rattle.zarrs_chunk.specs.Answer.{Answers, AnswersBy, memory, checked_u64}
use Rattle.zarrs_chunk.specs.ChunkShape.{product}
use Rattle.zarrs_chunk.specs.Selection.{Selection, places_of}
use Rattle.zarrs_chunk.specs.declared.codec_error.CodecError.{CodecError}
use Rattle.zarrs_chunk.specs.declared.codec_error.CodecError.TheVariants.{Overflow, InvalidBytesLength}
use Rattle.zarrs_data_type.specs.ElementType.{ElementType}
use Rattle.zarrs_data_type.specs.FillValue.{fill_fits}
use Rattle.zarrs_array_bytes.specs.Held.{Held}
use Rattle.zarrs_array_bytes.specs.Validity.{sizes_fit, levels_fit, validity, data_fit, data_mismatch, Holds}
use Rattle.zarrs_array_bytes.specs.Extracted.{container_selection, IsSmall}
use Rattle.zarrs_array_bytes.specs.Filled.{container_fill}
use Rattle.zarrs_array_bytes.specs.Update.{container_update}
use Rattle.zarrs_array_bytes.specs.Chunks.{fill_chunk, chunk_at, selected_chunk, update_fit, update_at_places, chunk_update}
use Rattle.zarrs_array_bytes.proofs.ValidLemmas.{both_ok}
use Rattle.zarrs_array_bytes.proofs.ExtractLemmas.{small_holds}
use Rattle.zarrs_array_bytes.proofs.FilledLemmas.{filled_holds}
use Rattle.zarrs_array_bytes.proofs.UpdatedLemmas.{updated_holds}

by_test : (b : Bool) (n k : ℕ) → (if b then Ok n else Err Overflow) ≡ Ok k → n ≡ k
by_test true n k e = cc
by_test false n k e = cc

-- a number that 64 bits hold
pub checked_is : (n k : ℕ) → checked_u64 n ≡ Ok k → n ≡ k
checked_is n k e = by_test (nat_lt n (2 ^ 64)) n k e

pub fill_answers : (t : ElementType) (n : ℕ) (bs : List ℕ) (r : Result Held CodecError) → fill_fits t bs ≡ true → sizes_fit t n ≡ Ok tt → Answers memory (λ (a : Held). a) r (Ok (container_fill t n bs))
    → AnswersBy memory (Holds t) r (fill_chunk t n bs)
fill_answers t n bs (Ok a) h sizes gives =
    let is : container_fill t n bs ≡ a = cc gives in
    rw (h, sizes) (filled_holds t n bs a h sizes is)
fill_answers t n bs (Err e) h sizes gives = λ ne. let never : ⊥ = cc (gives ne) in absurd never

-- a container that is answered is the one that is due
pub held_is : (h : Held) (r : Result Held CodecError) → Answers memory (λ (a : Held). a) r (Ok h) → IfOk r (λ a. a ≡ h)
held_is h (Ok a) gives = cc gives
held_is h (Err e) gives = tt

pub at_answers : (t : ElementType) (n : ℕ) (h : Held) (ps : List ℕ) (r : Result Held CodecError) → validity t n h ≡ Ok tt → All (λ p. p < n) ps → IfOk r IsSmall → Answers memory (λ (a : Held). a) r (Ok (container_selection t h ps))
    → AnswersBy memory (Holds t) r (chunk_at t n ps h)
at_answers t n h ps (Ok a) valid inside small gives =
    let is : container_selection t h ps ≡ a = cc gives in
    rw valid (small_holds t n h a ps (both_ok _ _ valid).1 inside small is)
at_answers t n h ps (Err e) valid inside small gives = λ ne. let never : ⊥ = cc (gives ne) in absurd never

pub selected_answers : (t : ElementType) (sizes : List ℕ) (selection : Selection) (h : Held) (ps : List ℕ) (r : Result Held CodecError) → places_of selection sizes ≡ Ok ps
    → AnswersBy memory (Holds t) r (chunk_at t (product sizes) ps h) → AnswersBy memory (Holds t) r (selected_chunk t sizes selection h)
selected_answers t sizes selection h ps r places gives = rw places gives

-- where the tests of an update pass, the old elements have the type and their count, and so have the new ones
pub record UpdateFits (t : ElementType) (n : ℕ) (h g : Held) (ps : List ℕ) : Type 0 where
  pub sizes : sizes_fit t n ≡ Ok tt
  pub valid : levels_fit InvalidBytesLength t n h ≡ Ok tt
  pub new_valid : data_fit t (length ps) g ≡ Ok tt

pub update_fits : (t : ElementType) (n : ℕ) (h g : Held) (ps : List ℕ) → update_fit t n ps h g ≡ Ok tt → UpdateFits t n h g ps
update_fits t n h g ps fit =
    let both = both_ok (validity t n h) (data_fit t (length ps) g) fit in
    let old = both_ok (sizes_fit t n) (levels_fit InvalidBytesLength t n h) both.0 in
    record { sizes = old.0; valid = old.1; new_valid = both.1 }

pub runs_answers : (t : ElementType) (n : ℕ) (h g : Held) (ps : List ℕ) (r : Result Held CodecError) → update_fit t n ps h g ≡ Ok tt → Answers memory (λ (a : Held). a) r (Ok (container_update t n h (length ps) g ps))
    → AnswersBy memory (Holds t) r (update_at_places t n ps h g)
runs_answers t n h g ps (Ok a) fit gives =
    let is : container_update t n h (length ps) g ps ≡ a = cc gives in
    let fits = update_fits t n h g ps fit in
    rw fit (updated_holds t n (length ps) h g a ps data_mismatch fits.valid fits.new_valid fits.sizes is)
runs_answers t n h g ps (Err e) fit gives = λ ne. let never : ⊥ = cc (gives ne) in absurd never

-- the selected places are those of the runs
pub update_answers : (t : ElementType) (sizes : List ℕ) (selection : Selection) (h g : Held) (ps : List ℕ) (r : Result Held CodecError) → places_of selection sizes ≡ Ok ps
    → AnswersBy memory (Holds t) r (update_at_places t (product sizes) ps h g) → AnswersBy memory (Holds t) r (chunk_update t sizes selection h g)
update_answers t sizes selection h g ps r places gives = rw places gives
