-- What calls return, by what the inner ones answer.
use Rattle.std.proofs.Common.{◌≡◌, ℕ, nat_le, Bool, true, false, List, [], length, Result, Ok, Err, IsOkAnd, if◌then◌else◌, arith, inl, inr, refl, ap, sym, ◌∙◌}
use Rattle.std.proofs.lemmas.Bool.{le-leb}
use Rattle.zarrs_chunk.specs.Answer.{Excused}
use Rattle.zarrs_array_bytes.specs.Held.{Held}
use Rattle.zarrs_array_bytes.specs.Pieces.{fixed_of}
use Rattle.zarrs_array_bytes.specs.Update.{with_items_at}
use Rattle.zarrs_chain.specs.FrontWrites.{in_front}
use Rattle.zarrs_c_calls.specs.Buffers.{Buffers, buffers, crossed, have_room, with_fronts}
use Rattle.zarrs_c_calls.specs.Codes.{cause_code, cause_memory}
use Rattle.zarrs_codec.specs.declared.bytes_representation.BytesRepresentation.{BytesRepresentation}
use Rattle.zarrs_c_calls.specs.Told.{Elements, HoldsThese, ToldBytes, ToldParts, TellsBytes, TellsElements, TellsRepresented, kind_of, size_of}
use Rattle.zarrs_c_calls.specs.declared.cause.Cause.{Cause}
use Rattle.zarrs_c_calls.specs.declared.sizes.Sizes.{Sizes}
use Rattle.zarrs_c_calls.proofs.CodeLemmas.{refused}

-- bytes that are due are returned
pub bytes_told : (bytes : List ℕ) (expected : Result (List ℕ) Cause) (code : ℕ) (old new : List ℕ) (needed_old needed_new : ℕ) → expected ≡ Ok bytes → ToldBytes bytes code old new needed_new → TellsBytes expected code old new needed_old needed_new
bytes_told bytes expected code old new needed_old needed_new is told = inl (bytes, is, told)

-- an error is returned in place of them
pub bytes_refused : (cause : Cause) (expected : Result (List ℕ) Cause) (code : ℕ) (old : List ℕ) (needed : ℕ) → Excused (cause_memory cause) (expected ≡ Err cause) → code ≡ cause_code cause → TellsBytes expected code old old needed needed
bytes_refused cause expected code old needed gives is = inr (rw is (refused cause expected gives), refl, refl)

-- elements of one size stand in front of the buffer of bytes; the others stay
pub sized_told : (items masks offsets : List ℕ) (code count : ℕ) (old new : List ℕ) (needed : Sizes) → count ≡ length items → code ≡ (if nat_le count (length old) then 0 else 1) → new ≡ in_front items old → needed ≡ record { masks = 0; offsets = 0; bytes = count }
    → ToldParts (crossed (fixed_of items)) code (buffers masks offsets old) (buffers masks offsets new) needed
sized_told items masks offsets code count old new needed counted is there all =
    let fits : Bool = nat_le (length items) (length old) in
    let room : have_room (buffers masks offsets old) (buffers [] [] items) ≡ fits = rw (le-leb 0 (length masks) (omega arith), le-leb 0 (length offsets) (omega arith)) refl in
    record {
      code_is = is ∙ ap (λ n. if nat_le n (length old) then 0 else 1) counted ∙ ap (λ (b : Bool). if b then 0 else 1) (sym room);
      buffers_are =
          ap (buffers masks offsets) there ∙ alike fits
          ∙ ap (λ (b : Bool). if b then with_fronts (buffers masks offsets old) (buffers [] [] items) else buffers masks offsets old) (sym room);
      needed_is = all ∙ ap (λ (n : ℕ). record { masks = 0; offsets = 0; bytes = n }) counted;
    }
  where
    alike : (b : Bool) → buffers masks offsets (if b then with_items_at old 0 items else old) ≡ (if b then with_fronts (buffers masks offsets old) (buffers [] [] items) else buffers masks offsets old)
    alike true = refl
    alike false = refl

-- elements that are due are returned
pub elements_told : (held : Held) (expected : Result Elements Cause) (code : ℕ) (old new : Buffers) (needed_old needed_new : Sizes) → IsOkAnd expected (HoldsThese held) → ToldParts (crossed held) code old new needed_new
    → TellsElements expected code (record { parts = old; needed = needed_old }) (record { parts = new; needed = needed_new })
elements_told held (Ok elements) code old new needed_old needed_new holds told = inl (elements, held, refl, holds, told)
elements_told held (Err cause) code old new needed_old needed_new holds told = absurd holds

-- an error is returned in place of them
pub elements_refused : (cause : Cause) (expected : Result Elements Cause) (code : ℕ) (old : Buffers) (needed : Sizes) → Excused (cause_memory cause) (expected ≡ Err cause) → code ≡ cause_code cause → TellsElements expected code (record { parts = old; needed = needed }) (record { parts = old; needed = needed })
elements_refused cause expected code old needed gives is = inr (rw is (refused cause expected gives), refl, refl)

-- a representation that is due is returned
pub representation_told : (r : BytesRepresentation) (expected : Result BytesRepresentation Cause) (code kind_old kind_new size_old size_new : ℕ) → expected ≡ Ok r → code ≡ 0 → kind_new ≡ kind_of r → size_new ≡ size_of r
    → TellsRepresented expected code kind_old kind_new size_old size_new
representation_told r expected code kind_old kind_new size_old size_new is done kind size = inl (r, is, done, kind, size)

-- an error is returned in place of it
pub representation_refused : (cause : Cause) (expected : Result BytesRepresentation Cause) (code kind size : ℕ) → Excused (cause_memory cause) (expected ≡ Err cause) → code ≡ cause_code cause → TellsRepresented expected code kind kind size size
representation_refused cause expected code kind size gives is = inr (rw is (refused cause expected gives), refl, refl)

-- ---- parts that have room, or not
