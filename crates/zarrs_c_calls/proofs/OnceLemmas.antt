-- Handles that are written once, and what is made of their writes.
use Rattle.std.proofs.Common.{◌≡◌, inl, inr, ℕ, ◌==◌, true, false, ◌||◌, List, [], ◌∷◌, Option, None, Result, Ok, Err, OnOk, OnErr, drop, refl, ap, sym, ◌∙◌, arith, subst}
use Rattle.std.specs.Borrow.{GName}
use Rattle.zarrs_chunk.specs.Answer.{Answers, memory, fault, memory_or_fault}
use Rattle.zarrs_chunk.specs.declared.codec_error.CodecError.{CodecError}
use Rattle.zarrs_codec.specs.ArrayWriter.{IsRefusedWrite}
use Rattle.zarrs_codec.specs.Lent.{Lent, whole_reference}
use Rattle.zarrs_codec.specs.StorageState.{StorageState, after_writing, apart_from_value, count_if}
use Rattle.zarrs_codecs.proofs.MadeCoders.{excused_less, no_fault}
use Rattle.zarrs_c_calls.proofs.EditLemmas.{first_name}
use Rattle.zarrs_c_calls.specs.OneWriteHandle.{accepted, fresh_state, newly_written, once_state, once_value, once_written}
use Rattle.zarrs_c_calls.specs.Written.{is_written, replaced, value_written}
use Rattle.zarrs_c_calls.specs.declared.one_write_handle.OneWriteHandle.{OneWriteHandle}
use Rattle.zarrs_c_calls.specs.declared.written.Written.{Written}
use Rattle.zarrs_c_calls.specs.declared.written.Written.TheVariants.{Nothing, Front, Apart, Erased}

-- ---- what a write replaced

-- where none was accepted, the buffer is as it was
none_replaced : (w : Written) (new old : List ℕ) → accepted w ≡ 0 → drop (replaced w) new ≡ drop (replaced w) old → new ≡ old
none_replaced Nothing new old e same = same
none_replaced (Front count) new old e same = absurd (omega (arith, e))
none_replaced Apart new old e same = absurd (omega (arith, e))
none_replaced Erased new old e same = absurd (omega (arith, e))

pub all_kept : {T : Type 0} (r : Result T CodecError) (w : Written) (new old : List ℕ) → OnErr r (accepted w ≡ 0) → drop (replaced w) new ≡ drop (replaced w) old → OnErr r (new ≡ old)
all_kept (Ok x) w new old e same = tt
all_kept (Err error) w new old e same = none_replaced w new old e same

-- what a write left doesn't rest on what was stored
newly : (w : Written) (stored : Option (List ℕ)) (out apart : List ℕ) → accepted w ≡ 1 → value_written w stored out apart ≡ value_written w None out apart
newly Nothing stored out apart e = absurd (omega (arith, e))
newly (Front count) stored out apart e = refl
newly Apart stored out apart e = refl
newly Erased stored out apart e = refl

-- ---- the references

abbrev second_name : GName → List Lent → GName
second_name other [] = other
second_name other (lent ∷ more) = first_name other more

-- the same references have the same names
pub same_first : (a b c d : GName) → whole_reference a ∷ whole_reference b ∷ [] ≡ whole_reference c ∷ whole_reference d ∷ [] → a ≡ c
same_first a b c d e = ap (first_name a) e

pub same_second : (a b c d : GName) → whole_reference a ∷ whole_reference b ∷ [] ≡ whole_reference c ∷ whole_reference d ∷ [] → b ≡ d
same_second a b c d e = ap (second_name b) e

-- ---- what a failed write leaves

module _ (T : Type 0) (before : Option (List ℕ)) (e : CodecError) (state : StorageState) where
  none_accepted_if : IsRefusedWrite {T = T} (Err e) (fresh_state before) state → state.accepted_writes ≡ 0
  none_accepted_if (inl h) = ap (λ (s : StorageState). s.accepted_writes) h
  none_accepted_if (inr h) = ap (λ (s : StorageState). s.accepted_writes) h

  faults_are : IsRefusedWrite {T = T} (Err e) (fresh_state before) state → state.faults ≡ count_if (fault e) 0
  faults_are (inl h) = ap (λ (s : StorageState). s.faults) h
  faults_are (inr h) = ap (λ (s : StorageState). s.faults) h

-- where none is written, nothing has failed
no_faults : (w : Written) (faults : ℕ) → accepted w ≡ 0 → (is_written w || faults == 0) ≡ true → faults ≡ 0
no_faults Nothing faults e h = grind (arith, h)
no_faults (Front count) faults e h = absurd (omega (arith, e))
no_faults Apart faults e h = absurd (omega (arith, e))
no_faults Erased faults e h = absurd (omega (arith, e))

-- ---- a handle that wasn't written before

module _ (T : Type 0) {B : Type 0} {b : _} (old left : OneWriteHandle B b) (fresh : once_state old ≡ fresh_state (once_value old)) where
  was_refused : (e : CodecError) → IsRefusedWrite {T = T} (Err e) (once_state old) (once_state left) → IsRefusedWrite {T = T} (Err e) (fresh_state (once_value old)) (once_state left)
  was_refused e h = subst (λ (s : StorageState). IsRefusedWrite {T = T} (Err e) s (once_state left)) fresh h

  is_accepted : (x : T) → apart_from_value (once_state left) ≡ after_writing {T = T} (Ok x) (once_state old) → accepted (once_written left) ≡ 1
  is_accepted x h = ap (λ (s : StorageState). s.accepted_writes) (subst (λ (s : StorageState). apart_from_value (once_state left) ≡ after_writing {T = T} (Ok x) s) fresh h)

  -- a rejected write leaves the buffer as it was
  pub none_accepted : (r : Result T CodecError) → OnErr r (IsRefusedWrite r (once_state old) (once_state left)) → OnErr r (accepted (once_written left) ≡ 0)
  none_accepted (Ok x) h = tt
  none_accepted (Err e) h = none_accepted_if T (once_value old) e (once_state left) (was_refused e h)

  -- it isn't a failure of the handle
  quiet : (e : CodecError) → IsRefusedWrite {T = T} (Err e) (once_state old) (once_state left) → fault e ≡ false
  quiet e h =
      let none = no_faults (once_written left) left.faults (none_accepted_if T (once_value old) e (once_state left) (was_refused e h)) left.quiet in
      no_fault (fault e) (sym none ∙ faults_are T (once_value old) e (once_state left) (was_refused e h))

  -- what the write left is what is due
  pub once_due : (r : Result T CodecError) (due : Result (Option (List ℕ)) CodecError) → OnOk r (apart_from_value (once_state left) ≡ after_writing r (once_state old)) → OnErr r (IsRefusedWrite r (once_state old) (once_state left))
      → Answers memory_or_fault (λ _. once_value left) r due → Answers memory (λ _. newly_written left) r due
  once_due (Ok x) due one h is = is ∙ ap (λ (v : Option (List ℕ)). Ok v) (newly left.written _ left.out.now left.apart.now.items (is_accepted x one))
  once_due (Err e) due one h is = excused_less (memory e) (fault e) (due ≡ Err e) (quiet e h) is
