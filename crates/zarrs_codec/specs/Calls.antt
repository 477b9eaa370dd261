-- What a handle that keeps a record of its calls has in it.
use Rattle.std.specs.Prelude.{◌≡◌, ℕ, zero, suc, true, Option, Some, None, IfSome, List, ◌++◌, Result, Ok, Err, OnOk}
use Rattle.zarrs_codec.specs.ByteSpan.{ByteSpan}
use Rattle.zarrs_codec.specs.StorageState.{count_if}

-- How many reading calls have succeeded, modulo 2^64; and the numbers of the bytes that accepted writing calls have replaced, in order.
pub record Calls : Type 0 where
  pub reads : ℕ
  pub replaced : List ℕ

-- how many reading calls a result counts for
abbrev pub ok_count : {E T : Type 0} → Result T E → ℕ
ok_count (Ok _) = 1
ok_count (Err _) = 0

-- a count modulo 2^64, so many more
abbrev pub count_more : ℕ → ℕ → ℕ
count_more zero count = count
count_more (suc n) count = count_more n (count_if true count)

-- the record, where there is one, after so many reading calls more that succeeded
abbrev pub after_reads : ℕ → Option Calls → Option Calls
after_reads n None = None
after_reads n (Some calls) = Some (record calls { reads = count_more n calls.reads })

-- the record, where there is one, after a writing call that replaced the bytes of these numbers
abbrev pub after_replacing : List ℕ → Option Calls → Option Calls
after_replacing numbers None = None
after_replacing numbers (Some calls) = Some (record calls { replaced = calls.replaced ++ numbers })

-- the numbers of replaced bytes with those of one more writing call, where it was accepted
abbrev pub replaced_with : {E T : Type 0} → Result T E → List ℕ → List ℕ → List ℕ
replaced_with (Ok _) numbers replaced = replaced ++ numbers
replaced_with (Err _) numbers replaced = replaced

-- the record, where there is one, after a writing call that answered this: accepted, it replaced the bytes of these numbers
abbrev pub after_write : {E T : Type 0} → Result T E → List ℕ → Option Calls → Option Calls
after_write result numbers None = None
after_write result numbers (Some calls) = Some (record calls { replaced = replaced_with result numbers calls.replaced })

-- a writing call that answered this left such a record (`calls` is what the record of a handle is)
abbrev pub CountsWrite : {C E T : Type 0} → (C → Option Calls) → C → C → List ℕ → Result T E → Type 0
CountsWrite calls before after numbers result = calls after ≡ after_write result numbers (calls before)

-- ---- which ranges of bytes were asked for, where that is kept

-- the ranges, where they are kept, and these behind them
abbrev pub after_asking : List ByteSpan → Option (List ByteSpan) → Option (List ByteSpan)
after_asking ranges None = None
after_asking ranges (Some asked) = Some (asked ++ ranges)

-- the ranges that were asked for with those of one more reading call, where it was accepted
abbrev pub asked_with : {E T : Type 0} → Result T E → List ByteSpan → List ByteSpan → List ByteSpan
asked_with (Ok _) ranges asked = asked ++ ranges
asked_with (Err _) ranges asked = asked

-- the ranges, where they are kept, after a reading call of these that answered this: an accepted one adds them, in order
abbrev pub after_ranges : {E T : Type 0} → Result T E → List ByteSpan → Option (List ByteSpan) → Option (List ByteSpan)
after_ranges result ranges None = None
after_ranges result ranges (Some asked) = Some (asked_with result ranges asked)

-- ---- what is stated of a coder's call: `calls` is the record of its handle

-- a call that answers has made so many reading calls, and none that writes
abbrev pub MakesReads : {C E T : Type 0} → (C → Option Calls) → ℕ → C → C → Result T E → Type 0
MakesReads calls n before after result = OnOk result (calls after ≡ after_reads n (calls before))

-- the count of what was found; none, where nothing was
abbrev pub count_of : {E P : Type 0} → (P → ℕ) → Result P E → Option ℕ
count_of count (Ok found) = Some (count found)
count_of count (Err _) = None

-- a call that answers has made so many reading calls, where it is known how many, and none that writes
abbrev pub MakesKnownReads : {C E T : Type 0} → (C → Option Calls) → Option ℕ → C → C → Result T E → Type 0
MakesKnownReads calls known before after result = IfSome known (λ n. MakesReads calls n before after result)

-- a call that answers has made so many reading calls, and one that replaced the bytes of these numbers
abbrev pub MakesWrite : {C E T : Type 0} → (C → Option Calls) → ℕ → List ℕ → C → C → Result T E → Type 0
MakesWrite calls n numbers before after result =
    OnOk result (calls after ≡ after_replacing numbers (after_reads n (calls before)))

-- a call that answers has asked for these ranges, in order, and for no others (`asked` states which ones its handle was asked for)
abbrev pub AsksRanges : {C E T : Type 0} → (C → Option (List ByteSpan)) → List ByteSpan → C → C → Result T E → Type 0
AsksRanges asked ranges before after result = OnOk result (asked after ≡ after_asking ranges (asked before))
