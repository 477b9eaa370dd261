-- Records of calls, of some calls after others.
use Rattle.std.proofs.Common.{◌≡◌, ◌∙◌, ℕ, zero, suc, ◌+◌, true, Option, Some, None, Result, Ok, Err, List, [], ◌++◌, refl, ap, arith}
use Rattle.std.specs.Prelude.{IfOk, IfSome, OnOk}
use Rattle.std.proofs.lemmas.List.{append_assoc, append-nil}
use Rattle.zarrs_codec.specs.ByteSpan.{ByteSpan}
use Rattle.zarrs_codec.specs.Calls.{Calls, MakesKnownReads, MakesReads, after_asking, after_ranges, after_reads, count_more, count_of}
use Rattle.zarrs_codec.specs.StorageState.{count_if}

count_more-more : (n m count : ℕ) → count_more n (count_more m count) ≡ count_more (m + n) count
count_more-more n zero count = let same : n ≡ 0 + n = omega arith in ap (λ (k : ℕ). count_more k count) same
count_more-more n (suc m) count =
    let same : suc (m + n) ≡ suc m + n = omega arith in
    count_more-more n m (count_if true count) ∙ ap (λ (k : ℕ). count_more k count) same

-- no call leaves the record
pub after_reads-none : (calls : Option Calls) → after_reads 0 calls ≡ calls
after_reads-none None = refl
after_reads-none (Some calls) = refl

-- so many reading calls, and then so many more
pub after_reads-more : (m n : ℕ) (calls : Option Calls) → after_reads n (after_reads m calls) ≡ after_reads (m + n) calls
after_reads-more m n None = refl
after_reads-more m n (Some calls) = ap (λ (reads : ℕ). Some (record calls { reads = reads })) (count_more-more n m calls.reads)

-- no range leaves those that are kept
pub after_asking-none : (asked : Option (List ByteSpan)) → after_asking [] asked ≡ asked
after_asking-none None = refl
after_asking-none (Some asked) = ap Some (append-nil asked)

-- ranges, and then more of them
pub after_asking-more : (first more : List ByteSpan) (asked : Option (List ByteSpan)) → after_asking more (after_asking first asked) ≡ after_asking (first ++ more) asked
after_asking-more first more None = refl
after_asking-more first more (Some asked) = ap Some (append_assoc asked first more)

-- a reading call that is accepted has asked for its ranges
pub ranges_asked : {E T : Type 0} (r : Result T E) (ranges : List ByteSpan) (before after : Option (List ByteSpan)) → after ≡ after_ranges r ranges before → OnOk r (after ≡ after_asking ranges before)
ranges_asked (Ok x) ranges None after is = is
ranges_asked (Ok x) ranges (Some asked) after is = is
ranges_asked (Err e) ranges before after is = tt

-- reading calls that are counted by what was found are counted
pub found_calls : {C E T F P : Type 0} (calls : C → Option Calls) (count : P → ℕ) (found : Result P F) (before after : C) (result : Result T E) → IfOk found (λ it. MakesReads calls (count it) before after result) → MakesKnownReads calls (count_of count found) before after result
found_calls calls count (Ok it) before after result counted = counted
found_calls calls count (Err e) before after result counted = tt

-- nothing is stated of a call that fails
pub failed_calls : {C E : Type 0} (T : Type 0) (calls : C → Option Calls) (known : Option ℕ) (before after : C) (e : E) → MakesKnownReads {T = T} calls known before after (Err e)
failed_calls T calls None before after e = tt
failed_calls T calls (Some n) before after e = tt
