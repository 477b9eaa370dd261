-- How many calls a read or a write in part has made, call by call.
use Rattle.std.proofs.Common.{◌≡◌, ◌∙◌, ℕ, suc, ◌+◌, ◌-◌, ◌*◌, ◌<◌, ◌≤◌, ◌/◌, ◌&&◌, ◌||◌, min, nat_le, nat_lt, Bool, true, false, if◌then◌else◌, Option, Some, None, Result, Ok, Err, List, length, map, arith, refl, sym, ap, inl, inr}
use Rattle.std.specs.Prelude.{OnOk, is_some}
use Rattle.std.specs.List.{concat}
use Rattle.std.proofs.lemmas.Bool.{and_parts, cases_lt}
use Rattle.std.proofs.lemmas.Bool.Decides.{nat_tests}
use Rattle.zarrs_chunk.specs.Runs.{joined_runs}
use Rattle.zarrs_chunk.specs.declared.codec_error.CodecError.{CodecError}
use Rattle.zarrs_data_type.specs.Form.{Form}
use Rattle.zarrs_data_type.specs.declared.endianness.Endianness.{Endianness}
use Rattle.zarrs_array_bytes.specs.Elements.{piece}
use Rattle.zarrs_array_bytes.specs.Held.{Held}
use Rattle.zarrs_codec.specs.Calls.{Calls, after_reads, after_replacing, after_write, ok_count}
use Rattle.zarrs_codec.specs.StorageState.{value_indices}
use Rattle.zarrs_codec.proofs.CallLemmas.{after_reads-none, after_reads-more}
use Rattle.zarrs_bytes.specs.PartialRead.{bytes_at, place_bytes, place_size}
use Rattle.zarrs_bytes.proofs.BytesAt.{has_all, none_if}
use Rattle.zarrs_bytes.proofs.Coding.{ok}
use Rattle.zarrs_bytes.proofs.ConsecutiveRuns.{runs_within}
use Rattle.zarrs_bytes.specs.PartialWrite.{bytes_left, bytes_replaced}
use Rattle.zarrs_bytes.specs.ReadingCalls.{are_many_short, are_scattered, batch_count, calls_by_batches, calls_for_places, calls_for_runs, consecutive_runs, following_count, reading_calls}

-- a reading call is one, where it is accepted
pub one_read : {T : Type 0} (r : Result T CodecError) (before after : Option Calls) → after ≡ after_reads (ok_count r) before → OnOk r (after ≡ after_reads 1 before)
one_read (Ok x) before after is = is
one_read (Err e) before after is = tt

-- ---- batches

batch_more : (rest more : ℕ) → 0 < rest → more ≡ rest - min 1024 rest → suc (batch_count more) ≡ batch_count rest
batch_more rest more some is = omega (arith, is)

-- one batch more
pub batch_counted : (rest more : ℕ) (before after all : Option Calls) → after ≡ after_reads 1 before → 0 < rest → more ≡ rest - min 1024 rest → after_reads (batch_count rest) before ≡ all → after_reads (batch_count more) after ≡ all
batch_counted rest more before after all one some is counted =
    ap (after_reads (batch_count more)) one
    ∙ after_reads-more 1 (batch_count more) before
    ∙ ap (λ (n : ℕ). after_reads n before) (let same : 1 + batch_count more ≡ batch_count rest = omega (arith, batch_more rest more some is) in same)
    ∙ counted

-- and no batch left
pub batches_done : (rest : ℕ) (after all : Option Calls) → rest ≡ 0 → after_reads (batch_count rest) after ≡ all → after ≡ all
batches_done rest after all none counted =
    sym (after_reads-none after)
    ∙ ap (λ (n : ℕ). after_reads n after) (let same : 0 ≡ batch_count rest = omega (arith, none) in same)
    ∙ counted

-- ---- runs

abbrev first_of : Bool → ℕ → ℕ
first_of test n = if test then 1024 else n

first_then : (test : Bool) (n : ℕ) → (test ≡ true → 1024 < n) → 1 + batch_count (n - first_of test n) ≡ (if test then batch_count n else 1)
first_then true n many = let more = many refl in omega (arith, more)
first_then false n many = omega arith

many : (size : ℕ) (runs : List (ℕ × ℕ)) → are_many_short size runs ≡ true → 1024 < length runs
many size runs h =
    let both = and_parts (nat_lt 1024 (length runs)) (nat_lt (length (joined_runs runs) * size) (length runs * 16)) h in
    let first = both.0 in
    grind (arith, nat_tests, first)

abbrev pub no_bytes : Result (Option (List ℕ)) CodecError
no_bytes = Ok None

-- nothing is stored where a read answers nothing: the one call is all
pub none_counted : (size : ℕ) (stored : Option (List ℕ)) (places : List ℕ) (runs : List (ℕ × ℕ)) (before after : Option Calls) → bytes_at size stored places ≡ no_bytes → after ≡ after_reads 1 before → after ≡ after_reads (calls_for_runs size stored runs) before
none_counted size None places runs before after read one = one
none_counted size (Some value) places runs before after read one = none_if (has_all size value places) (concat (map (piece size value) places)) _ read

pub stored_where_found : (size : ℕ) (stored : Option (List ℕ)) (places bytes : List ℕ) → bytes_at size stored places ≡ ok (Some bytes) → is_some stored ≡ true
stored_where_found size None places bytes read = cc
stored_where_found size (Some value) places bytes read = refl

-- a first call, and the batches behind it
pub some_counted : (size : ℕ) (stored : Option (List ℕ)) (runs rest : List (ℕ × ℕ)) (before mid after : Option Calls) → is_some stored ≡ true → length rest ≡ length runs - (if are_many_short size runs then 1024 else length runs) → mid ≡ after_reads 1 before → after ≡ after_reads (batch_count (length rest)) mid → after ≡ after_reads (calls_for_runs size stored runs) before
some_counted size None runs rest before mid after there is one more = absurd cc
some_counted size (Some value) runs rest before mid after there is one more =
    let test = are_many_short size runs in
    let all : 1 + batch_count (length rest) ≡ reading_calls size runs
    = ap (λ (n : ℕ). 1 + batch_count n) is ∙ first_then test (length runs) (many size runs) in
    more
    ∙ ap (after_reads (batch_count (length rest))) one
    ∙ after_reads-more 1 (batch_count (length rest)) before
    ∙ ap (λ (n : ℕ). after_reads n before) all

-- ---- places

-- where nothing is stored, the first call is the only one
pub none_by_batches : (size : ℕ) (stored : Option (List ℕ)) (first places : List ℕ) (before after : Option Calls) → bytes_at size stored first ≡ no_bytes → after ≡ after_reads 1 before → after ≡ after_reads (calls_by_batches stored places) before
none_by_batches size None first places before after read one = one
none_by_batches size (Some value) first places before after read one = none_if (has_all size value first) (concat (map (piece size value) first)) _ read

pub some_by_batches : (stored : Option (List ℕ)) (places rest : List ℕ) (before mid after : Option Calls) → is_some stored ≡ true → length rest ≡ length places - 1024 → mid ≡ after_reads 1 before → after ≡ after_reads (batch_count (length rest)) mid → after ≡ after_reads (calls_by_batches stored places) before
some_by_batches None places rest before mid after there is one more = absurd cc
some_by_batches (Some value) places rest before mid after there is one more =
    let all : 1 + batch_count (length rest) ≡ suc (batch_count (length places - 1024)) = omega (arith, is) in
    more
    ∙ ap (after_reads (batch_count (length rest))) one
    ∙ after_reads-more 1 (batch_count (length rest)) before
    ∙ ap (λ (n : ℕ). after_reads n before) all

-- few places are not scattered
pub few_not_scattered : (places : List ℕ) → length places ≤ 1024 → are_scattered places ≡ false
few_not_scattered places few =
    let no : nat_lt 1024 (length places) ≡ false = grind (arith, nat_tests) in
    ap (λ (b : Bool). b && nat_lt (following_count places) (length places / 2)) no

-- and have few runs
pub few_not_short : (size : ℕ) (places : List ℕ) → length places ≤ 1024 → are_many_short size (consecutive_runs places) ≡ false
few_not_short size places few =
    let runs = consecutive_runs places in
    let within = runs_within places in
    let no : nat_lt 1024 (length runs) ≡ false = grind (arith, nat_tests) in
    ap (λ (b : Bool). b && nat_lt (length (joined_runs runs) * size) (length runs * 16)) no

-- nor are places of which a test of both says so
pub not_scattered : (places : List ℕ) → (nat_le (length places) 1024 || are_scattered places) ≡ false → are_scattered places ≡ false
not_scattered places test = elim (cases_lt 1024 (length places)) [
  | inl more ↦ (let no : nat_le (length places) 1024 ≡ false = grind (arith, nat_tests) in sym (ap (λ (b : Bool). b || are_scattered places) no) ∙ test)
  | inr few ↦ few_not_scattered places few
]

-- scattered places are read in batches
scattered_counted : (size : ℕ) (stored : Option (List ℕ)) (places : List ℕ) → are_scattered places ≡ true → calls_by_batches stored places ≡ calls_for_places size stored places
scattered_counted size None places test = refl
scattered_counted size (Some value) places test =
    let both = and_parts (nat_lt 1024 (length places)) _ test in
    let first = both.0 in
    let more : 1024 < length places = grind (arith, nat_tests, first) in
    let all : suc (batch_count (length places - 1024)) ≡ batch_count (length places) = omega (arith, more) in
    rw test all

-- so are few, in one
few_counted : (size : ℕ) (stored : Option (List ℕ)) (places : List ℕ) → length places ≤ 1024 → calls_by_batches stored places ≡ calls_for_places size stored places
few_counted size None places few = refl
few_counted size (Some value) places few =
    let whole = few_not_scattered places few in
    let long = few_not_short size places few in
    let one : suc (batch_count (length places - 1024)) ≡ 1 = omega (arith, few) in
    rw (whole, long) one

-- and all that are read by batches
pub batches_counted : (size : ℕ) (stored : Option (List ℕ)) (places : List ℕ) → (nat_le (length places) 1024 || are_scattered places) ≡ true → calls_by_batches stored places ≡ calls_for_places size stored places
batches_counted size stored places test = elim (cases_lt 1024 (length places)) [
  | inl more ↦ (let no : nat_le (length places) 1024 ≡ false = grind (arith, nat_tests) in scattered_counted size stored places (sym (ap (λ (b : Bool). b || are_scattered places) no) ∙ test))
  | inr few ↦ few_counted size stored places few
]

-- others are read as their runs
pub runs_counted : (size : ℕ) (stored : Option (List ℕ)) (places : List ℕ) (runs : List (ℕ × ℕ)) → are_scattered places ≡ false → runs ≡ consecutive_runs places → calls_for_runs size stored runs ≡ calls_for_places size stored places
runs_counted size None places runs test is = refl
runs_counted size (Some value) places runs test is = rw test (ap (reading_calls size) is)

-- ---- writing

-- an accepted writing call has replaced these bytes
pub write_counted : {T : Type 0} (r : Result T CodecError) (numbers : List ℕ) (before after : Option Calls) → after ≡ after_write r numbers before → OnOk r (after ≡ after_replacing numbers before)
write_counted (Ok x) numbers None after is = is
write_counted (Ok x) numbers (Some calls) after is = is
write_counted (Err e) numbers before after is = tt

-- behind one reading call: of a stored value
pub over_counted : {T : Type 0} (r : Result T CodecError) (order : Option Endianness) (form : Form) (stored : Option (List ℕ)) (size : ℕ) (places : List ℕ) (new : Held) (before mid after : Option Calls) → is_some stored ≡ true → size ≡ place_size form.type → mid ≡ after_reads 1 before → after ≡ after_write r (place_bytes size places) mid
    → OnOk r (after ≡ after_replacing (bytes_replaced order form stored places new) (after_reads 1 before))
over_counted (Ok x) order form None size places new before mid after there sized one is = absurd cc
over_counted {T} (Ok x) order form (Some value) size places new before mid after there sized one is =
    write_counted {T = T} (Ok x) (place_bytes size places) mid after is
    ∙ ap (λ (n : ℕ). after_replacing (place_bytes n places) mid) sized
    ∙ ap (after_replacing (place_bytes (place_size form.type) places)) one
over_counted (Err e) order form stored size places new before mid after there sized one is = tt

-- and where nothing is stored
pub new_counted : {T : Type 0} (r : Result T CodecError) (order : Option Endianness) (form : Form) (stored : Option (List ℕ)) (places : List ℕ) (new : Held) (value : List ℕ) (before mid after : Option Calls) → is_some stored ≡ false → value ≡ bytes_left order form None places new → mid ≡ after_reads 1 before → after ≡ after_write r (value_indices (Some value)) mid
    → OnOk r (after ≡ after_replacing (bytes_replaced order form stored places new) (after_reads 1 before))
new_counted (Ok x) order form (Some old) places new value before mid after none same one is = absurd cc
new_counted {T} (Ok x) order form None places new value before mid after none same one is =
    write_counted {T = T} (Ok x) (value_indices (Some value)) mid after is
    ∙ ap (λ (bytes : List ℕ). after_replacing (value_indices (Some bytes)) mid) same
    ∙ ap (after_replacing (value_indices (Some (bytes_left order form None places new)))) one
new_counted (Err e) order form stored places new value before mid after none same one is = tt
