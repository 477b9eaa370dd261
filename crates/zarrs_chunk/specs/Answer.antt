-- What a call returns: a value, or the first error.
use Rattle.std.specs.Prelude.{◌≡◌, ℕ, ◌^◌, Bool, true, false, ◌||◌, nat_lt, Result, Ok, Err, IsOkAnd, OnOk, if◌then◌else◌, List, Vec, ◌++◌}
use Rattle.std.specs.declared.alloc.Global.{Global}
use Rattle.zarrs_chunk.specs.declared.codec_error.CodecError.{CodecError}
use Rattle.zarrs_chunk.specs.declared.codec_error.CodecError.TheVariants.{OutOfMemory, Storage, Overflow}

-- one step after another: the first error ends the chain. `do` blocks are chains of these.
infixl 10 ◌>>=◌
abbrev pub ◌>>=◌ : {E A B : Type 0} → Result A E → (A → Result B E) → Result B E
(Ok x) >>= f = f x
(Err e) >>= f = Err e

-- go on where the test passes, else this error
abbrev pub demand : {E : Type 0} → Bool → E → Result (Unit {0}) E
demand passed cause = if passed then Ok tt else Err cause

-- a check passes: no error is due
abbrev pub no_refusal : {E : Type 0} → Result (Unit {0}) E
no_refusal = Ok tt

-- a result with its value viewed by a function, and its error as it is
abbrev pub seen : {E X Y : Type 0} → (X → Y) → Result X E → Result Y E
seen view (Ok x) = Ok (view x)
seen view (Err e) = Err e

-- the number, where 64 bits hold it, else `Overflow`
abbrev pub checked_u64 : ℕ → Result ℕ CodecError
checked_u64 n = if nat_lt n (2 ^ 64) then Ok n else Err Overflow

-- ---- the errors that a call may return in place of its answer

-- none of them
abbrev pub never : {E : Type 0} → E → Bool
never _ = false

-- the error is a lack of memory, `OutOfMemory`
abbrev pub memory : CodecError → Bool
memory OutOfMemory = true
memory _ = false

-- the error is a failure of the handle, `Storage`
abbrev pub fault : CodecError → Bool
fault (Storage _) = true
fault _ = false

-- the error is a lack of memory or a failure of the handle
abbrev pub memory_or_fault : CodecError → Bool
memory_or_fault e = memory e || fault e

-- the call that returned this result met a failure of its handle
abbrev pub is_fault : {T : Type 0} → Result T CodecError → Bool
is_fault (Ok _) = false
is_fault (Err e) = fault e

-- ---- what a call returns

-- P, unless the error is excused
abbrev pub Excused : Bool → Type 0 → Type 0
Excused excused P = excused ≡ false → P

-- The answer, read by `view`, is the expected one: its value, or its first error. What `excuse` names may come at any time.
abbrev pub Answers : {E T V : Type 0} → (E → Bool) → (T → V) → Result T E → Result V E → Type 0
Answers excuse view (Ok x) expected = expected ≡ Ok (view x)
Answers excuse view (Err e) expected = Excused (excuse e) (expected ≡ Err e)

-- The same, where a relation alone is promised of the value: Ok just where one is expected.
abbrev pub AnswersBy : {E T V : Type 0} → (E → Bool) → (T → V → Type 0) → Result T E → Result V E → Type 0
AnswersBy excuse R (Ok x) expected = IsOkAnd expected (R x)
AnswersBy excuse R (Err e) expected = Excused (excuse e) (expected ≡ Err e)

-- What a call returns that allocates and asks no handle: the expected value, read by `view`, or its first error. `OutOfMemory` may come at any time, and `Storage` never comes.
pub record Gives {T V : Type 0} (view : T → V) (result : Result T CodecError) (expected : Result V CodecError) : Type 0 where
  pub is : Answers memory view result expected
  pub no_fault : is_fault result ≡ false

-- the same, where a relation alone is promised of the value
pub record GivesBy {T V : Type 0} (R : T → V → Type 0) (result : Result T CodecError) (expected : Result V CodecError) : Type 0 where
  pub is : AnswersBy memory R result expected
  pub no_fault : is_fault result ≡ false

-- the same of a vector, which is read by its items
abbrev pub GivesItems : {A : Type 0} → Result (Vec A Global) CodecError → Result (List A) CodecError → Type 0
GivesItems result expected = Gives (λ v. v.items) result expected

-- the items of the returned vector are the expected ones, or the first error is returned; what `excuse` names may come at any time
abbrev pub AnswersItems : {E A : Type 0} → (E → Bool) → Result (Vec A Global) E → Result (List A) E → Type 0
AnswersItems excuse result expected = Answers excuse (λ v. v.items) result expected

-- a call that returns Ok has put these items at the vector's end
abbrev pub Appends : {E A : Type 0} → Vec A Global → Vec A Global → Result (Unit {0}) E → List A → Type 0
Appends old new result items = OnOk result (new.items ≡ old.items ++ items)

-- the returned value itself is the expected one, or the first error is returned
abbrev pub GivesValue : {T : Type 0} → Result T CodecError → Result T CodecError → Type 0
GivesValue result expected = Gives (λ v. v) result expected

-- the same of a call whose excused errors are named
abbrev pub AnswersValue : {E T : Type 0} → (E → Bool) → Result T E → Result T E → Type 0
AnswersValue excuse result expected = Answers excuse (λ v. v) result expected
