-- The errors of names of element types and of fill values.
use Rattle.std.specs.Prelude.{ℕ, Bool, true, false, List, Vec, Result, codes}
use Rattle.std.specs.declared.alloc.Global.{Global}
use Rattle.zarrs_chunk.specs.Answer.{Answers}
use Rattle.zarrs_fill_values.specs.declared.element_error.ElementError.{ElementError}
use Rattle.zarrs_fill_values.specs.declared.element_error.ElementError.TheVariants.{OutOfMemory, UnsupportedDataType, InvalidFillValue}

-- out of memory, which a call that allocates may return at any time
abbrev pub element_memory : ElementError → Bool
element_memory OutOfMemory = true
element_memory _ = false

-- The answer, seen by `view`, is the expected value, or the first error; only lack of memory may come in its place.
abbrev pub ElementAnswers : {T V : Type 0} → (T → V) → Result T ElementError → Result V ElementError → Type 0
ElementAnswers view result expected = Answers element_memory view result expected

-- the same of a vector, which is seen by its items
abbrev pub ElementBytes : {A : Type 0} → Result (Vec A Global) ElementError → Result (List A) ElementError → Type 0
ElementBytes result expected = ElementAnswers (λ v. v.items) result expected

-- the name of an error, as its bytes
abbrev pub element_error_name : ElementError → List ℕ
element_error_name OutOfMemory = codes "OutOfMemory"
element_error_name UnsupportedDataType = codes "UnsupportedDataType"
element_error_name InvalidFillValue = codes "InvalidFillValue"
