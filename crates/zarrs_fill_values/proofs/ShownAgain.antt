-- What is written of a fill value is read again.
use Rattle.std.proofs.Common.{◌≡◌, ◌∙◌, List, ℕ, Some, None, Option, ap}
use Rattle.std.specs.Prelude.{Result, Ok, Err, ok_or, IfOk}
use Rattle.serde_json.specs.Data.{Data}
use Rattle.serde_json.specs.View.{view}
use Rattle.serde_json.specs.declared.value.Value.{Value}
use Rattle.zarrs_fill_values.specs.ElementError.{ElementAnswers}
use Rattle.zarrs_fill_values.specs.FillValues.{fill_of}
use Rattle.zarrs_fill_values.specs.Shown.{shown}
use Rattle.zarrs_fill_values.specs.Words.{IsBytes}
use Rattle.zarrs_fill_values.specs.declared.element_error.ElementError.{ElementError}
use Rattle.zarrs_fill_values.specs.declared.element_error.ElementError.TheVariants.{InvalidFillValue}
use Rattle.zarrs_fill_values.specs.declared.element_name.ElementName.{ElementName}
use Rattle.zarrs_fill_values.proofs.FillLaws.{shown_is_read}

shown_is : (o : Option Data) (tree : Data) → ok_or o InvalidFillValue ≡ Ok tree → o ≡ Some tree
shown_is None tree h = absurd (cc)
shown_is (Some found) tree h = cc

-- the tree that is answered is read as the fill value
pub shown_again : (name : ElementName) (bytes fill : List ℕ) (result : Result Value ElementError) → bytes ≡ fill → IsBytes bytes → ElementAnswers view result (ok_or (shown name bytes) InvalidFillValue) → IfOk result (λ tree. fill_of name (view tree) ≡ Some fill)
shown_again name bytes fill (Ok tree) same h answer = shown_is_read name bytes (view tree) h (shown_is (shown name bytes) (view tree) answer) ∙ ap Some same
shown_again name bytes fill (Err error) same h answer = tt
