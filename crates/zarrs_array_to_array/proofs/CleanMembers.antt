-- No number that is written is a float: else it wouldn't be read.
use Rattle.std.proofs.Common.{◌≡◌, Bool, true, false, not, Result, Ok, Err, refl, ap, sym, ◌∙◌}
use Rattle.std.specs.Prelude.{is_ok}
use Rattle.std.proofs.lemmas.Bool.{false≢true}
use Rattle.zarrs_metadata.specs.declared.plugin_create_error.PluginCreateError.{PluginCreateError}
use Rattle.zarrs_metadata.specs.declared.plugin_create_error.PluginCreateError.TheVariants.{InvalidConfiguration}

-- what is read has no float, where a float is rejected
pub clean_members : {A : Type 0} (floats : Bool) (r : Result A PluginCreateError) (a : A) → (floats ≡ true → r ≡ Err InvalidConfiguration) → r ≡ Ok a → not floats ≡ true
clean_members true r a refused h = absurd (false≢true (ap is_ok (sym (refused refl) ∙ h)))
clean_members false r a refused h = refl
