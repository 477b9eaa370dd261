-- Optional types round a type, one less.
use Rattle.std.proofs.Common.{◌≡◌, ◌<◌, ℕ, zero, suc, ◌-◌, List, refl, arith}
use Rattle.serde_json.specs.Data.{Data}
use Rattle.zarrs_fill_values.specs.FillValues.{fill_in, optional_fill}
use Rattle.zarrs_fill_values.specs.Shown.{shown_in, optional_shown}
use Rattle.zarrs_fill_values.specs.declared.element_name.PlainName.{PlainName}

pub fill_in_level : (levels : ℕ) (named : PlainName) (tree : Data) → 0 < levels → fill_in levels named tree ≡ optional_fill (fill_in (levels - 1) named) tree
fill_in_level zero named tree h = absurd (omega (arith, h))
fill_in_level (suc levels) named tree h = let e : suc levels - 1 ≡ levels = omega arith in rw e refl

pub shown_in_level : (levels : ℕ) (named : PlainName) (fill : List ℕ) → 0 < levels → shown_in levels named fill ≡ optional_shown (shown_in (levels - 1) named) fill
shown_in_level zero named fill h = absurd (omega (arith, h))
shown_in_level (suc levels) named fill h = let e : suc levels - 1 ≡ levels = omega arith in rw e refl
