-- What calls over a chain that is kept are due.
use Rattle.std.specs.Prelude.{◌≡◌, ◌⊎◌, ℕ, Option, Some, ok_or, Result, Ok}
use Rattle.zarrs_json.specs.Header.{Header}
use Rattle.zarrs_kept_chains.specs.KeptChain.{kept_header}
use Rattle.zarrs_kept_chains.specs.declared.kept_chain.KeptChain.{KeptChain}
use Rattle.zarrs_c_calls.specs.Codes.{IsRefusal}
use Rattle.zarrs_c_calls.specs.declared.cause.Cause.{Cause}
use Rattle.zarrs_c_calls.specs.declared.cause.Cause.TheVariants.{Argument}

-- the header whose chain is kept, or the error that none is
abbrev pub kept_given : KeptChain → Result Header Cause
kept_given chain = ok_or (kept_header chain) Argument

-- The header that is due is kept, and the code is 0; or the call fails, and what was kept stays.
abbrev pub KeepsHeader : Result Header Cause → ℕ → (old new : Option Header) → Type 0
KeepsHeader expected code old new =
    ((header : Header) × (expected ≡ Ok header) × (new ≡ Some header) × (code ≡ 0))
    ⊎ (IsRefusal expected code × (new ≡ old))
