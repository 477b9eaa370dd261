-- How many reading calls a read in part makes.
use Rattle.std.specs.Prelude.{ℕ, suc, ◌+◌, Option, Some, None, List, [], ◌∷◌}
use Rattle.std.specs.Result.{result_unwrap_or}
use Rattle.zarrs_chain_meaning.specs.vlen.PlainForm.{PlainForm}
use Rattle.zarrs_plain_vlen.specs.VlenRead.{elements_at}

-- how many reading calls ask for ranges, or for the bytes with these numbers: one, and none where there are none
abbrev pub calls_for : {T : Type 0} → List T → ℕ
calls_for [] = 0
calls_for (first ∷ rest) = 1

-- how many reading calls a read of places makes of a stored value, behind the one for its size: one for the index's length, one for the index, and one for the bytes of all these elements, where they have any
abbrev pub calls_behind_size : PlainForm → ℕ → List ℕ → List ℕ → ℕ
calls_behind_size form count value places =
    2 + calls_for (result_unwrap_or (elements_at form count value places) [])

-- how many reading calls a read of places makes of what is stored: one for the size, and those behind it; the one alone, where nothing is stored
abbrev pub stored_vlen_calls : PlainForm → ℕ → Option (List ℕ) → List ℕ → ℕ
stored_vlen_calls form count None places = 1
stored_vlen_calls form count (Some value) places = suc (calls_behind_size form count value places)
