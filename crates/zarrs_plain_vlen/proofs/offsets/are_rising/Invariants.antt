use Rattle.std.proofs.Common.{◌≡◌, ◌∷◌, drop}
use Rattle.zarrs_array_bytes.specs.Offsets.{is_offsets, rises}
use Rattle.zarrs_chain_meaning.specs.vlen.VlenSettings.{is_wide}
use Rattle.zarrs_chain_meaning.specs.vlen.VlenSteps.{read_offsets}
use Rattle.zarrs_plain_vlen.proofs.offsets.are_rising.Given as goal

abbrev pub invariant-loop-number : goal.invariant-loop-number
invariant-loop-number l = rises (l.last ∷ drop l.number (read_offsets (is_wide l.data_type) l.bytes)) ≡ is_offsets (read_offsets (is_wide l.data_type) l.bytes)
