use Rattle.std.proofs.Common.{◌≡◌, ℕ, List, nat_lt, true, subst}
use Rattle.std.specs.List.{list_all}
use Rattle.zarrs_chunk.specs.Runs.{joined_runs}
use Rattle.zarrs_array_bytes.specs.Held.{raw_of}
use Rattle.zarrs_array_bytes.specs.Update.{update}
use Rattle.zarrs_array_bytes.proofs.UpdateCalls.{list_all-update}
use Rattle.zarrs_array_bytes.proofs.update.write_mask.Goals as goal

pub of_masked-requires : goal.of_masked-requires
of_masked-requires c =
    let flags : List ℕ = (raw_of c.args.mask).items in
    let places = joined_runs c.args.runs.now in
    let mask : update flags places c.args.new_mask.now ≡ c.in_ok-mask.mask.items = cc (c.in_ok-mask.ensures.exact.is) in
    record { flags = subst (λ xs. list_all (λ b. nat_lt b 2) xs ≡ true) mask (list_all-update (λ b. nat_lt b 2) flags places c.args.new_mask.now c.requires.old_flags c.requires.new_flags) }
