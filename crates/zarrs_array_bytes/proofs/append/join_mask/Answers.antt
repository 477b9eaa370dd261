use Rattle.std.proofs.Common.{◌≡◌, ℕ, List, ◌++◌, nat_lt, true, subst}
use Rattle.std.specs.List.{list_all}
use Rattle.zarrs_array_bytes.specs.Held.{raw_of}
use Rattle.zarrs_array_bytes.proofs.JoinedLemmas.{flags_joined}
use Rattle.zarrs_array_bytes.proofs.append.join_mask.Goals as goal

pub of_masked-requires : goal.of_masked-requires
of_masked-requires c =
    let flags : List ℕ = (raw_of c.args.mask).items in
    let mask : flags ++ c.args.more_mask.now ≡ c.in_ok-mask.mask.items = cc (c.in_ok-mask.ensures.exact.is) in
    record { flags = subst (λ xs. list_all (λ b. nat_lt b 2) xs ≡ true) mask (flags_joined flags c.args.more_mask.now c.requires.flags c.requires.more_flags) }
