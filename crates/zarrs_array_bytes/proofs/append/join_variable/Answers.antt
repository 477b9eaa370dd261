use Rattle.std.proofs.Common.{◌≡◌, ℕ, List, length, true, sym, subst}
use Rattle.zarrs_array_bytes.specs.Held.{raw_of}
use Rattle.zarrs_array_bytes.specs.Joined.{joined_cuts}
use Rattle.zarrs_array_bytes.specs.Offsets.{is_offsets, last_of}
use Rattle.zarrs_array_bytes.proofs.JoinedLemmas.{joined_rise, joined_end}
use Rattle.zarrs_array_bytes.proofs.append.join_variable.Goals as goal

pub of_cuts-requires-clause-rising : goal.of_cuts-requires-clause-rising
of_cuts-requires-clause-rising c =
    let os : List ℕ = c.into_numbers-offsets.result.items in
    let xs : List ℕ = (raw_of c.args.old).items in
    let us : List ℕ = c.variable_parts.result.1.now in
    let ys : List ℕ = c.variable_parts.result.0.now in
    let is : joined_cuts os xs us ys ≡ (c.in_ok-bytes.bytes.items, c.in_ok-bytes.offsets.items) = cc (c.in_ok-bytes.ensures.exact.is) in
    let rising : is_offsets os ≡ true = subst (λ ns. is_offsets ns ≡ true) (sym c.into_numbers-offsets.ensures.value) c.into_numbers-offsets.ensures.rising in
    let ending : last_of os ≡ length xs = subst (λ ns. last_of ns ≡ length xs) (sym c.into_numbers-offsets.ensures.value) c.requires.ending in
    subst (λ (p : List ℕ × List ℕ). is_offsets p.1 ≡ true) is (joined_rise os xs us ys rising ending)

pub of_cuts-requires-clause-ending : goal.of_cuts-requires-clause-ending
of_cuts-requires-clause-ending c =
    let os : List ℕ = c.into_numbers-offsets.result.items in
    let xs : List ℕ = (raw_of c.args.old).items in
    let us : List ℕ = c.variable_parts.result.1.now in
    let ys : List ℕ = c.variable_parts.result.0.now in
    let is : joined_cuts os xs us ys ≡ (c.in_ok-bytes.bytes.items, c.in_ok-bytes.offsets.items) = cc (c.in_ok-bytes.ensures.exact.is) in
    let rising : is_offsets os ≡ true = subst (λ ns. is_offsets ns ≡ true) (sym c.into_numbers-offsets.ensures.value) c.into_numbers-offsets.ensures.rising in
    let ending : last_of os ≡ length xs = subst (λ ns. last_of ns ≡ length xs) (sym c.into_numbers-offsets.ensures.value) c.requires.ending in
    subst (λ (p : List ℕ × List ℕ). last_of p.1 ≡ length p.0) is (joined_end os xs us ys rising ending)
