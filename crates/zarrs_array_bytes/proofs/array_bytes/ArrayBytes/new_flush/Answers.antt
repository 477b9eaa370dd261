use Rattle.std.proofs.Common.{◌≡◌, ◌≤◌, ℕ, List, true, length, slice_index, sym, subst, arith, rules}
use Rattle.zarrs_array_bytes.specs.Held.{vlen, raw_of}
use Rattle.zarrs_array_bytes.specs.Offsets.{is_offsets, last_of}
use Rattle.zarrs_array_bytes.specs.Tight.{without_front}
use Rattle.zarrs_array_bytes.proofs.FlushLemmas.{HoldsSame, some, front_same}
use Rattle.zarrs_array_bytes.proofs.OffsetLemmas.{rising_last}
use Rattle.zarrs_array_bytes.proofs.array_bytes.ArrayBytes.new_flush.Goals as goal

pub behind-bytes-requires : goal.behind-bytes-requires
behind-bytes-requires c =
    let offsets : List ℕ = c.args.offsets in
    let rising : is_offsets offsets ≡ true = c.as_slice-ends.ensures.rising in
    let first : slice_index offsets 0 ≤ last_of offsets = rising_last offsets rising 0 (some offsets rising) in
    let last : last_of offsets ≡ length (raw_of c.args.bytes).items = search rules in
    let inside : slice_index offsets 0 ≤ length (raw_of c.args.bytes).items = omega (arith, first, last) in
    record { inside = subst (λ (os : List ℕ). slice_index os 0 ≤ length (raw_of c.args.bytes).items) (sym c.as_slice-ends.ensures.value) inside }

pub returns-clause-same : goal.returns-clause-same
returns-clause-same c =
    let is : vlen (raw_of c.behind-bytes.result) c.from_first.result ≡ without_front (raw_of c.args.bytes) c.args.offsets = search rules in
    subst (HoldsSame (vlen (raw_of c.args.bytes) c.args.offsets)) (sym is) (front_same (raw_of c.args.bytes) c.args.offsets c.as_slice-ends.ensures.rising)
