use Rattle.std.proofs.Common.{◌≡◌, ◌++◌, nat_lt, true, Ok, Some, sym, ap, ap₂, ◌∙◌, subst}
use Rattle.std.specs.List.{list_all}
use Rattle.zarrs_chunk.specs.Answer.{Answers, memory}
use Rattle.zarrs_data_type.specs.ElementType.{inner_of}
use Rattle.zarrs_array_bytes.specs.Held.{Held, flen, vlen, masked, raw_of}
use Rattle.zarrs_array_bytes.specs.ArrayBytes.{held_of, PartsAreSound}
use Rattle.zarrs_array_bytes.specs.Joined.{joined_cuts, IsJoined}
use Rattle.zarrs_array_bytes.specs.Offsets.{is_offsets}
use Rattle.zarrs_array_bytes.specs.Parts.{bytes_in, offsets_in, inner_in}
use Rattle.zarrs_array_bytes.specs.Pieces.{fixed_of, variable_of, masked_by}
use Rattle.zarrs_array_bytes.proofs.JoinedLemmas.{fixed_joined, variable_joined, masked_joined, joined_is}
use Rattle.zarrs_array_bytes.proofs.append.+join_levels.Goals as goal

pub returns-in-Fixed-clause-joined : goal.returns-in-Fixed-clause-joined
returns-in-Fixed-clause-joined t c =
    let old = raw_of c.in-Fixed.old in
    let type = c.args.data_type.now in
    let n = c.args.count in
    let m = c.args.more_count in
    let more = c.args.more.now in
    let seen : c.args.array ≡ flen old = sym c.array.view_is ∙ ap held_of c.in-Fixed.is in
    let due : Held = fixed_of (old.items ++ bytes_in more) in
    let joined : IsJoined type n m c.args.array more due = subst (λ (h : Held). IsJoined type n m h more due) (sym seen) (fixed_joined type n m old more (rw seen at c.requires.valid) c.requires.more_valid) in
    record {
      is = joined_is type n m c.args.array more due c.join_fixed.result
          (subst (λ (h : Held). Answers memory (λ (a : Held). a) c.join_fixed.result (Ok h)) (ap (λ b. fixed_of ((raw_of b).items ++ bytes_in more)) c.in-Fixed.old-is) c.join_fixed.ensures.exact.is) joined;
      no_fault = c.join_fixed.ensures.exact.no_fault;
    }

pub returns-in-Variable-clause-joined : goal.returns-in-Variable-clause-joined
returns-in-Variable-clause-joined t c =
    let old = raw_of c.in-Variable.old in
    let offsets = c.in-Variable.offsets in
    let type = c.args.data_type.now in
    let n = c.args.count in
    let m = c.args.more_count in
    let more = c.args.more.now in
    let seen : c.args.array ≡ vlen old offsets = sym c.array.view_is ∙ ap held_of c.in-Variable.is in
    let due : Held = variable_of (joined_cuts offsets old.items (offsets_in more) (bytes_in more)) in
    let rising : is_offsets offsets ≡ true = subst (λ os. is_offsets os ≡ true) c.in-Variable.offsets-is c.join_variable.ensures.rising in
    let joined : IsJoined type n m c.args.array more due =
    subst (λ (h : Held). IsJoined type n m h more due) (sym seen) (variable_joined type n m old offsets more (rw seen at c.requires.valid) c.requires.more_valid rising (subst PartsAreSound c.in-Variable.is c.array.invariant)) in
    record {
      is = joined_is type n m c.args.array more due c.join_variable.result
          (subst (λ (h : Held). Answers memory (λ (a : Held). a) c.join_variable.result (Ok h)) (ap₂ (λ b os. variable_of (joined_cuts os (raw_of b).items (offsets_in more) (bytes_in more))) c.in-Variable.old-is c.in-Variable.offsets-is) c.join_variable.ensures.exact.is) joined;
      no_fault = c.join_variable.ensures.exact.no_fault;
    }

pub returns-in_ok-inner-in-Optional-clause-joined : goal.returns-in_ok-inner-in-Optional-clause-joined
returns-in_ok-inner-in-Optional-clause-joined t c =
    let mask = raw_of c.in-Optional.mask in
    let old : Held = c.in-Optional.old.value in
    let type = c.args.data_type.now in
    let under = c.unwrap-inner_type.result.now in
    let n = c.args.count in
    let m = c.args.more_count in
    let more = c.args.more.now in
    let inner : Held = c.in_ok-inner-in-Optional.inner in
    let seen : c.args.array ≡ masked old mask = sym c.array.view_is ∙ ap held_of c.in-Optional.is in
    let due : Held = masked_by inner (mask.items ++ bytes_in more) in
    let inside : c.into_inner-old.result ≡ old = cc in
    let kind : inner_of type ≡ Some under = cc in
    let flags : list_all (λ byte. nat_lt byte 2) (bytes_in more) ≡ true = subst (λ xs. list_all (λ byte. nat_lt byte 2) xs ≡ true) c.optional_parts.ensures.bytes c.optional_parts.ensures.mask in
    let below : IsJoined under n m old (inner_in more) inner =
    subst (λ (g : Held). IsJoined under n m old g inner) c.optional_parts.ensures.inner (subst (λ (h : Held). IsJoined under n m h c.optional_parts.result.0.now inner) inside c.in_ok-inner-in-Optional.ensures.joined.is) in
    let joined : IsJoined type n m c.args.array more due =
    subst (λ (h : Held). IsJoined type n m h more due) (sym seen) (masked_joined type under n m old mask more inner (rw seen at c.requires.valid) c.requires.more_valid kind flags below) in
    record {
      is = joined_is type n m c.args.array more due c.join_mask.result
          (subst (λ (h : Held). Answers memory (λ (a : Held). a) c.join_mask.result (Ok h)) (ap₂ (λ b xs. masked_by inner ((raw_of b).items ++ xs)) c.in-Optional.mask-is c.optional_parts.ensures.bytes) c.join_mask.ensures.exact.is) joined;
      no_fault = c.join_mask.ensures.exact.no_fault;
    }
