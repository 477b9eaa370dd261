use Rattle.std.proofs.Common.{◌≡◌, ◌∙◌, ◌<◌, ◌^◌, nat_eq, Bool, List, ℕ, Ok, Result, length, arith, ap, refl, rules, subst, sym}
use Rattle.std.specs.Cmp.Lexicographic.{pointwise}
use Rattle.zarrs_array_bytes.specs.Elements.{elements}
use Rattle.zarrs_array_bytes.specs.Held.{Held, Raw, flen}
use Rattle.zarrs_array_bytes.specs.Parts.{fixed_part}
use Rattle.zarrs_array_bytes.specs.Validity.{Holds, validity}
use Rattle.zarrs_bytes.proofs.Coding.{ok}
use Rattle.zarrs_chunk.specs.Answer.{GivesValue, seen}
use Rattle.zarrs_chunk.specs.declared.codec_error.CodecError.{CodecError}
use Rattle.zarrs_chain_meaning.specs.CodecMeaning.{normal_form}
use Rattle.zarrs_chain_meaning.specs.vlen.VlenSteps.{lent_bytes}
use Rattle.zarrs_chain.specs.ChainView.{plain_codec}
use Rattle.zarrs_chain.specs.sharding.ShardingCalls.{KeepsAll, keeps_numbers}
use Rattle.zarrs_chain.proofs.ShardIndex.{kept_numbers, numbers_told, rows_valid}
use Rattle.zarrs_chain.proofs.sharding.shard_index.are_kept.Goals as goal

pub returns-then-keeps_all : goal.returns-then-keeps_all
returns-then-keeps_all g c =
    let same : KeepsAll (plain_codec c.args.codec.now) = search rules in
    record { answer = record { is = ap ok (kept_numbers (plain_codec c.args.codec.now) c.args.numbers.now same); no_fault = refl } }

pub normal_elements-requires : goal.normal_elements-requires
normal_elements-requires g c =
    let raw = lent_bytes c.in_ok-items.items.items in
    let made : c.new_flen-rows.result ≡ flen raw = c.new_flen-rows.ensures.made ∙ ap (λ (xs : List ℕ). flen (lent_bytes xs)) c.as_slice.ensures.value in
    let small : length raw.items < 2 ^ 64 = omega arith in
    record { valid = ap (validity c.uint64.result (length c.args.numbers.now)) made ∙ rows_valid c.args.numbers.now raw c.uint64.result c.uint64.ensures.made c.in_ok-items.ensures.value small }

pub returns : goal.returns
returns g c =
    let numbers = c.args.numbers.now in
    let codec = plain_codec c.args.codec.now in
    let type = c.uint64.result in
    let raw = lent_bytes c.in_ok-items.items.items in
    let made : c.new_flen-rows.result ≡ flen raw = c.new_flen-rows.ensures.made ∙ ap (λ (xs : List ℕ). flen (lent_bytes xs)) c.as_slice.ensures.value in
    let small : length raw.items < 2 ^ 64 = omega arith in
    let kept : Holds type c.in_ok-kept.kept (normal_form codec type (elements type (length numbers) (flen raw))) = subst (λ (x : Held). Holds type c.in_ok-kept.kept (normal_form codec type (elements type (length numbers) x))) made c.in_ok-kept.ensures.answer.is in
    let found : c.holds_items.result ≡ seen (λ (x : Raw). pointwise nat_eq x.items raw.items) (fixed_part c.in_ok-kept.kept) = c.holds_items.ensures.answer ∙ ap (λ (xs : List ℕ). seen (λ (x : Raw). pointwise nat_eq x.items xs) (fixed_part c.in_ok-kept.kept)) c.as_slice-2.ensures.value in
    let told : c.holds_items.result ≡ Ok (keeps_numbers c.args.codec.now numbers) = numbers_told codec numbers raw c.in_ok-kept.kept type c.holds_items.result c.uint64.ensures.made c.in_ok-items.ensures.value small kept found in
    record { answer = subst (λ (r : Result Bool CodecError). GivesValue r (Ok (keeps_numbers c.args.codec.now numbers))) (sym told) (record { is = refl; no_fault = refl }) }
