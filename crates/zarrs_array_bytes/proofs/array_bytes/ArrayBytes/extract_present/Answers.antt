use Rattle.std.proofs.Common.{rules, ◌≡◌, length, Ok, sym, ◌∙◌, arith}
use Rattle.zarrs_array_bytes.specs.Present.{present_places}
use Rattle.zarrs_array_bytes.specs.Validity.{validity}
use Rattle.zarrs_array_bytes.proofs.PresentLemmas.{length_marked, count_is}
use Rattle.zarrs_array_bytes.proofs.MaskedBytes.{present_below}
use Rattle.zarrs_array_bytes.proofs.PresentAnswers.{whole_answers, present_answers}
use Rattle.zarrs_array_bytes.proofs.BlankLemmas.{chosen_blank}
use Rattle.zarrs_array_bytes.proofs.TightLemmas.{both_tight}
use Rattle.zarrs_array_bytes.proofs.array_bytes.ArrayBytes.extract_present.Goals as goal

pub returns-then-count-mask-clause-answer : goal.returns-then-count-mask-clause-answer
returns-then-count-mask-clause-answer c =
    let mask = c.args.mask.now in
    let valid : validity c.args.data_type.now (length mask) c.args.self ≡ Ok tt = sym (c.in_ok-validate.ensures {u = tt}).exact in
    let all : length (present_places mask) ≡ length mask = sym c.count_set-count.ensures.count ∙ c.if-count-mask.true in
    record { is = whole_answers c.args.data_type.now c.args.self mask valid all; no_fault = search rules }

pub returns-clause-tight : goal.returns-clause-tight
returns-clause-tight c =
    let type = c.args.data_type.now in
    let mask = c.args.mask.now in
    let valid : validity type (length mask) c.args.self ≡ Ok tt = sym (c.in_ok-validate.ensures {u = tt}).exact in
    λ t. both_tight type c.at_present.result c.at_present.ensures.flush
    (chosen_blank type (length mask) c.args.self (present_places mask) c.at_present.result valid (present_below mask) c.at_present.ensures.exact.is t.blank)

pub returns-clause-blank : goal.returns-clause-blank
returns-clause-blank c =
    let type = c.args.data_type.now in
    let mask = c.args.mask.now in
    let valid : validity type (length mask) c.args.self ≡ Ok tt = sym (c.in_ok-validate.ensures {u = tt}).exact in
    chosen_blank type (length mask) c.args.self (present_places mask) c.at_present.result valid (present_below mask) c.at_present.ensures.exact.is

pub returns-clause-answer : goal.returns-clause-answer
returns-clause-answer c =
    let type = c.args.data_type.now in
    let mask = c.args.mask.now in
    let valid : validity type (length mask) c.args.self ≡ Ok tt = sym (c.in_ok-validate.ensures {u = tt}).exact in
    record {
      is = present_answers type c.args.self mask c.at_present.result valid (present_below mask) c.at_present.ensures.small c.at_present.ensures.exact.is;
      no_fault = search rules;
    }

pub at_present-requires-clause-some : goal.at_present-requires-clause-some
at_present-requires-clause-some c = omega (arith, length_marked c.args.mask.now, count_is c.args.mask.now)
