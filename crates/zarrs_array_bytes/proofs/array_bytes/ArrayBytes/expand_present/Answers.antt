use Rattle.std.proofs.Common.{rules, ◌≡◌, List, ℕ, Ok, subst, ◌∙◌}
use Rattle.zarrs_data_type.specs.ElementType.{optional}
use Rattle.zarrs_array_bytes.specs.Held.{raw_of}
use Rattle.zarrs_array_bytes.specs.Present.{expansion_of}
use Rattle.zarrs_array_bytes.proofs.ValidLemmas.{raw_items}
use Rattle.zarrs_array_bytes.proofs.PresentAnswers.{expanded_answers, expanded_flags}
use Rattle.zarrs_array_bytes.proofs.BlankLemmas.{expanded_over, expanded_blank}
use Rattle.zarrs_array_bytes.proofs.TightLemmas.{both_tight, under_flush}
use Rattle.zarrs_array_bytes.proofs.array_bytes.ArrayBytes.expand_present.Goals as goal

pub under_mask-requires : goal.under_mask-requires
under_mask-requires c =
    let type = c.args.data_type.now in
    let bytes : c.as_slice.result.now ≡ (raw_of c.args.mask).items = c.as_slice.ensures.value ∙ raw_items c.args.mask in
    let is : expansion_of type c.args.self c.as_slice.result.now ≡ Ok c.in_ok-inner.inner = cc (c.in_ok-inner.ensures.exact.is) in
    record {
      flags = expanded_flags type c.args.self c.in_ok-inner.inner (raw_of c.args.mask)
          (subst (λ (xs : List ℕ). expansion_of type c.args.self xs ≡ Ok c.in_ok-inner.inner) bytes is);
    }

pub returns-clause-answer : goal.returns-clause-answer
returns-clause-answer c =
    let type = c.args.data_type.now in
    let bytes : c.as_slice.result.now ≡ (raw_of c.args.mask).items = c.as_slice.ensures.value ∙ raw_items c.args.mask in
    let is : expansion_of type c.args.self c.as_slice.result.now ≡ Ok c.in_ok-inner.inner = cc (c.in_ok-inner.ensures.exact.is) in
    record {
      is = expanded_answers type c.args.self c.in_ok-inner.inner (raw_of c.args.mask) c.under_mask.result
          (subst (λ (xs : List ℕ). expansion_of type c.args.self xs ≡ Ok c.in_ok-inner.inner) bytes is) c.under_mask.ensures.answer;
      no_fault = search rules;
    }

pub returns-clause-absent : goal.returns-clause-absent
returns-clause-absent c =
    let type = c.args.data_type.now in
    let bytes : c.as_slice.result.now ≡ (raw_of c.args.mask).items = c.as_slice.ensures.value ∙ raw_items c.args.mask in
    let is : expansion_of type c.args.self c.as_slice.result.now ≡ Ok c.in_ok-inner.inner = cc (c.in_ok-inner.ensures.exact.is) in
    expanded_over type c.args.self c.in_ok-inner.inner (raw_of c.args.mask) c.under_mask.result
    (subst (λ (xs : List ℕ). expansion_of type c.args.self xs ≡ Ok c.in_ok-inner.inner) bytes is) c.under_mask.ensures.answer

pub returns-clause-blank : goal.returns-clause-blank
returns-clause-blank c =
    let type = c.args.data_type.now in
    let bytes : c.as_slice.result.now ≡ (raw_of c.args.mask).items = c.as_slice.ensures.value ∙ raw_items c.args.mask in
    let is : expansion_of type c.args.self c.as_slice.result.now ≡ Ok c.in_ok-inner.inner = cc (c.in_ok-inner.ensures.exact.is) in
    expanded_blank type c.args.self c.in_ok-inner.inner (raw_of c.args.mask) c.under_mask.result
    (subst (λ (xs : List ℕ). expansion_of type c.args.self xs ≡ Ok c.in_ok-inner.inner) bytes is) c.under_mask.ensures.answer

pub returns-clause-tight : goal.returns-clause-tight
returns-clause-tight c =
    let type = c.args.data_type.now in
    let bytes : c.as_slice.result.now ≡ (raw_of c.args.mask).items = c.as_slice.ensures.value ∙ raw_items c.args.mask in
    let is : expansion_of type c.args.self c.as_slice.result.now ≡ Ok c.in_ok-inner.inner = cc (c.in_ok-inner.ensures.exact.is) in
    λ t. both_tight (optional type) c.under_mask.result (under_flush c.args.self c.in_ok-inner.inner c.under_mask.result c.in_ok-inner.ensures.flush c.under_mask.ensures.flush t.flush)
    (expanded_blank type c.args.self c.in_ok-inner.inner (raw_of c.args.mask) c.under_mask.result
    (subst (λ (xs : List ℕ). expansion_of type c.args.self xs ≡ Ok c.in_ok-inner.inner) bytes is) c.under_mask.ensures.answer t.blank)
