use Rattle.std.proofs.Common.{◌≡◌, rules, None, Some}
use Rattle.zarrs_data_type.specs.ElementType.{fixed_size_of, inner_of}
use Rattle.zarrs_array_bytes.specs.Parts.{fixed_items}
use Rattle.zarrs_bytes.proofs.Coding.{ok}
use Rattle.zarrs_shard_bytes.proofs.FillTests.{fixed_at, front_other, front_tested, null_tested, variable_at, variable_else, optional_items, variable_items}
use Rattle.zarrs_shard_bytes.proofs.fill_elements.+are_fill.Goals as goal

pub returns-then-is_null : goal.returns-then-is_null
returns-then-is_null t c = record {
  answer = λ chunk holds.
      let inner : inner_of c.args.data_type.now ≡ Some c.in-Some.inner_type.now = search rules in
      let parts : ok (c.in_ok-inside.inside.now, c.in_ok-inside.mask.now) ≡ optional_items c.args.elements.now = search rules in
      null_tested c.args.data_type.now c.in-Some.inner_type.now c.args.fill.now c.args.elements.now c.in_ok-inside.inside.now c.in_ok-inside.mask.now chunk c.has_flag_alone.result (record { type_is = inner; parts = parts; flags_are = search rules; holds = holds }) (search rules) c.has_flag_alone.ensures.value;
}

pub returns-then-not-has_flag_alone : goal.returns-then-not-has_flag_alone
returns-then-not-has_flag_alone t c = record {
  answer = λ chunk holds.
      let inner : inner_of c.args.data_type.now ≡ Some c.in-Some.inner_type.now = search rules in
      let parts : ok (c.in_ok-inside.inside.now, c.in_ok-inside.mask.now) ≡ optional_items c.args.elements.now = search rules in
      front_other c.args.data_type.now c.in-Some.inner_type.now c.args.fill.now c.args.elements.now c.in_ok-inside.inside.now c.in_ok-inside.mask.now chunk (record { type_is = inner; parts = parts; flags_are = search rules; holds = holds }) (search rules) (search rules);
}

pub returns-in-Some : goal.returns-in-Some
returns-in-Some t c = record {
  answer = λ chunk holds.
      let inner : inner_of c.args.data_type.now ≡ Some c.in-Some.inner_type.now = search rules in
      let parts : ok (c.in_ok-inside.inside.now, c.in_ok-inside.mask.now) ≡ optional_items c.args.elements.now = search rules in
      front_tested c.args.data_type.now c.in-Some.inner_type.now c.args.fill.now c.args.elements.now c.in_ok-inside.inside.now c.in_ok-inside.mask.now chunk c.are_fill.result (record { type_is = inner; parts = parts; flags_are = search rules; holds = holds }) (search rules) (search rules)
      (rw c.front.ensures.value at c.are_fill.ensures.answer);
}

pub returns-in_ok-bytes-in-None : goal.returns-in_ok-bytes-in-None
returns-in_ok-bytes-in-None t c = record {
  answer = λ chunk holds.
      let parts : ok (c.in_ok-bytes-in-None.bytes.now, c.in_ok-bytes-in-None.offsets.now) ≡ variable_items c.args.elements.now = search rules in
      let other : inner_of c.args.data_type.now ≡ None = search rules in
      let sized : fixed_size_of c.args.data_type.now ≡ None = search rules in
      variable_at c.args.data_type.now c.args.fill.now c.args.elements.now c.in_ok-bytes-in-None.bytes.now c.in_ok-bytes-in-None.offsets.now chunk c.cuts_repeat.result (variable_else c.args.data_type.now other sized) parts (search rules) holds;
}

pub returns-in_ok-as_fixed-in-Some-fixed_size : goal.returns-in_ok-as_fixed-in-Some-fixed_size
returns-in_ok-as_fixed-in-Some-fixed_size t c = record {
  answer = λ chunk holds.
      let parts : ok c.in_ok-as_fixed-in-Some-fixed_size.field-0.now ≡ fixed_items c.args.elements.now = search rules in
      fixed_at c.args.data_type.now c.args.fill.now c.args.elements.now c.in_ok-as_fixed-in-Some-fixed_size.field-0.now chunk c.repeats.result c.requires.filling parts c.repeats.ensures.value holds;
}
