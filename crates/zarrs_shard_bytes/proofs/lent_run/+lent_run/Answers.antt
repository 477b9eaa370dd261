use Rattle.std.proofs.Common.{rules, ◌≡◌, ◌+◌, ◌*◌, None, Some, refl}
use Rattle.std.specs.List.{between}
use Rattle.zarrs_array_bytes.specs.Parts.{fixed_items}
use Rattle.zarrs_data_type.specs.ElementType.{fixed_size_of, inner_of}
use Rattle.zarrs_bytes.proofs.Coding.{ok}
use Rattle.zarrs_shard_bytes.proofs.FillTests.{optional_items, variable_items}
use Rattle.zarrs_shard_bytes.proofs.LentRuns.{fixed_given, masked_given, variable_given, offsets_reach}
use Rattle.zarrs_shard_bytes.proofs.lent_run.+lent_run.Goals as goal

pub returns-in-Some : goal.returns-in-Some
returns-in-Some t c =
    let inner : inner_of c.args.data_type.now ≡ Some c.in-Some.inner_type.now = search rules in
    let parts : ok (c.in_ok-inside.inside.now, c.in_ok-inside.mask.now) ≡ optional_items c.args.elements.now = search rules in
    record { answer = masked_given c.args.data_type.now c.in-Some.inner_type.now c.args.first c.args.count c.args.elements.now c.in_ok-inside.inside.now c.in_ok-inside-2.inside c.in_ok-inside.mask.now (between c.args.first (c.args.first + c.args.count) c.in_ok-inside.mask.now) c.with_optional_mask.result inner parts c.requires.there c.in_ok-inside.ensures.mask refl c.in_ok-inside-2.ensures.answer.is c.with_optional_mask.ensures.answer }

pub returns-in_ok-bytes-in-Some-fixed_size : goal.returns-in_ok-bytes-in-Some-fixed_size
returns-in_ok-bytes-in-Some-fixed_size t c =
    let sized : fixed_size_of c.args.data_type.now ≡ Some c.in-Some-fixed_size.size = search rules in
    let items = c.in_ok-bytes-in-Some-fixed_size.bytes.now in
    let parts : ok items ≡ fixed_items c.args.elements.now = search rules in
    record { answer = fixed_given c.args.data_type.now c.in-Some-fixed_size.size c.args.first c.args.count c.args.elements.now c.new_flen.result items (between (c.args.first * c.in-Some-fixed_size.size) ((c.args.first + c.args.count) * c.in-Some-fixed_size.size) items) sized parts c.requires.there refl c.new_flen.ensures.made }

pub returns-in_ok-bytes-in-None : goal.returns-in_ok-bytes-in-None
returns-in_ok-bytes-in-None t c =
    let items = c.in_ok-bytes-in-None.bytes.now in
    let offsets = c.in_ok-bytes-in-None.offsets.now in
    let parts : ok (items, offsets) ≡ variable_items c.args.elements.now = search rules in
    let other : inner_of c.args.data_type.now ≡ None = search rules in
    let sized : fixed_size_of c.args.data_type.now ≡ None = search rules in
    record { answer = variable_given c.args.data_type.now c.args.first c.args.count c.args.elements.now items offsets c.lent_cuts.result other sized parts (search rules) (offsets_reach c.args.data_type.now (c.args.first + c.args.count) c.args.elements.now items offsets parts c.requires.there) (search rules) }
