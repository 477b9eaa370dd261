use Rattle.std.proofs.Common.{rules, ◌≡◌, ◌<◌, Ok, length, subst, ap, sym, ◌∙◌}
use Rattle.std.specs.Prelude.{is_some}
use Rattle.std.specs.List.{All, flat_map}
use Rattle.zarrs_chunk.specs.Answer.{AnswersBy, memory}
use Rattle.zarrs_chunk.specs.Runs.{joined_runs}
use Rattle.zarrs_array_bytes.specs.Elements.{piece, elements, select}
use Rattle.zarrs_array_bytes.specs.Held.{flen, owned_bytes}
use Rattle.zarrs_array_bytes.specs.Validity.{Holds}
use Rattle.zarrs_array_bytes.proofs.TightLemmas.{sized_given_tight, gives_flush}
use Rattle.zarrs_codec.specs.CoordinateMap.{CoordinateMap, IsCoordinateMap, moved_chunk, origins}
use Rattle.zarrs_metadata.proofs.Orders.{order_parts}
use Rattle.zarrs_array_to_array.specs.Transpose.{transposition}
use Rattle.zarrs_array_to_array.proofs.CoordinateMaps.{length-origins}
use Rattle.zarrs_array_to_array.proofs.FixedChunks.{origins_below, fixed_holds, held_answers}
use Rattle.zarrs_array_to_array.proofs.Transposition.{transposition_map}
use Rattle.zarrs_array_to_array.proofs.transpose.transpose_codec.transpose_elements.Goals as goal

pub returns-clause-exact : goal.returns-clause-exact
returns-clause-exact c =
    let type = c.args.data_type.now in
    let held = c.args.bytes.now in
    let from = rw (c.requires.valid) at c.extract_runs.ensures.answer.is in
    let places = (c.in_ok-runs.ensures {u = tt}).places in
    record { is = subst (λ ps. AnswersBy memory (Holds type) c.extract_runs.result (Ok (select (elements type c.args.count held) ps))) (ap joined_runs c.as_slice.ensures.value ∙ places) from; no_fault = search rules }

pub returns-in-Some-Ok-clause-exact : goal.returns-in-Some-Ok-clause-exact
returns-in-Some-Ok-clause-exact c =
    let type = c.args.data_type.now in
    let held = c.args.bytes.now in
    let order = c.args.order.now in
    let sizes = c.args.sizes.now in
    let items = c.in-Some-Ok.elements.now in
    let size = c.in-Some-Ok.size in
    let m : CoordinateMap = transposition order sizes in
    let map : IsCoordinateMap sizes m = transposition_map order sizes (order_parts order c.requires.order) c.requires.axes in
    let count : length (origins m) ≡ c.args.count = length-origins m ∙ map.count ∙ c.requires.count in
    let inside : All (λ place. place < c.args.count) (origins m) = rw c.requires.count at (origins_below sizes m map) in
    let holds = fixed_holds type c.args.count held (origins m) size items c.requires.valid (sym c.in-Some-Ok.ensures.value) c.in-Some-Ok.ensures'.answer count inside in
    record { is = held_answers type (flen (owned_bytes (flat_map (piece size items) (origins m)))) (moved_chunk m (elements type c.args.count held)) c.transpose_fixed.result holds c.transpose_fixed.ensures.exact.is; no_fault = search rules }

pub returns-in-Some-Ok-clause-tight : goal.returns-in-Some-Ok-clause-tight
returns-in-Some-Ok-clause-tight c =
    let type = c.args.data_type.now in
    λ _. sized_given_tight type c.transpose_fixed.result _ (ap is_some (sym c.in-Some-Ok.ensures.value)) (returns-in-Some-Ok-clause-exact c).is

pub returns-in-Some-Ok-clause-flush : goal.returns-in-Some-Ok-clause-flush
returns-in-Some-Ok-clause-flush c =
    let type = c.args.data_type.now in
    gives_flush type c.transpose_fixed.result (sized_given_tight type c.transpose_fixed.result _ (ap is_some (sym c.in-Some-Ok.ensures.value)) (returns-in-Some-Ok-clause-exact c).is)
