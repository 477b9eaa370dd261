use Rattle.zarrs_data_type.specs.Form.{form_of}
use Rattle.std.proofs.Common.{◌≡◌, Ok}
use Rattle.zarrs_chunk.specs.Indexer.{selection_of}
use Rattle.zarrs_chunk.specs.Runs.{joined_runs, AreApart, AreFilled}
use Rattle.zarrs_chunk.specs.Selection.{places_of}
use Rattle.zarrs_packbits.specs.PackBitsSettings.{packed_layout}
use Rattle.zarrs_packbits.proofs.PartReads.{planned_places}
use Rattle.zarrs_packbits.proofs.packbits_partial_decoder.PackBitsPartialDecoder.planned_ranges.Goals as goal

pub returns-clause-plan : goal.returns-clause-plan
returns-clause-plan g c =
    let form = c.args.self.now in
    let runs = c.as_slice.result.now in
    let filled : AreFilled runs = rw c.as_slice.ensures.value c.in_ok-asked.ensures.filled in
    let apart : AreApart runs = rw c.as_slice.ensures.value c.in_ok-asked.ensures.apart in
    let places : places_of (selection_of c.args.indexer.now) form.shape ≡ Ok (joined_runs runs) = rw c.as_slice.ensures.value c.in_ok-asked.ensures.places.is in
    planned_places (places_of (selection_of c.args.indexer.now) form.shape) (packed_layout form.codec (form_of form.shape form.data_type form.fill_value)) runs c.planned_runs.result places filled apart c.planned_runs.ensures.plan
