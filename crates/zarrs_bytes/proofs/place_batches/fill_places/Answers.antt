use Rattle.std.proofs.Common.{◌∙◌, ◌++◌, ap, length}
use Rattle.zarrs_array_bytes.specs.Filled.{copies}
use Rattle.zarrs_bytes.proofs.Reading.{copies_of_places}
use Rattle.zarrs_bytes.proofs.place_batches.fill_places.Goals as goal

pub returns : goal.returns
returns c =
    let fill = c.args.fill.now in
    let places = c.args.places.now in
    record {
      value =
          c.in_ok-append_copies.ensures.appended
          ∙ ap (λ xs. xs ++ copies fill (length places)) c.new-bytes.ensures.items
          ∙ copies_of_places fill places;
    }
