-- A selection of a moved chunk has as many tuples as the one of the decoded chunk.
use Rattle.std.specs.Prelude.{◌≡◌, ℕ, List, length, Ok}
use Rattle.std.proofs.Common.{sym, ap, ◌∙◌}
use Rattle.zarrs_chunk.specs.Answer.{◌>>=◌}
use Rattle.zarrs_chunk.specs.Selection.{tuples_of, bounds_of, len_of}
use Rattle.zarrs_codec.specs.CountLaws.{passed}
use Rattle.zarrs_codec.specs.MappedLaws.{asked_behind}
use Rattle.zarrs_codec.specs.MappedSelection.{image_of, KeepsCount}
use Rattle.zarrs_array_to_array.specs.ArrayToArrayCodec.{ArrayMapping, array_meaning, coordinates}
use Rattle.zarrs_array_to_array.specs.EncodedSelection.{selection_in}

pub images_count : (codec : ArrayMapping) (sizes : List ℕ) → KeepsCount (image_of (coordinates codec sizes) (selection_in codec sizes) sizes)
images_count codec sizes selection image e =
    let bounds = passed (bounds_of selection sizes) (asked_behind (coordinates codec sizes) (selection_in codec sizes) selection) image e in
    let map = passed (coordinates codec sizes) (λ m. len_of selection >>= λ _. Ok (selection_in codec sizes m.encoded selection)) image bounds.second_is in
    let count = passed (len_of selection) (λ _. Ok (selection_in codec sizes map.given.encoded selection)) image map.second_is in
    let is : selection_in codec sizes map.given.encoded selection ≡ image = cc (count.second_is) in
    ap (λ i. length (tuples_of i)) (sym is) ∙ (array_meaning codec).asks_as_many sizes map.given.encoded selection bounds.first_is
