use Rattle.std.proofs.Common.{map, arith, refl}
use Rattle.zarrs_chunk.specs.Selection.{indices}
use Rattle.zarrs_array_to_array.specs.Mapping.{mapping_of}
use Rattle.zarrs_array_to_array.proofs.CodecLists.{rest_of, mappings_are}
use Rattle.zarrs_array_to_array.proofs.ListedPlaces.{list_started}
use Rattle.zarrs_array_to_array.proofs.array_to_array_codec.first_listed.Goals as goal

pub returns-in-len1-up : goal.returns-in-len1-up
returns-in-len1-up g c =
    let codecs = c.args.codecs.now in
    let first = c.first-item.result in
    let tuples = g.T.TupleList.tuples c.args.tuples.now in
    let is = mappings_are codecs first (omega arith) c.first-item.is in
    record { starts = list_started (map mapping_of codecs) (mapping_of first) (map mapping_of (rest_of codecs)) c.args.shape.now (indices tuples) tuples c.listed_places.result is refl c.listed_places.ensures.moved }
