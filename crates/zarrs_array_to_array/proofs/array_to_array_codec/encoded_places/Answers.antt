use Rattle.std.proofs.Common.{map}
use Rattle.zarrs_chunk.specs.Indexer.{selection_of}
use Rattle.zarrs_array_to_array.specs.ArrayToArrayCodec.{transpose}
use Rattle.zarrs_array_to_array.specs.Mapping.{mapping_of}
use Rattle.zarrs_array_to_array.proofs.CodecLists.{rest_of, mappings_are}
use Rattle.zarrs_array_to_array.proofs.ListedPlaces.{mapped_some, starts_known, starts_at}
use Rattle.zarrs_array_to_array.proofs.array_to_array_codec.encoded_places.Goals as goal

pub moved_places-requires-clause-known : goal.moved_places-requires-clause-known
moved_places-requires-clause-known c =
    let codecs = c.args.codecs.now in
    let first = c.index-codecs-0.result in
    let s = rw c.in-Some.is at (c.in_ok-places.ensures {u = tt}).starts in
    let is = mappings_are codecs first (mapped_some mapping_of codecs (transpose s.order) s.rest s.first) c.index-codecs-0.is in
    starts_known (map mapping_of codecs) c.args.shape.now (selection_of c.args.indexer.now) c.in-Some.places.items s (mapping_of first) (map mapping_of (rest_of codecs)) c.in_ok-next.next is (c.in_ok-next.ensures {u = tt}).map

pub returns-in-Some-clause-answer : goal.returns-in-Some-clause-answer
returns-in-Some-clause-answer c =
    let codecs = c.args.codecs.now in
    let first = c.index-codecs-0.result in
    let s = rw c.in-Some.is at (c.in_ok-places.ensures {u = tt}).starts in
    let is = mappings_are codecs first (mapped_some mapping_of codecs (transpose s.order) s.rest s.first) c.index-codecs-0.is in
    let same = starts_at (map mapping_of codecs) c.args.shape.now (selection_of c.args.indexer.now) c.in-Some.places.items s (mapping_of first) (map mapping_of (rest_of codecs)) c.in_ok-next.next is (c.in_ok-next.ensures {u = tt}).map in
    rw same c.moved_places.ensures.answer
