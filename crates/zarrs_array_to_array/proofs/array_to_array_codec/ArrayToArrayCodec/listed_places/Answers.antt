use Rattle.std.proofs.Common.{ap}
use Rattle.zarrs_array_to_array.specs.Mapping.{mapping_of}
use Rattle.zarrs_array_to_array.proofs.ListedPlaces.{codec_moved}
use Rattle.zarrs_array_to_array.proofs.array_to_array_codec.ArrayToArrayCodec.listed_places.Goals as goal

pub returns-in-Transpose : goal.returns-in-Transpose
returns-in-Transpose g c =
    record { moved = codec_moved (mapping_of c.args.self.now) c.in-Transpose.codec c.args.shape.now (g.T.TupleList.tuples c.args.tuples.now) c.listed_places.result (ap mapping_of c.in-Transpose.is) c.listed_places.ensures.moved }
