use Rattle.std.proofs.Common.{rules, ◌≡◌, Ok, map, sym, ap, ◌∙◌}
use Rattle.zarrs_chunk.specs.ChunkShape.{product}
use Rattle.zarrs_chunk.specs.Indexer.{selection_of}
use Rattle.zarrs_chunk.specs.Selection.{indices}
use Rattle.zarrs_array_to_array.specs.ArrayToArrayCodec.{reshape, coordinates}
use Rattle.zarrs_chunk.specs.Indices.{tuple_of_number}
use Rattle.zarrs_array_to_array.proofs.Indexers.{map_count, reshaped_asked, reshaped_image_by}
use Rattle.zarrs_array_to_array.proofs.reshape.reshape_codec.ReshapeCodecArrayToArrayCodecTraits.encoded_indexer.Goals as goal

pub tuples_at-requires : goal.tuples_at-requires
tuples_at-requires c =
    let same : product c.in_ok-encoded.encoded ≡ product c.args.decoded_shape.now = map_count (coordinates (reshape c.args.self.now) c.args.decoded_shape.now) c.args.decoded_shape.now c.in_ok-encoded.encoded (c.in_ok-encoded.ensures {u = tt}).map in
    record { known = rw (c.as_slice.ensures.value, same) (c.in_ok-places.ensures {u = tt}).below }

pub returns-clause-answer : goal.returns-clause-answer
returns-clause-answer c =
    let encoded = c.in_ok-encoded.encoded in
    let inside = sym ((c.in_ok-check.ensures {u = tt}).answer) in
    let made : map (tuple_of_number encoded) c.in_ok-places.places.items ≡ map (λ tuple. tuple.items) c.in_ok-tuples.tuples.items = ap (map (tuple_of_number encoded)) (sym c.as_slice.ensures.value) ∙ (cc ((c.in_ok-tuples.ensures {u = tt}).answer.is)) in
    record {
      is = reshaped_asked c.args.self.now c.args.decoded_shape.now encoded c.in_ok-places.places.items (selection_of c.args.indexer.now) inside (c.in_ok-encoded.ensures {u = tt}).answer.is (c.in_ok-places.ensures {u = tt}).places.is c.in_ok-len.field-0 (sym ((c.in_ok-len.ensures {u = tt}).answer))
          ∙ ap (λ ts. Ok (indices ts)) made;
      no_fault = search rules;
    }

pub returns-clause-places : goal.returns-clause-places
returns-clause-places c =
    let encoded = c.in_ok-encoded.encoded in
    let inside = sym ((c.in_ok-check.ensures {u = tt}).answer) in
    let same : product encoded ≡ product c.args.decoded_shape.now = map_count (coordinates (reshape c.args.self.now) c.args.decoded_shape.now) c.args.decoded_shape.now encoded (c.in_ok-encoded.ensures {u = tt}).map in
    let made : map (tuple_of_number encoded) c.in_ok-places.places.items ≡ map (λ tuple. tuple.items) c.in_ok-tuples.tuples.items = ap (map (tuple_of_number encoded)) (sym c.as_slice.ensures.value) ∙ (cc ((c.in_ok-tuples.ensures {u = tt}).answer.is)) in
    rw (← made) (reshaped_image_by c.args.self.now c.args.decoded_shape.now encoded c.in_ok-places.places.items (selection_of c.args.indexer.now) inside (c.in_ok-encoded.ensures {u = tt}).answer.is (c.in_ok-places.ensures {u = tt}).places.is same)
