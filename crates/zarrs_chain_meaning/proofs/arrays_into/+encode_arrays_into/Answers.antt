use Rattle.std.proofs.Common.{◌≡◌, ◌∷◌, [], arith, map, refl}
use Rattle.std.proofs.lemmas.Result.{err_from_is_err_and}
use Rattle.zarrs_chunk.specs.Answer.{seen}
use Rattle.zarrs_chunk.specs.ChunkShape.{product}
use Rattle.zarrs_array_bytes.specs.Held.{flen, owned_bytes}
use Rattle.zarrs_array_to_array.specs.Mapping.{mapping_of}
use Rattle.zarrs_array_to_array.proofs.CodecLists.{rest_of, mappings_are, no_mappings}
use Rattle.zarrs_array_to_array.proofs.CoordinateMaps.{same_places_map}
use Rattle.zarrs_chain_meaning.proofs.ArraySteps.{encode_alone, encode_at, encode_copied, encode_refused_at, encode_shape_refused_at, map_at, map_if_ok, ok_or_not, one_mapping, seen_ok_so}
use Rattle.zarrs_chain_meaning.proofs.arrays_into.+encode_arrays_into.Goals as goal

pub returns-in_err-encoded_shape-in-len1-clause-moved : goal.returns-in_err-encoded_shape-in-len1-clause-moved
returns-in_err-encoded_shape-in-len1-clause-moved t c =
    let last = c.last-item.result in
    let codecs = c.args.codecs.now in
    let is = one_mapping codecs last (omega (arith, c.in-len1.len_at_least, c.in-len1.len_below)) c.last-item.is in
    let type = c.args.data_type.now in
    let sizes = c.args.shape.now in
    let p = err_from_is_err_and c.from_residual.result c.from_residual.ensures.1 in
    record {
      raw = owned_bytes [];
      there = rw p.1 (tt, refl);
      answered = rw (p.1, p.2) (encode_shape_refused_at type (map mapping_of codecs) (mapping_of last) [] sizes c.args.chunk c.in_err-encoded_shape-in-len1.field-0.0 is c.in_err-encoded_shape-in-len1.ensures.answer.is);
    }

pub returns-in_ok-encoded_shape-in-len1-clause-moved : goal.returns-in_ok-encoded_shape-in-len1-clause-moved
returns-in_ok-encoded_shape-in-len1-clause-moved t c =
    let last = c.last-item.result in
    let codecs = c.args.codecs.now in
    let is = one_mapping codecs last (omega (arith, c.in-len1.len_at_least, c.in-len1.len_below)) c.last-item.is in
    let type = c.args.data_type.now in
    let sizes = c.args.shape.now in
    let w = c.encode_into.ensures.moved in
    record {
      raw = w.raw;
      there = w.there;
      answered = encode_alone type (map mapping_of codecs) (mapping_of last) sizes _ c.args.chunk (seen (λ _. flen w.raw) c.encode_into.result) is c.in_ok-encoded_shape-in-len1.ensures.map w.answered;
    }

pub returns-in_ok-encoded_shape-in-len1-clause-map : goal.returns-in_ok-encoded_shape-in-len1-clause-map
returns-in_ok-encoded_shape-in-len1-clause-map t c =
    let last = c.last-item.result in
    let codecs = c.args.codecs.now in
    let is = one_mapping codecs last (omega (arith, c.in-len1.len_at_least, c.in-len1.len_below)) c.last-item.is in
    let type = c.args.data_type.now in
    let sizes = c.args.shape.now in
    ok_or_not c.encode_into.result (map_at type (map mapping_of codecs) (mapping_of last) [] sizes _ is c.in_ok-encoded_shape-in-len1.ensures.map (same_places_map _ _ refl (λ p. p)))

pub returns-in_err-next-in-len1-up-clause-moved : goal.returns-in_err-next-in-len1-up-clause-moved
returns-in_err-next-in-len1-up-clause-moved t c =
    let first = c.first-item.result in
    let codecs = c.args.codecs.now in
    let is = mappings_are codecs first (omega arith) c.first-item.is in
    let rest = map mapping_of (rest_of codecs) in
    let type = c.args.data_type.now in
    let sizes = c.args.shape.now in
    let p = err_from_is_err_and c.from_residual-in_err-next-in-len1-up.result c.from_residual-in_err-next-in-len1-up.ensures.1 in
    record {
      raw = owned_bytes [];
      there = rw p.1 (tt, refl);
      answered = rw (p.1, p.2) (encode_shape_refused_at type (map mapping_of codecs) (mapping_of first) rest sizes c.args.chunk c.in_err-next-in-len1-up.field-0.0 is c.in_err-next-in-len1-up.ensures.answer.is);
    }

pub returns-in_err-chunk-in-len1-up-clause-moved : goal.returns-in_err-chunk-in-len1-up-clause-moved
returns-in_err-chunk-in-len1-up-clause-moved t c =
    let first = c.first-item.result in
    let codecs = c.args.codecs.now in
    let is = mappings_are codecs first (omega arith) c.first-item.is in
    let rest = map mapping_of (rest_of codecs) in
    let type = c.args.data_type.now in
    let sizes = c.args.shape.now in
    let p = err_from_is_err_and c.from_residual-in_err-chunk-in-len1-up.result c.from_residual-in_err-chunk-in-len1-up.ensures.1 in
    record {
      raw = owned_bytes [];
      there = rw p.1 (tt, refl);
      answered = rw (p.1, p.2) (encode_refused_at type (map mapping_of codecs) (mapping_of first) rest sizes c.args.chunk c.in_err-chunk-in-len1-up.field-0.0 is c.in_err-chunk-in-len1-up.ensures.moved);
    }

pub returns-in-empty-clause-moved : goal.returns-in-empty-clause-moved
returns-in-empty-clause-moved t c =
    let w = c.copy_elements.ensures.written in
    let sizes = c.args.shape.now in
    record {
      raw = w.raw;
      there = w.there;
      answered = encode_copied c.args.data_type.now (map mapping_of c.args.codecs.now) sizes c.args.chunk (seen (λ _. flen w.raw) c.copy_elements.result) (no_mappings c.args.codecs.now c.in-empty.len_below) (w.answered (product sizes) c.requires.len);
    }

pub returns-in_ok-chunk-in-len1-up-clause-moved : goal.returns-in_ok-chunk-in-len1-up-clause-moved
returns-in_ok-chunk-in-len1-up-clause-moved t c =
    let first = c.first-item.result in
    let codecs = c.args.codecs.now in
    let is = mappings_are codecs first (omega arith) c.first-item.is in
    let rest = map mapping_of (rest_of codecs) in
    let type = c.args.data_type.now in
    let sizes = c.args.shape.now in
    let w = c.encode_arrays_into.ensures.moved in
    let r = seen (λ _. flen w.raw) c.encode_arrays_into.result in
    record {
      raw = w.raw;
      there = w.there;
      answered = encode_at type (map mapping_of codecs) (mapping_of first) rest sizes c.in_ok-next-in-len1-up.next c.args.chunk c.in_ok-chunk-in-len1-up.chunk r is c.in_ok-next-in-len1-up.ensures.map c.in_ok-chunk-in-len1-up.ensures.moved (seen_ok_so _ (λ _. flen w.raw) c.encode_arrays_into.result c.encode_arrays_into.ensures.map) w.answered;
    }

pub returns-in_ok-chunk-in-len1-up-clause-map : goal.returns-in_ok-chunk-in-len1-up-clause-map
returns-in_ok-chunk-in-len1-up-clause-map t c =
    let first = c.first-item.result in
    let codecs = c.args.codecs.now in
    let is = mappings_are codecs first (omega arith) c.first-item.is in
    let rest = map mapping_of (rest_of codecs) in
    let type = c.args.data_type.now in
    let sizes = c.args.shape.now in
    map_if_ok type (map mapping_of codecs) (mapping_of first) rest sizes c.in_ok-next-in-len1-up.next c.encode_arrays_into.result is c.in_ok-next-in-len1-up.ensures.map c.encode_arrays_into.ensures.map
