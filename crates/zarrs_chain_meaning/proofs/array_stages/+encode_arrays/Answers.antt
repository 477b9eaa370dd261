use Rattle.std.proofs.Common.{arith, map}
use Rattle.std.proofs.lemmas.Result.{err_from_is_err_and}
use Rattle.zarrs_array_to_array.specs.Mapping.{mapping_of}
use Rattle.zarrs_array_to_array.proofs.CodecLists.{rest_of, mappings_are, no_mappings}
use Rattle.zarrs_chain_meaning.proofs.ArraySteps.{map_if_ok, encode_none_at, encode_refused_at, encode_shape_refused_at, encode_at}
use Rattle.zarrs_chain_meaning.proofs.array_stages.+encode_arrays.Goals as goal

pub returns-in_err-next-in-len1-up-clause-moved : goal.returns-in_err-next-in-len1-up-clause-moved
returns-in_err-next-in-len1-up-clause-moved t c =
    let first = c.first-item.result in
    let codecs = c.args.codecs.now in
    let is = mappings_are codecs first (omega arith) c.first-item.is in
    let p = err_from_is_err_and c.from_residual.result c.from_residual.ensures.1 in
    rw (p.1, p.2) (encode_shape_refused_at c.args.data_type.now (map mapping_of codecs) (mapping_of first) (map mapping_of (rest_of codecs)) c.args.shape.now c.args.chunk c.in_err-next-in-len1-up.field-0.0 is c.in_err-next-in-len1-up.ensures.answer.is)

pub returns-in_err-chunk-in-len1-up-clause-moved : goal.returns-in_err-chunk-in-len1-up-clause-moved
returns-in_err-chunk-in-len1-up-clause-moved t c =
    let first = c.first-item.result in
    let codecs = c.args.codecs.now in
    let is = mappings_are codecs first (omega arith) c.first-item.is in
    let rest = map mapping_of (rest_of codecs) in
    let type = c.args.data_type.now in
    let sizes = c.args.shape.now in
    let p = err_from_is_err_and c.from_residual-in_err-chunk-in-len1-up.result c.from_residual-in_err-chunk-in-len1-up.ensures.1 in
    rw (p.1, p.2) (encode_refused_at type (map mapping_of codecs) (mapping_of first) rest sizes c.args.chunk c.in_err-chunk-in-len1-up.field-0.0 is c.in_err-chunk-in-len1-up.ensures.moved)

pub returns-in-empty-clause-moved : goal.returns-in-empty-clause-moved
returns-in-empty-clause-moved t c =
    encode_none_at c.args.data_type.now (map mapping_of c.args.codecs.now) c.args.shape.now c.args.chunk (no_mappings c.args.codecs.now c.in-empty.len_below)

pub returns-in_ok-chunk-in-len1-up-clause-moved : goal.returns-in_ok-chunk-in-len1-up-clause-moved
returns-in_ok-chunk-in-len1-up-clause-moved t c =
    let first = c.first-item.result in
    let codecs = c.args.codecs.now in
    let is = mappings_are codecs first (omega arith) c.first-item.is in
    let rest = map mapping_of (rest_of codecs) in
    let type = c.args.data_type.now in
    let sizes = c.args.shape.now in
    encode_at type (map mapping_of codecs) (mapping_of first) rest sizes c.in_ok-next-in-len1-up.next c.args.chunk c.in_ok-chunk-in-len1-up.chunk c.encode_arrays.result is c.in_ok-next-in-len1-up.ensures.map c.in_ok-chunk-in-len1-up.ensures.moved c.encode_arrays.ensures.map c.encode_arrays.ensures.moved

pub returns-in_ok-chunk-in-len1-up-clause-map : goal.returns-in_ok-chunk-in-len1-up-clause-map
returns-in_ok-chunk-in-len1-up-clause-map t c =
    let first = c.first-item.result in
    let codecs = c.args.codecs.now in
    let is = mappings_are codecs first (omega arith) c.first-item.is in
    let rest = map mapping_of (rest_of codecs) in
    let type = c.args.data_type.now in
    let sizes = c.args.shape.now in
    map_if_ok type (map mapping_of codecs) (mapping_of first) rest sizes c.in_ok-next-in-len1-up.next c.encode_arrays.result is c.in_ok-next-in-len1-up.ensures.map c.encode_arrays.ensures.map
