use Rattle.std.proofs.Common.{◌≡◌, ◌<◌, [], arith, map, refl, subst}
use Rattle.std.proofs.lemmas.Result.{err_from_is_err_and}
use Rattle.std.specs.List.{All}
use Rattle.zarrs_chunk.specs.Answer.{seen}
use Rattle.zarrs_chunk.specs.ChunkShape.{product}
use Rattle.zarrs_array_bytes.specs.Held.{flen, owned_bytes}
use Rattle.zarrs_array_to_array.specs.Mapping.{mapping_of}
use Rattle.zarrs_array_to_array.proofs.CodecLists.{rest_of, mappings_are, no_mappings}
use Rattle.zarrs_chain_meaning.proofs.ArraySteps.{map_at, decode_copied, decode_refused_at, decode_shape_refused_at, decode_at, ok_or_not}
use Rattle.zarrs_chain_meaning.proofs.arrays_into.decode_arrays_into.Goals as goal

pub returns-in_err-next-in-len1-up-clause-moved : goal.returns-in_err-next-in-len1-up-clause-moved
returns-in_err-next-in-len1-up-clause-moved c =
    let first = c.first-item.result in
    let codecs = c.args.codecs.now in
    let is = mappings_are codecs first (omega arith) c.first-item.is in
    let rest = map mapping_of (rest_of codecs) in
    let type = c.args.data_type.now in
    let sizes = c.args.shape.now in
    let p = err_from_is_err_and c.from_residual.result c.from_residual.ensures.1 in
    record {
      raw = owned_bytes [];
      there = rw p.1 (tt, refl);
      answered = rw (p.1, p.2) (decode_shape_refused_at type (map mapping_of codecs) (mapping_of first) rest sizes c.args.chunk c.in_err-next-in-len1-up.field-0.0 is c.in_err-next-in-len1-up.ensures.answer.is);
    }

pub returns-in_err-chunk-in-len1-up-clause-moved : goal.returns-in_err-chunk-in-len1-up-clause-moved
returns-in_err-chunk-in-len1-up-clause-moved c =
    let first = c.first-item.result in
    let codecs = c.args.codecs.now in
    let is = mappings_are codecs first (omega arith) c.first-item.is in
    let rest = map mapping_of (rest_of codecs) in
    let type = c.args.data_type.now in
    let sizes = c.args.shape.now in
    let p = err_from_is_err_and c.from_residual-in_err-chunk-in-len1-up.result c.from_residual-in_err-chunk-in-len1-up.ensures.1 in
    record {
      raw = owned_bytes [];
      there = rw p.1 (tt, refl);
      answered = rw (p.1, p.2) (decode_refused_at type (map mapping_of codecs) (mapping_of first) rest sizes c.in_ok-next-in-len1-up.next c.args.chunk c.in_err-chunk-in-len1-up.field-0.0 is c.in_ok-next-in-len1-up.ensures.map c.in_err-chunk-in-len1-up.ensures.moved);
    }

pub returns-in-empty-clause-moved : goal.returns-in-empty-clause-moved
returns-in-empty-clause-moved c =
    let w = c.copy_elements.ensures.written in
    let sizes = c.args.shape.now in
    record {
      raw = w.raw;
      there = w.there;
      answered = decode_copied c.args.data_type.now (map mapping_of c.args.codecs.now) sizes c.args.chunk (seen (λ _. flen w.raw) c.copy_elements.result) (no_mappings c.args.codecs.now c.in-empty.len_below) (w.answered (product sizes) c.requires.len);
    }

pub returns-in_ok-chunk-in-len1-up-clause-moved : goal.returns-in_ok-chunk-in-len1-up-clause-moved
returns-in_ok-chunk-in-len1-up-clause-moved c =
    let first = c.first-item.result in
    let codecs = c.args.codecs.now in
    let is = mappings_are codecs first (omega arith) c.first-item.is in
    let rest = map mapping_of (rest_of codecs) in
    let type = c.args.data_type.now in
    let sizes = c.args.shape.now in
    let w = c.decode_into.ensures.moved in
    record {
      raw = w.raw;
      there = w.there;
      answered = decode_at type (map mapping_of codecs) (mapping_of first) rest sizes c.in_ok-next-in-len1-up.next c.args.chunk c.in_ok-chunk-in-len1-up.chunk (seen (λ _. flen w.raw) c.decode_into.result) is (subst (All (λ size. 0 < size)) c.as_slice.ensures.value c.as_slice.ensures.positive) c.in_ok-next-in-len1-up.ensures.map c.in_ok-chunk-in-len1-up.ensures.map c.in_ok-chunk-in-len1-up.ensures.moved w.answered;
    }

pub returns-in_ok-chunk-in-len1-up-clause-map : goal.returns-in_ok-chunk-in-len1-up-clause-map
returns-in_ok-chunk-in-len1-up-clause-map c =
    let first = c.first-item.result in
    let codecs = c.args.codecs.now in
    let is = mappings_are codecs first (omega arith) c.first-item.is in
    let rest = map mapping_of (rest_of codecs) in
    let type = c.args.data_type.now in
    let sizes = c.args.shape.now in
    ok_or_not c.decode_into.result (map_at type (map mapping_of codecs) (mapping_of first) rest sizes c.in_ok-next-in-len1-up.next is c.in_ok-next-in-len1-up.ensures.map c.in_ok-chunk-in-len1-up.ensures.map)
