use Rattle.std.proofs.Common.{rules, arith, map}
use Rattle.zarrs_array_to_array.specs.Mapping.{mapping_of}
use Rattle.zarrs_array_to_array.proofs.CodecLists.{rest_of, mappings_are}
use Rattle.zarrs_chain_meaning.proofs.ArraySteps.{shape_at, map_if_ok}
use Rattle.zarrs_chain_meaning.proofs.array_stages.+shape_through.Goals as goal

pub returns-in_ok-next-in-len1-up-clause-answer : goal.returns-in_ok-next-in-len1-up-clause-answer
returns-in_ok-next-in-len1-up-clause-answer t c =
    let first = c.first-item.result in
    let codecs = c.args.codecs.now in
    let is = mappings_are codecs first (omega arith) c.first-item.is in
    let rest = map mapping_of (rest_of codecs) in
    let type = c.args.data_type.now in
    let sizes = c.args.shape.now in
    record { is = shape_at type (map mapping_of codecs) (mapping_of first) rest sizes c.in_ok-next-in-len1-up.next c.shape_through.result is c.in_ok-next-in-len1-up.ensures.answer.is c.shape_through.ensures.answer.is; no_fault = search rules }

pub returns-in_ok-next-in-len1-up-clause-map : goal.returns-in_ok-next-in-len1-up-clause-map
returns-in_ok-next-in-len1-up-clause-map t c =
    let first = c.first-item.result in
    let codecs = c.args.codecs.now in
    let is = mappings_are codecs first (omega arith) c.first-item.is in
    let rest = map mapping_of (rest_of codecs) in
    let type = c.args.data_type.now in
    let sizes = c.args.shape.now in
    map_if_ok type (map mapping_of codecs) (mapping_of first) rest sizes c.in_ok-next-in-len1-up.next c.shape_through.result is c.in_ok-next-in-len1-up.ensures.map c.shape_through.ensures.map
