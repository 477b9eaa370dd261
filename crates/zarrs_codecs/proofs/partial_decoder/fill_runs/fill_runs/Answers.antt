use Rattle.std.proofs.Common.{rules, ◌≡◌, length, arith}
use Rattle.zarrs_chunk.specs.Runs.{joined_runs}
use Rattle.zarrs_codecs.proofs.PartialCalls.{filled_places}
use Rattle.zarrs_codecs.proofs.partial_decoder.fill_runs.fill_runs.Goals as goal

pub returns-in-Ok : goal.returns-in-Ok
returns-in-Ok c =
    let places = joined_runs c.args.runs.now in
    let count : c.count_places.result ≡ length places = omega (arith, c.count_places.ensures.count, c.requires.count) in
    record { answer = record { is = filled_places c.args.data_type.now c.args.fill_value.now places c.in-Ok.filled c.count_places.result count c.in-Ok.ensures.exact.is; no_fault = search rules }; tight = c.in-Ok.ensures.tight }
