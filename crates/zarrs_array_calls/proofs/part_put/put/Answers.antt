use Rattle.std.proofs.Common.{Ok, ap, sym, ◌∙◌, arith}
use Rattle.std.proofs.Math.Nat.{mul-le-mul_right}
use Rattle.zarrs_array_bytes.specs.Update.{pieces_update, with_runs}
use Rattle.zarrs_array_bytes.proofs.WriteLemmas.{with_runs-update}
use Rattle.zarrs_chunk.specs.Answer.{seen}
use Rattle.zarrs_chunk.specs.ChunkShape.{product}
use Rattle.zarrs_array_calls.proofs.part_put.put.Goals as goal

pub write_runs-requires : goal.write_runs-requires
write_runs-requires c = record {
  inside = rw c.as_slice.ensures.value (λ k d l. omega (arith, mul-le-mul_right c.args.size (c.in_ok-runs.ensures.inside k d l), c.in_ok-runs.ensures.whole));
  enough = rw c.as_slice.ensures.value (omega (arith, c.in_ok-runs.ensures.enough));
}

pub returns-clause-written : goal.returns-clause-written
returns-clause-written c =
    let size = c.args.size in
    let region = c.args.region.now in
    let new = c.args.elements.now in
    let count = product c.args.lengths.now in
    let runs = c.in_ok-runs.runs.items in
    let written = c.write_runs.ensures.written ∙ ap (λ rs. with_runs size region rs new) c.as_slice.ensures.value
    ∙ with_runs-update size count region runs new c.in_ok-runs.ensures.whole c.in_ok-runs.ensures.inside (omega (arith, c.in_ok-runs.ensures.enough)) in
    ap (seen (λ places. pieces_update size count region places new)) c.in_ok-runs.ensures.places ∙ ap Ok (sym written)
