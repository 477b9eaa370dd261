use Rattle.std.proofs.Common.{Ok, ap, sym, ◌∙◌, arith}
use Rattle.std.proofs.Math.Nat.{mul-le-mul_right}
use Rattle.zarrs_array_bytes.specs.Pieces.{pieces_at}
use Rattle.zarrs_chunk.specs.Answer.{seen}
use Rattle.zarrs_chunk.specs.Runs.{joined_runs}
use Rattle.zarrs_array_calls.proofs.part_take.take.Goals as goal

pub copy_runs-requires : goal.copy_runs-requires
copy_runs-requires c = record {
  inside = rw c.as_slice.ensures.value (λ k d l. omega (arith, mul-le-mul_right c.args.size (c.in_ok-runs.ensures.inside k d l), c.in_ok-runs.ensures.whole));
  room = rw c.as_slice.ensures.value (c.in_ok-runs.ensures.enough);
}

pub returns-clause-written : goal.returns-clause-written
returns-clause-written c =
    let size = c.args.size in
    let region = c.args.region.now in
    let copied = c.copy_runs.ensures.written ∙ ap (λ rs. pieces_at size region (joined_runs rs)) c.as_slice.ensures.value in
    ap (seen (λ places. pieces_at size region places)) c.in_ok-runs.ensures.places ∙ ap Ok (sym copied)
