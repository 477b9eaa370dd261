use Rattle.std.proofs.Common.{rules, sym}
use Rattle.zarrs_packbits.proofs.FlatRead.{are_runs-from}
use Rattle.zarrs_packbits.proofs.PartReads.{plan_of}
use Rattle.zarrs_packbits.proofs.packbits_codec.PackBitsCodec.planned_runs.Goals as goal

pub returns-clause-plan : goal.returns-clause-plan
returns-clause-plan c =
    let l = c.taken_layout-layout.result in
    let runs = c.args.runs.now in
    let are = are_runs-from l.elements runs c.requires.filled (rw c.taken_layout-layout.ensures.elements c.requires.below) in
    record { is = rw c.taken_layout-layout.ensures.is (plan_of l runs c.in_ok-planned.planned.items c.taken_layout-layout.ensures.sound are (sym c.in_ok-planned.ensures.spans)); no_fault = search rules }
