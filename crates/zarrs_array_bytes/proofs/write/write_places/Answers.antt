use Rattle.std.proofs.Common.{◌∙◌, arith}
use Rattle.std.proofs.Math.Nat.{mul-le-mul_right}
use Rattle.zarrs_array_bytes.proofs.WriteLemmas.{with_runs-update}
use Rattle.zarrs_array_bytes.proofs.write.write_places.Goals as goal

pub write_runs-requires : goal.write_runs-requires
write_runs-requires c = record {
  inside = λ k d l. omega (arith, mul-le-mul_right c.args.size (c.requires.inside k d l), c.requires.whole);
  enough = omega (arith, c.requires.enough);
}

pub returns : goal.returns
returns c = record {
  written = c.write_runs.ensures.written ∙ with_runs-update c.args.size c.args.count c.args.out.now c.args.runs.now c.args.new.now c.requires.whole c.requires.inside (omega (arith, c.requires.enough));
  len = c.write_runs.ensures.len;
}
