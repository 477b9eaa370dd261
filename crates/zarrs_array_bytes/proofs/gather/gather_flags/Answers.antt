use Rattle.std.proofs.Common.{List, ℕ, length, Ok, Vec, Global, subst}
use Rattle.zarrs_chunk.specs.Answer.{Gives}
use Rattle.zarrs_chunk.specs.Runs.{joined_runs}
use Rattle.zarrs_array_bytes.proofs.RunLemmas.{flags_at, places_below}
use Rattle.zarrs_array_bytes.proofs.gather.gather_flags.Goals as goal

pub returns : goal.returns
returns c =
    let are = flags_at c.args.flags.now (joined_runs c.args.runs.now) (places_below (length c.args.flags.now) c.args.runs.now c.requires.inside) in
    record { exact = subst (λ (xs : List ℕ). Gives (λ (v : Vec ℕ Global). v.items) c.gather_pieces.result (Ok xs)) are c.gather_pieces.ensures.exact }
