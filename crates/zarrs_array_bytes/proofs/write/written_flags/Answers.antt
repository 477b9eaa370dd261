use Rattle.std.proofs.Common.{rules, List, ℕ, length, Ok, Vec, Global, refl, subst}
use Rattle.zarrs_chunk.specs.Answer.{Answers, memory}
use Rattle.zarrs_array_bytes.specs.Held.{raw_of}
use Rattle.zarrs_array_bytes.proofs.WriteLemmas.{flags_written-update}
use Rattle.zarrs_array_bytes.proofs.write.written_flags.Goals as goal

pub returns : goal.returns
returns c =
    let old = (raw_of c.args.raw).items in
    let are = flags_written-update (length old) old c.args.runs.now c.args.new.now refl c.requires.inside c.requires.enough in
    record { exact = record { is = subst (λ (xs : List ℕ). Answers memory (λ (v : Vec ℕ Global). v.items) c.written_elements.result (Ok xs)) are c.written_elements.ensures.exact.is; no_fault = search rules } }
