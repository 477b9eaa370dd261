use Rattle.std.proofs.Common.{◌≡◌, ℕ, ◌-◌, ◌<◌, List, Vec, Global, Ok, length, ap, sym, ◌∙◌, subst, arith}
use Rattle.std.specs.List.{All}
use Rattle.zarrs_chunk.specs.Runs.{joined_runs}
use Rattle.zarrs_chunk.specs.Answer.{Answers, memory}
use Rattle.zarrs_array_bytes.specs.Elements.{cut}
use Rattle.zarrs_array_bytes.specs.Pieces.{bytes_with_offsets}
use Rattle.zarrs_array_bytes.specs.Sources.{source_bytes, IsSourceOf}
use Rattle.zarrs_array_bytes.specs.Update.{cuts_update}
use Rattle.zarrs_array_bytes.specs.declared.sources.Source.{Source}
use Rattle.zarrs_array_bytes.proofs.RunLemmas.{places_below}
use Rattle.zarrs_array_bytes.proofs.UpdateCalls.{sources, sources_known, cuts_update-sources}
use Rattle.zarrs_array_bytes.proofs.sources.written_cuts.Goals as goal

pub sources_of-requires : goal.sources_of-requires
sources_of-requires c =
    let n = length c.args.old_offsets.now - 1 in
    let places : joined_runs c.args.runs.now ≡ c.in_ok-places.places.items = cc (c.in_ok-places.ensures.exact.is) in
    let items : joined_runs c.args.runs.now ≡ c.as_slice.result.now = places ∙ sym c.as_slice.ensures.value in
    record { inside = subst (λ xs. All (λ place. place < n) xs) items (places_below n c.args.runs.now c.requires.inside) }

pub gather_sources-requires-clause-known : goal.gather_sources-requires-clause-known
gather_sources-requires-clause-known c =
    let n = length c.args.old_offsets.now - 1 in
    let ps = joined_runs c.args.runs.now in
    let places : ps ≡ c.in_ok-places.places.items = cc (c.in_ok-places.ensures.exact.is) in
    let listed : c.as_slice.result.now ≡ ps = c.as_slice.ensures.value ∙ sym places in
    let are : sources n c.as_slice.result.now ≡ c.in_ok-from.from.items = cc (c.in_ok-from.ensures.exact.is) in
    let from : sources n ps ≡ c.as_slice-2.result.now = rw listed at are ∙ sym c.as_slice-2.ensures.value in
    let count : length ps ≡ length c.args.new_offsets.now - 1 = omega (arith, c.requires.enough) in
    subst (λ m. All (IsSourceOf n m) c.as_slice-2.result.now) count (subst (λ (xs : List Source). All (IsSourceOf n (length ps)) xs) from (sources_known n ps))

pub returns : goal.returns
returns c =
    let n = length c.args.old_offsets.now - 1 in
    let ps = joined_runs c.args.runs.now in
    let places : ps ≡ c.in_ok-places.places.items = cc (c.in_ok-places.ensures.exact.is) in
    let listed : c.as_slice.result.now ≡ ps = c.as_slice.ensures.value ∙ sym places in
    let are : sources n c.as_slice.result.now ≡ c.in_ok-from.from.items = cc (c.in_ok-from.ensures.exact.is) in
    let from : c.as_slice-2.result.now ≡ sources n ps = c.as_slice-2.ensures.value ∙ sym (rw listed at are) in
    let bytes_of = source_bytes (cut c.args.old_offsets.now c.args.old.now) (cut c.args.new_offsets.now c.args.new.now) in
    let all : bytes_with_offsets bytes_of c.as_slice-2.result.now ≡ cuts_update c.args.old_offsets.now c.args.old.now c.args.new_offsets.now c.args.new.now ps =
    ap (bytes_with_offsets bytes_of) from ∙ cuts_update-sources c.args.old_offsets.now c.args.old.now c.args.new_offsets.now c.args.new.now ps c.requires.enough in
    record {
      exact = record {
        is = subst (λ (parts : List ℕ × List ℕ). Answers memory (λ (p : Vec ℕ Global × Vec ℕ Global). (p.0.items, p.1.items)) c.gather_sources.result (Ok parts)) all c.gather_sources.ensures.exact.is;
        no_fault = c.gather_sources.ensures.exact.no_fault;
      };
    }
