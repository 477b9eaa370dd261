use Rattle.std.proofs.Common.{rules, ◌≡◌, ◌+◌, ◌*◌, ◌/◌, ◌<◌, ◌^◌, ℕ, List, Ok, arith, ap, ap₂, sym, subst, refl, ◌∙◌}
use Rattle.std.specs.List.{All}
use Rattle.std.proofs.lemmas.Nat.{div-mul-add}
use Rattle.std.proofs.lemmas.Result.{err_from_is_err_and}
use Rattle.zarrs_chunk.specs.Answer.{checked_u64}
use Rattle.zarrs_chunk.specs.ChunkShape.{product}
use Rattle.zarrs_chain_meaning.specs.sharding.InnerChunks.{grid, inner_chunk_count}
use Rattle.zarrs_chain_meaning.proofs.ArraySteps.{ok_is, ok_no_err}
use Rattle.zarrs_shard_bytes.specs.Bands.{band_count}
use Rattle.zarrs_shard_bytes.proofs.Bands.{band_facts}
use Rattle.zarrs_chain.proofs.ShardForms.{small_counted}
use Rattle.zarrs_chain.proofs.ShardReading.{grid_given, grid_is}
use Rattle.zarrs_chain.proofs.ShardWrites.{chunks_counted}
use Rattle.zarrs_chain.proofs.sharding.shard_bands.band_sizes.Goals as goal

pub returns-in_err-grid : goal.returns-in_err-grid
returns-in_err-grid c =
    let inner : List ℕ = c.args.inner.now in
    let shape : List ℕ = c.args.shape.now in
    let band : List ℕ = c.args.band.now in
    let form = c.requires.form in
    let parts_positive : All (λ part. 0 < part) inner = subst (All (λ part. 0 < part)) c.as_slice.ensures.value c.as_slice.ensures.positive in
    let positive : All (λ part. 0 < part) shape = subst (All (λ part. 0 < part)) c.as_slice-2.ensures.value c.as_slice-2.ensures.positive in
    let facts = band_facts inner shape band form parts_positive positive in
    record {
      answer = record {
        is =
            let p = err_from_is_err_and c.from_residual.result c.from_residual.ensures.1 in
            rw (p.1, p.2) (λ ne. absurd (ok_no_err (grid inner band) c.in_err-grid.field-0.0 (sym (grid_given inner band facts.divided) ∙ c.in_err-grid.ensures.answer.is ne)));
        no_fault = search rules;
      };
    }

pub returns-in_err-each : goal.returns-in_err-each
returns-in_err-each c =
    let inner : List ℕ = c.args.inner.now in
    let shape : List ℕ = c.args.shape.now in
    let band : List ℕ = c.args.band.now in
    let form = c.requires.form in
    let parts_positive : All (λ part. 0 < part) inner = subst (All (λ part. 0 < part)) c.as_slice.ensures.value c.as_slice.ensures.positive in
    let positive : All (λ part. 0 < part) shape = subst (All (λ part. 0 < part)) c.as_slice-2.ensures.value c.as_slice-2.ensures.positive in
    let facts = band_facts inner shape band form parts_positive positive in
    let small : product band < 2 ^ 64 = omega (arith, facts.fewer, form.small) in
    let grid_at = grid_is inner band c.in_ok-grid.grid facts.divided c.in_ok-grid.ensures.answer.is in
    let counted : checked_u64 (product c.in_ok-grid.grid) ≡ Ok (inner_chunk_count inner band) = chunks_counted inner band c.in_ok-grid.grid parts_positive facts.divided small grid_at in
    absurd (ok_no_err (inner_chunk_count inner band) c.in_err-each.field-0.0 (sym (c.in_err-each.ensures.answer ∙ counted)))

pub returns-in_err-num_elements : goal.returns-in_err-num_elements
returns-in_err-num_elements c =
    let inner : List ℕ = c.args.inner.now in
    let shape : List ℕ = c.args.shape.now in
    let band : List ℕ = c.args.band.now in
    let form = c.requires.form in
    let parts_positive : All (λ part. 0 < part) inner = subst (All (λ part. 0 < part)) c.as_slice.ensures.value c.as_slice.ensures.positive in
    let positive : All (λ part. 0 < part) shape = subst (All (λ part. 0 < part)) c.as_slice-2.ensures.value c.as_slice-2.ensures.positive in
    let facts = band_facts inner shape band form parts_positive positive in
    let small : product band < 2 ^ 64 = omega (arith, facts.fewer, form.small) in
    absurd (ok_no_err (product band) c.in_err-num_elements.field-0.0 (sym (c.in_err-num_elements.ensures.answer ∙ small_counted (product band) small)))

pub nonzero_div-result : goal.nonzero_div-result
nonzero_div-result c =
    let inner : List ℕ = c.args.inner.now in
    let shape : List ℕ = c.args.shape.now in
    let band : List ℕ = c.args.band.now in
    let form = c.requires.form in
    let parts_positive : All (λ part. 0 < part) inner = subst (All (λ part. 0 < part)) c.as_slice.ensures.value c.as_slice.ensures.positive in
    let positive : All (λ part. 0 < part) shape = subst (All (λ part. 0 < part)) c.as_slice-2.ensures.value c.as_slice-2.ensures.positive in
    let facts = band_facts inner shape band form parts_positive positive in
    let small : product band < 2 ^ 64 = omega (arith, facts.fewer, form.small) in
    let grid_at = grid_is inner band c.in_ok-grid.grid facts.divided c.in_ok-grid.ensures.answer.is in
    let counted : checked_u64 (product c.in_ok-grid.grid) ≡ Ok (inner_chunk_count inner band) = chunks_counted inner band c.in_ok-grid.grid parts_positive facts.divided small grid_at in
    let each : c.in_ok-each.each ≡ inner_chunk_count inner band = ok_is c.in_ok-each.each (inner_chunk_count inner band) (c.in_ok-each.ensures.answer ∙ counted) in
    omega (arith, each, facts.some)

pub returns : goal.returns
returns c =
    let inner : List ℕ = c.args.inner.now in
    let shape : List ℕ = c.args.shape.now in
    let band : List ℕ = c.args.band.now in
    let form = c.requires.form in
    let parts_positive : All (λ part. 0 < part) inner = subst (All (λ part. 0 < part)) c.as_slice.ensures.value c.as_slice.ensures.positive in
    let positive : All (λ part. 0 < part) shape = subst (All (λ part. 0 < part)) c.as_slice-2.ensures.value c.as_slice-2.ensures.positive in
    let facts = band_facts inner shape band form parts_positive positive in
    let small : product band < 2 ^ 64 = omega (arith, facts.fewer, form.small) in
    let grid_at = grid_is inner band c.in_ok-grid.grid facts.divided c.in_ok-grid.ensures.answer.is in
    let counted : checked_u64 (product c.in_ok-grid.grid) ≡ Ok (inner_chunk_count inner band) = chunks_counted inner band c.in_ok-grid.grid parts_positive facts.divided small grid_at in
    let each : c.in_ok-each.each ≡ inner_chunk_count inner band = ok_is c.in_ok-each.each (inner_chunk_count inner band) (c.in_ok-each.ensures.answer ∙ counted) in
    let total = ok_is c.in_ok-num_elements.field-0 (product band) (c.in_ok-num_elements.ensures.answer ∙ small_counted (product band) small) in
    let all : c.args.chunks ≡ band_count inner shape * inner_chunk_count inner band + 0 = omega (arith, c.requires.all, facts.all) in
    record {
      answer = record {
        is = record {
          chunks_are = each ∙ ap (inner_chunk_count inner) form.band_is;
          elements_are = total ∙ ap product form.band_is;
          count_is = ap₂ (λ a b. a / b) all each ∙ div-mul-add (band_count inner shape) (inner_chunk_count inner band) 0 facts.some;
        };
        no_fault = refl;
      };
    }
