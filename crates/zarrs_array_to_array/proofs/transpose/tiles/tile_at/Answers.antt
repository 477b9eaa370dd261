use Rattle.std.proofs.Common.{◌≡◌, ◌+◌, ◌*◌, ◌++◌, ◌∷◌, [], List, ℕ, map, arith, sym, ap, ap₂, ◌∙◌}
use Rattle.std.proofs.lemmas.List.{length-set, take_more_set, take_all, map-append}
use Rattle.zarrs_array_to_array.specs.Axes.{stretch}
use Rattle.zarrs_array_to_array.specs.Strides.{row}
use Rattle.zarrs_array_to_array.proofs.Rows.{row_more}
use Rattle.zarrs_array_to_array.proofs.transpose.tiles.tile_at.Goals as goal

pub loop-index-preserved : goal.loop-index-preserved
loop-index-preserved g c =
    let f : ℕ → List ℕ = stretch 16 c.args.size c.args.bytes.now in
    let i = c.loop-index.index in
    record {
      count = length-set c.loop-index.rows i c.sixteen_at.result ∙ c.loop-index.invariant.count;
      read =
          take_more_set c.loop-index.rows i c.sixteen_at.result (omega arith)
          ∙ ap₂ (λ xs x. xs ++ x ∷ []) c.loop-index.invariant.read c.sixteen_at.ensures.value
          ∙ sym (ap (map f) (row_more c.args.front c.args.step i) ∙ map-append f (row c.args.front c.args.step i) ((c.args.front + i * c.args.step) ∷ []));
    }

pub returns : goal.returns
returns g c =
    let f : ℕ → List ℕ = stretch 16 c.args.size c.args.bytes.now in
    let all : c.loop-index.index ≡ g.row.N = omega arith in
    record {
      value = sym (take_all c.loop-index.index c.loop-index.rows (omega arith)) ∙ c.loop-index.invariant.read ∙ ap (λ n. map f (row c.args.front c.args.step n)) all;
    }
