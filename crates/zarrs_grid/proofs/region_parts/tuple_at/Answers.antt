use Rattle.std.proofs.Common.{ℕ, List, length, refl, ap, sym, ◌∙◌}
use Rattle.std.specs.Prelude.{option_map}
use Rattle.zarrs_chunk.specs.Indices.{indices_behind}
use Rattle.zarrs_chunk.proofs.Inside.{is_tuple_inside-length}
use Rattle.zarrs_grid.proofs.NumberedChunks.{found_tuple, moved_fits}
use Rattle.zarrs_grid.proofs.region_parts.tuple_at.Goals as goal

pub moved_by-requires-clause-axes : goal.moved_by-requires-clause-axes
moved_by-requires-clause-axes c =
    let found = found_tuple (c.in_ok-tuple.ensures {u = tt}).answer (ap (option_map (λ t. t.items)) c.in-Some.is) in
    c.requires.axes ∙ sym (is_tuple_inside-length c.args.shape.now c.in-Some.tuple.items found.inside) ∙ ap (λ (xs : List ℕ). length xs) (sym c.as_slice.ensures.value)

pub moved_by-requires-clause-fits : goal.moved_by-requires-clause-fits
moved_by-requires-clause-fits c =
    let found = found_tuple (c.in_ok-tuple.ensures {u = tt}).answer (ap (option_map (λ t. t.items)) c.in-Some.is) in
    rw c.as_slice.ensures.value (moved_fits c.args.starts.now c.args.shape.now c.in-Some.tuple.items c.requires.axes c.requires.fits found.inside)

pub returns : goal.returns
returns c =
    let found = found_tuple (c.in_ok-tuple.ensures {u = tt}).answer (ap (option_map (λ t. t.items)) c.in-Some.is) in
    record {
      value = record {
        is = (c.in_ok-moved.ensures {u = tt}).value
            ∙ ap (indices_behind c.args.starts.now) (c.as_slice.ensures.value ∙ found.is);
        no_fault = refl;
      };
    }
