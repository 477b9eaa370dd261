use Rattle.std.proofs.Common.{◌≡◌, ◌<◌, ◌+◌, ◌^◌, ℕ, List, length, get_or, arith, ap, sym, ◌∙◌}
use Rattle.zarrs_grid.proofs.KnownBoxes.{touched_region}
use Rattle.zarrs_grid.proofs.chunk_grid.chunks_in_array_subset.Goals as goal

pub known_box-requires : goal.known_box-requires
known_box-requires c =
    let shape = c.as_slice-sizes.result.now in
    let starts = c.start-starts.result.now in
    let lengths = c.shape-lengths.result.now in
    let long : length starts ≡ length shape = omega arith in
    let as_long : length lengths ≡ length shape =
    ap (λ (xs : List ℕ). length xs) c.shape-lengths.ensures.value ∙ sym c.shape-lengths.ensures.axes
    ∙ ap (λ (xs : List ℕ). length xs) (sym c.start-starts.ensures.value) ∙ long in
    let ends : (axis : ℕ) → axis < length starts → get_or starts axis 0 + get_or lengths axis 0 < 2 ^ 64 =
    rw (c.start-starts.ensures.value, c.shape-lengths.ensures.value) c.shape-lengths.ensures.ends in
    record {
      ends = rw ((c.in_ok-first.ensures {u = tt}).value, (c.in_ok-counts.ensures {u = tt}).value)
          (touched_region shape starts lengths c.as_slice-sizes.ensures.positive long as_long ends);
    }
