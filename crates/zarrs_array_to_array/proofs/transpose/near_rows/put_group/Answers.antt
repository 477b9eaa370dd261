use Rattle.std.proofs.Common.{◌≡◌, ◌≤◌, ◌+◌, ◌*◌, ◌/◌, ℕ, List, length, arith, refl, ap, sym, subst, ◌∙◌}
use Rattle.std.proofs.Math.Nat.{mul-le-mul_right}
use Rattle.zarrs_array_to_array.specs.Axes.{stretch}
use Rattle.zarrs_array_to_array.specs.Tiles.{turned_rows, with_vectors}
use Rattle.zarrs_array_to_array.proofs.RowGroups.{group_inside}
use Rattle.zarrs_array_to_array.proofs.TileRows.{begun, begun_with_nothing, begun_whole, elements_of, row_of_tile_inside, rows_joined, tile_goes_on, tile_is_square}
use Rattle.zarrs_array_to_array.proofs.transpose.near_rows.put_group.Goals as goal

pub loop-done-init : goal.loop-done-init
loop-done-init c =
    let of : ℕ → List ℕ = elements_of c.args.size c.args.front c.args.columns.step c.args.bytes.now 0 in
    let len : ℕ = c.args.columns.size * c.args.size in
    let group : ℕ = 16 / c.args.size in
    let none : 0 * c.args.size ≡ 0 = omega arith in
    record {
      written = sym (ap (λ n. begun of len n 0 group c.args.items.now) none ∙ begun_with_nothing of len 0 group c.args.items.now (λ r. refl));
      within = omega arith;
    }

pub turn_tile-requires-clause-inside : goal.turn_tile-requires-clause-inside
turn_tile-requires-clause-inside c = λ k l.
    let at = c.min-at.result in
    let below : at + 16 / c.args.size ≤ c.args.columns.size = omega (arith, c.min-at.ensures, c.requires.wide) in
    subst (λ n. n ≤ length c.args.bytes.now) (sym (group_inside c.args.front c.args.columns.step c.args.size 16 at k)) (c.requires.inside (at + k) (omega (arith, l, below)))

pub loop-done-preserved : goal.loop-done-preserved
loop-done-preserved c =
    let size = c.args.size in
    let front = c.args.front in
    let columns = c.args.columns in
    let bytes = c.args.bytes.now in
    let items = c.args.items.now in
    let at = c.min-at.result in
    let done = c.loop-done.done in
    let group : ℕ = 16 / size in
    let len : ℕ = columns.size * size in
    let square : group * size ≡ 16 = tile_is_square size c.requires.tiles in
    let whole : group * len ≡ columns.size * (group * size) = grind arith in
    let counted : columns.size * (group * size) ≡ columns.size * 16 = ap (λ n. columns.size * n) square in
    let below : at + group ≤ columns.size = omega (arith, c.min-at.ensures, c.requires.wide) in
    record {
      written =
          c.turn_tile.ensures.written
          ∙ ap (λ xs. with_vectors len (at * size) (turned_rows size (front + at * columns.step) columns.step group bytes) xs) c.loop-done.invariant.written
          ∙ tile_goes_on size front columns.step group len bytes at done (at + group) 0 group items square refl (omega (arith, c.min-at.ensures)) (omega (arith, c.min-at.ensures))
          (mul-le-mul_right {m = at + group} {n = columns.size} size below) (omega (arith, whole, counted, c.requires.len))
          (λ r k l m. row_of_tile_inside size group front r columns.step k (length bytes) square (omega (arith, l)) (c.requires.inside k (omega (arith, m, c.loop-done.invariant.within))));
      within = below;
    }

pub returns : goal.returns
returns c =
    let size = c.args.size in
    let front = c.args.front in
    let columns = c.args.columns in
    let bytes = c.args.bytes.now in
    let items = c.args.items.now in
    let group : ℕ = 16 / size in
    let len : ℕ = columns.size * size in
    let square : group * size ≡ 16 = tile_is_square size c.requires.tiles in
    let whole : group * len ≡ columns.size * (group * size) = grind arith in
    let counted : columns.size * (group * size) ≡ columns.size * 16 = ap (λ n. columns.size * n) square in
    let all : c.loop-done.done ≡ columns.size = omega (arith, c.loop-done.invariant.within) in
    record {
      written =
          c.loop-done.invariant.written
          ∙ ap (λ (n : ℕ). begun (elements_of size front columns.step bytes n) len (n * size) 0 group items) all
          ∙ begun_whole (elements_of size front columns.step bytes columns.size) len 0 group items (omega (arith, whole, counted, c.requires.len))
          ∙ rows_joined (stretch size size bytes) columns.step columns.size front 0 group;
    }
