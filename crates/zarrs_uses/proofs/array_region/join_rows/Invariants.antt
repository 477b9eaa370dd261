use Rattle.std.proofs.Common.{◌≡◌, ◌-◌, ◌*◌, ◌<◌, ◌≤◌, ◌^◌, ◌∷◌, map, length, Ok, true, List, ℕ}
use Rattle.zarrs_codecs.specs.ChunkShape.{product}
use Rattle.zarrs_codecs.specs.Tuples.{is_box_inside}
use Rattle.zarrs_codecs.specs.Element.{Chunk}
use Rattle.zarrs_codecs.specs.Validity.{Holds, validity}
use Rattle.zarrs_uses.specs.ChunkedArray.{ReadChunks, array_element}
use Rattle.zarrs_uses.proofs.ArrayRows.{at_rows}
use Rattle.zarrs_uses.proofs.array_region.join_rows.Given as goal

-- the rows before `row` are read
abbrev pub invariant-parts : goal.invariant-parts
invariant-parts g l = record {
  from : l.start ≤ l.row;
  to : l.row ≤ l.end;
  count : l.done ≡ (l.row - l.start) * product l.lengths;
  valid : validity l.data_type l.done l.joined ≡ Ok tt;
  kept : map g.D.ArrayPartialDecoderTraits.reader l.decoders ≡ map g.D.ArrayPartialDecoderTraits.reader l.initial.decoders;
  rows : (sizes : List ℕ) (chunks : List Chunk) → ReadChunks (l.rows ∷ sizes) (map g.D.ArrayPartialDecoderTraits.reader l.initial.decoders) chunks → product (l.rows ∷ sizes) < 2 ^ 64 → is_box_inside sizes l.starts l.lengths ≡ true → l.end ≤ length chunks * l.rows
      → Holds l.data_type l.joined (at_rows (array_element (l.rows ∷ sizes) chunks) l.starts l.lengths l.start (l.row - l.start));
}

abbrev pub decreases-parts : goal.decreases-parts
decreases-parts g l = l.end - l.row
