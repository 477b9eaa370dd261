use Rattle.std.proofs.Common.{ℕ, List, length, drop, replicate, ap, ◌∙◌, arith}
use Rattle.zarrs_array_bytes.specs.Update.{with_items_at}
use Rattle.zarrs_array_bytes.proofs.MaskedBytes.{held_in_front}
use Rattle.zarrs_array_bytes.proofs.masked_bytes.put_element.Goals as goal

pub copy_to-requires-2 : goal.copy_to-requires-2
copy_to-requires-2 c =
    let element = c.args.element.now in
    let zeros : List ℕ = drop (length element) (replicate 16 0) in
    record {
      inside = omega (arith, ap length (held_in_front c.copy_from_slice.new.self element zeros c.copy_from_slice.ensures.after), c.requires.inside);
    }

pub returns : goal.returns
returns c =
    let element = c.args.element.now in
    let zeros : List ℕ = drop (length element) (replicate 16 0) in
    record {
      written = c.copy_to-2.ensures.written ∙ ap (with_items_at c.args.out.now c.args.at) (held_in_front c.copy_from_slice.new.self element zeros c.copy_from_slice.ensures.after);
    }
