use Rattle.std.proofs.Common.{◌++◌, ap, ◌∙◌}
use Rattle.std.proofs.lemmas.List.{append_assoc}
use Rattle.zarrs_packbits.specs.BitStream.{stream_of_bytes}
use Rattle.zarrs_packbits.specs.PackedLayout.{spare_of}
use Rattle.zarrs_packbits.specs.PaddingByte.{padding_bytes_before, padding_bytes_behind}
use Rattle.zarrs_packbits.specs.Packing.{packing}
use Rattle.zarrs_packbits.proofs.LayoutLemmas.{packed_before, spare_small}
use Rattle.zarrs_packbits.proofs.packed_values.packed_value.Goals as goal

pub returns : goal.returns
returns c =
    let l = c.args.layout.now in
    let bits = stream_of_bytes l c.args.bytes.now in
    let spare = spare_of l in
    let front = c.in_ok-finish.ensures.value
    ∙ ap packing (c.in_ok-put_stream.ensures.appended ∙ ap (λ xs. xs ++ bits) c.in_ok-writer.ensures.value)
    ∙ packed_before l.padding spare bits (spare_small l) in
    record { value = c.in_ok-value.ensures.value ∙ ap (λ xs. xs ++ padding_bytes_behind l.padding spare) front ∙ append_assoc (padding_bytes_before l.padding spare) (packing bits) (padding_bytes_behind l.padding spare) }
