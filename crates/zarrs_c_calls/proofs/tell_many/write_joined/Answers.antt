use Rattle.std.proofs.Common.{◌≡◌, ◌+◌, ◌++◌, [], ◌∷◌, length, drop, ap, ◌∙◌, sym, arith, length-append}
use Rattle.std.proofs.lemmas.List.{drop_all, drop_more}
use Rattle.zarrs_c_calls.specs.Buffers.{crossed}
use Rattle.zarrs_array_bytes.specs.Update.{with_items_at}
use Rattle.zarrs_c_calls.specs.JoinedParts.{joined_parts}
use Rattle.zarrs_c_calls.proofs.JoinedLemmas.{none_written, written_on}
use Rattle.zarrs_c_calls.proofs.tell_many.write_joined.Goals as goal

pub loop-part-preserved : goal.loop-part-preserved
loop-part-preserved c =
    let parts = c.args.parts.now in
    let i = c.loop-part.part-index in
    let part = c.part-item.result in
    let more = joined_parts (drop (i + 1) parts) in
    let on : drop i parts ≡ part ∷ drop (i + 1) parts = drop_more parts i part (omega (arith, c.loop-part-test.true)) ∙ ap (λ p. p ∷ drop (i + 1) parts) (sym c.part-item.is) in
    let masks : (joined_parts (drop i parts)).masks ≡ (crossed part).masks ++ more.masks = ap (λ ps. (joined_parts ps).masks) on in
    let offsets : (joined_parts (drop i parts)).offsets ≡ (crossed part).offsets ++ more.offsets = ap (λ ps. (joined_parts ps).offsets) on in
    let bytes : (joined_parts (drop i parts)).bytes ≡ (crossed part).bytes ++ more.bytes = ap (λ ps. (joined_parts ps).bytes) on in
    let masks_count : length (joined_parts (drop i parts)).masks ≡ length (crossed part).masks + length more.masks = ap length masks ∙ length-append (crossed part).masks more.masks in
    let offsets_count : length (joined_parts (drop i parts)).offsets ≡ length (crossed part).offsets + length more.offsets = ap length offsets ∙ length-append (crossed part).offsets more.offsets in
    let bytes_count : length (joined_parts (drop i parts)).bytes ≡ length (crossed part).bytes + length more.bytes = ap length bytes ∙ length-append (crossed part).bytes more.bytes in
    let inv = c.loop-part.invariant in
    let counted : c.mask_count-masks_at.result ≡ length (crossed part).masks = omega (arith, c.mask_count-masks_at.ensures.value, masks_count, inv.masks_room) in
    let starts : length c.inner_offsets-starts.result.now ≡ length (crossed part).offsets = ap length c.inner_offsets-starts.ensures.value in
    let raw : length c.inner_bytes-raw.result.now ≡ length (crossed part).bytes = ap length c.inner_bytes-raw.ensures.value in
    record {
      masks = written_on c.loop-part.masks (crossed part).masks more.masks (joined_parts (drop i parts)).masks c.write_masks.new.out c.loop-part.masks_at c.mask_count-masks_at.result masks inv.masks_room counted c.write_masks.ensures.written ∙ inv.masks;
      offsets = written_on c.loop-part.offsets (crossed part).offsets more.offsets (joined_parts (drop i parts)).offsets c.write_offsets_at.new.out c.loop-part.offsets_at (length c.inner_offsets-starts.result.now) offsets inv.offsets_room starts
          (c.write_offsets_at.ensures.written ∙ ap (λ xs. with_items_at c.loop-part.offsets c.loop-part.offsets_at xs) c.inner_offsets-starts.ensures.value) ∙ inv.offsets;
      bytes = written_on c.loop-part.bytes (crossed part).bytes more.bytes (joined_parts (drop i parts)).bytes c.write.new.out c.loop-part.bytes_at (length c.inner_bytes-raw.result.now) bytes inv.bytes_room raw
          (c.write.ensures.written ∙ ap (λ xs. with_items_at c.loop-part.bytes c.loop-part.bytes_at xs) c.inner_bytes-raw.ensures.value) ∙ inv.bytes;
      masks_room = omega (arith, masks_count, counted, inv.masks_room, c.write_masks.auto.out);
      offsets_room = omega (arith, offsets_count, starts, inv.offsets_room, c.write_offsets_at.auto.out);
      bytes_room = omega (arith, bytes_count, raw, inv.bytes_room, c.write.auto.out);
    }

pub returns : goal.returns
returns c =
    let parts = c.args.parts.now in
    let i = c.loop-part.part-index in
    let none : drop i parts ≡ [] = drop_all i parts (omega (arith, c.loop-part-test.false)) in
    record {
      masks = sym (none_written c.loop-part.masks c.loop-part.masks_at) ∙ ap (λ ps. with_items_at c.loop-part.masks c.loop-part.masks_at (joined_parts ps).masks) (sym none) ∙ c.loop-part.invariant.masks;
      offsets = sym (none_written c.loop-part.offsets c.loop-part.offsets_at) ∙ ap (λ ps. with_items_at c.loop-part.offsets c.loop-part.offsets_at (joined_parts ps).offsets) (sym none) ∙ c.loop-part.invariant.offsets;
      bytes = sym (none_written c.loop-part.bytes c.loop-part.bytes_at) ∙ ap (λ ps. with_items_at c.loop-part.bytes c.loop-part.bytes_at (joined_parts ps).bytes) (sym none) ∙ c.loop-part.invariant.bytes;
    }
