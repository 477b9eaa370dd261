use Rattle.std.proofs.Common.{rules, ◌≡◌, ◌<◌, ◌++◌, ◌^◌, ℕ, List, All, length, map, sym, ap, subst, ◌∙◌}
use Rattle.zarrs_array_bytes.specs.Held.{Held, items_of}
use Rattle.zarrs_array_bytes.specs.Validity.{Holds}
use Rattle.zarrs_chain_meaning.specs.sharding.InnerChunks.{joined_inner_chunks}
use Rattle.zarrs_chunk.specs.ChunkShape.{product}
use Rattle.zarrs_shard_bytes.specs.Rows.{IsPart, chunks_in, part_bytes}
use Rattle.zarrs_chain_meaning.proofs.InnerChunks.{is_cut}
use Rattle.zarrs_shard_bytes.proofs.Rows.{rows_hold, whole_part}
use Rattle.zarrs_shard_bytes.proofs.Sizes.{count_is, same_long}
use Rattle.zarrs_shard_bytes.proofs.joined_rows.joined_rows.Goals as goal

pub append_rows-requires-clause-part : goal.append_rows-requires-clause-part
append_rows-requires-clause-part c =
    let contents = c.args.contents.now in
    let size = c.args.size in
    let each = count_is (product c.args.inner.now) c.in_ok-each.each c.requires.valid.inner_counted c.in_ok-each.ensures.answer in
    let few : length contents < 2 ^ 64 = search rules in
    let small : c.in_ok-each.each < 2 ^ 64 = search rules in
    let parts_positive : All (λ part. 0 < part) c.args.inner.now = subst (All (λ part. 0 < part)) c.as_slice-parts.ensures.value c.as_slice-parts.ensures.positive in
    let positive : All (λ part. 0 < part) c.args.shape.now = subst (All (λ part. 0 < part)) c.as_slice-sizes.ensures.value c.as_slice-sizes.ensures.positive in
    subst (λ (xs : List ℕ). IsPart size (map items_of contents) 0 (length contents) 0 c.in_ok-each.each xs c.as_slice-sizes.result.now) (sym c.as_slice-parts.ensures.value)
    (subst (λ (xs : List ℕ). IsPart size (map items_of contents) 0 (length contents) 0 c.in_ok-each.each c.args.inner.now xs) (sym c.as_slice-sizes.ensures.value)
    (whole_part c.args.data_type.now size contents c.args.inner.now c.args.shape.now c.in_ok-each.each c.requires.valid parts_positive positive few small each))

pub append_rows-requires-clause-axes : goal.append_rows-requires-clause-axes
append_rows-requires-clause-axes c =
    ap (λ (xs : List ℕ). length xs) c.as_slice-parts.ensures.value ∙ same_long c.args.inner.now c.args.shape.now c.requires.valid.divided ∙ sym (ap (λ (xs : List ℕ). length xs) c.as_slice-sizes.ensures.value)

pub returns-clause-answer : goal.returns-clause-answer
returns-clause-answer c =
    let contents = c.args.contents.now in
    let size = c.args.size in
    let made : c.append_rows.new.out.items ≡ part_bytes size (map items_of contents) 0 0 c.args.inner.now c.args.shape.now =
    c.in_ok-append_rows.ensures.appended ∙ (λ i. c.in_ok-out.ensures.items i ++ part_bytes size (map items_of contents) 0 0 (c.as_slice-parts.ensures.value i) (c.as_slice-sizes.ensures.value i)) in
    record {
      is = subst (λ (held : Held). Holds c.args.data_type.now held (joined_inner_chunks c.args.inner.now c.args.shape.now (chunks_in c.args.data_type.now (product c.args.inner.now) contents))) (sym c.new_flen.ensures.made)
          (rows_hold c.args.data_type.now size contents c.args.inner.now c.args.shape.now c.append_rows.new.out.items c.requires.valid (is_cut c.args.inner.now c.args.shape.now (subst (All (λ part. 0 < part)) c.as_slice-parts.ensures.value c.as_slice-parts.ensures.positive) c.requires.valid.divided) made);
      no_fault = search rules;
    }
