use Rattle.std.proofs.Common.{◌≡◌, ℕ, suc, ◌+◌, ◌/◌, ◌%◌, ◌<◌, ◌-◌, ◌∷◌, ◌++◌, length, map, arith, ap, sym, subst, ◌∙◌, Ok}
use Rattle.std.proofs.lemmas.List.{length-map}
use Rattle.std.proofs.lemmas.Result.{err_from_is_err_and}
use Rattle.zarrs_codecs.specs.ChunkShape.{product}
use Rattle.zarrs_codecs.specs.Region.{Region}
use Rattle.zarrs_codecs.specs.Tuples.{box_tuples}
use Rattle.zarrs_codecs.specs.Elements.{elements}
use Rattle.zarrs_codecs.specs.Validity.{validity}
use Rattle.zarrs_uses.specs.ChunkedArray.{array_element}
use Rattle.zarrs_uses.proofs.ArrayRows.{at_rows}
use Rattle.zarrs_uses.proofs.ArrayJoins.{box_count, count_there, few_there, more_read, no_reader, part_refused, row_in_chunks, same_part, step_answer}
use Rattle.zarrs_uses.proofs.ArrayAppends.{counted_is}
use Rattle.zarrs_uses.proofs.array_region.join_rows.Goals as goal

pub append_from-requires-clause-few : goal.append_from-requires-clause-few
append_from-requires-clause-few g c =
    let count = c.min-count.result in
    let part_is = same_part (record { starts = (c.parts.row % c.args.rows) ∷ c.args.starts.now; lengths = count ∷ c.args.lengths.now }) c.in_ok-part.part (c.in_ok-part.ensures {u = tt}).part.is in
    few_there c.parts.row c.args.start c.args.end count (product c.args.lengths.now) c.parts.done (product c.in_ok-part.part.lengths) c.parts.invariant.from (omega arith) c.parts.invariant.count (ap (λ (p : Region). product p.lengths) part_is) c.requires.few

pub returns-in_err-joined-clause-exact : goal.returns-in_err-joined-clause-exact
returns-in_err-joined-clause-exact g c =
    let readers = map g.D.ArrayPartialDecoderTraits.reader c.args.decoders.now in
    let current = map g.D.ArrayPartialDecoderTraits.reader c.parts.decoders in
    let count = c.min-count.result in
    let rows = c.args.rows in
    let row = c.parts.row in
    let starts = c.args.starts.now in
    let lengths = c.args.lengths.now in
    let part_is = same_part (record { starts = (row % rows) ∷ starts; lengths = count ∷ lengths }) c.in_ok-part.part (c.in_ok-part.ensures {u = tt}).part.is in
    let p = err_from_is_err_and c.from_residual-in_err-joined.result c.from_residual-in_err-joined.ensures.1 in
    λ sizes chunks read small inside fits.
    let number = row_in_chunks rows row c.args.end (length chunks) c.requires.positive (omega arith) fits in
    let there : row / rows < length c.parts.decoders = omega (arith, number, length-map c.parts.decoders g.D.ArrayPartialDecoderTraits.reader, ap length c.parts.invariant.kept, read.count_is) in
    let answer = step_answer c.rows_are_alike.ensures.law readers current rows sizes starts lengths chunks row count c.in_ok-part.part c.parts.invariant.kept part_is ((c.tuples_go_by_axis.ensures.box_in_shape sizes starts lengths).0 inside).starts_axes read small inside number (omega arith) in
    rw (p.1, p.2) (part_refused c.in_err-joined.field-0.0 _ (λ chunk. elements c.args.data_type.now c.parts.done c.parts.joined ++ chunk) (at_rows (array_element (rows ∷ sizes) chunks) starts lengths row count) (map (array_element (rows ∷ sizes) chunks) (box_tuples (c.args.start ∷ starts) ((c.args.end - c.args.start) ∷ lengths))) answer (c.in_err-joined.ensures.exact no_reader (omega (arith, there, length-map c.parts.decoders g.D.ArrayPartialDecoderTraits.reader))))

pub overflow_add-done : goal.overflow_add-done
overflow_add-done g c =
    let count = c.min-count.result in
    let part_is = same_part (record { starts = (c.parts.row % c.args.rows) ∷ c.args.starts.now; lengths = count ∷ c.args.lengths.now }) c.in_ok-part.part (c.in_ok-part.ensures {u = tt}).part.is in
    let more_is = counted_is c.in_ok-more.more (product c.in_ok-part.part.lengths) (c.in_ok-more.ensures {u = tt}).product ∙ ap (λ (p : Region). product p.lengths) part_is in
    omega (arith, few_there c.parts.row c.args.start c.args.end count (product c.args.lengths.now) c.parts.done c.in_ok-more.more c.parts.invariant.from (omega arith) c.parts.invariant.count more_is c.requires.few)

pub parts-preserved : goal.parts-preserved
parts-preserved g c =
    let readers = map g.D.ArrayPartialDecoderTraits.reader c.args.decoders.now in
    let current = map g.D.ArrayPartialDecoderTraits.reader c.parts.decoders in
    let count = c.min-count.result in
    let rows = c.args.rows in
    let row = c.parts.row in
    let starts = c.args.starts.now in
    let lengths = c.args.lengths.now in
    let part_is = same_part (record { starts = (row % rows) ∷ starts; lengths = count ∷ lengths }) c.in_ok-part.part (c.in_ok-part.ensures {u = tt}).part.is in
    let more_part : c.in_ok-more.more ≡ product c.in_ok-part.part.lengths = counted_is c.in_ok-more.more (product c.in_ok-part.part.lengths) (c.in_ok-more.ensures {u = tt}).product in
    let more_is = more_part ∙ ap (λ (p : Region). product p.lengths) part_is in
    record {
      from = omega arith;
      to = omega arith;
      count = count_there row c.args.start count (product lengths) c.parts.done c.in_ok-more.more c.parts.invariant.from c.parts.invariant.count more_is;
      valid = subst (λ (n : ℕ). validity c.args.data_type.now (c.parts.done + n) c.in_ok-joined.joined ≡ Ok tt) (sym more_part) (c.in_ok-joined.ensures {u = tt}).valid;
      kept = c.append_from.ensures.kept ∙ c.parts.invariant.kept;
      rows = λ sizes chunks read small inside fits.
          let number = row_in_chunks rows row c.args.end (length chunks) c.requires.positive (omega arith) fits in
          let there : row / rows < length c.parts.decoders = omega (arith, number, length-map c.parts.decoders g.D.ArrayPartialDecoderTraits.reader, ap length c.parts.invariant.kept, read.count_is) in
          let answer = step_answer c.rows_are_alike.ensures.law readers current rows sizes starts lengths chunks row count c.in_ok-part.part c.parts.invariant.kept part_is ((c.tuples_go_by_axis.ensures.box_in_shape sizes starts lengths).0 inside).starts_axes read small inside number (omega arith) in
          more_read c.boxes_are_cut.ensures.law (array_element (rows ∷ sizes) chunks) c.args.data_type.now c.parts.done c.parts.joined c.in_ok-joined.joined starts lengths c.args.start row count _ c.parts.invariant.from (box_count c.numbers_name_elements.ensures.in_box (c.args.start ∷ starts) ((row - c.args.start) ∷ lengths) (ap suc c.requires.axes)) c.parts.invariant.count (c.parts.invariant.rows sizes chunks read small inside fits) answer ((c.in_ok-joined.ensures {u = tt}).exact no_reader (omega (arith, there, length-map c.parts.decoders g.D.ArrayPartialDecoderTraits.reader)));
    }
