use Rattle.std.proofs.Common.{rules, ◌≡◌, ◌+◌, ◌-◌, ◌*◌, ◌/◌, ◌%◌, ◌<◌, ◌^◌, ◌++◌, [], ℕ, List, Ok, arith, drop, get_or, length, replicate, take, ap, sym, subst, refl, ◌∙◌, length-drop}
use Rattle.std.specs.List.{flat_map, range_with_len}
use Rattle.std.proofs.lemmas.Nat.{row_fits}
use Rattle.zarrs_array_bytes.specs.Elements.{elements}
use Rattle.zarrs_array_bytes.specs.Validity.{Holds}
use Rattle.zarrs_bytes.proofs.Coding.{ok}
use Rattle.zarrs_chunk.specs.Answer.{AnswersBy, GivesBy, memory}
use Rattle.zarrs_chunk.specs.ChunkShape.{product}
use Rattle.zarrs_chunk.specs.declared.codec_error.CodecError.{CodecError}
use Rattle.zarrs_data_type.specs.Element.{Chunk}
use Rattle.zarrs_shard_bytes.specs.Bands.{AreJoinable, IsElementPart, chunks_of, inner_element, part_elements}
use Rattle.zarrs_shard_bytes.proofs.Bands.{along_first, joins_end, joins_on, length_part, part_counted, part_fits, rest_counted, row_is}
use Rattle.zarrs_shard_bytes.proofs.Rows.{behind_first, more_rows, next_part, parts_found, some_axis}
use Rattle.zarrs_shard_bytes.proofs.joined_bands.+append_part.Goals as goal

pub append_row-requires-clause-inside : goal.append_row-requires-clause-inside
append_row-requires-clause-inside t c = (part_fits (length c.args.contents.now) c.args.whole c.args.number c.args.count c.args.first c.args.each c.args.shape.now c.args.sizes.now c.requires.part).1

pub returns-then-is_row-clause-answer : goal.returns-then-is_row-clause-answer
returns-then-is_row-clause-answer t c =
    let type = c.args.data_type.now in
    let all = row_is type c.args.contents.now c.args.whole c.args.number c.args.count c.args.first c.args.each c.args.shape.now c.args.sizes.now c.requires.part (cc) in
    subst (λ (more : Chunk). GivesBy (Holds type) c.append_row.result (ok (elements type c.args.done c.args.elements ++ more))) all c.append_row.ensures.answer

pub overflow_mul-index : goal.overflow_mul-index
overflow_mul-index t c =
    let shape : List ℕ = c.args.shape.now in
    let sizes : List ℕ = c.args.sizes.now in
    let some = some_axis shape sizes c.requires.axes (cc) in
    let index = c.loop-index.index in
    let rest = rest_counted (length c.args.contents.now) c.args.whole c.args.number c.args.count c.args.first c.args.each shape sizes index c.requires.part c.requires.axes some c.loop-index-test.true in
    let fits = row_fits index (product (drop 1 sizes)) (get_or sizes 0 0) (product (drop 1 sizes)) c.loop-index-test.true (omega arith) in
    let total = along_first sizes (omega (arith, some, c.requires.axes)) in
    let all = part_counted (length c.args.contents.now) c.args.whole c.args.number c.args.count c.args.first c.args.each shape sizes c.requires.part in
    let times : index * (c.args.count / (get_or sizes 0 0 / get_or shape 0 0) * (c.args.each / get_or shape 0 0)) ≡ index * product (drop 1 sizes) = ap (λ n. index * n) rest in
    omega (arith, times, fits, total, all, c.requires.counted)

pub overflow_add-done : goal.overflow_add-done
overflow_add-done t c =
    let shape : List ℕ = c.args.shape.now in
    let sizes : List ℕ = c.args.sizes.now in
    let some = some_axis shape sizes c.requires.axes (cc) in
    let index = c.loop-index.index in
    let rest = rest_counted (length c.args.contents.now) c.args.whole c.args.number c.args.count c.args.first c.args.each shape sizes index c.requires.part c.requires.axes some c.loop-index-test.true in
    let fits = row_fits index (product (drop 1 sizes)) (get_or sizes 0 0) (product (drop 1 sizes)) c.loop-index-test.true (omega arith) in
    let total = along_first sizes (omega (arith, some, c.requires.axes)) in
    let all = part_counted (length c.args.contents.now) c.args.whole c.args.number c.args.count c.args.first c.args.each shape sizes c.requires.part in
    let times : index * (c.args.count / (get_or sizes 0 0 / get_or shape 0 0) * (c.args.each / get_or shape 0 0)) ≡ index * product (drop 1 sizes) = ap (λ n. index * n) rest in
    omega (arith, times, fits, total, all, c.requires.counted)

pub append_part-requires : goal.append_part-requires
append_part-requires t c =
    let shape : List ℕ = c.args.shape.now in
    let sizes : List ℕ = c.args.sizes.now in
    let chunks : ℕ = length c.args.contents.now in
    let whole = c.args.whole in
    let some = some_axis shape sizes c.requires.axes (cc) in
    let index = c.loop-index.index in
    let n = c.args.count / (get_or sizes 0 0 / get_or shape 0 0) in
    let m = c.args.each / get_or shape 0 0 in
    let part = next_part 1 (replicate chunks (replicate whole 0)) c.args.number c.args.count c.args.first c.args.each shape sizes index c.requires.part c.requires.axes some c.loop-index-test.true in
    let rest : n * m ≡ product (drop 1 sizes) = rest_counted chunks whole c.args.number c.args.count c.args.first c.args.each shape sizes index c.requires.part c.requires.axes some c.loop-index-test.true in
    let fits = row_fits index (product (drop 1 sizes)) (get_or sizes 0 0) (product (drop 1 sizes)) c.loop-index-test.true (omega arith) in
    let total = along_first sizes (omega (arith, some, c.requires.axes)) in
    let all = part_counted chunks whole c.args.number c.args.count c.args.first c.args.each shape sizes c.requires.part in
    let times : index * (n * m) ≡ index * product (drop 1 sizes) = ap (λ k. index * k) rest in
    let counted : c.args.done + index * (n * m) + n * m < 2 ^ 64 = omega (arith, times, rest, fits, total, all, c.requires.counted) in
    let short : length (take (length shape - 1) (drop 1 shape)) < length shape = omega (arith, some, ap (λ (xs : List ℕ). length xs) (behind_first shape), length-drop 1 shape) in
    let same : length (take (length shape - 1) (drop 1 shape)) ≡ length (take (length sizes - 1) (drop 1 sizes)) = omega (arith, c.requires.axes, ap (λ (xs : List ℕ). length xs) (behind_first shape), length-drop 1 shape, ap (λ (xs : List ℕ). length xs) (behind_first sizes), length-drop 1 sizes) in
    let there : IsElementPart chunks whole (c.args.number + index / get_or shape 0 0 * n) n (c.args.first + index % get_or shape 0 0 * m) m (take (length shape - 1) (drop 1 shape)) (take (length sizes - 1) (drop 1 sizes)) =
    subst (λ (xs : List ℕ). IsElementPart chunks whole (c.args.number + index / get_or shape 0 0 * n) n (c.args.first + index % get_or shape 0 0 * m) m xs (take (length sizes - 1) (drop 1 sizes))) (sym (behind_first shape))
    (subst (λ (xs : List ℕ). IsElementPart chunks whole (c.args.number + index / get_or shape 0 0 * n) n (c.args.first + index % get_or shape 0 0 * m) m (drop 1 shape) xs) (sym (behind_first sizes)) part) in
    let joinable : AreJoinable c.args.data_type.now (c.args.done + index * (n * m)) whole c.loop-index.elements c.args.contents.now = record {
      valid = c.loop-index.invariant.joins.valid;
      tight = c.loop-index.invariant.tight;
      contents_valid = c.requires.joinable.contents_valid;
      contents_tight = c.requires.joinable.contents_tight;
    } in
    (search rules, (there, (same, (joinable, counted))))

pub loop-index-preserved : goal.loop-index-preserved
loop-index-preserved t c =
    let type = c.args.data_type.now in
    let shape : List ℕ = c.args.shape.now in
    let sizes : List ℕ = c.args.sizes.now in
    let chunks = chunks_of type c.args.whole c.args.contents.now in
    let some = some_axis shape sizes c.requires.axes (cc) in
    let index : ℕ = c.loop-index.index in
    let n : ℕ = c.args.count / (get_or sizes 0 0 / get_or shape 0 0) in
    let m : ℕ = c.args.each / get_or shape 0 0 in
    let rest : n * m ≡ product (drop 1 sizes) = rest_counted (length c.args.contents.now) c.args.whole c.args.number c.args.count c.args.first c.args.each shape sizes index c.requires.part c.requires.axes some c.loop-index-test.true in
    let g : ℕ → Chunk = λ index. part_elements chunks (c.args.number + index / get_or shape 0 0 * n) (c.args.first + index % get_or shape 0 0 * m) (drop 1 shape) (drop 1 sizes) in
    let old : Chunk = flat_map g (range_with_len 0 index) in
    let total : (index + 1) * (n * m) ≡ index * (n * m) + n * m = omega arith in
    let at : ℕ = c.args.done + index * (n * m) in
    let given : AnswersBy {E = CodecError} memory (Holds type) (Ok c.in_ok-elements.elements) (Ok (elements type at c.loop-index.elements ++ g index)) =
    subst (λ (xs : List ℕ). AnswersBy {E = CodecError} memory (Holds type) (Ok c.in_ok-elements.elements) (Ok (elements type at c.loop-index.elements ++ part_elements chunks (c.args.number + index / get_or shape 0 0 * n) (c.args.first + index % get_or shape 0 0 * m) xs (drop 1 sizes)))) (behind_first shape)
    (subst (λ (xs : List ℕ). AnswersBy {E = CodecError} memory (Holds type) (Ok c.in_ok-elements.elements) (Ok (elements type at c.loop-index.elements ++ part_elements chunks (c.args.number + index / get_or shape 0 0 * n) (c.args.first + index % get_or shape 0 0 * m) (take (length shape - 1) (drop 1 shape)) xs))) (behind_first sizes) c.in_ok-elements.ensures.answer.is) in
    record {
      joins = joins_on type c.args.done (index * (n * m)) (n * m) ((index + 1) * (n * m)) at c.args.elements c.loop-index.elements c.in_ok-elements.elements old (g index) (flat_map g (range_with_len 0 (index + 1))) c.loop-index.invariant.joins refl total
          (length_part chunks (c.args.number + index / get_or shape 0 0 * n) (c.args.first + index % get_or shape 0 0 * m) (drop 1 shape) (drop 1 sizes) ∙ sym rest) given (sym (more_rows g [] old (old ++ g index) index refl refl));
      tight = c.in_ok-elements.ensures.tight;
    }

pub returns-clause-answer : goal.returns-clause-answer
returns-clause-answer t c =
    let type = c.args.data_type.now in
    let shape : List ℕ = c.args.shape.now in
    let sizes : List ℕ = c.args.sizes.now in
    let chunks = chunks_of type c.args.whole c.args.contents.now in
    let some = some_axis shape sizes c.requires.axes (cc) in
    let index : ℕ = c.loop-index.index in
    let n : ℕ = c.args.count / (get_or sizes 0 0 / get_or shape 0 0) in
    let m : ℕ = c.args.each / get_or shape 0 0 in
    let end : index ≡ get_or sizes 0 0 = omega arith in
    let g : ℕ → Chunk = λ index. part_elements chunks (c.args.number + index / get_or shape 0 0 * n) (c.args.first + index % get_or shape 0 0 * m) (drop 1 shape) (drop 1 sizes) in
    let all = parts_found (inner_element chunks) 1 (replicate (length c.args.contents.now) (replicate c.args.whole 0)) c.args.number c.args.count c.args.first c.args.each shape sizes c.requires.part c.requires.axes some in
    record {
      is = joins_end type c.args.done (index * (n * m)) c.args.elements c.loop-index.elements (flat_map g (range_with_len 0 index)) (part_elements chunks c.args.number c.args.first shape sizes) c.loop-index.invariant.joins (sym all ∙ ap (λ k. flat_map g (range_with_len 0 k)) (sym end));
      no_fault = refl;
    }
