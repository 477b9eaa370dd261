use Rattle.std.proofs.Common.{◌≡◌, ℕ, ◌*◌, [], Ok, Err, arith, refl, ap, ap₂, subst, length, true, sym, ◌∙◌}
use Rattle.std.proofs.lemmas.Result.{err_from_is_err_and}
use Rattle.zarrs_chunk.specs.Answer.{AnswersBy, memory, seen}
use Rattle.zarrs_chunk.specs.ChunkShape.{product}
use Rattle.zarrs_array_bytes.specs.Held.{flen, owned_bytes}
use Rattle.zarrs_array_bytes.specs.Validity.{Holds, validity}
use Rattle.zarrs_codec.specs.MappedChunk.{decoded_chunk}
use Rattle.zarrs_metadata.specs.Orders.{is_order}
use Rattle.zarrs_metadata.proofs.Orders.{order_parts, order_from}
use Rattle.zarrs_array_to_array.specs.ArrayToArrayCodec.{coordinates, transpose}
use Rattle.zarrs_array_to_array.specs.CodecAnswers.{type_taken}
use Rattle.zarrs_array_to_array.specs.Orders.{permuted, inverse}
use Rattle.zarrs_array_to_array.proofs.CodecAnswers.{decoded_answers}
use Rattle.zarrs_array_to_array.proofs.MappedChunks.{where_expected, transpose_decoded-chunk, decoded_refused, no_memory}
use Rattle.zarrs_array_to_array.proofs.Orders.{inverse_order, length-inverse, length-permuted, permuted_product}
use Rattle.zarrs_array_to_array.proofs.Transposition.{permuted_positive}
use Rattle.zarrs_array_to_array.proofs.transpose.transpose_codec.TransposeCodec.decode_into.Goals as goal

pub put_elements-requires-clause-order : goal.put_elements-requires-clause-order
put_elements-requires-clause-order c =
    rw (c.as_slice-2.ensures.value, c.in_ok-back.ensures.value) (order_from _ (inverse_order c.order-order.result.now (order_parts c.order-order.result.now c.order-order.ensures.order)))

pub put_elements-requires-clause-axes : goal.put_elements-requires-clause-axes
put_elements-requires-clause-axes c =
    let order = c.order-order.result.now in
    let sizes = c.as_slice.result.now in
    let axes : length order ≡ length sizes = ap length c.order-order.ensures.value ∙ c.in_ok-check.ensures.axes ∙ ap length (sym c.as_slice.ensures.value) in
    ap length (c.as_slice-2.ensures.value ∙ c.in_ok-back.ensures.value) ∙ length-inverse order
    ∙ sym (ap length (c.as_slice-3.ensures.value ∙ c.in_ok-encoded.ensures.value) ∙ length-permuted order sizes)

pub put_elements-requires-clause-positive : goal.put_elements-requires-clause-positive
put_elements-requires-clause-positive c =
    let order = c.order-order.result.now in
    let sizes = c.as_slice.result.now in
    let axes : length order ≡ length sizes = ap length c.order-order.ensures.value ∙ c.in_ok-check.ensures.axes ∙ ap length (sym c.as_slice.ensures.value) in
    rw (c.as_slice-3.ensures.value, c.in_ok-encoded.ensures.value) (permuted_positive order sizes (order_parts order c.order-order.ensures.order) axes c.as_slice.ensures.positive)

pub put_elements-requires-clause-fits : goal.put_elements-requires-clause-fits
put_elements-requires-clause-fits c =
    let order = c.order-order.result.now in
    let sizes = c.as_slice.result.now in
    let axes : length order ≡ length sizes = ap length c.order-order.ensures.value ∙ c.in_ok-check.ensures.axes ∙ ap length (sym c.as_slice.ensures.value) in
    let same : product c.as_slice-3.result.now ≡ product c.args.shape.now = ap product (c.as_slice-3.ensures.value ∙ c.in_ok-encoded.ensures.value) ∙ permuted_product order sizes (order_parts order c.order-order.ensures.order) axes ∙ ap product c.as_slice.ensures.value in
    omega (arith, same, c.in_ok-check.ensures.count)

pub put_elements-requires-clause-valid : goal.put_elements-requires-clause-valid
put_elements-requires-clause-valid c =
    let order = c.order-order.result.now in
    let sizes = c.as_slice.result.now in
    let axes : length order ≡ length sizes = ap length c.order-order.ensures.value ∙ c.in_ok-check.ensures.axes ∙ ap length (sym c.as_slice.ensures.value) in
    let same : product c.as_slice-3.result.now ≡ product c.args.shape.now = ap product (c.as_slice-3.ensures.value ∙ c.in_ok-encoded.ensures.value) ∙ permuted_product order sizes (order_parts order c.order-order.ensures.order) axes ∙ ap product c.as_slice.ensures.value in
    ap (λ (n : ℕ). validity c.args.data_type.now n c.args.bytes.now) (same ∙ c.in_ok-check.ensures.count) ∙ c.in_ok-check.ensures.valid

pub put_elements-requires-clause-len : goal.put_elements-requires-clause-len
put_elements-requires-clause-len c =
    let order = c.order-order.result.now in
    let sizes = c.as_slice.result.now in
    let axes : length order ≡ length sizes = ap length c.order-order.ensures.value ∙ c.in_ok-check.ensures.axes ∙ ap length (sym c.as_slice.ensures.value) in
    let same : product c.as_slice-3.result.now ≡ product c.args.shape.now = ap product (c.as_slice-3.ensures.value ∙ c.in_ok-encoded.ensures.value) ∙ permuted_product order sizes (order_parts order c.order-order.ensures.order) axes ∙ ap product c.as_slice.ensures.value in
    c.requires.len ∙ ap (λ (n : ℕ). n * c.args.size) (sym same)

pub returns-in_err-check : goal.returns-in_err-check
returns-in_err-check c =
    let p = err_from_is_err_and c.from_residual.result c.from_residual.ensures.1 in
    record {
      moved = record {
        raw = owned_bytes [];
        there = rw p.1 (tt, refl);
        answered = decoded_refused c.args.self.now c.args.shape.now c.args.data_type.now c.args.bytes.now c.in_err-check.field-0.0 _ (sym c.in_err-check.ensures.exact);
      };
    }

pub returns-in_err-back : goal.returns-in_err-back
returns-in_err-back c =
    let p = err_from_is_err_and c.from_residual-in_err-back.result c.from_residual-in_err-back.ensures.1 in
    record { moved = record { raw = owned_bytes []; there = rw p.1 (tt, refl); answered = rw (p.1, p.2) (no_memory (decoded_chunk (type_taken (transpose c.args.self.now) c.args.data_type.now) (coordinates (transpose c.args.self.now) c.args.shape.now) c.args.data_type.now c.args.shape.now c.args.bytes.now) (Holds c.args.data_type.now)) } }

pub returns-in_err-encoded : goal.returns-in_err-encoded
returns-in_err-encoded c =
    let p = err_from_is_err_and c.from_residual-in_err-encoded.result c.from_residual-in_err-encoded.ensures.1 in
    record { moved = record { raw = owned_bytes []; there = rw p.1 (tt, refl); answered = rw (p.1, p.2) (no_memory (decoded_chunk (type_taken (transpose c.args.self.now) c.args.data_type.now) (coordinates (transpose c.args.self.now) c.args.shape.now) c.args.data_type.now c.args.shape.now c.args.bytes.now) (Holds c.args.data_type.now)) } }

pub returns : goal.returns
returns c =
    let order = c.args.self.now in
    let sizes = c.args.shape.now in
    let type = c.args.data_type.now in
    let held = c.args.bytes.now in
    let w = c.put_elements.ensures.written in
    let answer = seen (λ _. flen w.raw) c.put_elements.result in
    let seen_order : c.order-order.result.now ≡ order = c.order-order.ensures.value in
    let is : is_order order ≡ true = rw (← seen_order) c.order-order.ensures.order in
    let axes : c.as_slice-2.result.now ≡ inverse order = c.as_slice-2.ensures.value ∙ c.in_ok-back.ensures.value ∙ ap inverse seen_order in
    let lengths : c.as_slice-3.result.now ≡ permuted order sizes = c.as_slice-3.ensures.value ∙ c.in_ok-encoded.ensures.value ∙ ap₂ (λ a l. permuted a l) seen_order c.as_slice.ensures.value in
    let same : product sizes ≡ product c.as_slice-3.result.now = sym (ap product lengths ∙ permuted_product order sizes (order_parts order is) c.in_ok-check.ensures.axes) in
    let exact = decoded_answers order sizes c.as_slice-2.result.now c.as_slice-3.result.now type held (product c.as_slice-3.result.now) answer is c.in_ok-check.ensures.axes (sym c.in_ok-check.ensures.exact) same axes lengths w.answered.is in
    record {
      moved = record {
        raw = w.raw;
        there = w.there;
        answered = where_expected (Holds type) answer (decoded_chunk (type_taken (transpose order) type) (coordinates (transpose order) sizes) type sizes held)
            (subst (λ expected. AnswersBy memory (Holds type) answer expected) (transpose_decoded-chunk order sizes type held) exact);
      };
    }
