use Rattle.std.proofs.Common.{◌∙◌, ◌<◌, ◌^◌, Err, IfOk, List, ℕ, length, refl, sym, subst, ap, arith}
use Rattle.std.proofs.lemmas.Result.{err_from_is_err_and}
use Rattle.zarrs_chunk.specs.ChunkShape.{product}
use Rattle.zarrs_chunk.specs.declared.codec_error.CodecError.TheVariants.{ElementCount}
use Rattle.zarrs_data_type.specs.Form.{form_of}
use Rattle.zarrs_array_bytes.specs.Held.{owned_bytes, vlen}
use Rattle.zarrs_array_bytes.specs.Tight.{flush_with_offsets}
use Rattle.zarrs_array_bytes.proofs.FlushLemmas.{HoldsSame}
use Rattle.zarrs_array_bytes.proofs.ValidLemmas.{raw_items}
use Rattle.zarrs_bytes.proofs.Coding.{checked_ok}
use Rattle.zarrs_codec.specs.Grammar.{Decodes}
use Rattle.zarrs_vlen_v2.specs.VlenV2Grammar.{vlen_v2_grammar}
use Rattle.zarrs_vlen_v2.proofs.ByGrammar.{vlen_v2_decodes}
use Rattle.zarrs_vlen_v2.proofs.Decoding.{other_count, not_decoded, offsets_same, parts_hold, is_made}
use Rattle.zarrs_vlen_v2.proofs.vlen_v2_codec.VlenV2Codec.decode.Goals as goal

pub returns-then-read_number-count-clause-decodes : goal.returns-then-read_number-count-clause-decodes
returns-then-read_number-count-clause-decodes c =
    let form = form_of c.args.shape.now c.args.data_type.now c.args.fill_value.now in
    let codec = c.args.self.now in
    let items = c.as_slice-items.result.now in
    let count = (checked_ok (product c.args.shape.now) c.in_ok-count.count (sym c.in_ok-count.ensures.answer)).1 in
    subst (λ (v : List ℕ). Decodes (vlen_v2_grammar codec) form v (Err ElementCount)) (c.as_slice-items.ensures.value ∙ raw_items c.args.value)
    (vlen_v2_decodes codec form items (Err ElementCount) (λ _. other_count codec form c.in_ok-encoded_representation.field-0 items c.read_number.result c.in_ok-count.count (sym c.in_ok-encoded_representation.ensures.answer) c.if-items-lt-NUMBER_SIZE.false c.read_number.ensures.value count c.if-read_number-count.true) refl)

pub returns-in_err-bytes-clause-decodes : goal.returns-in_err-bytes-clause-decodes
returns-in_err-bytes-clause-decodes c =
    let form = form_of c.args.shape.now c.args.data_type.now c.args.fill_value.now in
    let codec = c.args.self.now in
    let items = c.as_slice-items.result.now in
    let err = c.in_err-bytes.field-0.0 in
    let count = (checked_ok (product c.args.shape.now) c.in_ok-count.count (sym c.in_ok-count.ensures.answer)).1 in
    let p = err_from_is_err_and c.from_residual-in_err-bytes.result c.from_residual-in_err-bytes.ensures.1 in
    let answer = c.in_err-bytes.ensures.answer in
    rw (p.1, p.2)
    (subst (λ (v : List ℕ). Decodes (vlen_v2_grammar codec) form v (Err err)) (c.as_slice-items.ensures.value ∙ raw_items c.args.value)
    (vlen_v2_decodes codec form items (Err err) (λ e. not_decoded codec form c.in_ok-encoded_representation.field-0 items c.in_ok-count.count err (sym c.in_ok-encoded_representation.ensures.answer) c.if-items-lt-NUMBER_SIZE.false (sym c.read_number.ensures.value ∙ c.if-read_number-count.false) count (answer.is e)) answer.no_fault))

pub returns-clause-decodes : goal.returns-clause-decodes
returns-clause-decodes c =
    let type = c.args.data_type.now in
    let form = form_of c.args.shape.now type c.args.fill_value.now in
    let codec = c.args.self.now in
    let items = c.as_slice-items.result.now in
    let result = c.new_flush.result in
    let raw = owned_bytes c.in_ok-bytes.bytes.items in
    let offsets = c.in_ok-bytes.offsets.items in
    let same = offsets_same offsets c.in_ok-offsets.offsets c.in_ok-offsets.ensures.answer in
    let made = c.new_flush.ensures.answer ∙ ap (flush_with_offsets raw) same in
    let kept = subst (λ (numbers : List ℕ). IfOk result (HoldsSame (vlen raw numbers))) same c.new_flush.ensures.same in
    let count = (checked_ok (product c.args.shape.now) c.in_ok-count.count (sym c.in_ok-count.ensures.answer)).1 in
    let small : length offsets < 2 ^ 64 = omega (arith, c.in_ok-bytes.offsets.ok, c.in_ok-bytes.offsets.small) in
    let holds = parts_hold codec form c.in_ok-encoded_representation.field-0 items c.in_ok-count.count raw offsets result (sym c.in_ok-encoded_representation.ensures.answer) c.if-items-lt-NUMBER_SIZE.false (sym c.read_number.ensures.value ∙ c.if-read_number-count.false) count c.in_ok-bytes.ensures.answer.is small made c.in_ok-bytes.ensures.ending kept in
    subst (λ (v : List ℕ). Decodes (vlen_v2_grammar codec) form v result) (c.as_slice-items.ensures.value ∙ raw_items c.args.value)
    (vlen_v2_decodes codec form items result holds (is_made raw offsets result made c.in_ok-bytes.ensures.ending))
