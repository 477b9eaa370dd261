use Rattle.std.proofs.Common.{◌≡◌, ◌∙◌, ℕ, List, Result, subst}
use Rattle.std.specs.Prelude.{IsOkAnd}
use Rattle.zarrs_chunk.specs.Answer.{Answers, memory}
use Rattle.zarrs_chunk.specs.ChunkShape.{product}
use Rattle.zarrs_chunk.specs.Runs.{joined_runs}
use Rattle.zarrs_chunk.specs.declared.codec_error.CodecError.{CodecError}
use Rattle.zarrs_array_bytes.specs.Chunks.{fill_chunk, update_at_places}
use Rattle.zarrs_array_bytes.specs.Held.{items_of}
use Rattle.zarrs_array_bytes.specs.Validity.{Holds}
use Rattle.zarrs_bytes.proofs.PartWrites.{counted, number_is, fills_encoded}
use Rattle.zarrs_bytes.proofs.bytes_codec.BytesCodec.value_from_fill.Goals as goal

pub returns : goal.returns
returns c =
    let order = c.args.self.now in
    let sizes = c.args.shape.now in
    let type = c.args.data_type.now in
    let fill = c.args.fill.now in
    let places = joined_runs c.args.runs.now in
    let new = c.args.new.now in
    let count : c.in_ok-count.count ≡ product sizes = number_is (product sizes) c.in_ok-count.count (c.in_ok-count.ensures.answer ∙ counted order sizes type fill c.requires.taken) in
    let filled : IsOkAnd (fill_chunk type (product sizes) fill) (Holds type c.in_ok-filled.filled) = subst (λ n. IsOkAnd (fill_chunk type n fill) (Holds type c.in_ok-filled.filled)) count c.in_ok-filled.ensures.exact.is in
    let edited : IsOkAnd (update_at_places type (product sizes) places c.in_ok-filled.filled new) (Holds type c.in_ok-edited.edited) = subst (λ n. IsOkAnd (update_at_places type n places c.in_ok-filled.filled new) (Holds type c.in_ok-edited.edited)) count c.in_ok-edited.ensures.answer.is in
    record { answer = record { is = subst (λ (due : Result (List ℕ) CodecError). Answers memory items_of c.encode.result due) (fills_encoded order sizes type fill c.requires.taken places new c.requires.fit c.in_ok-filled.filled c.in_ok-edited.edited filled edited) c.encode.ensures.encodes.exact; no_fault = c.encode.ensures.encodes.no_fault } }
