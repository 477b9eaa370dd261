use Rattle.std.proofs.Common.{refl, sym}
use Rattle.zarrs_chain_meaning.specs.BytesStages.{outer_bytes}
use Rattle.zarrs_chain.specs.ChainView.{plain_chain}
use Rattle.zarrs_codec.proofs.CallLemmas.{after_reads-none}
use Rattle.zarrs_codecs.proofs.PartialCalls.{held_after, is_valid, same_stored}
use Rattle.zarrs_codecs.proofs.partial_decoder.make_cache.make_cache.Goals as goal

pub returns-in_ok-held-in-Some-2-clause-answer : goal.returns-in_ok-held-in-Some-2-clause-answer
returns-in_ok-held-in-Some-2-clause-answer g c =
    let f = g.B.BytesToBytesCodecTraits.functions in
    let chain = plain_chain c.args.chain.now in
    let stored = same_stored _ _ (rw c.in-Some-2.is at c.in_ok-decode-in-Chunk.ensures.answer) in
    let h = held_after f chain.array_to_bytes c.args.form.shape.now c.args.form.data_type.now c.args.form.fill_value.now c.in_ok-held-in-Some-2.held (outer_bytes f chain.bytes_to_bytes c.args.representation c.in-Some-2.value.items) c.in_ok-held-in-Some-2.ensures.answer.is in
    rw (c.in-Chunk.is, stored, h.0) refl

pub returns-in_ok-held-in-Some-2-clause-fits : goal.returns-in_ok-held-in-Some-2-clause-fits
returns-in_ok-held-in-Some-2-clause-fits g c =
    let f = g.B.BytesToBytesCodecTraits.functions in
    let chain = plain_chain c.args.chain.now in
    let h = held_after f chain.array_to_bytes c.args.form.shape.now c.args.form.data_type.now c.args.form.fill_value.now c.in_ok-held-in-Some-2.held (outer_bytes f chain.bytes_to_bytes c.args.representation c.in-Some-2.value.items) c.in_ok-held-in-Some-2.ensures.answer.is in
    is_valid _ h.1

pub returns-in-Nowhere-clause-counted : goal.returns-in-Nowhere-clause-counted
returns-in-Nowhere-clause-counted g c = sym (after_reads-none (g.H.BytesPartialDecoderTraits.calls c.args.handle.now))
