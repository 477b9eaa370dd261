use Rattle.std.proofs.Common.{◌≡◌, Some, Option, List, ℕ, ap, sym, ◌∙◌}
use Rattle.std.proofs.lemmas.Result.{err_from_is_err_and}
use Rattle.std.specs.Cow.{cow_slice_items}
use Rattle.std.specs.declared.alloc.Global.{Global}
use Rattle.std.specs.declared.borrow.CowSlice.{CowSlice}
use Rattle.zarrs_array_bytes.proofs.ValidLemmas.{raw_items}
use Rattle.zarrs_array_bytes.specs.Held.{items_of}
use Rattle.zarrs_chain.specs.sharding.ShardingCalls.{index_size_of}
use Rattle.zarrs_chain_meaning.proofs.ArraySteps.{ok_is}
use Rattle.zarrs_chain_meaning.specs.sharding.InnerChunks.{grid}
use Rattle.zarrs_codecs.proofs.SpanSeen.{numbers_answered, part_sure}
use Rattle.zarrs_codecs.proofs.sharding.index_read.index_numbers.Goals as goal

part_there : (slice : CowSlice ℕ Global) (bytes : List ℕ) (stored : Option (List ℕ)) → bytes ≡ cow_slice_items slice → stored ≡ Some (items_of slice) → Some bytes ≡ stored
part_there slice bytes stored e h = ap (λ (b : List ℕ). Some b) (e ∙ raw_items slice) ∙ sym h

pub returns-in_err-part-clause-sure : goal.returns-in_err-part-clause-sure
returns-in_err-part-clause-sure g c =
    let f = g.B.BytesToBytesCodecTraits.functions in
    let index = c.args.index_codecs.now in
    let state = g.H.BytesPartialDecoderTraits.state c.args.handle.now in
    let grid_is = ok_is c.in_ok-grid.grid (grid c.args.inner.now c.args.shape.now) (sym c.in_ok-grid.ensures.answer.is ∙ c.requires.grid) in
    let sized = ap (λ (counts : List ℕ). index_size_of f index counts) (sym grid_is) ∙ c.in_ok-size.ensures.answer.is in
    let p = err_from_is_err_and c.from_residual-in_err-part.result c.from_residual-in_err-part.ensures.1 in
    rw sized (λ h. rw (p.1, p.2) (c.in_err-part.ensures.sure (part_sure f index c.args.inner.now c.args.shape.now c.args.at_end c.args.span.now state c.requires.stands c.in_ok-size.size sized c.in_ok-place.place c.in_ok-place.ensures.answer h)))

pub returns-clause-answer : goal.returns-clause-answer
returns-clause-answer g c =
    let f = g.B.BytesToBytesCodecTraits.functions in
    let index = c.args.index_codecs.now in
    let state = g.H.BytesPartialDecoderTraits.state c.args.handle.now in
    let grid_is = ok_is c.in_ok-grid.grid (grid c.args.inner.now c.args.shape.now) (sym c.in_ok-grid.ensures.answer.is ∙ c.requires.grid) in
    let sized = ap (λ (counts : List ℕ). index_size_of f index counts) (sym grid_is) ∙ c.in_ok-size.ensures.answer.is in
    numbers_answered f index c.args.inner.now c.args.shape.now c.args.at_end c.args.span.now state c.requires.stands c.in_ok-size.size sized c.in_ok-place.place c.in_ok-place.ensures.answer c.as_slice.result.now c.in_ok-grid.grid c.index_decode.result
    (part_there c.in_ok-part.part c.as_slice.result.now _ c.as_slice.ensures.value (ok_is _ _ c.in_ok-part.ensures.answer)) grid_is c.index_decode.ensures.answer.is
