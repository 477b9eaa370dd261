use Rattle.std.proofs.Common.{◌≡◌, ℕ, Some, true, List, drop, map}
use Rattle.zarrs_array_bytes.specs.Tight.{IsTight}
use Rattle.zarrs_chain_meaning.specs.sharding.Sharding.{spans_of}
use Rattle.zarrs_codecs.proofs.PartWalks.{PutTo}
use Rattle.zarrs_codecs.specs.BoxReads.{blank_box, part_group}
use Rattle.zarrs_codecs.specs.ChunkRead.{are_given_sure}
use Rattle.zarrs_codecs.specs.ShardRead.{groups_rest}
use Rattle.zarrs_codecs.specs.SpanReads.{chain_read, chain_rests, seen_state}
use Rattle.zarrs_codecs.specs.TakenChain.{inner_form}
use Rattle.zarrs_codecs.proofs.sharding.part_reads.read_parts.Given as goal

-- the parts so far are put in place, and nothing else is changed
abbrev pub invariant-loop-part : goal.invariant-loop-part
invariant-loop-part g l =
    let f = g.B.BytesToBytesCodecTraits.functions in
    let before = seen_state l.span (g.H.BytesPartialDecoderTraits.state l.fn.handle) in
    let form = inner_form l.taken in
    let pg = part_group form.sizes l.grid in
    record {
      walk : (value : List ℕ) → before.value ≡ Some value → PutTo (chain_read f form.chain) form.sizes form.type form.fill value (spans_of l.numbers) l.grid l.lengths l.parts (blank_box form.type form.fill l.lengths) l.part-index l.elements;
      sure : (value : List ℕ) → before.value ≡ Some value → are_given_sure before.sure (groups_rest (chain_rests f form.chain) form.sizes form.type form.fill value (spans_of l.numbers) (map pg l.parts)) ≡ true → are_given_sure before.sure (groups_rest (chain_rests f form.chain) form.sizes form.type form.fill value (spans_of l.numbers) (map pg (drop l.part-index l.parts))) ≡ true;
      tight : IsTight form.type l.elements;
      state : g.H.BytesPartialDecoderTraits.state l.handle ≡ g.H.BytesPartialDecoderTraits.state l.fn.handle;
      lent : g.H.BytesPartialDecoderTraits.lent l.handle ≡ g.H.BytesPartialDecoderTraits.lent l.fn.handle;
    }
