use Rattle.std.proofs.Common.{◌<◌, subst}
use Rattle.std.specs.List.{All}
use Rattle.zarrs_chain.proofs.ShardForms.{taken_form_is, taken_normal}
use Rattle.zarrs_chain.proofs.sharding.shard_form.shard_form.Goals as goal

pub returns : goal.returns
returns g c =
    let f = g.B.BytesToBytesCodecTraits.functions in
    record {
      form = taken_form_is f c.args.chain.now c.args.index_chain.now c.args.inner.now c.args.shape.now c.args.data_type.now c.args.fill.now (subst (All (λ size. 0 < size)) c.as_slice.ensures.value c.as_slice.ensures.positive) (subst (All (λ size. 0 < size)) c.as_slice-2.ensures.value c.as_slice-2.ensures.positive) c.requires.taken;
      normal = taken_normal f c.args.chain.now c.args.index_chain.now c.args.inner.now c.args.shape.now c.args.data_type.now c.args.fill.now c.requires.taken;
    }
