use Rattle.std.proofs.Common.{arith}
use Rattle.std.proofs.lemmas.Result.{err_from_is_err_and}
use Rattle.zarrs_chain.specs.ChainParts.{parts_seen}
use Rattle.zarrs_chain.proofs.MakeSteps.{depth_at, ends_refused, ends}
use Rattle.zarrs_chain.proofs.+make.Goals as goal

pub metadata::make_chain::chain_from-join-requires : goal.metadata::make_chain::chain_from-join-requires
metadata::make_chain::chain_from-join-requires g t c κs within =
    let here = depth_at c.args.metadatas.now c.loop-metadata.metadata-index c.metadata-item.result (omega arith) c.metadata-item.is in
    (omega (arith, here), within)

pub metadata::make_chain::chain_from-returns-in_err-join : goal.metadata::make_chain::chain_from-returns-in_err-join
metadata::make_chain::chain_from-returns-in_err-join g t c =
    let makes = g.M.BytesCodecMaker.makes c.args.maker.now in
    let p = err_from_is_err_and c.from_residual.result c.from_residual.ensures.1 in
    record { answer = rw (p.1, p.2) (ends_refused makes c.args.metadatas.now c.loop-metadata.metadata-index c.metadata-item.result (parts_seen c.loop-metadata.parts) c.in_err-join.field-0.0 (omega arith) c.metadata-item.is c.loop-metadata.invariant c.in_err-join.ensures.answer) }

pub metadata::make_chain::chain_from-returns : goal.metadata::make_chain::chain_from-returns
metadata::make_chain::chain_from-returns g t c =
    let makes = g.M.BytesCodecMaker.makes c.args.maker.now in
    record { answer = ends makes c.args.metadatas.now c.loop-metadata.metadata-index (parts_seen c.loop-metadata.parts) c.into_chain.result (omega arith) c.loop-metadata.invariant c.into_chain.ensures.answer }
