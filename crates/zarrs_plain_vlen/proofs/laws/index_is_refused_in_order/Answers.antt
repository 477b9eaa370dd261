use Rattle.zarrs_plain_vlen.proofs.IndexOrder.{index_is_refused_in_order}
use Rattle.zarrs_plain_vlen.proofs.laws.index_is_refused_in_order.Goals as goal

pub returns : goal.returns
returns c = record { law = index_is_refused_in_order }
