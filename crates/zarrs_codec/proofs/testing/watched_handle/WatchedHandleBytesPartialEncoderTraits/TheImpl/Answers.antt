use Rattle.std.proofs.Common.{refl}
use Rattle.zarrs_codec.proofs.KeptLemmas.{kept_alone}
use Rattle.zarrs_codec.proofs.testing.watched_handle.WatchedHandleBytesPartialEncoderTraits.TheImpl.Goals as goal

pub partial_encode_many-tells : goal.partial_encode_many-tells
partial_encode_many-tells g c =
    record { answer = c.ensures.answer; written = c.ensures.written; kept_if_atomic = kept_alone _ c.result _ _ _ c.ensures.torn; left = c.ensures.left; counted = refl; asked = refl; same_reference = refl }

pub replace-tells : goal.replace-tells
replace-tells g c =
    record { answer = c.ensures.answer; written = c.ensures.written; kept_if_atomic = kept_alone _ c.result _ _ _ c.ensures.torn; left = c.ensures.left; counted = refl; asked = refl; same_reference = refl }

pub erase-tells : goal.erase-tells
erase-tells g c =
    record { answer = c.ensures.answer; written = c.ensures.written; kept_if_atomic = kept_alone _ c.result _ _ _ c.ensures.torn; left = c.ensures.left; counted = refl; asked = refl; same_reference = refl }
