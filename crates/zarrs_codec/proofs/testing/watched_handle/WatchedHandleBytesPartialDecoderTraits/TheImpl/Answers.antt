use Rattle.std.proofs.Common.{refl}
use Rattle.zarrs_codec.proofs.testing.watched_handle.WatchedHandleBytesPartialDecoderTraits.TheImpl.Goals as goal

-- no byte is sure
pub exists-tells : goal.exists-tells
exists-tells g c = record { answer = c.ensures.answer; sure = λ sure. absurd cc; left = c.ensures.left; counted = refl; asked = refl; same_reference = refl }

pub size-tells : goal.size-tells
size-tells g c = record { answer = c.ensures.answer; sure = λ sure. absurd cc; left = c.ensures.left; counted = refl; asked = refl; same_reference = refl }

pub partial_decode_many-tells : goal.partial_decode_many-tells
partial_decode_many-tells g c = record { answer = c.ensures.answer; sure = λ sure. absurd cc; left = c.ensures.left; counted = refl; asked = refl; same_reference = refl }

pub decode-tells : goal.decode-tells
decode-tells g c = record { answer = c.ensures.answer; sure = λ sure. absurd cc; left = c.ensures.left; counted = refl; asked = refl; same_reference = refl }
