use Rattle.std.proofs.Common.{◌<◌, subst}
use Rattle.std.specs.List.{All}
use Rattle.zarrs_array_bytes.specs.Held.{raw_of}
use Rattle.zarrs_chain.specs.ChainView.{plain_optional}
use Rattle.zarrs_chain.proofs.OptionalRoom.{mask_room}
use Rattle.zarrs_chain.proofs.optional.mask_room.has_room.Goals as goal

pub returns : goal.returns
returns g c = record {
  room = λ small. mask_room g.B.BytesToBytesCodecTraits.functions (plain_optional c.args.codec.now) c.args.form.shape.now c.args.form.data_type.now c.args.inner.now c.args.form.fill_value.now (raw_of c.args.mask.now).items c.optional_is_sound.ensures.mappings (subst (All (λ size. 0 < size)) c.as_slice.ensures.value c.as_slice.ensures.positive) c.requires.taken c.requires.inner c.requires.len small;
}
