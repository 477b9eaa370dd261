use Rattle.std.proofs.Common.{Ok, refl}
use Rattle.zarrs_array_to_array.specs.ArrayToArrayCodec.{reshape, coordinates}
use Rattle.zarrs_array_to_array.specs.CodecAnswers.{type_taken}
use Rattle.zarrs_codec.proofs.UnfitLemmas.{unfit_kept}
use Rattle.zarrs_array_to_array.proofs.MappedChunks.{kept_decoded, reshape_keeps}
use Rattle.zarrs_array_to_array.proofs.reshape.reshape_codec.ReshapeCodecArrayToArrayCodecTraits.decode.Goals as goal

pub returns-clause-moved : goal.returns-clause-moved
returns-clause-moved c =
    let dims = c.args.self.now in
    let sizes = c.args._shape.now in
    kept_decoded (coordinates (reshape dims) sizes) c.args._data_type.now sizes c.args.bytes (λ m e. reshape_keeps dims sizes m c.is_sound.ensures.sound e)

pub returns-clause-unfit : goal.returns-clause-unfit
returns-clause-unfit c =
    unfit_kept (type_taken (reshape c.args.self.now)) (coordinates (reshape c.args.self.now)) c.args._data_type.now c.args._shape.now c.args.bytes (Ok c.args.bytes) refl
