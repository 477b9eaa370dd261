use Rattle.std.proofs.Common.{Ok, refl}
use Rattle.zarrs_array_to_array.specs.ArrayToArrayCodec.{squeeze, coordinates}
use Rattle.zarrs_array_to_array.specs.CodecAnswers.{type_taken}
use Rattle.zarrs_codec.proofs.UnfitLemmas.{unfit_kept}
use Rattle.zarrs_array_to_array.proofs.MappedChunks.{kept_encoded, squeeze_keeps}
use Rattle.zarrs_array_to_array.proofs.squeeze.squeeze_codec.SqueezeCodecArrayToArrayCodecTraits.encode.Goals as goal

pub returns-clause-moved : goal.returns-clause-moved
returns-clause-moved c =
    let sizes = c.args._shape.now in
    kept_encoded (coordinates squeeze sizes) c.args._data_type.now sizes c.args.bytes (λ m e. squeeze_keeps sizes m e)

pub returns-clause-unfit : goal.returns-clause-unfit
returns-clause-unfit c =
    unfit_kept (type_taken squeeze) (coordinates squeeze) c.args._data_type.now c.args._shape.now c.args.bytes (Ok c.args.bytes) refl
