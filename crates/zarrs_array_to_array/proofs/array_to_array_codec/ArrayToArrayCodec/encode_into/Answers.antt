use Rattle.std.proofs.Common.{◌≡◌}
use Rattle.zarrs_chunk.specs.Answer.{seen}
use Rattle.zarrs_chunk.specs.ChunkShape.{product}
use Rattle.zarrs_array_bytes.specs.Held.{flen}
use Rattle.zarrs_array_to_array.specs.ArrayToArrayCodec.{coordinates, squeeze}
use Rattle.zarrs_array_to_array.proofs.MappedChunks.{copied_encoded, reshape_keeps, squeeze_keeps}
use Rattle.zarrs_array_to_array.proofs.array_to_array_codec.ArrayToArrayCodec.encode_into.Goals as goal

pub returns-in-Reshape : goal.returns-in-Reshape
returns-in-Reshape c =
    let sizes = c.args.shape.now in
    let w = c.copy_elements.ensures.written in
    rw c.in-Reshape.is
    (record {
      moved = record {
        raw = w.raw;
        there = w.there;
        answered = copied_encoded _ c.args.data_type.now sizes c.args.bytes.now (seen (λ _. flen w.raw) c.copy_elements.result) (w.answered (product sizes) c.requires.len) (λ m e. reshape_keeps c.in-Reshape.codec sizes m c.is_sound.ensures.sound e);
      };
    })

pub returns-in-Squeeze : goal.returns-in-Squeeze
returns-in-Squeeze c =
    let sizes = c.args.shape.now in
    let w = c.copy_elements-in-Squeeze.ensures.written in
    rw c.in-Squeeze.is
    (record {
      moved = record {
        raw = w.raw;
        there = w.there;
        answered = copied_encoded (coordinates squeeze sizes) c.args.data_type.now sizes c.args.bytes.now (seen (λ _. flen w.raw) c.copy_elements-in-Squeeze.result) (w.answered (product sizes) c.requires.len) (λ m e. squeeze_keeps sizes m e);
      };
    })
