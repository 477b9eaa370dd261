use Rattle.std.proofs.Common.{refl, inl, inr}
use Rattle.zarrs_array_to_array.proofs.MappedChunks.{holds_elements}
use Rattle.zarrs_array_to_array.proofs.array_to_array_codec.ArrayToArrayCodec.encode_part.Goals as goal

pub returns-clause-encoded : goal.returns-clause-encoded
returns-clause-encoded c =
    let held = holds_elements c.args.data_type.now c.args.count c.args.bytes c.requires.valid in
    elim c.in-Reshape.is [
      | inl reshape ↦ rw reshape.1 (record { is = held; no_fault = refl })
      | inr squeeze ↦ rw squeeze.1 (record { is = held; no_fault = refl })
    ]
