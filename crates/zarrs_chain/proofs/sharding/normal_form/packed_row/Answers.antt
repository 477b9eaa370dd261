use Rattle.zarrs_array_bytes.specs.Elements.{elements}
use Rattle.zarrs_array_bytes.specs.Held.{raw_of}
use Rattle.zarrs_array_bytes.proofs.UpdatedLemmas.{length-elements}
use Rattle.zarrs_array_to_array.proofs.MappedChunks.{holds_elements}
use Rattle.zarrs_chunk.specs.ChunkShape.{product}
use Rattle.zarrs_chain.proofs.VlenKept.{kept_of}
use Rattle.zarrs_chain.proofs.sharding.normal_form.packed_row.Goals as goal

pub returns : goal.returns
returns c =
    let type = c.args.form.data_type.now in
    let count = product c.args.form.shape.now in
    record {
      answer = record {
        is =
            kept_of c.args.codec.now c.args.form.shape.now type c.args.form.fill_value.now c.args.elements (raw_of c.in_ok-value.value).items c.decode.result (elements type count c.args.elements) (holds_elements type count c.args.elements c.requires.valid) (length-elements type count c.args.elements) c.in_ok-value.ensures.encodes.found c.decode.ensures.decodes.only;
        no_fault = c.decode.ensures.decodes.no_fault;
      };
    }
