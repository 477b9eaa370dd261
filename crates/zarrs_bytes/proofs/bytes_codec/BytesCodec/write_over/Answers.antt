use Rattle.std.proofs.Common.{◌∙◌, ap, length}
use Rattle.zarrs_array_bytes.specs.Held.{raw_of}
use Rattle.zarrs_array_bytes.specs.Parts.{bytes_in}
use Rattle.zarrs_array_bytes.proofs.ValidLemmas.{raw_items}
use Rattle.zarrs_array_bytes.specs.Turned.{turned_bytes}
use Rattle.zarrs_bytes.specs.BytesCodec.{turn_size}
use Rattle.zarrs_bytes.proofs.Spelled.{length-turned_bytes}
use Rattle.zarrs_bytes.proofs.bytes_codec.BytesCodec.write_over.Goals as goal
use Rattle.zarrs_bytes.proofs.Exact.{bytes_are}

pub put_runs-requires-clause-enough : goal.put_runs-requires-clause-enough
put_runs-requires-clause-enough g c =
    let size = turn_size c.args.self.now c.args.data_type.now in
    let new = bytes_in c.args.elements in
    let is = bytes_are (turned_bytes size new) (raw_of c.in_ok-bytes.bytes).items c.in_ok-bytes.ensures.answer.is in
    ap length (c.as_slice.ensures.value ∙ raw_items c.in_ok-bytes.bytes ∙ is) ∙ length-turned_bytes size new ∙ c.requires.enough
