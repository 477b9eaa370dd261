use Rattle.std.proofs.Common.{rules}
use Rattle.zarrs_array_bytes.specs.Held.{raw_of}
use Rattle.zarrs_chain_meaning.specs.CodecMeaning.{chain_chunk}
use Rattle.zarrs_chain.specs.ChainView.{plain_chain}
use Rattle.zarrs_chain.proofs.FrontWrites.{bytes_hold, plain_bytes, plain_packbits}
use Rattle.zarrs_chain.proofs.moved_into.decode_into.Goals as goal

pub bytes_decode_into-requires-clause-codec : goal.bytes_decode_into-requires-clause-codec
bytes_decode_into-requires-clause-codec g c = plain_bytes c.args.chain.now.array_to_bytes c.in-Bytes-default.codec c.in-Bytes-default.is-0

pub packbits_decode_into-requires-clause-codec : goal.packbits_decode_into-requires-clause-codec
packbits_decode_into-requires-clause-codec g c = plain_packbits c.args.chain.now.array_to_bytes c.in-PackBits-empty.codec c.in-PackBits-empty.is-0

pub returns : goal.returns
returns g c =
    let due = chain_chunk g.B.BytesToBytesCodecTraits.functions (plain_chain c.args.chain.now) c.args.form.shape.now c.args.form.data_type.now c.args.form.fill_value.now (raw_of c.args.value).items in
    record {
      written = record {
        items = c.in_ok-bytes.bytes.now;
        counted = c.put_front.ensures.count;
        there = c.put_front.ensures.there;
        left = tt;
        answered = record { is = bytes_hold c.args.form.data_type.now c.args.size c.in_ok-made.made c.in_ok-bytes.bytes.now due c.requires.sized c.in_ok-bytes.ensures.answer c.in_ok-made.ensures.exact.is; no_fault = search rules };
      };
    }
