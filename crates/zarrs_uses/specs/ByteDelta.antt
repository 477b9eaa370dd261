-- What the codec `example.byte_delta` computes: each byte less the one before it.
use Rattle.std.specs.Prelude.{ℕ, ◌+◌, ◌-◌, ◌%◌, List, [], ◌∷◌, Ok}
use Rattle.zarrs_codecs.specs.BytesToBytesCodec.{BytesCodecs}
use Rattle.zarrs_uses.specs.declared.own_codec.ByteDeltaCodec.{ByteDeltaCodec}

-- Each byte less the one before it, modulo 256. Before the first stands `previous`.
abbrev pub deltas : ℕ → List ℕ → List ℕ
deltas previous [] = []
deltas previous (byte ∷ bytes) = (byte + (256 - previous)) % 256 ∷ deltas byte bytes

-- the bytes whose deltas these are: each is the byte before it and its delta, modulo 256
abbrev pub sums : ℕ → List ℕ → List ℕ
sums previous [] = []
sums previous (delta ∷ rest) = (previous + delta) % 256 ∷ sums ((previous + delta) % 256) rest

-- what the codec computes: deltas from 0, as many as there are bytes; whatever bytes are deltas of some
abbrev pub byte_delta_codecs : BytesCodecs ByteDeltaCodec
byte_delta_codecs = record {
  encoded_bytes = λ codec bytes. deltas 0 bytes;
  decoded_bytes = λ codec representation encoded. Ok (sums 0 encoded);
  representation = λ codec representation. representation;
}
