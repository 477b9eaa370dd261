-- What a table of pairs computes, as a codec.
use Rattle.std.specs.Prelude.{ℕ, ◌^◌, List, ◌∷◌, replicate, Option, Some, None, Result, Ok, Err}
use Rattle.zarrs_chunk.specs.Answer.{Gives}
use Rattle.zarrs_chunk.specs.declared.codec_error.CodecError.{CodecError}
use Rattle.zarrs_chunk.specs.declared.codec_error.CodecError.TheVariants.{BytesCodec}
use Rattle.zarrs_codec.specs.BytesToBytesCodec.{BytesCodecs}
use Rattle.zarrs_codec.specs.declared.bytes_representation.BytesRepresentation.TheVariants.{UnboundedSize}
use Rattle.zarrs_pairs.specs.Pairs.{Pairs, encoded_with, decoded_with}
use Rattle.zarrs_pairs.specs.PairsTable.{pairs_of}
use Rattle.zarrs_pairs.specs.declared.pairs_codec.PairsCodec.{PairsCodec}

-- the pairs of a codec
abbrev pub codec_pairs : PairsCodec → Pairs
codec_pairs codec = pairs_of codec.table.now

-- a byte more than so many; shut, since it computes to a long list
unfoldable pub beyond : ℕ → List ℕ
beyond count = 0 ∷ replicate count 0

-- more bytes than 64 bits count: no memory has them
abbrev pub endless : List ℕ
endless = beyond (2 ^ 64)

-- the encoded bytes of a pair; where there is none, more than any memory has, so that encoding fails with `OutOfMemory`
abbrev pub or_endless : Option (List ℕ) → List ℕ
or_endless None = endless
or_endless (Some bytes) = bytes

-- each list of bytes that passes is the answer
abbrev pub GivesSuch : {T : Type 0} → (T → List ℕ) → Result T CodecError → (List ℕ → Type 0) → Type 0
GivesSuch view result passes = (bytes : List ℕ) → passes bytes → Gives view result (Ok bytes)

-- the decoded bytes of a pair, or the error where there is none
abbrev pub or_refused : Option (List ℕ) → Result (List ℕ) CodecError
or_refused None = Err (BytesCodec 1)
or_refused (Some bytes) = Ok bytes

-- what codecs of pairs compute
abbrev pub pairs_codecs : BytesCodecs PairsCodec
pairs_codecs = record {
  encoded_bytes = λ codec bytes. or_endless (encoded_with (codec_pairs codec) bytes);
  decoded_bytes = λ codec representation encoded. or_refused (decoded_with (codec_pairs codec) encoded);
  representation = λ codec representation. UnboundedSize;
}
