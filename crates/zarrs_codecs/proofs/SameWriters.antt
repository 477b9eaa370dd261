-- Writers whose chunk and whose sure bytes are the same.
use Rattle.std.proofs.Common.{◌≡◌, ℕ, Bool, Option, ap, ◌∙◌}
use Rattle.zarrs_codec.specs.BytesToBytesCodec.{BytesCodecs}
use Rattle.zarrs_chain_meaning.specs.ChunkForm.{ChunkForm}
use Rattle.zarrs_codecs.specs.ChunkWrite.{chunk_writer}

pub writer_same : {B : Type 0} (f : BytesCodecs B) (in_part : ChunkForm B → Bool) (form was : ChunkForm B) (sure before : Option (ℕ → Bool)) → form ≡ was → sure ≡ before → chunk_writer f form sure (in_part form) ≡ chunk_writer f was before (in_part was)
writer_same f in_part form was sure before e h = ap (λ x. chunk_writer f x sure (in_part x)) e ∙ ap (λ s. chunk_writer f was s (in_part was)) h
