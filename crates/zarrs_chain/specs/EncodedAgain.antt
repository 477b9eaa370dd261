-- What a value that was encoded, or re-encoded, stands for.
use Rattle.std.specs.Prelude.{ℕ, List, Result, IfOk, Vec}
use Rattle.std.proofs.Common.{Global}
use Rattle.std.specs.declared.borrow.CowSlice.{CowSlice}
use Rattle.zarrs_chunk.specs.ChunkShape.{product}
use Rattle.zarrs_chunk.specs.declared.codec_error.CodecError.{CodecError}
use Rattle.zarrs_data_type.specs.Element.{Chunk}
use Rattle.zarrs_data_type.specs.Form.{Form}
use Rattle.zarrs_array_bytes.specs.Elements.{elements}
use Rattle.zarrs_array_bytes.specs.Held.{Held, items_of}
use Rattle.zarrs_codec.specs.BytesToBytesCodec.{BytesCodecs}
use Rattle.zarrs_chain_meaning.specs.CodecMeaning.{PlainChain, chain_meaning, normal_form}

-- A value that is answered stands for the normal form of the chunk that the container holds.
abbrev pub EncodedStands : {B : Type 0} → BytesCodecs B → PlainChain B → Form → Held → Result (CowSlice ℕ Global) CodecError → Type 0
EncodedStands f chain form held result =
    IfOk result (λ value. (chain_meaning chain).Stands f form.sizes form.type form.fill (items_of value) (normal_form chain.array_to_bytes form.type (elements form.type (product form.sizes) held)))

-- Of whatever chunk the old value stands for under the first chain, a value that is answered stands for the normal form under the second.
abbrev pub ReencodedStands : {B C : Type 0} → BytesCodecs B → PlainChain B → BytesCodecs C → PlainChain C → Form → List ℕ → Result (Vec ℕ Global) CodecError → Type 0
ReencodedStands f from g to form value result =
    (chunk : Chunk) → (chain_meaning from).Stands f form.sizes form.type form.fill value chunk
    → IfOk result (λ new. (chain_meaning to).Stands g form.sizes form.type form.fill new.items (normal_form to.array_to_bytes form.type chunk))
