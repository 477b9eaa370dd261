-- What joins the members of an array-to-bytes codec: what it accepts, what it encodes and what it decodes.
use Rattle.std.specs.Prelude.{◌≡◌, ℕ, List, length, Result, Ok, IsOk, IfOk}
use Rattle.std.proofs.Common.{Global}
use Rattle.std.specs.declared.borrow.CowSlice.{CowSlice}
use Rattle.zarrs_chunk.specs.ChunkShape.{product}
use Rattle.zarrs_chunk.specs.declared.codec_error.CodecError.{CodecError}
use Rattle.zarrs_data_type.specs.Element.{Chunk}
use Rattle.zarrs_data_type.specs.ElementType.{ElementType}
use Rattle.zarrs_data_type.specs.Form.{Form}
use Rattle.zarrs_array_bytes.specs.Held.{Held, items_of}
use Rattle.zarrs_array_bytes.specs.Validity.{Holds}

-- What is decoded fits what is represented: the codec accepts chunks of the form, and the chunk has as many elements as they have.
pub record FitsForm {R : Type 0} (represented : Result R CodecError) (form : Form) (chunk : Chunk) : Type 0 where
  pub taken : IsOk represented
  pub count : length chunk ≡ product form.sizes

-- A value that is answered is decoded again: to what the codec keeps of the chunk that the container holds.
abbrev pub DecodesAgain : (Form → List ℕ → Result Chunk CodecError) → (ElementType → Chunk → Chunk) → Form → Held → Result (CowSlice ℕ Global) CodecError → Type 0
DecodesAgain decoded normal form held result =
    IfOk result (λ value. (chunk : Chunk) × Holds form.type held chunk × (decoded form (items_of value) ≡ Ok (normal form.type chunk)))
