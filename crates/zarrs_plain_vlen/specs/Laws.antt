-- Laws of a read in part through a plain `vlen`.
use Rattle.std.specs.Prelude.{◌≡◌, ℕ, ◌<◌, Option, Some, List, length, map, slice_index, Ok}
use Rattle.std.specs.List.{All, range_with_len}
use Rattle.zarrs_chunk.specs.Answer.{◌>>=◌, demand, seen}
use Rattle.zarrs_chunk.specs.ChunkShape.{product}
use Rattle.zarrs_chunk.specs.Selection.{Selection, places_of}
use Rattle.zarrs_chunk.specs.declared.codec_error.CodecError.TheVariants.{InvalidOffsets}
use Rattle.zarrs_data_type.specs.Element.{Chunk}
use Rattle.zarrs_data_type.specs.ElementType.{ElementType}
use Rattle.zarrs_data_type.specs.declared.endianness.Endianness.{Endianness}
use Rattle.zarrs_array_bytes.specs.Elements.{select}
use Rattle.zarrs_array_bytes.specs.Offsets.{rises}
use Rattle.zarrs_bytes.specs.BytesCodec.{bytes_element}
use Rattle.zarrs_codec.specs.BytesToBytesCodec.{BytesCodecs}
use Rattle.zarrs_chain_meaning.specs.vlen.Vlen.{offsets_in_chunk, offset_type}
use Rattle.zarrs_chain_meaning.specs.CodecMeaning.{CodecStands}
use Rattle.zarrs_chain_meaning.specs.vlen.PlainVlen.{plain_codec_of}
use Rattle.zarrs_chain_meaning.specs.vlen.PlainForm.{PlainForm}
use Rattle.zarrs_plain_vlen.specs.IndexSteps.{index_count}
use Rattle.zarrs_plain_vlen.specs.PlainRead.{plain_part}
use Rattle.zarrs_plain_vlen.specs.VlenRead.{offsets_read, vlen_read, rests_on}

-- Of a value that stands for a chunk, a read of places inside selects the chunk's elements.
abbrev pub VlenReadSelects : {B : Type 0} → BytesCodecs B → Type 0
VlenReadSelects {B} f =
    (form : PlainForm) (content : Option Endianness) (sizes : List ℕ) (type : ElementType) (fill value : List ℕ) (chunk : Chunk) (places : List ℕ)
    → All (λ size. 0 < size) sizes → CodecStands f (plain_codec_of form content) sizes type fill value chunk → All (λ place. place < product sizes) places
    → vlen_read form (product sizes) value places ≡ Ok (select chunk places)

-- Two values of one length that have the same bytes where a read of these places rests are read alike there, or rejected for the same cause.
abbrev pub VlenReadsAlike : Type 0
VlenReadsAlike =
    (form : PlainForm) (count : ℕ) (value other places : List ℕ)
    → length value ≡ length other → All (λ number. slice_index value number ≡ slice_index other number) (rests_on form count value places)
    → vlen_read form count value places ≡ vlen_read form count other places

-- Of a stored value that stands for a chunk, a read in part answers the chunk's elements that the selection selects, or the selection's error.
abbrev pub PartSelects : {B : Type 0} → BytesCodecs B → Type 0
PartSelects {B} f =
    (form : PlainForm) (content : Option Endianness) (sizes : List ℕ) (type : ElementType) (fill value : List ℕ) (chunk : Chunk) (selection : Selection)
    → All (λ size. 0 < size) sizes → CodecStands f (plain_codec_of form content) sizes type fill value chunk
    → plain_part form sizes type fill (Some value) selection ≡ seen (select chunk) (places_of selection sizes)

-- the offsets that the bytes of an index spell, so many, each in the byte order
abbrev pub spelled_offsets : PlainForm → ℕ → List ℕ → List ℕ
spelled_offsets form count index =
    offsets_in_chunk form.wide (map (bytes_element (Some form.order) (offset_type form.wide) index) (range_with_len 0 count))

-- An index is rejected in this order: `Overflow` where 64 bits don't count the offsets, or their bytes; `InvalidBytesLength` where it has another length; `InvalidOffsets` where its offsets fall.
abbrev pub IndexIsRefusedInOrder : Type 0
IndexIsRefusedInOrder =
    (form : PlainForm) (count : ℕ) (index : List ℕ)
    → offsets_read form count index ≡ index_count form.wide count (length index) >>= (λ offsets. demand (rises (spelled_offsets form offsets index)) InvalidOffsets >>= (λ _. Ok (spelled_offsets form offsets index)))
