-- The elements of a chunk, of any length, by those of its inner chunks, band by band.
use Rattle.std.specs.Prelude.{◌≡◌, ◌<◌, ◌≤◌, ℕ, zero, suc, ◌+◌, ◌*◌, ◌/◌, ◌^◌, true, List, [], ◌∷◌, ◌++◌, get_or, map, replicate, Ok, Result}
use Rattle.std.specs.List.{All, range_with_len}
use Rattle.zarrs_array_bytes.specs.Blank.{AbsentAreBlank}
use Rattle.zarrs_array_bytes.specs.Elements.{element_at, elements}
use Rattle.zarrs_array_bytes.specs.Held.{Held}
use Rattle.zarrs_array_bytes.specs.Tight.{IsTight}
use Rattle.zarrs_array_bytes.specs.Validity.{HasElements, Holds, validity}
use Rattle.zarrs_chunk.specs.Answer.{GivesBy, checked_u64, no_refusal}
use Rattle.zarrs_chunk.specs.ChunkShape.{product}
use Rattle.zarrs_chunk.specs.declared.codec_error.CodecError.{CodecError}
use Rattle.zarrs_data_type.specs.Element.{Chunk, absent}
use Rattle.zarrs_data_type.specs.ElementType.{ElementType}
use Rattle.zarrs_chain_meaning.specs.sharding.InnerChunks.{is_divided}
use Rattle.zarrs_shard_bytes.specs.Rows.{IsPart, found_in_part}

-- ---- a run of elements

-- the elements of a container from a first one on, so many
abbrev pub run_elements : ElementType → ℕ → ℕ → Held → Chunk
run_elements type first count held = map (element_at type held) (range_with_len first count)

-- A container has elements of the type, as many as reach to an end at least.
pub record ReachesTo (type : ElementType) (end : ℕ) (held : Held) : Type 0 where
  pub total : ℕ
  pub fits : HasElements type total held
  pub enough : end ≤ total

-- A container has so many elements of another, from a first one on; and blank elements are under absent ones where they are in the other.
pub record IsRun (type : ElementType) (first count : ℕ) (held run : Held) : Type 0 where
  pub fits : HasElements type count run
  pub same : (place : ℕ) → place < count → element_at type run place ≡ element_at type held (first + place)
  pub blank : AbsentAreBlank type held → AbsentAreBlank type run

-- such a container is given
abbrev pub GivesRun : ElementType → ℕ → ℕ → Held → Result Held CodecError → Type 0
GivesRun type first count held result = GivesBy (λ run _. IsRun type first count held run) result no_refusal

-- ---- rows

-- the elements of each of these containers, so many
abbrev pub chunks_of : ElementType → ℕ → List Held → List Chunk
chunks_of type count contents = map (elements type count) contents

-- the element of an inner chunk, as a list of one
abbrev pub inner_element : List Chunk → ℕ → ℕ → Chunk
inner_element inner_chunks number inside = get_or (get_or inner_chunks number []) inside absent ∷ []

-- the elements of a part of a chunk, row by row, by those of the inner chunks
abbrev pub part_elements : List Chunk → ℕ → ℕ → List ℕ → List ℕ → Chunk
part_elements inner_chunks number first shape sizes = found_in_part (inner_element inner_chunks) number first shape sizes

-- such a part of so many inner chunks, each of so many elements
abbrev pub IsElementPart : ℕ → ℕ → ℕ → ℕ → ℕ → ℕ → List ℕ → List ℕ → Type 0
IsElementPart chunks whole number count first each shape sizes =
    IsPart 1 (replicate chunks (replicate whole 0)) number count first each shape sizes

-- What is known of a container of so many elements, and of those whose elements are appended to it, each of `whole` elements: all are of the type, and tight.
pub record AreJoinable (type : ElementType) (done whole : ℕ) (held : Held) (contents : List Held) : Type 0 where
  pub valid : validity type done held ≡ Ok tt
  pub tight : IsTight type held
  pub contents_valid : All (λ content. validity type whole content ≡ Ok tt) contents
  pub contents_tight : All (IsTight type) contents

-- a container is given of the elements of one, so many, and behind them these
abbrev pub Extends : ElementType → ℕ → Held → Chunk → Result Held CodecError → Type 0
Extends type done held more result = GivesBy (Holds type) result (Ok (elements type done held ++ more))

-- ---- bands

-- the shape of a band: an inner chunk's up to the first axis along which that has more than one element, and the chunk's behind
abbrev pub band_of : List ℕ → List ℕ → List ℕ
band_of (suc zero ∷ shape) (size ∷ sizes) = 1 ∷ band_of shape sizes
band_of (part ∷ shape) (size ∷ sizes) = part ∷ sizes
band_of _ _ = []

-- What is known of a chunk that is read band by band: its inner chunks divide it, no size is zero, 64 bits count its elements and those of an inner chunk; and bands have this shape.
pub record IsBandForm (shape sizes band : List ℕ) : Type 0 where
  pub divided : is_divided shape sizes ≡ true
  pub counted : checked_u64 (product sizes) ≡ Ok (product sizes)
  pub inner_counted : checked_u64 (product shape) ≡ Ok (product shape)
  pub small : product sizes < 2 ^ 64
  pub band_is : band ≡ band_of shape sizes

-- how many bands there are
abbrev pub band_count : List ℕ → List ℕ → ℕ
band_count (suc zero ∷ shape) (size ∷ sizes) = size * band_count shape sizes
band_count (part ∷ shape) (size ∷ sizes) = size / part
band_count _ _ = 1
