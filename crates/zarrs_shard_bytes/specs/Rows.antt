-- The bytes of a chunk, of elements of one size, by those of its inner chunks.
use Rattle.std.specs.Prelude.{◌≡◌, ◌<◌, ◌≤◌, ◌^◌, ◌*◌, ℕ, ◌+◌, List, [], get_or, length, map, true, Some, Ok}
use Rattle.std.specs.List.{All, flat_map, range_with_len}
use Rattle.std.specs.declared.alloc.Global.{Global}
use Rattle.std.specs.declared.borrow.CowSlice.{CowSlice}
use Rattle.zarrs_array_bytes.specs.Elements.{elements, piece}
use Rattle.zarrs_array_bytes.specs.Held.{flen, raw_of}
use Rattle.zarrs_array_bytes.specs.Validity.{sizes_fit, validity}
use Rattle.zarrs_chunk.specs.Answer.{checked_u64}
use Rattle.zarrs_data_type.specs.Element.{Chunk}
use Rattle.zarrs_data_type.specs.ElementType.{ElementType, fixed_size_of}
use Rattle.zarrs_chunk.specs.ChunkShape.{product}
use Rattle.zarrs_chain_meaning.specs.sharding.InnerChunks.{is_divided, inner_chunk_count, inner_chunk_of, place_inside}

-- what is found for each place of a part of the chunk, row by row; the part has the last axes, begins in the inner chunk of a number, at the element `first` of it, and `found` gives what an inner chunk's element has
abbrev pub found_in_part : {A : Type 0} → (ℕ → ℕ → List A) → ℕ → ℕ → List ℕ → List ℕ → List A
found_in_part found number first shape sizes =
    flat_map (λ place. found (number + inner_chunk_of shape sizes place) (first + place_inside shape sizes place)) (range_with_len 0 (product sizes))

-- the bytes of the element of an inner chunk
abbrev pub element_bytes : ℕ → List (List ℕ) → ℕ → ℕ → List ℕ
element_bytes size contents number inside = piece size (get_or contents number []) inside

-- the bytes of all elements of such a part, row by row
abbrev pub part_bytes : ℕ → List (List ℕ) → ℕ → ℕ → List ℕ → List ℕ → List ℕ
part_bytes size contents number first shape sizes = found_in_part (element_bytes size contents) number first shape sizes

-- Such a part is of `count` inner chunks from that of a number on, and has `each` elements of each, from `first` on; all of them are there.
pub record IsPart (size : ℕ) (contents : List (List ℕ)) (number count first each : ℕ) (shape sizes : List ℕ) : Type 0 where
  pub positive : All (λ part. 0 < part) shape
  pub some : All (λ size. 0 < size) sizes
  pub divided : is_divided shape sizes ≡ true
  pub len : count ≡ inner_chunk_count shape sizes
  pub elements : each ≡ product shape
  pub below : number + count ≤ length contents
  pub inside : All (λ content. (first + each) * size ≤ length content) contents
  pub counted : number + count < 2 ^ 64
  pub small : first + each < 2 ^ 64
  pub fits : (first + each) * size < 2 ^ 64

-- the elements of each of these contents, of so many elements one after another
abbrev pub chunks_in : ElementType → ℕ → List (CowSlice ℕ Global) → List Chunk
chunks_in type count contents = map (λ content. elements type count (flen (raw_of content))) contents

-- What is known of the contents of all inner chunks of a chunk, whose elements have so many bytes: the inner chunks divide the chunk, each content is of one of them, and 64 bits count elements and bytes.
pub record AreContents (type : ElementType) (size : ℕ) (contents : List (CowSlice ℕ Global)) (shape sizes : List ℕ) : Type 0 where
  pub sized : fixed_size_of type ≡ Some size
  pub divided : is_divided shape sizes ≡ true
  pub counted : checked_u64 (product sizes) ≡ Ok (product sizes)
  pub inner_counted : checked_u64 (product shape) ≡ Ok (product shape)
  pub room : sizes_fit type (product sizes) ≡ Ok tt
  pub all : length contents ≡ inner_chunk_count shape sizes
  pub whole : All (λ content. validity type (product shape) (flen (raw_of content)) ≡ Ok tt) contents
