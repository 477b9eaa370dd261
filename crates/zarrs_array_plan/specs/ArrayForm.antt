-- An array that is divided into chunks of one shape, from its first element on.
-- Source: the Zarr v3 core specification, "Regular grids"; zarrs, `RegularChunkGrid`.
use Rattle.std.specs.Prelude.{◌≡◌, ◌<◌, ◌*◌, ◌^◌, ◌==◌, ℕ, List, [], ◌∷◌, All, length, Result, Ok}
use Rattle.std.specs.Int.{div_ceil}
use Rattle.zarrs_chunk.specs.Answer.{◌>>=◌, demand}
use Rattle.zarrs_chunk.specs.Tuples.{is_tuple_inside}
use Rattle.zarrs_chunk.specs.declared.codec_error.CodecError.{CodecError}
use Rattle.zarrs_chunk.specs.declared.codec_error.CodecError.TheVariants.{IncompatibleDimensionality, OutOfBounds}
use Rattle.zarrs_array_plan.specs.declared.chunk_key_encoding.ChunkKeyEncoding.{ChunkKeyEncoding}

-- an array's shape, that of each of its chunks, and how the indices of a chunk make its key
pub record ArrayForm : Type 0 where
  pub shape : List ℕ
  pub chunk_shape : List ℕ
  pub keys : ChunkKeyEncoding

-- an array has as many axes as a chunk, 64 bits hold each of its sizes, and no size of a chunk is zero
pub record IsArrayForm (shape chunk_shape : List ℕ) : Type 0 where
  pub axes : length shape ≡ length chunk_shape
  pub small : All (λ size. size < 2 ^ 64) shape
  pub positive : All (λ size. 0 < size) chunk_shape

-- the form of an array, or the error: it has as many axes as a chunk
abbrev pub checked_form : List ℕ → List ℕ → ChunkKeyEncoding → Result ArrayForm CodecError
checked_form shape chunk_shape keys = do
  _ ← demand (length shape == length chunk_shape) IncompatibleDimensionality
  Ok (record { shape = shape; chunk_shape = chunk_shape; keys = keys })

-- how many chunks an array has along each axis: its size, divided by the chunk's, and rounded up
abbrev pub grid_shape : List ℕ → List ℕ → List ℕ
grid_shape (size ∷ sizes) (chunk ∷ chunks) = div_ceil size chunk ∷ grid_shape sizes chunks
grid_shape sizes chunks = []

-- the index tuple of the first element of the chunk of these indices
abbrev pub origin_of : List ℕ → List ℕ → List ℕ
origin_of (number ∷ numbers) (chunk ∷ chunks) = number * chunk ∷ origin_of numbers chunks
origin_of numbers chunks = []

-- where a chunk begins, or the first error: there is one index an axis, and the array has the chunk
abbrev pub checked_origin : ArrayForm → List ℕ → Result (List ℕ) CodecError
checked_origin form numbers = do
  _ ← demand (length numbers == length form.shape) IncompatibleDimensionality
  _ ← demand (is_tuple_inside (grid_shape form.shape form.chunk_shape) numbers) OutOfBounds
  Ok (origin_of numbers form.chunk_shape)
