-- Arrays, regions and parts as numbers.
use Rattle.std.specs.Prelude.{ℕ, ◌==◌, ◌*◌, ◌/◌, ◌%◌, if◌then◌else◌, List, length, take, drop, ok_or, Result, Ok, Err}
use Rattle.zarrs_chunk.specs.Answer.{◌>>=◌, demand}
use Rattle.zarrs_chunk.specs.ArraySubset.{subset_of_start_shape}
use Rattle.zarrs_chunk.specs.ChunkShape.{shape_of}
use Rattle.zarrs_chunk.specs.Region.{Region}
use Rattle.zarrs_array_plan.specs.ArrayForm.{ArrayForm, checked_form}
use Rattle.zarrs_array_plan.specs.declared.chunk_key_encoding.ChunkKeySeparator.{ChunkKeySeparator}
use Rattle.zarrs_array_plan.specs.declared.chunk_key_encoding.ChunkKeySeparator.TheVariants.{Slash, Dot}
use Rattle.zarrs_array_plan.specs.declared.chunk_key_encoding.ChunkKeyEncoding.{ChunkKeyEncoding}
use Rattle.zarrs_array_plan.specs.declared.chunk_key_encoding.ChunkKeyEncoding.TheVariants.{Default, V2}
use Rattle.zarrs_array_calls.specs.Refusals.{grid_answer}
use Rattle.zarrs_array_calls.specs.declared.refusal.ArrayRefusal.{ArrayRefusal}
use Rattle.zarrs_array_calls.specs.declared.refusal.ArrayRefusal.TheVariants.{Argument, ZeroSize}

-- a separator is given as its own byte: `.` or `/`
abbrev pub separator_given : ℕ → Result ChunkKeySeparator ArrayRefusal
separator_given byte = if byte == 46 then Ok Dot else if byte == 47 then Ok Slash else Err Argument

-- `default` is given as 0, and `v2` as 1
abbrev pub keys_given : ℕ → ℕ → Result ChunkKeyEncoding ArrayRefusal
keys_given encoding separator = do
  between ← separator_given separator
  if encoding == 0 then Ok (Default between) else if encoding == 1 then Ok (V2 between) else Err Argument

-- an array of this shape in chunks of these sizes, or the first error: there is such a key encoding, no size of a chunk is zero, and the array has as many axes
abbrev pub array_given : List ℕ → List ℕ → ℕ → ℕ → Result ArrayForm ArrayRefusal
array_given shape sizes encoding separator = do
  keys ← keys_given encoding separator
  chunk_shape ← ok_or (shape_of sizes) ZeroSize
  grid_answer (checked_form shape chunk_shape keys)

-- a box of an array: the first half of the numbers are its starts, and the second its lengths
abbrev pub region_given : List ℕ → Result Region ArrayRefusal
region_given numbers = do
  _ ← demand (length numbers % 2 == 0) Argument
  grid_answer (subset_of_start_shape (take (length numbers / 2) numbers) (drop (length numbers / 2) numbers))

-- A part as a box of its region, which has so many axes. It is given as four numbers an axis: the chunk's indices and where the part begins in the chunk, of which neither is read here; then how long it is, and where it begins in the region.
abbrev pub part_given : ℕ → List ℕ → Result Region ArrayRefusal
part_given axes numbers = do
  _ ← demand (length numbers == axes * 4) Argument
  let there = drop (2 * axes) numbers in grid_answer (subset_of_start_shape (drop axes there) (take axes there))
