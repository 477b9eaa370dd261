-- The keys of chunks.
-- Source: the Zarr v3 core specification, "Chunk key encoding"; zarrs, `DefaultChunkKeyEncoding`, `V2ChunkKeyEncoding`.
use Rattle.std.specs.Prelude.{◌≡◌, ◌<◌, ◌^◌, ℕ, List, [], ◌∷◌, ◌++◌, All, length, decimal}
use Rattle.zarrs_array_plan.specs.declared.chunk_key_encoding.ChunkKeySeparator.{ChunkKeySeparator}
use Rattle.zarrs_array_plan.specs.declared.chunk_key_encoding.ChunkKeySeparator.TheVariants.{Slash, Dot}
use Rattle.zarrs_array_plan.specs.declared.chunk_key_encoding.ChunkKeyEncoding.{ChunkKeyEncoding}
use Rattle.zarrs_array_plan.specs.declared.chunk_key_encoding.ChunkKeyEncoding.TheVariants.{Default, V2}

-- `/` or `.`
abbrev pub separator_byte : ChunkKeySeparator → ℕ
separator_byte Slash = 47
separator_byte Dot = 46

-- each number with the separator before it
abbrev pub separated : ℕ → List ℕ → List ℕ
separated separator [] = []
separated separator (number ∷ numbers) = separator ∷ (decimal number ++ separated separator numbers)

-- `c`, and each index with the separator before it
abbrev pub default_key : ℕ → List ℕ → List ℕ
default_key separator numbers = 99 ∷ separated separator numbers

-- the indices with the separator between them; `0` where there are none
abbrev pub v2_key : ℕ → List ℕ → List ℕ
v2_key separator [] = 48 ∷ []
v2_key separator (number ∷ numbers) = decimal number ++ separated separator numbers

-- the key of the chunk of these indices
abbrev pub key_of : ChunkKeyEncoding → List ℕ → List ℕ
key_of (Default separator) numbers = default_key (separator_byte separator) numbers
key_of (V2 separator) numbers = v2_key (separator_byte separator) numbers

-- two chunks of a grid, which have as many indices, don't share a key
abbrev pub KeysDiffer : Type 0
KeysDiffer =
    (encoding : ChunkKeyEncoding) (one other : List ℕ) → length one ≡ length other
    → All (λ index. index < 2 ^ 64) one → All (λ index. index < 2 ^ 64) other
    → key_of encoding one ≡ key_of encoding other → one ≡ other
