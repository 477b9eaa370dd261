-- Laws of parts as bytes: what puts of parts make of a region, and what is taken out of it.
use Rattle.std.specs.Prelude.{◌≡◌, ℕ, ◌*◌, ◌<◌, ◌^◌, List, [], ◌∷◌, length, Contains, Ok, All}
use Rattle.std.specs.List.{concat}
use Rattle.zarrs_array_bytes.specs.Pieces.{pieces}
use Rattle.zarrs_chunk.specs.ChunkShape.{product}
use Rattle.zarrs_chunk.specs.Region.{Region, IsRegion}
use Rattle.zarrs_grid.specs.JoinedParts.{HasChunks}
use Rattle.zarrs_grid.specs.RegionElements.{elements_of_part}
use Rattle.zarrs_grid.specs.RegionWrites.{new_of_part}
use Rattle.zarrs_grid.specs.Touched.{FitsGrid, touched_chunks}
use Rattle.zarrs_array_calls.specs.CrossedPlans.{part_numbers}
use Rattle.zarrs_array_calls.specs.PartBytes.{part_put, part_taken}

-- The region touches the chunk of these indices, an element has `size` bytes, and 64 bits count those of the region.
pub record IsPartOfBytes (chunk_shape : List ℕ) (region : Region) (chunk : List ℕ) (size : ℕ) : Type 0 where
  pub grid : FitsGrid chunk_shape region
  pub ends : IsRegion region.starts region.lengths
  pub touched : Contains (touched_chunks chunk_shape region) chunk
  pub some : 0 < size
  pub counted : product region.lengths * size < 2 ^ 64

-- The bytes are those of a region's elements, `size` each, and those of these chunks are the array's. At other places anything may stand.
pub record HoldsBytes (size : ℕ) (element : List ℕ → List ℕ) (chunk_shape : List ℕ) (region : Region) (chunks : List (List ℕ)) (bytes : List ℕ) : Type 0 where
  pub whole : length bytes ≡ product region.lengths * size
  pub has : HasChunks element chunk_shape region chunks (pieces size (product region.lengths) bytes)

-- Bytes that have the elements of some chunks have those of one chunk more, once what a read of its part gives is put there, by the part's numbers in a plan of the region; no error is due.
abbrev pub PutsAreJoined : Type 0
PutsAreJoined =
    (size : ℕ) (element : List ℕ → List ℕ) (chunk_shape : List ℕ) (region : Region) (chunk : List ℕ) (chunks : List (List ℕ)) (bytes : List ℕ)
    → IsPartOfBytes chunk_shape region chunk size → ((tuple : List ℕ) → length (element tuple) ≡ size)
    → HoldsBytes size element chunk_shape region chunks bytes
    → (joined : List ℕ)
    × (part_put size region.lengths (part_numbers chunk_shape region chunk) (concat (elements_of_part element chunk_shape region chunk)) bytes ≡ Ok joined)
    × HoldsBytes size element chunk_shape region (chunk ∷ chunks) joined

-- What is taken of a region's new elements, by a part's numbers in a plan of the region, are those of the part; no error is due where there is room for just these.
abbrev pub PartsAreTaken : Type 0
PartsAreTaken =
    (size : ℕ) (chunk_shape : List ℕ) (region : Region) (chunk : List ℕ) (new : List (List ℕ)) (room : ℕ)
    → IsPartOfBytes chunk_shape region chunk size → length new ≡ product region.lengths → All (λ element. length element ≡ size) new
    → room ≡ length (new_of_part chunk_shape region chunk new []) * size
    → part_taken size region.lengths (part_numbers chunk_shape region chunk) (concat new) room ≡ Ok (concat (new_of_part chunk_shape region chunk new []))
