-- Regions that make few runs, and what stands there.
use Rattle.std.specs.Prelude.{◌≡◌, ℕ, ◌<◌, ◌^◌, ◌++◌, ◌&&◌, nat_le, Bool, true, false, List, [], ◌∷◌, length, map, Result, Ok}
use Rattle.arrayvec.specs.ArrayVec.{ArrayVec}
use Rattle.zarrs_chunk.specs.Answer.{GivesBy}
use Rattle.zarrs_chunk.specs.ChunkShape.{product}
use Rattle.zarrs_chunk.specs.Region.{Region}
use Rattle.zarrs_chunk.specs.Rows.{row_at}
use Rattle.zarrs_chunk.specs.Runs.{joined_runs, AreFilled, EndWithin, AreApart}
use Rattle.zarrs_chunk.specs.declared.codec_error.CodecError.{CodecError}
use Rattle.zarrs_chunk.specs.declared.rows.Row.{Row}
use Rattle.zarrs_data_type.specs.Element.{Chunk}
use Rattle.zarrs_data_type.specs.ElementType.{ElementType}
use Rattle.zarrs_array_bytes.specs.Held.{Held}
use Rattle.zarrs_array_bytes.specs.Validity.{Holds}
use Rattle.zarrs_array_to_array.specs.ArrayToArrayCodec.{ArrayMapping, transpose}
use Rattle.zarrs_bytes.specs.ReadingCalls.{consecutive_runs}
use Rattle.zarrs_array_regions.specs.Parts.{FitsRegion, held_elements, part_encoded}
use Rattle.zarrs_array_regions.specs.Windows.{window_of, window_places, window_elements, last_window, encoded_elements}

-- a call that returns true has put the rows of these fronts behind the old runs
abbrev pub PutsRows : Row → List ℕ → ArrayVec (ℕ × ℕ) → ArrayVec (ℕ × ℕ) → Bool → Type 0
PutsRows row fronts old new done = done ≡ true → new.items ≡ old.items ++ map (row_at row) fronts

-- runs are those of the region's last window: they have its places, and none is empty, ends behind the last element or starts where the one before it ends
pub record HasRegionRuns (codecs : List ArrayMapping) (sizes : List ℕ) (region : Region) (runs : List (ℕ × ℕ)) : Type 0 where
  pub places : joined_runs runs ≡ window_places (last_window codecs (window_of sizes region))
  pub filled : AreFilled runs
  pub below : EndWithin (product sizes) runs
  pub apart : AreApart runs

-- how many runs the places of the region's last window are in, each run as long as it can be
abbrev pub region_run_count : List ArrayMapping → List ℕ → Region → ℕ
region_run_count codecs sizes region = length (consecutive_runs (window_places (last_window codecs (window_of sizes region))))

-- there is no codec, or one transposition alone
abbrev pub transpose_at_most : List ArrayMapping → Bool
transpose_at_most [] = true
transpose_at_most (transpose order ∷ []) = true
transpose_at_most codecs = false

-- A region of a chunk of these sizes has few runs: it goes through no codec or one transposition, the chunk has eight axes at most, and the region's last window fifteen runs at most.
abbrev pub has_few_runs : List ArrayMapping → List ℕ → Region → Bool
has_few_runs codecs sizes region =
    transpose_at_most codecs && nat_le (length sizes) 8 && nat_le (region_run_count codecs sizes region) 15

-- there is no codec, or one that fits the region
abbrev pub FitsOne : List ArrayMapping → Region → Type 0
FitsOne [] region = Unit {0}
FitsOne (codec ∷ []) region = FitsRegion codec region
FitsOne (codec ∷ (next ∷ codecs)) region = ⊥

-- the elements behind the first codec, from the region's
abbrev pub first_encoded : List ArrayMapping → ElementType → Region → Held → Chunk
first_encoded [] type region held = held_elements type region held
first_encoded (codec ∷ codecs) type region held = part_encoded codec type region held

-- what is given is a container of them
abbrev pub EncodesFirst : List ArrayMapping → ElementType → Region → Held → Result Held CodecError → Type 0
EncodesFirst codecs type region held result = GivesBy (Holds type) result (Ok (first_encoded codecs type region held))

-- a region of a chunk of these sizes goes through one codec at most, which moves its elements as all do
pub record TakesFew (codecs : List ArrayMapping) (sizes : List ℕ) (region : Region) : Type 0 where
  pub fits : FitsOne codecs region
  pub counted : product region.lengths < 2 ^ 64
  pub moved : (type : ElementType) (held : Held) → first_encoded codecs type region held ≡ encoded_elements codecs (window_of sizes region) (window_elements type (window_of sizes region) held)
