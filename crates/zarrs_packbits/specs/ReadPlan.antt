-- The bytes of runs of places that follow one another, and the plan of a read.
use Rattle.std.specs.Prelude.{◌≡◌, ℕ, ◌+◌, ◌-◌, ◌*◌, ◌/◌, ◌%◌, List, [], ◌∷◌, ◌++◌, map, length, take, drop, Bool, true, if◌then◌else◌, Option, Result, Ok, Err}
use Rattle.std.specs.List.{list_all}
use Rattle.zarrs_chunk.specs.Runs.{joined_runs, AreApart, AreFilled}
use Rattle.zarrs_chunk.specs.declared.codec_error.CodecError.{CodecError}
use Rattle.zarrs_codec.specs.ByteRanges.{range_indices}
use Rattle.zarrs_codec.specs.ByteSpan.{ByteSpan}
use Rattle.zarrs_data_type.specs.Form.{Form}
use Rattle.zarrs_bytes.specs.AskedRanges.{asked_for_runs, ranges_of}
use Rattle.zarrs_bytes.specs.PartialRead.{place_size}
use Rattle.zarrs_bytes.specs.PlannedRanges.{ranges_len, spans}
use Rattle.zarrs_packbits.specs.Bits.{bits_of}
use Rattle.zarrs_packbits.specs.BitStream.{components_from}
use Rattle.zarrs_packbits.specs.declared.layout.PackedLayout.{PackedLayout}
use Rattle.zarrs_packbits.specs.PackBitsSettings.{PackBitsSettings, packed_layout}
use Rattle.zarrs_packbits.specs.PackedLayout.{element_bits_len, is_whole}
use Rattle.zarrs_packbits.specs.PartialRead.{packed_places_bytes, run_end, run_start}

-- the bytes that hold bits of the run
abbrev pub run_span : PackedLayout → ℕ × ℕ → ℕ × ℕ
run_span l run = (run_start l run, run_end l run)

-- both lists have the same numbers: a test that all of the one pass, all of the other pass, and the other way round
abbrev pub SameNumbers : List ℕ → List ℕ → Type 0
SameNumbers numbers others = (test : ℕ → Bool) → list_all test numbers ≡ list_all test others

-- The ranges are the plan of a read of these runs: each is the bytes of one run, in order. Joined they are the places' bytes and no others. Where all bits of whole bytes are kept, they have as many bytes as the elements.
pub record IsPlanOfRuns (l : PackedLayout) (runs : List (ℕ × ℕ)) (ranges : List ByteSpan) : Type 0 where
  pub each : spans ranges ≡ map (run_span l) runs
  pub bytes : SameNumbers (range_indices ranges) (packed_places_bytes l (joined_runs runs))
  pub sum : is_whole l ≡ true → ranges_len ranges ≡ length (joined_runs runs) * (l.group * l.size)

-- The ranges are the plan of a read of these places: the places are joined, in order, to runs of consecutive places, none of them empty, and none beginning where the one before it ends; each range is the bytes of one run. Joined they are the places' bytes and no others. Where all bits of whole bytes are kept, they have as many bytes as the elements.
pub record IsPackBitsPlan (l : PackedLayout) (places : List ℕ) (ranges : List ByteSpan) : Type 0 where
  pub runs : List (ℕ × ℕ)
  pub filled : AreFilled runs
  pub apart : AreApart runs
  pub joined : joined_runs runs ≡ places
  pub each : spans ranges ≡ map (run_span l) runs
  pub bytes : SameNumbers (range_indices ranges) (packed_places_bytes l places)
  pub sum : is_whole l ≡ true → ranges_len ranges ≡ length places * (l.group * l.size)

-- the ranges of these runs, one for each: the bytes that hold bits of the run
abbrev pub packed_ranges : PackedLayout → List (ℕ × ℕ) → List ByteSpan
packed_ranges l runs = ranges_of (map (run_span l) runs)

-- the ranges that a read of these runs asks for, by how the chunk is packed
abbrev pub packed_asked : Result PackedLayout CodecError → ℕ → Option (List ℕ) → List (ℕ × ℕ) → List ByteSpan
packed_asked (Ok l) size stored runs = if is_whole l then asked_for_runs size stored runs else packed_ranges l runs
packed_asked (Err _) size stored runs = []

-- the ranges that a read of these runs asks for, by the settings and the form of the chunk: one for each run; where all bits of whole bytes are kept, those of the codec `bytes`
abbrev pub asked_of : PackBitsSettings → Form → Option (List ℕ) → List (ℕ × ℕ) → List ByteSpan
asked_of settings form stored runs = packed_asked (packed_layout settings form) (place_size form.type) stored runs

-- the components of the elements of these runs, made of the runs' bytes joined
abbrev pub run_bits : PackedLayout → List ℕ → List (ℕ × ℕ) → List ℕ
run_bits l bytes [] = []
run_bits l bytes (run ∷ runs) =
    let len = run_end l run - run_start l run in
    components_from l (run.0 * element_bits_len l % 8) (run.1 * l.group) (bits_of (take len bytes)) ++ run_bits l (drop len bytes) runs

-- how many bytes the runs have, joined
abbrev pub runs_len : PackedLayout → List (ℕ × ℕ) → ℕ
runs_len l [] = 0
runs_len l (run ∷ runs) = (run_end l run - run_start l run) + runs_len l runs
