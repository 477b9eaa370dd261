-- Regions of chunks, and where array-to-array codecs take them.
use Rattle.std.specs.Prelude.{◌≡◌, ℕ, ◌<◌, ◌^◌, true, List, [], ◌∷◌, map, get_or, is_ok, All, Option, option_map, Some, None, Vec, Result, Ok, if◌then◌else◌}
use Rattle.std.specs.declared.alloc.Global.{Global}
use Rattle.zarrs_chunk.specs.Answer.{Gives, GivesBy}
use Rattle.zarrs_chunk.specs.ChunkShape.{product}
use Rattle.zarrs_chunk.specs.Region.{Region}
use Rattle.zarrs_chunk.specs.Runs.{places_in}
use Rattle.zarrs_chunk.specs.Tuples.{row_major, box_tuples, is_box_inside}
use Rattle.zarrs_chunk.specs.declared.codec_error.CodecError.{CodecError}
use Rattle.zarrs_data_type.specs.Element.{Chunk}
use Rattle.zarrs_data_type.specs.ElementType.{ElementType}
use Rattle.zarrs_array_bytes.specs.Elements.{elements}
use Rattle.zarrs_array_bytes.specs.Held.{Held}
use Rattle.zarrs_array_bytes.specs.Validity.{Holds}
use Rattle.zarrs_codec.specs.CoordinateMap.{CoordinateMap, IsCoordinateMap, same_places, composition, inverse_map, moved_chunk}
use Rattle.zarrs_array_to_array.specs.ArrayToArrayCodec.{ArrayMapping, chained, keeps_places}
use Rattle.zarrs_array_to_array.specs.CodecAnswers.{type_taken}
use Rattle.zarrs_array_to_array.specs.EncodedBoxes.{encoded_box, part_moves}
use Rattle.zarrs_array_to_array.specs.Mapping.{mapping_of}
use Rattle.zarrs_array_to_array.specs.declared.array_to_array_codec.ArrayToArrayCodec.{ArrayToArrayCodec}
use Rattle.zarrs_array_regions.specs.declared.window.Window.{Window}

-- ---- windows

-- the window of a region of a chunk of these sizes
abbrev pub window_of : List ℕ → Region → Window
window_of sizes region = record { sizes = sizes; region = region }

-- how many elements it has
abbrev pub window_count : Window → ℕ
window_count window = product window.region.lengths

-- the places of its elements, in row-major order
abbrev pub window_places : Window → List ℕ
window_places window = map (row_major window.sizes) (box_tuples window.region.starts window.region.lengths)

-- the window lies inside chunks of so many elements
pub record IsWindow (count : ℕ) (window : Window) : Type 0 where
  pub count_is : product window.sizes ≡ count
  pub inside : is_box_inside window.sizes window.region.starts window.region.lengths ≡ true

-- What is done to chunks of so many elements takes one window to the other: the elements of the first, as a chunk of its own lengths, are moved by `part`, and are then those of the second one.
pub record KeepsWindow (count : ℕ) (m : CoordinateMap) (window next : Window) (part : CoordinateMap) : Type 0 where
  pub next_is : IsWindow count next
  pub part_is : IsCoordinateMap window.region.lengths part
  pub lengths : part.encoded ≡ next.region.lengths
  pub places : (index : ℕ) → index < window_count window → get_or (window_places next) (part.to index) 0 ≡ m.to (get_or (window_places window) index 0)

-- ---- one codec

-- The window that a codec makes of one of the chunk's own sizes: transposition permutes the axes of both, squeezing drops those of size one. A reshape makes none: it gives the chunk other axes and leaves the window as it is.
abbrev pub next_window : ArrayMapping → Window → Option Window
next_window codec window =
    option_map (λ there. window_of there.0 there.1) (encoded_box codec window.sizes window.region)

-- what is made of the next window, or what stays where there is none
abbrev pub behind_window : {A : Type 0} → Option Window → A → (Window → A) → A
behind_window None stay go = stay
behind_window (Some next) stay go = go next

-- the lengths of the next window's region, or of its own where there is none
abbrev pub next_lengths : ArrayMapping → Window → List ℕ
next_lengths codec window = behind_window (next_window codec window) window.region.lengths (λ next. next.region.lengths)

-- what the codec does to the window's elements, as a chunk of the region's own lengths
abbrev pub part_map : ArrayMapping → Window → CoordinateMap
part_map codec window =
    if keeps_places codec then same_places (next_lengths codec window) else part_moves codec window.region.lengths

-- ---- codecs one after another

-- The window that codecs take one of the chunk's own sizes to, one after another. From a reshape on it stays: where codecs keep regions, all later ones leave each place where it is.
abbrev pub last_window : List ArrayMapping → Window → Window
last_window [] window = window
last_window (codec ∷ codecs) window = behind_window (next_window codec window) window (last_window codecs)

-- what they do to its elements
abbrev pub region_map : List ArrayMapping → Window → CoordinateMap
region_map [] window = same_places window.region.lengths
region_map (codec ∷ codecs) window =
    behind_window (next_window codec window) (same_places window.region.lengths) (λ next. composition (part_map codec window) (region_map codecs next))

-- the elements of the last window, encoded from those of the window, at the region's own lengths
abbrev pub encoded_elements : List ArrayMapping → Window → Chunk → Chunk
encoded_elements codecs window chunk = moved_chunk (region_map codecs window) chunk

-- the elements of the window, decoded from those of the last one, at the region's own lengths
abbrev pub decoded_elements : List ArrayMapping → Window → Chunk → Chunk
decoded_elements codecs window chunk = moved_chunk (inverse_map window.region.lengths (region_map codecs window)) chunk

-- ---- what calls ask for and give

-- the codecs accept chunks of these sizes, which 64 bits count, and the region lies inside
pub record TakesRegion (codecs : List ArrayMapping) (sizes : List ℕ) (region : Region) : Type 0 where
  pub taken : is_ok (chained codecs sizes) ≡ true
  pub counted : product sizes < 2 ^ 64
  pub inside : is_box_inside sizes region.starts region.lengths ≡ true

-- each of the codecs accepts elements of the type
abbrev pub TakeType : List ArrayMapping → ElementType → Type 0
TakeType codecs type = All (λ codec. type_taken codec type ≡ Ok tt) codecs

-- the elements that a container has for the places of a window
abbrev pub window_elements : ElementType → Window → Held → Chunk
window_elements type window held = elements type (window_count window) held

-- the elements of the window, decoded from those that a container has for the last one
abbrev pub decoded_of : List ArrayMapping → ElementType → Window → Held → Chunk
decoded_of codecs type window held = decoded_elements codecs window (window_elements type window held)

-- the last window, and its elements, encoded from those that a container has for the window
abbrev pub encoded_of : List ArrayMapping → ElementType → Window → Held → Window × Chunk
encoded_of codecs type window held = (last_window codecs window, encoded_elements codecs window (window_elements type window held))

-- what is given are runs of the places of the window that codecs take a region to
abbrev pub GivesRegionRuns : List ArrayMapping → List ℕ → Region → Result (Vec (ℕ × ℕ) Global) CodecError → Type 0
GivesRegionRuns codecs sizes region result = Gives places_in result (Ok (window_places (last_window codecs (window_of sizes region))))

-- runs and a container have the places of this window, and hold these elements
abbrev pub IsEncodedRegion : ElementType → Vec (ℕ × ℕ) Global × Held → Window × Chunk → Type 0
IsEncodedRegion type answer expected = (places_in answer.0 ≡ window_places expected.0) × Holds type answer.1 expected.1

-- ---- the same of codecs and of a region of a chunk of these sizes

-- what is given are runs of the places of the region's last window, and a container of its elements
abbrev pub EncodesMapped : List ArrayMapping → ElementType → List ℕ → Region → Held → Result (Vec (ℕ × ℕ) Global × Held) CodecError → Type 0
EncodesMapped codecs type sizes region held result =
    GivesBy (IsEncodedRegion type) result (Ok (encoded_of codecs type (window_of sizes region) held))

-- runs of the places of the window that codecs take a region to are given, with a container of its elements, encoded from the region's; or the first error
abbrev pub EncodesRegion : List ArrayToArrayCodec → ElementType → List ℕ → Region → Held → Result (Vec (ℕ × ℕ) Global × Held) CodecError → Type 0
EncodesRegion codecs type sizes region held result = EncodesMapped (map mapping_of codecs) type sizes region held result
