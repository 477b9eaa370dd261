-- Laws of regions that go through array-to-array codecs.
use Rattle.std.specs.Prelude.{◌≡◌, ◌≢◌, ℕ, ◌<◌, Bool, true, List, [], length, get_or, is_ok, IsOkAnd, map, Result, Ok, Option, Some, All}
use Rattle.std.specs.List.{concat, flat_map, list_all}
use Rattle.zarrs_chunk.specs.Answer.{◌>>=◌, demand, seen}
use Rattle.zarrs_chunk.specs.ChunkShape.{product}
use Rattle.zarrs_chunk.specs.Region.{Region}
use Rattle.zarrs_chunk.specs.Tuples.{is_box_inside}
use Rattle.zarrs_chunk.specs.declared.codec_error.CodecError.{CodecError}
use Rattle.zarrs_data_type.specs.Element.{Element, Chunk}
use Rattle.zarrs_data_type.specs.ElementType.{ElementType}
use Rattle.zarrs_data_type.specs.Form.{Form}
use Rattle.zarrs_data_type.specs.declared.endianness.Endianness.{Endianness}
use Rattle.zarrs_array_bytes.specs.Elements.{select}
use Rattle.zarrs_array_bytes.specs.Held.{Held}
use Rattle.zarrs_array_bytes.specs.Update.{update}
use Rattle.zarrs_array_bytes.specs.Validity.{Holds, data_fit, validity}
use Rattle.zarrs_codec.specs.CoordinateMap.{CoordinateMap, IsCoordinateMap, composition, inverse_map, moved_chunk}
use Rattle.zarrs_codec.specs.StorageState.{are_sure}
use Rattle.zarrs_metadata.specs.Orders.{is_order}
use Rattle.zarrs_array_to_array.specs.ArrayToArrayCodec.{ArrayMapping, IsMapping, coordinates, chained}
use Rattle.zarrs_array_to_array.specs.SqueezedBoxes.{squeezed_region}
use Rattle.zarrs_array_to_array.specs.Orders.{permuted}
use Rattle.zarrs_array_to_array.specs.TransposeMeaning.{permuted_region}
use Rattle.zarrs_array_to_array.specs.Squeeze.{squeezed}
use Rattle.zarrs_array_to_array.specs.Transpose.{transposition}
use Rattle.zarrs_bytes.specs.BytesCodec.{bytes_length}
use Rattle.zarrs_bytes.specs.PartialWrite.{bytes_left, with_place_bytes}
use Rattle.zarrs_array_regions.specs.KeptRegions.{keeps_regions}
use Rattle.zarrs_array_regions.specs.PlaceReaders.{brought_back, taken_along, ReadsInAnyOrder}
use Rattle.zarrs_array_regions.specs.Windows.{IsWindow, KeepsWindow, window_count, window_of, window_places, window_elements, next_window, part_map, last_window, region_map, encoded_elements, decoded_elements, decoded_of}
use Rattle.zarrs_array_regions.specs.declared.window.Window.{Window}

-- the places of a region of a chunk of these sizes, in row-major order
abbrev pub region_places : List ℕ → Region → List ℕ
region_places sizes region = window_places (window_of sizes region)

-- ---- one codec

-- Selecting a region of a chunk is decoding, at the region's own lengths, what the transposed chunk has at the permuted region.
abbrev pub TransposedRegionIsRead : Type 0
TransposedRegionIsRead =
    (order sizes : List ℕ) (region : Region) (chunk : Chunk) → is_order order ≡ true → length order ≡ length sizes → is_box_inside sizes region.starts region.lengths ≡ true
    → select chunk (region_places sizes region) ≡ moved_chunk (inverse_map region.lengths (transposition order region.lengths)) (select (moved_chunk (transposition order sizes) chunk) (region_places (permuted order sizes) (permuted_region order region)))

-- Updating the transposed chunk at the permuted region, with the new elements encoded at the region's own lengths, is transposing the updated chunk.
abbrev pub TransposedRegionIsWritten : Type 0
TransposedRegionIsWritten =
    (order sizes : List ℕ) (region : Region) (chunk new : Chunk) → is_order order ≡ true → length order ≡ length sizes → is_box_inside sizes region.starts region.lengths ≡ true → length chunk ≡ product sizes → length new ≡ product region.lengths
    → update (moved_chunk (transposition order sizes) chunk) (region_places (permuted order sizes) (permuted_region order region)) (moved_chunk (transposition order region.lengths) new) ≡ moved_chunk (transposition order sizes) (update chunk (region_places sizes region) new)

-- The region of a squeezed chunk without the axes that were dropped has its elements at the same places.
abbrev pub SqueezedRegionIsKept : Type 0
SqueezedRegionIsKept =
    (sizes : List ℕ) (region : Region) → is_box_inside sizes region.starts region.lengths ≡ true → region_places (squeezed sizes) (squeezed_region sizes region) ≡ region_places sizes region

-- A codec keeps each window of the chunk's own sizes of which it makes another one.
abbrev pub CodecsKeepWindows : Type 0
CodecsKeepWindows =
    (codec : ArrayMapping) (sizes : List ℕ) (region : Region) (m : CoordinateMap) (next : Window) → IsMapping codec → coordinates codec sizes ≡ Ok m → is_box_inside sizes region.starts region.lengths ≡ true → next_window codec (window_of sizes region) ≡ Some next
    → KeepsWindow (product sizes) m (window_of sizes region) next (part_map codec (window_of sizes region))

-- ---- windows

-- What is selected in a window that is kept is what is selected in the next one, moved back.
abbrev pub WindowsSelect : Type 0
WindowsSelect =
    (sizes : List ℕ) (m : CoordinateMap) (window next : Window) (part : CoordinateMap) (chunk : Chunk) → IsCoordinateMap sizes m → IsWindow (product sizes) window → KeepsWindow (product sizes) m window next part
    → select chunk (window_places window) ≡ moved_chunk (inverse_map window.region.lengths part) (select (moved_chunk m chunk) (window_places next))

-- A moved chunk with the moved new elements in the next window is the chunk with the new elements in the window, moved.
abbrev pub WindowsUpdate : Type 0
WindowsUpdate =
    (sizes : List ℕ) (m : CoordinateMap) (window next : Window) (part : CoordinateMap) (chunk new : Chunk) → IsCoordinateMap sizes m → IsWindow (product sizes) window → KeepsWindow (product sizes) m window next part → length chunk ≡ product sizes → length new ≡ window_count window
    → update (moved_chunk m chunk) (window_places next) (moved_chunk part new) ≡ moved_chunk m (update chunk (window_places window) new)

-- What keeps a window and then what keeps the next one keep it together.
abbrev pub WindowsCompose : Type 0
WindowsCompose =
    (count : ℕ) (first second : CoordinateMap) (window middle next : Window) (part rest : CoordinateMap) → KeepsWindow count first window middle part → KeepsWindow count second middle next rest
    → KeepsWindow count (composition first second) window next (composition part rest)

-- ---- codecs one after another

-- what holds of a region inside a chunk of these sizes that goes as a region through codecs, which do this to such chunks
abbrev pub OfKeptRegions : (List ArrayMapping → List ℕ → CoordinateMap → Region → Type 0) → Type 0
OfKeptRegions P =
    (codecs : List ArrayMapping) (sizes : List ℕ) (m : CoordinateMap) (region : Region) → All IsMapping codecs → All (λ size. 0 < size) sizes → chained codecs sizes ≡ Ok m → keeps_regions codecs ≡ true → is_box_inside sizes region.starts region.lengths ≡ true
    → P codecs sizes m region

-- Codecs that keep regions take each region to the last window.
abbrev pub ChainsKeepWindows : Type 0
ChainsKeepWindows = OfKeptRegions (λ codecs sizes m region.
    let window = window_of sizes region in
    KeepsWindow (product sizes) m window (last_window codecs window) (region_map codecs window))

-- Selecting a region of a chunk is decoding, at the region's own lengths, what the moved chunk has in the last window.
abbrev pub RegionsAreRead : Type 0
RegionsAreRead = OfKeptRegions (λ codecs sizes m region.
    let window = window_of sizes region in
    (chunk : Chunk) → select chunk (window_places window) ≡ decoded_elements codecs window (select (moved_chunk m chunk) (window_places (last_window codecs window))))

-- Updating the moved chunk in the last window, with the new elements encoded at the region's own lengths, is encoding the updated chunk.
abbrev pub RegionsAreWritten : Type 0
RegionsAreWritten = OfKeptRegions (λ codecs sizes m region.
    let window = window_of sizes region in
    (chunk new : Chunk) → length chunk ≡ product sizes → length new ≡ window_count window
    → update (moved_chunk m chunk) (window_places (last_window codecs window)) (encoded_elements codecs window new) ≡ moved_chunk m (update chunk (window_places window) new))

-- ---- reads by places

-- What answers for each place an element of its own, where all places pass a test, reads places in any order.
abbrev pub TestedPlacesAreReadInAnyOrder : Type 0
TestedPlacesAreReadInAnyOrder =
    (test : ℕ → Bool) (cause : CodecError) (element : ℕ → Element) → ReadsInAnyOrder (λ places. demand (list_all test places) cause >>= λ _. Ok (map element places))

-- What reads places in any order reads where a region's places go just what it reads in the last window, decoded at the region's own lengths; or the same error.
abbrev pub RegionsAreReadByPlaces : Type 0
RegionsAreReadByPlaces = OfKeptRegions (λ codecs sizes m region.
    let window = window_of sizes region in
    (read : List ℕ → Result Chunk CodecError) → ReadsInAnyOrder read → read (map m.to (window_places window)) ≡ seen (decoded_elements codecs window) (read (window_places (last_window codecs window))))

-- What is decoded at the region's own lengths from a container of what is read in the last window holds what is read where the region's places go.
abbrev pub RegionsAreDecodedByPlaces : Type 0
RegionsAreDecodedByPlaces = OfKeptRegions (λ codecs sizes m region.
    let window = window_of sizes region in
    (read : List ℕ → Result Chunk CodecError) (type : ElementType) (held decoded : Held) → ReadsInAnyOrder read → IsOkAnd (read (window_places (last_window codecs window))) (Holds type held)
    → (validity type (window_count window) held ≡ Ok tt) × (Holds type decoded (decoded_of codecs type window held) → IsOkAnd (read (map m.to (window_places window))) (Holds type decoded)))

-- The bytes that are asked for at places, so many numbers for each, are sure in any order of the places.
abbrev pub PlacesAreSureInAnyOrder : Type 0
PlacesAreSureInAnyOrder =
    (sure : Option (ℕ → Bool)) (numbers : ℕ → List ℕ) (lengths : List ℕ) (part : CoordinateMap) (places : List ℕ) → IsCoordinateMap lengths part → length places ≡ product lengths
    → are_sure sure (flat_map numbers (brought_back lengths part 0 places)) ≡ are_sure sure (flat_map numbers places)

-- Where a region's places go just those bytes are sure that are sure in the last window.
abbrev pub RegionsAreSureByPlaces : Type 0
RegionsAreSureByPlaces = OfKeptRegions (λ codecs sizes m region.
    let window = window_of sizes region in
    (sure : Option (ℕ → Bool)) (numbers : ℕ → List ℕ) → are_sure sure (flat_map numbers (map m.to (window_places window))) ≡ are_sure sure (flat_map numbers (window_places (last_window codecs window))))

-- ---- writes by places

-- New pieces of one size are written over a value's bytes in any order of places none of which comes twice.
abbrev pub PlacesAreWrittenInAnyOrder : Type 0
PlacesAreWrittenInAnyOrder =
    (size : ℕ) (value : List ℕ) (lengths : List ℕ) (part : CoordinateMap) (places : List ℕ) (new : List (List ℕ)) → IsCoordinateMap lengths part → length places ≡ product lengths → length new ≡ product lengths
    → ((i j : ℕ) → i < j → j < product lengths → get_or places i 0 ≢ get_or places j 0) → All (λ piece. length piece ≡ size) new
    → with_place_bytes size value (brought_back lengths part 0 places) (concat new) ≡ with_place_bytes size value places (concat (taken_along lengths part [] new))

-- What `bytes` leaves of a value, or of none, where new elements are written where a region's places go, it leaves where they are encoded at the region's own lengths and written in the last window.
abbrev pub RegionsAreWrittenByPlaces : Type 0
RegionsAreWrittenByPlaces = OfKeptRegions (λ codecs sizes m region.
    let window = window_of sizes region in
    (order : Option Endianness) (form : Form) (stored : Option (List ℕ)) (new encoded : Held)
    → is_ok (bytes_length order form) ≡ true → data_fit form.type (window_count window) new ≡ Ok tt → Holds form.type encoded (encoded_elements codecs window (window_elements form.type window new))
    → bytes_left order form stored (map m.to (window_places window)) new ≡ bytes_left order form stored (window_places (last_window codecs window)) encoded)
