-- Laws over the definitions alone.
use Rattle.std.specs.Prelude.{◌≡◌, ◌≢◌, ℕ, ◌+◌, ◌*◌, ◌<◌, true, nat_lt, List, length, get_or, All, Ok, Option, Some, None}
use Rattle.std.specs.Option.{option_map}
use Rattle.std.specs.List.{list_all}
use Rattle.std.specs.List.Sorted.{IsStrictlyIncreasing}
use Rattle.zarrs_data_type.specs.ElementType.{ElementType, fixed, text, bytes, optional, element_size}
use Rattle.zarrs_data_type.specs.Element.{absent, Chunk}
use Rattle.zarrs_array_bytes.specs.Held.{Raw, Held, masked}
use Rattle.zarrs_array_bytes.specs.Elements.{piece, select}
use Rattle.zarrs_array_bytes.specs.FixedView.{FixedView, written_bytes, elements_fit}
use Rattle.zarrs_array_bytes.specs.Validity.{sizes_fit, Holds}
use Rattle.zarrs_array_bytes.specs.Update.{update}
use Rattle.zarrs_array_bytes.specs.Present.{present_elements, mask_of, expansion, present_places, present_count, present_chunk, expanded_chunk}

-- no write is at the place
abbrev pub IsUntouched : List ℕ → ℕ → Type 0
IsUntouched places place = (k : ℕ) → k < length places → get_or places k 0 ≢ place

-- the write of this number is the last one at the place
pub record IsLastWrite (places : List ℕ) (place number : ℕ) : Type 0 where
  pub known : number < length places
  pub here : get_or places number 0 ≡ place
  pub last : (k : ℕ) → number < k → k < length places → get_or places k 0 ≢ place

-- What is selected after an update is the data written last at a place, or else the old element.
abbrev pub UpdateThenSelect : Type 0
UpdateThenSelect =
    (chunk new : Chunk) (places others : List ℕ) (i : ℕ) → length places ≡ length new → i < length others → get_or others i 0 < length chunk
    → (IsUntouched places (get_or others i 0) → get_or (select (update chunk places new) others) i absent ≡ get_or chunk (get_or others i 0) absent)
    × ((number : ℕ) → IsLastWrite places (get_or others i 0) number → get_or (select (update chunk places new) others) i absent ≡ get_or new number absent)

-- what is extracted from a container under a mask is what is present of the chunk, so many, under the chunk's mask
pub record IsPresent (type : ElementType) (inner : Held) (flags : Raw) (chunk : Chunk) : Type 0 where
  pub elements : present_chunk type inner flags.items ≡ Ok (present_elements chunk)
  pub count : present_count flags.items ≡ Ok (length (present_elements chunk))
  pub mask : mask_of chunk ≡ flags.items

-- Of a container that holds a chunk under a mask of zeros and ones, what is extracted is what is present of the chunk.
abbrev pub PresentElementsAreHeld : Type 0
PresentElementsAreHeld =
    (type : ElementType) (held : Held) (mask : Raw) (chunk : Chunk) → Holds (optional type) (masked held mask) chunk → list_all (λ byte. nat_lt byte 2) mask.items ≡ true
    → IsPresent type held mask chunk

-- Of a container that holds as many elements as a mask of zeros and ones has ones, what is put back are these elements.
abbrev pub ExpandedElementsAreHeld : Type 0
ExpandedElementsAreHeld =
    (type : ElementType) (held : Held) (mask : List ℕ) (chunk : Chunk) → Holds type held chunk → present_count mask ≡ Ok (length chunk) → sizes_fit type (length mask) ≡ Ok tt
    → expanded_chunk type held mask ≡ Ok (expansion mask chunk)

-- Of elements that are put back under a mask of zeros and ones, one for each 1, those are present, and the mask is that one.
abbrev pub ExpansionKeepsElements : Type 0
ExpansionKeepsElements =
    (mask : List ℕ) (elements : Chunk) → list_all (λ byte. nat_lt byte 2) mask ≡ true → length elements ≡ length (present_places mask)
    → (present_elements (expansion mask elements) ≡ elements) × (mask_of (expansion mask elements) ≡ mask)

-- A view of an array: it has all of the array's bytes, and its places are below the array's count and rise.
pub record IsView (view : FixedView) : Type 0 where
  pub whole : length view.bytes ≡ view.count * view.element_size
  pub below : All (λ place. place < view.count) view.places
  pub rising : IsStrictlyIncreasing view.places

-- After a write, every element at another place is the old one.
abbrev pub OtherElementsStay : Type 0
OtherElementsStay =
    (view : FixedView) (new : List ℕ) (place : ℕ) → IsView view → elements_fit view new ≡ Ok tt → place < view.count → IsUntouched view.places place
    → piece view.element_size (written_bytes view new) place ≡ piece view.element_size view.bytes place

-- how many bytes an element of the type has in a container, with its mask bytes; none where elements of the type differ in it
abbrev pub bytes_each : ElementType → Option ℕ
bytes_each (fixed width components sign) = Some (element_size width components)
bytes_each text = None
bytes_each bytes = None
bytes_each (optional type) = option_map (λ each. each + 1) (bytes_each type)
