-- Writes at places, the last one of a place counting.
use Rattle.std.specs.Prelude.{ℕ, ◌+◌, ◌-◌, ◌*◌, Bool, true, nat_le, ◌&&◌, List, [], ◌∷◌, ◌++◌, length, map, take, drop, set}
use Rattle.std.specs.List.{concat, range_with_len}
use Rattle.zarrs_data_type.specs.ElementType.{ElementType, fixed, text, bytes, optional, element_size}
use Rattle.zarrs_array_bytes.specs.Held.{Held, flen, vlen, masked, owned_bytes}
use Rattle.zarrs_array_bytes.specs.Elements.{cut}
use Rattle.zarrs_array_bytes.specs.Pieces.{pieces, ends, bytes_with_offsets, variable_of}

-- the list with the item at the first place replaced by the first new one, then the item at the second place by the second, and so on
abbrev pub update : {A : Type 0} → List A → List ℕ → List A → List A
update old [] new = old
update old (place ∷ places) [] = old
update old (place ∷ places) (item ∷ new) = update (set old place item) places new

-- the bytes between each offset and the next, of so many elements
abbrev pub cuts : ℕ → List ℕ → List ℕ → List (List ℕ)
cuts count offsets items = map (cut offsets items) (range_with_len 0 count)

-- the runs begin at this place or behind it, and none before the end of the one before
abbrev pub is_rising : ℕ → List (ℕ × ℕ) → Bool
is_rising at [] = true
is_rising at (run ∷ runs) = nat_le at run.0 && is_rising (run.0 + run.1) runs

-- bytes and offsets with more parts behind them
abbrev pub with_parts : List ℕ × List ℕ → List (List ℕ) → List ℕ × List ℕ
with_parts parts more = (parts.0 ++ concat more, parts.1 ++ ends (length parts.0) more)

-- the list with the items from here on replaced
abbrev pub with_items_at : List ℕ → ℕ → List ℕ → List ℕ
with_items_at old at new = take at old ++ (new ++ drop (at + length new) old)

-- the bytes with those of each run of elements replaced by the next ones of the new bytes
abbrev pub with_runs : ℕ → List ℕ → List (ℕ × ℕ) → List ℕ → List ℕ
with_runs size old [] new = old
with_runs size old (run ∷ runs) new =
    with_runs size (with_items_at old (run.0 * size) (take (run.1 * size) new)) runs (drop (run.1 * size) new)

-- the bytes and offsets of elements of any length, with the elements at the places replaced by the new ones
abbrev pub cuts_update : List ℕ → List ℕ → List ℕ → List ℕ → List ℕ → List ℕ × List ℕ
cuts_update offsets items new_offsets new_items places =
    bytes_with_offsets (λ part. part) (update (cuts (length offsets - 1) offsets items) places (cuts (length new_offsets - 1) new_offsets new_items))

-- the bytes of so many elements of one size, with the elements at the places replaced by the new ones
abbrev pub pieces_update : ℕ → ℕ → List ℕ → List ℕ → List ℕ → List ℕ
pieces_update size count items places new =
    concat (update (pieces size count items) places (pieces size (length places) new))

-- the container with its elements at the places replaced by the new ones: the bytes of each element, and at each optional level the flags
abbrev pub container_update : ElementType → ℕ → Held → ℕ → Held → List ℕ → Held
container_update (fixed width components sign) count (flen raw) new_count (flen new) places =
    flen (owned_bytes (concat (update (pieces (element_size width components) count raw.items) places (pieces (element_size width components) new_count new.items))))
container_update text count (vlen raw offsets) new_count (vlen new new_offsets) places =
    variable_of (bytes_with_offsets (λ part. part) (update (cuts count offsets raw.items) places (cuts new_count new_offsets new.items)))
container_update bytes count (vlen raw offsets) new_count (vlen new new_offsets) places =
    variable_of (bytes_with_offsets (λ part. part) (update (cuts count offsets raw.items) places (cuts new_count new_offsets new.items)))
container_update (optional type) count (masked inner mask) new_count (masked new new_mask) places =
    masked (container_update type count inner new_count new places) (owned_bytes (update mask.items places new_mask.items))
container_update _ count held new_count new places = held

-- the same, with one new element for each place
abbrev pub container_written : ElementType → ℕ → Held → List ℕ → Held → Held
container_written type count held places new = container_update type count held (length places) new places
