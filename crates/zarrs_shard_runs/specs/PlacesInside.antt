-- Places of a chunk, by the inner chunks that have them.
use Rattle.std.specs.List.{range_with_len}
use Rattle.std.specs.Prelude.{ℕ, nat_eq, List, [], ◌∷◌, map, filter}
use Rattle.zarrs_chain_meaning.specs.sharding.InnerChunks.{inner_chunk_count, inner_chunk_of, place_inside}

-- of places of the chunk those in the inner chunk of this number, as places of it
abbrev pub places_of_inner : List ℕ → List ℕ → ℕ → List ℕ → List ℕ
places_of_inner shape sizes number places = map (place_inside shape sizes) (filter (λ place. nat_eq (inner_chunk_of shape sizes place) number) places)

-- an inner chunk's number with these places of it before others, where there are any
abbrev pub if_any : ℕ → List ℕ → List (ℕ × List ℕ) → List (ℕ × List ℕ)
if_any number [] groups = groups
if_any number (place ∷ places) groups = (number, place ∷ places) ∷ groups

-- the inner chunks of these numbers that have any of the places, each with its own, in their order
abbrev pub groups_among : List ℕ → List ℕ → List ℕ → List ℕ → List (ℕ × List ℕ)
groups_among shape sizes places [] = []
groups_among shape sizes places (number ∷ numbers) = if_any number (places_of_inner shape sizes number places) (groups_among shape sizes places numbers)

-- the inner chunks that have any of the places, in the order of their numbers, each with its own places
abbrev pub groups_of : List ℕ → List ℕ → List ℕ → List (ℕ × List ℕ)
groups_of shape sizes places = groups_among shape sizes places (range_with_len 0 (inner_chunk_count shape sizes))
