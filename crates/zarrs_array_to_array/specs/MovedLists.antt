-- Lists of tuples whose places are moved as they are numbered.
use Rattle.std.specs.Prelude.{◌≡◌, ◌<◌, ◌^◌, ℕ, List, ◌∷◌, map, length, Ok}
use Rattle.zarrs_chunk.specs.ChunkShape.{product}
use Rattle.zarrs_chunk.specs.Numbering.{numbers_of_tuples}
use Rattle.zarrs_chunk.specs.Selection.{Selection, indices, places_of}
use Rattle.zarrs_chunk.specs.Tuples.{row_major}
use Rattle.zarrs_array_to_array.specs.ArrayToArrayCodec.{ArrayMapping, transpose}
use Rattle.zarrs_array_to_array.specs.Orders.{permuted}
use Rattle.zarrs_array_to_array.specs.Transpose.{transposed_place}

-- the number of a tuple in a chunk with its axes in this order
abbrev pub ordered_number : List ℕ → List ℕ → List ℕ → ℕ
ordered_number order sizes tuple = row_major (permuted order sizes) (permuted order tuple)

-- the numbers of tuples in a chunk with its axes in this order, in list order
abbrev pub ordered_numbers : List ℕ → List ℕ → List (List ℕ) → List ℕ
ordered_numbers order sizes tuples = map (ordered_number order sizes) tuples

-- the order has the axes of the sizes, of which 64 bits count the elements; the tuples are inside, and these are the places to which they go when the axes are put in this order
pub record MovesList (order sizes : List ℕ) (tuples : List (List ℕ)) (places : List ℕ) : Type 0 where
  pub axes : length order ≡ length sizes
  pub counted : product sizes < 2 ^ 64
  pub meant : places_of (indices tuples) sizes ≡ Ok (numbers_of_tuples sizes tuples)
  pub moved : places ≡ map (transposed_place order sizes) (numbers_of_tuples sizes tuples)

-- the codec is a transposition, and takes the places of these tuples to these
abbrev pub CodecMovesList : ArrayMapping → List ℕ → List (List ℕ) → List ℕ → Type 0
CodecMovesList codec sizes tuples places = (order : List ℕ) × (codec ≡ transpose order) × MovesList order sizes tuples places

-- the first of the codecs is a transposition, and takes the places of a selection to these
pub record StartsList (codecs : List ArrayMapping) (sizes : List ℕ) (selection : Selection) (places : List ℕ) : Type 0 where
  pub order : List ℕ
  pub rest : List ArrayMapping
  pub first : codecs ≡ transpose order ∷ rest
  pub tuples : List (List ℕ)
  pub listed : selection ≡ indices tuples
  pub moves : MovesList order sizes tuples places
