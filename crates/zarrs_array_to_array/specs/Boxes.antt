-- Boxes whose ends 64 bits hold, and lists of tuples.
use Rattle.std.specs.Prelude.{ℕ, ◌+◌, ◌<◌, ◌^◌, List, Vec, map, slice_index, Result, Ok}
use Rattle.std.specs.declared.alloc.Global.{Global}
use Rattle.zarrs_chunk.specs.Answer.{Gives}
use Rattle.zarrs_chunk.specs.Tuples.{box_tuples}
use Rattle.zarrs_chunk.specs.declared.codec_error.CodecError.{CodecError}
use Rattle.zarrs_array_to_array.specs.Orders.{permuted}

-- 64 bits hold each start with its length
abbrev pub EndsFit : List ℕ → List ℕ → Type 0
EndsFit starts lengths = (axis : ℕ) → slice_index starts axis + slice_index lengths axis < 2 ^ 64

-- the tuples of a vector of them
abbrev pub tuples_in : Vec (Vec ℕ Global) Global → List (List ℕ)
tuples_in tuples = map (λ tuple. tuple.items) tuples.items

-- the tuples of a box are given, each in this order of axes
abbrev pub GivesBox : List ℕ → List ℕ → List ℕ → Result (Vec (Vec ℕ Global) Global) CodecError → Type 0
GivesBox order starts lengths result = Gives tuples_in result (Ok (map (permuted order) (box_tuples starts lengths)))
