-- What a read in part answers of a value that stands for a chunk, and where none is stored.
use Rattle.zarrs_data_type.specs.Form.{form_of}
use Rattle.std.proofs.Common.{◌≡◌, ℕ, ◌+◌, ◌<◌, ◌≤◌, Option, Some, None, Result, Ok, List, length, map, sym, refl, subst}
use Rattle.std.specs.List.{All}
use Rattle.zarrs_chunk.specs.Answer.{seen}
use Rattle.zarrs_chunk.specs.ChunkShape.{product}
use Rattle.zarrs_chunk.specs.Runs.{joined_runs}
use Rattle.zarrs_chunk.specs.declared.codec_error.CodecError.{CodecError}
use Rattle.zarrs_data_type.specs.Element.{Chunk, fill_element}
use Rattle.zarrs_data_type.specs.ElementType.{ElementType}
use Rattle.zarrs_data_type.specs.declared.endianness.Endianness.{Endianness}
use Rattle.zarrs_array_bytes.specs.Elements.{select}
use Rattle.zarrs_bytes.specs.BytesCodec.{BytesStands}
use Rattle.zarrs_bytes.specs.PartialRead.{read_places}
use Rattle.zarrs_bytes.proofs.CodecLaws.{read_selects}
use Rattle.zarrs_array_bytes.proofs.RunLemmas.{places_below}

-- what is read of runs inside the shape is the chunk's selection
pub runs_select : (order : Option Endianness) (sizes : List ℕ) (type : ElementType) (fill given : List ℕ) (stored : Option (List ℕ)) (runs slice : List (ℕ × ℕ)) (places : Result (List ℕ) CodecError) → given ≡ fill → slice ≡ runs → All (λ run. run.0 + run.1 ≤ product sizes) runs → places ≡ Ok (joined_runs runs) → (value : List ℕ) (chunk : Chunk) → stored ≡ Some value → BytesStands order (form_of sizes type fill) value chunk → read_places order type given stored (joined_runs slice) ≡ seen (select chunk) places
runs_select order sizes type fill given stored runs slice places same view below is value chunk here stands =
    let count = stands.elements.count_is in
    let inside : All (λ place. place < length chunk) (joined_runs runs) = subst (λ k. All (λ place. place < k) (joined_runs runs)) (sym count) (places_below (product sizes) runs below) in
    rw same (rw view (rw here (rw is (read_selects order sizes type fill value chunk (joined_runs runs) stands inside))))

-- what is read of runs where nothing is stored is the fill element at each place
pub runs_filled : (order : Option Endianness) (type : ElementType) (fill given : List ℕ) (stored : Option (List ℕ)) (runs slice : List (ℕ × ℕ)) (places : Result (List ℕ) CodecError) → given ≡ fill → slice ≡ runs → places ≡ Ok (joined_runs runs) → stored ≡ None → read_places order type given stored (joined_runs slice) ≡ seen (map (λ _. fill_element type fill)) places
runs_filled order type fill given stored runs slice places same view is here = rw same (rw view (rw here (rw is refl)))
