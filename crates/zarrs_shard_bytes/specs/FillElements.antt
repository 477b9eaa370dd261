-- Whether elements are all the fill element.
use Rattle.std.specs.Bool.{nat_eq}
use Rattle.std.specs.Cmp.Lexicographic.{pointwise}
use Rattle.std.specs.List.{list_all}
use Rattle.std.specs.Prelude.{◌≡◌, ◌*◌, ℕ, Bool, List, [], length, Result, Ok}
use Rattle.zarrs_chunk.specs.declared.codec_error.CodecError.{CodecError}
use Rattle.zarrs_data_type.specs.Element.{Chunk}
use Rattle.zarrs_data_type.specs.ElementType.{ElementType}
use Rattle.zarrs_array_bytes.specs.Held.{Held}
use Rattle.zarrs_array_bytes.specs.Pieces.{pieces}
use Rattle.zarrs_array_bytes.specs.Validity.{Holds}
use Rattle.zarrs_chain_meaning.specs.sharding.Sharding.{is_left_out}

-- items of this size, however many, are all the item
abbrev pub Repeats : List ℕ → List ℕ → Bool → Type 0
Repeats item items result =
    (count : ℕ) → length items ≡ count * length item → result ≡ list_all (λ part. pointwise nat_eq part item) (pieces (length item) count items)

-- whether each element that a container holds is the fill element
abbrev pub TellsFill : ElementType → List ℕ → Held → Result Bool CodecError → Type 0
TellsFill type fill held result =
    (chunk : Chunk) → Holds type held chunk → result ≡ Ok (is_left_out (λ _ element. element) type fill chunk)
