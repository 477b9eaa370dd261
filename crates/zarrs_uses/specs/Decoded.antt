-- What is known of a chunk that is kept under the key of its value.
use Rattle.std.specs.Prelude.{ℕ, List, [], Vec, get_or, map, IsOkAnd, Result, Ok, Err}
use Rattle.std.proofs.Common.{Global}
use Rattle.std.proofs.Props.{props}
use Rattle.zarrs_codecs.specs.CodecError.{CodecError}
use Rattle.zarrs_codecs.specs.Element.{Chunk}
use Rattle.zarrs_codecs.specs.ElementType.{ElementType}
use Rattle.zarrs_codecs.specs.Held.{Held}
use Rattle.zarrs_codecs.specs.Validity.{Holds}
use Rattle.zarrs_codecs.specs.BytesToBytesCodec.{BytesCodecs}
use Rattle.zarrs_codecs.specs.CodecMeaning.{chain_chunk}
use Rattle.zarrs_codecs.specs.ChunkForm.{ChunkForm}
use Rattle.zarrs_codecs.specs.ElementCode.{Chunk-set}

-- the value with this key; no bytes where there is none
abbrev pub value_under : List (Vec ℕ Global) → ℕ → List ℕ
value_under values key = get_or (map (λ value. value.items) values) key []

-- the chunk that the value with this key stands for, or the first error
abbrev pub decoded_under : {B : Type 0} → BytesCodecs B → ChunkForm B → List (Vec ℕ Global) → ℕ → Result Chunk CodecError
decoded_under f form values key = chain_chunk f form.chain form.sizes form.type form.fill (value_under values key)

-- the value with this key stands for a chunk, and the container holds it
abbrev pub IsDecoded : {B : Type 0} → BytesCodecs B → ChunkForm B → List (Vec ℕ Global) → ℕ → Held → Type 0
IsDecoded f form values key held = IsOkAnd (decoded_under f form values key) (Holds form.type held)

-- ---- it is a proposition

IsOkAnd-prop : (r : Result Chunk CodecError) (type : ElementType) (held : Held) → IsProp (IsOkAnd r (Holds type held))
IsOkAnd-prop (Ok chunk) type held = hlevel (props, Chunk-set)
IsOkAnd-prop (Err e) type held = hlevel props

pub IsDecoded-prop : {B : Type 0} (f : BytesCodecs B) (form : ChunkForm B) (values : List (Vec ℕ Global)) (key : ℕ) (held : Held) → IsProp (IsDecoded f form values key held)
IsDecoded-prop f form values key held = IsOkAnd-prop (decoded_under f form values key) form.type held
