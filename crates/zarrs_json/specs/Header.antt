-- What a header opens.
use Rattle.std.specs.Prelude.{ℕ, List, Option, Some, None, option_and_then, ok_or, Result, Ok, Err, codes}
use Rattle.serde_json.specs.Data.{Data, Members}
use Rattle.serde_json.specs.Find.{as_object, get_member}
use Rattle.zarrs_chunk.specs.Answer.{◌>>=◌}
use Rattle.zarrs_chunk.specs.ChunkShape.{shape_of}
use Rattle.zarrs_data_type.specs.ElementType.{ElementType}
use Rattle.zarrs_json.specs.KnownBytesCodec.{known_codecs}
use Rattle.zarrs_json.specs.declared.known_bytes_codec.KnownBytesCodec.{KnownBytesCodec}
use Rattle.zarrs_chain.specs.ChainJson.{chain_shown}
use Rattle.zarrs_chain_meaning.specs.ChunkForm.{ChunkForm}
use Rattle.zarrs_chain_meaning.specs.CodecMeaning.{PlainChain, chain_representation}
use Rattle.zarrs_json.specs.declared.refusal.Refusal.{Refusal}
use Rattle.zarrs_json.specs.declared.refusal.Refusal.TheVariants.{Syntax}
use Rattle.zarrs_json.specs.Refusal.{codec_answer, chain_answer}
use Rattle.zarrs_json.specs.Json.{tree_of, number_list_shown, hex_of}
use Rattle.zarrs_json.specs.DataType.{type_in}
use Rattle.zarrs_json.specs.KnownMaker.{known_made}
use Rattle.zarrs_json.specs.declared.known_maker.KnownMaker.{KnownMaker}

-- a chunk's shape, type and fill value, and the chain that it is encoded by
pub record Header : Type 0 where
  pub sizes : List ℕ
  pub data_type : ElementType
  pub fill : List ℕ
  pub chain : PlainChain KnownBytesCodec

-- the chunk that a header is of, and any such chunk
abbrev pub HeaderForm : Type 0
HeaderForm = ChunkForm KnownBytesCodec

-- a header as the form of its chunk, through its chain
abbrev pub header_form : Header → HeaderForm
header_form header =
    record { chain = header.chain; sizes = header.sizes; type = header.data_type; fill = header.fill }

-- ---- its keys

-- the sizes, none of them zero
abbrev pub shape_at : Option Data → Result (List ℕ) Refusal
shape_at None = Err Syntax
shape_at (Some tree) = do
  sizes ← number_list_shown tree
  ok_or (shape_of sizes) Syntax

-- the type of the elements
abbrev pub data_type_at : Option Data → Result ElementType Refusal
data_type_at None = Err Syntax
data_type_at (Some tree) = type_in tree

-- hex, whether or not it fits the type
abbrev pub fill_value_at : Option Data → Result (List ℕ) Refusal
fill_value_at tree = ok_or (option_and_then hex_of tree) Syntax

-- the chain of these codecs
abbrev pub codecs_at : KnownMaker → Option Data → Result (PlainChain KnownBytesCodec) Refusal
codecs_at maker tree = do
  codecs ← ok_or tree Syntax
  chain_answer (chain_shown (known_made maker) codecs)

-- ---- the header

-- The keys in this order, and then whether the chain takes such chunks. The first fault answers.
abbrev pub header_in : KnownMaker → Members → Result Header Refusal
header_in maker members = do
  sizes ← shape_at (get_member (codes "shape") members)
  data_type ← data_type_at (get_member (codes "data_type") members)
  fill ← fill_value_at (get_member (codes "fill_value") members)
  chain ← codecs_at maker (get_member (codes "codecs") members)
  _ ← codec_answer (chain_representation known_codecs chain sizes data_type fill)
  Ok (record { sizes = sizes; data_type = data_type; fill = fill; chain = chain })

-- the header that a line is, a JSON object, or the first error; keys that it doesn't need are passed over
abbrev pub line_header : KnownMaker → List ℕ → Result Header Refusal
line_header maker line = do
  tree ← tree_of line
  members ← ok_or (as_object tree) Syntax
  header_in maker members

-- the chain that a text lists, a JSON list of metadata, or the first error
abbrev pub line_codecs : KnownMaker → List ℕ → Result (PlainChain KnownBytesCodec) Refusal
line_codecs maker text = do
  tree ← tree_of text
  codecs_at maker (Some tree)
