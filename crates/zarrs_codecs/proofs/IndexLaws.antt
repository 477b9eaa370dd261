-- Laws of a shard's index: what a read rests on behind it.
use Rattle.std.proofs.Common.{◌≡◌, ℕ, Bool, true, Option, Some, None, List, ◌++◌, Result, Ok, Err}
use Rattle.zarrs_bytes.proofs.BytesAt.{sure_parts}
use Rattle.zarrs_bytes.proofs.Coding.{ok}
use Rattle.zarrs_array_to_array.specs.ArrayToArrayCodec.{ArrayMapping}
use Rattle.zarrs_chain_meaning.specs.Meaning.{Decoder, Meaning}
use Rattle.zarrs_codecs.proofs.ShardReads.{spans_by, spans_rest}
use Rattle.zarrs_chain_meaning.specs.sharding.Sharding.{Span, index_size, spans_in}
use Rattle.zarrs_chunk.specs.Answer.{◌>>=◌}
use Rattle.zarrs_chunk.specs.declared.codec_error.CodecError.{CodecError}
use Rattle.zarrs_codec.specs.BytesToBytesCodec.{BytesCodecs}
use Rattle.zarrs_codec.specs.StorageState.{are_sure}
use Rattle.zarrs_codecs.proofs.ShardPlaces.{shard_behind_each, through_rests_each}
use Rattle.zarrs_codecs.specs.ChunkRead.{are_given_sure}
use Rattle.zarrs_codecs.specs.CodecPart.{Part, shard_part}
use Rattle.zarrs_codecs.specs.KeptIndex.{IndexPart, shard_index_of}
use Rattle.zarrs_codecs.specs.PartRead.{PlaceReader}
use Rattle.zarrs_codecs.specs.PlaceLaws.{IsLawfulReader, Resting, RestsEach, rests_through}
use Rattle.zarrs_codecs.specs.ShardRead.{index_bytes_at, shard_rests_behind}
use Rattle.zarrs_data_type.specs.Element.{Chunk}
use Rattle.zarrs_data_type.specs.ElementType.{ElementType}

-- A read fails by the index's error; where all is sure that it rests on, the index's bytes are, and what it rests on behind them; and that goes by which places they are.
pub record IsLawfulIndex {B : Type 0} (f : BytesCodecs B) (read : PlaceReader) (rests : Resting) (index : IndexPart B) (behind : Resting) : Type 0 where
  pub refused : (sizes : List ℕ) (type : ElementType) (fill value places : List ℕ) (error : CodecError) → index.spans f sizes value ≡ Err error → read sizes type fill (Some value) places ≡ Err error
  pub bytes_sure : (sizes : List ℕ) (type : ElementType) (fill value places : List ℕ) (sure : Option (ℕ → Bool)) → are_given_sure sure (rests sizes type fill (Some value) places) ≡ true → are_given_sure sure (index.bytes f sizes value) ≡ true
  pub behind_sure : (sizes : List ℕ) (type : ElementType) (fill : List ℕ) (stored : Option (List ℕ)) (places : List ℕ) (sure : Option (ℕ → Bool)) → are_given_sure sure (rests sizes type fill stored places) ≡ true → are_given_sure sure (behind sizes type fill stored places) ≡ true
  pub behind_each : (sizes : List ℕ) (type : ElementType) (fill : List ℕ) (stored : Option (List ℕ)) → RestsEach (behind sizes type fill stored)

-- the same, where there is an index
abbrev pub IndexLaws : {B : Type 0} → BytesCodecs B → PlaceReader → Resting → Option (IndexPart B) → Option (BytesCodecs B → Resting) → Type 0
IndexLaws f read rests None None = Unit {0}
IndexLaws f read rests (Some index) (Some behind) = IsLawfulIndex f read rests index (behind f)
IndexLaws f read rests _ _ = ⊥

-- ---- shards

second_sure : (sure : Option (ℕ → Bool)) (a : List ℕ) (r : Result (List ℕ) CodecError) → are_given_sure sure (r >>= λ b. ok (a ++ b)) ≡ true → are_given_sure sure r ≡ true
second_sure sure a (Ok b) e = (sure_parts sure a b e).1
second_sure sure a (Err x) e = absurd cc

first_sure : (sure : Option (ℕ → Bool)) (a : List ℕ) (r : Result (List ℕ) CodecError) → are_given_sure sure (r >>= λ b. ok (a ++ b)) ≡ true → are_sure sure a ≡ true
first_sure sure a (Ok b) e = (sure_parts sure a b e).0
first_sure sure a (Err x) e = absurd cc

spans_refused : (r : Result (List Span) CodecError) (next : List Span → Result Chunk CodecError) (error : CodecError) → r ≡ Err error → (r >>= next) ≡ Err error
spans_refused r next error e = λ i. e i >>= next

module _ (rests : Resting) (shape sizes : List ℕ) (type : ElementType) (fill value places : List ℕ) (at_end : Bool) (index : Decoder) (sure : Option (ℕ → Bool)) where
  abbrev all_of : Result ℕ CodecError → Result (List ℕ) CodecError
  all_of size = size >>= λ n. spans_rest rests shape sizes type fill value places (size >>= spans_by shape at_end index sizes value) >>= λ behind. ok (index_bytes_at at_end n value ++ behind)

  behind_size : (size : Result ℕ CodecError) → are_given_sure sure (all_of size) ≡ true → are_given_sure sure (spans_rest rests shape sizes type fill value places (size >>= spans_by shape at_end index sizes value)) ≡ true
  behind_size (Ok n) e = second_sure sure (index_bytes_at at_end n value) (spans_rest rests shape sizes type fill value places (spans_by shape at_end index sizes value n)) e
  behind_size (Err x) e = absurd cc

  index_at_size : (size : Result ℕ CodecError) → are_given_sure sure (all_of size) ≡ true → are_given_sure sure (size >>= λ n. ok (index_bytes_at at_end n value)) ≡ true
  index_at_size (Ok n) e = first_sure sure (index_bytes_at at_end n value) (spans_rest rests shape sizes type fill value places (spans_by shape at_end index sizes value n)) e
  index_at_size (Err x) e = absurd cc

module _ {B : Type 0} (f : BytesCodecs B) (arrays : List ArrayMapping) (m : Meaning B) (p : Part B) (outer : List B) (index : Meaning B) (shape : List ℕ) (at_end : Bool) where
  abbrev shard : Part B
  shard = shard_part arrays m p outer index shape at_end

  abbrev inner_rests_on : Resting
  inner_rests_on = rests_through arrays (p.rests_on f) outer

  shard_behind_sure : (sizes : List ℕ) (type : ElementType) (fill : List ℕ) (stored : Option (List ℕ)) (places : List ℕ) (sure : Option (ℕ → Bool)) → are_given_sure sure (shard.rests_on f sizes type fill stored places) ≡ true
      → are_given_sure sure (shard_rests_behind shape at_end (index.representation f) (index.chunk f) inner_rests_on sizes type fill stored places) ≡ true
  shard_behind_sure sizes type fill None places sure e = e
  shard_behind_sure sizes type fill (Some value) places sure e = behind_size inner_rests_on shape sizes type fill value places at_end (index.chunk f) sure (index_size (index.representation f) shape sizes) e

  -- the index of a shard keeps them
  pub shard_index : (inner : Option (IndexPart B)) → IsLawfulReader f m (p.read f) (p.rests_on f) → IndexLaws f (shard.read f) (shard.rests_on f) (Some (shard_index_of inner index shape at_end)) shard.rests_behind
  shard_index inner laws = record {
    refused = λ sizes type fill value places error e. spans_refused (spans_in shape at_end (index.representation f) (index.chunk f) sizes value) _ error e;
    bytes_sure = λ sizes type fill value places sure e. index_at_size inner_rests_on shape sizes type fill value places at_end (index.chunk f) sure (index_size (index.representation f) shape sizes) e;
    behind_sure = shard_behind_sure;
    behind_each = shard_behind_each shape at_end (index.representation f) (index.chunk f) inner_rests_on (through_rests_each arrays (p.rests_on f) outer laws.rests_each);
  }
