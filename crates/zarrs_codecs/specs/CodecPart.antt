-- What each array-to-bytes codec does in part, as one record.
use Rattle.std.specs.Prelude.{ℕ, if◌then◌else◌, Bool, true, false, Option, Some, None, unwrap_or, IsOkAnd, List, [], Ok}
use Rattle.zarrs_bytes.specs.PartialRead.{place_bytes, place_size, read_places}
use Rattle.zarrs_bytes.specs.PlannedRanges.{IsPlan as IsElementPlan}
use Rattle.zarrs_chain_meaning.specs.CodecMeaning.{PlainCodec, bytes_codec, packbits_codec, vlen_codec, sharding_codec, meaning}
use Rattle.zarrs_chain_meaning.specs.Meaning.{Meaning, through}
use Rattle.zarrs_chain_meaning.specs.CodecFacts.{facts, if_alone}
use Rattle.zarrs_chain_meaning.specs.vlen.PlainForm.{PlainForm}
use Rattle.zarrs_chunk.specs.ChunkShape.{product}
use Rattle.zarrs_array_to_array.specs.ArrayToArrayCodec.{ArrayMapping}
use Rattle.zarrs_codec.specs.BytesToBytesCodec.{BytesCodecs}
use Rattle.zarrs_codec.specs.ByteSpan.{ByteSpan}
use Rattle.zarrs_codec.specs.StorageState.{value_indices}
use Rattle.zarrs_codecs.specs.PartRead.{PlaceReader, whole_read}
use Rattle.zarrs_codecs.specs.PlaceLaws.{Resting, read_through, rests_through}
use Rattle.zarrs_codecs.specs.ShardRead.{shard_read, shard_rests, shard_rests_behind}
use Rattle.zarrs_data_type.specs.ElementType.{ElementType}
use Rattle.zarrs_data_type.specs.Form.{Form, form_of}
use Rattle.zarrs_data_type.specs.declared.endianness.Endianness.{Endianness}
use Rattle.zarrs_packbits.specs.PackBitsSettings.{packed_layout, PackBitsSettings}
use Rattle.zarrs_packbits.specs.PartialRead.{bytes_of_places, read_places_of}
use Rattle.zarrs_packbits.specs.ReadPlan.{IsPackBitsPlan}
use Rattle.zarrs_plain_vlen.specs.PlainRead.{plain_read}
use Rattle.zarrs_plain_vlen.specs.VlenRead.{stored_rests_on}

-- What a codec does in part, at places of the chunk that it gets: what a read answers; the numbers of the bytes that it rests on; whether it plans them, and which ranges are such a plan; and of a codec whose values have an index, what a read rests on behind it. Where bytes are optional, none means that nothing is stored.
pub record Part (B : Type 0) : Type 1 where
  pub read : BytesCodecs B → PlaceReader
  pub rests_on : BytesCodecs B → Resting
  pub plans : Bool
  pub IsPlanned : List ℕ → ElementType → List ℕ → List ℕ → List ByteSpan → Type 0
  pub rests_behind : Option (BytesCodecs B → Resting)

-- ---- read and written whole

-- what a codec does in part that is read and written whole: nothing, so a read rests on all bytes
abbrev pub whole_part : {B : Type 0} → Meaning B → Part B
whole_part m = record {
  read = λ f. whole_read (m.chunk f);
  rests_on = λ f sizes type fill stored places. Ok (value_indices stored);
  plans = false;
  IsPlanned = λ sizes type fill places ranges. ⊥;
  rests_behind = None;
}

-- ---- bytes, packbits

-- The places' bytes, whatever is stored. The ranges are these and no others: each is the bytes of one run of places, none of them empty, and no run starts where the one before it ends; their lengths sum to the elements' bytes.
abbrev pub bytes_part : {B : Type 0} → Option Endianness → Part B
bytes_part order = record (whole_part (meaning (bytes_codec order))) {
  read = λ f sizes. read_places order;
  rests_on = λ f sizes type fill stored places. Ok (place_bytes (place_size type) places);
  plans = true;
  IsPlanned = λ sizes type fill places ranges. IsElementPlan (place_size type) places ranges;
}

-- The bytes that have bits of the places, whatever is stored; the ranges likewise.
abbrev pub packbits_part : {B : Type 0} → PackBitsSettings → Part B
packbits_part settings = record (whole_part (meaning (packbits_codec settings))) {
  read = λ f sizes type fill stored places. read_places_of settings (form_of sizes type fill) stored places;
  rests_on = λ f sizes type fill stored places. bytes_of_places settings (form_of sizes type fill) places;
  plans = true;
  IsPlanned = λ sizes type fill places ranges. IsOkAnd (packed_layout settings (form_of sizes type fill)) (λ layout. IsPackBitsPlan layout places ranges);
}

-- ---- vlen

-- of a `vlen` with a plain form the offsets and the elements' bytes; which ones, the offsets say, so nothing is planned; any other is read and written whole
abbrev pub vlen_part : {B : Type 0} → Option PlainForm → Meaning B → Part B
vlen_part None m = whole_part m
vlen_part (Some form) m = record (whole_part m) {
  read = λ f sizes. plain_read form (product sizes);
  rests_on = λ f sizes type fill stored places. Ok (stored_rests_on form (product sizes) stored places);
}

-- ---- shards

-- of `sharding_indexed`, whose inner chain has these array-to-array codecs, this array-to-bytes codec by what it means and does in part, and these bytes-to-bytes codecs, and whose index chain means this: the index, and what is read of the inner chunks; where these stand, the index says, so nothing is planned
abbrev pub shard_part : {B : Type 0} → List ArrayMapping → Meaning B → Part B → List B → (index : Meaning B) → List ℕ → Bool → Part B
shard_part arrays m p outer index shape at_end = record (whole_part m) {
  read = λ f. shard_read shape at_end (index.representation f) (index.chunk f) (read_through f arrays (m.representation f) (p.read f) outer);
  rests_on = λ f. shard_rests shape at_end (index.representation f) (index.chunk f) (rests_through arrays (p.rests_on f) outer);
  rests_behind = Some (λ f. shard_rests_behind shape at_end (index.representation f) (index.chunk f) (rests_through arrays (p.rests_on f) outer));
}

-- ---- all of them

-- what an array-to-bytes codec does in part
abbrev pub part_of : {B : Type 0} → PlainCodec B → Part B
part_of (bytes_codec order) = bytes_part order
part_of (packbits_codec settings) = packbits_part settings
part_of (vlen_codec ia ix ib da dx db wide at_end) = vlen_part (facts (vlen_codec ia ix ib da dx db wide at_end)).plain (meaning (vlen_codec ia ix ib da dx db wide at_end))
part_of (sharding_codec sa sx sb ia ix ib shape at_end) = shard_part sa (meaning sx) (part_of sx) sb (through ia (meaning ix) ib) shape at_end
part_of codec = whole_part (meaning codec)

-- the elements at these places of a chunk that the codec gets
abbrev pub codec_read : {B : Type 0} → BytesCodecs B → PlainCodec B → PlaceReader
codec_read f codec = (part_of codec).read f

-- the numbers of the bytes of what is stored that the elements at these places rest on: all, where the codec is read whole
abbrev pub codec_rests_on : {B : Type 0} → BytesCodecs B → PlainCodec B → Resting
codec_rests_on f codec = (part_of codec).rests_on f

-- What a read rests on: where the index is known, what is behind it, of `sharding_indexed` what the inner reads rest on; where it isn't, or values have none, all of it.
abbrev pub rests_where : {B : Type 0} → Bool → BytesCodecs B → PlainCodec B → Resting
rests_where known f codec = if known then unwrap_or (part_of codec).rests_behind (part_of codec).rests_on f else (part_of codec).rests_on f

-- whether the bytes of a place are known before anything is read
abbrev pub codec_plans : {B : Type 0} → PlainCodec B → Bool
codec_plans codec = (part_of codec).plans

-- the ranges are a plan of a read of these places, of a chunk of this form
abbrev pub IsCodecPlan : {B : Type 0} → PlainCodec B → Form → List ℕ → List ByteSpan → Type 0
IsCodecPlan codec form = (part_of codec).IsPlanned form.sizes form.type form.fill

-- the byte order of `bytes` without bytes-to-bytes codecs: there the bytes of places are those of their elements, and a write over a stored value replaces them alone
abbrev pub order_in_place : {B : Type 0} → List B → PlainCodec B → Option (Option Endianness)
order_in_place outer codec = if_alone [] (facts codec).order outer
