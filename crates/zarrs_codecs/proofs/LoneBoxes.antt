-- A box of a shard that lies in one inner chunk: what is read of it there is what is read of it, and rests on the same.
use Rattle.std.proofs.Common.{◌≡◌, ℕ, ◌*◌, ◌+◌, ◌<◌, ◌^◌, true, Bool, Option, List, [], ◌∷◌, length, get_or, Result, Ok, Err, arith, refl, ap, sym, subst, ◌∙◌}
use Rattle.std.specs.List.{All, range_with_len}
use Rattle.zarrs_array_bytes.specs.Elements.{select}
use Rattle.zarrs_array_bytes.specs.Held.{Held}
use Rattle.zarrs_array_regions.proofs.KeptWindows.{places_are}
use Rattle.zarrs_array_regions.proofs.WindowMaps.{places_count}
use Rattle.zarrs_array_regions.specs.WindowLaws.{region_places}
use Rattle.zarrs_array_regions.specs.Windows.{window_of}
use Rattle.zarrs_bytes.proofs.Coding.{ok}
use Rattle.zarrs_chain.specs.ChainView.{plain_chain}
use Rattle.zarrs_chain.specs.declared.codec_chain.CodecChain.{CodecChain}
use Rattle.zarrs_chain_meaning.specs.CodecMeaning.{PlainCodec}
use Rattle.zarrs_chain_meaning.specs.sharding.InnerChunks.{is_divided}
use Rattle.zarrs_chain_meaning.specs.sharding.Sharding.{Span, is_stored, spans_of}
use Rattle.zarrs_chunk.specs.Answer.{◌>>=◌}
use Rattle.zarrs_chunk.proofs.PlaceLaws.{known_below}
use Rattle.zarrs_chunk.specs.ChunkShape.{product}
use Rattle.zarrs_chunk.specs.Region.{Region}
use Rattle.zarrs_chunk.specs.Selection.{subset}
use Rattle.zarrs_chunk.specs.Tuples.{is_box_inside}
use Rattle.zarrs_chunk.specs.declared.codec_error.CodecError.{CodecError}
use Rattle.zarrs_codec.specs.BytesToBytesCodec.{BytesCodecs}
use Rattle.zarrs_codec.specs.StorageState.{StorageState}
use Rattle.zarrs_codecs.proofs.AloneGroup.{one_read, one_rests}
use Rattle.zarrs_codecs.proofs.GroupWalks.{span_count}
use Rattle.zarrs_codecs.proofs.GroupedShards.{PlacedShard, behind_placed, counted, placed_read, placed_shard}
use Rattle.zarrs_codecs.proofs.ShardParts.{chain_count}
use Rattle.zarrs_codecs.proofs.ShardSpans.{StoredShard, all_read, in_a_row}
use Rattle.zarrs_codecs.specs.ChunkRead.{AnswersRuns, are_given_sure}
use Rattle.zarrs_codecs.specs.CodecPart.{rests_where}
use Rattle.zarrs_codecs.specs.KeptIndex.{IsIndex}
use Rattle.zarrs_codecs.specs.SpanReads.{chain_read, chain_rests, stored_groups_read, stored_groups_rest, stored_span_read, stored_span_rests}
use Rattle.zarrs_data_type.specs.Element.{Chunk}
use Rattle.zarrs_data_type.specs.ElementType.{ElementType}
use Rattle.zarrs_shard_runs.proofs.OneGroup.{groups_are, moved_count, order_is}
use Rattle.zarrs_shard_runs.specs.InnerBox.{IsInnerBox}
use Rattle.zarrs_shard_runs.specs.PlacesInside.{groups_of}
use Rattle.zarrs_shard_runs.specs.declared.inner_boxes.InnerBox.{InnerBox}

-- so many elements in a row are the elements
same_elements : (count : ℕ) (r : Result Chunk CodecError) → ((chunk : Chunk) → r ≡ Ok chunk → length chunk ≡ count) → (r >>= λ joined. ok (select joined (range_with_len 0 count))) ≡ r
same_elements count (Ok chunk) long = ap (λ (c : Chunk). ok c) (in_a_row chunk count (long chunk refl))
same_elements count (Err error) long = refl

-- a box inside the shard has its places
pub placed_box : {B : Type 0} {f : BytesCodecs B} {codec : PlainCodec B} {inner index : CodecChain B} {shape : List ℕ} {at_end : Bool} {sizes : List ℕ} {type : ElementType} {fill : List ℕ} {state : StorageState} (shard : StoredShard f codec inner index shape at_end sizes type fill state)
    (numbers : List ℕ) (window : Region) (lengths : List ℕ) → IsIndex f codec sizes state.value numbers → lengths ≡ shape → All (λ size. 0 < size) lengths → is_divided shape sizes ≡ true → product sizes < 2 ^ 64 → is_box_inside sizes window.starts window.lengths ≡ true
    → PlacedShard f codec inner index shape at_end sizes type fill state (region_places sizes window) numbers
placed_box {sizes = sizes} shard numbers window lengths indexed same positive divided small inside =
    placed_shard shard numbers (region_places sizes window) lengths indexed same positive divided (known_below (subset window) sizes (region_places sizes window) (places_are sizes window inside small))

-- of which there are some
pub box_some : (sizes : List ℕ) (window : Region) → is_box_inside sizes window.starts window.lengths ≡ true → 0 < product window.lengths → 0 < length (region_places sizes window)
box_some sizes window inside filled =
    let count = places_count (product sizes) (window_of sizes window) (record { count_is = refl; inside = inside }) in
    omega (arith, count, filled)

module _ {B : Type 0} {f : BytesCodecs B} {codec : PlainCodec B} {inner index : CodecChain B} {shape : List ℕ} {at_end : Bool} {sizes : List ℕ} {type : ElementType} {fill : List ℕ} {state : StorageState} {numbers : List ℕ} {window : Region}
    (placed : PlacedShard f codec inner index shape at_end sizes type fill state (region_places sizes window) numbers) (it : InnerBox) (lone : IsInnerBox shape sizes window it) (some : 0 < length (region_places sizes window)) (long : length numbers ≡ length (spans_of numbers) * 2) where
  abbrev places : List ℕ
  places = region_places sizes window

  abbrev moved : List ℕ
  moved = region_places shape it.region

  -- where the inner chunk stands
  abbrev place : Span
  place = get_or (spans_of numbers) it.number (0, 0)

  pub there : it.number * 2 + 1 < length numbers
  there = let low = lone.number in let all = counted placed in omega (arith, low, all, long)

  group : (it.number, moved) ∷ [] ≡ groups_of shape sizes places
  group = groups_are shape sizes places it.number moved lone.cells some lone.number

  abbrev inside_read : Span → Result Chunk CodecError
  inside_read span = stored_span_read (chain_read f (plain_chain inner)) shape type fill state.value span moved

  each_there : (span : Span) (chunk : Chunk) → inside_read span ≡ Ok chunk → length chunk ≡ length places
  each_there span chunk e =
      span_count (chain_read f (plain_chain inner)) shape type fill placed.shard.value span moved chunk (chain_count f (plain_chain inner)) (is_stored span)
      (ap (λ (v : Option (List ℕ)). stored_span_read (chain_read f (plain_chain inner)) shape type fill v span moved) (sym placed.shard.value_is) ∙ e)
      ∙ moved_count shape sizes places it.number moved lone.cells some lone.number

  read_is : all_read placed.shard places ≡ inside_read place
  read_is =
      placed_read placed (range_with_len 0 (length places)) (order_is shape sizes places it.number moved lone.cells some lone.number)
      ∙ ap (λ (r : Result Chunk CodecError). r >>= λ joined. ok (select joined (range_with_len 0 (length places))))
      (ap (stored_groups_read (chain_read f (plain_chain inner)) shape type fill state.value (spans_of numbers)) (sym group)
      ∙ one_read (chain_read f (plain_chain inner)) shape type fill state.value (spans_of numbers) (it.number, moved))
      ∙ same_elements (length places) (inside_read place) (each_there place)

  pub lone_answered : (result : Result Held CodecError) → AnswersRuns type (inside_read place) result → AnswersRuns type (all_read placed.shard places) result
  lone_answered result = subst (λ (x : Result Chunk CodecError). AnswersRuns type x result) (sym read_is)

  -- and rests on the same
  pub lone_sure : are_given_sure state.sure (rests_where true f codec sizes type fill state.value places) ≡ true
      → are_given_sure state.sure (stored_span_rests (chain_rests f (plain_chain inner)) shape type fill state.value place moved) ≡ true
  lone_sure h =
      ap (are_given_sure state.sure)
      (sym (behind_placed placed
      ∙ ap (stored_groups_rest (chain_rests f (plain_chain inner)) shape type fill state.value (spans_of numbers)) (sym group)
      ∙ one_rests (chain_rests f (plain_chain inner)) shape type fill state.value (spans_of numbers) (it.number, moved)))
      ∙ h
