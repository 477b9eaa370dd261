-- What is read of a box of a shard whose index is read, part by part.
use Rattle.std.proofs.Common.{◌≡◌, ℕ, zero, suc, ◌+◌, ◌*◌, ◌<◌, ◌≤◌, ◌^◌, ◌==◌, eq-eqb, true, Bool, Option, Some, get_or, List, [], ◌∷◌, ◌++◌, length, map, Result, Ok, Err, arith, refl, ap, sym, subst, ◌∙◌}
use Rattle.std.specs.List.{All, Contains, flat_map, range_with_len}
use Rattle.std.proofs.lemmas.List.Elements.{All-cons, All-head, All-nil, All-tail}
use Rattle.std.proofs.lemmas.List.Folds.{flat_map-map}
use Rattle.std.proofs.lemmas.List.{length-map}
use Rattle.std.proofs.lemmas.List.FromFn.{length-map-range_with_len, length-range_with_len}
use Rattle.std.specs.Prelude.{IsOkAnd}
use Rattle.zarrs_array_bytes.specs.Held.{Held}
use Rattle.zarrs_array_bytes.specs.Update.{update}
use Rattle.zarrs_array_regions.proofs.WindowCalls.{few_places}
use Rattle.zarrs_array_regions.proofs.WindowMaps.{places_count}
use Rattle.zarrs_array_regions.specs.WindowLaws.{region_places}
use Rattle.zarrs_array_regions.specs.Windows.{window_of}
use Rattle.zarrs_bytes.proofs.Coding.{ok}
use Rattle.zarrs_chain.specs.ChainView.{plain_chain}
use Rattle.zarrs_chain.specs.declared.codec_chain.CodecChain.{CodecChain}
use Rattle.zarrs_chain_meaning.specs.CodecMeaning.{PlainCodec}
use Rattle.zarrs_chain_meaning.proofs.ShardSizes.{cut_count}
use Rattle.zarrs_chain_meaning.specs.sharding.InnerChunks.{grid, inner_chunk_count, inner_chunk_of, is_divided, place_inside}
use Rattle.zarrs_chain_meaning.specs.sharding.Sharding.{Span, is_stored, spans_of}
use Rattle.zarrs_chunk.proofs.BoxTuples.{length-box_tuples}
use Rattle.zarrs_chunk.proofs.Inside.{lt_test}
use Rattle.zarrs_chunk.proofs.Products.{product_positive}
use Rattle.zarrs_chunk.specs.Answer.{◌>>=◌, checked_u64, demand}
use Rattle.zarrs_chunk.specs.ChunkShape.{product}
use Rattle.zarrs_chunk.specs.Region.{Region}
use Rattle.zarrs_chunk.specs.Tuples.{row_major}
use Rattle.zarrs_chunk.specs.declared.codec_error.CodecError.TheVariants.{IncompatibleDimensionality}
use Rattle.zarrs_chunk.specs.declared.codec_error.CodecError.{CodecError}
use Rattle.zarrs_codec.specs.BytesToBytesCodec.{BytesCodecs}
use Rattle.zarrs_codec.specs.StorageState.{StorageState}
use Rattle.zarrs_codecs.proofs.BoxReads.{ok_box}
use Rattle.zarrs_codecs.proofs.EditLaws.{found as ok_found}
use Rattle.zarrs_codecs.proofs.GroupWalks.{grouped_count, places_of_groups}
use Rattle.zarrs_codecs.proofs.GroupedReads.{are_all, at_number, chain_each, groups_are, picked_all}
use Rattle.zarrs_codecs.proofs.GroupedShards.{PlacedShard, behind_placed, counted, placed_spans}
use Rattle.zarrs_codecs.proofs.LoneBoxes.{placed_box}
use Rattle.zarrs_codecs.proofs.ShardReads.{each_at, pick_at, refusals, spans_are}
use Rattle.zarrs_codecs.proofs.ShardSpans.{StoredShard, all_read}
use Rattle.zarrs_codecs.specs.BoxReads.{AreShardParts, IsShardPart, blank_box, part_group, parts_read}
use Rattle.zarrs_codecs.specs.ChunkRead.{AnswersRuns, are_given_sure}
use Rattle.zarrs_codecs.specs.CodecPart.{rests_where}
use Rattle.zarrs_codecs.specs.KeptIndex.{IsIndex}
use Rattle.zarrs_codecs.specs.PartRead.{PlaceReader}
use Rattle.zarrs_codecs.specs.PlaceLaws.{ReadsEach}
use Rattle.zarrs_codecs.specs.ShardRead.{groups_read, of_any, span_read}
use Rattle.zarrs_codecs.specs.SpanReads.{chain_read, chain_rests, stored_groups_rest}
use Rattle.zarrs_data_type.specs.Element.{Chunk, Element, fill_element}
use Rattle.zarrs_data_type.specs.ElementType.{ElementType}
use Rattle.zarrs_grid.proofs.NumberedChunks.{IsOwnPart, chunk_in}
use Rattle.zarrs_grid.specs.GridLaws.{IsInside}
use Rattle.zarrs_grid.specs.Parts.{box_in_chunk, box_in_region}
use Rattle.zarrs_grid.specs.ChunkTuples.{quotients}
use Rattle.zarrs_grid.specs.RegionElements.{places_in_chunk}
use Rattle.zarrs_grid.specs.RegionParts.{AreRegionParts, checked_chunk_count}
use Rattle.zarrs_grid.specs.Touched.{FitsGrid, touched, touched_chunks, touched_counts}
use Rattle.zarrs_grid.specs.declared.chunk_part.ChunkPart.{ChunkPart}
use Rattle.zarrs_shard_runs.proofs.BoxGroups.{boxes_grouped}
use Rattle.zarrs_shard_runs.proofs.BoxParts.{fits, parts_placed, parts_put}
use Rattle.zarrs_shard_runs.specs.BoxParts.{IsPlacedPart, IsShardWindow, put_parts, read_part}
use Rattle.zarrs_shard_runs.specs.GroupedRuns.{group_elements}
use Rattle.zarrs_shard_runs.specs.PlacesInside.{groups_among, groups_of, if_any, places_of_inner}

-- ---- the parts

each_placed : (shape sizes : List ℕ) (window : Region) (parts : List ChunkPart) → All (IsOwnPart shape window) parts → All (IsPlacedPart shape sizes window) (map chunk_in parts) → All (IsShardPart shape (grid shape sizes) window.lengths) parts
each_placed shape sizes window [] own placed = All-nil (IsShardPart shape (grid shape sizes) window.lengths)
each_placed shape sizes window (part ∷ parts) own placed =
    let is = All-head (IsOwnPart shape window) part parts own in
    let at = All-head (IsPlacedPart shape sizes window) part.chunk.items (map chunk_in parts) placed in
    All-cons (IsShardPart shape (grid shape sizes) window.lengths) part parts
    (record {
      chunk = at.numbered;
      inside = subst (λ (box : Region). IsInside shape box) (sym is.in_chunk) at.inside;
      filled = subst (λ (box : Region). 0 < product box.lengths) (sym is.in_chunk) at.filled;
      in_region = subst (λ (box : Region). IsInside window.lengths box) (sym is.in_region) at.in_region;
      alike = (λ i. (is.in_region i).lengths) ∙ sym (λ i. (is.in_chunk i).lengths);
    })
    (each_placed shape sizes window parts (All-tail (IsOwnPart shape window) part parts own) (All-tail (IsPlacedPart shape sizes window) part.chunk.items (map chunk_in parts) placed))

all_listed : {A : Type 0} (P : A → Type 0) (xs : List A) → ((x : A) → Contains xs x → P x) → All P xs
all_listed P [] each = All-nil P
all_listed P (x ∷ xs) each = All-cons P x xs (each x (0, omega arith, refl)) (all_listed P xs (λ y c. each y (suc c.0, omega (arith, c.1), c.2)))

own_groups : (shape sizes : List ℕ) (window : Region) (parts : List ChunkPart) → All (IsOwnPart shape window) parts
    → map (part_group shape (grid shape sizes)) parts ≡ map (λ numbers. (row_major (grid shape sizes) numbers, region_places shape (box_in_chunk shape window numbers))) (map chunk_in parts)
own_groups shape sizes window [] own = refl
own_groups shape sizes window (part ∷ parts) own =
    let is = All-head (IsOwnPart shape window) part parts own in
    let rest = own_groups shape sizes window parts (All-tail (IsOwnPart shape window) part parts own) in
    λ i. (row_major (grid shape sizes) part.chunk.items, region_places shape (is.in_chunk i)) ∷ rest i

-- ---- what is read of them

-- the elements of a box with those of parts put in their places, each element as it is by itself
abbrev with_parts : (ℕ → ℕ → Element) → List ℕ → List ℕ → List ℕ → List ChunkPart → Chunk → Chunk
with_parts at shape grid lengths [] chunk = chunk
with_parts at shape grid lengths (part ∷ parts) chunk =
    with_parts at shape grid lengths parts (update chunk (region_places lengths part.in_region) (map (at (row_major grid part.chunk.items)) (region_places shape part.in_chunk)))

own_put : (at : ℕ → ℕ → Element) (shape sizes : List ℕ) (window : Region) (parts : List ChunkPart) (chunk : Chunk) → All (IsOwnPart shape window) parts
    → with_parts at shape (grid shape sizes) window.lengths parts chunk ≡ put_parts (read_part at shape sizes window) shape window (map chunk_in parts) chunk
own_put at shape sizes window [] chunk own = refl
own_put at shape sizes window (part ∷ parts) chunk own =
    let is = All-head (IsOwnPart shape window) part parts own in
    let here : update chunk (region_places window.lengths part.in_region) (map (at (row_major (grid shape sizes) part.chunk.items)) (region_places shape part.in_chunk)) ≡ update chunk (region_places window.lengths (box_in_region shape window part.chunk.items)) (map (at (row_major (grid shape sizes) part.chunk.items)) (region_places shape (box_in_chunk shape window part.chunk.items))) =
    λ i. update chunk (region_places window.lengths (is.in_region i)) (map (at (row_major (grid shape sizes) part.chunk.items)) (region_places shape (is.in_chunk i))) in
    ap (with_parts at shape (grid shape sizes) window.lengths parts) here
    ∙ own_put at shape sizes window parts _ (All-tail (IsOwnPart shape window) part parts own)

of_some : (asked : List ℕ → Result Chunk CodecError) (places : List ℕ) → 0 < length places → asked places ≡ of_any asked places
of_some asked [] l = absurd (omega (arith, l))
of_some asked (place ∷ places) l = refl

box_count : (sizes : List ℕ) (box : Region) → IsInside sizes box → length (region_places sizes box) ≡ product box.lengths
box_count sizes box inside = places_count (product sizes) (window_of sizes box) (record { count_is = refl; inside = inside })

module _ (read : PlaceReader) (shape sizes : List ℕ) (type : ElementType) (fill value places : List ℕ) (spans : List Span) (each : (stored : Option (List ℕ)) → ReadsEach (read shape type fill stored)) (grid_is lengths : List ℕ) where
  abbrev at : ℕ → ℕ → Element
  at = at_number read shape sizes type fill value places spans each

  abbrev of_groups : List ChunkPart → Result Chunk CodecError
  of_groups parts = groups_read read shape type fill value spans (map (part_group shape grid_is) parts)

  put_first : (refusal : Result (Unit {0}) CodecError) (part : Chunk) (others : Result Chunk CodecError) (go : Chunk → Result Chunk CodecError) (all : Chunk) → go part ≡ (others >>= λ _. ok all)
      → ((refusal >>= λ _. ok part) >>= go) ≡ (((refusal >>= λ _. ok part) >>= λ here. others >>= λ behind. ok (here ++ behind)) >>= λ _. ok all)
  put_first (Ok x) part (Ok behind) go all e = e
  put_first (Ok x) part (Err error) go all e = e
  put_first (Err error) part others go all e = refl

  -- the parts are put in place, each element as it is by itself, where the groups of their places are read
  by_groups : (parts : List ChunkPart) (chunk : Chunk) → All (IsShardPart shape grid_is lengths) parts
      → parts_read read shape type fill (Some value) spans grid_is lengths parts chunk ≡ (of_groups parts >>= λ _. ok (with_parts at shape grid_is lengths parts chunk))
  by_groups [] chunk are = refl
  by_groups (part ∷ parts) chunk are =
      let number = row_major grid_is part.chunk.items in
      let span = get_or spans number (0, 0) in
      let it = All-head (IsShardPart shape grid_is lengths) part parts are in
      let some : 0 < length (region_places shape part.in_chunk) = let count = box_count shape part.in_chunk it.inside in let filled = it.filled in omega (arith, count, filled) in
      let here = each_at read shape sizes type fill value each span in
      let is : span_read (is_stored span) read shape type fill value span (region_places shape part.in_chunk) ≡ (here.refusal (region_places shape part.in_chunk) >>= λ _. ok (map here.element (region_places shape part.in_chunk))) =
      of_some (span_read (is_stored span) read shape type fill value span) (region_places shape part.in_chunk) some ∙ here.is (region_places shape part.in_chunk) in
      let go : Chunk → Result Chunk CodecError = λ content. parts_read read shape type fill (Some value) spans grid_is lengths parts (update chunk (region_places lengths part.in_region) content) in
      let own = map here.element (region_places shape part.in_chunk) in
      let rest = by_groups parts (update chunk (region_places lengths part.in_region) own) (All-tail (IsShardPart shape grid_is lengths) part parts are) in
      ap (λ (r : Result Chunk CodecError). r >>= go) is
      ∙ put_first (here.refusal (region_places shape part.in_chunk)) own (of_groups parts) go (with_parts at shape grid_is lengths (part ∷ parts) chunk) rest
      ∙ ap (λ (r : Result Chunk CodecError). (r >>= λ here. of_groups parts >>= λ behind. ok (here ++ behind)) >>= λ _. ok (with_parts at shape grid_is lengths (part ∷ parts) chunk)) (sym is)

touched_axes : (shape : List ℕ) (window : Region) → FitsGrid shape window → length (touched shape window).starts ≡ length (touched shape window).lengths
touched_axes shape window g = axes shape window.starts window.lengths g.starts g.lengths
  where
    axes : (shape starts lengths : List ℕ) → length starts ≡ length shape → length lengths ≡ length shape → length (quotients shape starts) ≡ length (touched_counts shape starts lengths)
    axes [] starts lengths e f = refl
    axes (size ∷ shape) [] lengths e f = absurd (omega (arith, e))
    axes (size ∷ shape) (start ∷ starts) [] e f = absurd (omega (arith, f))
    axes (size ∷ shape) (start ∷ starts) (len ∷ lengths) e f = let rest = axes shape starts lengths (omega (arith, e)) (omega (arith, f)) in omega (arith, rest)

few_chunks : (count each all : ℕ) → count * each ≡ all → 0 < each → count ≤ all
few_chunks count zero all e l = absurd (omega (arith, l))
few_chunks count (suc more) all e l =
    let split : count * suc more ≡ count + count * more = omega arith in
    omega (arith, e, split)

then_put : (refusal : Result (Unit {0}) CodecError) (one put joined : Chunk) → one ≡ put → (refusal >>= λ _. ok one) ≡ ((refusal >>= λ _. ok joined) >>= λ _. ok put)
then_put (Ok x) one put joined e = ap (λ (c : Chunk). ok c) e
then_put (Err cause) one put joined e = refl

-- A box of a shard, with its parts in the inner chunks that it touches.
pub record PartedShard {B : Type 0} (f : BytesCodecs B) (codec : PlainCodec B) (inner index : CodecChain B) (shape : List ℕ) (at_end : Bool) (sizes : List ℕ) (type : ElementType) (fill : List ℕ) (state : StorageState) (window : Region) (numbers : List ℕ) (parts : List ChunkPart) : Type 0 where
  pub placed : PlacedShard f codec inner index shape at_end sizes type fill state (region_places sizes window) numbers
  pub window_is : IsShardWindow shape sizes window
  pub are : AreRegionParts shape window parts
  pub small : length (region_places sizes window) < 2 ^ 64

-- a box has no more places than 64 bits count
pub box_few : (sizes : List ℕ) (window : Region) → product sizes < 2 ^ 64 → IsInside sizes window → product window.lengths < 2 ^ 64
box_few sizes window small inside = few_places [] sizes window (record { taken = refl; counted = small; inside = inside })

shard_window : (shape sizes : List ℕ) (window : Region) (xs : List ℕ) → xs ≡ shape → All (λ size. 0 < size) xs → is_divided shape sizes ≡ true → IsInside sizes window → 0 < product window.lengths → IsShardWindow shape sizes window
shard_window shape sizes window xs same positive divided inside filled =
    record { divided = divided; positive = subst (All (λ size. 0 < size)) same positive; inside = inside; filled = filled }

-- the shape is borrowed
pub parted_shard : {B : Type 0} {f : BytesCodecs B} {codec : PlainCodec B} {inner index : CodecChain B} {shape : List ℕ} {at_end : Bool} {sizes : List ℕ} {type : ElementType} {fill : List ℕ} {state : StorageState} (shard : StoredShard f codec inner index shape at_end sizes type fill state)
    (numbers : List ℕ) (window : Region) (xs : List ℕ) (parts : List ChunkPart) → IsIndex f codec sizes state.value numbers → xs ≡ shape → All (λ size. 0 < size) xs → is_divided shape sizes ≡ true → product sizes < 2 ^ 64 → IsInside sizes window → 0 < product window.lengths → AreRegionParts shape window parts
    → PartedShard f codec inner index shape at_end sizes type fill state window numbers parts
parted_shard {shape = shape} {sizes = sizes} shard numbers window xs parts indexed same positive divided small inside filled are = record {
  placed = placed_box shard numbers window xs indexed same positive divided small inside;
  window_is = shard_window shape sizes window xs same positive divided inside filled;
  are = are;
  small = let count = box_count sizes window inside in let few = box_few sizes window small inside in omega (arith, count, few);
}

-- the parts that are found
pub found_parts : (shape : List ℕ) (window : Region) (parts : List ChunkPart) → IsOkAnd (checked_chunk_count shape window) (λ _. AreRegionParts shape window parts) → AreRegionParts shape window parts
found_parts shape window parts h = (ok_found (checked_chunk_count shape window) (λ _. AreRegionParts shape window parts) h).2

any_less : (number : ℕ) (places : List ℕ) (groups : List (ℕ × List ℕ)) → length (if_any number places groups) ≤ length groups + 1
any_less number [] groups = omega arith
any_less number (place ∷ places) groups = omega arith

among_less : (shape sizes places numbers : List ℕ) → length (groups_among shape sizes places numbers) ≤ length numbers
among_less shape sizes places [] = omega arith
among_less shape sizes places (number ∷ numbers) =
    let here = any_less number (places_of_inner shape sizes number places) (groups_among shape sizes places numbers) in
    let rest = among_less shape sizes places numbers in
    omega (arith, here, rest)

counted_there : (count axes others : ℕ) (chunks : Region) → axes ≡ others → product chunks.lengths ≡ count → count < 2 ^ 64 → ((demand (axes == others) IncompatibleDimensionality >>= λ _. ok_box chunks) >>= λ chunks. checked_u64 (product chunks.lengths)) ≡ Ok count
counted_there count axes others chunks same is few = rw (eq-eqb axes others same) (ap checked_u64 is ∙ rw (lt_test count (2 ^ 64) few) refl)

-- 64 bits count the inner chunks that a window touches
pub chunks_counted : (shape sizes : List ℕ) (window : Region) (xs : List ℕ) → xs ≡ shape → All (λ size. 0 < size) xs → is_divided shape sizes ≡ true → product sizes < 2 ^ 64 → IsInside sizes window → 0 < product window.lengths
    → (count : ℕ) × (checked_chunk_count shape window ≡ Ok count)
chunks_counted shape sizes window xs same positive divided small inside filled =
    let is = shard_window shape sizes window xs same positive divided inside filled in
    let fits_grid = fits shape sizes window is in
    let count = length (touched_chunks shape window) in
    let tuples = length-box_tuples (touched shape window).starts (touched shape window).lengths (touched_axes shape window fits_grid) in
    let groups : count ≡ length (groups_of shape sizes (region_places sizes window)) = sym (length-map (touched_chunks shape window) (λ numbers. (row_major (grid shape sizes) numbers, places_in_chunk shape window numbers))) ∙ ap length (boxes_grouped shape sizes window is) in
    let less = among_less shape sizes (region_places sizes window) (range_with_len 0 (inner_chunk_count shape sizes)) in
    let all = length-range_with_len 0 (inner_chunk_count shape sizes) in
    let cut = cut_count shape sizes divided in
    let some = product_positive shape is.positive in
    let room : inner_chunk_count shape sizes ≤ product sizes = few_chunks (inner_chunk_count shape sizes) (product shape) (product sizes) cut some in
    (count, counted_there count (length window.starts) (length shape) (touched shape window) fits_grid.starts (sym tuples) (omega (arith, groups, less, all, room, small)))

-- the parts, where the grid and the lengths are given
pub placed_parts : {shape g lengths others : List ℕ} {parts : List ChunkPart} {h : List ℕ} → g ≡ h → lengths ≡ others → AreShardParts shape g lengths parts → AreShardParts shape h others parts
placed_parts {shape} {g} {lengths} {others} {parts} {h} a b are = subst (λ (xs : List ℕ). AreShardParts shape xs others parts) a (subst (λ (xs : List ℕ). AreShardParts shape g xs parts) b are)

module _ {B : Type 0} {f : BytesCodecs B} {codec : PlainCodec B} {inner index : CodecChain B} {shape : List ℕ} {at_end : Bool} {sizes : List ℕ} {type : ElementType} {fill : List ℕ} {state : StorageState} {window : Region} {numbers : List ℕ} {parts : List ChunkPart} (it : PartedShard f codec inner index shape at_end sizes type fill state window numbers parts) where
  abbrev reading : PlaceReader
  reading = chain_read f (plain_chain inner)

  groups : map (part_group shape (grid shape sizes)) parts ≡ groups_of shape sizes (region_places sizes window)
  groups =
      own_groups shape sizes window parts it.are.each
      ∙ ap (map (λ numbers. (row_major (grid shape sizes) numbers, region_places shape (box_in_chunk shape window numbers)))) it.are.chunks
      ∙ boxes_grouped shape sizes window it.window_is

  each_part : All (IsShardPart shape (grid shape sizes) window.lengths) parts
  each_part =
      each_placed shape sizes window parts it.are.each
      (subst (All (IsPlacedPart shape sizes window)) (sym it.are.chunks)
      (all_listed (IsPlacedPart shape sizes window) (touched_chunks shape window) (λ numbers c. parts_placed shape sizes window numbers it.window_is c)))

  pub shard_parts : AreShardParts shape (grid shape sizes) window.lengths parts
  shard_parts = record {
    each = each_part;
    counted =
        let same : length (flat_map (λ part. region_places shape part.in_chunk) parts) ≡ length (region_places sizes window) =
        ap length (sym (flat_map-map (λ (it : ℕ × List ℕ). it.1) (part_group shape (grid shape sizes)) parts))
        ∙ ap (λ (gs : List (ℕ × List ℕ)). length (places_of_groups gs)) groups
        ∙ grouped_count shape sizes (region_places sizes window) it.placed.cut it.placed.below in
        let small = it.small in
        omega (arith, same, small);
  }

  each_read : (stored : Option (List ℕ)) → ReadsEach (reading shape type fill stored)
  each_read = chain_each f (plain_chain inner).array_to_array (plain_chain inner).array_to_bytes (plain_chain inner).bytes_to_bytes shape type fill

  abbrev at_cell : ℕ → ℕ → Element
  at_cell = at_number reading shape sizes type fill it.placed.shard.value (region_places sizes window) (spans_of numbers) each_read

  abbrev blank : Chunk
  blank = blank_box type fill window.lengths

  blank_long : length blank ≡ product window.lengths
  blank_long = length-map-range_with_len (λ _. fill_element type fill) 0 (product window.lengths)

  put_is : map (λ place. at_cell (inner_chunk_of shape sizes place) (place_inside shape sizes place)) (region_places sizes window) ≡ with_parts at_cell shape (grid shape sizes) window.lengths parts blank
  put_is =
      sym (parts_put at_cell shape sizes window blank it.window_is blank_long)
      ∙ ap (λ (chunks : List (List ℕ)). put_parts (read_part at_cell shape sizes window) shape window chunks blank) (sym it.are.chunks)
      ∙ sym (own_put at_cell shape sizes window parts blank it.are.each)

  abbrev refused : Result (Unit {0}) CodecError
  refused = refusals reading shape sizes type fill it.placed.shard.value each_read (region_places sizes window) 0 (spans_of numbers)

  joined_are : groups_read reading shape type fill it.placed.shard.value (spans_of numbers) (groups_of shape sizes (region_places sizes window))
      ≡ (refused >>= λ _. ok (group_elements at_cell (groups_of shape sizes (region_places sizes window))))
  joined_are =
      subst (λ (n : ℕ). groups_read reading shape type fill it.placed.shard.value (spans_of numbers) (groups_among shape sizes (region_places sizes window) (range_with_len 0 n)) ≡ (refused >>= λ _. ok (group_elements at_cell (groups_among shape sizes (region_places sizes window) (range_with_len 0 n))))) (counted it.placed)
      (groups_are reading shape sizes type fill it.placed.shard.value (region_places sizes window) (spans_of numbers) each_read 0 (spans_of numbers) (are_all (spans_of numbers)))

  within : (place : ℕ) → place < product sizes → inner_chunk_of shape sizes place < length (spans_of numbers)
  within place l = subst (λ (n : ℕ). inner_chunk_of shape sizes place < n) (sym (counted it.placed)) (it.placed.cut.chunk_below place l)

  read_is : all_read it.placed.shard (region_places sizes window) ≡ parts_read reading shape type fill state.value (spans_of numbers) (grid shape sizes) window.lengths parts blank
  read_is =
      placed_spans it.placed
      ∙ spans_are reading shape sizes type fill it.placed.shard.value each_read (region_places sizes window) (spans_of numbers)
      ∙ then_put refused _ (with_parts at_cell shape (grid shape sizes) window.lengths parts blank) (group_elements at_cell (groups_of shape sizes (region_places sizes window)))
      (picked_all (pick_at reading shape sizes type fill it.placed.shard.value each_read) (spans_of numbers) shape sizes (region_places sizes window) within it.placed.below ∙ put_is)
      ∙ ap (λ (r : Result Chunk CodecError). r >>= λ _. ok (with_parts at_cell shape (grid shape sizes) window.lengths parts blank)) (sym joined_are)
      ∙ ap (λ (gs : List (ℕ × List ℕ)). groups_read reading shape type fill it.placed.shard.value (spans_of numbers) gs >>= λ _. ok (with_parts at_cell shape (grid shape sizes) window.lengths parts blank)) (sym groups)
      ∙ sym (by_groups reading shape sizes type fill it.placed.shard.value (region_places sizes window) (spans_of numbers) each_read (grid shape sizes) window.lengths parts blank each_part)
      ∙ ap (λ (v : Option (List ℕ)). parts_read reading shape type fill v (spans_of numbers) (grid shape sizes) window.lengths parts blank) (sym it.placed.shard.value_is)

  -- what is read part by part is what is read of the box; the grid and the lengths are given
  pub parts_answered : (counts lengths : List ℕ) → grid shape sizes ≡ counts → window.lengths ≡ lengths → (result : Result Held CodecError)
      → AnswersRuns type (parts_read reading shape type fill state.value (spans_of numbers) counts lengths parts (blank_box type fill lengths)) result → AnswersRuns type (all_read it.placed.shard (region_places sizes window)) result
  parts_answered counts lengths g l result h =
      subst (λ (x : Result Chunk CodecError). AnswersRuns type x result) (sym read_is)
      (subst (λ (x : Result Chunk CodecError). AnswersRuns type x result) (λ i. parts_read reading shape type fill state.value (spans_of numbers) (sym g i) (sym l i) parts (blank_box type fill (sym l i))) h)

  -- and rests on the same
  pub parts_sure : (counts : List ℕ) → grid shape sizes ≡ counts → are_given_sure state.sure (rests_where true f codec sizes type fill state.value (region_places sizes window)) ≡ true
      → are_given_sure state.sure (stored_groups_rest (chain_rests f (plain_chain inner)) shape type fill state.value (spans_of numbers) (map (part_group shape counts) parts)) ≡ true
  parts_sure counts g h =
      ap (λ (xs : List ℕ). are_given_sure state.sure (stored_groups_rest (chain_rests f (plain_chain inner)) shape type fill state.value (spans_of numbers) (map (part_group shape xs) parts))) (sym g)
      ∙ ap (λ (gs : List (ℕ × List ℕ)). are_given_sure state.sure (stored_groups_rest (chain_rests f (plain_chain inner)) shape type fill state.value (spans_of numbers) gs)) groups
      ∙ ap (are_given_sure state.sure) (sym (behind_placed it.placed))
      ∙ h
