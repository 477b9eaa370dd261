-- The elements of a box, put together part by part.
use Rattle.std.proofs.Common.{◌≡◌, ℕ, ◌+◌, ◌<◌, ◌^◌, ◌&&◌, nat_lt, if◌then◌else◌, true, Option, Some, None, get_or, List, [], ◌∷◌, ◌++◌, length, drop, map, Result, Ok, Err, arith, refl, ap, sym, subst, ◌∙◌}
use Rattle.std.specs.List.{All, flat_map, range_with_len}
use Rattle.std.specs.Prelude.{IsOkAnd}
use Rattle.std.proofs.lemmas.List.{append-nil, append_assoc, drop_more, map-append}
use Rattle.std.proofs.lemmas.List.Elements.{All-nil, All-push}
use Rattle.std.proofs.lemmas.List.Folds.{flat_map-map}
use Rattle.std.proofs.lemmas.List.FromFn.{length-map-range_with_len}
use Rattle.zarrs_array_bytes.proofs.WriteLemmas.{length-update}
use Rattle.zarrs_array_bytes.specs.Chunks.{update_at_places}
use Rattle.zarrs_array_bytes.specs.Elements.{elements}
use Rattle.zarrs_array_bytes.specs.Held.{Held}
use Rattle.zarrs_array_bytes.specs.Update.{update}
use Rattle.zarrs_array_bytes.specs.Validity.{Holds, validity}
use Rattle.zarrs_array_regions.proofs.WindowMaps.{places_count}
use Rattle.zarrs_array_regions.specs.WindowLaws.{region_places}
use Rattle.zarrs_array_regions.specs.Windows.{window_of}
use Rattle.zarrs_bytes.proofs.Coding.{ok}
use Rattle.zarrs_chain.proofs.ShardRead.{written_at}
use Rattle.zarrs_chain_meaning.proofs.ArraySteps.{ok_is}
use Rattle.zarrs_chain_meaning.specs.sharding.Sharding.{Span, is_stored}
use Rattle.zarrs_chunk.proofs.Inside.{lt_test, row_major-below}
use Rattle.zarrs_chunk.specs.Answer.{◌>>=◌, GivesBy, checked_u64}
use Rattle.zarrs_chunk.specs.ChunkShape.{product}
use Rattle.zarrs_chunk.specs.Region.{Region}
use Rattle.zarrs_chunk.specs.Runs.{AreFilled, EndWithin, joined_runs}
use Rattle.zarrs_chunk.specs.Tuples.{is_box_inside, is_tuple_inside, row_major}
use Rattle.zarrs_chunk.specs.declared.codec_error.CodecError.{CodecError}
use Rattle.zarrs_codecs.proofs.EditLaws.{found}
use Rattle.zarrs_codecs.proofs.GroupWalks.{span_count}
use Rattle.zarrs_codecs.proofs.WholeSpans.{some_is}
use Rattle.zarrs_codecs.specs.BoxReads.{AreShardParts, PutsPart, blank_box, part_group, inner_part_read, parts_read}
use Rattle.zarrs_codecs.specs.PartRead.{AnswersEach, PlaceReader}
use Rattle.zarrs_codecs.specs.SpanReads.{AreInnerRuns}
use Rattle.zarrs_data_type.specs.Element.{Chunk, fill_element}
use Rattle.zarrs_data_type.specs.ElementType.{ElementType}
use Rattle.zarrs_grid.specs.declared.chunk_part.ChunkPart.{ChunkPart}
use Rattle.zarrs_shard_runs.specs.GroupedRuns.{group}
use Rattle.zarrs_shard_runs.specs.declared.grouped_runs.InnerRuns.{InnerRuns}

module _ (read : PlaceReader) (shape : List ℕ) (type : ElementType) (fill value : List ℕ) (spans : List Span) (grid lengths : List ℕ) where
  abbrev of_part : ChunkPart → Result Chunk CodecError
  of_part part = inner_part_read read shape type fill (Some value) spans grid part

  abbrev of_parts : List ChunkPart → Chunk → Result Chunk CodecError
  of_parts parts chunk = parts_read read shape type fill (Some value) spans grid lengths parts chunk

  -- so many parts are put in place: these elements are held, and those of the others are to be put into them
  pub record PutTo (parts : List ChunkPart) (blank : Chunk) (index : ℕ) (held : Held) : Type 0 where
    pub chunk : Chunk
    pub holds : Holds type held chunk
    pub long : length chunk ≡ product lengths
    pub rest : of_parts parts blank ≡ of_parts (drop index parts) chunk

  module _ (parts : List ChunkPart) (blank : Chunk) (index : ℕ) (held : Held) (walk : PutTo parts blank index held) (it : ChunkPart) (next : drop index parts ≡ it ∷ drop (index + 1) parts) where
    abbrev behind : Chunk → Result Chunk CodecError
    behind content = of_parts (drop (index + 1) parts) (update walk.chunk (region_places lengths it.in_region) content)

    here : of_parts parts blank ≡ (of_part it >>= behind)
    here = walk.rest ∙ ap (λ (ps : List ChunkPart). of_parts ps walk.chunk) next

    pub put_refused : (error : CodecError) → of_part it ≡ Err error → of_parts parts blank ≡ Err error
    put_refused error e = here ∙ ap (λ (r : Result Chunk CodecError). r >>= behind) e

    pub put_valid : validity type (product lengths) held ≡ Ok tt
    put_valid = subst (λ (n : ℕ). validity type n held ≡ Ok tt) walk.long walk.holds.valid

    module _ (each : AnswersEach read) (inside : is_box_inside shape it.in_chunk.starts it.in_chunk.lengths ≡ true) (content : Held) (came : IsOkAnd (of_part it) (Holds type content)) where
      abbrev span : Span
      span = get_or spans (row_major grid it.chunk.items) (0, 0)

      one : (x : Chunk) × (of_part it ≡ Ok x) × Holds type content x
      one = found (of_part it) (Holds type content) came

      one_long : length one.0 ≡ product it.in_chunk.lengths
      one_long =
          span_count read shape type fill value span (region_places shape it.in_chunk) one.0 each (is_stored span) one.1
          ∙ places_count (product shape) (window_of shape it.in_chunk) (record { count_is = refl; inside = inside })

      pub content_valid : validity type (product it.in_chunk.lengths) content ≡ Ok tt
      content_valid = subst (λ (n : ℕ). validity type n content ≡ Ok tt) one_long one.2.valid

      pub put_goes_on : (next_held : Held) → Holds type next_held (update (elements type (product lengths) held) (region_places lengths it.in_region) (elements type (product it.in_chunk.lengths) content))
          → PutTo parts blank (index + 1) next_held
      put_goes_on next_held h = record {
        chunk = update walk.chunk (region_places lengths it.in_region) one.0;
        holds =
            let first : elements type (product lengths) held ≡ walk.chunk = subst (λ (n : ℕ). elements type n held ≡ walk.chunk) walk.long walk.holds.elements_are in
            let second : elements type (product it.in_chunk.lengths) content ≡ one.0 = subst (λ (n : ℕ). elements type n content ≡ one.0) one_long one.2.elements_are in
            subst (Holds type next_held) (λ i. update (first i) (region_places lengths it.in_region) (second i)) h;
        long = length-update walk.chunk (region_places lengths it.in_region) one.0 ∙ walk.long;
        rest = here ∙ ap (λ (r : Result Chunk CodecError). r >>= behind) one.1;
      }

  blank_long : length (blank_box type fill lengths) ≡ product lengths
  blank_long = length-map-range_with_len (λ _. fill_element type fill) 0 (product lengths)

  -- none yet: fill elements are held
  pub put_starts : (parts : List ChunkPart) (held : Held) → Holds type held (blank_box type fill lengths) → PutTo parts (blank_box type fill lengths) 0 held
  put_starts parts held h = record { chunk = blank_box type fill lengths; holds = h; long = blank_long; rest = refl }

  pub put_ends : (parts : List ChunkPart) (blank : Chunk) (held : Held) → PutTo parts blank (length parts) held → IsOkAnd (of_parts parts blank) (Holds type held)
  put_ends parts blank held walk =
      subst (λ (r : Result Chunk CodecError). IsOkAnd r (Holds type held)) (sym (walk.rest ∙ ap (λ (ps : List ChunkPart). of_parts ps walk.chunk) (drop_all parts))) walk.holds
    where
      drop_all : (ps : List ChunkPart) → drop (length ps) ps ≡ []
      drop_all [] = refl
      drop_all (p ∷ ps) = drop_all ps

-- so many fill elements are those of a box
pub filled_blank : (type : ElementType) (fill lengths : List ℕ) (count : ℕ) (held : Held) → count ≡ product lengths → Holds type held (map (λ _. fill_element type fill) (joined_runs ((0, count) ∷ []))) → Holds type held (blank_box type fill lengths)
filled_blank type fill lengths count held same h =
    subst (λ (ps : List ℕ). Holds type held (map (λ _. fill_element type fill) ps)) (append-nil (range_with_len 0 count) ∙ ap (range_with_len 0) same) h

-- ---- the next part

pub next_part : (parts : List ChunkPart) (index : ℕ) (it : ChunkPart) → index < length parts → it ≡ get_or parts index it → drop index parts ≡ it ∷ drop (index + 1) parts
next_part parts index it l e = drop_more parts index it l ∙ ap (λ (x : ChunkPart). x ∷ drop (index + 1) parts) (sym e)

-- the number of the inner chunk of these indices, which is found
pub raveled : (sizes chunk : List ℕ) → is_tuple_inside sizes chunk ≡ true → product sizes < 2 ^ 64
    → (if is_tuple_inside sizes chunk && nat_lt (row_major sizes chunk) (2 ^ 64) then Some (row_major sizes chunk) else None) ≡ Some (row_major sizes chunk)
raveled sizes chunk inside small =
    let below = row_major-below sizes chunk inside in
    rw (inside, lt_test (row_major sizes chunk) (2 ^ 64) (omega (arith, below, small))) refl

pub raveled_is : (sizes chunk : List ℕ) (found : Option ℕ) (number : ℕ) → is_tuple_inside sizes chunk ≡ true → product sizes < 2 ^ 64
    → found ≡ (if is_tuple_inside sizes chunk && nat_lt (row_major sizes chunk) (2 ^ 64) then Some (row_major sizes chunk) else None) → found ≡ Some number → number ≡ row_major sizes chunk
raveled_is sizes chunk found number inside small is e = some_is number (row_major sizes chunk) (sym e ∙ is ∙ raveled sizes chunk inside small)

-- ---- the places of parts, by inner chunks

-- the groups so far are those of the first parts, none of their runs is empty, and each ends within its inner chunk
pub record GroupsTo (shape grid : List ℕ) (parts : List ChunkPart) (index : ℕ) (groups : List InnerRuns) : Type 0 where
  pub is : map group groups ++ map (part_group shape grid) (drop index parts) ≡ map (part_group shape grid) parts
  pub there : All (λ it. it.number < product grid) groups
  pub filled : All (λ it. AreFilled it.runs.items) groups
  pub inside : All (λ it. EndWithin (product shape) it.runs.items) groups

pub groups_start : (shape grid : List ℕ) (parts : List ChunkPart) (groups : List InnerRuns) → groups ≡ [] → GroupsTo shape grid parts 0 groups
groups_start shape grid parts groups e =
    subst (GroupsTo shape grid parts 0) (sym e)
    (record {
      is = refl;
      there = All-nil (λ (it : InnerRuns). it.number < product grid);
      filled = All-nil (λ (it : InnerRuns). AreFilled it.runs.items);
      inside = All-nil (λ (it : InnerRuns). EndWithin (product shape) it.runs.items);
    })

pub groups_more : (shape grid : List ℕ) (parts : List ChunkPart) (index : ℕ) (groups more : List InnerRuns) (part : ChunkPart) (it : InnerRuns) → GroupsTo shape grid parts index groups → drop index parts ≡ part ∷ drop (index + 1) parts → more ≡ groups ++ it ∷ []
    → group it ≡ part_group shape grid part → it.number < product grid → AreFilled it.runs.items → EndWithin (product shape) it.runs.items → GroupsTo shape grid parts (index + 1) more
groups_more shape grid parts index groups more part it so_far next e same low filled inside =
    subst (GroupsTo shape grid parts (index + 1)) (sym e)
    (record {
      is =
          ap (λ (gs : List (ℕ × List ℕ)). gs ++ map (part_group shape grid) (drop (index + 1) parts)) (map-append group groups (it ∷ []))
          ∙ append_assoc (map group groups) (group it ∷ []) (map (part_group shape grid) (drop (index + 1) parts))
          ∙ ap (λ (g : ℕ × List ℕ). map group groups ++ g ∷ map (part_group shape grid) (drop (index + 1) parts)) same
          ∙ ap (λ (ps : List ChunkPart). map group groups ++ map (part_group shape grid) ps) (sym next)
          ∙ so_far.is;
      there = All-push (λ (it : InnerRuns). it.number < product grid) groups it so_far.there low;
      filled = All-push (λ (it : InnerRuns). AreFilled it.runs.items) groups it so_far.filled filled;
      inside = All-push (λ (it : InnerRuns). EndWithin (product shape) it.runs.items) groups it so_far.inside inside;
    })

pub groups_end : (shape grid : List ℕ) (parts : List ChunkPart) (index : ℕ) (groups : List InnerRuns) → index ≡ length parts → GroupsTo shape grid parts index groups → map group groups ≡ map (part_group shape grid) parts
groups_end shape grid parts index groups end all =
    sym (append-nil (map group groups))
    ∙ ap (λ (ps : List ChunkPart). map group groups ++ map (part_group shape grid) ps) (sym (ap (λ (k : ℕ). drop k parts) end ∙ dropped parts))
    ∙ all.is
  where
    dropped : (ps : List ChunkPart) → drop (length ps) ps ≡ []
    dropped [] = refl
    dropped (p ∷ ps) = dropped ps

pub groups_inside : (shape grid lengths : List ℕ) (parts : List ChunkPart) (index : ℕ) (groups : List InnerRuns) → index ≡ length parts → AreShardParts shape grid lengths parts → GroupsTo shape grid parts index groups → AreInnerRuns shape (product grid) groups
groups_inside shape grid lengths parts index groups end are all = record {
  there = all.there;
  counted =
      let same : length (flat_map (λ it. joined_runs it.runs.items) groups) ≡ length (flat_map (λ part. region_places shape part.in_chunk) parts) =
      ap length (sym (flat_map-map (λ (it : ℕ × List ℕ). it.1) group groups))
      ∙ ap (λ (gs : List (ℕ × List ℕ)). length (flat_map (λ it. it.1) gs)) (groups_end shape grid parts index groups end all)
      ∙ ap length (flat_map-map (λ (it : ℕ × List ℕ). it.1) (part_group shape grid) parts) in
      let few = are.counted in
      omega (arith, same, few);
  filled = all.filled;
  inside = all.inside;
}

-- ---- a part is put in its place

pub counted_is : (n count : ℕ) → n < 2 ^ 64 → Ok count ≡ checked_u64 n → count ≡ n
counted_is n count l e = ok_is count n (e ∙ rw (lt_test n (2 ^ 64) l) refl)

pub put_updated : (type : ElementType) (lengths : List ℕ) (part : Region) (places : List ℕ) (count : ℕ) (held content : Held) (result : Result Held CodecError) → count ≡ product lengths → places ≡ region_places lengths part
    → is_box_inside lengths part.starts part.lengths ≡ true → validity type (product lengths) held ≡ Ok tt → validity type (product part.lengths) content ≡ Ok tt
    → GivesBy (Holds type) result (update_at_places type count places held content) → PutsPart type lengths part held content result
put_updated type lengths part places count held content result n p inside valid new given =
    let long : length places ≡ product part.lengths = ap length p ∙ places_count (product lengths) (window_of lengths part) (record { count_is = refl; inside = inside }) in
    let is : update_at_places type count places held content ≡ Ok (update (elements type (product lengths) held) (region_places lengths part) (elements type (product part.lengths) content)) =
    written_at type count places held content (ap (λ k. validity type k held) n ∙ valid) (ap (λ k. validity type k content) long ∙ new)
    ∙ ap ok (λ i. update (elements type (n i) held) (p i) (elements type (long i) content)) in
    subst (λ (r : Result Chunk CodecError). GivesBy (Holds type) result r) is given
