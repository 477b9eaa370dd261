-- Reading groups of runs one behind the other, and how many places groups have.
use Rattle.std.proofs.Common.{◌≡◌, ℕ, zero, suc, ◌+◌, ◌-◌, ◌*◌, ◌<◌, ◌≤◌, ◌^◌, min, nat_eq, Bool, true, false, Some, None, get_or, List, [], ◌∷◌, ◌++◌, length, drop, map, Result, Ok, Err, arith, refl, ap, sym, subst, ◌∙◌}
use Rattle.std.specs.List.{All, flat_map, range_with_len}
use Rattle.std.specs.Prelude.{IsOkAnd}
use Rattle.std.proofs.lemmas.Bool.Decides.{nat_tests}
use Rattle.std.proofs.lemmas.List.{append_assoc, drop_more, length-append}
use Rattle.std.proofs.lemmas.List.Elements.{All-nil, All-cons, All-drop, All-head, All-tail}
use Rattle.zarrs_array_bytes.specs.Elements.{elements}
use Rattle.zarrs_array_bytes.specs.Held.{Held}
use Rattle.zarrs_array_bytes.specs.Joined.{appended_elements}
use Rattle.zarrs_array_bytes.specs.Validity.{Holds, validity}
use Rattle.zarrs_bytes.proofs.Coding.{ok}
use Rattle.zarrs_chain_meaning.specs.sharding.InnerChunks.{IsCut, inner_chunk_count, inner_chunk_of, place_inside}
use Rattle.zarrs_chain_meaning.specs.sharding.Sharding.{Span, is_stored, spans_of}
use Rattle.zarrs_chunk.specs.Answer.{◌>>=◌, demand}
use Rattle.zarrs_chunk.specs.ChunkShape.{product}
use Rattle.zarrs_chunk.specs.Runs.{joined_runs}
use Rattle.zarrs_chunk.specs.declared.codec_error.CodecError.{CodecError}
use Rattle.zarrs_chunk.specs.declared.codec_error.CodecError.TheVariants.{InvalidByteRange}
use Rattle.zarrs_codec.specs.CountLaws.{passed}
use Rattle.zarrs_codecs.specs.PartRead.{AnswersEach, PlaceReader}
use Rattle.zarrs_codecs.specs.ShardRead.{groups_read, span_read}
use Rattle.zarrs_data_type.specs.Element.{Chunk}
use Rattle.zarrs_data_type.specs.ElementType.{ElementType}
use Rattle.zarrs_shard_runs.specs.GroupedRuns.{group}
use Rattle.zarrs_shard_runs.specs.PlacesInside.{groups_among, groups_of, if_any, places_of_inner}
use Rattle.zarrs_shard_runs.proofs.Grouping.{if_inside, inner_step}
use Rattle.zarrs_shard_runs.specs.declared.grouped_runs.InnerRuns.{InnerRuns}
use Rattle.zarrs_codecs.proofs.EditLaws.{found}
use Rattle.zarrs_packbits.specs.Bits.{bit_of}

-- ---- how many places groups have

abbrev pub places_of_groups : List (ℕ × List ℕ) → List ℕ
places_of_groups groups = flat_map (λ it. it.1) groups

any_count : (number : ℕ) (places : List ℕ) (groups : List (ℕ × List ℕ)) → length (places_of_groups (if_any number places groups)) ≡ length places + length (places_of_groups groups)
any_count number [] groups = omega arith
any_count number (place ∷ places) groups = length-append (place ∷ places) (places_of_groups groups)

-- how often a number is among others
abbrev times_among : ℕ → List ℕ → ℕ
times_among number [] = 0
times_among number (first ∷ rest) = bit_of (nat_eq number first) + times_among number rest

inside_count : (test : Bool) (inside : ℕ) (places : List ℕ) → length (if_inside test inside places) ≡ bit_of test + length places
inside_count true inside places = omega arith
inside_count false inside places = omega arith

none_among : (shape sizes numbers : List ℕ) → length (places_of_groups (groups_among shape sizes [] numbers)) ≡ 0
none_among shape sizes [] = refl
none_among shape sizes (number ∷ numbers) = none_among shape sizes numbers

one_among : (shape sizes : List ℕ) (place : ℕ) (places numbers : List ℕ)
    → length (places_of_groups (groups_among shape sizes (place ∷ places) numbers)) ≡ times_among (inner_chunk_of shape sizes place) numbers + length (places_of_groups (groups_among shape sizes places numbers))
one_among shape sizes place places [] = refl
one_among shape sizes place places (number ∷ numbers) =
    let here = any_count number (places_of_inner shape sizes number (place ∷ places)) (groups_among shape sizes (place ∷ places) numbers) in
    let first = ap length (inner_step shape sizes number place places) ∙ inside_count (nat_eq (inner_chunk_of shape sizes place) number) (place_inside shape sizes place) (places_of_inner shape sizes number places) in
    let rest = one_among shape sizes place places numbers in
    let without = any_count number (places_of_inner shape sizes number places) (groups_among shape sizes places numbers) in
    omega (arith, here, first, rest, without)

passed_by : (number from count : ℕ) → number < from → times_among number (range_with_len from count) ≡ 0
passed_by number from zero l = refl
passed_by number from (suc count) l =
    let other : nat_eq number from ≡ false = grind (arith, nat_tests) in
    ap (λ (b : Bool). bit_of b + times_among number (range_with_len (from + 1) count)) other ∙ (let rest = passed_by number (from + 1) count (omega (arith, l)) in omega (arith, rest))

once_among : (number from count : ℕ) → from ≤ number → number < from + count → times_among number (range_with_len from count) ≡ 1
once_among number from zero l h = absurd (omega (arith, l, h))
once_among number from (suc count) l h = by (nat_eq number from) refl (λ more. once_among number (from + 1) count more (omega (arith, h)))
  where
    by : (test : Bool) → nat_eq number from ≡ test → (from + 1 ≤ number → times_among number (range_with_len (from + 1) count) ≡ 1) → bit_of (nat_eq number from) + times_among number (range_with_len (from + 1) count) ≡ 1
    by true e rest =
        let less : number < from + 1 = grind (arith, nat_tests) in
        let none = passed_by number (from + 1) count less in
        ap (λ (b : Bool). bit_of b + times_among number (range_with_len (from + 1) count)) e ∙ omega (arith, none)
    by false e rest =
        let more : from + 1 ≤ number = grind (arith, nat_tests) in
        let once = rest more in
        ap (λ (b : Bool). bit_of b + times_among number (range_with_len (from + 1) count)) e ∙ omega (arith, once)

-- each place of a chunk is in one of its inner chunks
pub grouped_count : (shape sizes places : List ℕ) → IsCut shape sizes → All (λ place. place < product sizes) places → length (places_of_groups (groups_of shape sizes places)) ≡ length places
grouped_count shape sizes [] cut below = none_among shape sizes (range_with_len 0 (inner_chunk_count shape sizes))
grouped_count shape sizes (place ∷ places) cut below =
    let here = one_among shape sizes place places (range_with_len 0 (inner_chunk_count shape sizes)) in
    let there = cut.chunk_below place (All-head (λ place. place < product sizes) place places below) in
    let once = once_among (inner_chunk_of shape sizes place) 0 (inner_chunk_count shape sizes) (omega arith) (omega (arith, there)) in
    let rest = grouped_count shape sizes places cut (All-tail (λ place. place < product sizes) place places below) in
    omega (arith, here, once, rest)

any_below : (limit number : ℕ) (places : List ℕ) (groups : List (ℕ × List ℕ)) → number < limit → All (λ it. it.0 < limit) groups → All (λ it. it.0 < limit) (if_any number places groups)
any_below limit number [] groups l h = h
any_below limit number (place ∷ places) groups l h = All-cons (λ (it : ℕ × List ℕ). it.0 < limit) (number, place ∷ places) groups l h

among_below : (shape sizes places : List ℕ) (limit from count : ℕ) → from + count ≤ limit → All (λ it. it.0 < limit) (groups_among shape sizes places (range_with_len from count))
among_below shape sizes places limit from zero l = All-nil (λ (it : ℕ × List ℕ). it.0 < limit)
among_below shape sizes places limit from (suc count) l =
    any_below limit from (places_of_inner shape sizes from places) (groups_among shape sizes places (range_with_len (from + 1) count)) (omega (arith, l)) (among_below shape sizes places limit (from + 1) count (omega (arith, l)))

-- their numbers are those of inner chunks
pub groups_below : (shape sizes places : List ℕ) → All (λ it. it.0 < inner_chunk_count shape sizes) (groups_of shape sizes places)
groups_below shape sizes places = among_below shape sizes places (inner_chunk_count shape sizes) 0 (inner_chunk_count shape sizes) (omega arith)

pub numbers_below : (limit : ℕ) (groups : List InnerRuns) → All (λ it. it.0 < limit) (map group groups) → All (λ it. it.number < limit) groups
numbers_below limit [] h = All-nil (λ (it : InnerRuns). it.number < limit)
numbers_below limit (first ∷ rest) h =
    All-cons (λ (it : InnerRuns). it.number < limit) first rest (All-head (λ (it : ℕ × List ℕ). it.0 < limit) (group first) (map group rest) h) (numbers_below limit rest (All-tail (λ (it : ℕ × List ℕ). it.0 < limit) (group first) (map group rest) h))

-- ---- group by group

-- one read answers an element for each place
pub span_count : (read : PlaceReader) (shape : List ℕ) (type : ElementType) (fill value : List ℕ) (span : Span) (places : List ℕ) (chunk : Chunk) → AnswersEach read → (stored : Bool) → span_read stored read shape type fill value span places ≡ Ok chunk → length chunk ≡ length places
span_count read shape type fill value span places chunk each false e = each shape type fill None places chunk e
span_count read shape type fill value span places chunk each true e =
    let inside = passed (demand _ InvalidByteRange) (λ _. read shape type fill (Some _) places) chunk e in
    each shape type fill (Some _) places chunk inside.second_is

module _ (read : PlaceReader) (shape : List ℕ) (type : ElementType) (fill value : List ℕ) (spans : List Span) where
  -- what is read of groups
  abbrev of_groups : List InnerRuns → Result Chunk CodecError
  of_groups groups = groups_read read shape type fill value spans (map group groups)

  abbrev count_of : List InnerRuns → ℕ
  count_of groups = length (flat_map (λ it. joined_runs it.runs.items) groups)

  abbrev of_one : InnerRuns → Result Chunk CodecError
  of_one it = span_read (is_stored (get_or spans it.number (0, 0))) read shape type fill value (get_or spans it.number (0, 0)) (joined_runs it.runs.items)

  -- so many groups are read: their elements are held, and those of the others are to come behind them
  pub record WalkedTo (groups : List InnerRuns) (index : ℕ) (joined : Held) (count : ℕ) : Type 0 where
    pub chunk : Chunk
    pub holds : Holds type joined chunk
    pub count_is : length chunk ≡ count
    pub to_come : count + count_of (drop index groups) ≡ count_of groups
    pub rest : of_groups groups ≡ (of_groups (drop index groups) >>= λ behind. ok (chunk ++ behind))

  module _ (groups : List InnerRuns) (index : ℕ) (joined : Held) (count : ℕ) (walk : WalkedTo groups index joined count) (it : InnerRuns) (next : drop index groups ≡ it ∷ drop (index + 1) groups) where
    split : (r : Result Chunk CodecError) (behind : Result Chunk CodecError) → ((r >>= λ part. behind >>= λ others. ok (part ++ others)) >>= λ behind. ok (walk.chunk ++ behind)) ≡ (r >>= λ part. behind >>= λ others. ok ((walk.chunk ++ part) ++ others))
    split (Ok part) (Ok others) = ap (λ (c : Chunk). ok c) (sym (append_assoc walk.chunk part others))
    split (Ok part) (Err e) = refl
    split (Err e) behind = refl

    here : of_groups groups ≡ (of_one it >>= λ part. of_groups (drop (index + 1) groups) >>= λ others. ok ((walk.chunk ++ part) ++ others))
    here =
        walk.rest
        ∙ ap (λ (gs : List InnerRuns). of_groups gs >>= λ behind. ok (walk.chunk ++ behind)) next
        ∙ split (of_one it) (of_groups (drop (index + 1) groups))

    counts : count_of (drop index groups) ≡ length (joined_runs it.runs.items) + count_of (drop (index + 1) groups)
    counts = ap count_of next ∙ length-append (joined_runs it.runs.items) (flat_map (λ it. joined_runs it.runs.items) (drop (index + 1) groups))

    -- the count stays below that of all
    pub walk_counted : count + length (joined_runs it.runs.items) ≤ count_of groups
    walk_counted = let a = walk.to_come in let b = counts in omega (arith, a, b)

    pub walk_refused : (error : CodecError) → of_one it ≡ Err error → of_groups groups ≡ Err error
    walk_refused error e = here ∙ ap (λ (r : Result Chunk CodecError). r >>= λ part. of_groups (drop (index + 1) groups) >>= λ others. ok ((walk.chunk ++ part) ++ others)) e

    pub walk_valid : validity type count joined ≡ Ok tt
    walk_valid = subst (λ (n : ℕ). validity type n joined ≡ Ok tt) walk.count_is walk.holds.valid

    module _ (each : AnswersEach read) (part : Held) (more : ℕ) (long : more ≡ length (joined_runs it.runs.items)) (came : IsOkAnd (of_one it) (Holds type part)) where
      one : (x : Chunk) × (of_one it ≡ Ok x) × Holds type part x
      one = found (of_one it) (Holds type part) came

      one_long : length one.0 ≡ more
      one_long = span_count read shape type fill value (get_or spans it.number (0, 0)) (joined_runs it.runs.items) one.0 each (is_stored (get_or spans it.number (0, 0))) one.1 ∙ sym long

      pub more_valid : validity type more part ≡ Ok tt
      more_valid = subst (λ (n : ℕ). validity type n part ≡ Ok tt) one_long one.2.valid

      pub walk_goes_on : (next_joined : Held) → Holds type next_joined (appended_elements type count joined more part) → WalkedTo groups (index + 1) next_joined (count + more)
      walk_goes_on next_joined h = record {
        chunk = walk.chunk ++ one.0;
        holds =
            let first : elements type count joined ≡ walk.chunk = subst (λ (n : ℕ). elements type n joined ≡ walk.chunk) walk.count_is walk.holds.elements_are in
            let second : elements type more part ≡ one.0 = subst (λ (n : ℕ). elements type n part ≡ one.0) one_long one.2.elements_are in
            subst (Holds type next_joined) (λ i. first i ++ second i) h;
        count_is = let a = length-append walk.chunk one.0 in let b = walk.count_is in let c = one_long in omega (arith, a, b, c);
        to_come = let a = walk.to_come in let b = counts in omega (arith, a, b, long);
        rest = here ∙ ap (λ (r : Result Chunk CodecError). r >>= λ part. of_groups (drop (index + 1) groups) >>= λ others. ok ((walk.chunk ++ part) ++ others)) one.1;
      }

  pub walk_ends : (groups : List InnerRuns) (joined : Held) (count : ℕ) → WalkedTo groups (length groups) joined count → IsOkAnd (of_groups groups) (Holds type joined)
  walk_ends groups joined count walk =
      let none : drop (length groups) groups ≡ [] = drop_all groups in
      subst (λ (r : Result Chunk CodecError). IsOkAnd r (Holds type joined)) (sym (walk.rest ∙ ap (λ (gs : List InnerRuns). of_groups gs >>= λ behind. ok (walk.chunk ++ behind)) none ∙ ap (λ (c : Chunk). ok c) (append_none walk.chunk))) walk.holds
    where
      append_none : (c : Chunk) → c ++ [] ≡ c
      append_none [] = refl
      append_none (x ∷ c) = ap (λ (d : Chunk). x ∷ d) (append_none c)

      drop_all : (gs : List InnerRuns) → drop (length gs) gs ≡ []
      drop_all [] = refl
      drop_all (g ∷ gs) = drop_all gs

-- the span of an inner chunk, by the numbers of the index
pub span_at : (numbers : List ℕ) (k : ℕ) → k * 2 + 1 < length numbers → get_or (spans_of numbers) k (0, 0) ≡ (get_or numbers (k * 2) 0, get_or numbers (k * 2 + 1) 0)
span_at [] k l = absurd (omega (arith, l))
span_at (one ∷ []) k l = absurd (omega (arith, l))
span_at (one ∷ other ∷ numbers) zero l = refl
span_at (one ∷ other ∷ numbers) (suc k) l =
    let first : suc k * 2 ≡ suc (suc (k * 2)) = omega arith in
    let second : suc k * 2 + 1 ≡ suc (suc (k * 2 + 1)) = omega arith in
    span_at numbers k (omega (arith, l)) ∙ (λ i. (get_or (one ∷ other ∷ numbers) (sym first i) 0, get_or (one ∷ other ∷ numbers) (sym second i) 0))

-- what holds of all groups holds of the next
pub next_is : (P : InnerRuns → Type 0) (groups : List InnerRuns) (index : ℕ) (it : InnerRuns) (rest : List InnerRuns) → drop index groups ≡ it ∷ rest → All P groups → P it
next_is P groups index it rest next all = All-head P it rest (subst (All P) next (All-drop P index groups all))

pub next_at : (groups : List InnerRuns) (index : ℕ) (it : InnerRuns) → index < length groups → it ≡ get_or groups index it → drop index groups ≡ it ∷ drop (index + 1) groups
next_at groups index it l e = drop_more groups index it l ∙ ap (λ (x : InnerRuns). x ∷ drop (index + 1) groups) (sym e)

-- a count that stays below the limit
pub count_is : (n m : ℕ) → m ≡ min n (2 ^ 64 - 1) → n < 2 ^ 64 → m ≡ n
count_is n m e l = omega (arith, e, l)
