-- The bytes of elements at places, read by ranges and in batches.
use Rattle.std.proofs.Common.{◌≡◌, ℕ, ◌+◌, ◌*◌, ◌<◌, ◌&&◌, Bool, true, false, nat_le, Option, Some, None, Result, Ok, Err, List, [], ◌++◌, length, map, refl, ap, sym, ◌∙◌}
use Rattle.std.specs.Prelude.{is_some, option_map}
use Rattle.std.specs.List.{All, concat, list_all, range_with_len}
use Rattle.std.proofs.lemmas.Bool.{and_parts}
use Rattle.std.proofs.lemmas.List.{append_assoc, append-nil, map-append, nil_from_length}
use Rattle.std.proofs.lemmas.List.Concat.{flat_map-append}
use Rattle.std.proofs.lemmas.List.Folds.{concat-append, list_all-append}
use Rattle.zarrs_chunk.specs.Answer.{◌>>=◌, demand, seen}
use Rattle.zarrs_chunk.specs.Runs.{joined_runs}
use Rattle.zarrs_chunk.specs.declared.codec_error.CodecError.{CodecError}
use Rattle.zarrs_chunk.specs.declared.codec_error.CodecError.TheVariants.{InvalidByteRange}
use Rattle.zarrs_array_bytes.specs.Elements.{piece}
use Rattle.zarrs_codec.specs.ByteRanges.{range_indices, read_ranges}
use Rattle.zarrs_codec.specs.ByteSpan.{ByteSpan}
use Rattle.zarrs_codec.specs.StorageState.{are_sure}
use Rattle.zarrs_bytes.specs.PartialRead.{bytes_at, place_bytes}
use Rattle.zarrs_bytes.proofs.Coding.{ok}
use Rattle.zarrs_bytes.proofs.Ranges.{place_bytes-append, read_value-places}

-- the bytes, where the test passes
abbrev pub bytes_if : Bool → List ℕ → Result (Option (List ℕ)) CodecError
bytes_if test bytes = demand test InvalidByteRange >>= λ _. ok (Some bytes)

-- does the value have all bytes of these places?
abbrev pub has_all : ℕ → List ℕ → List ℕ → Bool
has_all size value places = list_all (λ place. nat_le (place * size + size) (length value)) places

abbrev pub grown : List ℕ → Option (List ℕ) → Option (List ℕ)
grown front = option_map (λ more. front ++ more)

-- ---- by ranges

some_bytes : (test : Bool) (bytes : List ℕ) → ((demand test InvalidByteRange >>= λ _. ok bytes) >>= λ y. ok (Some y)) ≡ bytes_if test bytes
some_bytes true bytes = refl
some_bytes false bytes = refl

-- ranges whose bytes are those of the places read them
pub ranges_read : (size : ℕ) (stored : Option (List ℕ)) (places : List ℕ) (ranges : List ByteSpan) → 0 < size → range_indices ranges ≡ place_bytes size places → All (λ range. range.start < range.end) ranges → read_ranges stored ranges ≡ bytes_at size stored places
ranges_read size None places ranges positive numbers filled = refl
ranges_read size (Some value) places ranges positive numbers filled =
    ap (λ (r : Result (List ℕ) CodecError). r >>= λ y. ok (Some y)) (read_value-places size value places ranges positive numbers filled)
    ∙ some_bytes (has_all size value places) (concat (map (piece size value) places))

pub none_if : (test : Bool) (bytes : List ℕ) (P : Type 0) → bytes_if test bytes ≡ Ok None → P
none_if true bytes P h = absurd cc
none_if false bytes P h = absurd cc

-- ---- in two parts

item_is : (xs ys : List ℕ) → ok (Some xs) ≡ ok (Some ys) → xs ≡ ys
item_is xs ys e = cc

both_if : (a b : Bool) (now next xs ys : List ℕ) → seen (grown now) (bytes_if a xs) ≡ Ok (Some next) → seen (grown next) (bytes_if b ys) ≡ seen (grown now) (bytes_if (a && b) (xs ++ ys))
both_if true true now next xs ys h =
    ap (λ (l : List ℕ). ok (Some (l ++ ys))) (sym (item_is (now ++ xs) next h)) ∙ ap (λ (l : List ℕ). ok (Some l)) (append_assoc now xs ys)
both_if true false now next xs ys h = refl
both_if false b now next xs ys h = absurd cc

first_if : (a b : Bool) (now xs ys : List ℕ) (e : CodecError) → seen (grown now) (bytes_if a xs) ≡ Err e → seen (grown now) (bytes_if (a && b) (xs ++ ys)) ≡ Err e
first_if true b now xs ys e h = absurd cc
first_if false b now xs ys e h = h

abbrev joined : ℕ → List ℕ → List ℕ → List ℕ
joined size value places = concat (map (piece size value) places)

two_parts : (size : ℕ) (value xs ys : List ℕ) → bytes_at size (Some value) (xs ++ ys) ≡ bytes_if (has_all size value xs && has_all size value ys) (joined size value xs ++ joined size value ys)
two_parts size value xs ys =
    ap (λ (b : Bool). bytes_if b (joined size value (xs ++ ys))) (list_all-append (λ place. nat_le (place * size + size) (length value)) xs ys)
    ∙ ap (λ (parts : List (List ℕ)). bytes_if (has_all size value xs && has_all size value ys) (concat parts)) (map-append (piece size value) xs ys)
    ∙ ap (bytes_if (has_all size value xs && has_all size value ys)) (concat-append (map (piece size value) xs) (map (piece size value) ys))

-- what was read of the first places, and what is left to be read
pub read_on : (size : ℕ) (stored : Option (List ℕ)) (now next xs ys : List ℕ) → seen (grown now) (bytes_at size stored xs) ≡ Ok (Some next) → seen (grown next) (bytes_at size stored ys) ≡ seen (grown now) (bytes_at size stored (xs ++ ys))
read_on size None now next xs ys h = absurd cc
read_on size (Some value) now next xs ys h =
    both_if (has_all size value xs) (has_all size value ys) now next (joined size value xs) (joined size value ys) h
    ∙ ap (seen (grown now)) (sym (two_parts size value xs ys))

-- where a read of the first places fails, one of all fails so
pub read_off : (size : ℕ) (stored : Option (List ℕ)) (now xs ys : List ℕ) (e : CodecError) → seen (grown now) (bytes_at size stored xs) ≡ Err e → seen (grown now) (bytes_at size stored (xs ++ ys)) ≡ Err e
read_off size None now xs ys e h = absurd cc
read_off size (Some value) now xs ys e h =
    ap (seen (grown now)) (two_parts size value xs ys)
    ∙ first_if (has_all size value xs) (has_all size value ys) now (joined size value xs) (joined size value ys) e h

-- nothing is left
pub read_end : (size : ℕ) (stored : Option (List ℕ)) (now : List ℕ) → is_some stored ≡ true → seen (grown now) (bytes_at size stored []) ≡ Ok (Some now)
read_end size None now h = absurd cc
read_end size (Some value) now h = ap (λ (l : List ℕ). ok (Some l)) (append-nil now)

-- nothing was read before
none_before : (r : Result (Option (List ℕ)) CodecError) → seen (grown []) r ≡ r
none_before (Ok None) = refl
none_before (Ok (Some xs)) = refl
none_before (Err e) = refl

-- the first places were read, then the others
pub read_rest : (size : ℕ) (stored : Option (List ℕ)) (now xs ys : List ℕ) → bytes_at size stored xs ≡ Ok (Some now) → seen (grown now) (bytes_at size stored ys) ≡ bytes_at size stored (xs ++ ys)
read_rest size stored now xs ys h =
    read_on size stored [] now xs ys (none_before (bytes_at size stored xs) ∙ h) ∙ none_before (bytes_at size stored (xs ++ ys))

pub read_refused : (size : ℕ) (stored : Option (List ℕ)) (xs ys : List ℕ) (e : CodecError) → bytes_at size stored xs ≡ Err e → bytes_at size stored (xs ++ ys) ≡ Err e
read_refused size stored xs ys e h =
    sym (none_before (bytes_at size stored (xs ++ ys))) ∙ read_off size stored [] xs ys e (none_before (bytes_at size stored xs) ∙ h)

-- ---- runs in two parts

pub joined_runs-append : (xs ys : List (ℕ × ℕ)) → joined_runs (xs ++ ys) ≡ joined_runs xs ++ joined_runs ys
joined_runs-append xs ys = flat_map-append (λ (run : ℕ × ℕ). range_with_len run.0 run.1) xs ys

pub sure_parts : (sure : Option (ℕ → Bool)) (xs ys : List ℕ) → are_sure sure (xs ++ ys) ≡ true → (are_sure sure xs ≡ true) × (are_sure sure ys ≡ true)
sure_parts None xs ys h = absurd cc
sure_parts (Some sure) xs ys h = and_parts (list_all sure xs) (list_all sure ys) (sym (list_all-append sure xs ys) ∙ h)

-- where all bytes are sure, those of each part are
pub sure_runs : (size : ℕ) (sure : Option (ℕ → Bool)) (all xs ys : List (ℕ × ℕ)) → all ≡ xs ++ ys → are_sure sure (place_bytes size (joined_runs all)) ≡ true → (are_sure sure (place_bytes size (joined_runs xs)) ≡ true) × (are_sure sure (place_bytes size (joined_runs ys)) ≡ true)
sure_runs size sure all xs ys e h =
    sure_parts sure (place_bytes size (joined_runs xs)) (place_bytes size (joined_runs ys))
    (ap (are_sure sure) (sym (ap (λ (runs : List (ℕ × ℕ)). place_bytes size (joined_runs runs)) e ∙ ap (place_bytes size) (joined_runs-append xs ys) ∙ place_bytes-append size (joined_runs xs) (joined_runs ys))) ∙ h)

-- ---- at the calls

-- what a batch reads, behind what was read before
pub batch_appended : (size : ℕ) (stored : Option (List ℕ)) (now bytes next places : List ℕ) → bytes_at size stored places ≡ Ok (Some bytes) → next ≡ now ++ bytes → seen (grown now) (bytes_at size stored places) ≡ Ok (Some next)
batch_appended size stored now bytes next places read is = ap (seen (grown now)) read ∙ ap (λ (l : List ℕ). ok (Some l)) (sym is)

-- What is left to be read, behind what was read so far, is all that is to be read, behind what was there first: `left` stays true from batch to batch.
module _ (size : ℕ) (stored : Option (List ℕ)) (first : List ℕ) (all : List (ℕ × ℕ)) where
  abbrev pub left : List ℕ → List (ℕ × ℕ) → Type 0
  left now rest = seen (grown now) (bytes_at size stored (joined_runs rest)) ≡ seen (grown first) (bytes_at size stored (joined_runs all))

  parts : (now : List ℕ) (rest xs ys : List (ℕ × ℕ)) → rest ≡ xs ++ ys → seen (grown now) (bytes_at size stored (joined_runs rest)) ≡ seen (grown now) (bytes_at size stored (joined_runs xs ++ joined_runs ys))
  parts now rest xs ys e = ap (λ (runs : List (ℕ × ℕ)). seen (grown now) (bytes_at size stored (joined_runs runs))) e ∙ ap (λ (places : List ℕ). seen (grown now) (bytes_at size stored places)) (joined_runs-append xs ys)

  pub batches_read : (here : Option (List ℕ)) (now next : List ℕ) (rest xs ys : List (ℕ × ℕ)) → here ≡ stored → rest ≡ xs ++ ys → left now rest → seen (grown now) (bytes_at size here (joined_runs xs)) ≡ Ok (Some next) → left next ys
  batches_read here now next rest xs ys same e is h =
      read_on size stored now next (joined_runs xs) (joined_runs ys) (ap (λ (s : Option (List ℕ)). seen (grown now) (bytes_at size s (joined_runs xs))) (sym same) ∙ h)
      ∙ sym (parts now rest xs ys e)
      ∙ is

  pub batches_refused : (here : Option (List ℕ)) (now : List ℕ) (rest xs ys : List (ℕ × ℕ)) (cause : CodecError) → here ≡ stored → rest ≡ xs ++ ys → left now rest → seen (grown now) (bytes_at size here (joined_runs xs)) ≡ Err cause → seen (grown first) (bytes_at size stored (joined_runs all)) ≡ Err cause
  batches_refused here now rest xs ys cause same e is h =
      sym is
      ∙ parts now rest xs ys e
      ∙ read_off size stored now (joined_runs xs) (joined_runs ys) cause (ap (λ (s : Option (List ℕ)). seen (grown now) (bytes_at size s (joined_runs xs))) (sym same) ∙ h)

  pub batches_end : (now : List ℕ) (rest : List (ℕ × ℕ)) → is_some stored ≡ true → length rest ≡ 0 → left now rest → seen (grown first) (bytes_at size stored (joined_runs all)) ≡ Ok (Some now)
  batches_end now rest h empty is =
      sym is
      ∙ ap (λ (runs : List (ℕ × ℕ)). seen (grown now) (bytes_at size stored (joined_runs runs))) (nil_from_length rest empty)
      ∙ read_end size stored now h

-- where the first batch fails, all fail so
pub first_refused : (size : ℕ) (stored : Option (List ℕ)) (all xs ys : List (ℕ × ℕ)) (cause : CodecError) → all ≡ xs ++ ys → bytes_at size stored (joined_runs xs) ≡ Err cause → bytes_at size stored (joined_runs all) ≡ Err cause
first_refused size stored all xs ys cause e read =
    ap (λ (runs : List (ℕ × ℕ)). bytes_at size stored (joined_runs runs)) e
    ∙ ap (bytes_at size stored) (joined_runs-append xs ys)
    ∙ read_refused size stored (joined_runs xs) (joined_runs ys) cause read

-- behind what the first batch read, the others are read
pub first_then_rest : (size : ℕ) (stored here : Option (List ℕ)) (now next : List ℕ) (all xs ys : List (ℕ × ℕ)) → all ≡ xs ++ ys → bytes_at size stored (joined_runs xs) ≡ Ok (Some now) → next ≡ now → here ≡ stored → seen (grown next) (bytes_at size here (joined_runs ys)) ≡ bytes_at size stored (joined_runs all)
first_then_rest size stored here now next all xs ys e read is state =
    ap (λ (l : List ℕ). seen (grown l) (bytes_at size here (joined_runs ys))) is
    ∙ ap (λ (s : Option (List ℕ)). seen (grown now) (bytes_at size s (joined_runs ys))) state
    ∙ read_rest size stored now (joined_runs xs) (joined_runs ys) read
    ∙ ap (bytes_at size stored) (sym (joined_runs-append xs ys))
    ∙ ap (λ (runs : List (ℕ × ℕ)). bytes_at size stored (joined_runs runs)) (sym e)
