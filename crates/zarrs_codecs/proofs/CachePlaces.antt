-- Where the cache of a chain stands.
use Rattle.std.proofs.Common.{◌≡◌, ℕ, suc, ◌-◌, ◌<◌, ◌≤◌, max, nat_le, Bool, true, false, not, if◌then◌else◌, Option, Some, None, List, [], ◌∷◌, ◌++◌, length, map, arith, refl, ap, sym, ◌∙◌}
use Rattle.std.specs.Prelude.{option_map, is_ok, IsOkAnd, Result, Ok, Err}
use Rattle.std.proofs.lemmas.Bool.Decides.{nat_tests}
use Rattle.std.proofs.lemmas.List.{length-map}
use Rattle.zarrs_chunk.specs.declared.codec_error.CodecError.{CodecError}
use Rattle.zarrs_data_type.specs.ElementType.{ElementType}
use Rattle.zarrs_array_bytes.specs.Validity.{validity}
use Rattle.zarrs_codec.specs.BytesToBytesCodec.{BytesCodecs}
use Rattle.zarrs_codecs.specs.KeptIndex.{IsIndexOf, asks_index}
use Rattle.zarrs_codec.specs.declared.capabilities.PartialDecoderCapability.{PartialDecoderCapability}
use Rattle.zarrs_array_to_array.specs.ArrayToArrayCodec.{ArrayMapping}
use Rattle.zarrs_codecs.specs.CachePlace.{array_reads, codecs_read, last_without, greater, cache_place}
use Rattle.zarrs_chain_meaning.specs.Chain.{codec_reads, reads_all_if}
use Rattle.zarrs_codecs.specs.ChunkRead.{asks_in_part}
use Rattle.zarrs_codecs.specs.CacheTight.{CacheIsTight}
use Rattle.zarrs_codecs.specs.ChunkSource.{IsSizeOf, undecoded_codecs, bytes_stage, cache_fits, cache_stage, held_by, is_cache, source_of, stage_at, stage_by, stage_fits}
use Rattle.zarrs_chain_meaning.specs.CodecMeaning.{PlainCodec, PlainChain}
use Rattle.zarrs_codecs.specs.declared.partial_decoder.cache.Cache.{Cache}
use Rattle.zarrs_codecs.specs.declared.partial_decoder.cache.Cache.TheVariants as kept
use Rattle.zarrs_codecs.specs.declared.partial_decoder.cache.CacheStage.{CacheStage}
use Rattle.zarrs_codecs.specs.declared.partial_decoder.cache.CacheStage.TheVariants as stage
use Rattle.zarrs_array_to_array.proofs.MappedChunks.{holds_elements}
use Rattle.zarrs_chunk.proofs.Inside.{le_test}

abbrev some : ℕ → Option ℕ
some n = Some n

abbrev reads : PartialDecoderCapability → Bool
reads codec = codec.partial_read

abbrev decodes : PartialDecoderCapability → Bool
decodes codec = codec.partial_decode

-- array-to-array codecs do all in part
arrays_pass : (arrays : List ArrayMapping) (rest : List PartialDecoderCapability) → cache_place (map array_reads arrays ++ rest) ≡ cache_place rest
arrays_pass [] rest = refl
arrays_pass (codec ∷ arrays) rest = arrays_pass arrays rest

-- ---- the place of a stage

abbrev place_of : ℕ → CacheStage → Option ℕ
place_of count stage.Nowhere = None
place_of count (stage.Bytes below) = Some (count - below)
place_of count stage.Chunk = Some (suc count)

gt_test : (n : ℕ) → nat_le (suc n) n ≡ false
gt_test n = grind (arith, nat_tests)

chosen : (test : Bool) (one other : CacheStage) → test ≡ true → (if test then one else other) ≡ one
chosen true one other e = refl
chosen false one other e = absurd cc

otherwise : (test : Bool) (one other : CacheStage) → test ≡ false → (if test then one else other) ≡ other
otherwise false one other e = refl
otherwise true one other e = absurd cc

abbrev IsWithin : ℕ → CacheStage → Type 0
IsWithin count stage.Nowhere = Unit {0}
IsWithin count (stage.Bytes below) = below ≤ count
IsWithin count stage.Chunk = Unit {0}

stage_again : (count : ℕ) (s : CacheStage) → IsWithin count s → stage_at count (place_of count s) ≡ s
stage_again count stage.Nowhere h = refl
stage_again count (stage.Bytes below) h =
    chosen (nat_le (count - below) count) (stage.Bytes (count - (count - below))) stage.Chunk (le_test (count - below) count (omega arith))
    ∙ ap (λ n. stage.Bytes n) (let e : count - (count - below) ≡ below = omega (arith, h) in e)
stage_again count stage.Chunk h = otherwise (nat_le (suc count) count) (stage.Bytes (count - suc count)) stage.Chunk (gt_test count)

-- ---- bytes-to-bytes codecs

abbrev IsBelow : ℕ → Option ℕ → Type 0
IsBelow n None = Unit {0}
IsBelow n (Some m) = m < n

below_more : (n : ℕ) (o : Option ℕ) → IsBelow n o → IsBelow (suc n) o
below_more n None h = tt
below_more n (Some m) h = omega (arith, h)

below_at : (b : Bool) (n : ℕ) (o : Option ℕ) → IsBelow n o → IsBelow (suc n) (if b then o else some n)
below_at true n o h = below_more n o h
below_at false n o h = omega arith

place_below : (has : PartialDecoderCapability → Bool) (codecs : List PartialDecoderCapability) → IsBelow (length codecs) (last_without has codecs)
place_below has [] = tt
place_below has (codec ∷ codecs) = below_at (has codec) (length codecs) (last_without has codecs) (place_below has codecs)

top : (n : ℕ) (o : Option ℕ) → IsBelow (suc n) o → greater (some (suc n)) o ≡ Some (suc n)
top n None h = refl
top n (Some m) h = ap some (let e : max (suc n) m ≡ suc n = omega (arith, h) in e)

next_top : (n : ℕ) (o : Option ℕ) → IsBelow n o → greater (option_map suc o) (some n) ≡ Some n
next_top n None h = refl
next_top n (Some m) h = ap some (let e : max (suc m) n ≡ n = omega (arith, h) in e)

one_less : (n : ℕ) (o : Option ℕ) → place_of (suc n) (bytes_stage (option_map suc o)) ≡ place_of n (bytes_stage o)
one_less n None = refl
one_less n (Some b) = ap some (let e : suc n - suc b ≡ n - b = omega arith in e)

step : (d r : Bool) (n : ℕ) (undecoded unread left : Option ℕ) → IsBelow n undecoded → IsBelow n unread → place_of n (bytes_stage left) ≡ greater (option_map suc undecoded) unread
    → place_of (suc n) (bytes_stage (if not d then some 0 else (if not r then some 1 else option_map suc left))) ≡ greater (option_map suc (if d then undecoded else some n)) (if r then unread else some n)
step false r n undecoded unread left a b e = ap some (let z : suc n - 0 ≡ suc n = omega arith in z) ∙ sym (top n (if r then unread else some n) (below_at r n unread b))
step true false n undecoded unread left a b e = ap some (let z : suc n - 1 ≡ n = omega arith in z) ∙ sym (next_top n undecoded a)
step true true n undecoded unread left a b e = one_less n left ∙ e

bytes_place : (codecs : List PartialDecoderCapability) → place_of (length codecs) (bytes_stage (undecoded_codecs codecs)) ≡ cache_place codecs
bytes_place [] = refl
bytes_place (codec ∷ codecs) =
    step codec.partial_decode codec.partial_read (length codecs) (last_without decodes codecs) (last_without reads codecs) (undecoded_codecs codecs) (place_below decodes codecs) (place_below reads codecs) (bytes_place codecs)

-- ---- the array-to-bytes codec

placed : (d r : Bool) (n : ℕ) (undecoded unread left : Option ℕ) → IsBelow n undecoded → IsBelow n unread → place_of n (bytes_stage left) ≡ greater (option_map suc undecoded) unread
    → place_of n (if not d then stage.Chunk else (if not r then stage.Bytes 0 else bytes_stage left)) ≡ greater (option_map suc (if d then undecoded else some n)) (if r then unread else some n)
placed false r n undecoded unread left a b e = sym (top n (if r then unread else some n) (below_at r n unread b))
placed true false n undecoded unread left a b e = ap some (let z : n - 0 ≡ n = omega arith in z) ∙ sym (next_top n undecoded a)
placed true true n undecoded unread left a b e = e

codec_placed : (codec : PartialDecoderCapability) (codecs : List PartialDecoderCapability) → place_of (length codecs) (stage_by codec (undecoded_codecs codecs)) ≡ cache_place (codec ∷ codecs)
codec_placed codec codecs =
    placed codec.partial_decode codec.partial_read (length codecs) (last_without decodes codecs) (last_without reads codecs) (undecoded_codecs codecs) (place_below decodes codecs) (place_below reads codecs) (bytes_place codecs)

abbrev IsAtMost : ℕ → Option ℕ → Type 0
IsAtMost n None = Unit {0}
IsAtMost n (Some m) = m ≤ n

left_more : (d r : Bool) (n : ℕ) (left : Option ℕ) → IsAtMost n left → IsAtMost (suc n) (if not d then some 0 else (if not r then some 1 else option_map suc left))
left_more false r n left h = omega arith
left_more true false n left h = omega arith
left_more true true n None h = tt
left_more true true n (Some m) h = omega (arith, h)

left_within : (codecs : List PartialDecoderCapability) → IsAtMost (length codecs) (undecoded_codecs codecs)
left_within [] = tt
left_within (codec ∷ codecs) = left_more codec.partial_decode codec.partial_read (length codecs) (undecoded_codecs codecs) (left_within codecs)

stage_left : (n : ℕ) (left : Option ℕ) → IsAtMost n left → IsWithin n (bytes_stage left)
stage_left n None h = tt
stage_left n (Some m) h = h

stage_within : (d r : Bool) (n : ℕ) (left : Option ℕ) → IsAtMost n left → IsWithin n (if not d then stage.Chunk else (if not r then stage.Bytes 0 else bytes_stage left))
stage_within false r n left h = tt
stage_within true false n left h = omega arith
stage_within true true n left h = stage_left n left h

-- The stage that the code finds is where the cache stands.
pub stage_is : {B : Type 0} (reads_of : B → PartialDecoderCapability) (chain : PlainChain B) → stage_by (codec_reads chain.array_to_bytes) (undecoded_codecs (map reads_of chain.bytes_to_bytes)) ≡ cache_stage reads_of chain
stage_is reads_of chain =
    let codec = codec_reads chain.array_to_bytes in
    let codecs = map reads_of chain.bytes_to_bytes in
    let count : length codecs ≡ length chain.bytes_to_bytes = length-map chain.bytes_to_bytes reads_of in
    sym (stage_again (length codecs) (stage_by codec (undecoded_codecs codecs)) (stage_within codec.partial_decode codec.partial_read (length codecs) (undecoded_codecs codecs) (left_within codecs)))
    ∙ ap (stage_at (length codecs)) (codec_placed codec codecs ∙ sym (arrays_pass chain.array_to_array (codec ∷ codecs)))
    ∙ ap (λ n. stage_at n (cache_place (codecs_read reads_of chain))) count

fits_left : (codec : PartialDecoderCapability) (n : ℕ) (left : Option ℕ) → codec.partial_decode ≡ true → IsAtMost n left → stage_fits codec n (bytes_stage left) ≡ true
fits_left codec n None d h = d
fits_left codec n (Some m) d h = rw (d, le_test m n h) refl

fits_by : (codec : PartialDecoderCapability) (d r : Bool) (n : ℕ) (left : Option ℕ) → codec.partial_decode ≡ d → IsAtMost n left → stage_fits codec n (if not d then stage.Chunk else (if not r then stage.Bytes 0 else bytes_stage left)) ≡ true
fits_by codec false r n left e h = refl
fits_by codec true false n left e h = rw (e, le_test 0 n (omega arith)) refl
fits_by codec true true n left e h = fits_left codec n left e h

-- and it is one of the chain
pub stage_by_fits : (codec : PartialDecoderCapability) (codecs : List PartialDecoderCapability) → stage_fits codec (length codecs) (stage_by codec (undecoded_codecs codecs)) ≡ true
stage_by_fits codec codecs = fits_by codec codec.partial_decode codec.partial_read (length codecs) (undecoded_codecs codecs) refl (left_within codecs)

-- ---- whether there is a cache

pub no_stage : {B : Type 0} (reads_of : B → PartialDecoderCapability) (chain : PlainChain B) → cache_place (codecs_read reads_of chain) ≡ None → cache_stage reads_of chain ≡ stage.Nowhere
no_stage reads_of chain e = ap (stage_at (length chain.bytes_to_bytes)) e

no_place_of : {B : Type 0} (reads_of : B → PartialDecoderCapability) (outer : List B) (codec : PlainCodec B) → asks_in_part outer codec ≡ true → cache_place (codec_reads codec ∷ map reads_of outer) ≡ None
no_place_of reads_of [] codec e = ap (λ (reads : PartialDecoderCapability). cache_place (reads ∷ [])) (ap reads_all_if e)
no_place_of reads_of (first ∷ rest) codec e = absurd cc

-- where a read asks for a part of the value alone, there is none
pub no_place : {B : Type 0} (reads_of : B → PartialDecoderCapability) (chain : PlainChain B) → asks_in_part chain.bytes_to_bytes chain.array_to_bytes ≡ true → cache_place (codecs_read reads_of chain) ≡ None
no_place reads_of chain e = arrays_pass chain.array_to_array (codec_reads chain.array_to_bytes ∷ map reads_of chain.bytes_to_bytes) ∙ no_place_of reads_of chain.bytes_to_bytes chain.array_to_bytes e

-- ---- how much a cache keeps

valid_so : (r : Result (Unit {0}) CodecError) → is_ok r ≡ true → r ≡ Ok tt
valid_so (Ok u) e = refl
valid_so (Err x) e = absurd cc

-- a cache keeps as many bytes as what answers rest on has
pub size_kept : (reads : PartialDecoderCapability) (type : ElementType) (count codecs handle : ℕ) (stored : Option (List ℕ)) (cache : Cache) → cache_fits reads type count codecs cache ≡ true → CacheIsTight type cache → is_cache cache ≡ true
    → IsSizeOf type (source_of type count codecs stored cache) (held_by handle cache)
size_kept reads type count codecs handle stored kept.Handle fits tight e = absurd cc
size_kept reads type count codecs handle stored (kept.Index index) fits tight e = absurd cc
size_kept reads type count codecs handle stored (kept.Bytes below None) fits tight e = refl
size_kept reads type count codecs handle stored (kept.Bytes below (Some value)) fits tight e = refl
size_kept reads type count codecs handle stored (kept.Chunk None) fits tight e = refl
size_kept reads type count codecs handle stored (kept.Chunk (Some held)) fits tight e = (held, holds_elements type count held (valid_so (validity type count held) fits), tight, refl)

pub answered : {A : Type 0} (r : Result A CodecError) (x : A) (P : A → Type 0) → r ≡ Ok x → P x → IsOkAnd r P
answered r x P e h = rw e h

-- ---- without a cache

-- where no index is asked for, what is kept is the handle's
pub handle_kept : {B : Type 0} (f : BytesCodecs B) (chain : PlainChain B) (sizes : List ℕ) (stored : Option (List ℕ)) (cache : Cache) (held : ℕ) → IsIndexOf f chain sizes stored cache → is_cache cache ≡ false → asks_index chain.bytes_to_bytes chain.array_to_bytes ≡ false → held_by held cache ≡ held
handle_kept f chain sizes stored kept.Handle held h bare none = refl
handle_kept f chain sizes stored (kept.Index index) held h bare none = let never : true ≡ false = sym h.0 ∙ none in absurd (cc)
handle_kept f chain sizes stored (kept.Bytes below value) held h bare none = absurd (cc)
handle_kept f chain sizes stored (kept.Chunk chunk) held h bare none = absurd (cc)
