-- What is read of places in another order.
use Rattle.std.proofs.Common.{◌≡◌, ℕ, zero, suc, ◌<◌, ◌&&◌, ◌*◌, nat_lt, Bool, true, false, Option, Some, None, List, [], ◌∷◌, length, get_or, map, Result, Ok, Err, arith, refl, ap, ◌∙◌, sym, subst}
use Rattle.std.specs.Prelude.{IsOkAnd}
use Rattle.std.specs.List.{All, list_all, flat_map}
use Rattle.std.proofs.lemmas.Bool.{and_parts, and_from}
use Rattle.std.proofs.lemmas.List.Folds.{list_all-append}
use Rattle.zarrs_chunk.specs.Answer.{◌>>=◌, demand, seen}
use Rattle.zarrs_chunk.specs.ChunkShape.{product}
use Rattle.zarrs_chunk.specs.Region.{Region}
use Rattle.zarrs_chunk.specs.Tuples.{is_box_inside}
use Rattle.zarrs_chunk.specs.declared.codec_error.CodecError.{CodecError}
use Rattle.zarrs_chunk.specs.declared.codec_error.CodecError.TheVariants.{InvalidByteRange}
use Rattle.zarrs_data_type.specs.Element.{Element, absent, Chunk, fill_element}
use Rattle.zarrs_data_type.specs.ElementType.{ElementType}
use Rattle.zarrs_data_type.specs.Form.{Form}
use Rattle.zarrs_data_type.specs.declared.endianness.Endianness.{Endianness}
use Rattle.zarrs_array_bytes.specs.Elements.{elements}
use Rattle.zarrs_array_bytes.specs.Held.{Held}
use Rattle.zarrs_array_bytes.specs.Validity.{Holds, validity}
use Rattle.zarrs_codec.specs.CoordinateMap.{CoordinateMap, IsCoordinateMap, IsOneToOne, moved_chunk, inverse_map, same_places}
use Rattle.zarrs_codec.specs.StorageState.{are_sure}
use Rattle.zarrs_array_to_array.specs.ArrayToArrayCodec.{ArrayMapping, IsMapping, chained}
use Rattle.zarrs_array_to_array.proofs.CoordinateMaps.{length-moved, same_places_map}
use Rattle.zarrs_bytes.specs.BytesCodec.{bytes_element}
use Rattle.zarrs_bytes.specs.PartialRead.{has_place, read_places}
use Rattle.zarrs_packbits.specs.BitStream.{packed_element}
use Rattle.zarrs_packbits.specs.PackBitsSettings.{PackBitsSettings, packed_layout}
use Rattle.zarrs_packbits.specs.PartialRead.{all_below, packed_place_bytes, packed_places_bytes, read_packed_places, read_places_of}
use Rattle.zarrs_array_regions.specs.KeptRegions.{keeps_regions}
use Rattle.zarrs_array_regions.specs.PlaceReaders.{ReadsInAnyOrder, brought_back}
use Rattle.zarrs_array_regions.specs.Windows.{window_of, window_places, last_window, region_map, decoded_elements, decoded_of}
use Rattle.zarrs_array_regions.proofs.Rearranged.{rearranged, is_rearranged, length-rearranged, rearranged_at, map-rearranged}
use Rattle.zarrs_array_regions.proofs.WindowMaps.{moved_back_is, kept_places_are, next_count, here_is}
use Rattle.zarrs_array_regions.proofs.KeptChains.{chain_keeps}
use Rattle.zarrs_packbits.proofs.PartReads.{same_bools}

-- ---- a test of all items

all_at : {A : Type 0} (test : A → Bool) (xs : List A) (d : A) → list_all test xs ≡ true → (k : ℕ) → k < length xs → test (get_or xs k d) ≡ true
all_at test [] d h = λ k l. absurd (omega arith)
all_at test (x ∷ xs) d h = λ k.
    let parts = and_parts (test x) (list_all test xs) h in
    elim k as (λ j. j < length (x ∷ xs) → test (get_or (x ∷ xs) j d) ≡ true) [
      | zero ↦ (λ l. parts.0)
      | suc j ↦ (λ l. all_at test xs d parts.1 j (omega arith))
    ]

all_from : {A : Type 0} (test : A → Bool) (xs : List A) (d : A) → ((k : ℕ) → k < length xs → test (get_or xs k d) ≡ true) → list_all test xs ≡ true
all_from test [] d h = refl
all_from test (x ∷ xs) d h = and_from (test x) (list_all test xs) (h 0 (omega arith)) (all_from test xs d (λ k l. h (suc k) (omega arith)))

all-rearranged : {A : Type 0} (test : A → Bool) (n : ℕ) (to from : ℕ → ℕ) (d : A) (xs : List A) → IsOneToOne n to from → length xs ≡ n → list_all test (rearranged to n d xs) ≡ list_all test xs
all-rearranged test n to from d xs one e =
    let counted = length-rearranged to n d xs in
    same_bools (list_all test (rearranged to n d xs)) (list_all test xs)
    (λ h. all_from test xs d (λ k l.
    let k_in : k < n = omega (arith, e) in
    let below = one.from_below k k_in in
    ap (λ i. test (get_or xs i d)) (sym (one.to_from k k_in))
    ∙ ap test (sym (rearranged_at to n d xs (from k) below))
    ∙ all_at test (rearranged to n d xs) d h (from k) (omega (arith, counted, below))))
    (λ h. all_from test (rearranged to n d xs) d (λ k l.
    let k_in : k < n = omega (arith, counted) in
    let below = one.to_below k k_in in
    ap test (rearranged_at to n d xs k k_in) ∙ all_at test xs d h (to k) (omega (arith, below, e))))

-- a test of all that is made of items
all-flat : (test : ℕ → Bool) (f : ℕ → List ℕ) (xs : List ℕ) → list_all test (flat_map f xs) ≡ list_all (λ x. list_all test (f x)) xs
all-flat test f [] = refl
all-flat test f (x ∷ xs) = list_all-append test (f x) (flat_map f xs) ∙ ap (λ b. list_all test (f x) && b) (all-flat test f xs)

flat-rearranged : (test : ℕ → Bool) (f : ℕ → List ℕ) (n : ℕ) (to from : ℕ → ℕ) (xs : List ℕ) → IsOneToOne n to from → length xs ≡ n → list_all test (flat_map f (rearranged to n 0 xs)) ≡ list_all test (flat_map f xs)
flat-rearranged test f n to from xs one e =
    all-flat test f (rearranged to n 0 xs) ∙ all-rearranged (λ x. list_all test (f x)) n to from 0 xs one e ∙ sym (all-flat test f xs)

-- ---- readers

abbrev ok : Chunk → Result Chunk CodecError
ok c = Ok c

seen_same : (f g : Chunk → Chunk) (r : Result Chunk CodecError) → ((c : Chunk) → f c ≡ g c) → seen f r ≡ seen g r
seen_same f g (Ok c) h = ap (λ (x : Chunk). ok x) (h c)
seen_same f g (Err e) h = refl

-- of places that are rearranged one to one, the elements are answered rearranged
abbrev Rearranges : (List ℕ → Result Chunk CodecError) → Type 0
Rearranges read = (n : ℕ) (to from : ℕ → ℕ) (places : List ℕ) → IsOneToOne n to from → length places ≡ n → read (rearranged to n 0 places) ≡ seen (rearranged to n absent) (read places)

any_order : (read : List ℕ → Result Chunk CodecError) → Rearranges read → ReadsInAnyOrder read
any_order read h = record {
  moved = λ lengths part places is e.
      h (product lengths) part.to part.from places is.places e
      ∙ seen_same (rearranged part.to (product lengths) absent) (moved_chunk (inverse_map lengths part)) (read places) (λ c. sym (moved_back_is lengths part c));
}

-- one element for each place
each_place : (f : ℕ → Element) (n : ℕ) (to from : ℕ → ℕ) (places : List ℕ) → IsOneToOne n to from → length places ≡ n → map f (rearranged to n 0 places) ≡ rearranged to n absent (map f places)
each_place f n to from places one e = map-rearranged f to n 0 absent places (λ k l. let below = one.to_below k l in omega (arith, below, e))

pub mapped_read : (f : ℕ → Element) → ReadsInAnyOrder (λ places. Ok (map f places))
mapped_read f = any_order (λ places. Ok (map f places)) (λ n to from places one e. ap (λ (c : Chunk). ok c) (each_place f n to from places one e))

demanded : (a b : Bool) (cause : CodecError) (x y : Chunk) (f : Chunk → Chunk) → a ≡ b → x ≡ f y → (demand a cause >>= λ _. ok x) ≡ seen f (demand b cause >>= λ _. ok y)
demanded true true cause x y f e h = ap (λ (c : Chunk). ok c) h
demanded true false cause x y f e h = absurd (cc)
demanded false true cause x y f e h = absurd (cc)
demanded false false cause x y f e h = refl

-- the same, where the places pass a test
checked_read : (test : List ℕ → Bool) (cause : CodecError) (f : ℕ → Element) → ((n : ℕ) (to from : ℕ → ℕ) (places : List ℕ) → IsOneToOne n to from → length places ≡ n → test (rearranged to n 0 places) ≡ test places) → ReadsInAnyOrder (λ places. demand (test places) cause >>= λ _. ok (map f places))
checked_read test cause f same = any_order (λ places. demand (test places) cause >>= λ _. ok (map f places)) (λ n to from places one e.
    demanded (test (rearranged to n 0 places)) (test places) cause (map f (rearranged to n 0 places)) (map f places) (rearranged to n absent) (same n to from places one e) (each_place f n to from places one e))

pub tested_read : (test : ℕ → Bool) (cause : CodecError) (f : ℕ → Element) → ReadsInAnyOrder (λ places. demand (list_all test places) cause >>= λ _. ok (map f places))
tested_read test cause f = checked_read (list_all test) cause f (λ n to from places one e. all-rearranged test n to from 0 places one e)

pub refused_read : (cause : CodecError) → ReadsInAnyOrder (λ places. Err cause)
refused_read cause = record { moved = λ lengths part places is e. refl }

-- what first does something else reads so by what that gives
pub then_read : {A : Type 0} (first : Result A CodecError) (read : A → List ℕ → Result Chunk CodecError) → ((x : A) → ReadsInAnyOrder (read x)) → ReadsInAnyOrder (λ places. first >>= λ x. read x places)
then_read (Ok x) read each = each x
then_read (Err e) read each = refused_read e

pub bytes_read : (order : Option Endianness) (type : ElementType) (fill : List ℕ) (stored : Option (List ℕ)) → ReadsInAnyOrder (read_places order type fill stored)
bytes_read order type fill None = mapped_read (λ _. fill_element type fill)
bytes_read order type fill (Some value) = tested_read (has_place type value) InvalidByteRange (bytes_element order type value)

packed_read : (l : _) (type : ElementType) (fill : List ℕ) (stored : Option (List ℕ)) → ReadsInAnyOrder (read_packed_places l type fill stored)
packed_read l type fill None = mapped_read (λ _. fill_element type fill)
packed_read l type fill (Some value) =
    checked_read (λ places. all_below (length value) (packed_places_bytes l places)) InvalidByteRange (packed_element l value)
    (λ n to from places one e. flat-rearranged (λ number. nat_lt number (length value)) (packed_place_bytes l) n to from places one e)

pub packbits_read : (settings : PackBitsSettings) (form : Form) (stored : Option (List ℕ)) → ReadsInAnyOrder (read_places_of settings form stored)
packbits_read settings form stored = then_read (packed_layout settings form) (λ l. read_packed_places l form.type form.fill stored) (λ l. packed_read l form.type form.fill stored)

-- ---- how many elements are read

same_chunk : (x y : Chunk) → ok x ≡ ok y → x ≡ y
same_chunk x y e = cc

-- places in their own order
own_order : (places : List ℕ) → places ≡ brought_back (length places ∷ []) (same_places (length places ∷ [])) 0 places
own_order places =
    let one : length places * 1 ≡ length places = omega arith in
    is_rearranged (λ k. k) (length places) 0 places places refl (λ k l. refl) ∙ ap (λ n. rearranged (λ k. k) n 0 places) (sym one)

pub reads_counted : (read : List ℕ → Result Chunk CodecError) (places : List ℕ) (chunk : Chunk) → ReadsInAnyOrder read → read places ≡ Ok chunk → length chunk ≡ length places
reads_counted read places chunk reads e =
    let lengths : List ℕ = length places ∷ [] in
    let one : length places * 1 ≡ length places = omega arith in
    let again : read places ≡ seen (moved_chunk (inverse_map lengths (same_places lengths))) (read places) = ap read (own_order places) ∙ reads.moved lengths (same_places lengths) places (same_places_map lengths lengths refl (λ p. p)) (sym one) in
    let same : ok chunk ≡ ok (moved_chunk (inverse_map lengths (same_places lengths)) chunk) = sym e ∙ again ∙ ap (seen (moved_chunk (inverse_map lengths (same_places lengths)))) e in
    ap length (same_chunk chunk (moved_chunk (inverse_map lengths (same_places lengths)) chunk) same) ∙ length-moved (inverse_map lengths (same_places lengths)) chunk ∙ one

-- ---- sure bytes

pub sure_places : (sure : Option (ℕ → Bool)) (numbers : ℕ → List ℕ) (lengths : List ℕ) (part : CoordinateMap) (places : List ℕ) → IsCoordinateMap lengths part → length places ≡ product lengths
    → are_sure sure (flat_map numbers (brought_back lengths part 0 places)) ≡ are_sure sure (flat_map numbers places)
sure_places None numbers lengths part places is e = refl
sure_places (Some sure) numbers lengths part places is e = flat-rearranged sure numbers (product lengths) part.to part.from places is.places e

-- ---- a region's places

module _ (codecs : List ArrayMapping) (sizes : List ℕ) (m : CoordinateMap) (region : Region) (are : All IsMapping codecs) (positive : All (λ size. 0 < size) sizes) (chained_is : chained codecs sizes ≡ Ok m) (kept : keeps_regions codecs ≡ true) (inside : is_box_inside sizes region.starts region.lengths ≡ true) where
  -- where they go
  pub places_back : map m.to (window_places (window_of sizes region)) ≡ brought_back region.lengths (region_map codecs (window_of sizes region)) 0 (window_places (last_window codecs (window_of sizes region)))
  places_back =
      kept_places_are (product sizes) m (window_of sizes region) (last_window codecs (window_of sizes region)) (region_map codecs (window_of sizes region)) (here_is sizes region inside) (chain_keeps codecs sizes m region are positive chained_is kept inside)

  pub region_read : (read : List ℕ → Result Chunk CodecError) → ReadsInAnyOrder read
      → read (map m.to (window_places (window_of sizes region))) ≡ seen (decoded_elements codecs (window_of sizes region)) (read (window_places (last_window codecs (window_of sizes region))))
  region_read read reads =
      let keeps = chain_keeps codecs sizes m region are positive chained_is kept inside in
      ap read places_back
      ∙ reads.moved region.lengths (region_map codecs (window_of sizes region)) (window_places (last_window codecs (window_of sizes region))) keeps.part_is (next_count (product sizes) m (window_of sizes region) (last_window codecs (window_of sizes region)) (region_map codecs (window_of sizes region)) keeps)

  pub region_sure : (sure : Option (ℕ → Bool)) (numbers : ℕ → List ℕ)
      → are_sure sure (flat_map numbers (map m.to (window_places (window_of sizes region)))) ≡ are_sure sure (flat_map numbers (window_places (last_window codecs (window_of sizes region))))
  region_sure sure numbers =
      let keeps = chain_keeps codecs sizes m region are positive chained_is kept inside in
      ap (λ ps. are_sure sure (flat_map numbers ps)) places_back
      ∙ sure_places sure numbers region.lengths (region_map codecs (window_of sizes region)) (window_places (last_window codecs (window_of sizes region))) keeps.part_is (next_count (product sizes) m (window_of sizes region) (last_window codecs (window_of sizes region)) (region_map codecs (window_of sizes region)) keeps)

  -- what is read in the last window, in a container
  read_there : (read : List ℕ → Result Chunk CodecError) (type : ElementType) (held : Held) → IsOkAnd (read (window_places (last_window codecs (window_of sizes region)))) (Holds type held)
      → (chunk : Chunk) × (read (window_places (last_window codecs (window_of sizes region))) ≡ Ok chunk) × Holds type held chunk
  read_there read type held h = go (read (window_places (last_window codecs (window_of sizes region)))) h
    where
      go : (r : Result Chunk CodecError) → IsOkAnd r (Holds type held) → (chunk : Chunk) × (r ≡ Ok chunk) × Holds type held chunk
      go (Ok chunk) h = (chunk, refl, h)
      go (Err e) h = absurd h

  pub region_decoded : (read : List ℕ → Result Chunk CodecError) (type : ElementType) (held decoded : Held) → ReadsInAnyOrder read → IsOkAnd (read (window_places (last_window codecs (window_of sizes region)))) (Holds type held)
      → (validity type (product region.lengths) held ≡ Ok tt) × (Holds type decoded (decoded_of codecs type (window_of sizes region) held) → IsOkAnd (read (map m.to (window_places (window_of sizes region)))) (Holds type decoded))
  region_decoded read type held decoded reads h =
      let keeps = chain_keeps codecs sizes m region are positive chained_is kept inside in
      let r = read_there read type held h in
      let counted : length r.0 ≡ product region.lengths
      = reads_counted read (window_places (last_window codecs (window_of sizes region))) r.0 reads r.1 ∙ next_count (product sizes) m (window_of sizes region) (last_window codecs (window_of sizes region)) (region_map codecs (window_of sizes region)) keeps in
      let own : elements type (product region.lengths) held ≡ r.0 = ap (λ n. elements type n held) (sym counted) ∙ r.2.elements_are in
      let is : read (map m.to (window_places (window_of sizes region))) ≡ ok (decoded_of codecs type (window_of sizes region) held)
      = region_read read reads ∙ ap (seen (decoded_elements codecs (window_of sizes region))) r.1 ∙ ap (λ c. ok (decoded_elements codecs (window_of sizes region) c)) (sym own) in (
        subst (λ n. validity type n held ≡ Ok tt) counted r.2.valid,
        (λ holds. rw is holds),
      )
