-- Writes of regions that go through array-to-array codecs as regions.
use Rattle.std.proofs.Common.{◌≡◌, ◌^◌, ◌*◌, ◌<◌, ◌≤◌, ℕ, true, Option, Some, List, length, map, Result, Ok, Err, arith, refl, ap, sym, ◌∙◌, subst}
use Rattle.std.specs.Prelude.{is_ok, IsOk, IfErr}
use Rattle.std.specs.List.{All}
use Rattle.std.proofs.Math.Nat.{mul-le-mul_right}
use Rattle.std.proofs.lemmas.Bool.{lt-ltb}
use Rattle.zarrs_chunk.specs.Answer.{◌>>=◌, seen}
use Rattle.zarrs_chunk.specs.ChunkShape.{product}
use Rattle.zarrs_chunk.specs.Region.{Region}
use Rattle.zarrs_chunk.specs.Selection.{subset}
use Rattle.zarrs_chunk.specs.Tuples.{is_box_inside}
use Rattle.zarrs_chunk.specs.declared.codec_error.CodecError.{CodecError}
use Rattle.zarrs_chunk.specs.declared.codec_error.CodecError.TheVariants.{ArrayBytesKind, InvalidBytesLength}
use Rattle.zarrs_chunk.proofs.Rising.{Rises-box, Rises-room}
use Rattle.zarrs_data_type.specs.Element.{Chunk}
use Rattle.zarrs_data_type.specs.ElementType.{ElementType, fixed, text, bytes, optional, element_size}
use Rattle.zarrs_data_type.specs.FillValue.{fill_fits}
use Rattle.zarrs_data_type.specs.Form.{form_of}
use Rattle.zarrs_data_type.specs.declared.endianness.Endianness.{Endianness}
use Rattle.zarrs_array_bytes.specs.Elements.{elements}
use Rattle.zarrs_array_bytes.specs.Held.{Held, Raw, flen, vlen, masked}
use Rattle.zarrs_array_bytes.specs.Parts.{fixed_part}
use Rattle.zarrs_array_bytes.specs.Validity.{Holds, data_fit, data_mismatch, length_is, sizes_fit, validity}
use Rattle.zarrs_array_bytes.proofs.ValidLemmas.{both_ok, length_found, length_due}
use Rattle.zarrs_codec.specs.BytesToBytesCodec.{BytesCodecs}
use Rattle.zarrs_codec.specs.declared.bytes_representation.BytesRepresentation.{BytesRepresentation}
use Rattle.zarrs_array_to_array.specs.ArrayToArrayCodec.{IsMapping}
use Rattle.zarrs_bytes.specs.BytesCodec.{bytes_length}
use Rattle.zarrs_bytes.specs.PartialWrite.{bytes_left}
use Rattle.zarrs_bytes.proofs.PartWrites.{fits_kind}
use Rattle.zarrs_bytes.proofs.Taken.{taken_small}
use Rattle.zarrs_array_regions.specs.KeptRegions.{keeps_regions}
use Rattle.zarrs_array_regions.specs.Windows.{window_of, window_places, window_elements, last_window, region_map, encoded_elements}
use Rattle.zarrs_array_regions.specs.declared.window.Window.{Window}
use Rattle.zarrs_array_regions.proofs.KeptWindows.{places_are}
use Rattle.zarrs_array_regions.proofs.PlaceWrites.{region_left}
use Rattle.zarrs_array_regions.proofs.WindowMaps.{places_count, next_count, here_is}
use Rattle.zarrs_array_regions.proofs.KeptChains.{chain_keeps}
use Rattle.zarrs_array_to_array.proofs.CoordinateMaps.{length-moved}
use Rattle.zarrs_codec.specs.CoordinateMap.{moved_chunk}
use Rattle.zarrs_bytes.proofs.Coding.{ok}
use Rattle.zarrs_chain_meaning.proofs.NestedStages.{chained_of}
use Rattle.zarrs_chain_meaning.specs.ChunkForm.{ChunkForm}
use Rattle.zarrs_codecs.specs.CodecPart.{order_in_place}
use Rattle.zarrs_codecs.specs.ChunkWrite.{LendsData, form_checked, form_written, selection_left}
use Rattle.zarrs_codecs.proofs.PartialReads.{IsReadable}
use Rattle.zarrs_chain_meaning.proofs.ChainSteps.{is_ok_of}
use Rattle.zarrs_codecs.proofs.PlaceWrites.{in_place_taken, selection_in_place}
use Rattle.zarrs_chain_meaning.specs.CodecMeaning.{codec_representation}

-- ---- new elements of a fixed type

checked_unit : (r : Result (Unit {0}) CodecError) (places : List ℕ) → seen (λ _. tt {0}) (r >>= λ _. ok places) ≡ r
checked_unit (Ok u) places = refl
checked_unit (Err e) places = refl

-- elements of one size that are lent
lends : (order : Option Endianness) (sizes : List ℕ) (type : ElementType) (fill : List ℕ) (region : Region) (new : Held) (raw lent : Raw) → is_ok (bytes_length order (form_of sizes type fill)) ≡ true → product region.lengths ≤ product sizes → data_fit type (product region.lengths) new ≡ Ok tt
    → fixed_part new ≡ Ok raw → lent.items ≡ raw.items → LendsData type region new (flen lent)
lends order sizes (fixed width components sign) fill region (flen mine) raw lent t few fit is same =
    let size : ℕ = element_size width components in
    let n : ℕ = product region.lengths in
    let own : mine ≡ raw = raw_is mine raw is in
    let items : lent.items ≡ mine.items = same ∙ sym (ap (λ (x : Raw). x.items) own) in
    let long : length mine.items ≡ n * size = length_found data_mismatch _ _ fit in
    let less = mul-le-mul_right size few in
    let small : n * size < 2 ^ 64 = omega (arith, less, taken_small order sizes (fixed width components sign) fill t) in
    record {
      fit = fit;
      valid = rw (lt-ltb (n * size) (2 ^ 64) small) (length_due (λ a b. InvalidBytesLength a b) (length lent.items) (n * size) (ap length items ∙ long));
      same = ap (λ is. elements (fixed width components sign) n (flen (record { items = is; is_owned = lent.is_owned }))) items;
    }
  where
    raw_is : (x y : Raw) → ◌≡◌ {A = Result Raw CodecError} (Ok x) (Ok y) → x ≡ y
    raw_is x y e = cc
lends order sizes (fixed width components sign) fill region (vlen mine offsets) raw lent t few fit is same = absurd cc
lends order sizes (fixed width components sign) fill region (masked inner mask) raw lent t few fit is same = absurd cc
lends order sizes text fill region new raw lent t few fit is same = absurd cc
lends order sizes bytes fill region new raw lent t few fit is same = absurd cc
lends order sizes (optional type) fill region new raw lent t few fit is same = absurd cc

-- a container of so many elements has one for each place
fits_valid : (order : Option Endianness) (sizes : List ℕ) (type : ElementType) (fill : List ℕ) (n : ℕ) (held : Held) → is_ok (bytes_length order (form_of sizes type fill)) ≡ true → validity type n held ≡ Ok tt → data_fit type n held ≡ Ok tt
fits_valid order sizes (fixed width components sign) fill n (flen raw) t v = length_due data_mismatch (length raw.items) (n * element_size width components) (length_found (λ a b. InvalidBytesLength a b) (length raw.items) (n * element_size width components) (both_ok (sizes_fit (fixed width components sign) n) (length_is (λ a b. InvalidBytesLength a b) (length raw.items) (n * element_size width components)) v).1)
fits_valid order sizes (fixed width components sign) fill n (vlen raw offsets) t v = absurd (let b = (both_ok (sizes_fit (fixed width components sign) n) (Err ArrayBytesKind) v).1 in cc)
fits_valid order sizes (fixed width components sign) fill n (masked inner mask) t v = absurd (let b = (both_ok (sizes_fit (fixed width components sign) n) (Err ArrayBytesKind) v).1 in cc)
fits_valid order sizes text fill n held t v = absurd cc
fits_valid order sizes bytes fill n held t v = absurd cc
fits_valid order sizes (optional type) fill n held t v = absurd cc

module _ {B : Type 0} (f : BytesCodecs B) (form : ChunkForm B) (encoded : List ℕ) (r : BytesRepresentation) (h : IsReadable f form.chain form.sizes form.type form.fill encoded r) (are : All IsMapping form.chain.array_to_array) (positive : All (λ size. 0 < size) form.sizes) (counted : product form.sizes < 2 ^ 64)
    (region : Region) (inside : is_box_inside form.sizes region.starts region.lengths ≡ true) (order : Option Endianness) (alone : order_in_place form.chain.bytes_to_bytes form.chain.array_to_bytes ≡ Some order) where
  abbrev window : Window
  window = window_of form.sizes region

  abbrev last : Window
  last = last_window form.chain.array_to_array window

  here_count : length (window_places window) ≡ product region.lengths
  here_count = places_count (product form.sizes) window (here_is form.sizes region inside)

  pub few : product region.lengths ≤ product form.sizes
  few = let room = Rises-room 0 (product form.sizes) (window_places window) (Rises-box form.sizes region.starts region.lengths inside) in omega (arith, room, here_count)

  taken : is_ok (bytes_length order (form_of encoded form.type form.fill)) ≡ true
  taken = in_place_taken f form.chain.bytes_to_bytes form.chain.array_to_bytes order encoded form.type form.fill alone (is_ok_of (codec_representation f form.chain.array_to_bytes encoded form.type form.fill) r h.measured)

  -- whether new elements of the region are there is whether they fit
  pub region_checked : (new : Held) → form_checked form (subset region) new ≡ data_fit form.type (product region.lengths) new
  region_checked new = rw (places_are form.sizes region inside counted, here_count) (checked_unit (data_fit form.type (product region.lengths) new) (window_places window))

  pub region_lends : (new : Held) (raw lent : Raw) → data_fit form.type (product region.lengths) new ≡ Ok tt → fixed_part new ≡ Ok raw → lent.items ≡ raw.items → LendsData form.type region new (flen lent)
  region_lends new raw lent fit is same = lends order encoded form.type form.fill region new raw lent taken (omega (arith, few, h.count)) fit is same

  region_written : (new : Held) → data_fit form.type (product region.lengths) new ≡ Ok tt → form_written form (subset region) new ≡ Ok (map h.map_is.to (window_places window))
  region_written new fit = rw (places_are form.sizes region inside counted, here_count, fit, h.mapped) refl

  module _ (kept : keeps_regions form.chain.array_to_array ≡ true) (new lent held : Held) (l : LendsData form.type region new lent) (places : List ℕ) (at : ok (window_places last) ≡ ok places) (holds : Holds form.type held (encoded_elements form.chain.array_to_array window (window_elements form.type window lent))) where
    holds_new : Holds form.type held (encoded_elements form.chain.array_to_array window (window_elements form.type window new))
    holds_new = subst (λ c. Holds form.type held (encoded_elements form.chain.array_to_array window c)) l.same holds

    same_places : window_places last ≡ places
    same_places = go (window_places last) places at
      where
        go : (xs ys : List ℕ) → ok xs ≡ ok ys → xs ≡ ys
        go xs ys e = cc

    -- what is left at the region is what is left in the last window
    pub region_leaves : fill_fits form.type form.fill ≡ true → (stored : Option (List ℕ)) → selection_left f form (Some order) stored (subset region) new ≡ Ok (bytes_left order (form_of encoded form.type form.fill) stored places held)
    region_leaves filling stored =
        selection_in_place f form encoded r h order alone stored (subset region) new (map h.map_is.to (window_places window)) filling (region_written new l.fit)
        ∙ ap ok (region_left form.chain.array_to_array form.sizes h.map_is region are positive (chained_of form.type form.chain.array_to_array form.sizes h.map_is h.mapped) kept inside order (form_of encoded form.type form.fill) stored new held taken l.fit holds_new
        ∙ ap (λ ps. bytes_left order (form_of encoded form.type form.fill) stored ps held) same_places)

    -- as many elements stand there as it has places
    pub region_fits : data_fit form.type (length places) held ≡ Ok tt
    region_fits =
        let keeps = chain_keeps form.chain.array_to_array form.sizes h.map_is region are positive (chained_of form.type form.chain.array_to_array form.sizes h.map_is h.mapped) kept inside in
        let part = region_map form.chain.array_to_array window in
        let chunk = window_elements form.type window lent in
        let long : length (moved_chunk part chunk) ≡ product region.lengths = length-moved part chunk ∙ keeps.part_is.count in
        let there : length places ≡ product region.lengths = ap length (sym same_places) ∙ next_count (product form.sizes) h.map_is window last part keeps in
        fits_valid order encoded form.type form.fill (length places) held taken (subst (λ n. validity form.type n held ≡ Ok tt) (long ∙ sym there) holds.valid)

-- ---- answers of calls

-- after a check that passes none of its errors comes
pub passed : (r : Result (Unit {0}) CodecError) (Q : CodecError → Type 0) → r ≡ Ok tt → IfErr r Q
passed (Ok u) Q e = tt
passed (Err x) Q e = absurd cc

-- where a value is expected, no error but a lack of memory comes
pub memory_alone : (chunk : Chunk) (e : CodecError) → ◌≡◌ {A = Result Chunk CodecError} (Ok chunk) (Err e) → ⊥
memory_alone chunk e h = cc

-- the bytes of elements of one size that are lent
pub fixed_of : (new : Held) (items : List ℕ) → ◌≡◌ {A = Result (List ℕ) CodecError} (Ok items) (seen (λ (raw : Raw). raw.items) (fixed_part new)) → (raw : Raw) × (fixed_part new ≡ Ok raw) × (items ≡ raw.items)
fixed_of new items e = go (fixed_part new) e
  where
    go : (r : Result Raw CodecError) → ◌≡◌ {A = Result (List ℕ) CodecError} (Ok items) (seen (λ (raw : Raw). raw.items) r) → (raw : Raw) × (r ≡ Ok raw) × (items ≡ raw.items)
    go (Ok raw) e = (raw, refl, cc)
    go (Err x) e = absurd cc

fixed_there : (r : Result Raw CodecError) (e : CodecError) → IsOk r → ◌≡◌ {A = Result (List ℕ) CodecError} (Err e) (seen (λ (raw : Raw). raw.items) r) → ⊥
fixed_there (Ok raw) e there h = cc
fixed_there (Err x) e there h = absurd cc

pub no_fixed : {B : Type 0} (f : BytesCodecs B) (form : ChunkForm B) (encoded : List ℕ) (r : BytesRepresentation) (h : IsReadable f form.chain form.sizes form.type form.fill encoded r) (order : Option Endianness) (new : Held) (n : ℕ) (e : CodecError) → order_in_place form.chain.bytes_to_bytes form.chain.array_to_bytes ≡ Some order → data_fit form.type n new ≡ Ok tt
    → ◌≡◌ {A = Result (List ℕ) CodecError} (Err e) (seen (λ (raw : Raw). raw.items) (fixed_part new)) → ⊥
no_fixed f form encoded r h order new n e alone fit refused =
    fixed_there (fixed_part new) e
    (fits_kind order encoded form.type form.fill n new (in_place_taken f form.chain.bytes_to_bytes form.chain.array_to_bytes order encoded form.type form.fill alone (is_ok_of (codec_representation f form.chain.array_to_bytes encoded form.type form.fill) r h.measured)) fit)
    refused
