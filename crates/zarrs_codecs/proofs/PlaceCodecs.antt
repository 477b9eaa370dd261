-- The reads in part of each codec keep what is asked of them.
use Rattle.std.proofs.Common.{◌≡◌, ℕ, ◌+◌, ◌-◌, ◌<◌, ◌*◌, ◌&&◌, nat_lt, Bool, true, Option, Some, None, get_or, List, [], ◌∷◌, ◌++◌, length, map, slice_index, Result, Ok, Err, refl, ap, sym, subst, ◌∙◌}
use Rattle.std.specs.Result.{result_unwrap_or}
use Rattle.std.specs.Prelude.{is_ok, IsOk}
use Rattle.std.specs.List.{All, list_all, flat_map, range_with_len}
use Rattle.std.proofs.lemmas.List.Folds.{list_all-append}
use Rattle.zarrs_array_bytes.specs.Elements.{cut, select}
use Rattle.zarrs_bytes.proofs.CodecLaws.{read_selects}
use Rattle.zarrs_bytes.proofs.Coding.{bind_ok, ok}
use Rattle.zarrs_bytes.proofs.Exact.{decoded_found}
use Rattle.zarrs_bytes.specs.BytesCodec.{bytes_element}
use Rattle.zarrs_bytes.specs.PartialRead.{place_bytes, place_size, has_place, read_places}
use Rattle.zarrs_chain_meaning.proofs.ArraySteps.{ok_is}
use Rattle.zarrs_chain_meaning.proofs.ChainSteps.{seen_ok, is_ok_of}
use Rattle.zarrs_chain_meaning.proofs.PlainForms.{plain_is_plain}
use Rattle.zarrs_chain_meaning.specs.CodecMeaning.{PlainCodec, bytes_meaning, packbits_meaning, meaning, codec_chunk}
use Rattle.zarrs_chain_meaning.specs.Meaning.{Decoder, Meaning}
use Rattle.zarrs_chain_meaning.specs.vlen.PlainForm.{PlainForm}
use Rattle.zarrs_chain_meaning.specs.vlen.PlainVlen.{plain_form_of}
use Rattle.zarrs_chain_meaning.specs.vlen.Vlen.{vlen_value_parts}
use Rattle.zarrs_chunk.specs.Answer.{◌>>=◌, demand, seen}
use Rattle.zarrs_chunk.specs.ChunkShape.{product}
use Rattle.zarrs_chunk.specs.declared.codec_error.CodecError.{CodecError}
use Rattle.zarrs_chunk.specs.declared.codec_error.CodecError.TheVariants.{InvalidByteRange}
use Rattle.zarrs_codec.specs.BytesToBytesCodec.{BytesCodecs}
use Rattle.zarrs_codec.specs.StorageState.{value_indices}
use Rattle.zarrs_codec.specs.declared.bytes_representation.BytesRepresentation.{BytesRepresentation}
use Rattle.zarrs_codec.specs.declared.bytes_representation.BytesRepresentation.TheVariants.{FixedSize}
use Rattle.zarrs_codecs.proofs.ShardPlaces.{all_same}
use Rattle.zarrs_codecs.proofs.ShardReads.{no_refusal, same_element, then_each}
use Rattle.zarrs_codecs.proofs.SizedAlike.{Agree, bytes_sized, packed_sized}
use Rattle.zarrs_codecs.specs.CodecPart.{bytes_part, packbits_part, vlen_part, whole_part}
use Rattle.zarrs_codecs.specs.PartRead.{whole_read}
use Rattle.zarrs_codecs.specs.PlaceLaws.{SameMembers, ReadsEach, RestsEach, IsSame, ReadsBy, IsLawfulReader}
use Rattle.zarrs_data_type.specs.Element.{absent, Chunk, fill_element, plain}
use Rattle.zarrs_data_type.specs.ElementType.{ElementType}
use Rattle.zarrs_data_type.specs.Form.{form_of}
use Rattle.zarrs_data_type.specs.declared.endianness.Endianness.{Endianness}
use Rattle.zarrs_packbits.proofs.CodecLaws as packbits_laws
use Rattle.zarrs_packbits.proofs.Exact as packbits
use Rattle.zarrs_packbits.specs.BitStream.{packed_element}
use Rattle.zarrs_packbits.specs.PackBitsSettings.{PackBitsSettings, packed_layout, packbits_length}
use Rattle.zarrs_packbits.specs.PaddingByte.{value_len}
use Rattle.zarrs_packbits.specs.PartialRead.{all_below, packed_place_bytes, packed_places_bytes, read_packed_places, read_places_of}
use Rattle.zarrs_plain_vlen.proofs.Alike.{reads_alike}
use Rattle.zarrs_plain_vlen.proofs.Selected.{decoded_selects}
use Rattle.zarrs_plain_vlen.specs.PlainRead.{plain_read}
use Rattle.zarrs_chain_meaning.specs.vlen.VlenLayout.{VlenLayout, layout_of, span_bytes, span_numbers}
use Rattle.zarrs_plain_vlen.specs.VlenRead.{element_is_there, element_numbers, elements_at, elements_read, head_numbers, offsets_read, rests_on, stored_rests_on}

-- ---- numbers place by place

all_flat : {A : Type 0} (test : A → Bool) (g : ℕ → List A) (ps : List ℕ) → list_all test (flat_map g ps) ≡ list_all (λ p. list_all test (g p)) ps
all_flat test g [] = refl
all_flat test g (p ∷ ps) = list_all-append test (g p) (flat_map g ps) ∙ ap (λ (b : Bool). list_all test (g p) && b) (all_flat test g ps)

flat_same : (test : ℕ → Bool) (g : ℕ → List ℕ) (ps qs : List ℕ) → SameMembers ps qs → list_all test (flat_map g ps) ≡ list_all test (flat_map g qs)
flat_same test g ps qs same = all_flat test g ps ∙ same (λ p. list_all test (g p)) ∙ sym (all_flat test g qs)

flat_rests : (g : ℕ → List ℕ) → RestsEach (λ places. Ok (flat_map g places))
flat_rests g ps qs same test = ap (λ (b : Bool). ok b) (flat_same test g ps qs same)

then_rests : {A : Type 0} (first : Result A CodecError) (rests : A → List ℕ → Result (List ℕ) CodecError) → ((x : A) → RestsEach (rests x)) → RestsEach (λ places. first >>= λ x. rests x places)
then_rests (Ok x) rests law = law x
then_rests (Err e) rests law = λ ps qs same test. refl

-- ---- bytes, packbits

bytes_each : (order : Option Endianness) (type : ElementType) (fill : List ℕ) (stored : Option (List ℕ)) → ReadsEach (read_places order type fill stored)
bytes_each order type fill None = same_element (fill_element type fill)
bytes_each order type fill (Some value) = record {
  element = bytes_element order type value;
  refusal = λ places. demand (list_all (has_place type value) places) InvalidByteRange;
  same = λ ps qs same. ap (λ (b : Bool). demand b InvalidByteRange) (same (has_place type value));
  is = λ places. refl;
}

packed_each : (l : _) (type : ElementType) (fill : List ℕ) (stored : Option (List ℕ)) → ReadsEach (read_packed_places l type fill stored)
packed_each l type fill None = same_element (fill_element type fill)
packed_each l type fill (Some value) = record {
  element = packed_element l value;
  refusal = λ places. demand (all_below (length value) (packed_places_bytes l places)) InvalidByteRange;
  same = λ ps qs same. ap (λ (b : Bool). demand b InvalidByteRange) (flat_same (λ number. nat_lt number (length value)) (packed_place_bytes l) ps qs same);
  is = λ places. refl;
}

packbits_each : (settings : PackBitsSettings) (sizes : List ℕ) (type : ElementType) (fill : List ℕ) (stored : Option (List ℕ)) → ReadsEach (read_places_of settings (form_of sizes type fill) stored)
packbits_each settings sizes type fill stored = then_each (packed_layout settings (form_of sizes type fill)) (λ l. read_packed_places l type fill stored) (λ l. packed_each l type fill stored)

pub bytes_places : {B : Type 0} (f : BytesCodecs B) (order : Option Endianness) → IsLawfulReader f (bytes_meaning order) ((bytes_part order).read f) ((bytes_part order).rests_on f)
bytes_places f order = record {
  fills = λ sizes type fill r places e. refl;
  selects = λ mapped sizes type fill value r chunk places positive t e below.
      let stands = decoded_found order sizes type fill value chunk e in
      read_selects order sizes type fill value chunk places stands (subst (λ n. All (λ place. place < n) places) (sym stands.elements.count_is) below);
  each = λ sizes. bytes_each order;
  rests_each = λ sizes type fill stored. flat_rests (λ place. range_with_len (place * place_size type) (place_size type));
  rests_found = λ sizes type fill r stored places e. refl;
  local = λ sizes type fill value other places numbers l e h. bytes_sized order type fill value other places l (subst (Agree value other) (sym (ok_is (place_bytes (place_size type) places) numbers e)) h);
}

packed_taken : (settings : PackBitsSettings) (sizes : List ℕ) (type : ElementType) (fill : List ℕ) (r : BytesRepresentation) → seen FixedSize (packbits_length settings (form_of sizes type fill)) ≡ Ok r → is_ok (packed_layout settings (form_of sizes type fill)) ≡ true
packed_taken settings sizes type fill r e =
    let a = seen_ok FixedSize (packbits_length settings (form_of sizes type fill)) r e in
    let b = seen_ok value_len (packed_layout settings (form_of sizes type fill)) a.0 a.1 in
    is_ok_of (packed_layout settings (form_of sizes type fill)) b.0 b.1

filled_if : {A : Type 0} (r : Result A CodecError) (chunk : Chunk) → is_ok r ≡ true → (r >>= λ _. ok chunk) ≡ Ok chunk
filled_if (Ok x) chunk h = refl
filled_if (Err e) chunk h = absurd cc

found_if : {A : Type 0} (r : Result A CodecError) (numbers : A → List ℕ) → is_ok r ≡ true → IsOk (r >>= λ l. ok (numbers l))
found_if (Ok x) numbers h = refl
found_if (Err e) numbers h = absurd cc

pub packbits_places : {B : Type 0} (f : BytesCodecs B) (settings : PackBitsSettings) → IsLawfulReader f (packbits_meaning settings) ((packbits_part settings).read f) ((packbits_part settings).rests_on f)
packbits_places f settings = record {
  fills = λ sizes type fill r places e. filled_if (packed_layout settings (form_of sizes type fill)) (map (λ _. fill_element type fill) places) (packed_taken settings sizes type fill r e);
  selects = λ mapped sizes type fill value r chunk places positive t e below.
      let stands = packbits.decoded_found settings sizes type fill value chunk e in
      packbits_laws.read_selects settings sizes type fill value chunk places stands (subst (λ n. All (λ place. place < n) places) (sym stands.elements.count_is) below);
  each = packbits_each settings;
  rests_each = λ sizes type fill stored. then_rests (packed_layout settings (form_of sizes type fill)) (λ l places. ok (packed_places_bytes l places)) (λ l. flat_rests (packed_place_bytes l));
  rests_found = λ sizes type fill r stored places e. found_if (packed_layout settings (form_of sizes type fill)) (λ l. packed_places_bytes l places) (packed_taken settings sizes type fill r e);
  local = λ sizes type fill value other places numbers l e h.
      let b = bind_ok (packed_layout settings (form_of sizes type fill)) (λ l. ok (packed_places_bytes l places)) numbers e in
      ap (λ r. r >>= λ l. read_packed_places l type fill (Some value) places) b.1
      ∙ packed_sized settings sizes type fill b.0 value other places l b.1 (subst (Agree value other) (sym (ok_is (packed_places_bytes b.0 places) numbers b.2)) h)
      ∙ sym (ap (λ r. r >>= λ l. read_packed_places l type fill (Some other) places) b.1);
}

-- ---- read whole

chosen_each : (chunk : Chunk) → ReadsEach (λ places. Ok (select chunk places))
chosen_each chunk = record { element = λ p. get_or chunk p absent; refusal = no_refusal; same = λ ps qs same. refl; is = λ places. refl }

whole_each : (decode : Decoder) (sizes : List ℕ) (type : ElementType) (fill : List ℕ) (stored : Option (List ℕ)) → ReadsEach (whole_read decode sizes type fill stored)
whole_each decode sizes type fill None = same_element (fill_element type fill)
whole_each decode sizes type fill (Some value) = then_each (decode sizes type fill value) (λ chunk places. ok (select chunk places)) chosen_each

selected_of : (r : Result Chunk CodecError) (chunk : Chunk) (places : List ℕ) → r ≡ Ok chunk → (r >>= λ c. ok (select c places)) ≡ Ok (select chunk places)
selected_of r chunk places e = rw e refl

whole_local : (decode : Decoder) → ReadsBy (whole_read decode) (λ sizes type fill stored places. ok (value_indices stored))
whole_local decode sizes type fill value other places numbers l e h =
    let all : All (IsSame value other) (range_with_len 0 (length value)) = subst (All (IsSame value other)) (sym (ok_is (range_with_len 0 (length value)) numbers e)) h in
    ap (λ (v : List ℕ). whole_read decode sizes type fill (Some v) places) (all_same value other l all)

pub whole_places : {B : Type 0} (f : BytesCodecs B) (m : Meaning B) → IsLawfulReader f m ((whole_part m).read f) ((whole_part m).rests_on f)
whole_places f m = record {
  fills = λ sizes type fill r places e. refl;
  selects = λ mapped sizes type fill value r chunk places positive t e below. selected_of (m.chunk f sizes type fill value) chunk places e;
  each = whole_each (m.chunk f);
  rests_each = λ sizes type fill stored ps qs same test. refl;
  rests_found = λ sizes type fill r stored places e. refl;
  local = whole_local (m.chunk f);
}

-- ---- vlen

elements_each : (offsets content : List ℕ) → ReadsEach (elements_read offsets content)
elements_each offsets content = record {
  element = λ place. plain (cut offsets content place);
  refusal = λ places. demand (list_all (element_is_there offsets (length content)) places) InvalidByteRange;
  same = λ ps qs same. ap (λ (b : Bool). demand b InvalidByteRange) (same (element_is_there offsets (length content)));
  is = λ places. refl;
}

plain_each : (form : PlainForm) (count : ℕ) (type : ElementType) (fill : List ℕ) (stored : Option (List ℕ)) → ReadsEach (plain_read form count type fill stored)
plain_each form count type fill None = same_element (fill_element type fill)
plain_each form count type fill (Some value) =
    then_each (vlen_value_parts form.at_end value) (λ parts places. offsets_read form count parts.0 >>= λ offsets. elements_read offsets parts.1 places)
    (λ parts. then_each (offsets_read form count parts.0) (λ offsets places. elements_read offsets parts.1 places) (λ offsets. elements_each offsets parts.1))

appended_same : (test : ℕ → Bool) (front one other : List ℕ) → list_all test one ≡ list_all test other → list_all test (front ++ one) ≡ list_all test (front ++ other)
appended_same test front one other e = list_all-append test front one ∙ ap (λ (b : Bool). list_all test front && b) e ∙ sym (list_all-append test front other)

module _ (test : ℕ → Bool) (ps qs : List ℕ) (same : SameMembers ps qs) where
  by_offsets : (start : ℕ) (o : Result (List ℕ) CodecError) → list_all test (result_unwrap_or (o >>= λ offsets. ok (element_numbers start offsets ps)) []) ≡ list_all test (result_unwrap_or (o >>= λ offsets. ok (element_numbers start offsets qs)) [])
  by_offsets start (Ok offsets) = flat_same test (λ place. range_with_len (start + slice_index offsets place) (slice_index offsets (place + 1) - slice_index offsets place)) ps qs same
  by_offsets start (Err e) = refl

  by_layout : (form : PlainForm) (count : ℕ) (value : List ℕ) (l : Result VlenLayout CodecError)
      → list_all test (result_unwrap_or (l >>= λ layout. offsets_read form count (span_bytes value layout.index) >>= λ offsets. ok (element_numbers layout.content.start offsets ps)) [])
      ≡ list_all test (result_unwrap_or (l >>= λ layout. offsets_read form count (span_bytes value layout.index) >>= λ offsets. ok (element_numbers layout.content.start offsets qs)) [])
  by_layout form count value (Ok layout) = by_offsets layout.content.start (offsets_read form count (span_bytes value layout.index))
  by_layout form count value (Err e) = refl

  by_value : (form : PlainForm) (count : ℕ) (value : List ℕ) → list_all test (rests_on form count value ps) ≡ list_all test (rests_on form count value qs)
  by_value form count value =
      let head = head_numbers form.at_end (length value) in
      let index = result_unwrap_or (seen (λ layout. span_numbers layout.index) (layout_of form.at_end value)) [] in
      let one = result_unwrap_or (elements_at form count value ps) [] in
      let other = result_unwrap_or (elements_at form count value qs) [] in
      appended_same test head (index ++ one) (index ++ other) (appended_same test index one other (by_layout form count value (layout_of form.at_end value)))

plain_rests : (form : PlainForm) (count : ℕ) (stored : Option (List ℕ)) → RestsEach (λ places. Ok (stored_rests_on form count stored places))
plain_rests form count None ps qs same test = refl
plain_rests form count (Some value) ps qs same test = ap (λ (b : Bool). ok b) (by_value test ps qs same form count value)

-- by its plain form, or as it is read whole
pub vlen_places : {B : Type 0} (f : BytesCodecs B) (codec : PlainCodec B) (form : Option PlainForm) → plain_form_of codec ≡ form → IsLawfulReader f (meaning codec) ((vlen_part form (meaning codec)).read f) ((vlen_part form (meaning codec)).rests_on f)
vlen_places f codec None p = whole_places f (meaning codec)
vlen_places {B} f codec (Some form) p = record {
  fills = λ sizes type fill r places e. refl;
  selects = λ mapped sizes type fill value r chunk places positive t e below.
      let plain = plain_is_plain B codec form p in
      decoded_selects f form plain.0 sizes type fill value chunk places (subst (λ (c : PlainCodec B). codec_chunk f c sizes type fill value ≡ Ok chunk) plain.1 e) below;
  each = λ sizes. plain_each form (product sizes);
  rests_each = λ sizes type fill stored. plain_rests form (product sizes) stored;
  rests_found = λ sizes type fill r stored places e. refl;
  local = λ sizes type fill value other places numbers l e h.
      reads_alike form (product sizes) value other places l (subst (All (IsSame value other)) (sym (ok_is (rests_on form (product sizes) value places) numbers e)) h);
}
