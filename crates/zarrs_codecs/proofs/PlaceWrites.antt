-- What a write in place leaves through array-to-array codecs and `bytes`, and edits of chunks through any chain.
use Rattle.zarrs_data_type.specs.Form.{form_of}
use Rattle.std.proofs.Common.{◌≡◌, ℕ, ◌*◌, ◌<◌, ◌^◌, ◌||◌, nat_lt, Bool, true, false, Option, Some, None, List, [], ◌∷◌, length, map, replicate, Result, Ok, Err, arith, refl, ap, ap₂, sym, ◌∙◌, subst}
use Rattle.std.specs.List.{All}
use Rattle.std.specs.Prelude.{is_ok, IfOk, IsOkAnd, OnOk}
use Rattle.std.proofs.lemmas.Bool.Decides.{nat_tests}
use Rattle.std.proofs.lemmas.List.{length-map, length-replicate}
use Rattle.zarrs_chunk.specs.Answer.{◌>>=◌, seen, Answers, fault, memory, memory_or_fault}
use Rattle.zarrs_chunk.specs.ChunkShape.{product}
use Rattle.zarrs_chunk.specs.Selection.{Selection, places_of}
use Rattle.zarrs_chunk.specs.declared.codec_error.CodecError.{CodecError}
use Rattle.zarrs_chunk.proofs.PlaceLaws.{places_below}
use Rattle.zarrs_data_type.specs.Element.{Element, Chunk, fill_element}
use Rattle.zarrs_data_type.specs.ElementType.{ElementType, fixed, text, bytes, optional, element_size}
use Rattle.zarrs_data_type.specs.FillValue.{fill_fits}
use Rattle.zarrs_data_type.specs.declared.endianness.Endianness.{Endianness}
use Rattle.zarrs_array_bytes.specs.Elements.{elements}
use Rattle.zarrs_array_bytes.specs.Held.{Held}
use Rattle.zarrs_array_bytes.specs.Update.{update}
use Rattle.zarrs_array_bytes.specs.Validity.{data_fit, sizes_fit}
use Rattle.zarrs_codec.specs.BytesToBytesCodec.{BytesCodecs}
use Rattle.zarrs_codec.specs.ChunkEdits.{data_checked, data_places, edited_chunk, with_elements}
use Rattle.zarrs_codec.specs.CoordinateMap.{CoordinateMap, IsCoordinateMap, moved_chunk}
use Rattle.zarrs_codec.specs.declared.bytes_representation.BytesRepresentation.{BytesRepresentation}
use Rattle.zarrs_codec.specs.declared.bytes_representation.BytesRepresentation.TheVariants.{FixedSize}
use Rattle.zarrs_array_to_array.specs.ArrayToArrayCodec.{ArrayMapping}
use Rattle.zarrs_array_to_array.proofs.CoordinateMaps.{length-moved, moved_each, moved_update}
use Rattle.zarrs_bytes.specs.BytesCodec.{bytes_length, BytesStands, BytesWritten, IsChunk}
use Rattle.zarrs_bytes.specs.PartialWrite.{bytes_left, filled_chunk, StartsFrom}
use Rattle.zarrs_bytes.proofs.Coding as bytes_coding
use Rattle.zarrs_bytes.proofs.PartWrites.{write_updates, ok_length}
use Rattle.zarrs_chain_meaning.specs.ArrayStages.{arrays_map}
use Rattle.zarrs_chain_meaning.specs.BytesStages.{outer_bytes, outer_value}
use Rattle.zarrs_chain_meaning.proofs.NestedEncode.{memory_so}
use Rattle.zarrs_codecs.specs.ChunkRead.{encoded_places}
use Rattle.zarrs_chain_meaning.specs.ChunkForm.{ChunkForm}
use Rattle.zarrs_codecs.specs.CodecPart.{order_in_place, part_of}
use Rattle.zarrs_codecs.specs.ChunkWrite.{EditStarts, selection_left, stored_written, IsStoredFor, value_left, written_places}
use Rattle.zarrs_chain_meaning.specs.Laws.{IsChainOfMappings}
use Rattle.zarrs_chain_meaning.specs.CodecMeaning.{PlainCodec, bytes_meaning, meaning, chain_meaning, codec_representation, CodecStands, ChainStands, CodecWritten, ChainWritten}
use Rattle.zarrs_chain_meaning.specs.Meaning.{Meaning}
use Rattle.zarrs_bytes.proofs.Coding.{ok, bind_ok}
use Rattle.zarrs_chain_meaning.proofs.ArraySteps.{ok_is}
use Rattle.zarrs_chain_meaning.proofs.ChainSteps.{seen_ok, is_ok_of}
use Rattle.zarrs_codecs.proofs.ChunkWrites.{edited_is, filled_is}
use Rattle.zarrs_chain_meaning.proofs.CodecLaws.{chain_chunk_only, chain_value_only, chain_value_found, chain_once}
use Rattle.zarrs_codecs.proofs.LawfulPart.{IsBytes, part_laws}
use Rattle.zarrs_codecs.proofs.PartialCalls.{seen_is_ok}
use Rattle.zarrs_codecs.proofs.PartialReads.{IsReadable}
use Rattle.zarrs_codecs.proofs.ShardPlaces.{moved_below}

-- ---- `bytes` alone behind array-to-array codecs

pub bytes_alone : {B : Type 0} (outer : List B) (codec : PlainCodec B) (order : Option Endianness) → order_in_place outer codec ≡ Some order → (outer ≡ []) × IsBytes (meaning codec) (part_of codec) order
bytes_alone [] codec order e = (refl, (part_laws codec).in_place order e)
bytes_alone (first ∷ rest) codec order e = absurd cc

-- it takes such chunks
pub in_place_taken : {B : Type 0} (f : BytesCodecs B) (outer : List B) (codec : PlainCodec B) (order : Option Endianness) (sizes : List ℕ) (type : ElementType) (fill : List ℕ) → order_in_place outer codec ≡ Some order → is_ok (codec_representation f codec sizes type fill) ≡ true → is_ok (bytes_length order (form_of sizes type fill)) ≡ true
in_place_taken {B} f outer codec order sizes type fill alone e =
    seen_is_ok FixedSize (bytes_length order (form_of sizes type fill)) (subst (λ (m : Meaning B). is_ok (m.representation f sizes type fill) ≡ true) (bytes_alone outer codec order alone).1.means e)

bytes_countable : (order : Option Endianness) (sizes : List ℕ) (type : ElementType) (fill : List ℕ) → is_ok (bytes_length order (form_of sizes type fill)) ≡ true → sizes_fit type (product sizes) ≡ Ok tt
bytes_countable order sizes (fixed width components sign) fill t =
    let n = ok_length (bytes_length order (form_of sizes (fixed width components sign) fill)) t in
    let k = bytes_coding.taken order sizes width components sign fill n.0 n.1 in
    let small : product sizes * element_size width components < 2 ^ 64 = omega (arith, k.len_is, k.small) in
    let test : nat_lt (product sizes * element_size width components) (2 ^ 64) ≡ true = grind (arith, nat_tests, small) in
    rw test refl
bytes_countable order sizes text fill t = absurd cc
bytes_countable order sizes bytes fill t = absurd cc
bytes_countable order sizes (optional type) fill t = absurd cc

codec_written : {B : Type 0} (f : BytesCodecs B) (codec : PlainCodec B) (order : Option Endianness) (sizes : List ℕ) (type : ElementType) (fill value : List ℕ) (chunk : Chunk) → meaning codec ≡ bytes_meaning order → BytesWritten order (form_of sizes type fill) value chunk → CodecWritten f codec sizes type fill value chunk
codec_written {B} f codec order sizes type fill value chunk is w = subst (λ (m : Meaning B). m.Written f sizes type fill value chunk) (sym is) w

codec_stands : {B : Type 0} (f : BytesCodecs B) (codec : PlainCodec B) (order : Option Endianness) (sizes : List ℕ) (type : ElementType) (fill value : List ℕ) (chunk : Chunk) → meaning codec ≡ bytes_meaning order → CodecStands f codec sizes type fill value chunk → BytesStands order (form_of sizes type fill) value chunk
codec_stands {B} f codec order sizes type fill value chunk is s = subst (λ (m : Meaning B). m.Stands f sizes type fill value chunk) is s

-- ---- moving

filled_map : (element : Element) (chunk : Chunk) → replicate (length chunk) element ≡ map (λ _. element) chunk
filled_map element [] = refl
filled_map element (x ∷ chunk) = ap (λ (rest : Chunk). element ∷ rest) (filled_map element chunk)

moved_filled : (sizes : List ℕ) (m : CoordinateMap) (element : Element) → IsCoordinateMap sizes m → moved_chunk m (replicate (product sizes) element) ≡ replicate (product m.encoded) element
moved_filled sizes m element h =
    let all = replicate (product sizes) element in
    let long : length all ≡ product sizes = length-replicate (product sizes) element in
    ap (moved_chunk m) (ap (λ (n : ℕ). replicate n element) (sym long) ∙ filled_map element all)
    ∙ moved_each sizes m (λ _. element) all h long
    ∙ sym (filled_map element (moved_chunk m all))
    ∙ ap (λ (n : ℕ). replicate n element) (length-moved m all)

with_moved : (sizes : List ℕ) (m : CoordinateMap) (type : ElementType) (chunk : Chunk) (places : List ℕ) (new : Held) → IsCoordinateMap sizes m → length chunk ≡ product sizes → All (λ place. place < product sizes) places
    → with_elements type (moved_chunk m chunk) (map m.to places) new ≡ moved_chunk m (with_elements type chunk places new)
with_moved sizes m type chunk places new h long inside =
    ap (λ (n : ℕ). update (moved_chunk m chunk) (map m.to places) (elements type n new)) (length-map places m.to)
    ∙ sym (moved_update sizes m chunk places (elements type (length places) new) h long inside)

-- the places of a selection lie inside
places_inside : (r : Result (List ℕ) CodecError) (P : List ℕ → Type 0) (places : List ℕ) → r ≡ Ok places → IfOk r P → P places
places_inside (Ok here) P places e h = subst P (ok_is here places e) h
places_inside (Err x) P places e h = absurd cc

pub data_inside : (sizes : List ℕ) (type : ElementType) (selection : Selection) (new : Held) (places : List ℕ) → data_places sizes type selection new ≡ Ok places → All (λ place. place < product sizes) places × (data_fit type (length places) new ≡ Ok tt)
data_inside sizes type selection new places e =
    let a = bind_ok (places_of selection sizes) _ places e in
    let b = bind_ok (data_fit type (length a.0) new) _ places a.2 in
    let is : a.0 ≡ places = ok_is a.0 places b.2 in (
      subst (All (λ place. place < product sizes)) is (places_inside (places_of selection sizes) (All (λ place. place < product sizes)) a.0 a.1 (places_below selection sizes)),
      subst (λ (ps : List ℕ). data_fit type (length ps) new ≡ Ok tt) is b.1,
    )

-- a chunk with new elements at places that are answered
pub edited_at : (r : Result (List ℕ) CodecError) (g : List ℕ → Chunk) (P : Chunk → Type 0) (places : List ℕ) → r ≡ Ok places → P (g places) → IsOkAnd (r >>= λ places. ok (g places)) P
edited_at r g P places e h = rw e h

found_places : (r : Result (List ℕ) CodecError) (g : List ℕ → Chunk) (P : Chunk → Type 0) → IsOkAnd (r >>= λ places. ok (g places)) P → (places : List ℕ) × (r ≡ Ok places) × P (g places)
found_places (Ok places) g P h = (places, refl, h)
found_places (Err e) g P h = absurd h

-- ---- places that are checked

module _ (r : Result (List ℕ) CodecError) (fit : List ℕ → Result (Unit {0}) CodecError) (s : Result CoordinateMap CodecError) (places : List ℕ) (is : r ≡ Ok places) where
  abbrev fitted : Result (List ℕ) CodecError
  fitted = r >>= λ ps. fit ps >>= λ _. ok ps

  unfit_step : (e : CodecError) → fit places ≡ Err e → ((fitted >>= λ ps. s >>= λ (m : CoordinateMap). ok (map m.to ps)) ≡ Err e) × (seen (λ _. tt {0}) fitted ≡ Err e)
  unfit_step e unfit = (rw (is, unfit) refl, rw (is, unfit) refl)

-- new elements that don't fit their places
pub unfit_refused : (type : ElementType) (arrays : List ArrayMapping) (sizes : List ℕ) (selection : Selection) (new : Held) (there : List ℕ) (e : CodecError) → encoded_places type arrays sizes selection ≡ Ok there → data_fit type (length there) new ≡ Err e
    → (written_places type arrays sizes selection new ≡ Err e) × (data_checked sizes type selection new ≡ Err e)
unfit_refused type arrays sizes selection new there e h unfit =
    let a = bind_ok (places_of selection sizes) _ there h in
    let b = bind_ok (arrays_map type arrays sizes) _ there a.2 in
    let long : length there ≡ length a.0 = ap length (sym (ok_is _ there b.2)) ∙ length-map a.0 b.0.to in
    let here : data_fit type (length a.0) new ≡ Err e = subst (λ (n : ℕ). data_fit type n new ≡ Err e) long unfit in
    unfit_step (places_of selection sizes) (λ ps. data_fit type (length ps) new) (arrays_map type arrays sizes) a.0 a.1 e here

pub unfit_written : (type : ElementType) (arrays : List ArrayMapping) (sizes : List ℕ) (selection : Selection) (new : Held) (there : List ℕ) (e : CodecError) → encoded_places type arrays sizes selection ≡ Ok there → data_fit type (length there) new ≡ Err e → written_places type arrays sizes selection new ≡ Err e
unfit_written type arrays sizes selection new there e h unfit = (unfit_refused type arrays sizes selection new there e h unfit).0

pub unfit_checked : (type : ElementType) (arrays : List ArrayMapping) (sizes : List ℕ) (selection : Selection) (new : Held) (there : List ℕ) (e : CodecError) → encoded_places type arrays sizes selection ≡ Ok there → data_fit type (length there) new ≡ Err e → data_checked sizes type selection new ≡ Err e
unfit_checked type arrays sizes selection new there e h unfit = (unfit_refused type arrays sizes selection new there e h unfit).1

-- a selection or new elements that are rejected
pub left_unchecked : {B : Type 0} (f : BytesCodecs B) (form : ChunkForm B) (order : Option (Option Endianness)) (stored : Option (List ℕ)) (selection : Selection) (new : Held) (e : CodecError) → data_checked form.sizes form.type selection new ≡ Err e → seen (λ value. Some value) (selection_left f form order stored selection new) ≡ Err e
left_unchecked f form order stored selection new e h = go (data_places form.sizes form.type selection new) h
  where
    go : (r : Result (List ℕ) CodecError) → seen (λ _. tt {0}) r ≡ Err e → seen (λ value. Some value) (r >>= λ places. value_left f form order stored places new) ≡ Err e
    go (Ok places) h = absurd cc
    go (Err x) h = same x e h
      where
        same : (x e : CodecError) → ◌≡◌ {A = Result (Unit {0}) CodecError} (Err x) (Err e) → ◌≡◌ {A = Result (Option (List ℕ)) CodecError} (Err x) (Err e)
        same x e h = cc

-- an answer that is due is the one that equals it
pub answer_by : {T V : Type 0} (excuse : CodecError → Bool) (view : T → V) (result : Result T CodecError) (expected other : Result V CodecError) → other ≡ expected → Answers excuse view result expected → Answers excuse view result other
answer_by excuse view result expected other e h = subst (λ (x : Result _ CodecError). Answers excuse view result x) (sym e) h

pub memory_too : (e : CodecError) → memory_or_fault e ≡ false → memory e ≡ false
memory_too e h = first_false (memory e) (fault e) h
  where
    first_false : (a b : Bool) → (a || b) ≡ false → a ≡ false
    first_false true b h = absurd cc
    first_false false b h = refl

-- ---- a chain of array-to-array codecs and `bytes`

module _ {B : Type 0} (f : BytesCodecs B) (form : ChunkForm B) (encoded : List ℕ) (r : BytesRepresentation) (h : IsReadable f form.chain form.sizes form.type form.fill encoded r) (order : Option Endianness) (alone : order_in_place form.chain.bytes_to_bytes form.chain.array_to_bytes ≡ Some order) where
  at_bytes : is_ok (bytes_length order (form_of h.map_is.encoded form.type form.fill)) ≡ true
  at_bytes = subst (λ (s : List ℕ). is_ok (bytes_length order (form_of s form.type form.fill)) ≡ true) (sym h.encoded_is)
      (in_place_taken f form.chain.bytes_to_bytes form.chain.array_to_bytes order encoded form.type form.fill alone (is_ok_of (codec_representation f form.chain.array_to_bytes encoded form.type form.fill) r h.measured))

  -- what `bytes` writes of the moved chunk the chain writes of the chunk
  written_through : (value : List ℕ) (chunk : Chunk) → IsChunk form.type (product form.sizes) chunk → BytesWritten order (form_of h.map_is.encoded form.type form.fill) value (moved_chunk h.map_is chunk) → ChainWritten f form.chain form.sizes form.type form.fill value chunk
  written_through value chunk is w =
      let alone' = bytes_alone form.chain.bytes_to_bytes form.chain.array_to_bytes order alone in
      let around : outer_value f [] value ≡ Ok value = memory_so value w.small in
      record {
        map_is = h.map_is;
        size = r;
        below = value;
        mapped = h.mapped;
        measured = subst (λ (s : List ℕ). codec_representation f form.chain.array_to_bytes s form.type form.fill ≡ Ok r) (sym h.encoded_is) h.measured;
        countable = subst (λ (n : ℕ). sizes_fit form.type n ≡ Ok tt) h.is_map.count (bytes_countable order h.map_is.encoded form.type form.fill at_bytes);
        elements = is;
        written = codec_written f form.chain.array_to_bytes order h.map_is.encoded form.type form.fill value (moved_chunk h.map_is chunk) alone'.1.means w;
        around = subst (λ (bs : List B). outer_value f bs value ≡ Ok value) (sym alone'.0) around;
      }

  -- what is left where a write starts from the moved chunk
  left_through : (stored : Option (List ℕ)) (chunk : Chunk) (places : List ℕ) (new : Held) → IsChunk form.type (product form.sizes) chunk → StartsFrom order (form_of h.map_is.encoded form.type form.fill) stored (moved_chunk h.map_is chunk) → All (λ place. place < product form.sizes) places → data_fit form.type (length places) new ≡ Ok tt
      → ChainWritten f form.chain form.sizes form.type form.fill (bytes_left order (form_of h.map_is.encoded form.type form.fill) stored (map h.map_is.to places) new) (with_elements form.type chunk places new)
  left_through stored chunk places new is starts inside fit =
      let m = h.map_is in
      let there = map m.to places in
      let fit_there : data_fit form.type (length there) new ≡ Ok tt = ap (λ (n : ℕ). data_fit form.type n new) (length-map places m.to) ∙ fit in
      let w = write_updates order m.encoded form.type form.fill stored (moved_chunk m chunk) there new at_bytes starts (moved_below form.sizes m places h.is_map inside) fit_there in
      written_through (bytes_left order (form_of m.encoded form.type form.fill) stored there new) (with_elements form.type chunk places new) (edited_is form.sizes form.type chunk places new is fit)
      (subst (λ (c : Chunk). BytesWritten order (form_of m.encoded form.type form.fill) (bytes_left order (form_of m.encoded form.type form.fill) stored there new) c) (with_moved form.sizes m form.type chunk places new h.is_map is.count_is inside) w)

  -- what a write in place leaves at these places
  places_left : (stored : Option (List ℕ)) (places : List ℕ) (new : Held) → fill_fits form.type form.fill ≡ true → All (λ place. place < product form.sizes) places → data_fit form.type (length places) new ≡ Ok tt
      → value_left f form (Some order) stored places new ≡ Ok (bytes_left order (form_of h.map_is.encoded form.type form.fill) stored (map h.map_is.to places) new)
  places_left (Some value) places new fits inside fit =
      rw (h.mapped, length-map places h.map_is.to) refl
  places_left None places new fits inside fit =
      let chunk = filled_chunk form.sizes form.type form.fill in
      chain_value_only f form.chain form.sizes form.type form.fill (bytes_left order (form_of h.map_is.encoded form.type form.fill) None (map h.map_is.to places) new) (with_elements form.type chunk places new)
      (left_through None chunk places new (filled_is form.sizes form.type form.fill fits) (moved_filled form.sizes h.map_is (fill_element form.type form.fill) h.is_map) inside fit)

  -- and at a selection
  pub selection_in_place : (stored : Option (List ℕ)) (selection : Selection) (new : Held) (there : List ℕ) → fill_fits form.type form.fill ≡ true → written_places form.type form.chain.array_to_array form.sizes selection new ≡ Ok there
      → selection_left f form (Some order) stored selection new ≡ Ok (bytes_left order (form_of encoded form.type form.fill) stored there new)
  selection_in_place stored selection new there fits e =
      let a = bind_ok (data_places form.sizes form.type selection new) _ there e in
      let b = bind_ok (arrays_map form.type form.chain.array_to_array form.sizes) _ there a.2 in
      let same : b.0 ≡ h.map_is = ok_is b.0 h.map_is (sym b.1 ∙ h.mapped) in
      let is : map h.map_is.to a.0 ≡ there = ap (λ (m : CoordinateMap). map m.to a.0) (sym same) ∙ ok_is (map b.0.to a.0) there b.2 in
      let inside = data_inside form.sizes form.type selection new a.0 a.1 in
      ap (λ (x : Result (List ℕ) CodecError). x >>= λ places. value_left f form (Some order) stored places new) a.1
      ∙ places_left stored a.0 new fits inside.0 inside.1
      ∙ ap₂ (λ (s ps : List ℕ). ok (bytes_left order (form_of s form.type form.fill) stored ps new)) h.encoded_is is

-- ---- edits of chunks through any chain

outer_none : {B : Type 0} (f : BytesCodecs B) (outer : List B) (r : BytesRepresentation) (value below : List ℕ) → outer ≡ [] → outer_bytes f outer r value ≡ Ok below → below ≡ value
outer_none {B} f outer r value below is e = sym (ok_is value below (sym (ap (λ (bs : List B). outer_bytes f bs r value) is) ∙ e))

module _ {B : Type 0} (f : BytesCodecs B) (form : ChunkForm B) (encoded : List ℕ) (r : BytesRepresentation) (h : IsReadable f form.chain form.sizes form.type form.fill encoded r) (chain_is : IsChainOfMappings form.chain) (positive : All (λ size. 0 < size) form.sizes) (fits : fill_fits form.type form.fill ≡ true) where
  starts_is : (stored : Option (List ℕ)) (chunk : Chunk) → EditStarts f form stored chunk → IsChunk form.type (product form.sizes) chunk
  starts_is None chunk starts = subst (IsChunk form.type (product form.sizes)) (sym starts) (filled_is form.sizes form.type form.fill fits)
  starts_is (Some value) chunk starts = starts.elements

  -- a write in place starts from the moved chunk
  starts_moved : (order : Option Endianness) → order_in_place form.chain.bytes_to_bytes form.chain.array_to_bytes ≡ Some order → (value : List ℕ) (chunk : Chunk) → ChainStands f form.chain form.sizes form.type form.fill value chunk
      → StartsFrom order (form_of h.map_is.encoded form.type form.fill) (Some value) (moved_chunk h.map_is chunk)
  starts_moved order alone value chunk s =
      let a = bytes_alone form.chain.bytes_to_bytes form.chain.array_to_bytes order alone in
      let same : s.map_is ≡ h.map_is = ok_is s.map_is h.map_is (sym s.mapped ∙ h.mapped) in
      let below : s.below ≡ value = outer_none f form.chain.bytes_to_bytes s.size value s.below a.0 s.opened in
      let b = codec_stands f form.chain.array_to_bytes order s.map_is.encoded form.type form.fill s.below (moved_chunk s.map_is chunk) a.1.means s.stands in
      subst (λ (m : CoordinateMap). BytesStands order (form_of m.encoded form.type form.fill) value (moved_chunk m chunk)) same
      (subst (λ (v : List ℕ). BytesStands order (form_of s.map_is.encoded form.type form.fill) v (moved_chunk s.map_is chunk)) below b)

  -- what is left, if anything is, is what is written for the chunk with the new elements; and what is written for it is left
  pub left_by : (by : Option (Option Endianness)) → order_in_place form.chain.bytes_to_bytes form.chain.array_to_bytes ≡ by → (stored : Option (List ℕ)) (chunk : Chunk) (places : List ℕ) (new : Held) → EditStarts f form stored chunk → All (λ place. place < product form.sizes) places → data_fit form.type (length places) new ≡ Ok tt
      → ((value : List ℕ) → value_left f form by stored places new ≡ Ok value → ChainWritten f form.chain form.sizes form.type form.fill value (with_elements form.type chunk places new))
      × ((value : List ℕ) → ChainWritten f form.chain form.sizes form.type form.fill value (with_elements form.type chunk places new) → value_left f form by stored places new ≡ Ok value)
  left_by by alone None chunk places new starts inside fit =
      let filled = filled_chunk form.sizes form.type form.fill in
      let is = edited_is form.sizes form.type chunk places new (starts_is None chunk starts) fit in (
        (λ value e. chain_value_found f form.chain chain_is form.sizes form.type form.fill value (with_elements form.type chunk places new) positive is (ap (λ (c : Chunk). edited c places new) starts ∙ e)),
        (λ value w. ap (λ (c : Chunk). edited c places new) (sym starts) ∙ chain_value_only f form.chain form.sizes form.type form.fill value (with_elements form.type chunk places new) w),
      )
    where
      edited : Chunk → List ℕ → Held → Result (List ℕ) CodecError
      edited c places new = (chain_meaning form.chain).value f form.sizes form.type form.fill (with_elements form.type c places new)
  left_by None alone (Some stored) chunk places new starts inside fit =
      let is = edited_is form.sizes form.type chunk places new (starts_is (Some stored) chunk starts) fit in
      let read = chain_chunk_only f form.chain chain_is form.sizes form.type form.fill stored chunk positive starts in
      let same : value_left f form None (Some stored) places new ≡ (chain_meaning form.chain).value f form.sizes form.type form.fill (with_elements form.type chunk places new) = rw read refl in (
        (λ value e. chain_value_found f form.chain chain_is form.sizes form.type form.fill value (with_elements form.type chunk places new) positive is (sym same ∙ e)),
        (λ value w. same ∙ chain_value_only f form.chain form.sizes form.type form.fill value (with_elements form.type chunk places new) w),
      )
  left_by (Some order) alone (Some stored) chunk places new starts inside fit =
      let moved = starts_moved order alone stored chunk starts in
      let here = places_left f form encoded r h order alone (Some stored) places new fits inside fit in
      let w = left_through f form encoded r h order alone (Some stored) chunk places new (starts_is (Some stored) chunk starts) moved inside fit in (
        (λ value e. subst (λ (v : List ℕ). ChainWritten f form.chain form.sizes form.type form.fill v (with_elements form.type chunk places new)) (ok_is _ value (sym here ∙ e)) w),
        (λ value other. here ∙ ap ok (chain_once f form.chain form.sizes form.type form.fill _ value (with_elements form.type chunk places new) w other)),
      )

  -- an accepted edit leaves what is written for the chunk with the new elements
  pub edit_found : {T : Type 0} (result : Result T CodecError) (stored after : Option (List ℕ)) (selection : Selection) (new : Held) → Answers memory_or_fault (λ _. after) result (seen (λ value. Some value) (stored_written f form stored selection new))
      → OnOk result ((chunk : Chunk) → EditStarts f form stored chunk → IsOkAnd (edited_chunk form.sizes form.type chunk selection new) (λ edited. IsStoredFor f form after (Some edited)))
  edit_found (Ok x) stored after selection new answer = λ chunk starts.
      let v = seen_ok (λ value. Some value) (stored_written f form stored selection new) after answer in
      let a = bind_ok (data_places form.sizes form.type selection new) _ v.0 v.1 in
      let inside = data_inside form.sizes form.type selection new a.0 a.1 in
      let w = (left_by (order_in_place form.chain.bytes_to_bytes form.chain.array_to_bytes) refl stored chunk a.0 new starts inside.0 inside.1).0 v.0 a.2 in
      edited_at (data_places form.sizes form.type selection new) (λ places. with_elements form.type chunk places new) (λ edited. IsStoredFor f form after (Some edited)) a.0 a.1 (subst (λ (x : Option (List ℕ)). IsStoredFor f form x (Some (with_elements form.type chunk a.0 new))) v.2 w)
  edit_found (Err e) stored after selection new answer = tt

  -- an edit of which a value is written is accepted, and leaves it
  pub edit_only : {T : Type 0} (result : Result T CodecError) (stored after : Option (List ℕ)) (selection : Selection) (new : Held) → Answers memory_or_fault (λ _. after) result (seen (λ value. Some value) (stored_written f form stored selection new))
      → (chunk : Chunk) (value : List ℕ) → EditStarts f form stored chunk → IsOkAnd (edited_chunk form.sizes form.type chunk selection new) (ChainWritten f form.chain form.sizes form.type form.fill value)
      → Answers memory_or_fault (λ _. after) result (Ok (Some value))
  edit_only result stored after selection new answer chunk value starts written =
      let a = found_places (data_places form.sizes form.type selection new) (λ places. with_elements form.type chunk places new) (ChainWritten f form.chain form.sizes form.type form.fill value) written in
      let inside = data_inside form.sizes form.type selection new a.0 a.1 in
      let left = (left_by (order_in_place form.chain.bytes_to_bytes form.chain.array_to_bytes) refl stored chunk a.0 new starts inside.0 inside.1).1 value a.2 in
      let is : stored_written f form stored selection new ≡ Ok value = ap (λ (x : Result (List ℕ) CodecError). x >>= λ places. value_left f form (order_in_place form.chain.bytes_to_bytes form.chain.array_to_bytes) stored places new) a.1 ∙ left in
      subst (λ (x : Result (List ℕ) CodecError). Answers memory_or_fault (λ _. after) result (seen (λ value. Some value) x)) is answer
