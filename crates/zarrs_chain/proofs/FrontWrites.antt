-- Values and elements that are written where they are wanted.
use Rattle.std.proofs.Common.{◌≡◌, ◌==◌, ℕ, ◌+◌, ◌*◌, ◌/◌, ◌^◌, ◌<◌, ◌≤◌, nat_le, Bool, true, false, Option, Some, None, List, [], ◌++◌, length, map, take, drop, Result, Ok, Err, IfOk, IsOkAnd, if◌then◌else◌, arith, refl, ap, subst, sym, ◌∙◌}
use Rattle.std.specs.List.{All, range_with_len}
use Rattle.std.proofs.Math.Nat.{mul-div_cancel}
use Rattle.std.proofs.lemmas.Bool.{le-leb}
use Rattle.std.proofs.lemmas.Bool.Decides.{nat_tests}
use Rattle.zarrs_chunk.specs.Answer.{◌>>=◌, AnswersBy, GivesBy, checked_u64, demand, is_fault, memory, seen}
use Rattle.zarrs_chunk.specs.ChunkShape.{product}
use Rattle.zarrs_chunk.specs.declared.codec_error.CodecError.{CodecError}
use Rattle.zarrs_chunk.specs.declared.codec_error.CodecError.TheVariants.{InvalidBytesLength}
use Rattle.zarrs_data_type.specs.Element.{Chunk}
use Rattle.zarrs_data_type.specs.ElementType.{ElementType, fixed, text, bytes, optional, component_bytes, element_size, fixed_size_of}
use Rattle.zarrs_data_type.specs.Form.{form_of}
use Rattle.zarrs_data_type.specs.declared.endianness.Endianness.{Endianness}
use Rattle.zarrs_data_type.specs.declared.endianness.Endianness.TheVariants.{Little, Big}
use Rattle.zarrs_array_bytes.specs.Elements.{elements}
use Rattle.zarrs_array_bytes.specs.Held.{Held, Raw, flen, masked, owned_bytes, vlen}
use Rattle.zarrs_array_bytes.specs.Parts.{fixed_items}
use Rattle.zarrs_array_bytes.specs.Pieces.{fixed_of}
use Rattle.zarrs_array_bytes.specs.Turned.{WholeComponents, turned_bytes}
use Rattle.zarrs_array_bytes.specs.Validity.{Holds, validity}
use Rattle.zarrs_codec.specs.BytesToBytesCodec.{BytesCodecs}
use Rattle.zarrs_codec.specs.CoordinateMap.{CoordinateMap, IsCoordinateMap, inverse_map, moved_chunk}
use Rattle.zarrs_codec.specs.MappedChunk.{decoded_chunk, encoded_chunk}
use Rattle.zarrs_codec.specs.declared.bytes_representation.BytesRepresentation.{BytesRepresentation}
use Rattle.zarrs_codec.specs.declared.bytes_representation.BytesRepresentation.TheVariants.{FixedSize}
use Rattle.zarrs_array_to_array.proofs.CoordinateMaps.{length-moved}
use Rattle.zarrs_bytes.specs.BytesCodec.{BytesTakes, bytes_chunk, bytes_element, bytes_length, turn_size}
use Rattle.zarrs_bytes.proofs.Coding.{decoded_holds, encoded_is, ok, taken}
use Rattle.zarrs_bytes.proofs.PartWrites.{ok_length}
use Rattle.zarrs_packbits.specs.PackBitsSettings.{PackBitsSettings}
use Rattle.zarrs_chain_meaning.specs.ArrayStages.{IsMapWhere, arrays_map}
use Rattle.zarrs_chain_meaning.specs.BytesStages.{outer_bytes, outer_value}
use Rattle.zarrs_chain_meaning.specs.Chain.{codec_held_value, held_value, taken_form}
use Rattle.zarrs_chain_meaning.specs.CodecMeaning.{PlainChain, bytes_codec, chain_chunk, codec_representation, meaning, packbits_codec}
use Rattle.zarrs_chain_meaning.proofs.ArraySteps.{at_ok, if_ok, next_answer, ok_no_err}
use Rattle.zarrs_chain_meaning.proofs.NestedEncode.{memory_so}
use Rattle.zarrs_chain_meaning.proofs.ChainSteps.{form_representation, is_taken, moved_held, seen_ok, value_through}
use Rattle.zarrs_chain.specs.ChainView.{plain_codec}
use Rattle.zarrs_chain.specs.FrontWrites.{in_front}
use Rattle.zarrs_chain.specs.declared.array_to_bytes_codec.ArrayToBytesCodec.{ArrayToBytesCodec}
use Rattle.zarrs_chain.specs.declared.array_to_bytes_codec.ArrayToBytesCodec.TheVariants.{Bytes, PackBits}
use Rattle.zarrs_chain.proofs.BytesBehind.{bytes_chain, chunk_behind, taken_behind}
use Rattle.zarrs_chain.proofs.CodecSteps.{bytes_held_value}
use Rattle.zarrs_chain.proofs.TurnedLast.{any_order, stored_back, turned_answers, whole_is}

-- the components that are turned round cut an element into whole ones
pub whole_components : (order : Option Endianness) (type : ElementType) (size : ℕ) → fixed_size_of type ≡ Some size → WholeComponents size (turn_size order type)
whole_components (Some Big) (fixed width components sign) size e = go (nat_le (component_bytes width) 1) refl
  where
    go : (small : Bool) → nat_le (component_bytes width) 1 ≡ small → WholeComponents size (if small then None else Some (component_bytes width))
    go true h = tt
    go false h =
        let some : 0 < component_bytes width = grind (arith, nat_tests) in
        let is : element_size width components ≡ size = cc in
        (some, subst (λ n. n / component_bytes width * component_bytes width ≡ n) is (ap (λ n. n * component_bytes width) (mul-div_cancel components some)))
whole_components (Some Big) text size e = tt
whole_components (Some Big) bytes size e = tt
whole_components (Some Big) (optional type) size e = tt
whole_components (Some Little) type size e = tt
whole_components None type size e = tt

-- items that are written over the front of a slice stand in front of it
pub front_there : (count : ℕ) (items old part : List ℕ) → count ≤ length old → count ≡ length items → part ≡ items → take 0 old ++ (part ++ drop count (drop 0 old)) ≡ in_front items old
front_there count items old part l e is =
    let room : nat_le (length items) (length old) ≡ true = le-leb (length items) (length old) (omega (arith, l, e)) in
    let last : count ≡ 0 + length items = omega (arith, e) in
    rw room (ap (λ xs. xs ++ drop count old) is ∙ ap (λ n. items ++ drop n old) last)

-- ---- a value

-- `bytes`, as the code returns it
pub plain_bytes : {B : Type 0} (codec : ArrayToBytesCodec B) (order : Option Endianness) → codec ≡ Bytes order → plain_codec codec ≡ bytes_codec order
unfolding plain_codec
plain_bytes codec order is = ap plain_codec is

-- `packbits`, as the code returns it
pub plain_packbits : {B : Type 0} (codec : ArrayToBytesCodec B) (settings : PackBitsSettings) → codec ≡ PackBits settings → plain_codec codec ≡ packbits_codec settings
unfolding plain_codec
plain_packbits codec settings is = ap plain_codec is

-- the value is the elements that the array-to-array codecs make, their components turned round
pub bytes_written : {B : Type 0} (f : BytesCodecs B) (chain : PlainChain B) (order : Option Endianness) (sizes : List ℕ) (type : ElementType) (fill : List ℕ) (form : List ℕ × BytesRepresentation) (held : Held) (raw : Raw)
    → chain.array_to_bytes ≡ bytes_codec order → chain.bytes_to_bytes ≡ []
    → IsMapWhere type chain.array_to_array sizes → taken_form f chain sizes type fill ≡ Ok form → checked_u64 (product sizes) ≡ Ok (product sizes) → validity type (product sizes) held ≡ Ok tt
    → IfOk (encoded_chunk (Ok tt) (arrays_map type chain.array_to_array sizes) type sizes held) (λ chunk. Holds type (flen raw) chunk)
    → length (turned_bytes (turn_size order type) raw.items) < 2 ^ 64
    → held_value f chain sizes type fill held ≡ Ok (turned_bytes (turn_size order type) raw.items)
unfolding meaning
bytes_written f chain order sizes type fill form held raw is none maps e counted valid found small =
    let t = is_taken f chain sizes type fill form e in
    let encoded : List ℕ = t.map_is.encoded in
    let value : List ℕ = turned_bytes (turn_size order type) raw.items in
    let measured : codec_representation f (bytes_codec order) encoded type fill ≡ Ok form.1 = subst (λ c. codec_representation f c encoded type fill ≡ Ok form.1) is t.measured in
    let l = seen_ok FixedSize (bytes_length order (form_of encoded type fill)) form.1 measured in
    let chunk = moved_chunk t.map_is (elements type (product sizes) held) in
    let holds : Holds type (flen raw) chunk = at_ok (encoded_chunk (Ok tt) (arrays_map type chain.array_to_array sizes) type sizes held) (λ (c : Chunk). Holds type (flen raw) c) chunk (moved_held f chain sizes type fill held form.0 form.1 t counted valid) found in
    let long : length chunk ≡ product encoded = length-moved t.map_is (elements type (product sizes) held) in
    let made : validity type (product encoded) (flen raw) ≡ Ok tt = subst (λ (k : ℕ). validity type k (flen raw) ≡ Ok tt) long holds.valid in
    let inner : codec_held_value f chain.array_to_bytes encoded type fill (flen raw) ≡ Ok value =
    ap (λ c. codec_held_value f c encoded type fill (flen raw)) is ∙ bytes_held_value f order encoded type fill (flen raw) ∙ encoded_is order encoded type fill (flen raw) raw l.0 l.1 made refl in
    value_through f chain sizes type fill form held (flen raw) maps e counted valid found
    ∙ ap (λ (s : List ℕ). codec_held_value f chain.array_to_bytes s type fill (flen raw) >>= (λ below. outer_value f chain.bytes_to_bytes below)) (sym t.encoded_is)
    ∙ next_answer (codec_held_value f chain.array_to_bytes encoded type fill (flen raw)) value (λ b. outer_value f chain.bytes_to_bytes b) inner
    ∙ ap (λ bs. outer_value f bs value) none
    ∙ memory_so value small

-- a container that isn't valid has no value
pub unfit_value : {B : Type 0} (f : BytesCodecs B) (chain : PlainChain B) (sizes : List ℕ) (type : ElementType) (fill : List ℕ) (form : List ℕ × BytesRepresentation) (held : Held) (error : CodecError)
    → taken_form f chain sizes type fill ≡ Ok form → validity type (product sizes) held ≡ Err error → held_value f chain sizes type fill held ≡ Err error
unfit_value f chain sizes type fill form held error e unfit = rw (form_representation f chain sizes type fill form e, unfit) refl

-- array-to-array codecs that take the elements fail for lack of memory alone
pub moves_or_memory : {B : Type 0} (f : BytesCodecs B) (chain : PlainChain B) (sizes : List ℕ) (type : ElementType) (fill : List ℕ) (form : List ℕ × BytesRepresentation) (held : Held) (error : CodecError)
    → taken_form f chain sizes type fill ≡ Ok form → checked_u64 (product sizes) ≡ Ok (product sizes) → validity type (product sizes) held ≡ Ok tt
    → IfOk (encoded_chunk (Ok tt) (arrays_map type chain.array_to_array sizes) type sizes held) (λ chunk. AnswersBy memory (Holds type) (Err error) (Ok chunk))
    → memory error ≡ false → held_value f chain sizes type fill held ≡ Err error
moves_or_memory f chain sizes type fill form held error e counted valid found quiet =
    let t = is_taken f chain sizes type fill form e in
    let chunk = moved_chunk t.map_is (elements type (product sizes) held) in
    absurd (ok_no_err chunk error (at_ok (encoded_chunk (Ok tt) (arrays_map type chain.array_to_array sizes) type sizes held) (λ (c : Chunk). AnswersBy memory (Holds type) (Err error) (Ok c)) chunk (moved_held f chain sizes type fill held form.0 form.1 t counted valid) found quiet))

-- ---- the elements of a value

-- elements of one size, their components turned round, are the chunk of what they were
turned_holds : (order : Option Endianness) (sizes : List ℕ) (type : ElementType) (fill : List ℕ) (raw : Raw) (len : ℕ) → bytes_length order (form_of sizes type fill) ≡ Ok len → validity type (product sizes) (flen raw) ≡ Ok tt
    → IsOkAnd (bytes_chunk order (form_of sizes type fill) raw.items) (Holds type (fixed_of (turned_bytes (turn_size order type) raw.items)))
turned_holds order sizes (fixed width components sign) fill raw len e valid =
    let t = taken order sizes width components sign fill len e in
    let long : length raw.items ≡ len = whole_is width components sign (product sizes) raw valid ∙ sym t.len_is in
    decoded_holds order sizes (fixed width components sign) fill raw.items (owned_bytes (turned_bytes (turn_size order (fixed width components sign)) raw.items)) len e long refl
turned_holds order sizes text fill raw len e valid = absurd cc
turned_holds order sizes bytes fill raw len e valid = absurd cc
turned_holds order sizes (optional type) fill raw len e valid = absurd cc

refused_alike : {A : Type 0} (test : Bool) (cause error : CodecError) (one other : A) → (demand test cause >>= (λ _. ok one)) ≡ Err error → (demand test cause >>= (λ _. ok other)) ≡ Err error
refused_alike true cause error one other e = absurd (ok_no_err one error e)
refused_alike false cause error one other e = e

-- where the order takes such chunks, a value that has an error by the lowest byte first has it by the order
same_refusal : (order : Option Endianness) (sizes : List ℕ) (type : ElementType) (fill value : List ℕ) (error : CodecError) → BytesTakes order (form_of sizes type fill) → bytes_chunk (Some Little) (form_of sizes type fill) value ≡ Err error → bytes_chunk order (form_of sizes type fill) value ≡ Err error
same_refusal order sizes type fill value error takes refused =
    let form = form_of sizes type fill in
    let l = ok_length (bytes_length order form) takes in
    let low = any_order order sizes type fill l.0 l.1 in
    let cause = InvalidBytesLength (length value) l.0 in
    let read : Option Endianness → Chunk = λ o. map (bytes_element o type value) (range_with_len 0 (product sizes)) in
    let steps : Option Endianness → ℕ → Result Chunk CodecError = λ o n. demand (length value == n) (InvalidBytesLength (length value) n) >>= (λ _. ok (read o)) in
    next_answer (bytes_length order form) l.0 (steps order) l.1
    ∙ refused_alike (length value == l.0) cause error (read (Some Little)) (read order) (sym (next_answer (bytes_length (Some Little) form) l.0 (steps (Some Little)) low) ∙ refused)

-- a chain whose array-to-bytes codec is `bytes`, and what stands below its bytes-to-bytes codecs
module _ {B : Type 0} (f : BytesCodecs B) (chain : PlainChain B) (order : Option Endianness) (sizes : List ℕ) (type : ElementType) (fill : List ℕ) (form : List ℕ × BytesRepresentation) (value below : List ℕ)
    (is : chain.array_to_bytes ≡ bytes_codec order) (maps : IsMapWhere type chain.array_to_array sizes) (e : taken_form f chain sizes type fill ≡ Ok form) (opened : outer_bytes f chain.bytes_to_bytes form.1 value ≡ Ok below) where
  whole : chain ≡ bytes_chain chain.array_to_array order chain.bytes_to_bytes
  whole = λ i. record { array_to_array = chain.array_to_array; array_to_bytes = is i; bytes_to_bytes = chain.bytes_to_bytes }

  formed : taken_form f (bytes_chain chain.array_to_array order chain.bytes_to_bytes) sizes type fill ≡ Ok form
  formed = subst (λ c. taken_form f c sizes type fill ≡ Ok form) whole e

  pub bytes_takes : BytesTakes order (form_of sizes type fill)
  bytes_takes = taken_behind f chain.array_to_array order chain.bytes_to_bytes sizes type fill form maps formed

  -- what its value answers is what the moved chunk does
  below_read : (r : Result Held CodecError) → ((m : CoordinateMap) → arrays_map type chain.array_to_array sizes ≡ Ok m → GivesBy (Holds type) r (seen (moved_chunk (inverse_map sizes m)) (bytes_chunk order (form_of sizes type fill) below)))
      → GivesBy (Holds type) r (chain_chunk f chain sizes type fill value)
  below_read r read =
      subst (λ c. GivesBy (Holds type) r (chain_chunk f c sizes type fill value)) (sym whole)
      (chunk_behind f chain.array_to_array order chain.bytes_to_bytes sizes type fill form value below r maps formed opened
      (if_ok (arrays_map type chain.array_to_array sizes) (λ (m : CoordinateMap). GivesBy (Holds type) r (seen (moved_chunk (inverse_map sizes m)) (bytes_chunk order (form_of sizes type fill) below))) read))

  -- where what stands below isn't as long as the elements, the value stands for no chunk
  pub unread : (error : CodecError) → is_fault {T = Held} (Err error) ≡ false → (memory error ≡ false → bytes_chunk (Some Little) (form_of sizes type fill) below ≡ Err error) → memory error ≡ false → chain_chunk f chain sizes type fill value ≡ Err error
  unread error quiet refused =
      (below_read (Err error)
      (λ m mapped. record { is = λ h. ap (seen (moved_chunk (inverse_map sizes m))) (same_refusal order sizes type fill below error bytes_takes (refused h)); no_fault = quiet })).is

  module _ (positive : All (λ size. 0 < size) sizes) (stored : Held) (read : AnswersBy memory (Holds type) (Ok stored) (bytes_chunk (Some Little) (form_of sizes type fill) below)) where
    -- the elements are what the array-to-array codecs make of the stored ones, their components turned round
    pub bytes_read : (raw : Raw) → IfOk (decoded_chunk (Ok tt) (arrays_map type chain.array_to_array sizes) type sizes stored) (λ chunk. Holds type (flen raw) chunk)
        → IsOkAnd (chain_chunk f chain sizes type fill value) (Holds type (fixed_of (turned_bytes (turn_size order type) raw.items)))
    bytes_read raw found =
        let l = ok_length (bytes_length order (form_of sizes type fill)) bytes_takes in
        let made : Held = fixed_of (turned_bytes (turn_size order type) raw.items) in
        (below_read (Ok made)
        (λ m mapped. record {
          is = turned_answers order chain.array_to_array sizes m positive (at_ok (arrays_map type chain.array_to_array sizes) (λ (m : CoordinateMap). IsCoordinateMap sizes m) m mapped maps) type fill below stored (flen raw) raw (Ok made) bytes_takes mapped read found refl (turned_holds order sizes type fill raw l.0 l.1);
          no_fault = refl;
        })).is

    -- they fail for lack of memory alone
    pub reads_or_memory : (error : CodecError) → IfOk (decoded_chunk (Ok tt) (arrays_map type chain.array_to_array sizes) type sizes stored) (λ chunk. AnswersBy memory (Holds type) (Err error) (Ok chunk))
        → memory error ≡ false → chain_chunk f chain sizes type fill value ≡ Err error
    reads_or_memory error found quiet =
        let t = is_taken f chain sizes type fill form e in
        let m = at_ok (arrays_map type chain.array_to_array sizes) (λ (m : CoordinateMap). IsCoordinateMap sizes m) t.map_is t.mapped maps in
        let back = stored_back order chain.array_to_array sizes t.map_is positive m type fill below stored bytes_takes t.mapped read in
        absurd (ok_no_err back.0 error (at_ok (decoded_chunk (Ok tt) (arrays_map type chain.array_to_array sizes) type sizes stored) (λ (c : Chunk). AnswersBy memory (Holds type) (Err error) (Ok c)) back.0 back.1 found quiet))

-- ---- a container that was made

-- who owns the bytes of elements of one size says nothing of what they hold
owned_holds : (type : ElementType) (size : ℕ) (raw : Raw) (chunk : Chunk) → fixed_size_of type ≡ Some size → Holds type (flen raw) chunk → Holds type (fixed_of raw.items) chunk
owned_holds (fixed width components sign) size raw chunk e h = record { valid = h.valid; elements_are = h.elements_are }
owned_holds text size raw chunk e h = absurd cc
owned_holds bytes size raw chunk e h = absurd cc
owned_holds (optional type) size raw chunk e h = absurd cc

-- its bytes hold what it holds
pub bytes_hold : (type : ElementType) (size : ℕ) (held : Held) (items : List ℕ) (r : Result Chunk CodecError) → fixed_size_of type ≡ Some size → Ok items ≡ fixed_items held → IsOkAnd r (Holds type held) → IsOkAnd r (Holds type (fixed_of items))
bytes_hold type size (flen raw) items (Ok chunk) e is h =
    let same : items ≡ raw.items = cc in
    rw same (owned_holds type size raw chunk e h)
bytes_hold type size (vlen raw offsets) items (Ok chunk) e is h = absurd cc
bytes_hold type size (masked inner mask) items (Ok chunk) e is h = absurd cc
bytes_hold type size held items (Err error) e is h = absurd h
