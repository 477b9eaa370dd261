-- Elements that are moved as they are stored, and whose bytes are turned round last, are those of the chunk that the value stands for.
use Rattle.zarrs_data_type.specs.Form.{form_of}
use Rattle.std.proofs.Common.{◌≡◌, ℕ, ◌*◌, ◌<◌, ◌==◌, ◌^◌, Bool, true, nat_lt, Option, Some, List, length, map, Result, Ok, IfOk, All, arith, refl, ap, sym, ◌∙◌, subst}
use Rattle.std.specs.List.{range_with_len}
use Rattle.std.proofs.lemmas.Bool.Decides.{nat_tests}
use Rattle.std.proofs.lemmas.Simd.{map-map}
use Rattle.zarrs_chunk.specs.Answer.{AnswersBy, memory, demand, seen, checked_u64}
use Rattle.zarrs_chunk.specs.ChunkShape.{product}
use Rattle.zarrs_chunk.specs.declared.codec_error.CodecError.{CodecError}
use Rattle.zarrs_chunk.specs.declared.codec_error.CodecError.TheVariants.{InvalidBytesLength, InvalidFillValue, EndiannessMissing, Overflow}
use Rattle.zarrs_data_type.specs.Element.{Element, plain, Chunk}
use Rattle.zarrs_data_type.specs.ElementType.{ElementType, fixed, text, bytes, optional, element_size}
use Rattle.zarrs_data_type.specs.FillValue.{fill_fits}
use Rattle.zarrs_data_type.specs.declared.endianness.Endianness.{Endianness}
use Rattle.zarrs_data_type.specs.declared.endianness.Endianness.TheVariants.{Little}
use Rattle.zarrs_array_bytes.specs.Elements.{element_at, elements}
use Rattle.zarrs_array_bytes.specs.Held.{Held, Raw, flen, owned_bytes}
use Rattle.zarrs_array_bytes.specs.Parts.{fixed_part}
use Rattle.zarrs_array_bytes.specs.Validity.{Holds, validity}
use Rattle.zarrs_codec.specs.CoordinateMap.{CoordinateMap, IsCoordinateMap, moved_chunk, inverse_map}
use Rattle.zarrs_codec.specs.MappedChunk.{decoded_chunk}
use Rattle.zarrs_array_to_array.specs.ArrayToArrayCodec.{ArrayMapping}
use Rattle.zarrs_array_to_array.proofs.CoordinateMaps.{length-moved, moved_each, undone_map}
use Rattle.zarrs_bytes.specs.ByteOrder.{bytes_in_order, bytes_of, has_order}
use Rattle.zarrs_bytes.specs.BytesCodec.{bytes_length, bytes_chunk, bytes_element, BytesTakes}
use Rattle.zarrs_bytes.proofs.Coding.{ok, bind_ok, demand_ok, taken, number_is}
use Rattle.zarrs_bytes.proofs.Exact.{decoded_found}
use Rattle.zarrs_bytes.proofs.PartWrites.{ok_length}
use Rattle.zarrs_chain_meaning.specs.ArrayStages.{arrays_map}
use Rattle.zarrs_chain_meaning.proofs.ArraySteps.{at_ok, ok_is, counted_so}
use Rattle.zarrs_chain_meaning.proofs.ChainSteps.{held_chunk}
use Rattle.zarrs_chain_meaning.proofs.VlenOffsets.{fixed_held}

-- an element with its components in the byte order
turned : Option Endianness → ℕ → ℕ → Element → Element
turned order width components element = plain (bytes_in_order order width components (bytes_of element))

-- the chunk of a value of the right length: its elements as they are stored, each turned
chunk_is : (order : Option Endianness) (sizes : List ℕ) (width components : ℕ) (sign : Bool) (fill value : List ℕ) (len : ℕ) → bytes_length order (form_of sizes (fixed width components sign) fill) ≡ Ok len → length value ≡ len
    → bytes_chunk order (form_of sizes (fixed width components sign) fill) value ≡ ok (map (turned order width components) (elements (fixed width components sign) (product sizes) (flen (owned_bytes value))))
unfolding turned
chunk_is order sizes width components sign fill value len e long =
    let passed : (length value == len) ≡ true = grind (arith, nat_tests) in
    let type = fixed width components sign in
    let same : map (bytes_element order type value) (range_with_len 0 (product sizes)) ≡ map (turned order width components) (elements type (product sizes) (flen (owned_bytes value)))
    = sym (map-map (turned order width components) (element_at type (flen (owned_bytes value))) (range_with_len 0 (product sizes))) in
    rw (e, passed) (ap ok same)

-- a value whose chunk is read has the length that was due
pub long_is : (order : Option Endianness) (sizes : List ℕ) (type : ElementType) (fill value : List ℕ) (len : ℕ) (chunk : Chunk) → bytes_length order (form_of sizes type fill) ≡ Ok len → bytes_chunk order (form_of sizes type fill) value ≡ Ok chunk → length value ≡ len
long_is order sizes type fill value len chunk e read =
    let a = bind_ok (bytes_length order (form_of sizes type fill)) _ chunk read in
    let b = bind_ok (demand (length value == a.0) (InvalidBytesLength (length value) a.0)) _ chunk a.2 in
    let passed = demand_ok (length value == a.0) (InvalidBytesLength (length value) a.0) b.0 b.1 in
    let same : a.0 ≡ len = number_is a.0 len (sym a.1 ∙ e) in
    grind (arith, nat_tests)

-- where an order takes such chunks, the lowest byte first takes them too, and their values are as long
pub any_order : (order : Option Endianness) (sizes : List ℕ) (type : ElementType) (fill : List ℕ) (len : ℕ) → bytes_length order (form_of sizes type fill) ≡ Ok len → bytes_length (Some Little) (form_of sizes type fill) ≡ Ok len
any_order order sizes (fixed width components sign) fill len e =
    let a = bind_ok (demand (fill_fits (fixed width components sign) fill) InvalidFillValue) _ len e in
    let b = bind_ok (checked_u64 (product sizes)) _ len a.2 in
    let c = bind_ok (checked_u64 (b.0 * element_size width components)) _ len b.2 in
    let d = bind_ok (demand (has_order order width) EndiannessMissing) _ len c.2 in
    rw (a.1, b.1, c.1) d.2
any_order order sizes text fill len e = absurd cc
any_order order sizes bytes fill len e = absurd cc
any_order order sizes (optional type) fill len e = absurd cc

-- the bytes of a container of so many elements
pub whole_is : (width components : ℕ) (sign : Bool) (n : ℕ) (raw : Raw) → validity (fixed width components sign) n (flen raw) ≡ Ok tt → length raw.items ≡ n * element_size width components
whole_is width components sign n raw valid =
    let a = bind_ok (demand (nat_lt (n * element_size width components) (2 ^ 64)) Overflow) _ tt valid in
    let passed = demand_ok (length raw.items == n * element_size width components) (InvalidBytesLength (length raw.items) (n * element_size width components)) tt a.2 in
    grind (arith, nat_tests)

module _ (order : Option Endianness) (arrays : List ArrayMapping) (sizes : List ℕ) (m : CoordinateMap)
    (positive : All (λ size. 0 < size) sizes) (maps : IsCoordinateMap sizes m) where
  -- the chunk of the moved bytes is the moved chunk
  turned_chunk : (width components : ℕ) (sign : Bool) (fill value : List ℕ) (raw : Raw) (len : ℕ) (chunk : Chunk)
      → bytes_length order (form_of sizes (fixed width components sign) fill) ≡ Ok len
      → bytes_chunk (Some Little) (form_of sizes (fixed width components sign) fill) value ≡ Ok chunk
      → Holds (fixed width components sign) (flen raw) (moved_chunk (inverse_map sizes m) chunk)
      → bytes_chunk order (form_of sizes (fixed width components sign) fill) raw.items ≡ seen (moved_chunk (inverse_map sizes m)) (bytes_chunk order (form_of sizes (fixed width components sign) fill) value)
  turned_chunk width components sign fill value raw len chunk e read holds =
      let type = fixed width components sign in
      let n = product sizes in
      let back = inverse_map sizes m in
      let stored = elements type n (flen (owned_bytes value)) in
      let long = long_is (Some Little) sizes type fill value len chunk (any_order order sizes type fill len e) read in
      let passed : (length value == len) ≡ true = grind (arith, nat_tests) in
      let chunk_stored : chunk ≡ stored = ok_is chunk stored (sym read ∙ rw (any_order order sizes type fill len e, passed) refl) in
      let many : length (moved_chunk back chunk) ≡ n = length-moved back chunk in
      let valid : validity type n (flen raw) ≡ Ok tt = subst (λ (k : ℕ). validity type k (flen raw) ≡ Ok tt) many holds.valid in
      let are : elements type n (flen raw) ≡ moved_chunk back chunk = subst (λ (k : ℕ). elements type k (flen raw) ≡ moved_chunk back chunk) many holds.elements_are in
      let counted : length chunk ≡ product m.encoded = (decoded_found (Some Little) sizes type fill value chunk read).elements.count_is ∙ sym maps.count in
      let t = taken order sizes width components sign fill len e in
      let found : length raw.items ≡ len = whole_is width components sign n raw valid ∙ sym t.len_is in
      chunk_is order sizes width components sign fill raw.items len e found
      ∙ ap (λ c. ok (map (turned order width components) c)) are
      ∙ ap ok (sym (moved_each m.encoded back (turned order width components) chunk (undone_map sizes m positive maps) counted))
      ∙ ap (λ c. ok (moved_chunk back (map (turned order width components) c))) chunk_stored
      ∙ sym (ap (seen (moved_chunk back)) (chunk_is order sizes width components sign fill value len e long))

  -- the array-to-array codecs make the moved chunk of a container of the chunk
  back_is : (type : ElementType) (stored : Held) (chunk : Chunk) → arrays_map type arrays sizes ≡ Ok m → checked_u64 (product sizes) ≡ Ok (product sizes) → validity type (product sizes) stored ≡ Ok tt → elements type (product sizes) stored ≡ chunk
      → decoded_chunk (Ok tt) (arrays_map type arrays sizes) type sizes stored ≡ Ok (moved_chunk (inverse_map sizes m) chunk)
  back_is type stored chunk mapped counted valid are = rw (mapped, counted, valid) (ap (λ x. ok (moved_chunk (inverse_map sizes m) x)) are)

  -- so they take what is stored
  pub stored_back : (type : ElementType) (fill value : List ℕ) (stored : Held) → BytesTakes order (form_of sizes type fill) → arrays_map type arrays sizes ≡ Ok m
      → AnswersBy memory (Holds type) (Ok stored) (bytes_chunk (Some Little) (form_of sizes type fill) value)
      → (chunk : Chunk) × (decoded_chunk (Ok tt) (arrays_map type arrays sizes) type sizes stored ≡ Ok chunk)
  stored_back (fixed width components sign) fill value stored takes mapped read =
      let type = fixed width components sign in
      let l = ok_length (bytes_length order (form_of sizes type fill)) takes in
      let c = held_chunk type stored (bytes_chunk (Some Little) (form_of sizes type fill) value) read in
      let long : length c.0 ≡ product sizes = (decoded_found (Some Little) sizes type fill value c.0 c.1).elements.count_is in
      let a = bind_ok (demand (fill_fits type fill) InvalidFillValue) _ l.0 l.1 in
      let b = bind_ok (checked_u64 (product sizes)) _ l.0 a.2 in
      let valid : validity type (product sizes) stored ≡ Ok tt = subst (λ (k : ℕ). validity type k stored ≡ Ok tt) long c.2.valid in
      let are : elements type (product sizes) stored ≡ c.0 = subst (λ (k : ℕ). elements type k stored ≡ c.0) long c.2.elements_are in
      (moved_chunk (inverse_map sizes m) c.0, back_is type stored c.0 mapped (counted_so (product sizes) b.0 b.1) valid are)
  stored_back text fill value stored takes mapped read = absurd cc
  stored_back bytes fill value stored takes mapped read = absurd cc
  stored_back (optional type) fill value stored takes mapped read = absurd cc

  -- what is answered for the moved bytes is what is due of the moved chunk
  pub turned_answers : (type : ElementType) (fill value : List ℕ) (stored moved : Held) (raw : Raw) (r : Result Held CodecError) → BytesTakes order (form_of sizes type fill) → arrays_map type arrays sizes ≡ Ok m
      → AnswersBy memory (Holds type) (Ok stored) (bytes_chunk (Some Little) (form_of sizes type fill) value)
      → IfOk (decoded_chunk (Ok tt) (arrays_map type arrays sizes) type sizes stored) (λ chunk. AnswersBy memory (Holds type) (Ok moved) (Ok chunk))
      → fixed_part moved ≡ Ok raw
      → (validity type (product sizes) (flen raw) ≡ Ok tt → AnswersBy memory (Holds type) r (bytes_chunk order (form_of sizes type fill) raw.items))
      → AnswersBy memory (Holds type) r (seen (moved_chunk (inverse_map sizes m)) (bytes_chunk order (form_of sizes type fill) value))
  turned_answers (fixed width components sign) fill value stored moved raw r takes mapped read found part last =
      let type = fixed width components sign in
      let l = ok_length (bytes_length order (form_of sizes type fill)) takes in
      let c = held_chunk type stored (bytes_chunk (Some Little) (form_of sizes type fill) value) read in
      let long : length c.0 ≡ product sizes = (decoded_found (Some Little) sizes type fill value c.0 c.1).elements.count_is in
      let a = bind_ok (demand (fill_fits type fill) InvalidFillValue) _ l.0 l.1 in
      let b = bind_ok (checked_u64 (product sizes)) _ l.0 a.2 in
      let counted = counted_so (product sizes) b.0 b.1 in
      let valid : validity type (product sizes) stored ≡ Ok tt = subst (λ (k : ℕ). validity type k stored ≡ Ok tt) long c.2.valid in
      let are : elements type (product sizes) stored ≡ c.0 = subst (λ (k : ℕ). elements type k stored ≡ c.0) long c.2.elements_are in
      let chunk = moved_chunk (inverse_map sizes m) c.0 in
      let back = back_is type stored c.0 mapped counted valid are in
      let holds : Holds type moved chunk = at_ok (decoded_chunk (Ok tt) (arrays_map type arrays sizes) type sizes stored) (λ (x : Chunk). AnswersBy memory (Holds type) (Ok moved) (Ok x)) chunk back found in
      let flat : Holds type (flen raw) chunk = subst (λ (h : Held). Holds type h chunk) (fixed_held moved raw part) holds in
      let whole : validity type (product sizes) (flen raw) ≡ Ok tt = subst (λ (k : ℕ). validity type k (flen raw) ≡ Ok tt) (length-moved (inverse_map sizes m) c.0) flat.valid in
      subst (λ (x : Result Chunk CodecError). AnswersBy memory (Holds type) r x) (turned_chunk width components sign fill value raw l.0 c.0 l.1 c.1 flat) (last whole)
  turned_answers text fill value stored moved raw r takes mapped read found part last = absurd cc
  turned_answers bytes fill value stored moved raw r takes mapped read found part last = absurd cc
  turned_answers (optional type) fill value stored moved raw r takes mapped read found part last = absurd cc
