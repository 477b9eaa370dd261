-- `bytes` and `packbits` keep the laws of array-to-bytes codecs.
use Rattle.std.proofs.Common.{Option, Ok, refl, ap, sym, subst, ◌∙◌, List, length, ℕ, ◌<◌, ◌^◌, ◌≡◌, arith}
use Rattle.std.proofs.lemmas.List.{map-id}
use Rattle.zarrs_data_type.specs.declared.endianness.Endianness.{Endianness}
use Rattle.zarrs_data_type.specs.Form.{form_of}
use Rattle.zarrs_array_bytes.specs.Elements.{select}
use Rattle.zarrs_codec.specs.BytesToBytesCodec.{AreBytes}
use Rattle.zarrs_codec.specs.declared.bytes_representation.BytesRepresentation.TheVariants.{FixedSize}
use Rattle.zarrs_bytes.specs.BytesCodec.{IsChunk, BytesStands, BytesWritten, bytes_length, spelling}
use Rattle.zarrs_bytes.proofs.Coding.{bind_ok, taken}
use Rattle.zarrs_bytes.proofs.CodecLaws as bytes_law
use Rattle.zarrs_bytes.proofs.Exact.{decoded_only, decoded_found, stands_length}
use Rattle.zarrs_packbits.proofs.Exact as packed_exact
use Rattle.zarrs_packbits.specs.BitStream.{chunk_stream}
use Rattle.zarrs_packbits.specs.PackBitsSettings.{PackBitsSettings, packed_layout, packbits_length, first_of, last_bit_of, has_bits}
use Rattle.zarrs_packbits.specs.PaddingByte.{value_with, value_len}
use Rattle.zarrs_packbits.proofs.CodecLaws as packbits
use Rattle.zarrs_chain_meaning.specs.CodecMeaning.{bytes_meaning, packbits_meaning}
use Rattle.zarrs_chain_meaning.proofs.ArraySteps.{ok_is}
use Rattle.zarrs_chain_meaning.proofs.ChainSteps.{seen_ok, counted_bytes, counted_packed, is_ok_of}
use Rattle.zarrs_chain_meaning.proofs.PackedElements.{packed_bytes, element_is, element_again, selected_are}
use Rattle.zarrs_chain_meaning.proofs.NestedFlags.{flag_by}
use Rattle.zarrs_chain_meaning.proofs.NestedStages.{spelling_bytes}
use Rattle.zarrs_chain_meaning.proofs.NestedWritten as writing
use Rattle.zarrs_chain_meaning.proofs.NestedGrowth.{fixed_grows, bytes_grows, packed_grows, fixed_same}
use Rattle.zarrs_chain_meaning.proofs.NestedKept as keeping
use Rattle.zarrs_chain_meaning.proofs.NestedForNormal as normal
use Rattle.zarrs_chain_meaning.proofs.LawfulCodec.{IsLawfulCodec}
use Rattle.zarrs_codec.specs.declared.bytes_representation.BytesRepresentation.{BytesRepresentation}
use Rattle.zarrs_data_type.specs.Element.{Chunk}
use Rattle.zarrs_data_type.specs.ElementType.{ElementType, fixed}
use Rattle.zarrs_chunk.specs.ChunkShape.{product}
use Rattle.zarrs_chain_meaning.proofs.NestedRoom.{bytes_room, packed_fits, packed_room}
use Rattle.zarrs_chunk.specs.Answer.{seen}
use Rattle.zarrs_bytes.proofs.Taken.{taken_fill}

-- ---- bytes

length_small : (order : Option Endianness) (sizes : List ℕ) (type : ElementType) (fill : List ℕ) (len : ℕ) → bytes_length order (form_of sizes type fill) ≡ Ok len → len < 2 ^ 64
length_small order sizes (fixed width components sign) fill len e =
    let t = taken order sizes width components sign fill len e in
    omega (arith, t.len_is, t.small)
length_small order sizes _ fill len e = absurd cc

-- 64 bits count the bytes of a chunk that it takes
bytes_small : (order : Option Endianness) (sizes : List ℕ) (type : ElementType) (fill value : List ℕ) (chunk : Chunk) (len : ℕ) → bytes_length order (form_of sizes type fill) ≡ Ok len → IsChunk type (product sizes) chunk → value ≡ spelling order type chunk → length value < 2 ^ 64
bytes_small order sizes type fill value chunk len e is spelt =
    let long = stands_length order sizes type fill value chunk len (record { len = len; length_is = e; elements = is; value_is = spelt }) e in
    let small = length_small order sizes type fill len e in
    omega (arith, long, small)

pub bytes_laws : {B : Type 0} (order : Option Endianness) → IsLawfulCodec {B = B} (bytes_meaning order)
bytes_laws order = record {
  types = λ type element h. h;
  twice = λ type element h. refl;
  absents = λ type. refl;
  flags = record { zero_kept = refl; one_kept = refl };
  stands_once = λ f has sizes type fill value chunk other positive a b. bytes_law.stands_for_one order sizes type fill value chunk other a b;
  writes_once = λ f sizes type fill value other chunk a b. a.value_is ∙ sym b.value_is;
  grows = λ f lawful has sizes others type fill r s p q h a b.
      let one = seen_ok FixedSize (bytes_length order (form_of sizes type fill)) r a in
      let two = seen_ok FixedSize (bytes_length order (form_of others type fill)) s b in
      fixed_grows one.0 two.0 r s one.2 two.2 (bytes_grows order sizes others type fill one.0 two.0 h one.1 two.1);
  by_count = λ f has sizes others type fill r s p q h a b.
      let one = seen_ok FixedSize (bytes_length order (form_of sizes type fill)) r a in
      let two = seen_ok FixedSize (bytes_length order (form_of others type fill)) s b in
      fixed_same one.0 two.0 r s one.2 two.2 (bytes_grows order sizes others type fill one.0 two.0 (omega (arith, h)) one.1 two.1) (bytes_grows order others sizes type fill two.0 one.0 (omega (arith, h)) two.1 one.1);
  sized = λ f lawful has sizes type fill value chunk r positive long each w e. record {
    each = subst AreBytes (sym w.value_is) (spelling_bytes order type chunk each);
    keeps = keeping.fixed_kept (bytes_length order (form_of sizes type fill)) r value e (λ len l. bytes_law.has_represented_length order sizes type fill value chunk len w l);
  };
  stands = λ f lawful has sizes type fill value chunk r positive each h room e w. subst (BytesStands order (form_of sizes type fill) value) (sym (map-id chunk)) (bytes_law.written_stands order sizes type fill value chunk w);
  kept = λ f sizes type fill value chunk w. subst (BytesWritten order (form_of sizes type fill) value) (sym (map-id chunk)) w;
  kept_back = λ f sizes type fill value chunk places each w. subst (BytesWritten order (form_of sizes type fill) value) (map-id (select chunk places)) w;
  encodes = λ f sizes type fill value chunk w. ap Ok (sym w.value_is);
  founds = λ f has sizes type fill value chunk r positive is e h.
      let a = seen_ok FixedSize (bytes_length order (form_of sizes type fill)) r e in
      let spelt = sym (ok_is (spelling order type chunk) value h) in
      record { len = a.0; length_is = a.1; elements = is; value_is = spelt; small = bytes_small order sizes type fill value chunk a.0 a.1 is spelt };
  decodes = λ f has sizes type fill value chunk positive s. decoded_only order sizes type fill value chunk s;
  reads = λ f has sizes type fill value chunk r positive t e.
      let stands = decoded_found order sizes type fill value chunk e in
      (stands, stands.elements);
  counted = λ f sizes type fill r e.
      let a = seen_ok FixedSize (bytes_length order (form_of sizes type fill)) r e in
      counted_bytes order sizes type fill a.0 a.1;
  long = λ f sizes type fill value chunk e. (decoded_found order sizes type fill value chunk e).elements.count_is;
  room = λ f has sizes type fill r positive small e.
      let a = seen_ok FixedSize (bytes_length order (form_of sizes type fill)) r e in
      bytes_room order sizes type fill a.0 a.1;
  fits = λ f sizes type fill r e.
      let a = seen_ok FixedSize (bytes_length order (form_of sizes type fill)) r e in
      taken_fill order sizes type fill (is_ok_of (bytes_length order (form_of sizes type fill)) a.0 a.1);
}

-- ---- packbits

packed_measured : (settings : PackBitsSettings) (sizes : List ℕ) (type : ElementType) (fill : List ℕ) (r : BytesRepresentation) → seen FixedSize (packbits_length settings (form_of sizes type fill)) ≡ Ok r → (l : _) × (packed_layout settings (form_of sizes type fill) ≡ Ok l)
packed_measured settings sizes type fill r e =
    let a = seen_ok FixedSize (packbits_length settings (form_of sizes type fill)) r e in
    let l = seen_ok value_len (packed_layout settings (form_of sizes type fill)) a.0 a.1 in
    (l.0, l.1)

pub packbits_laws : {B : Type 0} (settings : PackBitsSettings) → IsLawfulCodec {B = B} (packbits_meaning settings)
packbits_laws settings = record {
  types = λ type element h. element_is settings type element h;
  twice = λ type element h. element_again settings type element h;
  absents = λ type. packbits.normal_absent settings type;
  flags = record {
    zero_kept = flag_by (has_bits settings 1) (first_of settings) (last_bit_of settings 1) 0 refl refl;
    one_kept = flag_by (has_bits settings 1) (first_of settings) (last_bit_of settings 1) 1 refl refl;
  };
  stands_once = λ f has sizes type fill value chunk other positive a b. packbits.stands_for_one settings sizes type fill value chunk other a b;
  writes_once = λ f sizes type fill value other chunk a b. writing.packed_once settings sizes type fill value other chunk a b;
  grows = λ f lawful has sizes others type fill r s p q h a b.
      let one = seen_ok FixedSize (packbits_length settings (form_of sizes type fill)) r a in
      let two = seen_ok FixedSize (packbits_length settings (form_of others type fill)) s b in
      fixed_grows one.0 two.0 r s one.2 two.2 (packed_grows settings sizes others type fill one.0 two.0 h one.1 two.1);
  by_count = λ f has sizes others type fill r s p q h a b.
      let one = seen_ok FixedSize (packbits_length settings (form_of sizes type fill)) r a in
      let two = seen_ok FixedSize (packbits_length settings (form_of others type fill)) s b in
      fixed_same one.0 two.0 r s one.2 two.2 (packed_grows settings sizes others type fill one.0 two.0 (omega (arith, h)) one.1 two.1) (packed_grows settings others sizes type fill two.0 one.0 (omega (arith, h)) two.1 one.1);
  sized = λ f lawful has sizes type fill value chunk r positive long each w e. record {
    each = packed_bytes settings sizes type fill value chunk w;
    keeps = keeping.fixed_kept (packbits_length settings (form_of sizes type fill)) r value e (λ len l. packbits.has_represented_length settings sizes type fill value chunk len w l);
  };
  stands = λ f lawful has sizes type fill value chunk r positive each h room e w. packbits.written_stands settings sizes type fill value chunk w;
  kept = λ f sizes type fill value chunk w. packbits.normal_written settings sizes type fill value chunk w;
  kept_back = λ f sizes type fill value chunk places each w. normal.kept_packed settings sizes type fill value (select chunk places) (selected_are settings type chunk places each w.elements.each) w;
  encodes = λ f sizes type fill value chunk w. rw (w.taken) (ap Ok (sym w.spelt));
  founds = λ f has sizes type fill value chunk r positive is e h.
      let a = bind_ok (packed_layout settings (form_of sizes type fill)) _ value h in
      record { layout = a.0; taken = a.1; elements = is; spelt = sym (ok_is (value_with a.0 (chunk_stream a.0 chunk)) value a.2) };
  decodes = λ f has sizes type fill value chunk positive s. packed_exact.decoded_only settings sizes type fill value chunk s;
  reads = λ f has sizes type fill value chunk r positive t e.
      let stands = packed_exact.decoded_found settings sizes type fill value chunk e in
      (stands, stands.elements);
  counted = λ f sizes type fill r e.
      let a = seen_ok FixedSize (packbits_length settings (form_of sizes type fill)) r e in
      counted_packed settings sizes type fill a.0 a.1;
  long = λ f sizes type fill value chunk e. (packed_exact.decoded_found settings sizes type fill value chunk e).elements.count_is;
  room = λ f has sizes type fill r positive small e.
      let l = packed_measured settings sizes type fill r e in
      packed_room settings sizes type fill l.0 l.1;
  fits = λ f sizes type fill r e.
      let l = packed_measured settings sizes type fill r e in
      packed_fits settings sizes type fill l.0 l.1;
}
