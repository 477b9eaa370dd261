-- `vlen-utf8` and `vlen-bytes` keep the laws of array-to-bytes codecs, and are made again of their metadata.
use Rattle.std.proofs.Common.{◌≡◌, ◌+◌, ◌<◌, ◌^◌, true, ℕ, List, [], ◌∷◌, length, Ok, refl, sym, subst, ◌∙◌}
use Rattle.std.specs.List.{All, flat_map}
use Rattle.std.specs.Prelude.{Option, Result}
use Rattle.std.proofs.lemmas.List.{map-id}
use Rattle.std.proofs.lemmas.List.Elements.{All-nil, All-head, All-tail, All-append}
use Rattle.zarrs_chunk.specs.ChunkShape.{product}
use Rattle.zarrs_data_type.specs.Element.{Chunk}
use Rattle.zarrs_data_type.specs.ElementType.{ElementType, fixed, text, bytes, optional, is_variable}
use Rattle.zarrs_data_type.specs.Form.{form_of}
use Rattle.zarrs_array_bytes.specs.Elements.{select}
use Rattle.zarrs_array_bytes.specs.Validity.{sizes_fit}
use Rattle.zarrs_codec.specs.BytesToBytesCodec.{AreBytes, KeepsTo, IsAtMost}
use Rattle.zarrs_codec.specs.SampleLaws.{low_first_are_bytes}
use Rattle.zarrs_codec.specs.declared.bytes_representation.BytesRepresentation.{BytesRepresentation}
use Rattle.zarrs_bytes.specs.ByteOrder.{bytes_of}
use Rattle.zarrs_packbits.specs.Laws.{HasBytes}
use Rattle.zarrs_vlen_v2.specs.VlenV2Codec.{u32_bytes, prefixed_element, VlenV2Stands, VlenV2Written}
use Rattle.zarrs_vlen_v2.specs.declared.vlen_v2_codec.VlenV2Codec.{VlenV2Codec}
use Rattle.zarrs_vlen_v2.specs.declared.vlen_v2_codec.VlenV2Codec.TheVariants.{Utf8, Bytes}
use Rattle.zarrs_vlen_v2.proofs.CodecLaws.{accepted, stands_for_one, written_stands, decoded, decoded_only, encoded_only, encoded_found}
use Rattle.zarrs_metadata.specs.Metadata.{Metadata}
use Rattle.zarrs_metadata.specs.declared.plugin_create_error.PluginCreateError.{PluginCreateError}
use Rattle.zarrs_chain_meaning.specs.CodecMeaning.{vlen_v2_codec}
use Rattle.zarrs_chain_meaning.specs.vlen_v2.VlenV2.{vlen_v2_meaning}
use Rattle.zarrs_chain_meaning.proofs.LawfulCodec.{IsLawfulCodec}
use Rattle.zarrs_chain_meaning.proofs.MadeAgain.{IsAgain}
use Rattle.zarrs_chain_meaning.proofs.NestedGrowth.{unbounded_most}
use Rattle.zarrs_chain_meaning.proofs.NestedKept as keeping
use Rattle.zarrs_chain_meaning.proofs.NestedRoom.{row_room, variable_fits}
use Rattle.zarrs_chain_meaning.proofs.NestedStages.{is_byte, element_bytes}

-- ---- a value has bytes

number_are : (n : ℕ) → AreBytes (u32_bytes n)
unfolding u32_bytes
number_are n = low_first_are_bytes 0 4 n

entries_are : (chunk : Chunk) → All HasBytes chunk → AreBytes (flat_map prefixed_element chunk)
entries_are [] h = All-nil is_byte
entries_are (element ∷ chunk) h =
    All-append is_byte (prefixed_element element) (flat_map prefixed_element chunk)
    (All-append is_byte (u32_bytes (length (bytes_of element))) (bytes_of element) (number_are (length (bytes_of element))) (element_bytes element (All-head HasBytes element chunk h)))
    (entries_are chunk (All-tail HasBytes element chunk h))

value_are : (codec : VlenV2Codec) (sizes : List ℕ) (type : ElementType) (fill value : List ℕ) (chunk : Chunk) → All HasBytes chunk → VlenV2Written codec (form_of sizes type fill) value chunk → AreBytes value
value_are codec sizes type fill value chunk h w =
    subst AreBytes (sym w.spelt) (All-append is_byte (u32_bytes (length chunk)) (flat_map prefixed_element chunk) (number_are (length chunk)) (entries_are chunk h))

-- ---- memory that has the elements counts them

room_of : (sizes : List ℕ) (type : ElementType) → is_variable type ≡ true → product sizes + 1 < 2 ^ 64 → sizes_fit type (product sizes) ≡ Ok tt
room_of sizes (fixed width components sign) v small = absurd cc
room_of sizes text v small = row_room (product sizes) small
room_of sizes bytes v small = row_room (product sizes) small
room_of sizes (optional type) v small = absurd cc

-- ---- the laws

pub vlen_v2_laws : {B : Type 0} (codec : VlenV2Codec) → IsLawfulCodec {B = B} (vlen_v2_meaning codec)
vlen_v2_laws codec = record {
  types = λ type element h. h;
  twice = λ type element h. refl;
  absents = λ type. refl;
  flags = record { zero_kept = refl; one_kept = refl };
  stands_once = λ f has sizes type fill value chunk other positive a b. stands_for_one codec (form_of sizes type fill) value chunk other a b;
  writes_once = λ f sizes type fill value other chunk a b. a.spelt ∙ sym b.spelt;
  grows = λ f lawful has sizes others type fill r s p q h a b. subst (λ (x : BytesRepresentation). IsAtMost r x) (accepted codec (form_of others type fill) s b).unbounded (unbounded_most r);
  by_count = λ f has sizes others type fill r s p q h a b. sym (accepted codec (form_of sizes type fill) r a).unbounded ∙ (accepted codec (form_of others type fill) s b).unbounded;
  sized = λ f lawful has sizes type fill value chunk r positive long each w e. record {
    each = value_are codec sizes type fill value chunk each w;
    keeps = subst (λ (s : BytesRepresentation). KeepsTo s value) (accepted codec (form_of sizes type fill) r e).unbounded (keeping.unbounded_keeps value);
  };
  stands = λ f lawful has sizes type fill value chunk r positive each h room e w. subst (VlenV2Stands codec (form_of sizes type fill) value) (sym (map-id chunk)) (written_stands codec (form_of sizes type fill) value chunk w);
  kept = λ f sizes type fill value chunk w. subst (VlenV2Written codec (form_of sizes type fill) value) (sym (map-id chunk)) w;
  kept_back = λ f sizes type fill value chunk places each w. subst (VlenV2Written codec (form_of sizes type fill) value) (map-id (select chunk places)) w;
  encodes = λ f sizes type fill value chunk w. encoded_only codec (form_of sizes type fill) value chunk w;
  founds = λ f has sizes type fill value chunk r positive is e h. encoded_found codec (form_of sizes type fill) value chunk r e is h;
  decodes = λ f has sizes type fill value chunk positive s. decoded_only codec (form_of sizes type fill) value chunk s;
  reads = λ f has sizes type fill value chunk r positive t e.
      let d = decoded codec (form_of sizes type fill) value chunk e in
      (d.stands, d.elements);
  counted = λ f sizes type fill r e. (accepted codec (form_of sizes type fill) r e).counted;
  long = λ f sizes type fill value chunk e. (decoded codec (form_of sizes type fill) value chunk e).elements.count_is;
  room = λ f has sizes type fill r positive small e. room_of sizes type (accepted codec (form_of sizes type fill) r e).variable small;
  fits = λ f sizes type fill r e. variable_fits type fill (accepted codec (form_of sizes type fill) r e).variable;
}

-- what is written of them makes them again
pub vlen_v2-again : {B : Type 0} (described : B → Metadata) (makes : Metadata → Result (Option B) PluginCreateError) (codec : VlenV2Codec) → IsAgain described makes (vlen_v2_codec codec)
vlen_v2-again described makes Utf8 = record { clean = refl; made = refl }
vlen_v2-again described makes Bytes = record { clean = refl; made = refl }
