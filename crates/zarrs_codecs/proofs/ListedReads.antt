-- Reads of lists of index tuples over `bytes` alone, by the bytes of their places.
use Rattle.std.proofs.Common.{◌≡◌, ℕ, ◌+◌, ◌*◌, ◌<◌, ◌≤◌, ◌^◌, get_or, true, Option, Some, None, List, [], length, take, Result, Ok, IfOk, arith, refl, ap, sym, ◌∙◌, subst}
use Rattle.std.specs.List.{All}
use Rattle.std.proofs.Math.Nat.{mul-le-mul_right}
use Rattle.zarrs_chunk.specs.Answer.{◌>>=◌}
use Rattle.zarrs_chunk.specs.Selection.{Selection}
use Rattle.zarrs_chunk.specs.declared.codec_error.CodecError.{CodecError}
use Rattle.zarrs_data_type.specs.declared.endianness.Endianness.{Endianness}
use Rattle.zarrs_codec.specs.BytesToBytesCodec.{BytesCodecs}
use Rattle.zarrs_codec.specs.StorageState.{are_sure, StorageState}
use Rattle.zarrs_codec.specs.declared.bytes_representation.BytesRepresentation.{BytesRepresentation}
use Rattle.zarrs_bytes.specs.PartialRead.{place_bytes, place_size, read_places}
use Rattle.zarrs_codecs.specs.ChunkRead.{encoded_places, form_in_place, outer_stored}
use Rattle.zarrs_chain_meaning.specs.ChunkForm.{ChunkForm}
use Rattle.zarrs_codecs.specs.CodecPart.{codec_read, codec_rests_on, Part}
use Rattle.zarrs_codecs.specs.ChunkSource.{Source, bytes_above, source_places, source_read}
use Rattle.zarrs_codecs.proofs.PlaceWrites.{bytes_alone}

-- places end where 64 bits count the bytes of the whole chunk
pub places_end : (count size : ℕ) (places : List ℕ) → count * size < 2 ^ 64 → All (λ place. place < count) places → All (λ place. (place + 1) * size < 2 ^ 64) places
places_end count size places small below k d l =
    let within = below k d l in
    let one : get_or places k d + 1 ≤ count = omega (arith, within) in
    let more = mul-le-mul_right size one in
    omega (arith, more, small)

module _ {B : Type 0} (f : BytesCodecs B) (form : ChunkForm B) (encoded : List ℕ) (r : BytesRepresentation) (order : Option Endianness) (alone : form_in_place form ≡ Some order) where
  stored_alone : (stored : Option (List ℕ)) (places : List ℕ) → (outer_stored f [] r stored >>= λ bytes. read_places order form.type form.fill bytes places) ≡ read_places order form.type form.fill stored places
  stored_alone None places = refl
  stored_alone (Some value) places = refl

  source_alone : (stored : Option (List ℕ)) (places : List ℕ) → source_places f form.chain encoded form.type form.fill r (bytes_above (length form.chain.bytes_to_bytes) stored) places ≡ read_places order form.type form.fill stored places
  source_alone stored places =
      let are = bytes_alone form.chain.bytes_to_bytes form.chain.array_to_bytes order alone in
      ap (λ (outer : List B). outer_stored f (take (length outer) outer) r stored >>= λ bytes. codec_read f form.chain.array_to_bytes encoded form.type form.fill bytes places) are.0
      ∙ ap (λ (p : Part B). outer_stored f [] r stored >>= λ bytes. p.read f encoded form.type form.fill bytes places) are.1.does
      ∙ stored_alone stored places

  -- the elements that a selection selects are those at its places
  pub listed_is : (source : Source) (stored : Option (List ℕ)) (selection : Selection) (places : List ℕ) → source ≡ bytes_above (length form.chain.bytes_to_bytes) stored → encoded_places form.type form.chain.array_to_array form.sizes selection ≡ Ok places
      → source_read f form encoded r source selection ≡ read_places order form.type form.fill stored places
  listed_is source stored selection places is at =
      ap (λ (p : Result (List ℕ) CodecError). p >>= λ places. source_places f form.chain encoded form.type form.fill r source places) at
      ∙ ap (λ (s : Source). source_places f form.chain encoded form.type form.fill r s places) is
      ∙ source_alone stored places

  -- such a read rests on the places' bytes
  pub sure_alone : (before : StorageState) (places : List ℕ) (P : Type 0) → (are_sure before.sure (place_bytes (place_size form.type) places) ≡ true → P) → IfOk (codec_rests_on f form.chain.array_to_bytes encoded form.type form.fill before.value places) (λ numbers. are_sure before.sure numbers ≡ true → P)
  sure_alone before places P h =
      let are = bytes_alone form.chain.bytes_to_bytes form.chain.array_to_bytes order alone in
      subst (λ (p : Part B). IfOk (p.rests_on f encoded form.type form.fill before.value places) (λ numbers. are_sure before.sure numbers ≡ true → P)) (sym are.1.does) h
