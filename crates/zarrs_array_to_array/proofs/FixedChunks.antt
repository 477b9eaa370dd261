-- The elements of one size of a chunk, taken at places.
use Rattle.std.proofs.Common.{◌≡◌, ℕ, ◌<◌, Bool, List, length, Some, Ok, Err, Result, arith, ap, ◌∙◌}
use Rattle.std.specs.List.{All, flat_map}
use Rattle.std.proofs.lemmas.List.FromFn.{get_or-map-range_with_len}
use Rattle.zarrs_chunk.specs.Answer.{Answers, AnswersBy, memory, seen}
use Rattle.zarrs_chunk.specs.ChunkShape.{product}
use Rattle.zarrs_chunk.specs.declared.codec_error.CodecError.{CodecError}
use Rattle.zarrs_chunk.specs.declared.codec_error.CodecError.TheVariants.{InvalidBytesLength}
use Rattle.zarrs_data_type.specs.ElementType.{ElementType, fixed, text, bytes, optional, element_size, fixed_size_of}
use Rattle.zarrs_data_type.specs.Element.{Chunk}
use Rattle.zarrs_array_bytes.specs.Held.{Raw, Held, flen, vlen, masked, owned_bytes}
use Rattle.zarrs_array_bytes.specs.Elements.{piece, elements, select}
use Rattle.zarrs_array_bytes.specs.Parts.{fixed_part}
use Rattle.zarrs_array_bytes.specs.Validity.{sizes_fit, levels_fit, validity, Holds}
use Rattle.zarrs_array_bytes.proofs.ValidLemmas.{both_ok}
use Rattle.zarrs_array_bytes.proofs.ExtractLemmas.{extracted_holds}
use Rattle.zarrs_codec.specs.CoordinateMap.{CoordinateMap, IsCoordinateMap, origins}
use Rattle.zarrs_array_to_array.proofs.CoordinateMaps.{length-origins}

-- the places that elements come from are places of the chunk
pub origins_below : (sizes : List ℕ) (m : CoordinateMap) → IsCoordinateMap sizes m → All (λ place. place < product sizes) (origins m)
origins_below sizes m is = λ k d l.
    let n : k < product m.encoded = omega (arith, length-origins m) in
    rw (get_or-map-range_with_len m.from 0 (product m.encoded) k k d n (omega arith)) (is.places.from_below k (omega (arith, is.count)))

-- what is taken out of bytes holds what is selected
taken_holds : (w c : ℕ) (s : Bool) (n : ℕ) (r : Raw) (ps : List ℕ) → validity (fixed w c s) n (flen r) ≡ Ok tt → length ps ≡ n → All (λ p. p < n) ps
    → Holds (fixed w c s) (flen (owned_bytes (flat_map (piece (element_size w c) r.items) ps))) (select (elements (fixed w c s) n (flen r)) ps)
taken_holds w c s n r ps valid count inside =
    let both = both_ok (sizes_fit (fixed w c s) n) (levels_fit InvalidBytesLength (fixed w c s) n (flen r)) valid in
    extracted_holds (fixed w c s) n (flen r) ps both.1 inside (ap (sizes_fit (fixed w c s)) count ∙ both.0)

pub fixed_holds : (t : ElementType) (n : ℕ) (h : Held) (ps : List ℕ) (size : ℕ) (xs : List ℕ) → validity t n h ≡ Ok tt → fixed_size_of t ≡ Some size → Ok xs ≡ seen (λ raw. raw.items) (fixed_part h) → length ps ≡ n → All (λ p. p < n) ps
    → Holds t (flen (owned_bytes (flat_map (piece size xs) ps))) (select (elements t n h) ps)
fixed_holds (fixed w c s) n (flen r) ps size xs valid due is count inside =
    let sized : size ≡ element_size w c = cc in
    let items : xs ≡ r.items = cc in
    rw (sized, items) (taken_holds w c s n r ps valid count inside)
fixed_holds (fixed w c s) n (vlen r os) ps size xs valid due is count inside = cc
fixed_holds (fixed w c s) n (masked h m) ps size xs valid due is count inside = cc
fixed_holds text n h ps size xs valid due is count inside = cc
fixed_holds bytes n h ps size xs valid due is count inside = cc
fixed_holds (optional t) n h ps size xs valid due is count inside = cc

pub held_answers : (t : ElementType) (h : Held) (chunk : Chunk) (r : Result Held CodecError) → Holds t h chunk → Answers memory (λ (a : Held). a) r (Ok h) → AnswersBy memory (Holds t) r (Ok chunk)
held_answers t h chunk (Ok a) holds gives =
    let is : h ≡ a = cc gives in
    rw (← is) holds
held_answers t h chunk (Err e) holds gives = λ ne. let never : ⊥ = cc (gives ne) in absurd never
