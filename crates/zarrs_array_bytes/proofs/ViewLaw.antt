-- What stands in an array's bytes after a view was written: at its places the new elements, elsewhere the old ones.
use Rattle.std.proofs.Common.{◌≡◌, ◌≢◌, ℕ, ◌*◌, ◌^◌, ◌<◌, ◌==◌, Bool, true, false, nat_lt, List, [], length, map, get_or, Result, Ok, Err, refl, sym, ap, ◌∙◌, arith, eqb-true, subst}
use Rattle.std.specs.List.{All, concat, flat_map}
use Rattle.std.specs.List.Sorted.{IsStrictlyIncreasing}
use Rattle.std.specs.Prelude.{IfOk}
use Rattle.std.proofs.lemmas.List.{get_or-map, ext_get_or, length-map}
use Rattle.std.proofs.lemmas.List.FromFn.{get_or-map-range_with_len}
use Rattle.std.proofs.lemmas.List.Kept.{AllPairs-from_increasing}
use Rattle.zarrs_chunk.specs.Answer.{◌>>=◌, demand}
use Rattle.zarrs_chunk.specs.ChunkShape.{product}
use Rattle.zarrs_chunk.specs.Region.{Region}
use Rattle.zarrs_chunk.specs.Selection.{subset, places_of}
use Rattle.zarrs_chunk.specs.declared.codec_error.CodecError.{CodecError}
use Rattle.zarrs_chunk.specs.declared.codec_error.CodecError.TheVariants.{Overflow, InvalidBytesLength, TargetMismatch}
use Rattle.zarrs_chunk.proofs.PlaceLaws.{places_below, places_rise}
use Rattle.zarrs_array_bytes.specs.Elements.{piece}
use Rattle.zarrs_array_bytes.specs.FixedView.{FixedView, fixed_view, written_bytes, elements_fit}
use Rattle.zarrs_array_bytes.specs.Laws.{IsView, IsUntouched}
use Rattle.zarrs_array_bytes.specs.Pieces.{pieces}
use Rattle.zarrs_array_bytes.specs.Update.{update}
use Rattle.zarrs_array_bytes.proofs.OffsetLemmas.{flat_map-concat}
use Rattle.zarrs_array_bytes.proofs.Pieces.{AllSized, length-pieces, pieces_sized, pieces-concat, concat-pieces}
use Rattle.zarrs_array_bytes.proofs.UpdateLaw.{untouched, written}
use Rattle.zarrs_array_bytes.proofs.ValidLemmas.{demand_ok}
use Rattle.zarrs_array_bytes.proofs.WriteLemmas.{length-update}
use Rattle.zarrs_array_bytes.proofs.UpdatedLemmas.{update_sized}

-- the array's elements after a write
written_pieces : (view : FixedView) (new : List ℕ) → IsView view → length new ≡ length view.places * view.element_size
    → pieces view.element_size view.count (written_bytes view new) ≡ update (pieces view.element_size view.count view.bytes) view.places (pieces view.element_size (length view.places) new)
written_pieces view new v e =
    let size = view.element_size in
    let old : List (List ℕ) = pieces size view.count view.bytes in
    let parts : List (List ℕ) = pieces size (length view.places) new in
    let all : List (List ℕ) = update old view.places parts in
    let sized : AllSized size all = update_sized size old view.places parts (pieces_sized size view.count view.bytes (omega (arith, v.whole))) (pieces_sized size (length view.places) new (omega (arith, e))) in
    let count : length all ≡ view.count = length-update old view.places parts ∙ length-pieces size view.count view.bytes in
    ap (λ n. pieces size n (concat all)) (sym count) ∙ pieces-concat size all sized

piece_of : (size count : ℕ) (items : List ℕ) (place : ℕ) → place < count → get_or (pieces size count items) place [] ≡ piece size items place
piece_of size count items place l = get_or-map-range_with_len (piece size items) 0 count place place [] l (omega arith)

pub others_stay : (view : FixedView) (new : List ℕ) (place : ℕ) → IsView view → elements_fit view new ≡ Ok tt → place < view.count → IsUntouched view.places place
    → piece view.element_size (written_bytes view new) place ≡ piece view.element_size view.bytes place
others_stay view new place v fit l free =
    let size = view.element_size in
    let long : length new ≡ length view.places * size = eqb-true _ _ (demand_ok _ TargetMismatch fit) in
    sym (piece_of size view.count (written_bytes view new) place l)
    ∙ ap (λ (ps : List (List ℕ)). get_or ps place []) (written_pieces view new v long)
    ∙ untouched (pieces size view.count view.bytes) (pieces size (length view.places) new) view.places place [] free
    ∙ piece_of size view.count view.bytes place l

rises_behind : (places : List ℕ) → IsStrictlyIncreasing places → (i j : ℕ) → i < j → j < length places → get_or places j 0 ≢ get_or places i 0
rises_behind places rising i j l n e =
    let pair : get_or places i 0 < get_or places j 0 = AllPairs-from_increasing places rising i j 0 l n in
    absurd (omega (arith, pair, e))

read_place : (view : FixedView) (new : List ℕ) → IsView view → length new ≡ length view.places * view.element_size → (i : ℕ) → i < length view.places
    → piece view.element_size (written_bytes view new) (get_or view.places i 0) ≡ piece view.element_size new i
read_place view new v long i l =
    let size = view.element_size in
    let place : ℕ = get_or view.places i 0 in
    let inside : place < view.count = v.below i 0 l in
    let old : List (List ℕ) = pieces size view.count view.bytes in
    let parts : List (List ℕ) = pieces size (length view.places) new in
    sym (piece_of size view.count (written_bytes view new) place inside)
    ∙ ap (λ (ps : List (List ℕ)). get_or ps place []) (written_pieces view new v long)
    ∙ written old parts view.places place [] i (omega (arith, length-pieces size view.count view.bytes)) (sym (length-pieces size (length view.places) new)) l refl
    (λ j after n. rises_behind view.places v.rising i j after n)
    ∙ piece_of size (length view.places) new i l

pub written_read : (view : FixedView) (new : List ℕ) → IsView view → elements_fit view new ≡ Ok tt → flat_map (piece view.element_size (written_bytes view new)) view.places ≡ new
written_read view new v fit =
    let size = view.element_size in
    let long : length new ≡ length view.places * size = eqb-true _ _ (demand_ok _ TargetMismatch fit) in
    let f : ℕ → List ℕ = piece size (written_bytes view new) in
    let count : length (map f view.places) ≡ length view.places = length-map view.places f in
    flat_map-concat f view.places
    ∙ ap concat (ext_get_or [] (map f view.places) (pieces size (length view.places) new) (count ∙ sym (length-pieces size (length view.places) new))
    (λ i l. get_or-map f view.places i 0 [] (omega (arith, l, count)) ∙ read_place view new v long i (omega (arith, l, count)) ∙ sym (piece_of size (length view.places) new i (omega (arith, l, count)))))
    ∙ concat-pieces size (length view.places) new long

-- ---- the view of a subset

by_steps : (some fits whole : Bool) (e f g : CodecError) (found : Result (List ℕ) CodecError) (bytes : List ℕ) (size count : ℕ) (view : FixedView)
    → IfOk found IsStrictlyIncreasing → IfOk found (All (λ place. place < count)) → (whole ≡ true → length bytes ≡ count * size)
    → (demand some e >>= λ _. found >>= λ places. demand fits f >>= λ _. demand whole g >>= λ _. Ok (record { bytes = bytes; element_size = size; count = count; places = places })) ≡ Ok view → IsView view
by_steps true true true e f g (Ok places) bytes size count view rising below length_is h =
    let same : ◌≡◌ {A = FixedView} (record { bytes = bytes; element_size = size; count = count; places = places }) view = cc in
    subst IsView same (record { whole = length_is refl; rising = rising; below = below })
by_steps false fits whole e f g found bytes size count view rising below length_is h = absurd cc
by_steps true fits whole e f g (Err d) bytes size count view rising below length_is h = absurd cc
by_steps true false whole e f g (Ok places) bytes size count view rising below length_is h = absurd cc
by_steps true true false e f g (Ok places) bytes size count view rising below length_is h = absurd cc

pub subset_view : (bytes : List ℕ) (size : ℕ) (sizes : List ℕ) (region : Region) (view : FixedView) → fixed_view bytes size sizes region ≡ Ok view → IsView view
subset_view bytes size sizes region view h =
    by_steps (nat_lt 0 size) (nat_lt (product sizes * size) (2 ^ 64)) (length bytes == product sizes * size) TargetMismatch Overflow (InvalidBytesLength (length bytes) (product sizes * size)) (places_of (subset region) sizes) bytes size (product sizes) view
    (places_rise region sizes) (places_below (subset region) sizes) (λ e. eqb-true _ _ e) h
