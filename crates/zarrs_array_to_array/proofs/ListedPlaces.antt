-- Lists of tuples that are numbered where their places go.
use Rattle.std.proofs.Common.{◌≡◌, ◌∷◌, [], ℕ, ◌<◌, ◌^◌, Bool, true, false, nat_lt, if◌then◌else◌, ltb-true, arith, List, length, map, Option, Some, None, Result, Ok, Err, IfOk, refl, ap, ap₂, sym, ◌∙◌, subst, Vec, Global}
use Rattle.std.specs.List.{All}
use Rattle.std.specs.Prelude.{is_ok, IfSome}
use Rattle.std.proofs.lemmas.Bool.{and_parts, lt-ltb, eq-eqb}
use Rattle.zarrs_chunk.specs.Answer.{◌>>=◌, checked_u64, seen}
use Rattle.zarrs_chunk.specs.ChunkShape.{product}
use Rattle.zarrs_chunk.specs.Numbering.{are_tuples_inside, numbers_of_tuples}
use Rattle.zarrs_chunk.specs.Selection.{Selection, indices, places_of}
use Rattle.zarrs_chunk.specs.Tuples.{is_tuple_inside}
use Rattle.zarrs_chunk.specs.declared.codec_error.CodecError.{CodecError}
use Rattle.zarrs_chunk.specs.declared.codec_error.CodecError.TheVariants.{Overflow}
use Rattle.zarrs_chunk.proofs.PlaceLaws.{known_below}
use Rattle.zarrs_codec.specs.CoordinateMap.{CoordinateMap}
use Rattle.zarrs_metadata.specs.Orders.{IsOrder, is_order}
use Rattle.zarrs_metadata.proofs.Orders.{order_parts}
use Rattle.zarrs_array_to_array.specs.ArrayToArrayCodec.{ArrayMapping, transpose, coordinates, chained}
use Rattle.zarrs_array_to_array.specs.Mapping.{moved_by, chained_places, IsStep}
use Rattle.zarrs_array_to_array.specs.MovedLists.{ordered_numbers, MovesList, StartsList, CodecMovesList}
use Rattle.zarrs_array_to_array.specs.Orders.{permuted}
use Rattle.zarrs_array_to_array.specs.Transpose.{transposed_place, transposition}
use Rattle.zarrs_array_to_array.proofs.Chains.{chained_step, moved_known}
use Rattle.zarrs_array_to_array.proofs.Images.{indices_bounds}
use Rattle.zarrs_array_to_array.proofs.Transposition.{transposed_tuple}

-- ---- one list

-- each of the tuples goes where its number leads in the order of axes
numbered : (order sizes : List ℕ) (tuples : List (List ℕ)) → IsOrder order → length order ≡ length sizes → are_tuples_inside sizes tuples ≡ true → ordered_numbers order sizes tuples ≡ map (transposed_place order sizes) (numbers_of_tuples sizes tuples)
numbered order sizes [] o axes h = refl
numbered order sizes (tuple ∷ tuples) o axes h =
    let parts = and_parts (is_tuple_inside sizes tuple) (are_tuples_inside sizes tuples) h in
    ap₂ (λ (n : ℕ) (ns : List ℕ). n ∷ ns) (sym (transposed_tuple order sizes o axes tuple parts.0)) (numbered order sizes tuples o axes parts.1)

all_known : (sizes : List ℕ) (tuples : List (List ℕ)) → product sizes < 2 ^ 64 → are_tuples_inside sizes tuples ≡ true → places_of (indices tuples) sizes ≡ Ok (numbers_of_tuples sizes tuples)
all_known sizes tuples small h = rw (indices_bounds sizes tuples h, lt-ltb (product sizes) (2 ^ 64) small) refl

moves_list : (order sizes : List ℕ) (tuples : List (List ℕ)) (places : List ℕ) → is_order order ≡ true → length order ≡ length sizes → product sizes < 2 ^ 64 → are_tuples_inside sizes tuples ≡ true → places ≡ ordered_numbers order sizes tuples → MovesList order sizes tuples places
moves_list order sizes tuples places is axes small inside e = record {
  axes = axes;
  counted = small;
  meant = all_known sizes tuples small inside;
  moved = e ∙ numbered order sizes tuples (order_parts order is) axes inside;
}

counted : ℕ → Bool → Result ℕ CodecError
counted n b = if b then Ok n else Err Overflow

-- what 64 bits count is below
pub counted_below : (n : ℕ) → is_ok (checked_u64 n) ≡ true → n < 2 ^ 64
unfolding counted
counted_below n h = go (nat_lt n (2 ^ 64)) refl h
  where
    go : (b : Bool) → nat_lt n (2 ^ 64) ≡ b → is_ok (counted n b) ≡ true → n < 2 ^ 64
    go true e is = ltb-true n (2 ^ 64) e
    go false e is = absurd (cc)

-- an answer for a list is one for its places
pub list_moved : {E : Type 0} (order sizes : List ℕ) (tuples : List (List ℕ)) (found : Result (Option (Vec ℕ Global)) E) → is_order order ≡ true → length order ≡ length sizes → product sizes < 2 ^ 64
    → IfOk found (λ f. IfSome f (λ _. are_tuples_inside sizes tuples ≡ true)) → IfOk found (λ f. IfSome f (λ places. places.items ≡ ordered_numbers order sizes tuples)) → IfOk found (λ f. IfSome f (λ places. MovesList order sizes tuples places.items))
list_moved order sizes tuples (Ok (Some places)) is axes small inside e = moves_list order sizes tuples places.items is axes small inside e
list_moved order sizes tuples (Ok None) is axes small inside e = tt
list_moved order sizes tuples (Err error) is axes small inside e = tt

-- ---- behind the first codec

axes_taken : (order sizes : List ℕ) → length order ≡ length sizes → coordinates (transpose order) sizes ≡ Ok (transposition order sizes)
axes_taken order sizes axes = rw (eq-eqb (length order) (length sizes) axes) refl

moved_seen : (places : List ℕ) (r : Result CoordinateMap CodecError) → (r >>= λ m. let moved : Result (List ℕ) CodecError = Ok (moved_by places m) in moved) ≡ seen (moved_by places) r
moved_seen places (Ok m) = refl
moved_seen places (Err e) = refl

at_list : (order : List ℕ) (rest : List ArrayMapping) (sizes : List ℕ) (tuples : List (List ℕ)) (places : List ℕ) → MovesList order sizes tuples places → chained_places (transpose order ∷ rest) (indices tuples) sizes ≡ seen (moved_by places) (chained rest (permuted order sizes))
at_list order rest sizes tuples places moves =
    let numbers = numbers_of_tuples sizes tuples in
    ap (λ (p : Result (List ℕ) CodecError). p >>= λ ps. chained (transpose order ∷ rest) sizes >>= λ m. let moved : Result (List ℕ) CodecError = Ok (moved_by ps m) in moved) moves.meant
    ∙ moved_seen numbers (chained (transpose order ∷ rest) sizes)
    ∙ chained_step (transpose order) rest sizes numbers (transposition order sizes) (axes_taken order sizes moves.axes)
    ∙ ap (λ ps. seen (moved_by ps) (chained rest (permuted order sizes))) (sym moves.moved)

tail : List ArrayMapping → List ArrayMapping
tail [] = []
tail (codec ∷ codecs) = codecs

-- a list of codecs whose mappings have a first one has a first one
pub mapped_some : {A B : Type 0} (f : A → B) (xs : List A) (first : B) (rest : List B) → map f xs ≡ first ∷ rest → 0 < length xs
mapped_some f [] first rest e = absurd cc
mapped_some f (x ∷ xs) first rest e = omega arith

-- an answer of a transposition is one of a codec
pub codec_moved : {E : Type 0} (codec : ArrayMapping) (order sizes : List ℕ) (tuples : List (List ℕ)) (found : Result (Option (Vec ℕ Global)) E) → codec ≡ transpose order → IfOk found (λ f. IfSome f (λ places. MovesList order sizes tuples places.items)) → IfOk found (λ f. IfSome f (λ places. CodecMovesList codec sizes tuples places.items))
codec_moved codec order sizes tuples (Ok (Some places)) is h = (order, is, h)
codec_moved codec order sizes tuples (Ok None) is h = tt
codec_moved codec order sizes tuples (Err error) is h = tt

-- an answer of the first codec is one of the list
pub list_started : {E : Type 0} (codecs : List ArrayMapping) (first : ArrayMapping) (rest : List ArrayMapping) (sizes : List ℕ) (selection : Selection) (tuples : List (List ℕ)) (found : Result (Option (Vec ℕ Global)) E) → codecs ≡ first ∷ rest → selection ≡ indices tuples
    → IfOk found (λ f. IfSome f (λ places. CodecMovesList first sizes tuples places.items)) → IfOk found (λ f. IfSome f (λ places. StartsList codecs sizes selection places.items))
list_started codecs first rest sizes selection tuples (Ok (Some places)) is listed h = record {
  order = h.0;
  rest = rest;
  first = is ∙ ap (λ codec. codec ∷ rest) h.1;
  tuples = tuples;
  listed = listed;
  moves = h.2;
}
list_started codecs first rest sizes selection tuples (Ok None) is listed h = tt
list_started codecs first rest sizes selection tuples (Err error) is listed h = tt

module _ (codecs : List ArrayMapping) (sizes : List ℕ) (selection : Selection) (places : List ℕ) (s : StartsList codecs sizes selection places) where
  -- the codecs behind the first one go on from where it leaves
  pub starts_at : (first : ArrayMapping) (rest : List ArrayMapping) (next : List ℕ) → codecs ≡ first ∷ rest → IsStep first sizes next → chained_places codecs selection sizes ≡ seen (moved_by places) (chained rest next)
  unfolding tail
  starts_at first rest next e step =
      let both : transpose s.order ∷ s.rest ≡ first ∷ rest = sym s.first ∙ e in
      let same_first : transpose s.order ≡ first = cc in
      let same_rest : s.rest ≡ rest = ap tail both in
      let m : CoordinateMap = step.0 in
      let taken : coordinates first sizes ≡ Ok (transposition s.order sizes) = ap (λ c. coordinates c sizes) (sym same_first) ∙ axes_taken s.order sizes s.moves.axes in
      let same_map : transposition s.order sizes ≡ m = cc in
      let sized : permuted s.order sizes ≡ next = ap (λ (x : CoordinateMap). x.encoded) same_map ∙ step.2 in
      ap₂ (λ cs x. chained_places cs x sizes) s.first s.listed
      ∙ at_list s.order s.rest sizes s.tuples places s.moves
      ∙ ap₂ (λ cs ns. seen (moved_by places) (chained cs ns)) same_rest sized

  -- its places are those of the next chunk
  pub starts_known : (first : ArrayMapping) (rest : List ArrayMapping) (next : List ℕ) → codecs ≡ first ∷ rest → IsStep first sizes next → All (λ place. place < product next) places
  starts_known first rest next e step =
      let both : transpose s.order ∷ s.rest ≡ first ∷ rest = sym s.first ∙ e in
      let same_first : transpose s.order ≡ first = cc in
      let m : CoordinateMap = step.0 in
      let taken : coordinates first sizes ≡ Ok (transposition s.order sizes) = ap (λ c. coordinates c sizes) (sym same_first) ∙ axes_taken s.order sizes s.moves.axes in
      let same_map : transposition s.order sizes ≡ m = cc in
      let numbers = numbers_of_tuples sizes s.tuples in
      let known = moved_known sizes numbers m step.3 (known_below (indices s.tuples) sizes numbers s.moves.meant) in
      let moved : moved_by numbers m ≡ places = ap (moved_by numbers) (sym same_map) ∙ sym s.moves.moved in
      subst (λ n. All (λ place. place < n) places) (ap product step.2) (subst (λ ps. All (λ place. place < product m.encoded) ps) moved known)
