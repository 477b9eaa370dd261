-- Encoded and decoded chunks, in the words that all codecs share.
use Rattle.std.proofs.Common.{◌≡◌, ◌==◌, ℕ, true, List, length, Ok, Err, Result, Some, refl, ap, subst, sym, ◌∙◌, IfOk}
use Rattle.std.proofs.lemmas.List.FromFn.{length-map-range_with_len}
use Rattle.zarrs_chunk.specs.Answer.{◌>>=◌, demand, checked_u64, AnswersBy, memory}
use Rattle.zarrs_chunk.specs.ChunkShape.{product}
use Rattle.zarrs_chunk.specs.declared.codec_error.CodecError.{CodecError}
use Rattle.zarrs_chunk.specs.declared.codec_error.CodecError.TheVariants.{IncompatibleDimensionality, OutOfMemory}
use Rattle.zarrs_data_type.specs.ElementType.{ElementType}
use Rattle.zarrs_data_type.specs.Element.{Chunk}
use Rattle.zarrs_array_bytes.specs.Held.{Held}
use Rattle.zarrs_array_bytes.specs.Elements.{element_at, elements}
use Rattle.zarrs_array_bytes.specs.Validity.{Holds, validity}
use Rattle.zarrs_codec.specs.CoordinateMap.{CoordinateMap, same_places, moved_chunk, inverse_map}
use Rattle.zarrs_codec.specs.MappedChunk.{encoded_chunk, decoded_chunk, IsSource}
use Rattle.zarrs_codec.proofs.UnfitLemmas.{unfit_encoded, unfit_decoded}
use Rattle.zarrs_metadata.specs.Dims.{Dim, is_reshape}
use Rattle.zarrs_metadata.specs.Orders.{IsOrder}
use Rattle.zarrs_array_to_array.specs.ArrayToArrayCodec.{transpose, reshape, squeeze, coordinates}
use Rattle.zarrs_array_to_array.specs.CodecAnswers.{type_taken, LeavesUnmoved}
use Rattle.zarrs_array_to_array.specs.Orders.{permuted, inverse}
use Rattle.zarrs_array_to_array.specs.Reshape.{reshaped}
use Rattle.zarrs_array_to_array.specs.Squeeze.{squeezed}
use Rattle.zarrs_array_to_array.specs.Transpose.{transposition}
use Rattle.zarrs_array_to_array.specs.TransposeCodec.{axes_fit, transpose_takes, transpose_encoded, transpose_decoded}
use Rattle.zarrs_array_to_array.proofs.AnswerSteps.{step_ok}
use Rattle.zarrs_array_to_array.proofs.CodecAnswers.{axes_of}
use Rattle.zarrs_array_to_array.proofs.CoordinateMaps.{kept_places}
use Rattle.zarrs_array_to_array.proofs.Orders.{inverse_undoes}
use Rattle.zarrs_array_to_array.proofs.Reshaping.{reshaped_product}
use Rattle.zarrs_array_to_array.proofs.Squeezing.{product-squeezed}

pub where_expected : {T V : Type 0} (R : T → V → Type 0) (r : Result T CodecError) (expected : Result V CodecError) → AnswersBy memory R r expected → IfOk expected (λ v. AnswersBy memory R r (Ok v))
where_expected R r (Ok v) h = h
where_expected R r (Err e) h = tt

-- lack of memory may come in the place of all
pub no_memory : {T V : Type 0} (expected : Result V CodecError) (R : T → V → Type 0) → IfOk expected (λ v. AnswersBy memory R (Err OutOfMemory) (Ok v))
no_memory expected R = where_expected R (Err OutOfMemory) expected (λ h. absurd (cc))

-- steps in one chain, or a chain in steps
one_chain : {A M C : Type 0} (a b d : Result (Unit {0}) CodecError) (c : Result A CodecError) (m : M) (f : M → C) → ((a >>= λ _. b >>= λ _. c >>= λ _. d) >>= λ _. Ok (f m)) ≡ ((a >>= λ _. (b >>= λ _. Ok m) >>= λ n. c >>= λ _. d >>= λ _. Ok n) >>= λ n. Ok (f n))
one_chain (Err e) b d c m f = refl
one_chain (Ok a) (Err e) d c m f = refl
one_chain (Ok a) (Ok b) d (Err e) m f = refl
one_chain (Ok a) (Ok b) (Err e) (Ok c) m f = refl
one_chain (Ok a) (Ok b) (Ok d) (Ok c) m f = refl

pub transpose_encoded-chunk : (order sizes : List ℕ) (type : ElementType) (held : Held) → transpose_encoded order type sizes held ≡ encoded_chunk (type_taken (transpose order) type) (coordinates (transpose order) sizes) type sizes held
transpose_encoded-chunk order sizes type held =
    one_chain (type_taken (transpose order) type) (axes_fit order sizes) (validity type (product sizes) held) (checked_u64 (product sizes)) (transposition order sizes) (λ m. moved_chunk m (elements type (product sizes) held))

pub transpose_decoded-chunk : (order sizes : List ℕ) (type : ElementType) (held : Held) → transpose_decoded order type sizes held ≡ decoded_chunk (type_taken (transpose order) type) (coordinates (transpose order) sizes) type sizes held
transpose_decoded-chunk order sizes type held =
    one_chain (type_taken (transpose order) type) (axes_fit order sizes) (validity type (product sizes) held) (checked_u64 (product sizes)) (transposition order sizes) (λ m. moved_chunk (inverse_map sizes m) (elements type (product sizes) held))

pub encoded_refused : (order sizes : List ℕ) (type : ElementType) (held : Held) (e : CodecError) (P : Chunk → Type 0) → transpose_takes order type sizes held ≡ Err e → IfOk (encoded_chunk (type_taken (transpose order) type) (coordinates (transpose order) sizes) type sizes held) P
encoded_refused order sizes type held e P h =
    let refused : transpose_encoded order type sizes held ≡ Err e = rw h refl in
    rw (sym (transpose_encoded-chunk order sizes type held) ∙ refused) tt

pub decoded_refused : (order sizes : List ℕ) (type : ElementType) (held : Held) (e : CodecError) (P : Chunk → Type 0) → transpose_takes order type sizes held ≡ Err e → IfOk (decoded_chunk (type_taken (transpose order) type) (coordinates (transpose order) sizes) type sizes held) P
decoded_refused order sizes type held e P h =
    let refused : transpose_decoded order type sizes held ≡ Err e = rw h refl in
    rw (sym (transpose_decoded-chunk order sizes type held) ∙ refused) tt

-- what transposition does of a container that holds no chunk
pub encoded_unfit : (order sizes : List ℕ) (type : ElementType) (held : Held) (result : Result Held CodecError) → AnswersBy memory (Holds type) result (transpose_encoded order type sizes held) → LeavesUnmoved (transpose order) type sizes held result
encoded_unfit order sizes type held result answer =
    unfit_encoded (type_taken (transpose order)) (coordinates (transpose order)) type sizes held result (subst (λ expected. AnswersBy memory (Holds type) result expected) (transpose_encoded-chunk order sizes type held) answer)

pub decoded_unfit : (order sizes : List ℕ) (type : ElementType) (held : Held) (result : Result Held CodecError) → AnswersBy memory (Holds type) result (transpose_decoded order type sizes held) → LeavesUnmoved (transpose order) type sizes held result
decoded_unfit order sizes type held result answer =
    unfit_decoded (type_taken (transpose order)) (coordinates (transpose order)) type sizes held result (subst (λ expected. AnswersBy memory (Holds type) result expected) (transpose_decoded-chunk order sizes type held) answer)

-- ---- elements that keep their places

pub holds_elements : (type : ElementType) (count : ℕ) (held : Held) → validity type count held ≡ Ok tt → Holds type held (elements type count held)
holds_elements type count held h =
    let n : length (elements type count held) ≡ count = length-map-range_with_len (element_at type held) 0 count in
    record { valid = ap (λ c. validity type c held) n ∙ h; elements_are = ap (λ c. elements type c held) n }

holds_kept : (type : ElementType) (count : ℕ) (held : Held) (sizes : List ℕ) → validity type count held ≡ Ok tt → product sizes ≡ count → Holds type held (moved_chunk (same_places sizes) (elements type count held))
holds_kept type count held sizes h e =
    rw (kept_places sizes (elements type count held) (length-map-range_with_len (element_at type held) 0 count ∙ sym e)) (holds_elements type count held h)

-- where the map keeps places, the container holds the coded chunk as it is
pub kept_encoded : (coordinates : Result CoordinateMap CodecError) (type : ElementType) (sizes : List ℕ) (held : Held) → ((m : CoordinateMap) → coordinates ≡ Ok m → (m ≡ same_places m.encoded) × (product m.encoded ≡ product sizes)) → IfOk (encoded_chunk (Ok tt) coordinates type sizes held) (Holds type held)
kept_encoded (Err e) type sizes held same = tt
kept_encoded (Ok m) type sizes held same = go (checked_u64 (product sizes)) (validity type (product sizes) held) refl
  where
    go : (c : Result ℕ CodecError) (v : Result (Unit {0}) CodecError) → validity type (product sizes) held ≡ v → IfOk ((c >>= λ _. v >>= λ _. Ok m) >>= λ n. Ok (moved_chunk n (elements type (product sizes) held))) (Holds type held)
    go (Err e) v h = tt
    go (Ok n) (Err e) h = tt
    go (Ok n) (Ok u) h = let at = same m refl in rw at.0 (holds_kept type (product sizes) held m.encoded h at.1)

pub kept_decoded : (coordinates : Result CoordinateMap CodecError) (type : ElementType) (sizes : List ℕ) (held : Held) → ((m : CoordinateMap) → coordinates ≡ Ok m → (m ≡ same_places m.encoded) × (product m.encoded ≡ product sizes)) → IfOk (decoded_chunk (Ok tt) coordinates type sizes held) (Holds type held)
kept_decoded (Err e) type sizes held same = tt
kept_decoded (Ok m) type sizes held same = go (checked_u64 (product sizes)) (validity type (product sizes) held) refl
  where
    go : (c : Result ℕ CodecError) (v : Result (Unit {0}) CodecError) → validity type (product sizes) held ≡ v → IfOk ((c >>= λ _. v >>= λ _. Ok m) >>= λ n. Ok (moved_chunk (inverse_map sizes n) (elements type (product sizes) held))) (Holds type held)
    go (Err e) v h = tt
    go (Ok n) (Err e) h = tt
    go (Ok n) (Ok u) h = let at = same m refl in rw at.0 (holds_kept type (product sizes) held sizes h refl)

-- so does a copy of it
pub copied_encoded : (coordinates : Result CoordinateMap CodecError) (type : ElementType) (sizes : List ℕ) (held : Held) (answer : Result Held CodecError) → (validity type (product sizes) held ≡ Ok tt → answer ≡ Ok held)
    → ((m : CoordinateMap) → coordinates ≡ Ok m → (m ≡ same_places m.encoded) × (product m.encoded ≡ product sizes)) → IfOk (encoded_chunk (Ok tt) coordinates type sizes held) (λ chunk. AnswersBy memory (Holds type) answer (Ok chunk))
copied_encoded (Err e) type sizes held answer is same = tt
copied_encoded (Ok m) type sizes held answer is same = go (checked_u64 (product sizes)) (validity type (product sizes) held) refl
  where
    go : (c : Result ℕ CodecError) (v : Result (Unit {0}) CodecError) → validity type (product sizes) held ≡ v → IfOk ((c >>= λ _. v >>= λ _. Ok m) >>= λ n. Ok (moved_chunk n (elements type (product sizes) held))) (λ chunk. AnswersBy memory (Holds type) answer (Ok chunk))
    go (Err e) v h = tt
    go (Ok n) (Err e) h = tt
    go (Ok n) (Ok u) h =
        let at = same m refl in
        let there : answer ≡ Ok held = is h in
        rw there (rw at.0 (holds_kept type (product sizes) held m.encoded h at.1))

pub copied_decoded : (coordinates : Result CoordinateMap CodecError) (type : ElementType) (sizes : List ℕ) (held : Held) (answer : Result Held CodecError) → (validity type (product sizes) held ≡ Ok tt → answer ≡ Ok held)
    → ((m : CoordinateMap) → coordinates ≡ Ok m → (m ≡ same_places m.encoded) × (product m.encoded ≡ product sizes)) → IfOk (decoded_chunk (Ok tt) coordinates type sizes held) (λ chunk. AnswersBy memory (Holds type) answer (Ok chunk))
copied_decoded (Err e) type sizes held answer is same = tt
copied_decoded (Ok m) type sizes held answer is same = go (checked_u64 (product sizes)) (validity type (product sizes) held) refl
  where
    go : (c : Result ℕ CodecError) (v : Result (Unit {0}) CodecError) → validity type (product sizes) held ≡ v → IfOk ((c >>= λ _. v >>= λ _. Ok m) >>= λ n. Ok (moved_chunk (inverse_map sizes n) (elements type (product sizes) held))) (λ chunk. AnswersBy memory (Holds type) answer (Ok chunk))
    go (Err e) v h = tt
    go (Ok n) (Err e) h = tt
    go (Ok n) (Ok u) h =
        let at = same m refl in
        let there : answer ≡ Ok held = is h in
        rw there (rw at.0 (holds_kept type (product sizes) held sizes h refl))

-- ---- the decoded sizes

pub transposed_source : (order encoded sizes : List ℕ) → IsOrder order → sizes ≡ permuted (inverse order) encoded → IsSource (coordinates (transpose order)) encoded (Some sizes)
transposed_source order encoded sizes o e = λ decoded m takes makes.
    let step = step_ok (demand (length order == length decoded) IncompatibleDimensionality) (λ _. Ok (transposition order decoded)) m takes in
    let axes : length order ≡ length decoded = axes_of order decoded step.1 in
    let shape : permuted order decoded ≡ encoded = ap (λ n. n.encoded) (is_map decoded m step.2) ∙ makes in
    sym (inverse_undoes order decoded o axes) ∙ ap (permuted (inverse order)) shape ∙ sym e
  where
    is_map : (decoded : List ℕ) (m : CoordinateMap) → ◌≡◌ {A = Result CoordinateMap CodecError} (Ok (transposition order decoded)) (Ok m) → transposition order decoded ≡ m
    is_map decoded m h = cc

-- ---- which maps keep places

pub squeeze_keeps : (sizes : List ℕ) (m : CoordinateMap) → coordinates squeeze sizes ≡ Ok m → (m ≡ same_places m.encoded) × (product m.encoded ≡ product sizes)
squeeze_keeps sizes m h = let is : same_places (squeezed sizes) ≡ m = cc in rw (← is) (refl, product-squeezed sizes)

pub reshape_keeps : (dims : List Dim) (sizes : List ℕ) (m : CoordinateMap) → is_reshape dims ≡ true → coordinates (reshape dims) sizes ≡ Ok m → (m ≡ same_places m.encoded) × (product m.encoded ≡ product sizes)
reshape_keeps dims sizes m sound h =
    let found = step_ok (reshaped dims sizes) (λ encoded. Ok (same_places encoded)) m h in
    let is : same_places found.0 ≡ m = same m found.0 found.2 in
    rw (← is) (refl, reshaped_product dims sizes found.0 sound found.1)
  where
    same : (m : CoordinateMap) (encoded : List ℕ) → ◌≡◌ {A = Result CoordinateMap CodecError} (Ok (same_places encoded)) (Ok m) → same_places encoded ≡ m
    same m encoded h = cc
