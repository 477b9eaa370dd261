-- A region's other axes, and what is checked before a row is read.
use Rattle.std.proofs.Common.{◌≡◌, ℕ, suc, ◌+◌, ◌-◌, ◌*◌, ◌<◌, ◌^◌, true, List, [], ◌∷◌, length, map, take, drop, Result, Ok, Err, arith, refl, ap, ◌∙◌}
use Rattle.std.specs.Prelude.{slice_index, replicate}
use Rattle.std.proofs.lemmas.Bool.{and_from}
use Rattle.std.proofs.lemmas.Bool.Decides.{nat_tests}
use Rattle.std.proofs.lemmas.List.{take_all}
use Rattle.zarrs_codecs.specs.Answer.{◌>>=◌, AnswersBy, Excused, checked_u64, demand, memory, memory_or_fault}
use Rattle.zarrs_codecs.specs.ArraySubset.{ends_fit}
use Rattle.zarrs_codecs.specs.ChunkShape.{product}
use Rattle.zarrs_codecs.specs.Region.{Region}
use Rattle.zarrs_codecs.specs.Selection.{subset, len_of}
use Rattle.zarrs_codecs.specs.Tuples.{box_tuples}
use Rattle.zarrs_codecs.specs.CodecError.{CodecError}
use Rattle.zarrs_codecs.specs.CodecError.TheVariants.{InvalidFillValue}
use Rattle.zarrs_codecs.specs.Element.{Chunk, fill_element}
use Rattle.zarrs_codecs.specs.ElementType.{ElementType, fixed, text, bytes, optional, element_size}
use Rattle.zarrs_codecs.specs.FillValue.{fill_fits}
use Rattle.zarrs_codecs.specs.Form.{Form}
use Rattle.zarrs_codecs.specs.Chunks.{fill_chunk}
use Rattle.zarrs_codecs.specs.Validity.{Holds, sizes_fit}
use Rattle.zarrs_uses.specs.ChunkedArray.{array_element, array_region}
use Rattle.zarrs_codecs.specs.FewerExcused.{FewerAreExcused}

-- ---- the axes behind the first

abbrev behind_first : List ℕ → List ℕ
behind_first xs = take (length xs - 1) (drop 1 xs)

rest_is : (x : ℕ) (xs : List ℕ) → behind_first (x ∷ xs) ≡ xs
rest_is x xs =
    let e : length (x ∷ xs) - 1 ≡ length xs = omega arith in
    ap (λ n. take n xs) e ∙ take_all (length xs) xs (omega arith)

ends_all : (starts lengths : List ℕ) → ((axis : ℕ) → axis < length starts → slice_index starts axis + slice_index lengths axis < 2 ^ 64) → ends_fit starts lengths ≡ true
ends_all [] lengths h = refl
ends_all (start ∷ starts) [] h = refl
ends_all (start ∷ starts) (len ∷ lengths) h =
    let first = h 0 (omega arith) in
    and_from _ _ (grind (arith, nat_tests)) (ends_all starts lengths (λ axis l. h (suc axis) (omega arith)))

-- the ranges of a region's other axes end where 64 bits hold it
pub rest_fits : (starts lengths : List ℕ) → length starts ≡ length lengths → ((axis : ℕ) → axis < length starts → slice_index starts axis + slice_index lengths axis < 2 ^ 64) → ends_fit (behind_first starts) (behind_first lengths) ≡ true
rest_fits [] lengths same h = refl
rest_fits (start ∷ starts) [] same h = absurd (omega arith)
rest_fits (start ∷ starts) (len ∷ lengths) same h =
    ap (λ xs. ends_fit xs (behind_first (len ∷ lengths))) (rest_is start starts)
    ∙ ap (ends_fit starts) (rest_is len lengths)
    ∙ ends_all starts lengths (λ axis l. h (suc axis) (omega arith))

-- ---- what is checked first

abbrev three : {W : Type 0} → Result ℕ CodecError → Result ℕ CodecError → Result (Unit {0}) CodecError → W → Result W CodecError
three first second third whole = first >>= λ _. second >>= λ _. third >>= λ _. Ok whole

two_passed : {W : Type 0} (first second : Result ℕ CodecError) (third : Result (Unit {0}) CodecError) (whole : W) (one other : ℕ) → first ≡ Ok one → second ≡ Ok other → three first second third whole ≡ (third >>= λ _. Ok whole)
two_passed (Ok a) (Ok b) third whole one other e d = refl
two_passed (Ok a) (Err x) third whole one other e d = absurd (cc)
two_passed (Err x) second third whole one other e d = absurd (cc)

refused_third : {V W : Type 0} (third later : Result (Unit {0}) CodecError) (filled : V) (whole : W) (error : CodecError) → ((cause : CodecError) → later ≡ Err cause → ⊥) → (third >>= λ _. later >>= λ _. (let made : Result V CodecError = Ok filled in made)) ≡ Err error → (third >>= λ _. (let made : Result W CodecError = Ok whole in made)) ≡ Err error
refused_third (Ok a) (Ok b) filled whole error sound e = absurd (cc)
refused_third (Ok a) (Err x) filled whole error sound e = absurd (sound x refl)
refused_third (Err x) later filled whole error sound e = cc

-- no elements take no bytes
none_refused : (type : ElementType) (error : CodecError) → sizes_fit type 0 ≡ Err error → ⊥
none_refused (fixed width components sign) error e =
    let none : 0 * element_size width components ≡ 0 = omega arith in
    let passed : (let it : Result (Unit {0}) CodecError = Ok tt in it) ≡ Err error = rw none at e in
    cc
none_refused text error e = cc
none_refused bytes error e = cc
none_refused (optional type) error e = none_refused type error e

-- a fill value that doesn't fit is the first error of the region too
pub fill_refused : FewerAreExcused → (form : Form) (chunks : List Chunk) (region : Region) (one other : ℕ) (error : CodecError) → checked_u64 (product form.sizes) ≡ Ok one → len_of (subset region) ≡ Ok other
    → AnswersBy memory (Holds form.type) (Err error) (fill_chunk form.type 0 form.fill) → Excused (memory_or_fault error) (array_region form chunks region ≡ Err error)
fill_refused fewer form chunks region one other error first second h = λ wants.
    let whole = map (array_element form.sizes chunks) (box_tuples region.starts region.lengths) in
    two_passed (checked_u64 (product form.sizes)) (len_of (subset region)) (demand (fill_fits form.type form.fill) InvalidFillValue) whole one other first second
    ∙ refused_third (demand (fill_fits form.type form.fill) InvalidFillValue) (sizes_fit form.type 0) (replicate 0 (fill_element form.type form.fill)) whole error (none_refused form.type) (fewer form.type (Err error) (fill_chunk form.type 0 form.fill) h wants)
