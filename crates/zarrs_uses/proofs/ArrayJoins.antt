-- The rows of a region that are read so far, and those of one chunk behind them.
use Rattle.std.proofs.Common.{◌≡◌, ℕ, ◌+◌, ◌-◌, ◌*◌, ◌/◌, ◌%◌, ◌<◌, ◌≤◌, ◌^◌, ◌==◌, Bool, true, false, nat_lt, List, [], ◌∷◌, ◌++◌, length, map, get_or, Result, Ok, Err, if◌then◌else◌, arith, refl, ap, sym, subst, ◌∙◌}
use Rattle.std.specs.Prelude.{IsOkAnd}
use Rattle.std.proofs.lemmas.Bool.{and_from}
use Rattle.std.proofs.lemmas.Bool.Decides.{nat_tests}
use Rattle.std.specs.List.{range_with_len}
use Rattle.std.proofs.lemmas.List.{length-map}
use Rattle.std.proofs.lemmas.List.FromFn.{length-map-range_with_len}
use Rattle.std.proofs.Math.Nat.{div-lt_iff_lt-mul, mul-le-mul_right}
use Rattle.zarrs_codecs.specs.Answer.{◌>>=◌, Excused, demand, memory_or_fault, seen}
use Rattle.zarrs_codecs.specs.ChunkShape.{product}
use Rattle.zarrs_codecs.specs.Region.{Region}
use Rattle.zarrs_codecs.specs.Selection.{places_of, subset}
use Rattle.zarrs_codecs.specs.Tuples.{row_major, box_tuples, is_box_inside}
use Rattle.zarrs_codecs.specs.CodecError.{CodecError}
use Rattle.zarrs_codecs.specs.CodecError.TheVariants.{IncompatibleDimensionality, OutOfBounds, Overflow}
use Rattle.zarrs_codecs.specs.Element.{Chunk, Element}
use Rattle.zarrs_codecs.specs.ElementType.{ElementType, bytes}
use Rattle.zarrs_codecs.specs.Elements.{elements, select}
use Rattle.zarrs_codecs.specs.Held.{Held}
use Rattle.zarrs_codecs.specs.Validity.{Holds}
use Rattle.zarrs_codecs.specs.ArrayReader.{ArrayReader}
use Rattle.zarrs_codecs.specs.BoxRows.{BoxesAreCut, RowsAreAlike}
use Rattle.zarrs_uses.specs.ChunkedArray.{ReadChunks, array_element}
use Rattle.zarrs_uses.proofs.ArrayRows.{at_rows, rows-append, rows_in_chunk}

-- ---- counts

pub product_more : (gone count p done more : ℕ) → done ≡ gone * p → more ≡ count * p → done + more ≡ (gone + count) * p
product_more gone count p done more a b = omega arith

pub product_few : (gone count total p limit : ℕ) → gone + count ≤ total → total * p < limit → gone * p + count * p < limit
product_few gone count total p limit h l = omega (arith, mul-le-mul_right p h)

-- a box has as many tuples as its lengths multiply to
pub box_count : {tuple : List ℕ → List ℕ → ℕ → List ℕ} → ((starts lengths : List ℕ) → length starts ≡ length lengths → box_tuples starts lengths ≡ map (tuple starts lengths) (range_with_len 0 (product lengths))) → (starts lengths : List ℕ) → length starts ≡ length lengths → length (box_tuples starts lengths) ≡ product lengths
box_count {tuple} numbered starts lengths same = ap length (numbered starts lengths same) ∙ length-map-range_with_len (tuple starts lengths) 0 (product lengths)

-- the chunk of a row before the end of all chunks is one of them
pub row_in_chunks : (rows row end count : ℕ) → 0 < rows → row < end → end ≤ count * rows → row / rows < count
row_in_chunks rows row end count positive l h = (div-lt_iff_lt-mul positive).1 (omega arith)

-- ---- the places of rows in a chunk

abbrev tested : (one two three : Bool) → ℕ → List ℕ → Result (List ℕ) CodecError
tested one two three number places =
    (demand one IncompatibleDimensionality >>= λ _. demand two OutOfBounds) >>= λ _. (let checked : Result ℕ CodecError = if three then Ok number else Err Overflow in checked) >>= λ _. Ok places

all_pass : (one two three : Bool) (number : ℕ) (places : List ℕ) → one ≡ true → two ≡ true → three ≡ true → tested one two three number places ≡ Ok places
all_pass true true true number places a b c = refl
all_pass false two three number places a b c = absurd (cc)
all_pass true false three number places a b c = absurd (cc)
all_pass true true false number places a b c = absurd (cc)

places_there : (rows : ℕ) (sizes starts lengths : List ℕ) (row count : ℕ) → length starts ≡ length sizes → is_box_inside sizes starts lengths ≡ true → product (rows ∷ sizes) < 2 ^ 64 → row + count ≤ rows
    → places_of (subset (record { starts = row ∷ starts; lengths = count ∷ lengths })) (rows ∷ sizes) ≡ Ok (map (row_major (rows ∷ sizes)) (box_tuples (row ∷ starts) (count ∷ lengths)))
places_there rows sizes starts lengths row count axes inside small fits =
    all_pass (length (row ∷ starts) == length (rows ∷ sizes)) (is_box_inside (rows ∷ sizes) (row ∷ starts) (count ∷ lengths)) (nat_lt (product (rows ∷ sizes)) (2 ^ 64)) (product (rows ∷ sizes)) (map (row_major (rows ∷ sizes)) (box_tuples (row ∷ starts) (count ∷ lengths)))
    (grind (arith, nat_tests))
    (and_from _ _ (grind (arith, nat_tests)) inside)
    (grind (arith, nat_tests))

-- what the reader of a chunk answers of rows there is what the array has at these rows
pub part_answer : RowsAreAlike → (readers : List ArrayReader) (rows : ℕ) (sizes starts lengths : List ℕ) (chunks : List Chunk) (row count : ℕ) (default : ArrayReader) → length starts ≡ length sizes → ReadChunks (rows ∷ sizes) readers chunks → product (rows ∷ sizes) < 2 ^ 64 → is_box_inside sizes starts lengths ≡ true
    → row / rows < length chunks → row % rows + count ≤ rows
    → (get_or readers (row / rows) default).answer (subset (record { starts = (row % rows) ∷ starts; lengths = count ∷ lengths })) ≡ Ok (at_rows (array_element (rows ∷ sizes) chunks) starts lengths row count)
part_answer alike readers rows sizes starts lengths chunks row count default axes read small inside number fits =
    read.each (row / rows) default number (subset (record { starts = (row % rows) ∷ starts; lengths = count ∷ lengths }))
    ∙ ap (seen (select (get_or chunks (row / rows) []))) (places_there rows sizes starts lengths (row % rows) count axes inside small fits)
    ∙ ap Ok (sym (rows_in_chunk alike rows sizes chunks starts lengths row count fits))

-- ---- what is read so far

-- so many rows, and others behind them
pub more_read : BoxesAreCut → (f : List ℕ → Element) (type : ElementType) (done : ℕ) (joined both : Held) (starts lengths : List ℕ) (start row count : ℕ) (answer : Result Chunk CodecError) → start ≤ row → length (box_tuples (start ∷ starts) ((row - start) ∷ lengths)) ≡ (row - start) * product lengths → done ≡ (row - start) * product lengths
    → Holds type joined (at_rows f starts lengths start (row - start)) → answer ≡ Ok (at_rows f starts lengths row count)
    → IsOkAnd (seen (λ chunk. elements type done joined ++ chunk) answer) (Holds type both)
    → Holds type both (at_rows f starts lengths start (row + count - start))
more_read cut f type done joined both starts lengths start row count answer order counted done_is before part h =
    let long : length (at_rows f starts lengths start (row - start)) ≡ done =
    length-map (box_tuples (start ∷ starts) ((row - start) ∷ lengths)) f ∙ counted ∙ sym done_is in
    let front : elements type done joined ≡ at_rows f starts lengths start (row - start) = subst (λ n. elements type n joined ≡ at_rows f starts lengths start (row - start)) long before.elements_are in
    let here : Holds type both (elements type done joined ++ at_rows f starts lengths row count) =
    subst (λ (r : Result Chunk CodecError). IsOkAnd (seen (λ chunk. elements type done joined ++ chunk) r) (Holds type both)) part h in
    let there : start + (row - start) ≡ row = omega arith in
    let whole : row + count - start ≡ (row - start) + count = omega arith in
    let split : at_rows f starts lengths start (row + count - start) ≡ at_rows f starts lengths start (row - start) ++ at_rows f starts lengths row count =
    ap (at_rows f starts lengths start) whole ∙ rows-append cut f starts lengths start (row - start) count ∙ ap (λ n. at_rows f starts lengths start (row - start) ++ at_rows f starts lengths n count) there in
    subst (Holds type both) (ap (λ xs. xs ++ at_rows f starts lengths row count) front ∙ sym split) here

-- an error that isn't excused was none of a part that there is
pub part_refused : {V W : Type 0} (error : CodecError) (answer : Result V CodecError) (f : V → V) (part : V) (whole : W) → answer ≡ Ok part → Excused (memory_or_fault error) (seen f answer ≡ Err error) → Excused (memory_or_fault error) ((let expected : Result W CodecError = Ok whole in expected) ≡ Err error)
part_refused error answer f part whole is h = λ wants. absurd (never (ap (seen f) (sym is) ∙ h wants))
  where
    never : (let one : Result _ CodecError = Ok (f part) in one ≡ Err error) → ⊥
    never e = cc

-- ---- a step

-- the part that a call gives is the expected one
pub same_part : (one other : Region) → (let given : Result Region CodecError = Ok one in given ≡ Ok other) → other ≡ one
same_part one other e = cc

-- what is read and what is read next are no more elements than 64 bits count
pub few_there : (row start end count p done more : ℕ) → start ≤ row → row + count ≤ end → done ≡ (row - start) * p → more ≡ count * p → (end - start) * p < 2 ^ 64 → done + more < 2 ^ 64
few_there row start end count p done more order within done_is more_is few =
    let both = product_few (row - start) count (end - start) p (2 ^ 64) (omega arith) few in
    omega (arith, both, done_is, more_is)

-- how many they are
pub count_there : (row start count p done more : ℕ) → start ≤ row → done ≡ (row - start) * p → more ≡ count * p → done + more ≡ (row + count - start) * p
count_there row start count p done more order done_is more_is =
    let gone : row + count - start ≡ (row - start) + count = omega arith in
    product_more (row - start) count p done more done_is more_is ∙ sym (ap (λ n. n * p) gone)

-- a reader of nothing
pub no_reader : ArrayReader
no_reader = record { sizes = []; type = bytes; is_stored = false; answer = λ _. Err OutOfBounds; sure = λ _. false; in_part = false }

-- the same answer of the readers as they are by then, and of the part as it is given
pub step_answer : RowsAreAlike → (readers current : List ArrayReader) (rows : ℕ) (sizes starts lengths : List ℕ) (chunks : List Chunk) (row count : ℕ) (part : Region) → current ≡ readers → part ≡ record { starts = (row % rows) ∷ starts; lengths = count ∷ lengths }
    → length starts ≡ length sizes → ReadChunks (rows ∷ sizes) readers chunks → product (rows ∷ sizes) < 2 ^ 64 → is_box_inside sizes starts lengths ≡ true → row / rows < length chunks → row % rows + count ≤ rows
    → (get_or current (row / rows) no_reader).answer (subset part) ≡ Ok (at_rows (array_element (rows ∷ sizes) chunks) starts lengths row count)
step_answer alike readers current rows sizes starts lengths chunks row count part kept is axes read small inside number fits =
    ap (λ (rs : List ArrayReader). (get_or rs (row / rows) no_reader).answer (subset part)) kept
    ∙ ap (λ (p : Region). (get_or readers (row / rows) no_reader).answer (subset p)) is
    ∙ part_answer alike readers rows sizes starts lengths chunks row count no_reader axes read small inside number fits
