-- What the calls of an update require, at each kind.
use Rattle.std.proofs.Common.{◌≡◌, ℕ, suc, ◌+◌, ◌-◌, ◌*◌, ◌<◌, ◌≤◌, Bool, true, List, [], ◌∷◌, length, map, map-id, set, Some, Ok, IsOk, refl, sym, ap, ap₂, ◌∙◌, arith, zero}
use Rattle.std.specs.List.{All, concat, list_all, range_with_len}
use Rattle.std.proofs.lemmas.Simd.{map-map}
use Rattle.std.proofs.lemmas.List.Folds.{flat_map-map}
use Rattle.std.proofs.lemmas.List.Elements.{All-cons, All-tail, All-set}
use Rattle.zarrs_chunk.specs.Runs.{joined_runs}
use Rattle.zarrs_data_type.specs.ElementType.{ElementType, fixed, text, bytes, optional, element_size, fixed_size_of, inner_of}
use Rattle.zarrs_array_bytes.specs.Held.{Raw, Held, flen, vlen, masked, owned_bytes}
use Rattle.zarrs_array_bytes.specs.Parts.{fixed_part, variable_part, optional_part, bytes_in, offsets_in, inner_in}
use Rattle.zarrs_array_bytes.specs.Elements.{cut}
use Rattle.zarrs_array_bytes.specs.Pieces.{pieces, ends, bytes_with_offsets, variable_of}
use Rattle.zarrs_array_bytes.specs.Validity.{LengthRefusal, levels_fit}
use Rattle.zarrs_array_bytes.specs.Update.{update, cuts, cuts_update, container_update, with_runs}
use Rattle.zarrs_array_bytes.specs.Sources.{source_bytes, IsSourceOf}
use Rattle.zarrs_array_bytes.specs.declared.sources.Source.{Source}
use Rattle.zarrs_array_bytes.specs.declared.sources.Source.TheVariants.{Old, New}
use Rattle.zarrs_array_bytes.specs.SameBytesLaws.{both_true}
use Rattle.zarrs_array_bytes.proofs.OffsetLemmas.{offsets_rise, offsets_begin, offsets_end}
use Rattle.zarrs_array_bytes.proofs.ValidLemmas.{raw_items, fixed_fits, variable_fits, inner_fits}
use Rattle.zarrs_array_bytes.proofs.WriteLemmas.{map-update, with_runs-update}

-- two containers of one type have one kind
pub fixed_too : (r e : LengthRefusal) (t : ElementType) (n m : ℕ) (raw : Raw) (g : Held) → levels_fit r t n (flen raw) ≡ Ok tt → levels_fit e t m g ≡ Ok tt → IsOk (fixed_part g)
fixed_too r e (fixed w c s) n m raw (flen q) a b = refl
fixed_too r e (fixed w c s) n m raw (vlen q us) a b = cc
fixed_too r e (fixed w c s) n m raw (masked g k) a b = cc
fixed_too r e text n m raw g a b = cc
fixed_too r e bytes n m raw g a b = cc
fixed_too r e (optional t) n m raw g a b = cc

pub variable_too : (r e : LengthRefusal) (t : ElementType) (n m : ℕ) (raw : Raw) (os : List ℕ) (g : Held) → levels_fit r t n (vlen raw os) ≡ Ok tt → levels_fit e t m g ≡ Ok tt → IsOk (variable_part g)
variable_too r e (fixed w c s) n m raw os g a b = cc
variable_too r e text n m raw os (flen q) a b = cc
variable_too r e text n m raw os (vlen q us) a b = refl
variable_too r e text n m raw os (masked g k) a b = cc
variable_too r e bytes n m raw os (flen q) a b = cc
variable_too r e bytes n m raw os (vlen q us) a b = refl
variable_too r e bytes n m raw os (masked g k) a b = cc
variable_too r e (optional t) n m raw os g a b = cc

pub optional_too : (r e : LengthRefusal) (t : ElementType) (n m : ℕ) (h : Held) (raw : Raw) (g : Held) → levels_fit r t n (masked h raw) ≡ Ok tt → levels_fit e t m g ≡ Ok tt → IsOk (optional_part g)
optional_too r e (fixed w c s) n m h raw g a b = cc
optional_too r e text n m h raw g a b = cc
optional_too r e bytes n m h raw g a b = cc
optional_too r e (optional t) n m h raw (flen q) a b = cc
optional_too r e (optional t) n m h raw (vlen q us) a b = cc
optional_too r e (optional t) n m h raw (masked g k) a b = refl

pub fixed_count : (e : LengthRefusal) (t : ElementType) (m : ℕ) (g : Held) (size : ℕ) → levels_fit e t m g ≡ Ok tt → fixed_size_of t ≡ Some size → length (bytes_in g) ≡ m * size
fixed_count e t m (flen q) size f i = fixed_fits e t m q size f i
fixed_count e (fixed w c s) m (vlen q us) size f i = cc
fixed_count e text m (vlen q us) size f i = cc
fixed_count e bytes m (vlen q us) size f i = cc
fixed_count e (optional t) m (vlen q us) size f i = cc
fixed_count e (fixed w c s) m (masked g b) size f i = cc
fixed_count e text m (masked g b) size f i = cc
fixed_count e bytes m (masked g b) size f i = cc
fixed_count e (optional t) m (masked g b) size f i = cc

pub variable_count : (e : LengthRefusal) (t : ElementType) (m : ℕ) (g : Held) → levels_fit e t m g ≡ Ok tt → IsOk (variable_part g) → length (offsets_in g) ≡ m + 1
variable_count e t m (vlen q us) f i = variable_fits e t m q us f
variable_count e t m (flen q) f i = cc
variable_count e t m (masked g b) f i = cc

pub inner_count : (e : LengthRefusal) (t u : ElementType) (m : ℕ) (g : Held) → levels_fit e t m g ≡ Ok tt → IsOk (optional_part g) → inner_of t ≡ Some u → levels_fit e u m (inner_in g) ≡ Ok tt
inner_count e t u m (masked g b) f i k = inner_fits e t u m g b f k
inner_count e t u m (flen q) f i k = cc
inner_count e t u m (vlen q us) f i k = cc

-- ---- sources

-- for each of so many places: its old element, or the one of the new data that was written last
abbrev pub sources : ℕ → List ℕ → List Source
sources count places = update (map Old (range_with_len 0 count)) places (map New (range_with_len 0 (length places)))

old_sources : (n m a k : ℕ) → a + k ≤ n → All (IsSourceOf n m) (map Old (range_with_len a k))
old_sources n m a zero l = λ i d h. absurd (omega arith)
old_sources n m a (suc k) l = All-cons (IsSourceOf n m) (Old a) (map Old (range_with_len (a + 1) k)) (let at : a < n = omega arith in at) (old_sources n m (a + 1) k (omega arith))

new_sources : (n m a k : ℕ) → a + k ≤ m → All (IsSourceOf n m) (map New (range_with_len a k))
new_sources n m a zero l = λ i d h. absurd (omega arith)
new_sources n m a (suc k) l = All-cons (IsSourceOf n m) (New a) (map New (range_with_len (a + 1) k)) (let at : a < m = omega arith in at) (new_sources n m (a + 1) k (omega arith))

pub All-update : {A : Type 0} (P : A → Type 0) (xs : List A) (ps : List ℕ) (ys : List A) → All P xs → All P ys → All P (update xs ps ys)
All-update P xs [] ys h e = h
All-update P xs (p ∷ ps) [] h e = h
All-update P xs (p ∷ ps) (y ∷ ys) h e = All-update P (set xs p y) ps ys (All-set P xs p y (e 0 y (omega arith)) h) (All-tail P y ys e)

-- each source is one of the old or of the new elements
pub sources_known : (n : ℕ) (ps : List ℕ) → All (IsSourceOf n (length ps)) (sources n ps)
sources_known n ps = All-update (IsSourceOf n (length ps)) (map Old (range_with_len 0 n)) ps (map New (range_with_len 0 (length ps))) (old_sources n (length ps) 0 n (omega arith)) (new_sources n (length ps) 0 (length ps) (omega arith))

bytes_with_offsets-map : {X : Type 0} (f : X → List ℕ) (xs : List X) → bytes_with_offsets f xs ≡ bytes_with_offsets (λ (part : List ℕ). part) (map f xs)
bytes_with_offsets-map f xs = ap₂ (λ bs parts. (bs, 0 ∷ ends 0 parts)) (sym (flat_map-map (λ (part : List ℕ). part) f xs)) (sym (map-id (map f xs)))

-- what the sources give is an update of what they come from
pub bytes_with_offsets-sources : (f g : ℕ → List ℕ) (n : ℕ) (ps : List ℕ)
    → bytes_with_offsets (source_bytes f g) (sources n ps) ≡ bytes_with_offsets (λ (part : List ℕ). part) (update (map f (range_with_len 0 n)) ps (map g (range_with_len 0 (length ps))))
bytes_with_offsets-sources f g n ps =
    bytes_with_offsets-map (source_bytes f g) (sources n ps)
    ∙ ap (λ parts. bytes_with_offsets (λ (part : List ℕ). part) parts) (map-update (source_bytes f g) (map Old (range_with_len 0 n)) ps (map New (range_with_len 0 (length ps)))
    ∙ ap₂ (λ xs ys. update xs ps ys) (map-map (source_bytes f g) Old (range_with_len 0 n)) (map-map (source_bytes f g) New (range_with_len 0 (length ps))))

pub updated_variable : (r e : LengthRefusal) (t : ElementType) (n m : ℕ) (raw : Raw) (os : List ℕ) (g : Held) (ps : List ℕ) → levels_fit r t n (vlen raw os) ≡ Ok tt → levels_fit e t m g ≡ Ok tt
    → container_update t n (vlen raw os) m g ps ≡ variable_of (bytes_with_offsets (λ (part : List ℕ). part) (update (cuts n os raw.items) ps (cuts m (offsets_in g) (bytes_in g))))
updated_variable r e text n m raw os (vlen q us) ps a b = refl
updated_variable r e text n m raw os (flen q) ps a b = cc
updated_variable r e text n m raw os (masked g k) ps a b = cc
updated_variable r e bytes n m raw os (vlen q us) ps a b = refl
updated_variable r e bytes n m raw os (flen q) ps a b = cc
updated_variable r e bytes n m raw os (masked g k) ps a b = cc
updated_variable r e (fixed w c s) n m raw os g ps a b = cc
updated_variable r e (optional t) n m raw os g ps a b = cc

-- ---- masks

all_set : (test : ℕ → Bool) (xs : List ℕ) (p y : ℕ) → list_all test xs ≡ true → test y ≡ true → list_all test (set xs p y) ≡ true
all_set test [] p y h e = refl
all_set test (x ∷ xs) zero y h e = rw e (both_true _ _ h).1
all_set test (x ∷ xs) (suc p) y h e =
    let first : test x ≡ true = (both_true _ _ h).0 in
    rw first (all_set test xs p y (both_true _ _ h).1 e)

pub list_all-update : (test : ℕ → Bool) (xs ps ys : List ℕ) → list_all test xs ≡ true → list_all test ys ≡ true → list_all test (update xs ps ys) ≡ true
list_all-update test xs [] ys h e = h
list_all-update test xs (p ∷ ps) [] h e = h
list_all-update test xs (p ∷ ps) (y ∷ ys) h e = list_all-update test (set xs p y) ps ys (all_set test xs p y h (both_true _ _ e).0) (both_true _ _ e).1

pub ruleset update_calls = (fixed_too, variable_too, optional_too, offsets_rise, offsets_begin, offsets_end, inner_fits, inner_count, raw_items)

-- ---- what each kind's call gives

updated_pieces : (r e : LengthRefusal) (t : ElementType) (n m : ℕ) (raw : Raw) (g : Held) (ps : List ℕ) (size : ℕ) → levels_fit r t n (flen raw) ≡ Ok tt → levels_fit e t m g ≡ Ok tt → fixed_size_of t ≡ Some size
    → container_update t n (flen raw) m g ps ≡ flen (owned_bytes (concat (update (pieces size n raw.items) ps (pieces size m (bytes_in g)))))
updated_pieces r e (fixed w c s) n m raw (flen q) ps size a b i =
    let is : element_size w c ≡ size = cc in
    ap (λ k. flen (owned_bytes (concat (update (pieces k n raw.items) ps (pieces k m q.items))))) is
updated_pieces r e (fixed w c s) n m raw (vlen q us) ps size a b i = cc
updated_pieces r e (fixed w c s) n m raw (masked g k) ps size a b i = cc
updated_pieces r e text n m raw g ps size a b i = cc
updated_pieces r e bytes n m raw g ps size a b i = cc
updated_pieces r e (optional t) n m raw g ps size a b i = cc

-- runs of bytes that are written make the updated container
pub written_fixed : (r e : LengthRefusal) (t : ElementType) (n : ℕ) (raw : Raw) (g : Held) (runs : List (ℕ × ℕ)) (size : ℕ) → levels_fit r t n (flen raw) ≡ Ok tt → levels_fit e t (length (joined_runs runs)) g ≡ Ok tt
    → fixed_size_of t ≡ Some size → All (λ run. run.0 + run.1 ≤ n) runs
    → container_update t n (flen raw) (length (joined_runs runs)) g (joined_runs runs) ≡ flen (owned_bytes (with_runs size raw.items runs (bytes_in g)))
written_fixed r e t n raw g runs size a b i inside =
    let new : length (bytes_in g) ≡ length (joined_runs runs) * size = fixed_count e t (length (joined_runs runs)) g size b i in
    updated_pieces r e t n (length (joined_runs runs)) raw g (joined_runs runs) size a b i
    ∙ ap (λ xs. flen (owned_bytes xs)) (sym (with_runs-update size n raw.items runs (bytes_in g) (fixed_fits r t n raw size a i) inside (omega arith)))

-- an update of the bytes between offsets makes the updated container
pub written_variable : (r e : LengthRefusal) (t : ElementType) (n : ℕ) (raw : Raw) (os : List ℕ) (g : Held) (ps : List ℕ) → levels_fit r t n (vlen raw os) ≡ Ok tt → levels_fit e t (length ps) g ≡ Ok tt
    → container_update t n (vlen raw os) (length ps) g ps ≡ variable_of (cuts_update os raw.items (offsets_in g) (bytes_in g) ps)
written_variable r e t n raw os g ps a b =
    let kind : IsOk (variable_part g) = variable_too r e t n (length ps) raw os g a b in
    let old : n ≡ length os - 1 = omega (arith, variable_fits r t n raw os a) in
    let new : length ps ≡ length (offsets_in g) - 1 = omega (arith, variable_count e t (length ps) g b kind) in
    updated_variable r e t n (length ps) raw os g ps a b
    ∙ ap₂ (λ k m. variable_of (bytes_with_offsets (λ (part : List ℕ). part) (update (cuts k os raw.items) ps (cuts m (offsets_in g) (bytes_in g))))) old new

-- what the sources give is the update
pub cuts_update-sources : (os old us new ps : List ℕ) → length us ≡ length ps + 1
    → bytes_with_offsets (source_bytes (cut os old) (cut us new)) (sources (length os - 1) ps) ≡ cuts_update os old us new ps
cuts_update-sources os old us new ps e =
    let count : length ps ≡ length us - 1 = omega (arith, e) in
    bytes_with_offsets-sources (cut os old) (cut us new) (length os - 1) ps
    ∙ ap (λ m. bytes_with_offsets (λ (part : List ℕ). part) (update (cuts (length os - 1) os old) ps (cuts m us new))) count
