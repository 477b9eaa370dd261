-- Planned chunks that are read one after another.
use Rattle.std.proofs.Common.{◌≡◌, ◌∙◌, ◌⊎◌, inl, inr, ℕ, suc, ◌+◌, ◌<◌, ◌≤◌, Bool, true, false, List, [], ◌∷◌, ◌++◌, length, map, get_or, take, drop, Result, Ok, Err, arith, refl, ap, sym, subst}
use Rattle.std.specs.Prelude.{Contains, IsOkAnd}
use Rattle.std.specs.List.{All}
use Rattle.std.proofs.lemmas.List.{at_drop_more, drop_all, get_or-map, length-map, map_more, take_all}
use Rattle.std.proofs.lemmas.List.Elements.{Contains-append_cases}
use Rattle.zarrs_array_bytes.specs.Held.{Held}
use Rattle.zarrs_array_bytes.specs.Validity.{Holds}
use Rattle.zarrs_chunk.specs.Answer.{◌>>=◌, AnswersBy, Excused, fault, is_fault, memory, memory_or_fault, no_refusal}
use Rattle.zarrs_chunk.specs.Region.{Region}
use Rattle.zarrs_chunk.specs.declared.codec_error.CodecError.{CodecError}
use Rattle.zarrs_chunk.specs.declared.codec_error.CodecError.TheVariants.{Storage}
use Rattle.zarrs_data_type.specs.Element.{Chunk, Element}
use Rattle.zarrs_data_type.specs.ElementType.{ElementType}
use Rattle.zarrs_grid.specs.declared.chunk_part.ChunkPart.{ChunkPart}
use Rattle.zarrs_array_plan.specs.Joined.{HoldsChunks, IsRegionPart, JoinsPart}
use Rattle.zarrs_array_plan.specs.declared.planned_chunk.PlannedChunk.{PlannedChunk}
use Rattle.zarrs_stores.specs.StoreState.{AsksOnly, StoreState, after_get}
use Rattle.zarrs_region_reads.specs.JoinedRead.{IsReadAs, JoinsRead, planned_chunks}
use Rattle.zarrs_region_reads.specs.RegionRead.{AsksAmong, all_read}

-- ---- what calls leave of the store

-- a call that isn't a failure leaves it as it was
quiet_error : (T : Type 0) (e : CodecError) (state : StoreState) → fault e ≡ false → after_get {T = T} (Err e) state ≡ state
quiet_error T (Storage x) state h = absurd (cc)
quiet_error T _ state h = refl

pub quiet : {T : Type 0} (r : Result T CodecError) (state : StoreState) → is_fault r ≡ false → after_get r state ≡ state
quiet (Ok x) state h = refl
quiet {T = T} (Err e) state h = quiet_error T e state h

-- the key of a chunk is one of those of all chunks
pub asks_more : {P : Type 0} (key : P → List ℕ) (parts : List P) (part : P) (i : ℕ) (first before after : List ℕ → ℕ) → i < length parts → part ≡ get_or parts i part
    → AsksAmong (map key parts) first before → AsksOnly (key part) before after → AsksAmong (map key parts) first after
asks_more key parts part i first before after l is among only = λ other no.
    only other (λ same. no (i, omega (arith, l, length-map parts key), get_or-map key parts i part other l ∙ ap key (sym is) ∙ sym same))
    ∙ among other no

-- ---- a part is joined

-- an error of the read is the answer
pub read_refused : (read : Result Chunk CodecError) (type : ElementType) (region : Region) (part : ChunkPart) (answer : Held) (e : CodecError)
    → Excused (memory_or_fault e) (read ≡ Err e) → JoinsRead read type region part answer (Err e)
read_refused read type region part answer e h = λ element chunk_shape chunks own begun as_it. h

pub no_memory : (e : CodecError) (P : Type 0) → memory_or_fault e ≡ false → Excused (memory e) P → P
no_memory e P quiet h = by (memory e) refl
  where
    by : (m : Bool) → memory e ≡ m → P
    by true is = absurd (let loud : memory_or_fault e ≡ true = rw is refl in cc)
    by false is = h is

-- what was read is joined
pub read_joined : (read : Result Chunk CodecError) (type : ElementType) (region : Region) (part : ChunkPart) (answer content : Held) (result : Result Held CodecError)
    → IsOkAnd read (Holds type content) → JoinsPart type region part answer content result → JoinsRead read type region part answer result
read_joined (Err e) type region part answer content result holds joins = absurd holds
read_joined (Ok chunk) type region part answer content result holds joins = λ element chunk_shape chunks own begun as_it.
    let given = joins element chunk_shape chunks own begun (subst (Holds type content) as_it holds) in
    at (HoldsChunks type element chunk_shape region (part.chunk.items ∷ chunks)) result given.is
  where
    at : (Q : Held → Type 0) (r : Result Held CodecError) → AnswersBy memory (λ it (_ : Unit {0}). Q it) r (no_refusal {E = CodecError})
        → AnswersBy memory_or_fault (λ it (_ : Chunk). Q it) r (Ok chunk)
    at Q (Ok it) h = h
    at Q (Err e) h = λ loud. absurd (let never : ◌≡◌ {A = Result (Unit {0}) CodecError} (Ok tt) (Err e) = no_memory e (◌≡◌ {A = Result (Unit {0}) CodecError} (Ok tt) (Err e)) loud h in cc)

-- ---- one part more

more_chunks : (chunks : List (List ℕ)) (numbers : List ℕ) (one : List ℕ) → Contains (chunks ++ numbers ∷ []) one → Contains (numbers ∷ chunks) one
more_chunks chunks numbers one c = by (Contains-append_cases chunks (numbers ∷ []) one c)
  where
    by : Contains chunks one ⊎ Contains (numbers ∷ []) one → Contains (numbers ∷ chunks) one
    by (inl a) = (suc a.0, omega (arith, a.1), a.2)
    by (inr b) = (0, omega arith, let only : b.0 ≡ 0 = omega (arith, b.1) in subst (λ (k : ℕ). get_or (numbers ∷ []) k one ≡ one) only b.2)

-- a container that holds the elements of these chunks holds those of fewer
pub holds_so : (type : ElementType) (element : List ℕ → Element) (chunk_shape : List ℕ) (region : Region) (chunks : List (List ℕ)) (numbers : List ℕ) (held : Held)
    → HoldsChunks type element chunk_shape region (numbers ∷ chunks) held → HoldsChunks type element chunk_shape region (chunks ++ numbers ∷ []) held
holds_so type element chunk_shape region chunks numbers held h = record {
  valid = h.valid;
  has = record { long = h.has.long; each = λ place default l c. h.has.each place default l (more_chunks chunks numbers _ c) };
}

-- what is left to read, one part on
pub read_on : {P : Type 0} (read : P → Result Chunk CodecError) (parts : List P) (i : ℕ) (part : P) → i < length parts → part ≡ get_or parts i part
    → all_read read (drop i parts) ≡ (read part >>= λ _. all_read read (drop (i + 1) parts))
read_on {P} read parts i part l is =
    at_drop_more (all_read read) parts i part l ∙ ap (λ (p : P). read p >>= λ _. all_read read (drop (i + 1) parts)) (sym is)

-- an answer of the part is one of all that are left, or their error
pub refused_on : {A : Type 0} (read : Result Chunk CodecError) (more whole : Result (Unit {0}) CodecError) (Q : A → Chunk → Type 0) (R : A → Unit {0} → Type 0) (e : CodecError)
    → whole ≡ (read >>= λ _. more) → AnswersBy memory_or_fault Q (Err e) read → AnswersBy memory_or_fault R (Err e) whole
refused_on (Ok chunk) more whole Q R e is h = λ loud. absurd (let never : ◌≡◌ {A = Result Chunk CodecError} (Ok chunk) (Err e) = h loud in cc)
refused_on (Err d) more whole Q R e is h = λ loud.
    let same : ◌≡◌ {A = Result Chunk CodecError} (Err d) (Err e) = h loud in
    is ∙ (let errors : d ≡ e = cc in ap (λ (error : CodecError). let it : Result (Unit {0}) CodecError = Err error in it) errors)

pub passed_on : {A : Type 0} (read : Result Chunk CodecError) (more : Result (Unit {0}) CodecError) (Q : A → Type 0) (it : A)
    → IsOkAnd read (λ _. Q it) → (read >>= λ _. more) ≡ more
passed_on (Ok chunk) more Q it h = refl
passed_on (Err e) more Q it h = absurd h

pub held_on : {A : Type 0} (read : Result Chunk CodecError) (Q : A → Type 0) (it : A) → IsOkAnd read (λ _. Q it) → Q it
held_on (Ok chunk) Q it h = h
held_on (Err e) Q it h = absurd h

-- ---- planned chunks, one after another

-- The container holds the elements of so many planned chunks, the first ones, and the first error of all is that of those that are left.
pub record JoinedSoFar (read : PlannedChunk → Result Chunk CodecError) (type : ElementType) (element : List ℕ → Element) (chunk_shape : List ℕ) (region : Region) (planned : List PlannedChunk) (i : ℕ) (answer : Held) : Type 0 where
  pub holds : HoldsChunks type element chunk_shape region (planned_chunks (take i planned)) answer
  pub left : all_read read (drop i planned) ≡ all_read read planned

module _ (read : PlannedChunk → Result Chunk CodecError) (type : ElementType) (element : List ℕ → Element) (chunk_shape : List ℕ) (region : Region) (planned : List PlannedChunk)
    (own : All (λ it. IsRegionPart chunk_shape region it.part) planned) (as_it : All (IsReadAs element chunk_shape region read) planned) where
  pub none_joined : (begun : Held) → HoldsChunks type element chunk_shape region [] begun → JoinedSoFar read type element chunk_shape region planned 0 begun
  none_joined begun h = record { holds = h; left = refl }

  module _ (i : ℕ) (it : PlannedChunk) (answer : Held) (l : i < length planned) (is : it ≡ get_or planned i it) (so_far : JoinedSoFar read type element chunk_shape region planned i answer) where
    own_part : IsRegionPart chunk_shape region it.part
    own_part = subst (λ (x : PlannedChunk). IsRegionPart chunk_shape region x.part) (sym is) (own i it l)

    own_read : IsReadAs element chunk_shape region read it
    own_read = subst (IsReadAs element chunk_shape region read) (sym is) (as_it i it l)

    rest_is : all_read read planned ≡ (read it >>= λ _. all_read read (drop (i + 1) planned))
    rest_is = sym so_far.left ∙ read_on read planned i it l is

    numbers_more : planned_chunks (take (i + 1) planned) ≡ planned_chunks (take i planned) ++ it.part.chunk.items ∷ []
    numbers_more =
        map_more (λ (it : PlannedChunk). it.part.chunk.items) planned i it l ∙ ap (λ (x : PlannedChunk). planned_chunks (take i planned) ++ x.part.chunk.items ∷ []) (sym is)

    pub one_joined : (more : Held) → JoinsRead (read it) type region it.part answer (Ok more) → JoinedSoFar read type element chunk_shape region planned (i + 1) more
    one_joined more joins =
        let chunks = planned_chunks (take i planned) in
        let given = joins element chunk_shape chunks own_part so_far.holds own_read in
        let Q : Held → Type 0 = HoldsChunks type element chunk_shape region (it.part.chunk.items ∷ chunks) in
        record {
          holds = subst (λ (numbers : List (List ℕ)). HoldsChunks type element chunk_shape region numbers more) (sym numbers_more)
              (holds_so type element chunk_shape region chunks it.part.chunk.items more (held_on (read it) Q more given));
          left = sym (rest_is ∙ passed_on (read it) (all_read read (drop (i + 1) planned)) Q more given);
        }

    pub one_refused : (e : CodecError) (R : Held → Unit {0} → Type 0) → JoinsRead (read it) type region it.part answer (Err e) → AnswersBy memory_or_fault R (Err e) (all_read read planned)
    one_refused e R joins =
        let chunks = planned_chunks (take i planned) in
        refused_on (read it) (all_read read (drop (i + 1) planned)) (all_read read planned) (λ joined _. HoldsChunks type element chunk_shape region (it.part.chunk.items ∷ chunks) joined) R e rest_is
        (joins element chunk_shape chunks own_part so_far.holds own_read)

  pub all_joined : (i : ℕ) (answer : Held) → length planned ≤ i → JoinedSoFar read type element chunk_shape region planned i answer
      → AnswersBy memory_or_fault (λ joined _. HoldsChunks type element chunk_shape region (planned_chunks planned) joined) (Ok answer) (all_read read planned)
  all_joined i answer l so_far =
      let Q : Type 0 = HoldsChunks type element chunk_shape region (planned_chunks planned) answer in
      let none : all_read read planned ≡ Ok tt = sym so_far.left ∙ ap (all_read read) (drop_all i planned l) in
      subst (λ (r : Result (Unit {0}) CodecError). IsOkAnd r (λ _. Q)) (sym none)
      (subst (λ (its : List PlannedChunk). HoldsChunks type element chunk_shape region (planned_chunks its) answer) (take_all i planned l) so_far.holds)
