-- A region whose planned chunks were read one after another.
use Rattle.std.proofs.Common.{◌≡◌, ◌∙◌, ℕ, suc, Option, List, [], ◌∷◌, length, map, get_or, Result, Ok, Err, arith, refl, ap, sym, subst}
use Rattle.std.specs.Prelude.{Contains, IfErr, IfOk, IsOkAnd, string_bytes}
use Rattle.std.specs.List.{All}
use Rattle.std.proofs.lemmas.List.{get_or_default}
use Rattle.std.proofs.lemmas.Simd.{map-map}
use Rattle.zarrs_array_bytes.specs.Held.{Held}
use Rattle.zarrs_array_bytes.specs.Validity.{Holds}
use Rattle.zarrs_chunk.specs.Answer.{◌>>=◌, AnswersBy, Excused, memory, memory_or_fault}
use Rattle.zarrs_chunk.specs.Region.{Region}
use Rattle.zarrs_chunk.specs.Tuples.{box_tuples}
use Rattle.zarrs_chunk.specs.declared.codec_error.CodecError.{CodecError}
use Rattle.zarrs_data_type.specs.Element.{Chunk, Element}
use Rattle.zarrs_data_type.specs.ElementType.{ElementType}
use Rattle.zarrs_grid.specs.Parts.{box_in_chunk}
use Rattle.zarrs_grid.specs.RegionElements.{elements_of_part, region_elements}
use Rattle.zarrs_grid.specs.Touched.{touched_chunks}
use Rattle.zarrs_grid.specs.declared.chunk_part.ChunkPart.{ChunkPart}
use Rattle.zarrs_array_plan.specs.ArrayForm.{ArrayForm}
use Rattle.zarrs_array_plan.specs.ChunkArrays.{element_by_chunks}
use Rattle.zarrs_array_plan.specs.ChunkKeys.{key_of}
use Rattle.zarrs_array_plan.specs.Joined.{AllChunksMakeTheRegion, HoldsChunks, IsRegionPart, region_fill}
use Rattle.zarrs_array_plan.specs.PlanLaws.{PlansCutTheRegion}
use Rattle.zarrs_array_plan.specs.Planned.{HasOwnKey, IsRegionPlan, LiesInArray, checked_plan}
use Rattle.zarrs_array_plan.specs.declared.planned_chunk.PlannedChunk.{PlannedChunk}
use Rattle.zarrs_region_reads.specs.JoinedRead.{IsReadAs, JoinsReads, planned_chunks, planned_read}
use Rattle.zarrs_region_reads.specs.RegionRead.{PartReads, ReadsArray, all_read, chunk_read, region_part_read, region_checked, region_read, touched_keys}
use Rattle.zarrs_region_reads.proofs.RegionSteps.{no_memory}
use Rattle.zarrs_region_reads.proofs.PartsRead.{read_again, same_parts}

-- ---- reads one after another

-- reads that are the same give the same first error
same_reads : {P Q : Type 0} (read : P → Result Chunk CodecError) (other : Q → Result Chunk CodecError) (f : P → Q) (parts : List P)
    → ((part : P) → Contains parts part → read part ≡ other (f part)) → all_read read parts ≡ all_read other (map f parts)
same_reads read other f [] same = refl
same_reads read other f (part ∷ parts) same =
    ap (λ (r : Result Chunk CodecError). r >>= λ _. all_read read parts) (same part (0, omega arith, refl))
    ∙ ap (λ (rest : Result (Unit {0}) CodecError). other (f part) >>= λ _. rest)
    (same_reads read other f parts (λ one c. same one (suc c.0, omega (arith, c.1), c.2)))

-- where each can be read, no error is due
none_refused : {P : Type 0} (read : P → Result Chunk CodecError) (chunks : P → Chunk) (parts : List P)
    → ((part : P) → Contains parts part → read part ≡ Ok (chunks part)) → all_read read parts ≡ Ok tt
none_refused read chunks [] each = refl
none_refused read chunks (part ∷ parts) each =
    ap (λ (r : Result Chunk CodecError). r >>= λ _. all_read read parts) (each part (0, omega arith, refl))
    ∙ none_refused read chunks parts (λ one c. each one (suc c.0, omega (arith, c.1), c.2))

-- ---- what is checked first

checks_passed : (type : ElementType) (form : ArrayForm) (region : Region) (fill : List ℕ) (X : Type 0) (next : Result X CodecError) (n : ℕ) (filled : Chunk)
    → checked_plan form region ≡ Ok n → region_fill type region fill ≡ Ok filled → (region_checked type form region fill >>= λ _. next) ≡ next
checks_passed type form region fill X next n filled h fills = rw (h, fills) refl

-- ---- a region that lies in the array

module _ (reads : PartReads) (values : List ℕ → Option (List ℕ)) (form : ArrayForm) (region : Region)
    (counted : (stored : Option (List ℕ)) (part : Region) (chunk : Chunk) → reads stored part ≡ Ok chunk → length chunk ≡ length (box_tuples part.starts part.lengths))
    (lies : LiesInArray form region) where
  abbrev pub read : List ℕ → Result Chunk CodecError
  read = region_part_read reads values form region

  abbrev pub as_read : List ℕ → Element
  as_read = element_by_chunks form.chunk_shape (chunk_read form.chunk_shape region read)

  -- each chunk that is read has the elements that were read
  pub has_read : (numbers : List ℕ) (chunk : Chunk) → Contains (touched_chunks form.chunk_shape region) numbers → read numbers ≡ Ok chunk
      → chunk ≡ elements_of_part as_read form.chunk_shape region numbers
  has_read numbers chunk c is =
      read_again form.chunk_shape region read numbers chunk lies.grid c is (counted (values (key_of form.keys numbers)) (box_in_chunk form.chunk_shape region numbers) chunk is)

  -- of an array as which all chunks are read, the region's elements are those that were read
  pub read_as : (type : ElementType) (fill : List ℕ) (element : List ℕ → Element) → ReadsArray reads values form region element
      → region_read reads values type form region fill ≡ (region_checked type form region fill >>= λ _. Ok (region_elements element region))
  read_as type fill element each =
      let part : List ℕ → Chunk = elements_of_part element form.chunk_shape region in
      let same = same_parts as_read element form.chunk_shape region lies.grid (λ numbers c. sym (has_read numbers (part numbers) c (each lies.grid numbers c))) in
      ap (λ (rest : Result (Unit {0}) CodecError). region_checked type form region fill >>= λ _. (rest >>= λ _. Ok (region_elements as_read region)))
      (none_refused read part (touched_chunks form.chunk_shape region) (each lies.grid))
      ∙ ap (λ (elements : Chunk). region_checked type form region fill >>= λ _. Ok elements) same

  module _ (planned : List PlannedChunk) (plan : IsRegionPlan form region planned) (cuts : PlansCutTheRegion) where
    own_parts : All (λ it. IsRegionPart form.chunk_shape region it.part) planned
    own_parts = (cuts form region planned lies plan).parts

    -- the chunks are those that the region touches
    chunks_are : planned_chunks planned ≡ touched_chunks form.chunk_shape region
    chunks_are = sym (map-map (λ (part : ChunkPart). part.chunk.items) (λ (it : PlannedChunk). it.part) planned) ∙ plan.parts.chunks

    own_read : (it : PlannedChunk) → Contains planned it → planned_read reads values it ≡ read it.part.chunk.items
    own_read it c =
        let own = subst (IsRegionPart form.chunk_shape region) (ap (λ (x : PlannedChunk). x.part) c.2) (own_parts c.0 it c.1) in
        let key = subst (HasOwnKey form.keys) c.2 (plan.keys c.0 it c.1) in
        ap (λ (bytes : List ℕ). reads (values bytes) it.part.in_chunk) key
        ∙ ap (reads (values (key_of form.keys it.part.chunk.items))) own.is.in_chunk

    is_touched : (it : PlannedChunk) → Contains planned it → Contains (touched_chunks form.chunk_shape region) it.part.chunk.items
    is_touched it c = (subst (IsRegionPart form.chunk_shape region) (ap (λ (x : PlannedChunk). x.part) c.2) (own_parts c.0 it c.1)).touched

    each_as_read : All (IsReadAs as_read form.chunk_shape region (planned_read reads values)) planned
    each_as_read = λ k d l.
        let it = get_or planned k d in
        let c : Contains planned it = (k, l, get_or_default planned k it d l) in
        at it (planned_read reads values it) (λ chunk is. has_read it.part.chunk.items chunk (is_touched it c) (sym (own_read it c) ∙ is)) refl
      where
        at : (it : PlannedChunk) (r : Result Chunk CodecError)
            → ((chunk : Chunk) → planned_read reads values it ≡ Ok chunk → chunk ≡ elements_of_part as_read form.chunk_shape region it.part.chunk.items)
            → planned_read reads values it ≡ r → IfOk r (λ chunk. chunk ≡ elements_of_part as_read form.chunk_shape region it.part.chunk.items)
        at it (Ok chunk) h e = h chunk e
        at it (Err error) h e = tt

    -- the keys are those of the touched chunks
    pub keys_are : map (λ (it : PlannedChunk). string_bytes it.key) planned ≡ touched_keys form region
    keys_are =
        same_map planned (λ it c. subst (HasOwnKey form.keys) c.2 (plan.keys c.0 it c.1))
        ∙ sym (map-map (key_of form.keys) (λ (it : PlannedChunk). it.part.chunk.items) planned)
        ∙ ap (map (key_of form.keys)) chunks_are
      where
        same_map : (its : List PlannedChunk) → ((it : PlannedChunk) → Contains its it → HasOwnKey form.keys it)
            → map (λ (it : PlannedChunk). string_bytes it.key) its ≡ map (λ (it : PlannedChunk). key_of form.keys it.part.chunk.items) its
        same_map [] own = refl
        same_map (it ∷ its) own = λ i.
            own it (0, omega arith, refl) i ∷ same_map its (λ one c. own one (suc c.0, omega (arith, c.1), c.2)) i

    -- what the planned chunks were joined to is the region as it is read
    pub region_joined : (type : ElementType) (fill : List ℕ) (begun : Held) (result : Result Held CodecError) (n : ℕ) (filled : Chunk)
        → checked_plan form region ≡ Ok n → region_fill type region fill ≡ Ok filled → AllChunksMakeTheRegion
        → HoldsChunks type as_read form.chunk_shape region [] begun → JoinsReads (planned_read reads values) type region planned begun result
        → AnswersBy memory_or_fault (Holds type) result (region_read reads values type form region fill)
    region_joined type fill begun result n filled checked fills make holds joins =
        subst (AnswersBy memory_or_fault (Holds type) result) (sym checked_so) (at result (joins as_read form.chunk_shape own_parts holds each_as_read))
      where
        checked_so : region_read reads values type form region fill ≡ (all_read read (touched_chunks form.chunk_shape region) >>= λ _. Ok (region_elements as_read region))
        checked_so = checks_passed type form region fill Chunk (all_read read (touched_chunks form.chunk_shape region) >>= λ _. Ok (region_elements as_read region)) n filled checked fills

        same : all_read (planned_read reads values) planned ≡ all_read read (touched_chunks form.chunk_shape region)
        same = same_reads (planned_read reads values) read (λ (it : PlannedChunk). it.part.chunk.items) planned own_read ∙ ap (all_read read) chunks_are

        all_there : (numbers : List ℕ) → Contains (touched_chunks form.chunk_shape region) numbers → Contains (planned_chunks planned) numbers
        all_there numbers c = subst (λ (chunks : List (List ℕ)). Contains chunks numbers) (sym chunks_are) c

        whole : (held : Held) → HoldsChunks type as_read form.chunk_shape region (planned_chunks planned) held → Holds type held (region_elements as_read region)
        whole held h = make type as_read form.chunk_shape region (planned_chunks planned) held lies.grid all_there h

        by : (held : Held) (r : Result (Unit {0}) CodecError) → IsOkAnd r (λ _. HoldsChunks type as_read form.chunk_shape region (planned_chunks planned) held)
            → IsOkAnd (r >>= λ _. Ok (region_elements as_read region)) (Holds type held)
        by held (Ok u) h = whole held h
        by held (Err e) h = absurd h

        refused : (e : CodecError) (r : Result (Unit {0}) CodecError) → r ≡ Err e → (r >>= λ _. Ok (region_elements as_read region)) ≡ Err e
        refused e (Ok u) h = absurd (cc)
        refused e (Err d) h = cc

        at : (r : Result Held CodecError)
            → AnswersBy memory_or_fault (λ joined _. HoldsChunks type as_read form.chunk_shape region (planned_chunks planned) joined) r (all_read (planned_read reads values) planned)
            → AnswersBy memory_or_fault (Holds type) r (all_read read (touched_chunks form.chunk_shape region) >>= λ _. Ok (region_elements as_read region))
        at (Ok held) h = by held (all_read read (touched_chunks form.chunk_shape region))
            (subst (λ (r : Result (Unit {0}) CodecError). IsOkAnd r (λ _. HoldsChunks type as_read form.chunk_shape region (planned_chunks planned) held)) same h)
        at (Err e) h = λ loud. refused e (all_read read (touched_chunks form.chunk_shape region)) (sym same ∙ h loud)

-- ---- errors before a chunk is read

-- an error of what is checked is the answer
pub first_refused : {T V W : Type 0} (R : T → W → Type 0) (r : Result V CodecError) (e : CodecError) → Excused (memory e) (r ≡ Err e)
    → IfErr r (λ cause. AnswersBy memory R (Err e) (Err cause))
first_refused R (Ok x) e h = tt
first_refused {V = V} R (Err cause) e h = λ quiet.
    let same : ◌≡◌ {A = Result V CodecError} (Err cause) (Err e) = h quiet in
    (let errors : cause ≡ e = cc in ap (λ (error : CodecError). let it : Result _ CodecError = Err error in it) errors)

-- what is checked passed
pub record Passed {T : Type 0} (r : Result T CodecError) (P : T → Type 0) : Type 0 where
  pub value : T
  pub is : r ≡ Ok value
  pub holds : P value

pub passed : {T : Type 0} (r : Result T CodecError) (P : T → Type 0) → IsOkAnd r P → Passed r P
passed (Ok x) P h = record { value = x; is = refl; holds = h }
passed (Err e) P h = absurd h

pub none_first : (type : ElementType) (form : ArrayForm) (region : Region) (fill : List ℕ) (P : CodecError → Type 0) (n : ℕ) (filled : Chunk)
    → checked_plan form region ≡ Ok n → region_fill type region fill ≡ Ok filled → IfErr (region_checked type form region fill) P
none_first type form region fill P n filled h fills = rw (h, fills) tt

pub plan_first : (type : ElementType) (form : ArrayForm) (region : Region) (fill : List ℕ) (e : CodecError) → Excused (memory e) (checked_plan form region ≡ Err e)
    → Excused (memory e) (region_checked type form region fill ≡ Err e)
plan_first type form region fill e h = λ quiet. rw (h quiet) refl

pub fill_first : (type : ElementType) (form : ArrayForm) (region : Region) (fill : List ℕ) (n : ℕ) (e : CodecError) → checked_plan form region ≡ Ok n
    → Excused (memory e) (region_fill type region fill ≡ Err e) → Excused (memory e) (region_checked type form region fill ≡ Err e)
fill_first type form region fill n e checked h = λ quiet. rw (checked, h quiet) refl

pub ends_first : {V W : Type 0} (r : Result V CodecError) (next : V → Result W CodecError) (e : CodecError) → Excused (memory e) (r ≡ Err e) → Excused (memory_or_fault e) ((r >>= next) ≡ Err e)
ends_first r next e h = λ quiet. at next r (no_memory e (r ≡ Err e) quiet h)
  where
    at : {V W : Type 0} (next : V → Result W CodecError) (r : Result V CodecError) → r ≡ Err e → (r >>= next) ≡ Err e
    at next (Ok x) is = absurd (cc)
    at next (Err d) is = cc
