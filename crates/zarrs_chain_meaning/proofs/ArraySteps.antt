-- One array-to-array codec after another.
use Rattle.std.proofs.Common.{◌≡◌, ℕ, ◌-◌, ◌<◌, ◌^◌, nat_lt, if◌then◌else◌, Bool, true, List, [], ◌∷◌, length, take, drop, get_or, map, arith, Result, Ok, Err, IfOk, false, refl, ap, sym, subst, ◌∙◌}
use Rattle.std.specs.List.{All}
use Rattle.zarrs_chunk.specs.Answer.{◌>>=◌, seen, checked_u64, Answers, AnswersBy, memory}
use Rattle.zarrs_chunk.specs.ChunkShape.{product}
use Rattle.zarrs_chunk.specs.declared.codec_error.CodecError.{CodecError}
use Rattle.zarrs_chunk.specs.declared.codec_error.CodecError.TheVariants.{Overflow}
use Rattle.zarrs_data_type.specs.ElementType.{ElementType}
use Rattle.zarrs_data_type.specs.Element.{Chunk}
use Rattle.zarrs_array_bytes.specs.Elements.{elements}
use Rattle.zarrs_array_bytes.specs.Held.{Held}
use Rattle.zarrs_array_bytes.specs.Validity.{validity, Holds}
use Rattle.zarrs_codec.specs.CoordinateMap.{CoordinateMap, IsCoordinateMap, IsMapTo, same_places, composition, inverse_map, moved_chunk}
use Rattle.zarrs_codec.specs.MappedChunk.{encoded_chunk, decoded_chunk}
use Rattle.zarrs_array_to_array.specs.ArrayToArrayCodec.{ArrayMapping, coordinates}
use Rattle.zarrs_array_to_array.specs.CodecAnswers.{type_taken}
use Rattle.zarrs_array_to_array.specs.Mapping.{mapping_of}
use Rattle.zarrs_array_to_array.specs.declared.array_to_array_codec.ArrayToArrayCodec.{ArrayToArrayCodec}
use Rattle.zarrs_array_to_array.proofs.CodecLists.{mappings_are}
use Rattle.zarrs_array_to_array.proofs.CoordinateMaps.{composed_map, undone_map, length-moved, moved_twice, kept_places, same_places_map}
use Rattle.zarrs_chain_meaning.specs.ArrayStages.{codec_map, arrays_map, IsMapWhere}
use Rattle.zarrs_bytes.proofs.Coding.{ok, bind_ok}
use Rattle.zarrs_array_bytes.proofs.UpdatedLemmas.{length-elements}
use Rattle.zarrs_array_to_array.proofs.MappedChunks.{copied_decoded, copied_encoded, holds_elements}

-- ---- answers

abbrev pub err : {A : Type 0} → CodecError → Result A CodecError
err e = Err e

pub if_ok : {A : Type 0} (r : Result A CodecError) (P : A → Type 0) → ((x : A) → r ≡ Ok x → P x) → IfOk r P
if_ok (Ok x) P h = h x refl
if_ok (Err e) P h = tt

pub at_ok : {A : Type 0} (r : Result A CodecError) (P : A → Type 0) (x : A) → r ≡ Ok x → IfOk r P → P x
at_ok r P x e h = subst (λ (s : Result _ CodecError). IfOk s P) e h

pub ok_is : {A : Type 0} (x y : A) → ok x ≡ ok y → x ≡ y
ok_is x y e = cc

pub ok_no_err : {A : Type 0} (x : A) (e : CodecError) → ok x ≡ err e → ⊥
ok_no_err x e h = cc

pub error_is : {A : Type 0} (x : A) (cause error : CodecError) → err {A = A} cause ≡ err error → cause ≡ error
error_is x cause error e = cc

-- ---- the parts of a list of codecs

-- ---- shapes

seen_composed : (m : CoordinateMap) (rest : Result CoordinateMap CodecError) → seen (λ (n : CoordinateMap). n.encoded) (rest >>= (λ n. Ok (composition m n))) ≡ seen (λ (n : CoordinateMap). n.encoded) rest
seen_composed m (Ok n) = refl
seen_composed m (Err e) = refl

after_unit : {A B : Type 0} (r : Result (Unit {0}) CodecError) (x y : A) (s : Result B CodecError) → seen (λ _. x) r ≡ Ok y → r >>= (λ _. s) ≡ s
after_unit (Ok u) x y s e = refl
after_unit (Err error) x y s e = absurd cc

after_error : {A B : Type 0} (r : Result (Unit {0}) CodecError) (x : A) (error : CodecError) (s : Result B CodecError) → seen (λ _. x) r ≡ Err error → r >>= (λ _. s) ≡ Err error
after_error (Ok u) x error s e = absurd cc
after_error (Err cause) x error s e = ap err (error_is x cause error e)

-- what is seen of the whole is seen of the last step
seen_last : (first : Result CoordinateMap CodecError) (rest : List ℕ → Result CoordinateMap CodecError)
    → seen (λ (m : CoordinateMap). m.encoded) (first >>= (λ m. rest m.encoded >>= (λ n. Ok (composition m n))))
    ≡ seen (λ (m : CoordinateMap). m.encoded) first >>= (λ sizes. seen (λ (m : CoordinateMap). m.encoded) (rest sizes))
seen_last (Err e) rest = refl
seen_last (Ok m) rest = seen_composed m (rest m.encoded)

pub next_answer : {A B : Type 0} (r : Result A CodecError) (x : A) (f : A → Result B CodecError) → r ≡ Ok x → r >>= f ≡ f x
next_answer r x f e = rw e refl

-- the shape goes from codec to codec
pub shape_step : (type : ElementType) (codec : ArrayMapping) (codecs : List ArrayMapping) (sizes : List ℕ)
    → seen (λ (m : CoordinateMap). m.encoded) (arrays_map type (codec ∷ codecs) sizes)
    ≡ seen (λ (m : CoordinateMap). m.encoded) (codec_map type codec sizes) >>= (λ next. seen (λ (m : CoordinateMap). m.encoded) (arrays_map type codecs next))
shape_step type codec codecs sizes = seen_last (codec_map type codec sizes) (arrays_map type codecs)

-- a codec that takes the type makes of the shape what it makes of it
pub shape_of_taken : (type kept : ElementType) (codec : ArrayMapping) (sizes : List ℕ) → seen (λ _. type) (type_taken codec type) ≡ Ok kept
    → codec_map type codec sizes ≡ coordinates codec sizes
shape_of_taken type kept codec sizes e = after_unit (type_taken codec type) type kept (coordinates codec sizes) e

pub shape_refused : (type : ElementType) (codec : ArrayMapping) (sizes : List ℕ) (error : CodecError) → seen (λ _. type) (type_taken codec type) ≡ Err error
    → codec_map type codec sizes ≡ Err error
shape_refused type codec sizes error e = after_error (type_taken codec type) type error (coordinates codec sizes) e

-- ---- maps

-- what the first codec does, and what the others do behind it
pub record MapParts (type : ElementType) (codec : ArrayMapping) (codecs : List ArrayMapping) (sizes : List ℕ) (m : CoordinateMap) : Type 0 where
  pub first : CoordinateMap
  pub rest : CoordinateMap
  pub taken : type_taken codec type ≡ Ok tt
  pub done : coordinates codec sizes ≡ Ok first
  pub others : arrays_map type codecs first.encoded ≡ Ok rest
  pub is : m ≡ composition first rest

pub map_parts : (type : ElementType) (codec : ArrayMapping) (codecs : List ArrayMapping) (sizes : List ℕ) (m : CoordinateMap) → arrays_map type (codec ∷ codecs) sizes ≡ Ok m → MapParts type codec codecs sizes m
map_parts type codec codecs sizes m e =
    let a = bind_ok (codec_map type codec sizes) _ m e in
    let b = bind_ok (type_taken codec type) _ a.0 a.1 in
    let c = bind_ok (arrays_map type codecs a.0.encoded) _ m a.2 in
    record { first = a.0; rest = c.0; taken = b.1; done = b.2; others = c.1; is = sym (ok_is (composition a.0 c.0) m c.2) }

next_is : (codec : ArrayMapping) (sizes next : List ℕ) (m : CoordinateMap) → IsMapTo (coordinates codec sizes) sizes next → coordinates codec sizes ≡ Ok m → (m.encoded ≡ next) × IsCoordinateMap sizes m
next_is codec sizes next m h e = subst (λ (r : Result CoordinateMap CodecError). IsMapTo r sizes next) e h

pub map_more : (type : ElementType) (codec : ArrayMapping) (codecs : List ArrayMapping) (sizes next : List ℕ) → IsMapTo (coordinates codec sizes) sizes next → IsMapWhere type codecs next → IsMapWhere type (codec ∷ codecs) sizes
map_more type codec codecs sizes next h g =
    if_ok (arrays_map type (codec ∷ codecs) sizes) (λ m. IsCoordinateMap sizes m) (λ m e.
    let p = map_parts type codec codecs sizes m e in
    let n = next_is codec sizes next p.first h p.done in
    let rest : IsCoordinateMap p.first.encoded p.rest = at_ok (arrays_map type codecs p.first.encoded) (λ (m : CoordinateMap). IsCoordinateMap p.first.encoded m) p.rest p.others (subst (IsMapWhere type codecs) (sym n.0) g) in
    subst (IsCoordinateMap sizes) (sym p.is) (composed_map sizes p.first p.rest n.1 rest))

-- ---- chunks that the codecs take

-- the codecs take the chunk that the container holds, and do this with it
pub record TakenChunk (takes : Result (Unit {0}) CodecError) (coordinates : Result CoordinateMap CodecError) (type : ElementType) (sizes : List ℕ) (held : Held) : Type 0 where
  pub map_is : CoordinateMap
  pub taken : takes ≡ Ok tt
  pub done : coordinates ≡ Ok map_is
  pub counted : checked_u64 (product sizes) ≡ Ok (product sizes)
  pub valid : validity type (product sizes) held ≡ Ok tt

counted_test : (test : Bool) (n m : ℕ) → (if test then ok n else err Overflow) ≡ ok m → (if test then ok n else err Overflow) ≡ ok n
counted_test true n m e = refl
counted_test false n m e = absurd cc

pub counted_so : (n m : ℕ) → checked_u64 n ≡ Ok m → checked_u64 n ≡ Ok n
counted_so n m e = counted_test (nat_lt n (2 ^ 64)) n m e

encoded_parts : (takes : Result (Unit {0}) CodecError) (coordinates : Result CoordinateMap CodecError) (type : ElementType) (sizes : List ℕ) (held : Held) (chunk : Chunk) → encoded_chunk takes coordinates type sizes held ≡ Ok chunk
    → (t : TakenChunk takes coordinates type sizes held) × (chunk ≡ moved_chunk t.map_is (elements type (product sizes) held))
encoded_parts takes coordinates type sizes held chunk e =
    let a = bind_ok (takes >>= (λ _. coordinates >>= (λ m. checked_u64 (product sizes) >>= (λ _. validity type (product sizes) held >>= (λ _. Ok m))))) _ chunk e in
    let b = bind_ok takes _ a.0 a.1 in
    let c = bind_ok coordinates _ a.0 b.2 in
    let d = bind_ok (checked_u64 (product sizes)) _ a.0 c.2 in
    let f = bind_ok (validity type (product sizes) held) _ a.0 d.2 in
    let same : c.0 ≡ a.0 = ok_is c.0 a.0 f.2 in (
      record { map_is = c.0; taken = b.1; done = c.1; counted = counted_so (product sizes) d.0 d.1; valid = f.1 },
      sym (ok_is (moved_chunk a.0 (elements type (product sizes) held)) chunk a.2) ∙ ap (λ m. moved_chunk m (elements type (product sizes) held)) (sym same),
    )

decoded_parts : (takes : Result (Unit {0}) CodecError) (coordinates : Result CoordinateMap CodecError) (type : ElementType) (sizes : List ℕ) (held : Held) (chunk : Chunk) → decoded_chunk takes coordinates type sizes held ≡ Ok chunk
    → (t : TakenChunk takes coordinates type sizes held) × (chunk ≡ moved_chunk (inverse_map sizes t.map_is) (elements type (product sizes) held))
decoded_parts takes coordinates type sizes held chunk e =
    let a = bind_ok (takes >>= (λ _. coordinates >>= (λ m. checked_u64 (product sizes) >>= (λ _. validity type (product sizes) held >>= (λ _. Ok m))))) _ chunk e in
    let b = bind_ok takes _ a.0 a.1 in
    let c = bind_ok coordinates _ a.0 b.2 in
    let d = bind_ok (checked_u64 (product sizes)) _ a.0 c.2 in
    let f = bind_ok (validity type (product sizes) held) _ a.0 d.2 in
    let same : c.0 ≡ a.0 = ok_is c.0 a.0 f.2 in (
      record { map_is = c.0; taken = b.1; done = c.1; counted = counted_so (product sizes) d.0 d.1; valid = f.1 },
      sym (ok_is (moved_chunk (inverse_map sizes a.0) (elements type (product sizes) held)) chunk a.2) ∙ ap (λ m. moved_chunk (inverse_map sizes m) (elements type (product sizes) held)) (sym same),
    )

pub encoded_whole : (takes : Result (Unit {0}) CodecError) (coordinates : Result CoordinateMap CodecError) (type : ElementType) (sizes : List ℕ) (held : Held) (t : TakenChunk takes coordinates type sizes held) → encoded_chunk takes coordinates type sizes held ≡ Ok (moved_chunk t.map_is (elements type (product sizes) held))
encoded_whole takes coordinates type sizes held t = rw (t.taken, t.done, t.counted, t.valid) refl

pub decoded_whole : (takes : Result (Unit {0}) CodecError) (coordinates : Result CoordinateMap CodecError) (type : ElementType) (sizes : List ℕ) (held : Held) (t : TakenChunk takes coordinates type sizes held) → decoded_chunk takes coordinates type sizes held ≡ Ok (moved_chunk (inverse_map sizes t.map_is) (elements type (product sizes) held))
decoded_whole takes coordinates type sizes held t = rw (t.taken, t.done, t.counted, t.valid) refl

-- ---- encoding

pub encode_none : (type : ElementType) (sizes : List ℕ) (held : Held) → IfOk (encoded_chunk (Ok tt) (arrays_map type [] sizes) type sizes held) (λ chunk. Holds type held chunk)
encode_none type sizes held =
    if_ok (encoded_chunk (Ok tt) (arrays_map type [] sizes) type sizes held) (λ chunk. Holds type held chunk) (λ chunk e.
    let p = encoded_parts (Ok tt) (arrays_map type [] sizes) type sizes held chunk e in
    let is : p.0.map_is ≡ same_places sizes = sym (ok_is (same_places sizes) p.0.map_is p.0.done) in
    let stays : chunk ≡ elements type (product sizes) held = p.1 ∙ ap (λ m. moved_chunk m (elements type (product sizes) held)) is ∙ kept_places sizes (elements type (product sizes) held) (length-elements type (product sizes) held) in
    subst (Holds type held) (sym stays) (holds_elements type (product sizes) held p.0.valid))

-- the chunk that the first codec makes is one that the others take
taken_next : (type : ElementType) (sizes next : List ℕ) (first : CoordinateMap) (codecs : List ArrayMapping) (rest : CoordinateMap) (held : Held) (chunk : Chunk)
    → first.encoded ≡ next → IsCoordinateMap sizes first → arrays_map type codecs next ≡ Ok rest → checked_u64 (product sizes) ≡ Ok (product sizes) → length chunk ≡ product sizes → Holds type held chunk
    → (t : TakenChunk (Ok tt) (arrays_map type codecs next) type next held) × (t.map_is ≡ rest) × (elements type (product next) held ≡ chunk)
taken_next type sizes next first codecs rest held chunk n h e counted long holds =
    let count : product next ≡ product sizes = ap product (sym n) ∙ h.count in
    let same : length chunk ≡ product next = long ∙ sym count in (
      record {
        map_is = rest;
        taken = refl;
        done = e;
        counted = subst (λ (k : ℕ). checked_u64 k ≡ Ok k) (sym count) counted;
        valid = subst (λ (k : ℕ). validity type k held ≡ Ok tt) same holds.valid;
      },
      refl,
      subst (λ (k : ℕ). elements type k held ≡ chunk) same holds.elements_are,
    )

-- an answer for one chunk is one for an equal chunk
answer_for : (type : ElementType) (r : Result Held CodecError) (one other : Chunk) → one ≡ other → AnswersBy memory (Holds type) r (Ok one) → AnswersBy memory (Holds type) r (Ok other)
answer_for type r one other e h = subst (λ (c : Chunk). AnswersBy memory (Holds type) r (Ok c)) e h

-- the last step of one answer after another
encode_last : (type : ElementType) (codecs : List ArrayMapping) (sizes next : List ℕ) (first rest : CoordinateMap) (items : Chunk) (r : Result Held CodecError) (chunk : Chunk)
    → first.encoded ≡ next → IsCoordinateMap sizes first → arrays_map type codecs next ≡ Ok rest → IfOk r (λ _. IsMapWhere type codecs next) → chunk ≡ moved_chunk (composition first rest) items
    → AnswersBy memory (Holds type) r (Ok (moved_chunk rest (moved_chunk first items))) → AnswersBy memory (Holds type) r (Ok chunk)
encode_last type codecs sizes next first rest items (Ok held) chunk n h e maps is answers =
    let m : IsCoordinateMap next rest = at_ok (arrays_map type codecs next) (λ (m : CoordinateMap). IsCoordinateMap next m) rest e maps in
    let k : IsCoordinateMap first.encoded rest = subst (λ (s : List ℕ). IsCoordinateMap s rest) (sym n) m in
    answer_for type (Ok held) (moved_chunk rest (moved_chunk first items)) chunk (sym (moved_twice sizes first rest items h k) ∙ sym is) answers
encode_last type codecs sizes next first rest items (Err error) chunk n h e maps is answers =
    λ ne. absurd (ok_no_err (moved_chunk rest (moved_chunk first items)) error (answers ne))

pub encode_refused : (type : ElementType) (codec : ArrayMapping) (codecs : List ArrayMapping) (sizes : List ℕ) (held : Held) (error : CodecError)
    → IfOk (encoded_chunk (type_taken codec type) (coordinates codec sizes) type sizes held) (λ chunk. AnswersBy memory (Holds type) (Err error) (Ok chunk))
    → IfOk (encoded_chunk (Ok tt) (arrays_map type (codec ∷ codecs) sizes) type sizes held) (λ chunk. AnswersBy memory (Holds type) (Err error) (Ok chunk))
encode_refused type codec codecs sizes held error one =
    if_ok (encoded_chunk (Ok tt) (arrays_map type (codec ∷ codecs) sizes) type sizes held) (λ chunk. AnswersBy memory (Holds type) (Err error) (Ok chunk)) (λ chunk e.
    let p = encoded_parts (Ok tt) (arrays_map type (codec ∷ codecs) sizes) type sizes held chunk e in
    let q = map_parts type codec codecs sizes p.0.map_is p.0.done in
    let items = elements type (product sizes) held in
    let t : TakenChunk (type_taken codec type) (coordinates codec sizes) type sizes held = record { map_is = q.first; taken = q.taken; done = q.done; counted = p.0.counted; valid = p.0.valid } in
    let answers : AnswersBy memory (Holds type) (Err error) (Ok (moved_chunk q.first items)) = at_ok (encoded_chunk (type_taken codec type) (coordinates codec sizes) type sizes held) (λ (c : Chunk). AnswersBy memory (Holds type) (Err error) (Ok c)) (moved_chunk q.first items) (encoded_whole (type_taken codec type) (coordinates codec sizes) type sizes held t) one in
    λ ne. absurd (ok_no_err (moved_chunk q.first items) error (answers ne)))

pub encode_step : (type : ElementType) (codec : ArrayMapping) (codecs : List ArrayMapping) (sizes next : List ℕ) (held made : Held) (r : Result Held CodecError)
    → IsMapTo (coordinates codec sizes) sizes next
    → IfOk (encoded_chunk (type_taken codec type) (coordinates codec sizes) type sizes held) (λ chunk. Holds type made chunk)
    → IfOk r (λ _. IsMapWhere type codecs next)
    → IfOk (encoded_chunk (Ok tt) (arrays_map type codecs next) type next made) (λ chunk. AnswersBy memory (Holds type) r (Ok chunk))
    → IfOk (encoded_chunk (Ok tt) (arrays_map type (codec ∷ codecs) sizes) type sizes held) (λ chunk. AnswersBy memory (Holds type) r (Ok chunk))
unfolding map_parts taken_next
encode_step type codec codecs sizes next held made r h one maps found =
    if_ok (encoded_chunk (Ok tt) (arrays_map type (codec ∷ codecs) sizes) type sizes held) (λ chunk. AnswersBy memory (Holds type) r (Ok chunk)) (λ chunk e.
    let p = encoded_parts (Ok tt) (arrays_map type (codec ∷ codecs) sizes) type sizes held chunk e in
    let q = map_parts type codec codecs sizes p.0.map_is p.0.done in
    let n = next_is codec sizes next q.first h q.done in
    let items = elements type (product sizes) held in
    let t : TakenChunk (type_taken codec type) (coordinates codec sizes) type sizes held = record { map_is = q.first; taken = q.taken; done = q.done; counted = p.0.counted; valid = p.0.valid } in
    let holds : Holds type made (moved_chunk q.first items) = at_ok (encoded_chunk (type_taken codec type) (coordinates codec sizes) type sizes held) (λ (c : Chunk). Holds type made c) (moved_chunk q.first items) (encoded_whole (type_taken codec type) (coordinates codec sizes) type sizes held t) one in
    let others : arrays_map type codecs next ≡ Ok q.rest = subst (λ (s : List ℕ). arrays_map type codecs s ≡ Ok q.rest) n.0 q.others in
    let u = taken_next type sizes next q.first codecs q.rest made (moved_chunk q.first items) n.0 n.1 others p.0.counted (length-moved q.first items ∙ n.1.count) holds in
    let answers : AnswersBy memory (Holds type) r (Ok (moved_chunk q.rest (elements type (product next) made))) = at_ok (encoded_chunk (Ok tt) (arrays_map type codecs next) type next made) (λ (c : Chunk). AnswersBy memory (Holds type) r (Ok c)) (moved_chunk q.rest (elements type (product next) made)) (encoded_whole (Ok tt) (arrays_map type codecs next) type next made u.0) found in
    encode_last type codecs sizes next q.first q.rest items r chunk n.0 n.1 others maps (p.1 ∙ ap (λ m. moved_chunk m items) q.is) (answer_for type r _ _ (ap (moved_chunk q.rest) u.2) answers))

-- ---- decoding

pub decode_none : (type : ElementType) (sizes : List ℕ) (held : Held) → IfOk (decoded_chunk (Ok tt) (arrays_map type [] sizes) type sizes held) (λ chunk. Holds type held chunk)
decode_none type sizes held =
    if_ok (decoded_chunk (Ok tt) (arrays_map type [] sizes) type sizes held) (λ chunk. Holds type held chunk) (λ chunk e.
    let p = decoded_parts (Ok tt) (arrays_map type [] sizes) type sizes held chunk e in
    let is : p.0.map_is ≡ same_places sizes = sym (ok_is (same_places sizes) p.0.map_is p.0.done) in
    let stays : chunk ≡ elements type (product sizes) held = p.1 ∙ ap (λ m. moved_chunk (inverse_map sizes m) (elements type (product sizes) held)) is ∙ kept_places sizes (elements type (product sizes) held) (length-elements type (product sizes) held) in
    subst (Holds type held) (sym stays) (holds_elements type (product sizes) held p.0.valid))

-- a container of the moved chunk is one that the codecs behind the first take
taken_below : (type : ElementType) (sizes next : List ℕ) (codecs : List ArrayMapping) (rest : CoordinateMap) (held : Held)
    → product next ≡ product sizes → arrays_map type codecs next ≡ Ok rest → checked_u64 (product sizes) ≡ Ok (product sizes) → validity type (product sizes) held ≡ Ok tt
    → TakenChunk (Ok tt) (arrays_map type codecs next) type next held
taken_below type sizes next codecs rest held count e counted valid = record {
  map_is = rest;
  taken = refl;
  done = e;
  counted = subst (λ (k : ℕ). checked_u64 k ≡ Ok k) (sym count) counted;
  valid = subst (λ (k : ℕ). validity type k held ≡ Ok tt) (sym count) valid;
}

pub decode_refused : (type : ElementType) (codec : ArrayMapping) (codecs : List ArrayMapping) (sizes next : List ℕ) (held : Held) (error : CodecError)
    → IsMapTo (coordinates codec sizes) sizes next
    → IfOk (decoded_chunk (Ok tt) (arrays_map type codecs next) type next held) (λ chunk. AnswersBy memory (Holds type) (Err error) (Ok chunk))
    → IfOk (decoded_chunk (Ok tt) (arrays_map type (codec ∷ codecs) sizes) type sizes held) (λ chunk. AnswersBy memory (Holds type) (Err error) (Ok chunk))
unfolding map_parts taken_below
decode_refused type codec codecs sizes next held error h one =
    if_ok (decoded_chunk (Ok tt) (arrays_map type (codec ∷ codecs) sizes) type sizes held) (λ chunk. AnswersBy memory (Holds type) (Err error) (Ok chunk)) (λ chunk e.
    let p = decoded_parts (Ok tt) (arrays_map type (codec ∷ codecs) sizes) type sizes held chunk e in
    let q = map_parts type codec codecs sizes p.0.map_is p.0.done in
    let n = next_is codec sizes next q.first h q.done in
    let count : product next ≡ product sizes = ap product (sym n.0) ∙ n.1.count in
    let others : arrays_map type codecs next ≡ Ok q.rest = subst (λ (s : List ℕ). arrays_map type codecs s ≡ Ok q.rest) n.0 q.others in
    let t = taken_below type sizes next codecs q.rest held count others p.0.counted p.0.valid in
    let found = moved_chunk (inverse_map next q.rest) (elements type (product next) held) in
    let answers : AnswersBy memory (Holds type) (Err error) (Ok found) = at_ok (decoded_chunk (Ok tt) (arrays_map type codecs next) type next held) (λ (c : Chunk). AnswersBy memory (Holds type) (Err error) (Ok c)) found (decoded_whole (Ok tt) (arrays_map type codecs next) type next held t) one in
    λ ne. absurd (ok_no_err found error (answers ne)))

-- moved back by the codecs behind the first, and then by it, is moved back by all
back_twice : (sizes next : List ℕ) (first rest : CoordinateMap) (items : Chunk) → All (λ size. 0 < size) sizes → first.encoded ≡ next → IsCoordinateMap sizes first → IsCoordinateMap next rest
    → moved_chunk (inverse_map sizes (composition first rest)) items ≡ moved_chunk (inverse_map sizes first) (moved_chunk (inverse_map next rest) items)
back_twice sizes next first rest items positive n h g =
    let after : All (λ size. 0 < size) next = subst (All (λ size. 0 < size)) n (h.positive positive) in
    let one : IsCoordinateMap rest.encoded (inverse_map next rest) = undone_map next rest after g in
    let two : IsCoordinateMap next (inverse_map sizes first) = subst (λ (s : List ℕ). IsCoordinateMap s (inverse_map sizes first)) n (undone_map sizes first positive h) in
    moved_twice rest.encoded (inverse_map next rest) (inverse_map sizes first) items one two

pub decode_step : (type : ElementType) (codec : ArrayMapping) (codecs : List ArrayMapping) (sizes next : List ℕ) (held made : Held) (r : Result Held CodecError)
    → All (λ size. 0 < size) sizes
    → IsMapTo (coordinates codec sizes) sizes next
    → IsMapWhere type codecs next
    → IfOk (decoded_chunk (Ok tt) (arrays_map type codecs next) type next held) (λ chunk. Holds type made chunk)
    → IfOk (decoded_chunk (type_taken codec type) (coordinates codec sizes) type sizes made) (λ chunk. AnswersBy memory (Holds type) r (Ok chunk))
    → IfOk (decoded_chunk (Ok tt) (arrays_map type (codec ∷ codecs) sizes) type sizes held) (λ chunk. AnswersBy memory (Holds type) r (Ok chunk))
unfolding map_parts taken_below
decode_step type codec codecs sizes next held made r positive h maps found last =
    if_ok (decoded_chunk (Ok tt) (arrays_map type (codec ∷ codecs) sizes) type sizes held) (λ chunk. AnswersBy memory (Holds type) r (Ok chunk)) (λ chunk e.
    let p = decoded_parts (Ok tt) (arrays_map type (codec ∷ codecs) sizes) type sizes held chunk e in
    let q = map_parts type codec codecs sizes p.0.map_is p.0.done in
    let n = next_is codec sizes next q.first h q.done in
    let count : product next ≡ product sizes = ap product (sym n.0) ∙ n.1.count in
    let others : arrays_map type codecs next ≡ Ok q.rest = subst (λ (s : List ℕ). arrays_map type codecs s ≡ Ok q.rest) n.0 q.others in
    let rest_map : IsCoordinateMap next q.rest = at_ok (arrays_map type codecs next) (λ (m : CoordinateMap). IsCoordinateMap next m) q.rest others maps in
    let t = taken_below type sizes next codecs q.rest held count others p.0.counted p.0.valid in
    let below = moved_chunk (inverse_map next q.rest) (elements type (product next) held) in
    let holds : Holds type made below = at_ok (decoded_chunk (Ok tt) (arrays_map type codecs next) type next held) (λ (c : Chunk). Holds type made c) below (decoded_whole (Ok tt) (arrays_map type codecs next) type next held t) found in
    let long : length below ≡ product sizes = length-moved (inverse_map next q.rest) (elements type (product next) held) ∙ count in
    let u : TakenChunk (type_taken codec type) (coordinates codec sizes) type sizes made = record { map_is = q.first; taken = q.taken; done = q.done; counted = p.0.counted; valid = subst (λ (k : ℕ). validity type k made ≡ Ok tt) long holds.valid } in
    let made_is : elements type (product sizes) made ≡ below = subst (λ (k : ℕ). elements type k made ≡ below) long holds.elements_are in
    let answers : AnswersBy memory (Holds type) r (Ok (moved_chunk (inverse_map sizes q.first) (elements type (product sizes) made))) = at_ok (decoded_chunk (type_taken codec type) (coordinates codec sizes) type sizes made) (λ (c : Chunk). AnswersBy memory (Holds type) r (Ok c)) (moved_chunk (inverse_map sizes q.first) (elements type (product sizes) made)) (decoded_whole (type_taken codec type) (coordinates codec sizes) type sizes made u) last in
    let is : moved_chunk (inverse_map sizes q.first) (elements type (product sizes) made) ≡ chunk
    = ap (moved_chunk (inverse_map sizes q.first)) (made_is ∙ ap (λ k. moved_chunk (inverse_map next q.rest) (elements type k held)) count)
    ∙ sym (back_twice sizes next q.first q.rest (elements type (product sizes) held) positive n.0 n.1 rest_map)
    ∙ ap (λ m. moved_chunk (inverse_map sizes m) (elements type (product sizes) held)) (sym q.is)
    ∙ sym p.1 in
    answer_for type r (moved_chunk (inverse_map sizes q.first) (elements type (product sizes) made)) chunk is answers)

-- ---- as the code has the list of codecs

pub shape_at : (type : ElementType) (all : List ArrayMapping) (codec : ArrayMapping) (codecs : List ArrayMapping) (sizes next : List ℕ) (r : Result (List ℕ) CodecError)
    → all ≡ codec ∷ codecs
    → seen (λ (m : CoordinateMap). m.encoded) (codec_map type codec sizes) ≡ Ok next
    → Answers memory (λ sizes. sizes) r (seen (λ (m : CoordinateMap). m.encoded) (arrays_map type codecs next))
    → Answers memory (λ sizes. sizes) r (seen (λ (m : CoordinateMap). m.encoded) (arrays_map type all sizes))
shape_at type all codec codecs sizes next r is e h =
    let step : seen (λ (m : CoordinateMap). m.encoded) (arrays_map type (codec ∷ codecs) sizes) ≡ seen (λ (m : CoordinateMap). m.encoded) (arrays_map type codecs next) = shape_step type codec codecs sizes ∙ next_answer (seen (λ (m : CoordinateMap). m.encoded) (codec_map type codec sizes)) next (λ s. seen (λ (m : CoordinateMap). m.encoded) (arrays_map type codecs s)) e in
    subst (λ (cs : List ArrayMapping). Answers memory (λ sizes. sizes) r (seen (λ (m : CoordinateMap). m.encoded) (arrays_map type cs sizes))) (sym is)
    (subst (λ (x : Result (List ℕ) CodecError). Answers memory (λ sizes. sizes) r x) (sym step) h)

pub map_at : (type : ElementType) (all : List ArrayMapping) (codec : ArrayMapping) (codecs : List ArrayMapping) (sizes next : List ℕ) → all ≡ codec ∷ codecs → IsMapTo (coordinates codec sizes) sizes next → IsMapWhere type codecs next → IsMapWhere type all sizes
map_at type all codec codecs sizes next is h g = subst (λ (cs : List ArrayMapping). IsMapWhere type cs sizes) (sym is) (map_more type codec codecs sizes next h g)

pub map_if_ok : {A : Type 0} (type : ElementType) (all : List ArrayMapping) (codec : ArrayMapping) (codecs : List ArrayMapping) (sizes next : List ℕ) (r : Result A CodecError) → all ≡ codec ∷ codecs → IsMapTo (coordinates codec sizes) sizes next → IfOk r (λ _. IsMapWhere type codecs next) → IfOk r (λ _. IsMapWhere type all sizes)
map_if_ok type all codec codecs sizes next (Ok x) is h g = map_at type all codec codecs sizes next is h g
map_if_ok type all codec codecs sizes next (Err e) is h g = tt

pub encode_none_at : (type : ElementType) (all : List ArrayMapping) (sizes : List ℕ) (held : Held) → all ≡ [] → IfOk (encoded_chunk (Ok tt) (arrays_map type all sizes) type sizes held) (λ chunk. Holds type held chunk)
encode_none_at type all sizes held is = subst (λ (cs : List ArrayMapping). IfOk (encoded_chunk (Ok tt) (arrays_map type cs sizes) type sizes held) (λ chunk. Holds type held chunk)) (sym is) (encode_none type sizes held)

pub encode_refused_at : (type : ElementType) (all : List ArrayMapping) (codec : ArrayMapping) (codecs : List ArrayMapping) (sizes : List ℕ) (held : Held) (error : CodecError)
    → all ≡ codec ∷ codecs
    → IfOk (encoded_chunk (type_taken codec type) (coordinates codec sizes) type sizes held) (λ chunk. AnswersBy memory (Holds type) (Err error) (Ok chunk))
    → IfOk (encoded_chunk (Ok tt) (arrays_map type all sizes) type sizes held) (λ chunk. AnswersBy memory (Holds type) (Err error) (Ok chunk))
encode_refused_at type all codec codecs sizes held error is h = subst (λ (cs : List ArrayMapping). IfOk (encoded_chunk (Ok tt) (arrays_map type cs sizes) type sizes held) (λ chunk. AnswersBy memory (Holds type) (Err error) (Ok chunk))) (sym is) (encode_refused type codec codecs sizes held error h)

pub encode_at : (type : ElementType) (all : List ArrayMapping) (codec : ArrayMapping) (codecs : List ArrayMapping) (sizes next : List ℕ) (held made : Held) (r : Result Held CodecError)
    → all ≡ codec ∷ codecs
    → IsMapTo (coordinates codec sizes) sizes next
    → IfOk (encoded_chunk (type_taken codec type) (coordinates codec sizes) type sizes held) (λ chunk. Holds type made chunk)
    → IfOk r (λ _. IsMapWhere type codecs next)
    → IfOk (encoded_chunk (Ok tt) (arrays_map type codecs next) type next made) (λ chunk. AnswersBy memory (Holds type) r (Ok chunk))
    → IfOk (encoded_chunk (Ok tt) (arrays_map type all sizes) type sizes held) (λ chunk. AnswersBy memory (Holds type) r (Ok chunk))
encode_at type all codec codecs sizes next held made r is h one maps found = subst (λ (cs : List ArrayMapping). IfOk (encoded_chunk (Ok tt) (arrays_map type cs sizes) type sizes held) (λ chunk. AnswersBy memory (Holds type) r (Ok chunk))) (sym is) (encode_step type codec codecs sizes next held made r h one maps found)

-- the list of a codec alone
pub one_mapping : (codecs : List ArrayToArrayCodec) (last : ArrayToArrayCodec) → length codecs ≡ 1 → last ≡ get_or codecs 0 last → map mapping_of codecs ≡ mapping_of last ∷ []
one_mapping codecs last l e =
    let none : length codecs - 1 ≡ 0 = omega (arith, l) in
    mappings_are codecs last (omega (arith, l)) e ∙ ap (λ n. mapping_of last ∷ map mapping_of (take n (drop 1 codecs))) none

-- what holds where a call returns Ok holds where what it wrote is returned
pub seen_ok_so : {A C : Type 0} (P : Type 0) (view : A → C) (r : Result A CodecError) → IfOk r (λ _. P) → IfOk (seen view r) (λ _. P)
seen_ok_so P view (Ok x) h = h
seen_ok_so P view (Err e) h = tt

-- no codec: a copy
pub encode_copied : (type : ElementType) (all : List ArrayMapping) (sizes : List ℕ) (held : Held) (answer : Result Held CodecError) → all ≡ [] → (validity type (product sizes) held ≡ Ok tt → answer ≡ Ok held)
    → IfOk (encoded_chunk (Ok tt) (arrays_map type all sizes) type sizes held) (λ chunk. AnswersBy memory (Holds type) answer (Ok chunk))
encode_copied type all sizes held answer is copy =
    subst (λ (cs : List ArrayMapping). IfOk (encoded_chunk (Ok tt) (arrays_map type cs sizes) type sizes held) (λ chunk. AnswersBy memory (Holds type) answer (Ok chunk))) (sym is)
    (copied_encoded (Ok (same_places sizes)) type sizes held answer copy (λ m e. subst (λ (m : CoordinateMap). (m ≡ same_places m.encoded) × (product m.encoded ≡ product sizes)) (ok_is (same_places sizes) m e) (refl, refl)))

pub decode_copied : (type : ElementType) (all : List ArrayMapping) (sizes : List ℕ) (held : Held) (answer : Result Held CodecError) → all ≡ [] → (validity type (product sizes) held ≡ Ok tt → answer ≡ Ok held)
    → IfOk (decoded_chunk (Ok tt) (arrays_map type all sizes) type sizes held) (λ chunk. AnswersBy memory (Holds type) answer (Ok chunk))
decode_copied type all sizes held answer is copy =
    subst (λ (cs : List ArrayMapping). IfOk (decoded_chunk (Ok tt) (arrays_map type cs sizes) type sizes held) (λ chunk. AnswersBy memory (Holds type) answer (Ok chunk))) (sym is)
    (copied_decoded (Ok (same_places sizes)) type sizes held answer copy (λ m e. subst (λ (m : CoordinateMap). (m ≡ same_places m.encoded) × (product m.encoded ≡ product sizes)) (ok_is (same_places sizes) m e) (refl, refl)))

-- a codec alone
pub encode_alone : (type : ElementType) (all : List ArrayMapping) (codec : ArrayMapping) (sizes next : List ℕ) (held : Held) (r : Result Held CodecError)
    → all ≡ codec ∷ []
    → IsMapTo (coordinates codec sizes) sizes next
    → IfOk (encoded_chunk (type_taken codec type) (coordinates codec sizes) type sizes held) (λ chunk. AnswersBy memory (Holds type) r (Ok chunk))
    → IfOk (encoded_chunk (Ok tt) (arrays_map type all sizes) type sizes held) (λ chunk. AnswersBy memory (Holds type) r (Ok chunk))
encode_alone type all codec sizes next held (Ok made) is h one = encode_at type all codec [] sizes next held made (Ok made) is h one (same_places_map next next refl (λ p. p)) (encode_none type next made)
encode_alone type all codec sizes next held (Err error) is h one = encode_refused_at type all codec [] sizes held error is one

pub decode_none_at : (type : ElementType) (all : List ArrayMapping) (sizes : List ℕ) (held : Held) → all ≡ [] → IfOk (decoded_chunk (Ok tt) (arrays_map type all sizes) type sizes held) (λ chunk. Holds type held chunk)
decode_none_at type all sizes held is = subst (λ (cs : List ArrayMapping). IfOk (decoded_chunk (Ok tt) (arrays_map type cs sizes) type sizes held) (λ chunk. Holds type held chunk)) (sym is) (decode_none type sizes held)

pub decode_refused_at : (type : ElementType) (all : List ArrayMapping) (codec : ArrayMapping) (codecs : List ArrayMapping) (sizes next : List ℕ) (held : Held) (error : CodecError)
    → all ≡ codec ∷ codecs
    → IsMapTo (coordinates codec sizes) sizes next
    → IfOk (decoded_chunk (Ok tt) (arrays_map type codecs next) type next held) (λ chunk. AnswersBy memory (Holds type) (Err error) (Ok chunk))
    → IfOk (decoded_chunk (Ok tt) (arrays_map type all sizes) type sizes held) (λ chunk. AnswersBy memory (Holds type) (Err error) (Ok chunk))
decode_refused_at type all codec codecs sizes next held error is h one = subst (λ (cs : List ArrayMapping). IfOk (decoded_chunk (Ok tt) (arrays_map type cs sizes) type sizes held) (λ chunk. AnswersBy memory (Holds type) (Err error) (Ok chunk))) (sym is) (decode_refused type codec codecs sizes next held error h one)

pub decode_at : (type : ElementType) (all : List ArrayMapping) (codec : ArrayMapping) (codecs : List ArrayMapping) (sizes next : List ℕ) (held made : Held) (r : Result Held CodecError)
    → all ≡ codec ∷ codecs
    → All (λ size. 0 < size) sizes
    → IsMapTo (coordinates codec sizes) sizes next
    → IsMapWhere type codecs next
    → IfOk (decoded_chunk (Ok tt) (arrays_map type codecs next) type next held) (λ chunk. Holds type made chunk)
    → IfOk (decoded_chunk (type_taken codec type) (coordinates codec sizes) type sizes made) (λ chunk. AnswersBy memory (Holds type) r (Ok chunk))
    → IfOk (decoded_chunk (Ok tt) (arrays_map type all sizes) type sizes held) (λ chunk. AnswersBy memory (Holds type) r (Ok chunk))
decode_at type all codec codecs sizes next held made r is positive h maps found last = subst (λ (cs : List ArrayMapping). IfOk (decoded_chunk (Ok tt) (arrays_map type cs sizes) type sizes held) (λ chunk. AnswersBy memory (Holds type) r (Ok chunk))) (sym is) (decode_step type codec codecs sizes next held made r positive h maps found last)

pub ok_or_not : {A : Type 0} {P : Type 0} (r : Result A CodecError) → P → IfOk r (λ _. P)
ok_or_not (Ok x) h = h
ok_or_not (Err e) h = tt

-- ---- a shape that the first codec rejects

shape_known : (type : ElementType) (codec : ArrayMapping) (codecs : List ArrayMapping) (sizes : List ℕ) (m : CoordinateMap) (error : CodecError) → arrays_map type (codec ∷ codecs) sizes ≡ Ok m → seen (λ (n : CoordinateMap). n.encoded) (coordinates codec sizes) ≡ Err error → ⊥
shape_known type codec codecs sizes m error e refused =
    let p = map_parts type codec codecs sizes m e in
    ok_no_err p.first.encoded error (sym (ap (λ r. seen (λ (n : CoordinateMap). n.encoded) r) p.done) ∙ refused)

pub encode_shape_refused_at : (type : ElementType) (all : List ArrayMapping) (codec : ArrayMapping) (codecs : List ArrayMapping) (sizes : List ℕ) (held : Held) (error : CodecError)
    → all ≡ codec ∷ codecs
    → (memory error ≡ false → seen (λ (n : CoordinateMap). n.encoded) (coordinates codec sizes) ≡ Err error)
    → IfOk (encoded_chunk (Ok tt) (arrays_map type all sizes) type sizes held) (λ chunk. AnswersBy memory (Holds type) (Err error) (Ok chunk))
encode_shape_refused_at type all codec codecs sizes held error is refused =
    if_ok (encoded_chunk (Ok tt) (arrays_map type all sizes) type sizes held) (λ chunk. AnswersBy memory (Holds type) (Err error) (Ok chunk)) (λ chunk e.
    let p = encoded_parts (Ok tt) (arrays_map type all sizes) type sizes held chunk e in
    let done : arrays_map type (codec ∷ codecs) sizes ≡ Ok p.0.map_is = ap (λ cs. arrays_map type cs sizes) (sym is) ∙ p.0.done in
    λ known. absurd (shape_known type codec codecs sizes p.0.map_is error done (refused known)))

pub decode_shape_refused_at : (type : ElementType) (all : List ArrayMapping) (codec : ArrayMapping) (codecs : List ArrayMapping) (sizes : List ℕ) (held : Held) (error : CodecError)
    → all ≡ codec ∷ codecs
    → (memory error ≡ false → seen (λ (n : CoordinateMap). n.encoded) (coordinates codec sizes) ≡ Err error)
    → IfOk (decoded_chunk (Ok tt) (arrays_map type all sizes) type sizes held) (λ chunk. AnswersBy memory (Holds type) (Err error) (Ok chunk))
decode_shape_refused_at type all codec codecs sizes held error is refused =
    if_ok (decoded_chunk (Ok tt) (arrays_map type all sizes) type sizes held) (λ chunk. AnswersBy memory (Holds type) (Err error) (Ok chunk)) (λ chunk e.
    let p = decoded_parts (Ok tt) (arrays_map type all sizes) type sizes held chunk e in
    let done : arrays_map type (codec ∷ codecs) sizes ≡ Ok p.0.map_is = ap (λ cs. arrays_map type cs sizes) (sym is) ∙ p.0.done in
    λ known. absurd (shape_known type codec codecs sizes p.0.map_is error done (refused known)))
