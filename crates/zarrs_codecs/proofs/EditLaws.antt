-- Edits of stored values are edits of chunks.
use Rattle.std.proofs.Common.{◌≡◌, ℕ, zero, suc, ◌+◌, ◌<◌, Bool, true, false, if◌then◌else◌, Option, Some, None, List, [], ◌∷◌, ◌++◌, length, take, get_or, Result, Ok, Err, arith, refl, ap, sym, ◌∙◌, subst}
use Rattle.std.specs.List.{All}
use Rattle.std.specs.Option.{unwrap_or}
use Rattle.std.specs.Prelude.{◌↔◌, IfSome, IsOkAnd}
use Rattle.std.proofs.lemmas.List.{take_more}
use Rattle.std.proofs.lemmas.List.Elements.{All-take, All-head, All-replicate, All-tail}
use Rattle.zarrs_chunk.specs.Answer.{◌>>=◌, seen}
use Rattle.zarrs_chunk.specs.ChunkShape.{product}
use Rattle.zarrs_chunk.specs.Indexer.{selection_of}
use Rattle.zarrs_chunk.specs.declared.codec_error.CodecError.{CodecError}
use Rattle.zarrs_data_type.specs.Element.{Element, absent, present, Chunk, fill_element}
use Rattle.zarrs_data_type.specs.ElementType.{ElementType, fixed, text, bytes, optional}
use Rattle.zarrs_data_type.specs.FillValue.{fill_fits, front_of, is_null}
use Rattle.zarrs_array_bytes.specs.Elements.{elements}
use Rattle.zarrs_array_bytes.specs.Held.{Held}
use Rattle.zarrs_array_bytes.specs.Update.{update}
use Rattle.zarrs_array_bytes.specs.Validity.{data_fit}
use Rattle.zarrs_codec.specs.BytesToBytesCodec.{AreBytes, BytesCodecs, IsLawful}
use Rattle.zarrs_codec.specs.ChunkEdits.{data_places, with_elements}
use Rattle.zarrs_codec.specs.declared.bytes_representation.BytesRepresentation.{BytesRepresentation}
use Rattle.zarrs_bytes.specs.BytesCodec.{IsChunk}
use Rattle.zarrs_bytes.specs.PartialWrite.{filled_chunk}
use Rattle.zarrs_packbits.specs.Laws.{HasBytes}
use Rattle.zarrs_chain_meaning.specs.ChunkForm.{ChunkForm}
use Rattle.zarrs_codecs.specs.CodecPart.{order_in_place}
use Rattle.zarrs_codecs.specs.ChunkWrite.{stored_written, value_left, IsStoredFor}
use Rattle.zarrs_codecs.specs.Edits.{edited_state, edited_store, AcceptsEdits, edit_excuse, excuse_at, EditHasBytes, all_made}
use Rattle.zarrs_chain_meaning.specs.Laws.{IsChainOfMappings}
use Rattle.zarrs_chain_meaning.specs.CodecMeaning.{normal_form, ChainWritten}
use Rattle.zarrs_chain_meaning.specs.MachineBytes.{HeldHasBytes}
use Rattle.zarrs_codecs.specs.declared.partial_encoder.edits.Edit.{Edit}
use Rattle.zarrs_codecs.specs.declared.partial_encoder.edits.Edit.TheVariants.{Encode, Erase}
use Rattle.zarrs_bytes.proofs.Coding.{bind_ok}
use Rattle.zarrs_chain_meaning.proofs.ChainSteps.{seen_ok}
use Rattle.zarrs_chain_meaning.proofs.HeldBytes.{held_bytes}
use Rattle.zarrs_array_bytes.proofs.UpdateCalls.{All-update}
use Rattle.zarrs_codecs.proofs.ChunkWrites.{edited_is}
use Rattle.zarrs_chain_meaning.proofs.CodecLaws.{written_for_normal, normal_elements, normal_twice, normal_updated, chain_stands}
use Rattle.zarrs_codecs.proofs.PartialReads.{IsReadable}
use Rattle.zarrs_codecs.proofs.PlaceWrites.{data_inside, left_by}

-- ---- bytes of elements

either_bytes : (b : Bool) (element : Element) → HasBytes element → HasBytes (if b then absent else present element)
either_bytes true element h = tt
either_bytes false element h = h

fill_bytes : (type : ElementType) (fill : List ℕ) → AreBytes fill → HasBytes (fill_element type fill)
fill_bytes (fixed width components sign) fill h = h
fill_bytes text fill h = h
fill_bytes bytes fill h = h
fill_bytes (optional type) fill h = either_bytes (is_null fill) (fill_element type (front_of fill)) (fill_bytes type (front_of fill) (All-take (λ (byte : ℕ). byte < 256) _ fill h))

-- ---- one edit

next_at : (r : Result (List ℕ) CodecError) (g : List ℕ → Chunk) (P : Option Chunk → Type 0) (places : List ℕ) → r ≡ Ok places → P (Some (g places)) → IsOkAnd (seen (λ (chunk : Chunk). Some chunk) (r >>= λ places. let made : Result Chunk CodecError = Ok (g places) in made)) P
next_at r g P places e h = rw e h

pub found : {A : Type 0} (r : Result A CodecError) (P : A → Type 0) → IsOkAnd r P → (x : A) × (r ≡ Ok x) × P x
found (Ok x) P h = (x, refl, h)
found (Err e) P h = absurd h

then_at : {A C : Type 0} (r : Result A CodecError) (g : A → Result C CodecError) (P : C → Type 0) (x : A) → r ≡ Ok x → IsOkAnd (g x) P → IsOkAnd (r >>= g) P
then_at r g P x e h = rw e h

holds_at : {A : Type 0} (r : Result A CodecError) (P : A → Type 0) (x : A) → r ≡ Ok x → P x → IsOkAnd r P
holds_at r P x e h = rw e h

both_found : {A : Type 0} (r : Result A CodecError) (P Q : A → Type 0) → IsOkAnd r P → IsOkAnd r Q → (x : A) × P x × Q x
both_found (Ok x) P Q p q = (x, p, q)
both_found (Err e) P Q p q = absurd p

made_at : (r : Result (List ℕ) CodecError) (g : List ℕ → Chunk) (P : Option Chunk → Type 0) → IsOkAnd (seen (λ (chunk : Chunk). Some chunk) (r >>= λ places. let made : Result Chunk CodecError = Ok (g places) in made)) P → (places : List ℕ) × (r ≡ Ok places) × P (Some (g places))
made_at (Ok places) g P h = (places, refl, h)
made_at (Err e) g P h = absurd h

abbrev ok_stored : Option (List ℕ) → Result (Option (List ℕ)) CodecError
ok_stored value = Ok value

pub same_stored : (one other : Option (List ℕ)) → ok_stored one ≡ ok_stored other → one ≡ other
same_stored one other e = cc

not_refused : (stored : Option (List ℕ)) (e : CodecError) → ok_stored stored ≡ Err e → ⊥
not_refused stored e h = cc

module _ {B : Type 0} (f : BytesCodecs B) (form : ChunkForm B) (encoded : List ℕ) (r : BytesRepresentation) (h : IsReadable f form.chain form.sizes form.type form.fill encoded r) (chain_is : IsChainOfMappings form.chain) (positive : All (λ size. 0 < size) form.sizes) (fits : fill_fits form.type form.fill ≡ true) (lawful : IsLawful f) (filling : AreBytes form.fill) where
  -- new elements put into the normal form of a chunk, or into the chunk, have one normal form
  abbrev edited_normal : Chunk → List ℕ → Held → Chunk
  edited_normal chunk places new = with_elements form.type (normal_form form.chain.array_to_bytes form.type chunk) places new

  same_normal : (chunk : Chunk) (places : List ℕ) (new : Held) → IsChunk form.type (product form.sizes) chunk
      → normal_form form.chain.array_to_bytes form.type (edited_normal chunk places new) ≡ normal_form form.chain.array_to_bytes form.type (with_elements form.type chunk places new)
  same_normal chunk places new is =
      let codec = form.chain.array_to_bytes in
      let type = form.type in
      let d = elements type (length places) new in
      let n = normal_form codec type chunk in
      normal_updated codec type n places d
      ∙ ap (λ (c : Chunk). update c places (normal_form codec type d)) (normal_twice codec type chunk is.each)
      ∙ sym (normal_updated codec type chunk places d)

  -- the same value is written for both
  either_written : (chunk : Chunk) (places : List ℕ) (new : Held) (value : List ℕ) → IsChunk form.type (product form.sizes) chunk → data_fit form.type (length places) new ≡ Ok tt
      → ChainWritten f form.chain form.sizes form.type form.fill value (edited_normal chunk places new) ↔ ChainWritten f form.chain form.sizes form.type form.fill value (with_elements form.type chunk places new)
  either_written chunk places new value is fit =
      let codec = form.chain.array_to_bytes in
      let type = form.type in
      let x = edited_normal chunk places new in
      let y = with_elements type chunk places new in
      let is_x = edited_is form.sizes type (normal_form codec type chunk) places new (normal_elements codec type (product form.sizes) chunk is) fit in
      let is_y = edited_is form.sizes type chunk places new is fit in
      let of_x = written_for_normal f form.chain form.sizes type form.fill value x is_x in
      let of_y = written_for_normal f form.chain form.sizes type form.fill value y is_y in
      let same = same_normal chunk places new is in (
        (λ w. of_y.1 (subst (ChainWritten f form.chain form.sizes type form.fill value) same (of_x.0 w))),
        (λ w. of_x.1 (subst (ChainWritten f form.chain form.sizes type form.fill value) (sym same) (of_y.0 w))),
      )

  new_bytes : (chunk : Chunk) (places : List ℕ) (new : Held) → All HasBytes chunk → HeldHasBytes new → All HasBytes (with_elements form.type chunk places new)
  new_bytes chunk places new here there = All-update HasBytes chunk places (elements form.type (length places) new) here (held_bytes form.type (length places) new there)

  abbrev IsNext : Option (List ℕ) → Option Chunk → Type 0
  IsNext after next = IsStoredFor f form after next × IfSome next (All HasBytes)

  -- what is written of new elements, from nothing or from a value that is written for a chunk
  encoded_step : (stored : Option (List ℕ)) (state : Option Chunk) (places : List ℕ) (new : Held) (value : List ℕ) → IfSome state (All HasBytes) → HeldHasBytes new → IsStoredFor f form stored state → All (λ place. place < product form.sizes) places → data_fit form.type (length places) new ≡ Ok tt
      → value_left f form (order_in_place form.chain.bytes_to_bytes form.chain.array_to_bytes) stored places new ≡ Ok value → IsNext (Some value) (Some (with_elements form.type (unwrap_or state (filled_chunk form.sizes form.type form.fill)) places new))
  encoded_step None None places new value here there is inside fit e =
      let filled = filled_chunk form.sizes form.type form.fill in (
        (left_by f form encoded r h chain_is positive fits (order_in_place form.chain.bytes_to_bytes form.chain.array_to_bytes) refl None filled places new refl inside fit).0 value e,
        new_bytes filled places new (All-replicate HasBytes (product form.sizes) (fill_element form.type form.fill) (fill_bytes form.type form.fill filling)) there,
      )
  encoded_step None (Some chunk) places new value here there is inside fit e = absurd is
  encoded_step (Some stored) None places new value here there is inside fit e = absurd is
  encoded_step (Some stored) (Some chunk) places new value here there is inside fit e =
      let normal = normal_form form.chain.array_to_bytes form.type chunk in
      let stands = chain_stands f form.chain lawful chain_is form.sizes form.type form.fill stored chunk positive here is in
      let w = (left_by f form encoded r h chain_is positive fits (order_in_place form.chain.bytes_to_bytes form.chain.array_to_bytes) refl (Some stored) normal places new stands inside fit).0 value e in
      ((either_written chunk places new value is.elements fit).0 w, new_bytes chunk places new here there)

  edited_step : (stored after : Option (List ℕ)) (state : Option Chunk) (edit : Edit) → IfSome state (All HasBytes) → EditHasBytes edit → IsStoredFor f form stored state → edited_store f form stored edit ≡ Ok after → IsOkAnd (edited_state form state edit) (IsNext after)
  edited_step stored after state Erase here there is e = subst (λ (v : Option (List ℕ)). IsNext v None) (same_stored None after e) (tt, tt)
  edited_step stored after state (Encode indexer new) here there is e =
      let v = seen_ok (λ value. Some value) (stored_written f form stored (selection_of indexer) new) after e in
      let a = bind_ok (data_places form.sizes form.type (selection_of indexer) new) _ v.0 v.1 in
      let inside = data_inside form.sizes form.type (selection_of indexer) new a.0 a.1 in
      let next = encoded_step stored state a.0 new v.0 here there is inside.0 inside.1 a.2 in
      next_at (data_places form.sizes form.type (selection_of indexer) new) (λ places. with_elements form.type (unwrap_or state (filled_chunk form.sizes form.type form.fill)) places new) (IsNext after) a.0 a.1
      (subst (λ (x : Option (List ℕ)). IsNext x (Some (with_elements form.type (unwrap_or state (filled_chunk form.sizes form.type form.fill)) a.0 new))) v.2 next)

  -- edits of a value that is written for a chunk, or of nothing, leave what is written for the edited chunk, or nothing
  pub edits_written : (edits : List Edit) (stored after : Option (List ℕ)) (state : Option Chunk) → IfSome state (All HasBytes) → All EditHasBytes edits → IsStoredFor f form stored state → all_made (edited_store f form) edits stored ≡ Ok after → IsOkAnd (all_made (edited_state form) edits state) (IsStoredFor f form after)
  edits_written [] stored after state here there is e = subst (λ (v : Option (List ℕ)). IsStoredFor f form v state) (same_stored stored after e) is
  edits_written (edit ∷ edits) stored after state here there is e =
      let a = bind_ok (edited_store f form stored edit) (all_made (edited_store f form) edits) after e in
      let s = found (edited_state form state edit) (IsNext a.0) (edited_step stored a.0 state edit here (All-head EditHasBytes edit edits there) is a.1) in
      then_at (edited_state form state edit) (all_made (edited_state form) edits) (IsStoredFor f form after) s.0 s.1 (edits_written edits a.0 after s.0 s.2.1 (All-tail EditHasBytes edit edits there) s.2.0 a.2)

  -- each of them was accepted
  pub edits_accepted : (edits : List Edit) (stored after : Option (List ℕ)) (state : Option Chunk) → IfSome state (All HasBytes) → All EditHasBytes edits → IsStoredFor f form stored state → all_made (edited_store f form) edits stored ≡ Ok after → AcceptsEdits f form edits state
  edits_accepted [] stored after state here there is e = tt
  edits_accepted (edit ∷ edits) stored after state here there is e =
      let a = bind_ok (edited_store f form stored edit) (all_made (edited_store f form) edits) after e in
      let s = found (edited_state form state edit) (IsNext a.0) (edited_step stored a.0 state edit here (All-head EditHasBytes edit edits there) is a.1) in
      holds_at (edited_state form state edit) (λ next. ((stored : Option (List ℕ)) × IsStoredFor f form stored next) × AcceptsEdits f form edits next) s.0 s.1
      ((a.0, s.2.0), edits_accepted edits a.0 after s.0 s.2.1 (All-tail EditHasBytes edit edits there) s.2.0 a.2)

  -- where a value is written for the chunk with new elements, it is left of what is written for the chunk, or of nothing
  written_step : (stored : Option (List ℕ)) (state : Option Chunk) (places : List ℕ) (new : Held) (value : List ℕ) → IfSome state (All HasBytes) → IsStoredFor f form stored state → All (λ place. place < product form.sizes) places → data_fit form.type (length places) new ≡ Ok tt
      → ChainWritten f form.chain form.sizes form.type form.fill value (with_elements form.type (unwrap_or state (filled_chunk form.sizes form.type form.fill)) places new) → value_left f form (order_in_place form.chain.bytes_to_bytes form.chain.array_to_bytes) stored places new ≡ Ok value
  written_step None None places new value here is inside fit w =
      let filled = filled_chunk form.sizes form.type form.fill in
      (left_by f form encoded r h chain_is positive fits (order_in_place form.chain.bytes_to_bytes form.chain.array_to_bytes) refl None filled places new refl inside fit).1 value w
  written_step None (Some chunk) places new value here is inside fit w = absurd is
  written_step (Some stored) None places new value here is inside fit w = absurd is
  written_step (Some stored) (Some chunk) places new value here is inside fit w =
      let normal = normal_form form.chain.array_to_bytes form.type chunk in
      let stands = chain_stands f form.chain lawful chain_is form.sizes form.type form.fill stored chunk positive here is in
      (left_by f form encoded r h chain_is positive fits (order_in_place form.chain.bytes_to_bytes form.chain.array_to_bytes) refl (Some stored) normal places new stands inside fit).1 value
      ((either_written chunk places new value is.elements fit).1 w)

  written_value : (stored : Option (List ℕ)) (chunk : Chunk) → IsStoredFor f form stored (Some chunk) → (value : List ℕ) × ChainWritten f form.chain form.sizes form.type form.fill value chunk
  written_value None chunk is = absurd is
  written_value (Some value) chunk is = (value, is)

  -- an edit that is rejected can't be made, or no value is written for what it makes
  refused_step : (stored : Option (List ℕ)) (state : Option Chunk) (edit : Edit) (e : CodecError) → IfSome state (All HasBytes) → IsStoredFor f form stored state → edited_store f form stored edit ≡ Err e → AcceptsEdits f form (edit ∷ []) state → ⊥
  refused_step stored state Erase e here is refused accepts = absurd (not_refused None e refused)
  refused_step stored state (Encode indexer new) e here is refused accepts =
      let selection = selection_of indexer in
      let a = made_at (data_places form.sizes form.type selection new) (λ places. with_elements form.type (unwrap_or state (filled_chunk form.sizes form.type form.fill)) places new) (λ next. ((stored : Option (List ℕ)) × IsStoredFor f form stored next) × AcceptsEdits f form [] next) accepts in
      let v = written_value a.2.0.0 (with_elements form.type (unwrap_or state (filled_chunk form.sizes form.type form.fill)) a.0 new) a.2.0.1 in
      let inside = data_inside form.sizes form.type selection new a.0 a.1 in
      let left = written_step stored state a.0 new v.0 here is inside.0 inside.1 v.1 in
      let due : edited_store f form stored (Encode indexer new) ≡ ok_stored (Some v.0)
      = ap (λ (x : Result (List ℕ) CodecError). seen (λ value. Some value) (x >>= λ places. value_left f form (order_in_place form.chain.bytes_to_bytes form.chain.array_to_bytes) stored places new)) a.1
      ∙ ap (λ (x : Result (List ℕ) CodecError). seen (λ value. Some value) x) left in
      not_refused (Some v.0) e (sym due ∙ refused)

  -- the same behind accepted edits
  edits_refused : (edits : List Edit) (edit : Edit) (stored last : Option (List ℕ)) (state : Option Chunk) (e : CodecError) → IfSome state (All HasBytes) → All EditHasBytes edits → IsStoredFor f form stored state → all_made (edited_store f form) edits stored ≡ Ok last → edited_store f form last edit ≡ Err e
      → AcceptsEdits f form (edits ++ edit ∷ []) state → ⊥
  edits_refused [] edit stored last state e here there is ran refused accepts =
      refused_step stored state edit e here is (subst (λ (v : Option (List ℕ)). edited_store f form v edit ≡ Err e) (sym (same_stored stored last ran)) refused) accepts
  edits_refused (first ∷ edits) edit stored last state e here there is ran refused accepts =
      let a = bind_ok (edited_store f form stored first) (all_made (edited_store f form) edits) last ran in
      let s = both_found (edited_state form state first) (IsNext a.0) (λ next. ((stored : Option (List ℕ)) × IsStoredFor f form stored next) × AcceptsEdits f form (edits ++ edit ∷ []) next) (edited_step stored a.0 state first here (All-head EditHasBytes first edits there) is a.1) accepts in
      edits_refused edits edit a.0 last s.0 e s.1.1 (All-tail EditHasBytes first edits there) s.1.0 a.2 refused s.2.1

  -- the edit behind so many accepted ones
  pub more_refused : (edits : List Edit) (n : ℕ) (edit : Edit) (stored last : Option (List ℕ)) (state : Option Chunk) (e : CodecError) → n < length edits → edit ≡ get_or edits n edit → IfSome state (All HasBytes) → All EditHasBytes (take n edits) → IsStoredFor f form stored state → all_made (edited_store f form) (take n edits) stored ≡ Ok last
      → edited_store f form last edit ≡ Err e → AcceptsEdits f form (take (n + 1) edits) state → ⊥
  more_refused edits n edit stored last state e lt is here there written ran refused accepts =
      edits_refused (take n edits) edit stored last state e here there written ran refused
      (subst (λ (l : List Edit). AcceptsEdits f form l state) (take_more edits n edit lt ∙ ap (λ (x : Edit). take n edits ++ x ∷ []) (sym is)) accepts)

-- ---- what may come in place of an edit's answer

pub excuse_is : (edits : List Edit) (n : ℕ) (edit : Edit) → n < length edits → edit ≡ get_or edits n edit → excuse_at edits n ≡ edit_excuse edit
excuse_is [] n edit lt is = absurd (omega (arith, lt))
excuse_is (first ∷ edits) zero edit lt is = ap edit_excuse (sym is)
excuse_is (first ∷ edits) (suc n) edit lt is = excuse_is edits n edit (omega (arith, lt)) is

-- ---- one edit more

bind_twice : {A C D : Type 0} (r : Result A CodecError) (f : A → Result D CodecError) (g : A → Result C CodecError) (h : C → Result D CodecError) → ((x : A) → f x ≡ (g x >>= h)) → (r >>= f) ≡ ((r >>= g) >>= h)
bind_twice (Ok x) f g h e = e x
bind_twice (Err y) f g h e = refl

bind_last : {A : Type 0} (r : Result A CodecError) → (r >>= λ x. Ok x) ≡ r
bind_last (Ok x) = refl
bind_last (Err e) = refl

edits_push : {B : Type 0} (f : BytesCodecs B) (form : ChunkForm B) (edits : List Edit) (edit : Edit) (stored : Option (List ℕ)) → all_made (edited_store f form) (edits ++ edit ∷ []) stored ≡ (all_made (edited_store f form) edits stored >>= λ v. edited_store f form v edit)
edits_push f form [] edit stored = bind_last (edited_store f form stored edit)
edits_push f form (first ∷ edits) edit stored = bind_twice (edited_store f form stored first) (all_made (edited_store f form) (edits ++ edit ∷ [])) (all_made (edited_store f form) edits) (λ v. edited_store f form v edit) (λ v. edits_push f form edits edit v)

pub edits_more : {B : Type 0} (f : BytesCodecs B) (form : ChunkForm B) (edits : List Edit) (n : ℕ) (edit : Edit) (stored here : Option (List ℕ)) (r : Result (Option (List ℕ)) CodecError) → n < length edits → edit ≡ get_or edits n edit → all_made (edited_store f form) (take n edits) stored ≡ Ok here → edited_store f form here edit ≡ r
    → all_made (edited_store f form) (take (n + 1) edits) stored ≡ r
edits_more f form edits n edit stored here r lt is ran e =
    ap (λ (l : List Edit). all_made (edited_store f form) l stored) (take_more edits n edit lt) ∙ ap (λ (x : Edit). all_made (edited_store f form) (take n edits ++ x ∷ []) stored) (sym is)
    ∙ edits_push f form (take n edits) edit stored ∙ ap (λ (o : Result (Option (List ℕ)) CodecError). o >>= λ v. edited_store f form v edit) ran ∙ e
