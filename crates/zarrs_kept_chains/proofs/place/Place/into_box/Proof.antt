-- `into_box` makes a box again of what is kept at the address.
use Rattle.std.proofs.Common.{◌≡◌, ◌∙◌, List, [], ◌∷◌, ◌++◌, refl, sym, ap}
use Rattle.std.proofs.raw_atomic.Walks.{proved_at}
use Rattle.std.specs.Prelude.{Option, Some, is_some, true}
use base.Fml.{ftrue, fsep}
use base.Fraction.{full_share}
use base.Logic.{id⊢}
use contract.Monad.{fact}
use contract.Running.{tables}
use denote.Exit.{yes}
use denote.Laws.{shows}
use denote.Param.{layout}
use denote.RawPtr.{ptr_val}
use denote.Signature.{plain}
use denote.Steps.{heard, nothing, only, peeks}
use denote.Triple.Call.{calls_at_last}
use denote.Triple.Spec.{triple_of}
use denote.Triple.Table.{framed}
use denote.Triple.Walked.{Goes-dropped, Stays, ends_at, says, stay_dropped, walk_of}
use lib.Dec.{T}
use mathlib.Core.Path.{subst}
use mir.Val.{Val, has_ty, WT}
use prog.Wp.{WpFn}
use types.ByLocal.{alloc_all, env, free_all, get, get_in, lands_last, look_at, pass_all, sets}
use types.Kit.{‵, raw, prop, later, some, at_ret, ◌⊛◌, ◌$◌, ◌∵◌, !, qed, done, move, drop, split, split3, join, fsplit, fjoin}
use types.Kit.{await, feq_i, feq_l, fpick, pick, regoal, rewrite, suffices, use0, use1}
use types.Part.{sub, whole}
use types.Run.{and_then, blocks, enter, exec, first, fld, no_more, of_opd, returns, stop}
use Rattle.std.specs.contracts.alloc.Global as Heap
use Rattle.std.specs.contracts.boxed.Box.from_raw as making
use Rattle.std.specs.contracts.impls.GlobalAllocator.TheImpl.{dict, ghosts}
use Rattle.std.specs.declared.alloc.Global.{Global}
use Rattle.std.specs.declared.boxed.Box.{Box}
use Rattle.std.proofs.alloc.Global.TheLaws as heap
use Rattle.std.proofs.boxed.Box.from_raw.Met as making_met
use Rattle.std.proofs.impls.GlobalAllocator.TheImpl.Met as heap_met
use Rattle.zarrs_kept_chains.specs.contracts.kept.Kept as Kept
use Rattle.zarrs_kept_chains.specs.contracts.place.Place as Place
use Rattle.zarrs_kept_chains.specs.contracts.place.Place.into_box.{ended, clauses}
use Rattle.zarrs_kept_chains.specs.contracts.place.Place.into_box.Key.{name}
use Rattle.zarrs_kept_chains.specs.declared.kept.Kept.{Kept as KeptValue}
use Rattle.zarrs_kept_chains.specs.declared.place.Place.{Place as PlaceValue}
use Rattle.zarrs_kept_chains.proofs.Destruct++none.drop.Symbol as none
use Rattle.zarrs_kept_chains.proofs.PlaceSteps.{Boxed, Endless, Outlived, Passed, address_fits, endless, handle_fits, heap_drop}
use Rattle.zarrs_kept_chains.proofs.PlaceSteps.{heap_laws, kept_laws, outlived, place_fits, place_of, some_kept}
use Rattle.zarrs_kept_chains.proofs.place.Place.TheLaws.{lowers}
use Rattle.zarrs_kept_chains.proofs.place.Place.into_box.Code as code
use Rattle.zarrs_kept_chains.proofs.place.Place.into_box.Statement.{statement}

abbrev stayed : Stays ended.signature.params ended.kept
stayed = (stay_dropped (plain (λ _. Place.the_row)) yes, tt)

pub into_box_spec : {M : Type 1} → statement M
into_box_spec {M} 𝓤 𝓛 𝓜 𝓡 wired =
    let c = clauses 𝓛 𝓜.mem 𝓡.returns in
    let W = walk_of 𝓛 ended stayed c in
    let 𝓣 = tables 𝓤 𝓛.H 𝓜 𝓡 𝓡.env in
    proved_at 𝓛 ended stayed c 𝓜 𝓡 (Goes-dropped 𝓛 0 (plain (λ _. Place.the_row)) yes (λ κs x f. refl), tt)
    name code.function (code.unfolded 𝓤 𝓛.H 𝓜 𝓡 wired) (λ y are.
    let place = y.0.3.0 in
    let given = y.0.4.0 in
    qed 𝓛 ((‵ ftrue ⊛ ‵ (fsep (Place.the_row.own_val place given) ftrue)) ∷ raw (fact 𝓤 (is_some place.kept ≡ true)) ∷ []) ∵
    split ! $ drop ! $ fsplit ! $ move ! (1 ∷ 2 ∷ []) $ drop ! $ heard ! (is_some place.kept ≡ true) (λ there.
    let value = (some_kept place.kept there).0 in
    let is_value = (some_kept place.kept there).1 in
    let full : PlaceValue = record { at = place.at; alloc = place.alloc; kept = Some value } in
    rewrite ! 0 (λ (kept : Option KeptValue). ‵ (Place.the_row.own_val (record place { kept = kept }) given)) is_value refl $
    peeks ! Place.the_row _ (shows 𝓛 Place.the_row) full given (λ is.
    let held = lowers.val_is full given is in
    rewrite ! 0 (λ (words : List Val). ‵ (Place.the_row.own_val full words)) held refl $
    regoal ! (λ (words : List Val). prop (WpFn 𝓤 𝓛.H 𝓣.C 𝓣.Λ code.function (words ++ []) (W.post y))) held refl $
    enter ! _ _ _ _ _ $ alloc_all ! (λ l. pass_all ! refl (place_fits full, tt) $
    sets ! (of_opd ! (get_in ! (fld ! refl (stop !)) (sub ! 0 refl (whole !)))) refl (address_fits place.at) $
    sets ! (of_opd ! (get_in ! (fld ! refl (stop !)) (sub ! 1 refl (whole !)))) refl (handle_fits place.alloc) $
    first ! $ blocks ! $ sets ! (of_opd ! (get ! refl)) refl (address_fits place.at) $
    -- the place is taken apart: [its handle; nothing; what a box owns at its address]
    fsplit ! $ fpick ! (λ fields. fsplit ! $ feq_l ! (λ is_word. fsplit ! $ feq_l ! (λ is_address. fsplit ! $
    peeks ! Heap.the_row _ (shows 𝓛 Heap.the_row) place.alloc fields.1.0 (λ handle.
    rewrite ! 0 (λ (words : List Val). ‵ (Heap.the_row.own_val place.alloc words))
    (heap.lowers.val_is place.alloc fields.1.0 handle) refl $
    -- the call
    let address = ptr_val place.at ∷ [] in
    let make = triple_of 𝓛 (making.signature (Passed Kept.the_row) (Passed Heap.the_row) ghosts dict heap_drop)
    (making.spec (Passed Kept.the_row) (Passed Heap.the_row) ghosts dict heap_drop 𝓛 𝓜.mem 𝓡.returns) in
    let allocates = heap_met.passed 𝓡.env
    (code.calls-std_heap::GlobalAllocator::allocate 𝓡.env wired) (code.calls-std_heap::GlobalAllocator::deallocate 𝓡.env wired)
    (code.calls-std_heap::GlobalAllocator::grow 𝓡.env wired) (code.calls-std_heap::GlobalAllocator::shrink 𝓡.env wired) M 𝓤 𝓛 𝓜 𝓡 in
    let heap_drops = none.glues 𝓡.env (code.calls-zarrs_kept_chains::Destruct++none::drop 𝓡.env wired)
    (Passed Heap.the_row) heap_laws M 𝓤 𝓛 𝓜 𝓡 in
    let met = making_met.met 𝓤 𝓛 𝓜 𝓡 (code.calls-std_alloc::boxed::Box::from_raw 𝓡.env wired)
    (Passed Kept.the_row) (Passed Heap.the_row) kept_laws heap_laws ghosts dict heap_drop allocates heap_drops in
    let z : make.Ghost = (
      (
        ([], ([], tt)),
        (full_share, (full_share, tt)),
        tt,
        (place.alloc, (place.at, tt)),
        (heap.lowered place.alloc ∷ [], (address, tt)),
      ),
      value,
    ) in
    move ! (1 ∷ []) $ feq_i ! (List Val) address address refl $ fjoin ! $ move ! (1 ∷ 0 ∷ []) $ fjoin ! $
    use0 𝓛 (Endless 𝓛) (endless 𝓛) $ join ! $ move ! (1 ∷ []) $
    use0 𝓛 (Outlived 𝓛) (outlived 𝓛) $ split3 ! $ move ! (2 ∷ []) $ drop ! $ move ! (1 ∷ 2 ∷ []) $ join ! $
    move ! (1 ∷ 0 ∷ []) $ join ! $ move ! (1 ∷ 0 ∷ []) $ join ! $ use1 𝓛 (raw (make.pre z)) (id⊢ 𝓤 _) $
    calls_at_last ! (framed 𝓤 𝓛.H 𝓜 𝓣) make met z (and_then ! (get ! refl) (and_then ! (get ! refl) (no_more !))) (λ u.
    use1 𝓛 (later (some (λ (box : Box KeptValue Global). (Endless 𝓛 ⊛ ‵ (Boxed.own_val box (u ∷ [])))
    ⊛ some (λ (lasts : Unit {0} × (Unit {0} × Unit {0})). ‵ (fsep ftrue (fsep ftrue ftrue))
    ⊛ (raw (fact 𝓤 (box.value ≡ value)) ⊛ raw (fact 𝓤 (box.alloc ≡ place.alloc))))))) (id⊢ 𝓤 _) $
    await ! tt $ pick ! (λ box. split ! $ split ! $ drop ! $ move ! (1 ∷ []) $ pick ! (λ lasts. split3 ! $ drop ! $
    heard ! (box.value ≡ value) (λ same. drop ! $
    -- [the box]
    use1 𝓛 (‵ (Place.the_row.own_val (place_of box) (u ∷ []))) (id⊢ 𝓤 _) $
    peeks ! Place.the_row _ (shows 𝓛 Place.the_row) (place_of box) (u ∷ []) (λ returned.
    let word = ap only (lowers.val_is (place_of box) (u ∷ []) returned) in
    let fits : T (has_ty (layout Boxed) u) × WT u =
    subst (λ (v : Val). T (has_ty (layout Boxed) v) × WT v) (sym word) (place_fits (place_of box)) in
    lands_last ! refl fits $ exec ! 𝓣.C 𝓣.Λ (env code.Mir.locals l) code.Mir.t-4 (at_ret _ (W.post y)) $
    sets ! (of_opd ! (get ! refl)) refl fits $ returns ! (look_at ! 0 refl) $ free_all ! refl $
    suffices ! _ (ends_at 𝓛 ended stayed c y u box (tt, tt) (tt, tt)) $
    says ! (is_value ∙ ap (λ (kept : KeptValue). Some kept) (sym same)) $
    nothing ! $ nothing ! $ fjoin ! $ join ! $ nothing ! $ join ! $ done !)))))))))))))
