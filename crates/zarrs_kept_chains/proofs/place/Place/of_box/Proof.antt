-- `of_box` takes the box apart, and the place that is made owns what the box owned.
use Rattle.std.proofs.Common.{◌≡◌, List, [], ◌∷◌, ◌++◌, refl, sym, ap}
use Rattle.std.proofs.raw_atomic.Walks.{proved_at}
use Rattle.std.specs.Box.Ownership.{box_owns}
use Rattle.std.specs.Prelude.{Some}
use base.Fml.{ftrue, fsep}
use base.Fraction.{full_share}
use base.Logic.{emp, id⊢}
use contract.Monad.{fact}
use contract.Running.{tables}
use denote.Builtin.{RawPtr}
use denote.Exit.{yes}
use denote.Laws.{shows}
use denote.RawPtr.{Ptr}
use denote.Signature.{plain}
use denote.Steps.{heard, nothing, only, peeks}
use denote.Struct.Tuple.{Tuple}
use denote.Triple.Call.{calls_at}
use denote.Triple.Spec.{triple_of}
use denote.Triple.Table.{framed}
use denote.Triple.Walked.{Goes-dropped, Stays, ends_at, says, stay_dropped, walk_of}
use mir.Val.{Val}
use prog.Wp.{WpFn}
use types.ByLocal.{alloc_all, free_all, get, get_in, lands_as, look_at, pass_all, sets}
use types.Kit.{‵, raw, prop, later, some, ◌⊛◌, ◌$◌, ◌∵◌, !, qed, done, move, drop, split, split3, join, fsplit, fjoin}
use types.Kit.{await, pick, regoal, rewrite, suffices, use0, use1}
use types.Part.{agg, sub, whole}
use types.Run.{and_then, enter, fld, no_more, of_opd, returns, stop}
use Rattle.std.specs.contracts.alloc.Global as Heap
use Rattle.std.specs.contracts.boxed.Box.into_raw_with_allocator as apart
use Rattle.std.specs.contracts.impls.GlobalAllocator.TheImpl.{dict, ghosts}
use Rattle.std.specs.declared.alloc.Global.{Global}
use Rattle.std.proofs.boxed.Box.into_raw_with_allocator.Met as apart_met
use Rattle.std.proofs.impls.GlobalAllocator.TheImpl.Met as heap_met
use Rattle.zarrs_kept_chains.specs.contracts.kept.Kept as Kept
use Rattle.zarrs_kept_chains.specs.contracts.place.Place as Place
use Rattle.zarrs_kept_chains.specs.contracts.place.Place.of_box.{ended, clauses}
use Rattle.zarrs_kept_chains.specs.contracts.place.Place.of_box.Key.{name}
use Rattle.zarrs_kept_chains.specs.declared.place.Place.{Place as PlaceValue}
use Rattle.zarrs_kept_chains.proofs.Destruct++none.drop.Symbol as none
use Rattle.zarrs_kept_chains.proofs.KeptDrops.{kept_drop, kept_drops}
use Rattle.zarrs_kept_chains.proofs.PlaceSteps.{Boxed, Endless, Outlived, Passed, address_fits, endless, handle_fits, heap_drop}
use Rattle.zarrs_kept_chains.proofs.PlaceSteps.{heap_laws, kept_laws, outlived, place_fits, place_of}
use Rattle.zarrs_kept_chains.proofs.place.Place.TheLaws.{lowers, lowered}
use Rattle.zarrs_kept_chains.proofs.place.Place.of_box.Code as code
use Rattle.zarrs_kept_chains.proofs.place.Place.of_box.Statement.{statement}

abbrev stayed : Stays ended.signature.params ended.kept
stayed = (stay_dropped (plain (λ _. Boxed)) yes, tt)

pub of_box_spec : {M : Type 1} → statement M
of_box_spec {M} 𝓤 𝓛 𝓜 𝓡 wired =
    let c = clauses 𝓛 𝓜.mem 𝓡.returns in
    let W = walk_of 𝓛 ended stayed c in
    let 𝓣 = tables 𝓤 𝓛.H 𝓜 𝓡 𝓡.env in
    proved_at 𝓛 ended stayed c 𝓜 𝓡 (Goes-dropped 𝓛 0 (plain (λ _. Boxed)) yes (λ κs x f. refl), tt)
    name code.function (code.unfolded 𝓤 𝓛.H 𝓜 𝓡 wired) (λ y are.
    let box = y.0.3.0 in
    let given = y.0.4.0 in
    let whole_box = place_of box in
    qed 𝓛 ((‵ ftrue ⊛ ‵ (fsep (Boxed.own_val box given) ftrue)) ∷ raw (emp 𝓤) ∷ []) ∵
    split ! $ drop ! $ fsplit ! $ move ! (2 ∷ []) $ drop ! $
    -- [the box, which is its place to the machine; nothing]
    use1 𝓛 (‵ (Place.the_row.own_val whole_box given)) (id⊢ 𝓤 _) $
    peeks ! Place.the_row _ (shows 𝓛 Place.the_row) whole_box given (λ is.
    let held = lowers.val_is whole_box given is in
    rewrite ! 0 (λ (words : List Val). ‵ (Place.the_row.own_val whole_box words)) held refl $
    regoal ! (λ (words : List Val). prop (WpFn 𝓤 𝓛.H 𝓣.C 𝓣.Λ code.function (words ++ []) (W.post y))) held refl $
    enter ! _ _ _ _ _ $ alloc_all ! (λ l. pass_all ! refl (place_fits whole_box, tt) $
    sets ! (of_opd ! (get ! refl)) refl (place_fits whole_box) $
    -- the call
    let taking = triple_of 𝓛
    (apart.signature (Passed Kept.the_row) (Passed Heap.the_row) ghosts dict heap_drop kept_drop)
    (apart.spec (Passed Kept.the_row) (Passed Heap.the_row) ghosts dict heap_drop kept_drop 𝓛 𝓜.mem 𝓡.returns) in
    let allocates = heap_met.passed 𝓡.env
    (code.calls-std_heap::GlobalAllocator::allocate 𝓡.env wired) (code.calls-std_heap::GlobalAllocator::deallocate 𝓡.env wired)
    (code.calls-std_heap::GlobalAllocator::grow 𝓡.env wired) (code.calls-std_heap::GlobalAllocator::shrink 𝓡.env wired) M 𝓤 𝓛 𝓜 𝓡 in
    let heap_drops = none.glues 𝓡.env (code.calls-zarrs_kept_chains::Destruct++none::drop 𝓡.env wired)
    (Passed Heap.the_row) heap_laws M 𝓤 𝓛 𝓜 𝓡 in
    let drops = kept_drops 𝓤 𝓛 𝓜 𝓡 (code.calls-zarrs_kept_chains::zarrs_kept_chains++kept++Kept+Destruct::drop 𝓡.env wired) in
    let met = apart_met.met 𝓤 𝓛 𝓜 𝓡 (code.calls-std_alloc::boxed::Box::into_raw_with_allocator 𝓡.env wired)
    (Passed Kept.the_row) (Passed Heap.the_row) kept_laws heap_laws ghosts dict heap_drop kept_drop allocates heap_drops drops in
    let z : taking.Ghost =
    ((([], ([], tt)), (full_share, (full_share, tt)), tt, (box, tt), (lowered whole_box ∷ [], tt)), tt) in
    use0 𝓛 (Outlived 𝓛) (outlived 𝓛) $ use0 𝓛 (Endless 𝓛) (endless 𝓛) $ move ! (2 ∷ 3 ∷ []) $ fjoin ! $
    move ! (1 ∷ 0 ∷ []) $ join ! $ join ! $ use1 𝓛 (raw (taking.pre z)) (id⊢ 𝓤 _) $
    calls_at ! (framed 𝓤 𝓛.H 𝓜 𝓣) taking met z (and_then ! (get ! refl) (no_more !)) (λ u.
    use1 𝓛 (later (some (λ (parts : Ptr × Global). (Endless 𝓛 ⊛ ‵ ((Tuple (RawPtr ∷ Heap.the_row ∷ [])).own_val parts (u ∷ [])))
    ⊛ some (λ (lasts : (Unit {0} × (Unit {0} × Unit {0})) × Unit {0}). ‵ (fsep (fsep ftrue (fsep ftrue ftrue)) ftrue)
    ⊛ (raw (fact 𝓤 (parts.1 ≡ box.alloc))
    ⊛ ‵ (box_owns (ghosts.dealloc_token box.alloc) Kept.the_row parts.0 box.value)))))) (id⊢ 𝓤 _) $
    await ! tt $ pick ! (λ parts. split ! $ split ! $ drop ! $ move ! (1 ∷ []) $ pick ! (λ lasts. split3 ! $ drop ! $
    heard ! (parts.1 ≡ box.alloc) (λ same.
    -- [what the box owned at its address; the address with the handle]: together these are the place
    let made : PlaceValue = record { at = parts.0; alloc = parts.1; kept = Some box.value } in
    rewrite ! 0 (λ (alloc : Global). ‵ (box_owns (ghosts.dealloc_token alloc) Kept.the_row parts.0 box.value)) (sym same) refl $
    move ! (1 ∷ 0 ∷ []) $ fjoin ! $ use1 𝓛 (‵ (Place.the_row.own_val made (u ∷ []))) (id⊢ 𝓤 _) $
    peeks ! Place.the_row _ (shows 𝓛 Place.the_row) made (u ∷ []) (λ returned.
    let word = lowers.val_is made (u ∷ []) returned in
    rewrite ! 0 (λ (words : List Val). ‵ (Place.the_row.own_val made words)) word refl $
    lands_as ! (ap only word) refl (place_fits made) $
    sets ! (of_opd ! (get_in ! (fld ! refl (stop !)) (sub ! 0 refl (whole !)))) refl (address_fits made.at) $
    sets ! (of_opd ! (get_in ! (fld ! refl (stop !)) (sub ! 1 refl (whole !)))) refl (handle_fits made.alloc) $
    sets ! (of_opd ! (get ! refl)) refl (address_fits made.at) $
    sets ! (agg ! (and_then ! (get ! refl) (and_then ! (get ! refl) (no_more !)))) refl (place_fits made) $
    returns ! (look_at ! 0 refl) $ free_all ! refl $
    suffices ! _ (ends_at 𝓛 ended stayed c y (lowered made) made (tt, tt) (tt, tt)) $ says ! refl $
    nothing ! $ nothing ! $ fjoin ! $ join ! $ nothing ! $ join ! $ done !))))))))
