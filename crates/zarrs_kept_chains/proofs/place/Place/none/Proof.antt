-- `none` makes the address of nothing, which owns the heap's handle alone.
use Rattle.std.proofs.Common.{List, [], ◌∷◌, ◌++◌, refl, lit<}
use Rattle.std.proofs.raw_atomic.Walks.{proved_at}
use Rattle.std.specs.Prelude.{None}
use base.Fml.{ftrue, fsep}
use base.Logic.{emp, id⊢}
use contract.Running.{tables}
use denote.Exit.{yes}
use denote.Laws.{shows}
use denote.RattleType.{Valss}
use denote.RawPtr.{null_ptr, ptr_val}
use denote.Signature.{plain}
use denote.Steps.{nothing, peeks}
use denote.Struct.Owning.{fields, shape, to}
use denote.Struct.Struct.{within}
use denote.Triple.Walked.{Goes-dropped, Stays, ends_at, says, stay_dropped, walk_of}
use mir.Val.{Val}
use prog.Wp.{WpFn}
use types.ByLocal.{alloc_all, free_all, get, look_at, pass_all, sets}
use types.Kit.{‵, raw, prop, ◌⊛◌, ◌$◌, ◌∵◌, !, qed, done, move, drop, split, join, fsplit, fjoin, feq_i, fpack}
use types.Kit.{regoal, rewrite, suffices, use1}
use types.Part.{agg}
use types.Run.{and_then, enter, lit, no_more, of_opd, returns}
use Rattle.std.specs.contracts.alloc.Global as Heap
use Rattle.std.proofs.alloc.Global.TheLaws as heap
use Rattle.zarrs_kept_chains.specs.contracts.place.Place as Place
use Rattle.zarrs_kept_chains.specs.contracts.place.Place.none.{ended, clauses}
use Rattle.zarrs_kept_chains.specs.contracts.place.Place.none.Key.{name}
use Rattle.zarrs_kept_chains.specs.declared.place.Place.{Place as PlaceValue}
use Rattle.zarrs_kept_chains.proofs.PlaceSteps.{handle_fits, place_fits}
use Rattle.zarrs_kept_chains.proofs.place.Place.TheLaws.{lowered}
use Rattle.zarrs_kept_chains.proofs.place.Place.none.Code as code
use Rattle.zarrs_kept_chains.proofs.place.Place.none.Statement.{statement}

abbrev stayed : Stays ended.signature.params ended.kept
stayed = (stay_dropped (plain (λ _. Heap.the_row)) yes, tt)

pub none_spec : {M : Type 1} → statement M
none_spec 𝓤 𝓛 𝓜 𝓡 wired =
    let c = clauses 𝓛 𝓜.mem 𝓡.returns in
    let W = walk_of 𝓛 ended stayed c in
    let 𝓣 = tables 𝓤 𝓛.H 𝓜 𝓡 𝓡.env in
    proved_at 𝓛 ended stayed c 𝓜 𝓡 (Goes-dropped 𝓛 0 (plain (λ _. Heap.the_row)) yes (λ κs x f. refl), tt)
    name code.function (code.unfolded 𝓤 𝓛.H 𝓜 𝓡 wired) (λ y are.
    let alloc = y.0.3.0 in
    let given = y.0.4.0 in
    let made : PlaceValue = record { at = null_ptr; alloc = alloc; kept = None } in
    let word = lowered made in
    let null = ptr_val null_ptr ∷ [] in
    qed 𝓛 ((‵ ftrue ⊛ ‵ (fsep (Heap.the_row.own_val alloc given) ftrue)) ∷ raw (emp 𝓤) ∷ []) ∵
    split ! $ drop ! $ fsplit ! $ move ! (2 ∷ []) $ drop ! $
    peeks ! Heap.the_row _ (shows 𝓛 Heap.the_row) alloc given (λ is.
    let held = heap.lowers.val_is alloc given is in
    rewrite ! 0 (λ (words : List Val). ‵ (Heap.the_row.own_val alloc words)) held refl $
    regoal ! (λ (words : List Val). prop (WpFn 𝓤 𝓛.H 𝓣.C 𝓣.Λ code.function (words ++ []) (W.post y))) held refl $
    enter ! _ _ _ _ _ $ alloc_all ! (λ l. pass_all ! refl (handle_fits alloc, tt) $
    sets ! (of_opd ! (lit ! tt)) refl (tt, record { fits = lit< tt }) $
    sets ! (agg ! (and_then ! (get ! refl) (and_then ! (get ! refl) (no_more !)))) refl (place_fits made) $
    returns ! (look_at ! 0 refl) $ free_all ! refl $
    -- [the handle; nothing]: the place is its two fields, and owns nothing besides
    fjoin ! $ feq_i ! (List Val) null null refl $ fjoin ! $ feq_i ! (List Val) (word ∷ []) (word ∷ []) refl $ fjoin ! $
    fpack ! (Valss (fields Place.the_type)) (within (shape Place.the_type) (to Place.the_type made) (word ∷ []))
    (null, (heap.lowered alloc ∷ [], tt)) $
    nothing ! $ move ! (1 ∷ 0 ∷ []) $ fjoin ! $ use1 𝓛 (‵ (Place.the_row.own_val made (word ∷ []))) (id⊢ 𝓤 _) $
    suffices ! _ (ends_at 𝓛 ended stayed c y word made (tt, tt) (tt, tt)) $ says ! refl $
    nothing ! $ nothing ! $ fjoin ! $ join ! $ nothing ! $ join ! $ done !)))
