-- How the machine has a place, and what calls are given that take a box of what is kept apart, or make it again.
use Rattle.std.proofs.Common.{◌≡◌, [], ◌∷◌, refl, lit<}
use Rattle.std.proofs.ResultValues.{and_tt}
use Rattle.std.specs.Prelude.{Option, Some, None, is_some, true}
use base.Fml.{flft, ftrue}
use base.Fraction.{full_share}
use base.Logic.{ent, emp}
use contract.BorrowLft.{◌⊑◌, ⊑_static}
use contract.Monad.{fact, fact_i}
use denote.Exit.{no}
use denote.Param.{arg, layout}
use denote.Param.Laws.{Laws, arg_laws}
use denote.RattleType.{RattleType}
use denote.RawPtr.{Ptr, block_ptr, null_ptr, ptr_val}
use denote.Steps.{nothing}
use lib.Dec.{T}
use mathlib.Core.Path.{sym, subst}
use mir.Raw.{raw as bare}
use mir.Syntax.{Dict, impl, tnil, tcons, dnil, ty_ptr}
use mir.Val.{has_ty, WT}
use seplogic.Ra.Ura.{Ura}
use types.Kit.{Item, ‵, raw, ◌⊛◌, ◌$◌, ◌∵◌, !, qed, join, done, use0, mean}
use types.Logic.{Logic}
use Rattle.std.specs.contracts.alloc.Global as Heap
use Rattle.std.specs.contracts.boxed.Box as Boxes
use Rattle.std.specs.contracts.impls.GlobalAllocator.TheImpl.{ghosts}
use Rattle.std.specs.declared.alloc.Global.{Global}
use Rattle.std.specs.declared.boxed.Box.{Box}
use Rattle.std.proofs.alloc.Global.TheLaws as heap
use Rattle.zarrs_kept_chains.specs.contracts.kept.Kept as Kept
use Rattle.zarrs_kept_chains.specs.contracts.place.Place as Place
use Rattle.zarrs_kept_chains.specs.declared.kept.Kept.{Kept as KeptValue}
use Rattle.zarrs_kept_chains.specs.declared.place.Place.{Place as PlaceValue}
use Rattle.zarrs_kept_chains.proofs.Destruct++none.drop.Symbol as none
use Rattle.zarrs_kept_chains.proofs.kept.Kept.TheLaws as kept
use Rattle.zarrs_kept_chains.proofs.place.Place.TheLaws.{lowered}

-- a box of what is kept, and the place that owns the same
abbrev pub Boxed : RattleType
Boxed = Boxes.the_row Kept.the_row Heap.the_row ghosts

abbrev pub place_of : Box KeptValue Global → PlaceValue
place_of box = record { at = box.ptr; alloc = box.alloc; kept = Some box.value }

-- where something is kept, a value is
pub some_kept : (kept : Option KeptValue) → is_some kept ≡ true → (value : KeptValue) × (kept ≡ Some value)
some_kept None none = absurd (subst T (sym none) tt)
some_kept (Some value) some = (value, refl)

-- ---- what the machine stores fits

pub address_fits : (at : Ptr) → T (has_ty ty_ptr (ptr_val at)) × WT (ptr_val at)
address_fits (block_ptr block offset) = (tt, tt)
address_fits null_ptr = (tt, record { fits = lit< tt })

-- the heap's handle takes no bytes
pub handle_fits : (alloc : Global) → T (has_ty (layout Heap.the_row) (heap.lowered alloc)) × WT (heap.lowered alloc)
handle_fits alloc = (tt, ((tt, tt), tt))

pub place_fits : (place : PlaceValue) → T (has_ty (layout Place.the_row) (lowered place)) × WT (lowered place)
place_fits place =
    let at = address_fits place.at in
    (and_tt (has_ty ty_ptr (ptr_val place.at)) at.0, (at.1, ((handle_fits place.alloc).1, tt)))

-- ---- what a call is given that is generic over what a box holds, and over its allocator

abbrev pub Passed : RattleType → RattleType
Passed row = arg (bare (layout row)) no row

pub kept_laws : Laws (Passed Kept.the_row)
kept_laws = arg_laws (bare (layout Kept.the_row)) no Kept.the_row kept.the_row_laws refl

pub heap_laws : Laws (Passed Heap.the_row)
heap_laws = arg_laws (bare (layout Heap.the_row)) no Heap.the_row heap.the_row_laws refl

-- where it finds how the heap's handle is dropped
abbrev pub heap_drop : Dict
heap_drop = impl (none.symbol ∷ []) (tcons (layout (Passed Heap.the_row)) tnil) dnil

-- A lifetime for each of the two types: both hold values that never end, and so does the call.
abbrev pub Endless : {M : Type 1} {𝓤 : Ura M} (𝓛 : Logic 𝓤) → Item 𝓤
Endless 𝓛 = ‵ (flft [] full_share) ⊛ ‵ (flft [] full_share) ⊛ ‵ ftrue

pub endless : {M : Type 1} {𝓤 : Ura M} (𝓛 : Logic 𝓤) → ent 𝓤 (emp 𝓤) (mean 𝓛 (Endless 𝓛))
endless 𝓛 =
    let token = 𝓛.lfts.lft-nil full_share in
    qed 𝓛 [] ∵ nothing ! $ use0 𝓛 (‵ (flft [] full_share)) token $ join ! $ use0 𝓛 (‵ (flft [] full_share)) token $ join ! $ done !

-- and what holds of these lifetimes
abbrev pub Outlived : {M : Type 1} {𝓤 : Ura M} (𝓛 : Logic 𝓤) → Item 𝓤
Outlived {𝓤 = 𝓤} 𝓛 = raw (fact 𝓤 ([] ⊑ Kept.the_row.lives)) ⊛ raw (fact 𝓤 ([] ⊑ Heap.the_row.lives)) ⊛ ‵ ftrue

pub outlived : {M : Type 1} {𝓤 : Ura M} (𝓛 : Logic 𝓤) → ent 𝓤 (emp 𝓤) (mean 𝓛 (Outlived 𝓛))
outlived {𝓤 = 𝓤} 𝓛 =
    let of_kept = [] ⊑ Kept.the_row.lives in
    let of_heap = [] ⊑ Heap.the_row.lives in
    qed 𝓛 [] ∵ nothing ! $ use0 𝓛 (raw (fact 𝓤 of_heap)) (fact_i 𝓤 of_heap (emp 𝓤) (⊑_static [])) $ join ! $
    use0 𝓛 (raw (fact 𝓤 of_kept)) (fact_i 𝓤 of_kept (emp 𝓤) (⊑_static [])) $ join ! $ done !
