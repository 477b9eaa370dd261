-- What is kept can be dropped, as a call of `into_raw_with_allocator` asks of its type.
use Rattle.std.proofs.Common.{[], ◌∷◌, refl}
use base.Fml.{ftrue, fsep}
use base.Logic.{emp, sep}
use contract.Running.{Running}
use denote.Param.Glue.{Met as Drops, spent}
use denote.Steps.{nothing}
use denote.Triple.Carry.{beside, spared}
use denote.Triple.Spec.{Spec, triple_of}
use denote.Triple.Table.{run_framed, widened}
use mir.Syntax.{Dict, impl, tnil, dnil, method, no_args}
use prog.Model.{Model}
use prog.Wired.{Wired}
use seplogic.Ra.Ura.{Ura}
use types.Kit.{raw, ◌$◌, ◌∵◌, !, qed, drop as lets_go, show, join, fjoin, done}
use types.Logic.{Logic, sem}
use Rattle.zarrs_kept_chains.specs.contracts.kept.Kept as Kept
use Rattle.zarrs_kept_chains.specs.contracts.zarrs_kept_chains++kept++Kept+Destruct.drop as Drop
use Rattle.zarrs_kept_chains.proofs.PlaceSteps.{Passed}
use Rattle.zarrs_kept_chains.proofs.zarrs_kept_chains++kept++Kept+Destruct.drop.Met as drop_met
use Rattle.zarrs_kept_chains.proofs.zarrs_kept_chains++kept++Kept+Destruct.drop.Symbol as drop

-- where a call finds how it is dropped
abbrev pub kept_drop : Dict
kept_drop = impl (drop.symbol ∷ []) tnil dnil

-- what its own `drop` is to such a call, for which one lifetime more is alive, and which learns nothing
abbrev Dropped : {M : Type 1} (𝓤 : Ura M) (𝓛 : Logic 𝓤) → Spec 𝓤 Drop.signature
Dropped 𝓤 𝓛 κs kept = record {
  ghost = Unit {0};
  requires = λ _. emp 𝓤;
  ensures = λ _ result. (spent 𝓛 (Passed Kept.the_row) ([], tt) kept).ensures tt result;
}

pub kept_drops : {M : Type 1} (𝓤 : Ura M) (𝓛 : Logic 𝓤) (𝓜 : Model 𝓤 𝓛.H) (𝓡 : Running 𝓤 𝓛.H 𝓜)
    → Wired 𝓡.env drop.code → Drops 𝓛 𝓜 𝓡 𝓡.env (Passed Kept.the_row) kept_drop
kept_drops 𝓤 𝓛 𝓜 𝓡 wired =
    let key = method kept_drop 0 no_args in
    let run = 𝓡.run (𝓡.env key) in
    let framed = run_framed 𝓤 𝓛.H 𝓜 𝓡 (𝓡.env key) in
    let own = Drop.spec 𝓛 𝓜.mem 𝓡.returns in
    spared 𝓛 Drop.signature run framed 1 (Kept.the_row.lives, tt) (Dropped 𝓤 𝓛)
    (beside 𝓛 Drop.signature run framed own (Dropped 𝓤 𝓛) (λ κs kept _. tt) (λ κs kept _. emp 𝓤)
    (λ κs kept _. qed 𝓛 (raw (emp 𝓤) ∷ []) ∵ lets_go ! $ nothing ! $ nothing ! $ join ! $ done !)
    (λ κs kept _ result. qed 𝓛 (raw ((own κs kept).ensures tt result) ∷ raw (emp 𝓤) ∷ []) ∵ lets_go ! $ lets_go ! $
    show ! (λ (lasts : Unit {0} × Unit {0}). sep 𝓤 (sem 𝓛 (fsep ftrue ftrue)) (emp 𝓤)) (tt, tt) $
    nothing ! $ nothing ! $ nothing ! $ fjoin ! $ join ! $ done !)
    (widened 𝓤 𝓛.H (triple_of 𝓛 Drop.signature own) 𝓜 𝓡 𝓡.env (𝓡.env drop.name) (𝓡.env key)
    (drop.as_method 𝓡.env wired key refl) (drop_met.met 𝓤 𝓛 𝓜 𝓡 wired)))
