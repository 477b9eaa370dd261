use Rattle.std.proofs.Common.{◌≡◌, ◌∙◌, ap, subst, map, Ok}
use Rattle.zarrs_chunk.specs.Answer.{Answers}
use Rattle.zarrs_data_type.specs.ElementType.{ElementType}
use Rattle.zarrs_array_bytes.specs.Held.{Held}
use Rattle.zarrs_array_bytes.specs.Present.{mask_of}
use Rattle.zarrs_json.specs.Containers.{container_of, under_mask}
use Rattle.zarrs_json.specs.Element.{slots_seen}
use Rattle.zarrs_json.specs.Refusal.{refusal_memory}
use Rattle.zarrs_json.proofs.ContainerLemmas.{mask_answers, optional_by_inner}
use Rattle.zarrs_json.proofs.containers.+container.Goals as goal

pub returns-in-Some : goal.returns-in-Some
returns-in-Some t c =
    let chunk = slots_seen c.args.slots.items in
    let inner_type = c.in-Some.inner_type.now in
    let mask : c.in_ok-mask.mask.items ≡ mask_of chunk = c.in_ok-mask.ensures.value ∙ ap (λ slots. mask_of (slots_seen slots)) c.deref.ensures.value in
    let inside : slots_seen c.in_ok-inside.inside.items ≡ map under_mask chunk = c.in_ok-inside.ensures.value ∙ ap (λ slots. map under_mask (slots_seen slots)) c.deref-in-Some.ensures.value in
    let inner : c.in_ok-inner.inner ≡ container_of inner_type (map under_mask chunk) = cc (c.in_ok-inner.ensures.made, inside) in
    record {
      made = subst (λ (type : ElementType). Answers {V = Held} refusal_memory (λ elements. elements) c.under.result (Ok (container_of type chunk))) (optional_by_inner c.args.data_type.now inner_type c.in-Some.ensures.value)
          (mask_answers c.under.result c.in_ok-inner.inner (container_of inner_type (map under_mask chunk)) c.in_ok-mask.mask.items chunk c.under.ensures.answer inner mask);
    }
