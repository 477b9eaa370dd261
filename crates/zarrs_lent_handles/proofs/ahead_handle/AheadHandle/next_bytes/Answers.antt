use Rattle.std.proofs.Common.{◌≡◌, Some, Ok, refl, ap, sym, subst, ◌∙◌, List, ℕ, take, drop, length, arith}
use Rattle.std.proofs.lemmas.List.{length-drop, length-take}
use Rattle.zarrs_lent_handles.proofs.AheadLemmas.{IsTaken, behind, is_left, is_taken_on, within_on}
use Rattle.zarrs_lent_handles.proofs.ahead_handle.AheadHandle.next_bytes.Goals as goal

pub slice_bounds-from_slice-end : goal.slice_bounds-from_slice-end
slice_bounds-from_slice-end g c =
    let self = c.args.self.now in
    let stored = (g.H.BytesPartialDecoderTraits.state self.handle.now).value in
    let first = c.if-not-come_first.ensures in
    let taken : IsTaken stored (drop self.next self.ranges.items) c.args.asked.now (drop self.at self.bytes.items) c.ranges_len-len.result = is_taken_on stored self.ranges.items c.deref.result.now c.args.asked.now self.bytes.items self.next self.at c.ranges_len-len.result self.stored self.inside self.kept c.deref.ensures.value (first.first refl) (first.some refl) (first.within refl) c.ranges_len-len.ensures.value (omega (arith, self.bytes.small)) in
    let rest = behind self.bytes.items c.deref-2.result.now self.at c.deref-2.ensures.value in
    subst (λ (bs : List ℕ). c.ranges_len-len.result ≡ length (take c.ranges_len-len.result bs)) (sym rest) (omega (arith, taken.enough, length-take c.ranges_len-len.result (drop self.at self.bytes.items)))

pub overflow_add-self-2 : goal.overflow_add-self-2
overflow_add-self-2 g c =
    let self = c.args.self.now in
    let stored = (g.H.BytesPartialDecoderTraits.state self.handle.now).value in
    let first = c.if-not-come_first.ensures in
    let taken : IsTaken stored (drop self.next self.ranges.items) c.args.asked.now (drop self.at self.bytes.items) c.ranges_len-len.result = is_taken_on stored self.ranges.items c.deref.result.now c.args.asked.now self.bytes.items self.next self.at c.ranges_len-len.result self.stored self.inside self.kept c.deref.ensures.value (first.first refl) (first.some refl) (first.within refl) c.ranges_len-len.ensures.value (omega (arith, self.bytes.small)) in
    omega (arith, taken.enough, self.within, self.bytes.small, length-drop self.at self.bytes.items)

pub invariant_of-self : goal.invariant_of-self
invariant_of-self g c =
    let self = c.args.self.now in
    let stored = (g.H.BytesPartialDecoderTraits.state self.handle.now).value in
    let first = c.if-not-come_first.ensures in
    let taken : IsTaken stored (drop self.next self.ranges.items) c.args.asked.now (drop self.at self.bytes.items) c.ranges_len-len.result = is_taken_on stored self.ranges.items c.deref.result.now c.args.asked.now self.bytes.items self.next self.at c.ranges_len-len.result self.stored self.inside self.kept c.deref.ensures.value (first.first refl) (first.some refl) (first.within refl) c.ranges_len-len.ensures.value (omega (arith, self.bytes.small)) in
    let left = is_left stored self.ranges.items c.args.asked.now self.bytes.items self.next self.at c.ranges_len-len.result taken in
    record {
      stored = left.some;
      inside = left.inside;
      kept = left.kept;
      counted = within_on self.ranges.items self.next (length c.args.asked.now) self.counted taken.few;
      within = within_on self.bytes.items self.at c.ranges_len-len.result self.within taken.enough;
    }

pub returns-clause-bytes : goal.returns-clause-bytes
returns-clause-bytes g c =
    let self = c.args.self.now in
    let stored = (g.H.BytesPartialDecoderTraits.state self.handle.now).value in
    let first = c.if-not-come_first.ensures in
    let taken : IsTaken stored (drop self.next self.ranges.items) c.args.asked.now (drop self.at self.bytes.items) c.ranges_len-len.result = is_taken_on stored self.ranges.items c.deref.result.now c.args.asked.now self.bytes.items self.next self.at c.ranges_len-len.result self.stored self.inside self.kept c.deref.ensures.value (first.first refl) (first.some refl) (first.within refl) c.ranges_len-len.ensures.value (omega (arith, self.bytes.small)) in
    let rest = behind self.bytes.items c.deref-2.result.now self.at c.deref-2.ensures.value in
    taken.read ∙ ap (λ (bs : List ℕ). Ok (Some (take c.ranges_len-len.result bs))) (sym rest) ∙ ap (λ (bs : List ℕ). Ok (Some bs)) (sym ((c.in_ok-bytes.ensures {u = tt}).items))
