use Rattle.std.proofs.Common.{◌≡◌, ◌<◌, false, true, length, take, Ok, Err, is_some, arith, ap, sym, ◌∙◌, subst}
use Rattle.std.specs.List.{All}
use Rattle.std.proofs.lemmas.List.{take_all}
use Rattle.std.proofs.lemmas.List.Elements.{All-more}
use Rattle.zarrs_codecs.specs.Edits.{edited_store, excuse_at, EditHasBytes, all_made}
use Rattle.zarrs_codecs.specs.PartialEncoder.{encoder_form, encoder_handle}
use Rattle.zarrs_codecs.proofs.EditLaws.{edits_accepted, edits_more, edits_written, excuse_is, more_refused}
use Rattle.zarrs_codec.specs.StorageState.{StorageState}
use Rattle.zarrs_codecs.specs.ChunkRead.{form_in_place}
use Rattle.zarrs_codecs.proofs.EditRuns.{failed_writes, left_more, refused_left, unwritten_left}
use Rattle.zarrs_codecs.proofs.PartialReads.{is_readable}
use Rattle.zarrs_codecs.proofs.partial_encoder.edits.run_edits.Goals as goal

pub loop-edit-preserved : goal.loop-edit-preserved
loop-edit-preserved g c =
    let inv = c.loop-edit.invariant in
    let D = g.H.BytesPartialDecoderTraits in
    let f = g.B.BytesToBytesCodecTraits.functions in
    let was = c.args.encoder.now in
    let here = c.loop-edit.encoder in
    let edit = c.edit-item.result in
    let lt : c.loop-edit.done < length c.args.edits.now = omega arith in
    let is = rw (← inv.counted) at c.edit-item.is in
    let stored = (D.state (encoder_handle here)).value in
    record {
      counted = omega arith;
      ran = edits_more f (encoder_form was) c.args.edits.now c.loop-edit.done edit (D.state (encoder_handle was)).value stored (Ok (D.state (encoder_handle c.apply.new.encoder)).value) lt is inv.ran (ap (λ x. edited_store f x stored edit) (sym inv.form_kept) ∙ c.in-Ok.ensures.answer);
      left = left_more c.loop-edit.done (D.state (encoder_handle was)) (D.state (encoder_handle here)) (D.state (encoder_handle c.apply.new.encoder)) inv.left c.in-Ok.ensures.left.one_write;
      bytes = All-more EditHasBytes c.args.edits.now c.loop-edit.done edit lt inv.bytes (subst EditHasBytes is c.in-Ok.ensures.edit_bytes);
      same_reference = c.in-Ok.ensures.left.same_reference ∙ inv.same_reference;
      form_kept = c.in-Ok.ensures.left.form_kept ∙ inv.form_kept;
    }

pub returns-in-Err-clause-edits : goal.returns-in-Err-clause-edits
returns-in-Err-clause-edits g c =
    let inv = c.loop-edit.invariant in
    let D = g.H.BytesPartialDecoderTraits in
    let f = g.B.BytesToBytesCodecTraits.functions in
    let lawful = g.met.B.BytesToBytesCodecTraits.lawful in
    let was = c.args.encoder.now in
    let k = was.coder in
    let form = encoder_form was in
    let sound = c.is_sound.ensures in
    let h = is_readable f form.chain form.sizes form.type form.fill k.encoded k.representation sound.mappings.mappings sound.positive k.taken in
    let n = c.loop-edit.done in
    let edits = c.args.edits.now in
    let edit = c.edit-item.result in
    let e = c.in-Err.refusal in
    let gone = c.in-Err.ensures in
    let old = D.state (encoder_handle was) in
    let stored = (D.state (encoder_handle c.loop-edit.encoder)).value in
    let last = D.state (encoder_handle c.apply.new.encoder) in
    let lt : n < length edits = omega arith in
    let is = rw (← inv.counted) at c.edit-item.is in
    let refusal : excuse_at edits n e ≡ false → edited_store f form stored edit ≡ Err e
    = λ m. ap (λ x. edited_store f x stored edit) (sym inv.form_kept) ∙ gone.answer (sym (ap (λ excuse. excuse e) (excuse_is edits n edit lt is)) ∙ m) in
    let unwritten : last.value ≡ stored → all_made (edited_store f form) (take n edits) old.value ≡ Ok last.value
    = λ same. subst (λ v. all_made (edited_store f form) (take n edits) old.value ≡ Ok v) (sym same) inv.ran in
    record {
      written = tt;
      written_if_atomic = λ atomic start here there.
          edits_written f form k.encoded k.representation h sound.mappings sound.positive k.filling lawful sound.fill_bytes (take n edits) old.value last.value start here inv.bytes there (unwritten (gone.left.kept_if_atomic atomic));
      written_if_unwritten = λ none start here there.
          edits_written f form k.encoded k.representation h sound.mappings sound.positive k.filling lawful sound.fill_bytes (take n edits) old.value last.value start here inv.bytes there
          (unwritten (unwritten_left n old (D.state (encoder_handle c.loop-edit.encoder)) last e inv.left gone.left.refused none));
      accepted = λ start here there.
          edits_accepted f form k.encoded k.representation h sound.mappings sound.positive k.filling lawful sound.fill_bytes (take n edits) old.value stored start here inv.bytes there inv.ran;
      refused = λ m start here there.
          more_refused f form k.encoded k.representation h sound.mappings sound.positive k.filling lawful sound.fill_bytes edits n edit old.value stored start e lt is here inv.bytes there inv.ran (refusal m);
      cause = λ m. edits_more f form edits n edit old.value stored (Err e) lt is inv.ran (refusal m);
      left = rw inv.ran (refused_left n old (D.state (encoder_handle c.loop-edit.encoder)) last e inv.left gone.left.refused, λ m. gone.left.unharmed m ∙ inv.left);
      kept_if_atomic = λ atomic. unwritten (gone.left.kept_if_atomic atomic);
    }

pub returns-clause-edits : goal.returns-clause-edits
returns-clause-edits g c =
    let inv = c.loop-edit.invariant in
    let D = g.H.BytesPartialDecoderTraits in
    let f = g.B.BytesToBytesCodecTraits.functions in
    let lawful = g.met.B.BytesToBytesCodecTraits.lawful in
    let was = c.args.encoder.now in
    let k = was.coder in
    let form = encoder_form was in
    let sound = c.is_sound.ensures in
    let h = is_readable f form.chain form.sizes form.type form.fill k.encoded k.representation sound.mappings.mappings sound.positive k.taken in
    let n = c.loop-edit.done in
    let edits = c.args.edits.now in
    let old = D.state (encoder_handle was) in
    let last = D.state (encoder_handle c.loop-edit.encoder) in
    let all = take_all n edits (omega arith) in
    record {
      written = λ start here there.
          edits_written f form k.encoded k.representation h sound.mappings sound.positive k.filling lawful sound.fill_bytes edits old.value last.value start here (subst (All EditHasBytes) all inv.bytes) there
          (subst (λ es. all_made (edited_store f form) es old.value ≡ Ok last.value) all inv.ran);
      written_if_atomic = λ atomic start here there.
          edits_written f form k.encoded k.representation h sound.mappings sound.positive k.filling lawful sound.fill_bytes (take n edits) old.value last.value start here inv.bytes there inv.ran;
      written_if_unwritten = λ none start here there.
          edits_written f form k.encoded k.representation h sound.mappings sound.positive k.filling lawful sound.fill_bytes (take n edits) old.value last.value start here inv.bytes there inv.ran;
      accepted = λ start here there.
          edits_accepted f form k.encoded k.representation h sound.mappings sound.positive k.filling lawful sound.fill_bytes (take n edits) old.value last.value start here inv.bytes there inv.ran;
      refused = tt;
      cause = tt;
      left = rw inv.ran inv.left;
      kept_if_atomic = λ atomic. inv.ran;
    }

pub returns-in-Err-clause-unread : goal.returns-in-Err-clause-unread
returns-in-Err-clause-unread g c =
    let inv = c.loop-edit.invariant in
    let D = g.H.BytesPartialDecoderTraits in
    let old = D.state (encoder_handle c.args.encoder.now) in
    let here = D.state (encoder_handle c.loop-edit.encoder) in
    let last = D.state (encoder_handle c.apply.new.encoder) in
    λ in_place sure failed.
    let kept = subst (λ form. is_some (form_in_place form) ≡ true) (sym inv.form_kept) in_place in
    let sure_here = subst (λ it. is_some it ≡ true) (sym (ap (λ (s : StorageState). s.sure) inv.left)) sure in
    failed_writes c.loop-edit.done old here last c.in-Err.refusal inv.left (c.in-Err.ensures.unread kept sure_here failed)

pub returns-clause-unread : goal.returns-clause-unread
returns-clause-unread g c = λ in_place sure. tt
