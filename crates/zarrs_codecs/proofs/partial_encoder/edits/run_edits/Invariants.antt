use Rattle.std.proofs.Common.{◌≡◌, take, Ok}
use Rattle.std.specs.List.{All}
use Rattle.zarrs_codecs.specs.Edits.{after_edits, EditHasBytes, all_made, edited_store}
use Rattle.zarrs_codecs.specs.PartialEncoder.{encoder_form, encoder_handle}
use Rattle.zarrs_codecs.proofs.partial_encoder.edits.run_edits.Given as goal

abbrev pub invariant-loop-edit : goal.invariant-loop-edit
invariant-loop-edit g l = record {
  counted : l.done ≡ l.edit-index;
  ran : all_made (edited_store g.B.BytesToBytesCodecTraits.functions (encoder_form l.initial.encoder)) (take l.done l.edits) (g.H.BytesPartialDecoderTraits.state (encoder_handle l.initial.encoder)).value ≡ Ok (g.H.BytesPartialDecoderTraits.state (encoder_handle l.encoder)).value;
  left : g.H.BytesPartialDecoderTraits.state (encoder_handle l.encoder) ≡ after_edits l.done (g.H.BytesPartialDecoderTraits.state (encoder_handle l.encoder)).value (g.H.BytesPartialDecoderTraits.state (encoder_handle l.initial.encoder));
  bytes : All EditHasBytes (take l.done l.edits);
  same_reference : g.H.BytesPartialDecoderTraits.lent (encoder_handle l.encoder) ≡ g.H.BytesPartialDecoderTraits.lent (encoder_handle l.initial.encoder);
  form_kept : encoder_form l.encoder ≡ encoder_form l.initial.encoder;
}
