use Rattle.std.proofs.Common.{◌≡◌, true, length, drop}
use Rattle.zarrs_json.specs.HeaderRead.{header_seen}
use Rattle.zarrs_codecs.specs.PartialEncoder.{encoder_form}
use Rattle.zarrs_c_calls.specs.BufferHandle.{buffer_bytes, buffer_is_stored, buffer_name}
use Rattle.zarrs_c_calls.specs.EditRuns.{buffer_of}
use Rattle.zarrs_c_calls.specs.Edits.{all_are_taken}
use Rattle.zarrs_c_calls.specs.Reads.{form_seen}
use Rattle.zarrs_c_calls.proofs.EditLemmas.{GoesOn}
use Rattle.zarrs_c_calls.proofs.edits.make_edits.Given as goal

-- the edits that are left make of the value, of the numbers and of the bytes what all make of them as they were
abbrev pub invariant-loop-done : goal.invariant-loop-done
invariant-loop-done l = record {
  goes : GoesOn (header_seen l.form) l.edits.sizes.now l.edits.numbers.now l.edits.bytes.now (buffer_bytes (buffer_of l.fn.encoder)) l.done l.numbers l.bytes (buffer_bytes (buffer_of l.encoder));
  taken : all_are_taken (drop l.done l.edits.sizes.now) (length l.numbers) (length l.bytes) ≡ true;
  stored : buffer_is_stored (buffer_of l.encoder) ≡ true;
  same_reference : buffer_name (buffer_of l.encoder) ≡ buffer_name (buffer_of l.fn.encoder);
  form : encoder_form l.encoder ≡ form_seen l.form;
}
