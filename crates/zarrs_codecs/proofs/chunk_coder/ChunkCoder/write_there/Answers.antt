use Rattle.std.proofs.Common.{ap, refl}
use Rattle.std.specs.Prelude.{Some}
use Rattle.zarrs_chunk.specs.Answer.{seen}
use Rattle.zarrs_chunk.specs.Runs.{joined_runs}
use Rattle.zarrs_data_type.specs.Form.{form_of}
use Rattle.zarrs_codecs.specs.ChunkCoder.{coder_form}
use Rattle.zarrs_codecs.proofs.Counting.{replaced_so}
use Rattle.zarrs_codecs.proofs.PlaceWrites.{answer_by, in_place_taken}
use Rattle.zarrs_codecs.proofs.RegionReads.{inside_bounds}
use Rattle.zarrs_codecs.proofs.RegionWrites.{passed}
use Rattle.zarrs_codecs.proofs.Unharmed.{accepted_unharmed}
use Rattle.zarrs_codecs.proofs.chunk_coder.ChunkCoder.write_there.Goals as goal

pub write_given_runs-requires : goal.write_given_runs-requires
write_given_runs-requires g c =
    let k = c.args.self.now in
    let form = coder_form k in
    record {
      taken = in_place_taken g.B.BytesToBytesCodecTraits.functions form.chain.bytes_to_bytes form.chain.array_to_bytes c.args.codec.now k.encoded k.data_type k.fill_value c.requires.writes_in_place k.measured;
      filled = c.requires.there.filled;
      below = c.requires.there.inside;
      fit = c.requires.there.fit;
    }

pub returns-clause-writes : goal.returns-clause-writes
returns-clause-writes g c =
    let stored = (g.H.BytesPartialDecoderTraits.state c.args.handle.now).value in
    record {
      answer = answer_by _ _ c.write_given_runs.result _ _ (ap (seen (λ value. Some value)) (c.requires.there.same_edit stored)) c.write_given_runs.ensures.answer;
      indexer_first = inside_bounds c.args.self.now.shape c.args.region.now c.requires.inside _;
      checked_first = passed _ _ c.requires.checked;
      untouched = passed _ _ c.requires.checked;
    }

pub returns-clause-left : goal.returns-clause-left
returns-clause-left g c = record {
  one_write = c.write_given_runs.ensures.one_write;
  refused = c.write_given_runs.ensures.refused;
  kept_if_atomic = c.write_given_runs.ensures.kept_if_atomic;
  unharmed = accepted_unharmed _ c.write_given_runs.result _ _ c.write_given_runs.ensures.answer;
  same_reference = c.write_given_runs.ensures.same_reference;
  form_kept = refl;
}

pub returns-clause-counted : goal.returns-clause-counted
returns-clause-counted g c =
    let D = g.H.BytesPartialDecoderTraits in
    let k = c.args.self.now in
    replaced_so c.write_given_runs.result c.args.codec.now (form_of k.encoded k.data_type k.fill_value) (D.state c.args.handle.now).value (D.state c.write_given_runs.new.handle).value (joined_runs c.args.runs.now) _ c.args.encoded _ _ c.write_given_runs.ensures.answer c.requires.there.places c.write_given_runs.ensures.counted
