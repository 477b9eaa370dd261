use Rattle.std.proofs.Common.{rules}
use Rattle.std.specs.Prelude.{Some}
use Rattle.std.proofs.lemmas.Result.{err_from_is_err_and}
use Rattle.zarrs_chunk.specs.Selection.{subset as subset_of}
use Rattle.zarrs_codecs.specs.ChunkCoder.{coder_form}
use Rattle.zarrs_codecs.proofs.PlaceWrites.{left_unchecked, memory_too}
use Rattle.zarrs_codecs.proofs.RegionReads.{inside_bounds}
use Rattle.zarrs_codecs.proofs.chunk_coder.ChunkCoder.write_many.Goals as goal

pub returns-in_err-runs-clause-writes : goal.returns-in_err-runs-clause-writes
returns-in_err-runs-clause-writes g c =
    let k = c.args.self.now in
    let e = c.in_err-runs.field-0.0 in
    let p = err_from_is_err_and c.from_residual.result c.from_residual.ensures.1 in
    record {
      answer = rw (p.1, p.2) (λ m. left_unchecked g.B.BytesToBytesCodecTraits.functions (coder_form k) (Some c.args.codec.now) (g.H.BytesPartialDecoderTraits.state c.args.handle.now).value (subset_of c.args.region.now) c.args.elements.now e (c.in_err-runs.ensures.checked.is (memory_too e m)));
      indexer_first = inside_bounds k.shape c.args.region.now c.requires.inside _;
      checked_first = search rules;
      untouched = search rules;
    }

pub write_there-requires-clause-checked : goal.write_there-requires-clause-checked
write_there-requires-clause-checked g c = (c.in_ok-runs.ensures {u = tt}).checked.is
