use Rattle.std.proofs.Common.{◌∙◌, Some, Ok, refl}
use Rattle.zarrs_codecs.specs.Selection.{Selection}
use Rattle.zarrs_codecs.specs.ChunkRead.{chunk_of}
use Rattle.zarrs_codecs.specs.LentHandle.{lent_value}
use Rattle.zarrs_uses.proofs.WindowReads.{read_so, windows_same, same_box}
use Rattle.zarrs_uses.proofs.windows.windows_agree.Goals as goal

pub returns : goal.returns
returns g c =
    let f = g.B.BytesToBytesCodecTraits.functions in
    let form = chunk_of c.args.chain.now c.args.shape.now c.args.data_type.now c.args.fill_value.now in
    let found = c.in_ok-whole.ensures.decodes.found in
    let reads = read_so f form form (lent_value c.new-handle.result) (Some c.args.value.now) (Selection.subset c.args.window) (Ok c.in_ok-read.read) refl c.new-handle.ensures.made c.in_ok-read.ensures.selected in
    record {
      same = c.eq.ensures
          ∙ windows_same f form c.args.value.now found.0 c.args.window (Selection.subset c.in_ok-copy.copy) c.in_ok-whole.whole c.in_ok-read.read c.in_ok-cut.cut found.2 found.1 (same_box c.in_ok-copy.copy c.args.window c.in_ok-copy.ensures.copy) reads c.in_ok-cut.ensures.exact.is c.in_ok-read.ensures.tight
          (c.in_ok-cut.ensures.tight c.in_ok-whole.ensures.tight.blank) c.tight_containers_are_same.ensures.law;
    }
