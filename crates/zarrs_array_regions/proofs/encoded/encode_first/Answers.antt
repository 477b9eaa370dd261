use Rattle.std.proofs.Common.{Ok, refl, subst, sym}
use Rattle.zarrs_chunk.specs.Answer.{GivesBy}
use Rattle.zarrs_chunk.specs.ChunkShape.{product}
use Rattle.zarrs_array_bytes.specs.Validity.{Holds}
use Rattle.zarrs_array_to_array.proofs.CodecLists.{no_mappings}
use Rattle.zarrs_array_to_array.proofs.MappedChunks.{holds_elements}
use Rattle.zarrs_array_regions.specs.FewRuns.{first_encoded}
use Rattle.zarrs_array_regions.proofs.encoded.encode_first.Goals as goal

pub returns-in-empty-clause-encoded : goal.returns-in-empty-clause-encoded
returns-in-empty-clause-encoded c =
    let type = c.args.data_type.now in
    let region = c.args.region.now in
    subst (λ cs. GivesBy (Holds type) (Ok c.args.held) (Ok (first_encoded cs type region c.args.held))) (sym (no_mappings c.args.codecs.now c.in-empty.len_below))
    (record { is = holds_elements type (product region.lengths) c.args.held c.requires.valid; no_fault = refl })
