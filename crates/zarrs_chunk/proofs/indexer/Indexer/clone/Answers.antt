use Rattle.std.proofs.Common.{ap, sym, ◌∙◌, Ok, Result}
use Rattle.zarrs_chunk.specs.Indexer.{PlainIndexer, plain_indices, plain_indexer, selection_of}
use Rattle.zarrs_chunk.specs.Selection.{Selection, indices}
use Rattle.zarrs_chunk.specs.declared.codec_error.CodecError.{CodecError}
use Rattle.zarrs_chunk.proofs.TupleLists.{map-items-clones}
use Rattle.zarrs_chunk.proofs.indexer.Indexer.clone.Goals as goal

abbrev ok : Selection → Result Selection CodecError
ok s = Ok s

abbrev ok_plain : PlainIndexer → Result PlainIndexer CodecError
ok_plain it = Ok it

pub returns-in_ok-clone-in-Indices : goal.returns-in_ok-clone-in-Indices
returns-in_ok-clone-in-Indices c =
    let same = map-items-clones c.in-Indices.tuples.items c.in_ok-clone-in-Indices.field-0.items c.in_ok-clone-in-Indices.ensures.cases.0 in
    record {
      copy = ap (λ s. ok (selection_of s)) c.in-Indices.is ∙ sym (ap (λ tuples. ok (indices tuples)) same);
      equal = ap (λ s. ok_plain (plain_indexer s)) c.in-Indices.is ∙ sym (ap (λ tuples. ok_plain (plain_indices tuples)) same);
    }
