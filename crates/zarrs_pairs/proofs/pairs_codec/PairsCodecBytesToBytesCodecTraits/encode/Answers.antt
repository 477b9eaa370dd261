use Rattle.std.proofs.Common.{Ok, ap, subst}
use Rattle.zarrs_array_bytes.specs.Held.{items_of}
use Rattle.zarrs_chunk.specs.Answer.{Gives}
use Rattle.zarrs_pairs.specs.Lawful.{are_looked_up, none_beside}
use Rattle.zarrs_pairs.specs.PairsCodec.{codec_pairs, or_endless}
use Rattle.zarrs_pairs.proofs.pairs_codec.PairsCodecBytesToBytesCodecTraits.encode.Goals as goal

pub returns-clause-found : goal.returns-clause-found
returns-clause-found c encoded pair =
    let codec = c.args.self.now in
    let found = ((are_looked_up (codec_pairs codec) codec.table.now.one_to_one).encoded (items_of c.args.bytes) encoded).1 pair in
    subst (λ bytes. Gives items_of c.encode_by.result (Ok bytes)) (ap or_endless found) c.encode_by.ensures.answer

pub returns-clause-lacking : goal.returns-clause-lacking
returns-clause-lacking c lacks = c.encode_by.ensures.lacking (none_beside (codec_pairs c.args.self.now) (items_of c.args.bytes) lacks)
