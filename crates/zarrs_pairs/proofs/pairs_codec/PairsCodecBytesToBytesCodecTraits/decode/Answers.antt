use Rattle.std.proofs.Common.{ap, map, subst}
use Rattle.zarrs_array_bytes.specs.Held.{items_of}
use Rattle.zarrs_chunk.specs.Answer.{Gives}
use Rattle.zarrs_pairs.specs.Lawful.{are_looked_up, none_beside, turned_back}
use Rattle.zarrs_pairs.specs.Pairs.{turned}
use Rattle.zarrs_pairs.specs.PairsCodec.{codec_pairs, or_refused}
use Rattle.zarrs_pairs.proofs.pairs_codec.PairsCodecBytesToBytesCodecTraits.decode.Goals as goal

pub returns-clause-found : goal.returns-clause-found
returns-clause-found c decoded pair =
    let codec = c.args.self.now in
    let found = ((are_looked_up (codec_pairs codec) codec.table.now.one_to_one).decoded decoded (items_of c.args.encoded)).1 pair in
    subst (λ answer. Gives items_of c.decode_by.result answer) (ap or_refused found) c.decode_by.ensures.answer

pub returns-clause-lacking : goal.returns-clause-lacking
returns-clause-lacking c lacks =
    let pairs = codec_pairs c.args.self.now in
    let encoded = items_of c.args.encoded in
    c.decode_by.ensures.lacking (none_beside (map turned pairs) encoded (λ value member. lacks value (turned_back pairs value encoded member)))
