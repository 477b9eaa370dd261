use Rattle.std.proofs.Common.{◌≡◌, arith, subst}
use Rattle.std.proofs.lemmas.List.{get_or-map, length-map}
use Rattle.std.proofs.Math.Seq.{map-set_same}
use Rattle.zarrs_codecs.specs.ArrayReader.{ArrayReader}
use Rattle.zarrs_uses.proofs.array_region.append_from.Goals as goal

pub append_part-requires-clause-reads : goal.append_part-requires-clause-reads
append_part-requires-clause-reads g c =
    let reader = g.D.ArrayPartialDecoderTraits.reader in
    let decoders = c.args.decoders.now in
    let default = c.index-decoders-number.result in
    subst (λ (r : ArrayReader). r.type ≡ c.args.data_type.now) (get_or-map reader decoders c.args.number default (reader default) (omega arith))
    (c.requires.reads c.args.number (reader default) (omega (arith, length-map decoders reader)))

pub returns-clause-kept : goal.returns-clause-kept
returns-clause-kept g c =
    map-set_same g.D.ArrayPartialDecoderTraits.reader c.args.decoders.now c.args.number c.append_part.new.decoder c.index-decoders-number.result c.append_part.ensures.kept
