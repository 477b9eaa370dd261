use Rattle.std.proofs.Common.{◌≡◌, map, true, ap, subst, ◌∙◌}
use Rattle.std.proofs.lemmas.List.{length-map}
use Rattle.zarrs_chain_meaning.specs.Chain.{codec_reads}
use Rattle.zarrs_chain.specs.ChainView.{plain_chain}
use Rattle.zarrs_codecs.specs.ChunkSource.{undecoded_codecs, stage_by, stage_fits}
use Rattle.zarrs_codecs.proofs.CachePlaces.{stage_is, stage_by_fits}
use Rattle.zarrs_codecs.proofs.partial_decoder.make_cache.cache_stage.Goals as goal

pub returns-clause-value : goal.returns-clause-value
returns-clause-value g c =
    let reads = g.B.BytesToBytesCodecTraits.reads_in_part in
    let left = c.codecs_left.ensures.value ∙ ap (λ bs. undecoded_codecs (map reads bs)) c.bytes_to_bytes_codecs.ensures.value in
    c.stage_of.ensures.value ∙ ap (λ codec. stage_by codec c.codecs_left.result) c.codec_reads-codec.ensures.value ∙ ap (stage_by (codec_reads (plain_chain c.args.chain.now).array_to_bytes)) left ∙ stage_is reads (plain_chain c.args.chain.now)

pub returns-clause-fits : goal.returns-clause-fits
returns-clause-fits g c =
    let reads = g.B.BytesToBytesCodecTraits.reads_in_part in
    let chain = plain_chain c.args.chain.now in
    let left = c.codecs_left.ensures.value ∙ ap (λ bs. undecoded_codecs (map reads bs)) c.bytes_to_bytes_codecs.ensures.value in
    let is = c.stage_of.ensures.value ∙ ap (λ codec. stage_by codec c.codecs_left.result) c.codec_reads-codec.ensures.value ∙ ap (stage_by (codec_reads chain.array_to_bytes)) left in
    rw is (subst (λ n. stage_fits (codec_reads chain.array_to_bytes) n (stage_by (codec_reads chain.array_to_bytes) (undecoded_codecs (map reads chain.bytes_to_bytes))) ≡ true) (length-map chain.bytes_to_bytes reads) (stage_by_fits (codec_reads chain.array_to_bytes) (map reads chain.bytes_to_bytes)))
