use Rattle.std.proofs.Common.{sym, subst, map}
use Rattle.std.proofs.lemmas.Result.{err_from_is_err_and}
use Rattle.zarrs_array_bytes.specs.Validity.{Holds}
use Rattle.zarrs_array_to_array.specs.Mapping.{mapping_of}
use Rattle.zarrs_codecs.proofs.RegionWrites.{memory_alone}
use Rattle.zarrs_codecs.proofs.WrittenRegions.{coder_takes, coder_takes_type, stands_there}
use Rattle.zarrs_codecs.proofs.chunk_coder.ChunkCoder.few_region.Goals as goal

pub few_region_runs-requires-clause-region : goal.few_region_runs-requires-clause-region
few_region_runs-requires-clause-region g c =
    coder_takes c.args.self.now c.is_sound.ensures.mappings.mappings c.is_sound.ensures.positive c.args.region.now c.requires.inside c.requires.region_kept (map mapping_of c.array_to_array_codecs-codecs.result.now) c.array_to_array_codecs-codecs.ensures.value

pub encode_first-requires-clause-fits : goal.encode_first-requires-clause-fits
encode_first-requires-clause-fits g c = (c.few_region_runs.ensures.few c.if-not-few_region_runs.false).fits

pub encode_first-requires-clause-counted : goal.encode_first-requires-clause-counted
encode_first-requires-clause-counted g c = (c.few_region_runs.ensures.few c.if-not-few_region_runs.false).counted

pub encode_first-requires-clause-takes : goal.encode_first-requires-clause-takes
encode_first-requires-clause-takes g c =
    coder_takes_type c.args.self.now c.is_sound.ensures.mappings.mappings c.is_sound.ensures.positive c.args.region.now c.requires.inside c.requires.region_kept (map mapping_of c.array_to_array_codecs-codecs.result.now) c.array_to_array_codecs-codecs.ensures.value

pub returns-in_err-lent-clause-checked : goal.returns-in_err-lent-clause-checked
returns-in_err-lent-clause-checked g c =
    let p = err_from_is_err_and c.from_residual.result c.from_residual.ensures.1 in
    rw (p.1, p.2) (λ _. sym c.in_err-lent.ensures.checked)

pub returns-in_err-encoded-clause-checked : goal.returns-in_err-encoded-clause-checked
returns-in_err-encoded-clause-checked g c =
    let p = err_from_is_err_and c.from_residual-in_err-encoded.result c.from_residual-in_err-encoded.ensures.1 in
    rw (p.1, p.2) (λ m. absurd (memory_alone _ c.in_err-encoded.field-0.0 (c.in_err-encoded.ensures.encoded.is m)))

pub returns-clause-checked : goal.returns-clause-checked
returns-clause-checked g c = sym (c.in_ok-lent.ensures {u = tt}).checked

pub returns-clause-there : goal.returns-clause-there
returns-clause-there g c =
    let type = c.args.self.now.data_type in
    let lent = c.in_ok-lent.lent in
    let encoded = c.in_ok-encoded.encoded in
    let few = c.few_region_runs.ensures.few c.if-not-few_region_runs.false in
    stands_there c.args.self.now c.is_sound.ensures.mappings.mappings c.is_sound.ensures.positive c.args.region.now c.requires.inside c.requires.region_kept (map mapping_of c.array_to_array_codecs-codecs.result.now) c.array_to_array_codecs-codecs.ensures.value
    c.args.codec.now c.args.elements.now lent encoded c.few_region_runs.new.out.items c.requires.writes_in_place ((c.in_ok-lent.ensures {u = tt}).lent) (c.few_region_runs.ensures.runs c.if-not-few_region_runs.false) (subst (Holds type encoded) (few.moved type lent) ((c.in_ok-encoded.ensures {u = tt}).encoded.is))
