use Rattle.std.proofs.Common.{List, ℕ, map, sym, subst, Vec, Global}
use Rattle.zarrs_array_regions.specs.KeptRegions.{IsKept}
use Rattle.zarrs_array_regions.specs.Windows.{TakesRegion, last_window, window_of, window_places}
use Rattle.zarrs_array_to_array.specs.ArrayToArrayCodec.{ArrayMapping}
use Rattle.zarrs_array_to_array.specs.Mapping.{mapping_of}
use Rattle.zarrs_bytes.proofs.Coding.{ok}
use Rattle.zarrs_chain_meaning.proofs.ArraySteps.{ok_is}
use Rattle.zarrs_chunk.specs.Answer.{Answers, memory}
use Rattle.zarrs_chunk.specs.ChunkShape.{product}
use Rattle.zarrs_chunk.specs.Indexer.{selection_of}
use Rattle.zarrs_chunk.specs.Runs.{joined_runs}
use Rattle.zarrs_codecs.proofs.JointReads.{encoded_moved, encoded_refused, end_below, region_moved, taken_readable}
use Rattle.zarrs_codecs.proofs.PartialCalls.{runs_answer}
use Rattle.zarrs_codecs.proofs.RegionReads.{takes_region}
use Rattle.zarrs_codecs.specs.TakenChain.{inner_form}
use Rattle.zarrs_codecs.proofs.sharding.joint_reads.moved_runs.Goals as goal

pub region_runs-requires : goal.region_runs-requires
region_runs-requires g c =
    let taken = c.args.taken.now in
    let form = inner_form taken in
    let are = c.chain_is_sound.ensures.mappings.mappings in
    let kept = subst (λ (cs : List ArrayMapping). IsKept cs form.sizes (selection_of c.in_ok-indexer.indexer) c.in-Some.region.now) c.array_to_array_codecs-codecs.ensures.value c.in-Some.ensures.region_kept in
    record { region = subst (λ cs. TakesRegion cs form.sizes c.in-Some.region.now) (sym c.array_to_array_codecs-codecs.ensures.value) (takes_region g.B.BytesToBytesCodecTraits.functions form taken.encoded taken.measured (taken_readable taken are) are taken.positive taken.counted c.in-Some.region.now kept.inside kept.kept) }

pub returns-in-Some-clause-below : goal.returns-in-Some-clause-below
returns-in-Some-clause-below g c =
    let taken = c.args.taken.now in
    end_below c.region_runs.result (product taken.encoded) (product taken.form.shape.now) (taken_readable taken c.chain_is_sound.ensures.mappings.mappings).count c.region_runs.ensures.below

pub returns-in-Some-clause-rested : goal.returns-in-Some-clause-rested
returns-in-Some-clause-rested g c =
    let form = inner_form c.args.taken.now in
    let region = c.in-Some.region.now in
    let kept = subst (λ (cs : List ArrayMapping). IsKept cs form.sizes (selection_of c.in_ok-indexer.indexer) region) c.array_to_array_codecs-codecs.ensures.value c.in-Some.ensures.region_kept in
    region_moved c.args.taken.now c.chain_is_sound.ensures.mappings.mappings (joined_runs c.args.runs.now) (selection_of c.in_ok-indexer.indexer) (sym (ok_is _ _ c.in_ok-indexer.ensures.selects)) region kept c.region_runs.result
    (subst (λ (cs : List ArrayMapping). Answers memory (λ (v : Vec (ℕ × ℕ) Global). joined_runs v.items) c.region_runs.result (ok (window_places (last_window cs (window_of form.sizes region))))) c.array_to_array_codecs-codecs.ensures.value c.region_runs.ensures.places.is)

pub returns-clause-below : goal.returns-clause-below
returns-clause-below g c =
    let taken = c.args.taken.now in
    end_below c.encoded_runs.result (product taken.encoded) (product taken.form.shape.now) (taken_readable taken c.chain_is_sound.ensures.mappings.mappings).count c.encoded_runs.ensures.below

pub returns-clause-rested : goal.returns-clause-rested
returns-clause-rested g c =
    let form = inner_form c.args.taken.now in
    let are = c.chain_is_sound.ensures.mappings.mappings in
    let h = taken_readable c.args.taken.now are in
    let selection = selection_of c.in_ok-indexer.indexer in
    encoded_moved c.args.taken.now are (joined_runs c.args.runs.now) selection (sym (ok_is _ _ c.in_ok-indexer.ensures.selects)) c.encoded_runs.result
    (runs_answer (λ (runs : Vec (ℕ × ℕ) Global). joined_runs runs.items) c.encoded_runs.result form.type form.chain.array_to_array (map mapping_of c.array_to_array_codecs-codecs.result.now) form.sizes selection h.map_is c.array_to_array_codecs-codecs.ensures.value h.mapped c.encoded_runs.ensures.answer.is)

pub returns-clause-refused : goal.returns-clause-refused
returns-clause-refused g c =
    let form = inner_form c.args.taken.now in
    let are = c.chain_is_sound.ensures.mappings.mappings in
    let h = taken_readable c.args.taken.now are in
    let selection = selection_of c.in_ok-indexer.indexer in
    encoded_refused c.args.taken.now are (joined_runs c.args.runs.now) selection (sym (ok_is _ _ c.in_ok-indexer.ensures.selects)) c.encoded_runs.result
    (runs_answer (λ (runs : Vec (ℕ × ℕ) Global). joined_runs runs.items) c.encoded_runs.result form.type form.chain.array_to_array (map mapping_of c.array_to_array_codecs-codecs.result.now) form.sizes selection h.map_is c.array_to_array_codecs-codecs.ensures.value h.mapped c.encoded_runs.ensures.answer.is)
