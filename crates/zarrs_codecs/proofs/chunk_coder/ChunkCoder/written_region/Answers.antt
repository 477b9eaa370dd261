use Rattle.std.proofs.Common.{◌≡◌, ◌∙◌, subst, sym}
use Rattle.std.specs.Prelude.{IfSome, option_map}
use Rattle.std.proofs.lemmas.Option.{IfSome_then}
use Rattle.zarrs_chunk.specs.Indexer.{selection_of}
use Rattle.zarrs_array_regions.specs.KeptRegions.{IsKept, kept_region}
use Rattle.zarrs_codecs.specs.ChunkCoder.{coder_form}
use Rattle.zarrs_codecs.proofs.PartialReads.{is_readable}
use Rattle.zarrs_codecs.proofs.WrittenRegions.{kept_planned, found_kept, none_found, no_arrays, none_kept, none_anyway, own_planned}
use Rattle.zarrs_codecs.proofs.chunk_coder.ChunkCoder.written_region.Goals as goal

pub returns-then-is_empty-clause-region : goal.returns-then-is_empty-clause-region
returns-then-is_empty-clause-region g c =
    let k = c.args.self.now in
    let form = coder_form k in
    let selection = selection_of c.args.indexer.now in
    let none = no_arrays c.array_to_array_codecs-codecs.result.now form.chain.array_to_array c.array_to_array_codecs-codecs.ensures.value (sym c.is_empty.ensures ∙ c.if-is_empty.true) in
    IfSome_then c.filled_box.result c.filled_box.ensures.filled (λ region own. record {
      kept = subst (λ cs. IsKept cs form.sizes selection region.now) (sym none) own;
      places = λ order alone. own_planned form selection region.now none own k.counted_whole;
    })

pub returns-then-is_empty-clause-others : goal.returns-then-is_empty-clause-others
returns-then-is_empty-clause-others g c =
    let k = c.args.self.now in
    let form = coder_form k in
    let selection = selection_of c.args.indexer.now in
    let none = no_arrays c.array_to_array_codecs-codecs.result.now form.chain.array_to_array c.array_to_array_codecs-codecs.ensures.value (sym c.is_empty.ensures ∙ c.if-is_empty.true) in
    none_anyway c.filled_box.result _ (none_kept form.chain.array_to_array form.sizes selection none)

pub returns-clause-region : goal.returns-clause-region
returns-clause-region g c =
    let f = g.B.BytesToBytesCodecTraits.functions in
    let k = c.args.self.now in
    let form = coder_form k in
    let selection = selection_of c.args.indexer.now in
    let are = c.is_sound.ensures.mappings.mappings in
    let positive = c.is_sound.ensures.positive in
    let h = is_readable f form.chain form.sizes form.type form.fill k.encoded k.representation are positive k.taken in
    let value = c.array_to_array_codecs-codecs.ensures.value in
    let found = subst (λ cs. option_map (λ region. region.now) c.kept_region.result ≡ kept_region cs form.sizes selection) value c.kept_region.ensures.region in
    let kept = subst (λ cs. IfSome c.kept_region.result (λ region. IsKept cs form.sizes selection region.now)) value c.kept_region.ensures.region_kept in
    IfSome_then c.kept_region.result (found_kept c.kept_region.result (λ region. region.now) form.chain.array_to_array form.sizes selection found kept) (λ region is. record {
      kept = is.0;
      places = kept_planned f form k.encoded k.representation h are positive k.counted_whole selection region.now is.0 is.1;
    })

pub returns-clause-others : goal.returns-clause-others
returns-clause-others g c =
    let form = coder_form c.args.self.now in
    let selection = selection_of c.args.indexer.now in
    none_found c.kept_region.result (λ region. region.now) (kept_region form.chain.array_to_array form.sizes selection)
    (subst (λ cs. option_map (λ region. region.now) c.kept_region.result ≡ kept_region cs form.sizes selection) c.array_to_array_codecs-codecs.ensures.value c.kept_region.ensures.region)
