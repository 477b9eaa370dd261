use Rattle.std.proofs.Common.{ap, sym, ◌∙◌}
use Rattle.zarrs_array_regions.proofs.KeptWindows.{places_are}
use Rattle.zarrs_array_regions.specs.WindowLaws.{region_places}
use Rattle.zarrs_chunk.specs.Region.{Region}
use Rattle.zarrs_chunk.specs.Selection.{places_of, subset}
use Rattle.zarrs_codecs.proofs.BoxReads.{same_box}
use Rattle.zarrs_codecs.specs.TakenChain.{inner_form}
use Rattle.zarrs_codecs.proofs.sharding.box_reads.chain_box.Goals as goal

pub returns-clause-answer : goal.returns-clause-answer
returns-clause-answer g c =
    let taken = c.args.taken.now in
    let sizes = (inner_form taken).sizes in
    let region = c.args.region.now in
    let same = same_box region c.in_ok-own.own ((c.in_ok-own.ensures {u = tt}).copy) in
    (c.indexed_in_span.ensures.reads (region_places sizes region) (ap (λ (box : Region). places_of (subset box) sizes) (sym same) ∙ places_are sizes region c.requires.inside taken.counted)).0

pub returns-clause-sure : goal.returns-clause-sure
returns-clause-sure g c =
    let taken = c.args.taken.now in
    let sizes = (inner_form taken).sizes in
    let region = c.args.region.now in
    let same = same_box region c.in_ok-own.own ((c.in_ok-own.ensures {u = tt}).copy) in
    (c.indexed_in_span.ensures.reads (region_places sizes region) (ap (λ (box : Region). places_of (subset box) sizes) (sym same) ∙ places_are sizes region c.requires.inside taken.counted)).1
