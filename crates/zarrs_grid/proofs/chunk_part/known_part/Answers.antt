use Rattle.std.proofs.Common.{refl, ◌∙◌}
use Rattle.zarrs_grid.specs.Parts.{starts_in_chunk, starts_in_region, part_lengths}
use Rattle.zarrs_grid.proofs.KnownBoxes.{ready_at}
use Rattle.zarrs_grid.proofs.chunk_part.known_part.Goals as goal

pub part_shape-requires : goal.part_shape-requires
part_shape-requires c =
    record {
      meet = (ready_at c.args.region.now c.as_slice-sizes.ensures.value c.as_slice-numbers.ensures.value c.start-starts.ensures.value
          c.shape-lengths.ensures.value c.as_slice-sizes.ensures.positive c.requires.axes c.shape-lengths.ensures.axes
          c.shape-lengths.ensures.ends c.requires.known).meet;
    }

pub chunk_starts-requires-clause-axes : goal.chunk_starts-requires-clause-axes
chunk_starts-requires-clause-axes c =
    (ready_at c.args.region.now c.as_slice-sizes.ensures.value c.as_slice-numbers.ensures.value c.start-starts.ensures.value
    c.shape-lengths.ensures.value c.as_slice-sizes.ensures.positive c.requires.axes c.shape-lengths.ensures.axes
    c.shape-lengths.ensures.ends c.requires.known).meet.axes

pub chunk_starts-requires-clause-fits : goal.chunk_starts-requires-clause-fits
chunk_starts-requires-clause-fits c =
    (ready_at c.args.region.now c.as_slice-sizes.ensures.value c.as_slice-numbers.ensures.value c.start-starts.ensures.value
    c.shape-lengths.ensures.value c.as_slice-sizes.ensures.positive c.requires.axes c.shape-lengths.ensures.axes
    c.shape-lengths.ensures.ends c.requires.known).fits

pub region_starts-requires-clause-axes : goal.region_starts-requires-clause-axes
region_starts-requires-clause-axes c =
    (ready_at c.args.region.now c.as_slice-sizes.ensures.value c.as_slice-numbers.ensures.value c.start-starts.ensures.value
    c.shape-lengths.ensures.value c.as_slice-sizes.ensures.positive c.requires.axes c.shape-lengths.ensures.axes
    c.shape-lengths.ensures.ends c.requires.known).meet.axes

pub region_starts-requires-clause-fits : goal.region_starts-requires-clause-fits
region_starts-requires-clause-fits c =
    (ready_at c.args.region.now c.as_slice-sizes.ensures.value c.as_slice-numbers.ensures.value c.start-starts.ensures.value
    c.shape-lengths.ensures.value c.as_slice-sizes.ensures.positive c.requires.axes c.shape-lengths.ensures.axes
    c.shape-lengths.ensures.ends c.requires.known).fits

pub known_box-in_chunk-requires : goal.known_box-in_chunk-requires
known_box-in_chunk-requires c =
    let ready = ready_at c.args.region.now c.as_slice-sizes.ensures.value c.as_slice-numbers.ensures.value c.start-starts.ensures.value
    c.shape-lengths.ensures.value c.as_slice-sizes.ensures.positive c.requires.axes c.shape-lengths.ensures.axes
    c.shape-lengths.ensures.ends c.requires.known in
    let lens = (c.in_ok-lens.ensures {u = tt}).value in
    let same = (c.in_ok-same.ensures {u = tt}).items ∙ c.as_slice.ensures.value ∙ lens in
    record { ends = rw ((c.in_ok-chunk_start.ensures {u = tt}).value, same) ready.chunk }

pub known_box-in_region-requires : goal.known_box-in_region-requires
known_box-in_region-requires c =
    let ready = ready_at c.args.region.now c.as_slice-sizes.ensures.value c.as_slice-numbers.ensures.value c.start-starts.ensures.value
    c.shape-lengths.ensures.value c.as_slice-sizes.ensures.positive c.requires.axes c.shape-lengths.ensures.axes
    c.shape-lengths.ensures.ends c.requires.known in
    record { ends = rw ((c.in_ok-region_start.ensures {u = tt}).value, (c.in_ok-lens.ensures {u = tt}).value) ready.region }

pub returns : goal.returns
returns c =
    let sizes = c.as_slice-sizes.ensures.value in
    let starts = c.start-starts.ensures.value in
    let lengths = c.shape-lengths.ensures.value in
    let lens = (c.in_ok-lens.ensures {u = tt}).value ∙ (λ i. part_lengths (sizes i) (c.as_slice-numbers.ensures.value i) (starts i) (lengths i)) in
    let same = (c.in_ok-same.ensures {u = tt}).items ∙ c.as_slice.ensures.value ∙ lens in
    let chunk_start = (c.in_ok-chunk_start.ensures {u = tt}).value ∙ (λ i. starts_in_chunk (sizes i) (c.as_slice-numbers.ensures.value i) (starts i)) in
    let region_start = (c.in_ok-region_start.ensures {u = tt}).value ∙ (λ i. starts_in_region (sizes i) (c.as_slice-numbers.ensures.value i) (starts i)) in
    record {
      value = record {
        chunk = refl;
        in_chunk = c.known_box-in_chunk.ensures.made ∙ (λ i. record { starts = chunk_start i; lengths = same i });
        in_region = c.known_box-in_region.ensures.made ∙ (λ i. record { starts = region_start i; lengths = lens i });
      };
    }
