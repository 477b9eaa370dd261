use Rattle.zarrs_array_to_array.proofs.Readers.{codec_image, asked_by_places, chunk_read, fill_read}
use Rattle.zarrs_array_to_array.proofs.laws.readers_go_by_place.Goals as goal

pub returns-clause-image : goal.returns-clause-image
returns-clause-image c = λ codec sizes m selection is takes inside. codec_image codec sizes m selection is takes inside

pub returns-clause-places : goal.returns-clause-places
returns-clause-places c = λ codec sizes m in_part input answer is positive takes same by. asked_by_places codec sizes m is positive takes in_part input answer same by

pub returns-clause-chunk : goal.returns-clause-chunk
returns-clause-chunk c = λ codec sizes m in_part input chunk is positive takes same by. chunk_read codec sizes m is positive takes in_part input chunk same by

pub returns-clause-fill : goal.returns-clause-fill
returns-clause-fill c = λ codec sizes m in_part input fill is positive takes same by. fill_read codec sizes m is positive takes in_part input fill same by
