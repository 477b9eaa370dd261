use Rattle.std.proofs.Common.{length}
use Rattle.zarrs_array_to_array.proofs.encoded_boxes.+keep_places.Given as goal

abbrev pub decreases-keep_places : goal.decreases-keep_places
decreases-keep_places l = length l.codecs.now
