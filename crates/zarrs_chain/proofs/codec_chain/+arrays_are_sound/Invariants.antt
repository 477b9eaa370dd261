use Rattle.std.proofs.Common.{length}
use Rattle.zarrs_chain.proofs.codec_chain.+arrays_are_sound.Given as goal

abbrev pub decreases-arrays_are_sound : goal.decreases-arrays_are_sound
decreases-arrays_are_sound l = length l.codecs.now
