use Rattle.std.proofs.Common.{arith}
use Rattle.zarrs_array_regions.proofs.WindowCalls.{codec_step}
use Rattle.zarrs_array_regions.proofs.last_window.+region_window.Goals as goal

pub region_window-requires : goal.region_window-requires
region_window-requires t c =
    let codecs = c.args.codecs.now in
    let first = c.first-item.result in
    let next = c.in-Some.next in
    let s = codec_step codecs first c.in-len1-up.len_at_least c.first-item.is c.args.shape.now c.args.region.now c.requires.region c.is_sound.ensures.sound _ next ((c.in_ok-next_window-in-len1-up.ensures {u = tt}).answer.is) c.in-Some.is in
    (omega arith, s.takes)
