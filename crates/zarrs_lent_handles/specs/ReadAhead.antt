-- What a handle keeps that has read ahead of another one, the handle below.
use Rattle.std.specs.Prelude.{◌≡◌, ◌∷◌, Bool, true, false, List, length, drop, Result, Ok, Err, IfErr}
use Rattle.zarrs_chunk.specs.declared.codec_error.CodecError.{CodecError}
use Rattle.zarrs_chunk.specs.declared.codec_error.CodecError.TheVariants.{OutOfMemory}
use Rattle.zarrs_codec.specs.ByteSpan.{ByteSpan}
use Rattle.zarrs_codec.specs.Lent.{Lent, whole_reference}
use Rattle.zarrs_lent_handles.specs.AheadHandle.{are_next}
use Rattle.zarrs_lent_handles.specs.declared.ahead_handle.AheadHandle.{AheadHandle}

-- the handle below
abbrev pub below : {H : Type 0} {h : _} → AheadHandle H h → H
below handle = handle.handle.now

-- the reference to the handle below, and those that that one is made of
abbrev pub lent_below : {H : Type 0} {h : _} → (H → List Lent) → AheadHandle H h → List Lent
lent_below lent handle = whole_reference handle.handle.ghost_name ∷ lent (below handle)

-- the ranges that have been read ahead and not been taken yet, in order
abbrev pub ranges_ahead : {H : Type 0} {h : _} → AheadHandle H h → List ByteSpan
ranges_ahead handle = drop handle.next handle.ranges.items

-- the ranges behind so many as are asked for, where these come first; else all
abbrev pub behind_next : Bool → List ByteSpan → List ByteSpan → List ByteSpan
behind_next true asked ahead = drop (length asked) ahead
behind_next false asked ahead = ahead

-- Which ranges are kept ahead after a read of these that answered this: where they come first and it was accepted, those behind them; else all.
abbrev pub ahead_after : {E T : Type 0} → Result T E → List ByteSpan → List ByteSpan → List ByteSpan
ahead_after (Ok _) asked ahead = behind_next (are_next asked ahead) asked ahead
ahead_after (Err _) asked ahead = ahead

-- A read of the ranges that come first is answered from what is kept ahead: the handle below is as it was, so it was asked for nothing, and the one error is a lack of memory. Accepted, it leaves those behind them; else all.
pub record TakesAhead {H T : Type 0} {h : _} (asked : List ByteSpan) (before after : AheadHandle H h) (result : Result T CodecError) : Type 0 where
  pub below : after.handle ≡ before.handle
  pub memory : IfErr result (λ error. error ≡ OutOfMemory)
  pub ahead : ranges_ahead after ≡ ahead_after result asked (ranges_ahead before)
