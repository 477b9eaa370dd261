-- Ranges of bytes that a read asks for.
use Rattle.std.specs.Prelude.{◌≡◌, ℕ, ◌+◌, ◌-◌, ◌*◌, ◌<◌, List, ◌++◌, length, map, Vec, Result}
use Rattle.std.specs.List.{All, range_with_len, sum_by}
use Rattle.std.proofs.Common.{Global}
use Rattle.zarrs_chunk.specs.Answer.{GivesBy}
use Rattle.zarrs_chunk.specs.Runs.{joined_runs, AreApart, AreFilled}
use Rattle.zarrs_chunk.specs.declared.codec_error.CodecError.{CodecError}
use Rattle.zarrs_codec.specs.ByteRanges.{range_indices}
use Rattle.zarrs_codec.specs.ByteSpan.{ByteSpan}
use Rattle.zarrs_bytes.specs.PartialRead.{place_bytes}

-- none of the ranges is empty
abbrev pub NoneIsEmpty : List ByteSpan → Type 0
NoneIsEmpty ranges = All (λ range. range.start < range.end) ranges

-- the numbers of the ranges' bytes, and behind them those from one byte on, up to and without another
abbrev pub indices_until : List ByteSpan → ℕ → ℕ → List ℕ
indices_until ranges start end = range_indices ranges ++ range_with_len start (end - start)

-- how many bytes the ranges have, all together
abbrev pub ranges_len : List ByteSpan → ℕ
ranges_len ranges = sum_by (λ range. range.end - range.start) ranges

-- where ranges start and end
abbrev pub spans : List ByteSpan → List (ℕ × ℕ)
spans ranges = map (λ range. (range.start, range.end)) ranges

-- where the bytes of a run of elements of one size start and end
abbrev pub element_span : ℕ → ℕ × ℕ → ℕ × ℕ
element_span size run = (run.0 * size, (run.0 + run.1) * size)

-- the ranges are those of these runs of elements of one size, one for each run
abbrev pub AreOfRuns : ℕ → List (ℕ × ℕ) → Vec ByteSpan Global → Type 0
AreOfRuns size runs ranges = spans ranges.items ≡ map (element_span size) runs

-- The ranges are the plan of a read of these places, of elements of one size: the places are cut, in order, into runs of consecutive places, none of them empty and none beginning where the one before it ends, and each range is the bytes of one run. So no byte is asked for twice where no place comes twice. Joined they are the places' bytes.
pub record IsPlan (size : ℕ) (places : List ℕ) (ranges : List ByteSpan) : Type 0 where
  pub runs : List (ℕ × ℕ)
  pub filled : AreFilled runs
  pub apart : AreApart runs
  pub joined : joined_runs runs ≡ places
  pub each : spans ranges ≡ map (element_span size) runs
  pub bytes : range_indices ranges ≡ place_bytes size places
  pub sum : ranges_len ranges ≡ length places * size

-- the answered ranges are the plan of a read of the expected places, or the first error is returned
abbrev pub PlansPlaces : ℕ → Result (Vec ByteSpan Global) CodecError → Result (List ℕ) CodecError → Type 0
PlansPlaces size result places = GivesBy (λ ranges asked. IsPlan size asked ranges.items) result places
