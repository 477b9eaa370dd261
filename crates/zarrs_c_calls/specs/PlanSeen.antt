-- What plans of reads are seen as.
use Rattle.std.specs.Prelude.{◌≡◌, ℕ, Option, Some, None, List, Vec, Result}
use Rattle.std.specs.Option.{option_map}
use Rattle.std.proofs.Common.{Global}
use Rattle.zarrs_chunk.specs.Answer.{AnswersBy, memory}
use Rattle.zarrs_chunk.specs.Selection.{Selection}
use Rattle.zarrs_chunk.specs.declared.codec_error.CodecError.{CodecError}
use Rattle.zarrs_codec.specs.ByteSpan.{ByteSpan}
use Rattle.zarrs_json.specs.KnownBytesCodec.{known_codecs}
use Rattle.zarrs_json.specs.Header.{HeaderForm}
use Rattle.zarrs_codecs.specs.ChunkRead.{IsReadPlan}
use Rattle.zarrs_c_calls.specs.Plans.{Planned, AreForPlan, places_planned, range_numbers}

-- a plan of a read of a selection, or the first error
abbrev pub PlansPart : HeaderForm → Selection → Result (Option (Vec ByteSpan Global)) CodecError → Type 0
PlansPart form selection result =
    AnswersBy memory (λ ranges. IsReadPlan known_codecs form (option_map (λ v. v.items) ranges)) result (places_planned form selection)

-- the numbers are those of ranges for a plan, or there are none
abbrev pub IsPlanNumbers : Option (Vec ℕ Global) → Planned → Type 0
IsPlanNumbers None plan = AreForPlan None plan
IsPlanNumbers (Some numbers) plan = (ranges : List ByteSpan) × (numbers.items ≡ range_numbers ranges) × AreForPlan (Some ranges) plan
