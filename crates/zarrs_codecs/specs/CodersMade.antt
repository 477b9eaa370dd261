-- How a chain makes coders of a chunk in part.
use Rattle.std.specs.Prelude.{◌≡◌, Result, IfOk}
use Rattle.zarrs_codec.specs.declared.refused.Refused.{Refused}
use Rattle.zarrs_codecs.specs.PartialDecoder.{handle_of}
use Rattle.zarrs_codecs.specs.declared.partial_decoder.array_partial_decoder.ArrayPartialDecoder.{ArrayPartialDecoder}

-- a decoder that is made owns a handle that looks as the given one did
abbrev pub MadeOver : {H B V : Type 0} {h : _} {b : _} → (H → V) → H → Result (ArrayPartialDecoder H B h b) (Refused H) → Type 0
MadeOver view handle result = IfOk result (λ decoder. view (handle_of decoder) ≡ view handle)
