-- The container of elements that a caller gives.
use Rattle.std.specs.Prelude.{ℕ, ◌==◌, ◌/◌, ◌%◌, ◌^◌, ◌-◌, nat_le, min, if◌then◌else◌, List, length, take, drop, Option, Some, None, ok_or, Result, Ok}
use Rattle.zarrs_chunk.specs.Answer.{◌>>=◌, demand}
use Rattle.zarrs_data_type.specs.ElementType.{ElementType, fixed, text, bytes, optional, optional_levels}
use Rattle.zarrs_array_bytes.specs.Held.{Held, flen}
use Rattle.zarrs_array_bytes.specs.Offsets.{offsets_of}
use Rattle.zarrs_array_bytes.specs.Parts.{with_offsets, with_mask}
use Rattle.zarrs_c_calls.specs.Buffers.{Buffers}
use Rattle.zarrs_c_calls.specs.Codes.{codec_call_answer}
use Rattle.zarrs_c_calls.specs.declared.cause.Cause.{Cause}
use Rattle.zarrs_c_calls.specs.declared.cause.Cause.TheVariants.{Argument}
use Rattle.zarrs_chain_meaning.specs.vlen.VlenSteps.{lent_bytes}

-- how many masks wrap elements of the type; 2^64 - 1 where there are more
abbrev pub level_count : ElementType → ℕ
level_count type = min (optional_levels type) (2 ^ 64 - 1)

-- how many bytes each of so many masks of one length has, where they have so many together
abbrev pub mask_length : ℕ → ℕ → Option ℕ
mask_length levels count =
    if levels == 0 then (if count == 0 then Some 0 else None) else (if count % levels == 0 then Some (count / levels) else None)

-- elements of any length
abbrev pub variable_given : List ℕ → List ℕ → Result Held Cause
variable_given offsets items = do
  starts ← codec_call_answer (offsets_of offsets)
  codec_call_answer (with_offsets (lent_bytes items) starts)

-- elements of the type under masks of so many bytes each, the outermost first
abbrev pub given_under : ElementType → ℕ → List ℕ → List ℕ → List ℕ → Result Held Cause
given_under (fixed width count sign) each masks offsets items = Ok (flen (lent_bytes items))
given_under text each masks offsets items = variable_given offsets items
given_under bytes each masks offsets items = variable_given offsets items
given_under (optional type) each masks offsets items = do
  _ ← demand (nat_le each (length masks)) Argument
  inner ← given_under type each (drop each masks) offsets items
  codec_call_answer (with_mask inner (lent_bytes (take each masks)))

-- The elements of the type: its masks are of one length, and offsets are read of a variable type alone. That there are as many elements as are due is tested by the calls that take them.
abbrev pub elements_given : ElementType → Buffers → Result Held Cause
elements_given type b = do
  each ← ok_or (mask_length (level_count type) (length b.masks)) Argument
  given_under type each b.masks b.offsets b.bytes
