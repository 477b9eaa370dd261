-- The whole value of a handle as a span of it, and the numbers of an index.
use Rattle.std.proofs.Common.{◌≡◌, ℕ, ◌*◌, true, Option, Some, None, List, length, arith, ap, sym, ◌∙◌}
use Rattle.std.proofs.lemmas.Bool.Decides.{nat_tests}
use Rattle.zarrs_chain_meaning.proofs.ShardReads.{spans_long}
use Rattle.zarrs_chain_meaning.specs.sharding.Sharding.{spans_of}
use Rattle.zarrs_codec.specs.StorageState.{StorageState, value_size}
use Rattle.zarrs_codecs.specs.SpanReads.{StandsIn, held_state, span_parts}
use Rattle.zarrs_codecs.specs.declared.sharding.value_span.ValueSpan.{ValueSpan}
use Rattle.zarrs_lent_handles.specs.SpanHandle.{is_span_of}

-- two numbers for each span
pub two_each : (count : ℕ) (numbers : List ℕ) → length numbers ≡ count * 2 → length numbers ≡ length (spans_of numbers) * 2
two_each count numbers e = e ∙ ap (λ (n : ℕ). n * 2) (sym (spans_long count numbers e))

-- the whole value is a span of it
whole_span : (stored : Option (List ℕ)) (len : ℕ) → value_size stored ≡ Some len → is_span_of 0 len stored ≡ true
whole_span None len e = absurd cc
whole_span (Some value) len e = let long : length value ≡ len = cc in grind (arith, nat_tests, long)

pub whole_stands : (span : ValueSpan) (len : ℕ) (state : StorageState) → span_parts span ≡ (None, 0, len) → value_size state.value ≡ Some len → StandsIn span state
whole_stands span len state parts sized =
    ap (λ (p : Option (List ℕ) × ℕ × ℕ). is_span_of p.1 p.2 (held_state p.0 state).value) parts ∙ whole_span state.value len sized
