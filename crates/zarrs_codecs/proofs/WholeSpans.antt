-- The whole value of a handle, as a span.
use Rattle.std.proofs.Common.{◌≡◌, ℕ, ◌+◌, Bool, Option, Some, None, List, length, arith, refl, ap, ◌∙◌}
use Rattle.std.specs.Option.{option_map}
use Rattle.std.proofs.lemmas.List.{take_all}
use Rattle.zarrs_codec.specs.StorageState.{StorageState, value_size}
use Rattle.zarrs_codecs.specs.SpanReads.{held_state, seen_state, span_parts}
use Rattle.zarrs_codecs.specs.declared.sharding.value_span.ValueSpan.{ValueSpan}
use Rattle.zarrs_lent_handles.specs.SpanHandle.{span_state, spanned}

pub some_is : (x y : ℕ) → Some x ≡ Some y → x ≡ y
some_is x y e = cc

value_by : (stored : Option (List ℕ)) (len : ℕ) → value_size stored ≡ Some len → option_map (spanned 0 len) stored ≡ stored
value_by None len e = absurd cc
value_by (Some value) len e = ap (λ (v : List ℕ). Some v) (let s = some_is (length value) len e in take_all len value (omega (arith, s)))

from_zero : (number : ℕ) → 0 + number ≡ number
from_zero number = omega arith

sure_by : (sure : Option (ℕ → Bool)) → option_map {U = ℕ → Bool} (λ p number. p (0 + number)) sure ≡ sure
sure_by None = refl
sure_by (Some p) = λ i. Some (λ number. p (from_zero number i))

-- is what the handle keeps
pub stored_seen : (span : ValueSpan) (len : ℕ) (state : StorageState) → span_parts span ≡ (None, 0, len) → value_size state.value ≡ Some len → seen_state span state ≡ state
stored_seen span len state e h =
    ap (λ (p : Option (List ℕ) × ℕ × ℕ). span_state p.1 p.2 (held_state p.0 state)) e
    ∙ (λ i. record state { value = value_by state.value len h i; sure = sure_by state.sure i })
