-- How many bytes a container has whose elements all have as many.
use Rattle.std.proofs.Common.{◌≡◌, ℕ, ◌+◌, ◌*◌, length, Option, Some, None, Ok, arith, refl}
use Rattle.std.specs.Option.{option_map}
use Rattle.zarrs_chunk.specs.declared.codec_error.CodecError.TheVariants.{InvalidBytesLength}
use Rattle.zarrs_data_type.specs.ElementType.{ElementType, fixed, text, bytes, optional, element_size}
use Rattle.zarrs_array_bytes.specs.Held.{Held, flen, vlen, masked, byte_count}
use Rattle.zarrs_array_bytes.specs.Validity.{LengthRefusal, levels_fit, validity}
use Rattle.zarrs_array_bytes.specs.Laws.{bytes_each}
use Rattle.zarrs_array_bytes.proofs.ValidLemmas.{both_ok, length_found}

one_more : (o : Option ℕ) (each : ℕ) → option_map (λ (n : ℕ). n + 1) o ≡ Some each → (n : ℕ) × (o ≡ Some n) × (each ≡ n + 1)
one_more (Some n) each e = (n, refl, let is : n + 1 ≡ each = cc in omega arith)
one_more None each e = absurd cc

with_masks : (count n each here masks : ℕ) → each ≡ n + 1 → here ≡ count * n → masks ≡ count → here + masks ≡ count * each
with_masks count n each here masks e h m = rw (e, h, m) (omega arith)

fitting_count : (refusal : LengthRefusal) (type : ElementType) (count each : ℕ) (held : Held) → bytes_each type ≡ Some each → levels_fit refusal type count held ≡ Ok tt → byte_count held ≡ count * each
fitting_count refusal (fixed width components sign) count each (flen raw) e fit =
    let is : element_size width components ≡ each = cc in
    rw (← is) (length_found refusal _ _ fit)
fitting_count refusal (fixed width components sign) count each (vlen raw offsets) e fit = cc
fitting_count refusal (fixed width components sign) count each (masked inner mask) e fit = cc
fitting_count refusal text count each held e fit = cc
fitting_count refusal bytes count each held e fit = cc
fitting_count refusal (optional type) count each (masked inner mask) e fit =
    let n = one_more (bytes_each type) each e in
    let both = both_ok _ _ fit in
    with_masks count n.0 each (byte_count inner) (length mask.items) n.2 (fitting_count refusal type count n.0 inner n.1 both.1) (length_found refusal _ _ both.0)
fitting_count refusal (optional type) count each (flen raw) e fit = cc
fitting_count refusal (optional type) count each (vlen raw offsets) e fit = cc

pub containers_are_counted : (type : ElementType) (count each : ℕ) (held : Held) → bytes_each type ≡ Some each → validity type count held ≡ Ok tt → byte_count held ≡ count * each
containers_are_counted type count each held e valid = fitting_count InvalidBytesLength type count each held e (both_ok _ _ valid).1
