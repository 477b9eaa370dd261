use Rattle.std.proofs.Common.{rules, ℕ, List, length, ap, sym, ◌∙◌}
use Rattle.zarrs_array_bytes.proofs.ValidLemmas.{raw_items}
use Rattle.zarrs_bytes.proofs.Coding.{ok}
use Rattle.zarrs_packbits.specs.BitStream.{stream_of_bytes}
use Rattle.zarrs_packbits.specs.PaddingByte.{value_with}
use Rattle.zarrs_packbits.proofs.packed_values.packed_raw.Goals as goal

pub packed_value-requires-clause-len : goal.packed_value-requires-clause-len
packed_value-requires-clause-len c = ap length (c.deref.ensures.value ∙ raw_items c.args.raw) ∙ c.requires.len

pub returns : goal.returns
returns c =
    let l = c.args.layout.now in
    record { exact = record { is = ap ok (ap (λ (b : List ℕ). value_with l (stream_of_bytes l b)) (sym (c.deref.ensures.value ∙ raw_items c.args.raw)) ∙ sym c.in_ok-value.ensures.value); no_fault = search rules } }
