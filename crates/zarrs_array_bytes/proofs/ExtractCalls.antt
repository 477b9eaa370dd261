-- What the calls of an extraction require, at each kind.
use Rattle.std.proofs.Common.{◌≡◌, ℕ, List, Ok, refl}
use Rattle.zarrs_data_type.specs.ElementType.{ElementType, fixed, text, bytes, optional}
use Rattle.zarrs_array_bytes.specs.Held.{Raw, vlen}
use Rattle.zarrs_array_bytes.specs.Elements.{cut}
use Rattle.zarrs_array_bytes.specs.Pieces.{bytes_with_offsets, variable_of}
use Rattle.zarrs_array_bytes.specs.Validity.{LengthRefusal, levels_fit}
use Rattle.zarrs_array_bytes.specs.Extracted.{container_selection}
use Rattle.zarrs_array_bytes.proofs.OffsetLemmas.{offsets_rise, offsets_begin, offsets_end}
use Rattle.zarrs_array_bytes.proofs.ValidLemmas.{raw_items, inner_fits}

pub extracted_variable : (refusal : LengthRefusal) (t : ElementType) (n : ℕ) (r : Raw) (os places : List ℕ) → levels_fit refusal t n (vlen r os) ≡ Ok tt
    → container_selection t (vlen r os) places ≡ variable_of (bytes_with_offsets (cut os r.items) places)
extracted_variable refusal (fixed w c s) n r os places h = cc
extracted_variable refusal text n r os places h = refl
extracted_variable refusal bytes n r os places h = refl
extracted_variable refusal (optional t) n r os places h = cc

pub ruleset extract_calls = (offsets_rise, offsets_begin, offsets_end, raw_items, inner_fits)
