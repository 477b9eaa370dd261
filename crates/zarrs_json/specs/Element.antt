-- What an element that was read is seen as.
use Rattle.std.specs.Prelude.{Option, Some, None, List, map}
use Rattle.std.proofs.Common.{Bor}
use Rattle.zarrs_data_type.specs.Element.{Element, plain, absent, present, Chunk}
use Rattle.zarrs_json.specs.declared.element.Element.{Element as Read, Plain, Absent, Present'}

-- the element
abbrev pub element_seen : Read → Element
element_seen (Plain bytes) = plain bytes.items
element_seen Absent = absent
element_seen (Present' p element) = present (element_seen element)

-- what stands at a place: an element, or none where the one above it is absent
abbrev pub slot_seen : Option (Bor Read) → Element
slot_seen None = absent
slot_seen (Some element) = element_seen element.now

-- what stands at each place
abbrev pub slots_seen : List (Option (Bor Read)) → Chunk
slots_seen slots = map slot_seen slots
