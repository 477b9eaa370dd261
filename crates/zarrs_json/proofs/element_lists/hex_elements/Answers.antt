use Rattle.std.proofs.Common.{rules, ◌≡◌, ◌∙◌, ap, sym, Ok}
use Rattle.std.specs.Prelude.{IsUtf8}
use Rattle.zarrs_array_bytes.specs.Pieces.{fixed_of}
use Rattle.zarrs_json.specs.HexLists.{ListsHexTexts}
use Rattle.zarrs_json.proofs.HexElements.{fixed_listed}
use Rattle.zarrs_json.proofs.element_lists.hex_elements.Goals as goal

pub returns-in-Some-2 : goal.returns-in-Some-2
returns-in-Some-2 c =
    let text = c.args.text.now in
    let found = c.in-Some-2.bytes.items in
    let listed : IsUtf8 text × ListsHexTexts c.in-Some.size text found = rw c.in-Some-2.is at c.in_ok-bytes.ensures.value in
    let made : c.new_flen.result ≡ fixed_of found = search rules in
    record { value = fixed_listed c.args.data_type.now c.in-Some.size text found c.in-Some.ensures.value listed.0 listed.1 ∙ ap Ok (sym made) }
