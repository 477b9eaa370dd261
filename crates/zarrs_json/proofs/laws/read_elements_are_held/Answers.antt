use Rattle.zarrs_json.proofs.HeldElements.{containers_hold}
use Rattle.zarrs_json.proofs.ReadElements.{read_are_elements}
use Rattle.zarrs_json.proofs.laws.read_elements_are_held.Goals as goal

pub returns : goal.returns
returns c = record { elements = read_are_elements; held = containers_hold }
