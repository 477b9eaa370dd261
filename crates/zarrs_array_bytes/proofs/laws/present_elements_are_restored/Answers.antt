use Rattle.zarrs_array_bytes.proofs.PresentAnswers.{present_held, expanded_held, expansion_keeps}
use Rattle.zarrs_array_bytes.proofs.PresentLemmas.{expanded-present}
use Rattle.zarrs_array_bytes.proofs.laws.present_elements_are_restored.Goals as goal

pub returns-clause-present : goal.returns-clause-present
returns-clause-present c = present_held

pub returns-clause-expanded : goal.returns-clause-expanded
returns-clause-expanded c = expanded_held

pub returns-clause-restored : goal.returns-clause-restored
returns-clause-restored c = expanded-present

pub returns-clause-kept : goal.returns-clause-kept
returns-clause-kept c = expansion_keeps
