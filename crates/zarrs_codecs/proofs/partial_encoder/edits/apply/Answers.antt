use Rattle.std.proofs.Common.{inr}
use Rattle.zarrs_codecs.proofs.Counting.{anyway, refused_anyway}
use Rattle.zarrs_codecs.proofs.Unharmed.{erased_unharmed}
use Rattle.zarrs_codecs.proofs.partial_encoder.edits.apply.Goals as goal

pub returns-in-Erase-clause-left : goal.returns-in-Erase-clause-left
returns-in-Erase-clause-left g c =
    let left = c.erase.ensures in
    record {
      one_write = anyway c.erase.result _ left.one_write;
      refused = refused_anyway c.erase.result _ (inr left.one_write);
      kept_if_atomic = left.kept_if_atomic;
      unharmed = erased_unharmed _ c.erase.result _ _ c.erase.ensures.answer;
      same_reference = left.same_reference;
      form_kept = left.form_kept;
    }

pub returns-in-Erase-clause-unread : goal.returns-in-Erase-clause-unread
returns-in-Erase-clause-unread g c = λ in_place sure failed. c.erase.ensures.one_write
