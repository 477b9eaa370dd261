use Rattle.std.proofs.Common.{ℕ, ◌-◌, ◌≤◌, ap, subst, sym, ◌∙◌, arith}
use Rattle.std.proofs.lemmas.List.{take_rest}
use Rattle.zarrs_lent_handles.specs.Pieces.{PlainPiece, HaveFrom, pieces_seen}
use Rattle.zarrs_lent_handles.proofs.PieceLemmas.{near_from, seen_at, seen_from, seen_length}
use Rattle.zarrs_lent_handles.proofs.piece.pieces_near.Goals as goal

pub returns-then-pieces-behind : goal.returns-then-pieces-behind
returns-then-pieces-behind c =
    let k : ℕ = c.partition_point-behind.result - 1 in
    let all = pieces_seen c.args.pieces.now in
    record {
      same = subst (HaveFrom c.args.len c.args.number all) (sym (ap pieces_seen (take_rest c.args.pieces.now k) ∙ seen_from k c.args.pieces.now))
          (near_from c.args.len k c.args.number all _ c.requires.apart (omega (arith, seen_length c.args.pieces.now, c.if-behind-gt0.true, c.partition_point-behind.ensures.bound))
          (subst (λ (p : PlainPiece). p.start ≤ c.args.number) (sym (seen_at k c.args.pieces.now _)) c.if-pieces-behind.true));
    }
