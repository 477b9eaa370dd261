-- Values that have pieces.
use Rattle.std.proofs.Common.{◌≡◌, ℕ, ◌+◌, ◌<◌, true, Option, is_some, Some, None, List, [], ◌∷◌, length, get_or, refl, sym, ap, ◌∙◌, arith}
use Rattle.std.proofs.lemmas.Bool.Decides.{nat_tests}
use Rattle.std.proofs.lemmas.List.{ext_get_or}
use Rattle.std.proofs.lemmas.List.FromFn.{get_or-map-range_with_len}
use Rattle.zarrs_lent_handles.specs.Elsewhere.{EachHasPieces, ValuesHavePieces, own_bytes}
use Rattle.zarrs_lent_handles.specs.Pieces.{PlainPiece, HasPieces, are_apart, byte_at, byte_in, byte_around, is_at_hand, piece_with, value_around, zeros}
use Rattle.zarrs_lent_handles.proofs.PieceLemmas.{value_length}

-- a byte at hand is the piece's, whichever stand elsewhere
pub with_piece : (elsewhere : ℕ → ℕ) (ps : List PlainPiece) (n : ℕ) → is_at_hand ps n ≡ true → byte_around elsewhere ps n ≡ byte_at ps n
with_piece elsewhere ps n here = by (piece_with ps n) refl
  where
    by : (o : Option PlainPiece) → piece_with ps n ≡ o → byte_around elsewhere ps n ≡ byte_at ps n
    by None e = absurd (let none : is_some (piece_with ps n) ≡ true = here in cc)
    by (Some p) e =
        ap (λ (o : Option PlainPiece). byte_in elsewhere o n) e ∙ sym (ap (λ (o : Option PlainPiece). byte_in zeros o n) e)

-- and one that isn't is the one that stands there
with_none : (elsewhere : ℕ → ℕ) (ps : List PlainPiece) (n : ℕ) → piece_with ps n ≡ None → byte_around elsewhere ps n ≡ elsewhere n
with_none elsewhere ps n e = ap (λ (o : Option PlainPiece). byte_in elsewhere o n) e

-- what is at hand is inside the value
hand_inside : (len free n : ℕ) (ps : List PlainPiece) → are_apart len free ps ≡ true → is_at_hand ps n ≡ true → n < len
hand_inside len free n [] apart here = absurd (cc)
hand_inside len free n (p ∷ ps) apart here =
    grind (arith, nat_tests, hand_inside len (p.start + length p.bytes + 1) n ps)

own_byte_is : (len : ℕ) (ps : List PlainPiece) (value : List ℕ) (n : ℕ) → HasPieces len ps value → byte_around (own_bytes value) ps n ≡ get_or value n 0
own_byte_is len ps value n has = by (piece_with ps n) refl
  where
    by : (o : Option PlainPiece) → piece_with ps n ≡ o → byte_around (own_bytes value) ps n ≡ get_or value n 0
    by None e = with_none (own_bytes value) ps n e
    by (Some p) e =
        let here : is_at_hand ps n ≡ true = ap is_some e in
        with_piece (own_bytes value) ps n here ∙ sym (has.same n here)

pub each_has_pieces : EachHasPieces
each_has_pieces len ps value has =
    ext_get_or 0 (value_around (own_bytes value) len ps) value (value_length (own_bytes value) len ps ∙ sym has.length_is) (λ i l.
    get_or-map-range_with_len (byte_around (own_bytes value) ps) 0 len i i 0 (omega (arith, l, value_length (own_bytes value) len ps)) (omega arith)
    ∙ own_byte_is len ps value i has)

pub values_have_pieces : ValuesHavePieces
values_have_pieces elsewhere len ps apart = record {
  length_is = value_length elsewhere len ps;
  same = λ n here.
      get_or-map-range_with_len (byte_around elsewhere ps) 0 len n n 0 (hand_inside len 0 n ps apart here) (omega arith)
      ∙ with_piece elsewhere ps n here;
}
