use Rattle.std.proofs.Common.{◌≡◌, ℕ, List, length}
use Rattle.zarrs_json.specs.HexLists.{AreHexTexts, texts_before}
use Rattle.zarrs_json.proofs.hex_lists.bytes_among.Given as goal

-- the texts so far and the tokens that are left are all, and the bytes are those of the texts
abbrev pub invariant-texts : goal.invariant-texts
invariant-texts l =
    (texts : List (List ℕ)) × (l.initial.reader ≡ texts_before texts l.reader) × AreHexTexts (length l.initial.piece) texts l.bytes.items × (length l.piece ≡ length l.initial.piece)

abbrev pub decreases-texts : goal.decreases-texts
decreases-texts l = length l.reader
