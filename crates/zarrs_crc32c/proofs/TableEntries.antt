-- The table of bytes that were moved.
use Rattle.std.proofs.Common.{◌≡◌, ℕ, zero, suc, ◌+◌, ◌*◌, ◌<◌, ◌≤◌, List, ◌++◌, map, length, get_or, refl, sym, ap, ◌∙◌, arith}
use Rattle.std.specs.List.{range_with_len}
use Rattle.std.proofs.lemmas.List.{get_or-append-add, get_or_append_left, length-map, get_or-map}
use Rattle.std.proofs.lemmas.List.FromFn.{get_or-map-range_with_len, length-map-range_with_len}
use Rattle.zarrs_crc32c.specs.Checksum.{after_bits}
use Rattle.zarrs_crc32c.specs.declared.table.TheConstants.{TABLE}
use Rattle.zarrs_crc32c.proofs.Registers.{bits_more}

-- a row, and behind it so many more, each a byte further
rows : ℕ → List ℕ → List ℕ
rows zero row = row
rows (suc count) row = row ++ rows count (map (after_bits 8) row)

-- the first row
first_row : List ℕ
first_row = map (after_bits 8) (range_with_len 0 256)

entries_are : TABLE ≡ rows 7 first_row
unfolding after_bits rows first_row
entries_are = refl

row_at : (count at byte : ℕ) (row : List ℕ) → at ≤ count → byte < 256 → length row ≡ 256
    → get_or (rows count row) (256 * at + byte) 0 ≡ after_bits (8 * at) (get_or row byte 0)
unfolding after_bits rows
row_at zero zero byte row h l long = ap (λ (i : ℕ). get_or row i 0) (let e : 256 * 0 + byte ≡ byte = omega arith in e)
row_at zero (suc at) byte row h l long = absurd (omega arith)
row_at (suc count) zero byte row h l long =
    ap (λ (i : ℕ). get_or (row ++ rows count (map (after_bits 8) row)) i 0) (let e : 256 * 0 + byte ≡ byte = omega arith in e)
    ∙ get_or_append_left row (rows count (map (after_bits 8) row)) 0 byte (omega arith)
row_at (suc count) (suc at) byte row h l long =
    let next : List ℕ = map (after_bits 8) row in
    ap (λ (i : ℕ). get_or (row ++ rows count next) i 0) (let e : 256 * suc at + byte ≡ length row + (256 * at + byte) = omega arith in e)
    ∙ get_or-append-add row (rows count next) (256 * at + byte) 0
    ∙ row_at count at byte next (omega arith) l (length-map row (after_bits 8) ∙ long)
    ∙ ap (after_bits (8 * at)) (get_or-map (after_bits 8) row byte 0 0 (omega arith))
    ∙ sym (bits_more 8 (8 * at) (get_or row byte 0))
    ∙ ap (λ (n : ℕ). after_bits n (get_or row byte 0)) (let e : 8 + 8 * at ≡ 8 * suc at = omega arith in e)

-- what the table has at a row and a byte
pub entry : (at byte : ℕ) → at < 8 → byte < 256 → get_or TABLE (256 * at + byte) 0 ≡ after_bits (8 * (at + 1)) byte
unfolding first_row
entry at byte h l =
    ap (λ (table : List ℕ). get_or table (256 * at + byte) 0) entries_are
    ∙ row_at 7 at byte first_row (omega arith) l (length-map-range_with_len (after_bits 8) 0 256)
    ∙ ap (after_bits (8 * at)) (get_or-map-range_with_len (after_bits 8) 0 256 byte byte 0 l (omega arith))
    ∙ sym (bits_more 8 (8 * at) byte)
    ∙ ap (λ (n : ℕ). after_bits n byte) (let e : 8 + 8 * at ≡ 8 * (at + 1) = omega arith in e)
