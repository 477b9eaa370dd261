-- What a handle reads of ranges inside its value.
use Rattle.std.proofs.Common.{◌≡◌, ℕ, ◌+◌, ◌-◌, ◌≤◌, true, nat_le, Option, Some, None, Ok, Err, List, [], ◌∷◌, ◌++◌, length, get_or, arith, refl, ap, sym, ◌∙◌}
use Rattle.std.specs.Prelude.{is_some}
use Rattle.std.specs.List.{list_all, range_with_len}
use Rattle.std.proofs.lemmas.List.{append_assoc}
use Rattle.zarrs_chunk.specs.declared.codec_error.CodecError.{CodecError}
use Rattle.zarrs_codec.specs.ByteRanges.{range_indices, bytes_in_ranges, read_ranges}
use Rattle.zarrs_codec.specs.ByteSpan.{ByteSpan}
use Rattle.zarrs_codec.specs.StorageState.{value_or_empty}
use Rattle.zarrs_bytes.proofs.Ranges.{range_indices-push}
use Rattle.zarrs_chunk.proofs.Consecutive.{range-append}
use Rattle.zarrs_chain_meaning.proofs.ArraySteps.{ok_no_err}

-- the byte of a value with this number
abbrev pub byte_of : List ℕ → ℕ → ℕ
byte_of value number = get_or value number 0

-- ---- the handle's answer

-- ranges inside are read
pub ranges_read : (stored : Option (List ℕ)) (ranges : List ByteSpan) → is_some stored ≡ true → list_all (λ range. nat_le range.end (length (value_or_empty stored))) ranges ≡ true
    → read_ranges stored ranges ≡ Ok (Some (bytes_in_ranges (value_or_empty stored) ranges))
ranges_read None ranges some inside = absurd cc
ranges_read (Some value) ranges some inside = rw inside refl

-- and never rejected
pub never_refused : (stored : Option (List ℕ)) (ranges : List ByteSpan) (error : CodecError) → is_some stored ≡ true → list_all (λ range. nat_le range.end (length (value_or_empty stored))) ranges ≡ true
    → read_ranges stored ranges ≡ Err error → ⊥
never_refused stored ranges error some inside e = ok_no_err (Some (bytes_in_ranges (value_or_empty stored) ranges)) error (sym (ranges_read stored ranges some inside) ∙ e)

-- ---- ranges that meet

-- a range that goes on where the last one ends
pub joined_push : (rest : List ByteSpan) (last range joined : ByteSpan) → last.start ≤ last.end → range.start ≤ range.end → last.end ≡ range.start → joined.start ≡ last.start → joined.end ≡ range.end
    → range_indices (rest ++ joined ∷ []) ≡ range_indices (rest ++ last ∷ []) ++ range_with_len range.start (range.end - range.start)
joined_push rest last range joined h l meets first final =
    let a = last.start in
    let m = last.end - last.start in
    let n = range.end - range.start in
    let whole : joined.end - joined.start ≡ m + n = omega (arith, first, final, meets) in
    let next : a + m ≡ range.start = omega (arith, meets) in
    range_indices-push rest joined
    ∙ ap (λ (s : ℕ). range_indices rest ++ range_with_len s (joined.end - joined.start)) first
    ∙ ap (λ (k : ℕ). range_indices rest ++ range_with_len a k) whole
    ∙ ap (λ (l : List ℕ). range_indices rest ++ l) (range-append a m n ∙ ap (λ (s : ℕ). range_with_len a m ++ range_with_len s n) next)
    ∙ sym (append_assoc (range_indices rest) (range_with_len a m) (range_with_len range.start n))
    ∙ ap (λ (l : List ℕ). l ++ range_with_len range.start n) (sym (range_indices-push rest last))
