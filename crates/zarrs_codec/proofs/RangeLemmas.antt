-- How many bytes ranges have.
use Rattle.std.proofs.Common.{◌≡◌, ℕ, ◌+◌, ◌-◌, ◌<◌, nat_le, Bool, true, ◌&&◌, List, length, take, drop, get_or, ap, sym, ◌∙◌, length-append}
use Rattle.std.specs.List.{list_all, range_with_len}
use Rattle.std.proofs.lemmas.List.{drop_more}
use Rattle.std.proofs.lemmas.List.FromFn.{length-range_with_len}
use Rattle.zarrs_chunk.proofs.BoxTuples.{flat_map-take_more}
use Rattle.zarrs_codec.specs.ByteRanges.{range_indices}
use Rattle.zarrs_codec.specs.ByteSpan.{ByteSpan}

-- one range more
pub more_ranges : (ranges : List ByteSpan) (i : ℕ) (range : ByteSpan) → i < length ranges → range ≡ get_or ranges i range
    → length (range_indices (take (i + 1) ranges)) ≡ length (range_indices (take i ranges)) + (range.end - range.start)
more_ranges ranges i range l is =
    let numbers : ByteSpan → List ℕ = λ it. range_with_len it.start (it.end - it.start) in
    let before : List ℕ = range_indices (take i ranges) in
    ap length (flat_map-take_more numbers ranges i range l)
    ∙ length-append before (numbers (get_or ranges i range))
    ∙ ap (λ (it : ByteSpan). length before + length (numbers it)) (sym is)
    ∙ ap (λ (n : ℕ). length before + n) (length-range_with_len range.start (range.end - range.start))

-- a range that ends inside needn't be asked again
pub ends_inside : (len : ℕ) (ranges : List ByteSpan) (i : ℕ) (range : ByteSpan) → i < length ranges → range ≡ get_or ranges i range → nat_le range.end len ≡ true
    → list_all (λ range. nat_le range.end len) (drop i ranges) ≡ list_all (λ range. nat_le range.end len) (drop (i + 1) ranges)
ends_inside len ranges i range l is inside =
    let ends : ByteSpan → Bool = λ it. nat_le it.end len in
    ap (list_all ends) (drop_more ranges i range l) ∙ ap (λ (b : Bool). b && list_all ends (drop (i + 1) ranges)) (ap ends (sym is) ∙ inside)
