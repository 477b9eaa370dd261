-- The order in which an index is rejected.
use Rattle.std.proofs.Common.{◌≡◌, ℕ, ◌+◌, ◌*◌, ◌^◌, ◌==◌, nat_lt, Bool, true, false, if◌then◌else◌, List, length, Result, Ok, Some, refl, ap, ◌∙◌}
use Rattle.zarrs_chunk.specs.Answer.{◌>>=◌, demand, checked_u64}
use Rattle.zarrs_chunk.specs.declared.codec_error.CodecError.{CodecError}
use Rattle.zarrs_chunk.specs.declared.codec_error.CodecError.TheVariants.{InvalidBytesLength, InvalidOffsets, Overflow}
use Rattle.zarrs_array_bytes.specs.Offsets.{rises}
use Rattle.zarrs_bytes.specs.BytesCodec.{bytes_length}
use Rattle.zarrs_chain_meaning.specs.vlen.VlenSteps.{offset_size, offsets_form}
use Rattle.zarrs_bytes.proofs.Coding.{ok}
use Rattle.zarrs_chain_meaning.proofs.ArraySteps.{err}
use Rattle.zarrs_plain_vlen.specs.Laws.{spelled_offsets, IndexIsRefusedInOrder}
use Rattle.zarrs_chain_meaning.specs.vlen.PlainForm.{PlainForm}
use Rattle.zarrs_plain_vlen.specs.IndexSteps.{offsets_of_index}
use Rattle.zarrs_plain_vlen.proofs.IndexOffsets.{at_length, guard, index_long, row_is}

module _ (form : PlainForm) (count : ℕ) (index : List ℕ) where
  abbrev pub spelled : ℕ → Result (List ℕ) CodecError
  spelled n = demand (rises (spelled_offsets form n index)) InvalidOffsets >>= λ _. ok (spelled_offsets form n index)

  right_length : (n len : ℕ) → bytes_length (Some form.order) (offsets_form form.wide n) ≡ Ok len → (length index == len) ≡ true → offsets_of_index form n index ≡ spelled n
  right_length n len e t = at_length form count index n (Ok len) e ∙ rw t (ap spelled (row_is n))

  by_length : (n len : ℕ) → bytes_length (Some form.order) (offsets_form form.wide n) ≡ Ok len → offsets_of_index form n index ≡ ((demand (length index == len) (InvalidBytesLength (length index) len) >>= λ _. ok n) >>= spelled)
  by_length n len e = guard (length index == len) (InvalidBytesLength (length index) len) n spelled (offsets_of_index form n index) (λ t. right_length n len e t) (λ t. at_length form count index n (Ok len) e ∙ rw t refl)

  by_size : (n : ℕ) (test : Bool) → nat_lt n (2 ^ 64) ≡ true → nat_lt (n * offset_size form.wide) (2 ^ 64) ≡ test
      → offsets_of_index form n index ≡ (((if test then ok (n * offset_size form.wide) else err Overflow) >>= λ len. demand (length index == len) (InvalidBytesLength (length index) len) >>= λ _. ok n) >>= spelled)
  by_size n true small t = by_length n (n * offset_size form.wide) (index_long form.order form.wide n ∙ rw small (rw t refl))
  by_size n false small t = at_length form count index n (err Overflow) (index_long form.order form.wide n ∙ rw small (rw t refl))

  pub by_count : (test : Bool) → nat_lt (count + 1) (2 ^ 64) ≡ test
      → ((if test then ok (count + 1) else err Overflow) >>= λ _. offsets_of_index form (count + 1) index)
      ≡ (((if test then ok (count + 1) else err Overflow) >>= λ offsets. checked_u64 (offsets * offset_size form.wide) >>= λ len. demand (length index == len) (InvalidBytesLength (length index) len) >>= λ _. ok offsets) >>= spelled)
  by_count true t = by_size (count + 1) (nat_lt ((count + 1) * offset_size form.wide) (2 ^ 64)) t refl
  by_count false t = refl

pub index_is_refused_in_order : IndexIsRefusedInOrder
index_is_refused_in_order form count index = by_count form count index (nat_lt (count + 1) (2 ^ 64)) refl
