-- The bytes of containers of elements of one size.
use Rattle.std.proofs.Common.{◌≡◌, ℕ, ◌*◌, List, length, Some, Ok, Err, false, true, ap, sym, ◌∙◌}
use Rattle.std.specs.Prelude.{is_ok}
use Rattle.zarrs_chunk.specs.Answer.{seen}
use Rattle.zarrs_chunk.specs.declared.codec_error.CodecError.{CodecError}
use Rattle.zarrs_chunk.specs.declared.codec_error.CodecError.TheVariants.{InvalidBytesLength}
use Rattle.zarrs_data_type.specs.ElementType.{ElementType, fixed, text, bytes, optional, fixed_size_of}
use Rattle.zarrs_array_bytes.specs.Held.{Held, flen, vlen, masked}
use Rattle.zarrs_array_bytes.specs.Parts.{fixed_part}
use Rattle.zarrs_array_bytes.specs.Validity.{sizes_fit, levels_fit, validity}
use Rattle.zarrs_array_bytes.proofs.ValidLemmas.{both_ok, fixed_fits}

no_error : {T : Type 0} (e : CodecError) (x : T) → Err e ≡ Ok x → ⊥
no_error e x is = let no : false ≡ true = ap is_ok is in absurd (cc)

-- a container that is valid for such elements has them
pub fixed_there : (t : ElementType) (size n : ℕ) (h : Held) (e : CodecError) → fixed_size_of t ≡ Some size → validity t n h ≡ Ok tt → Err e ≡ seen (λ raw. raw.items) (fixed_part h) → ⊥
fixed_there (fixed w c s) size n (flen r) e due valid is = no_error e r.items is
fixed_there (fixed w c s) size n (vlen r os) e due valid is = no_error _ tt (both_ok (sizes_fit (fixed w c s) n) (levels_fit InvalidBytesLength (fixed w c s) n (vlen r os)) valid).1
fixed_there (fixed w c s) size n (masked h m) e due valid is = no_error _ tt (both_ok (sizes_fit (fixed w c s) n) (levels_fit InvalidBytesLength (fixed w c s) n (masked h m)) valid).1
fixed_there text size n h e due valid is = cc
fixed_there bytes size n h e due valid is = cc
fixed_there (optional t) size n h e due valid is = cc

-- and as many bytes as they have
pub fixed_length : (t : ElementType) (size n : ℕ) (h : Held) (xs : List ℕ) → fixed_size_of t ≡ Some size → validity t n h ≡ Ok tt → Ok xs ≡ seen (λ raw. raw.items) (fixed_part h) → length xs ≡ n * size
fixed_length t size n (flen r) xs due valid is =
    let both = both_ok (sizes_fit t n) (levels_fit InvalidBytesLength t n (flen r)) valid in
    let items : xs ≡ r.items = cc is in
    ap length items ∙ fixed_fits InvalidBytesLength t n r size both.1 due
fixed_length t size n (vlen r os) xs due valid is = cc
fixed_length t size n (masked h m) xs due valid is = cc
