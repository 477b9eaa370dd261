-- Containers that are tight: what they are made of, and what is made of them.
use Rattle.std.proofs.Common.{◌≡◌, ℕ, ◌+◌, Bool, true, false, if◌then◌else◌, List, [], replicate, length, Result, Ok, Err, IfOk, None, refl, subst, arith}
use Rattle.std.specs.Prelude.{is_some}
use Rattle.std.proofs.lemmas.Bool.{and_from}
use Rattle.zarrs_chunk.specs.Answer.{Answers, AnswersBy, memory}
use Rattle.zarrs_chunk.specs.declared.codec_error.CodecError.{CodecError}
use Rattle.zarrs_chunk.specs.declared.codec_error.CodecError.TheVariants.{InvalidBytesLength}
use Rattle.zarrs_data_type.specs.ElementType.{ElementType, fixed, text, bytes, optional, fixed_size_of, inner_of}
use Rattle.zarrs_data_type.specs.Element.{Chunk}
use Rattle.zarrs_data_type.specs.FillValue.{is_null, front_of}
use Rattle.zarrs_array_bytes.specs.Held.{Raw, Held, flen, vlen, masked, owned_bytes}
use Rattle.zarrs_array_bytes.specs.Blank.{AbsentAreBlank}
use Rattle.zarrs_array_bytes.specs.Filled.{blank_elements, container_fill}
use Rattle.zarrs_array_bytes.specs.Tight.{is_flush, GivesFlush, IsTight}
use Rattle.zarrs_array_bytes.specs.Validity.{levels_fit, sizes_fit, Holds}
use Rattle.zarrs_array_bytes.proofs.BlankLemmas.{simple_blank, fill_blank}
use Rattle.zarrs_array_bytes.proofs.FillLemmas.{mask_of_same, zeros_are_offsets, last_of_zeros, zeros_begin}
use Rattle.zarrs_array_bytes.proofs.FlushLemmas.{flush_from, gathered_flush}
use Rattle.zarrs_array_bytes.specs.SameBytesLaws.{both_true}
use Rattle.zarrs_array_bytes.proofs.ValidLemmas.{both_ok}

-- ---- what a container is made of

-- elements of one size
pub flen_blank : (t : ElementType) (raw : Raw) → AbsentAreBlank t (flen raw)
flen_blank (fixed w c s) raw = tt
flen_blank text raw = tt
flen_blank bytes raw = tt
flen_blank (optional t) raw = tt

pub vlen_blank : (t : ElementType) (raw : Raw) (os : List ℕ) → AbsentAreBlank t (vlen raw os)
vlen_blank (fixed w c s) raw os = tt
vlen_blank text raw os = tt
vlen_blank bytes raw os = tt
vlen_blank (optional t) raw os = tt

pub flen_tight : (t : ElementType) (raw : Raw) → IsTight t (flen raw)
flen_tight t raw = record { flush = refl; blank = flen_blank t raw }

-- elements of any length, of offsets that are flush
pub vlen_tight : (t : ElementType) (raw : Raw) (os : List ℕ) → is_flush (vlen raw os) ≡ true → IsTight t (vlen raw os)
vlen_tight t raw os flush = record { flush = flush; blank = vlen_blank t raw os }

-- what is under a mask
pub under_tight : (t : ElementType) (h : Held) (mask : Raw) → is_flush (masked h mask) ≡ true → AbsentAreBlank (optional t) (masked h mask) → IsTight t h
under_tight t h mask flush blank = record { flush = (both_true _ _ flush).1; blank = blank.1 }

-- elements of a type that are never absent
pub simple_tight : (t : ElementType) (h : Held) → inner_of t ≡ None → is_flush h ≡ true → IsTight t h
simple_tight t h e flush = record { flush = flush; blank = simple_blank t h e }

pub simple_tight_results : {E : Type 0} (t : ElementType) (r : Result Held E) → inner_of t ≡ None → GivesFlush r → IfOk r (IsTight t)
simple_tight_results t (Ok h) e flush = simple_tight t h e flush
simple_tight_results t (Err c) e flush = tt

-- elements of a type of one size
pub sized_fits_tight : (t : ElementType) (n : ℕ) (h : Held) → is_some (fixed_size_of t) ≡ true → levels_fit InvalidBytesLength t n h ≡ Ok tt → IsTight t h
sized_fits_tight (fixed w c s) n (flen raw) e fit = flen_tight (fixed w c s) raw
sized_fits_tight (fixed w c s) n (vlen raw os) e fit = let never : ⊥ = cc fit in absurd never
sized_fits_tight (fixed w c s) n (masked h m) e fit = let never : ⊥ = cc fit in absurd never
sized_fits_tight text n h e fit = let never : ⊥ = cc e in absurd never
sized_fits_tight bytes n h e fit = let never : ⊥ = cc e in absurd never
sized_fits_tight (optional t) n h e fit = let never : ⊥ = cc e in absurd never

pub sized_tight : (t : ElementType) (h : Held) (chunk : Chunk) → is_some (fixed_size_of t) ≡ true → Holds t h chunk → IsTight t h
sized_tight t h chunk e holds =
    sized_fits_tight t (length chunk) h e (both_ok (sizes_fit t (length chunk)) (levels_fit InvalidBytesLength t (length chunk) h) holds.valid).1

pub sized_given_tight : (t : ElementType) (r : Result Held CodecError) (due : Result Chunk CodecError) → is_some (fixed_size_of t) ≡ true → AnswersBy memory (Holds t) r due → IfOk r (IsTight t)
sized_given_tight t (Ok h) (Ok chunk) e gives = sized_tight t h chunk e gives
sized_given_tight t (Ok h) (Err c) e gives = absurd gives
sized_given_tight t (Err c) due e gives = tt

-- ---- flush and blank together

pub both_tight : {E : Type 0} (t : ElementType) (r : Result Held E) → GivesFlush r → IfOk r (AbsentAreBlank t) → IfOk r (IsTight t)
both_tight t (Ok h) flush blank = record { flush = flush; blank = blank }
both_tight t (Err c) flush blank = tt

pub gives_flush : {E : Type 0} (t : ElementType) (r : Result Held E) → IfOk r (IsTight t) → GivesFlush r
gives_flush t (Ok h) tight = tight.flush
gives_flush t (Err c) tight = tt

-- what is put under a mask is flush where it was
pub under_flush : {E : Type 0} (given inner : Held) (r : Result Held E) → (is_flush given ≡ true → is_flush inner ≡ true) → IfOk r (λ a. is_flush inner ≡ true → is_flush a ≡ true) → is_flush given ≡ true → GivesFlush r
under_flush given inner (Ok h) first second flush = second (first flush)
under_flush given inner (Err c) first second flush = tt

-- of a container that is answered, what is true of the one that is due
pub tight_is : (t : ElementType) (h : Held) (r : Result Held CodecError) → Answers memory (λ (a : Held). a) r (Ok h) → IsTight t h → IfOk r (IsTight t)
tight_is t h (Ok a) gives tight = let is : h ≡ a = cc in subst (IsTight t) is tight
tight_is t h (Err e) gives tight = tt

-- ---- blank elements, and fill values

pub blank_flush : (t : ElementType) (n : ℕ) → is_flush (blank_elements t n) ≡ true
blank_flush (fixed w c s) n = refl
blank_flush text n = flush_from (replicate (n + 1) 0) [] (zeros_are_offsets n) (zeros_begin n) (last_of_zeros n)
blank_flush bytes n = flush_from (replicate (n + 1) 0) [] (zeros_are_offsets n) (zeros_begin n) (last_of_zeros n)
blank_flush (optional t) n = and_from _ _ (mask_of_same n 0 (omega arith)) (blank_flush t n)

either_flush : (t : ElementType) (n : ℕ) (b : Bool) (g : Held) → is_flush g ≡ true → is_flush (if b then masked (blank_elements t n) (owned_bytes (replicate n 0)) else masked g (owned_bytes (replicate n 1))) ≡ true
either_flush t n true g h = and_from _ _ (mask_of_same n 0 (omega arith)) (blank_flush t n)
either_flush t n false g h = and_from _ _ (mask_of_same n 1 (omega arith)) h

pub fill_flush : (t : ElementType) (n : ℕ) (bs : List ℕ) → is_flush (container_fill t n bs) ≡ true
fill_flush (fixed w c s) n bs = refl
fill_flush text n bs = gathered_flush (λ part. part) (replicate n bs)
fill_flush bytes n bs = gathered_flush (λ part. part) (replicate n bs)
fill_flush (optional t) n bs = either_flush t n (is_null bs) (container_fill t n (front_of bs)) (fill_flush t n (front_of bs))

pub fill_tight : (t : ElementType) (n : ℕ) (bs : List ℕ) → IsTight t (container_fill t n bs)
fill_tight t n bs = record { flush = fill_flush t n bs; blank = fill_blank t n bs }
