-- Texts, and bytes in base64.
use Rattle.std.proofs.Common.{◌≡◌, ◌∙◌, Bool, true, false, cond, List, ℕ, Some, None, refl, ap, sym}
use Rattle.std.specs.Prelude.{Ok, Err, ok_or}
use Rattle.std.specs.Result.{result_ok}
use Rattle.std.specs.Str.{is_utf8, IsUtf8}
use Rattle.std.proofs.lemmas.Str.{is_utf8-from_IsUtf8, IsUtf8-from_is_utf8}
use Rattle.base64.specs.Engines.{standard}
use Rattle.base64.specs.GeneralPurpose.{decode_of, decoded_of}
use Rattle.base64.specs.declared.decode.DecodeError.{DecodeError}
use Rattle.zarrs_fill_values.specs.FillValues.{text_fill}
use Rattle.zarrs_fill_values.specs.declared.element_error.ElementError.TheVariants.{InvalidFillValue}

-- bytes that are a text
pub text_found : (text fill : List ℕ) → text ≡ fill → IsUtf8 fill → Some text ≡ text_fill fill
text_found text fill same h = ap Some same ∙ sym (ap (λ b. cond b (Some fill) None) (is_utf8-from_IsUtf8 fill h))

-- bytes that are none
pub text_none : (fill : List ℕ) → (IsUtf8 fill → ⊥) → None ≡ text_fill fill
text_none fill h = by_test (is_utf8 fill) refl
  where
    by_test : (b : Bool) → is_utf8 fill ≡ b → None ≡ cond b (Some fill) None
    by_test true e = absurd (h (IsUtf8-from_is_utf8 fill e))
    by_test false e = refl

-- the bytes of a text
pub text_read : (text items : List ℕ) → items ≡ text → IsUtf8 text → ok_or (text_fill text) InvalidFillValue ≡ Ok items
text_read text items same h = ap (λ o. ok_or o InvalidFillValue) (sym (text_found items text same h))

pub base64_found : (text bytes : List ℕ) → decode_of standard text ≡ Ok bytes → decoded_of standard text ≡ Some bytes
unfolding decoded_of
base64_found text bytes h = ap result_ok h

pub base64_none : (text : List ℕ) (e : DecodeError) → decode_of standard text ≡ Err e → decoded_of standard text ≡ None
unfolding decoded_of
base64_none text e h = ap result_ok h
