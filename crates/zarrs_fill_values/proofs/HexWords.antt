-- Numbers of hex digits.
use Rattle.std.proofs.Common.{◌≡◌, ◌∙◌, List, ℕ, Some, None, refl, ap, sym}
use Rattle.std.specs.Prelude.{Result, Ok, Err, MatchResult, option_map, reverse}
use Rattle.std.specs.Result.{result_ok}
use Rattle.hex.specs.declared.error.FromHexError.{FromHexError}
use Rattle.zarrs_fill_values.specs.Words.{low_first_number}

-- what was decoded is the number
pub digits_read : (decoded : Result (List ℕ) FromHexError) (result : Result (Unit {0}) FromHexError) (room : List ℕ) → MatchResult decoded (λ bytes. (result ≡ Ok tt) × (room ≡ bytes)) (λ e. result ≡ Err e) → result ≡ Ok tt
    → Some (low_first_number (reverse room)) ≡ option_map (λ bytes. low_first_number (reverse bytes)) (result_ok decoded)
digits_read (Ok bytes) result room m h = ap (λ b. Some (low_first_number (reverse b))) m.1
digits_read (Err e) result room m h = absurd (let no : Ok tt ≡ Err e = sym h ∙ m in cc)

-- what can't be decoded is none
pub digits_refused : (decoded : Result (List ℕ) FromHexError) (result : Result (Unit {0}) FromHexError) (room : List ℕ) (e : FromHexError) → MatchResult decoded (λ bytes. (result ≡ Ok tt) × (room ≡ bytes)) (λ e. result ≡ Err e) → result ≡ Err e
    → None ≡ option_map (λ bytes. low_first_number (reverse bytes)) (result_ok decoded)
digits_refused (Ok bytes) result room e m h = absurd (let no : Ok tt ≡ Err e = sym m.0 ∙ h in cc)
digits_refused (Err other) result room e m h = refl
