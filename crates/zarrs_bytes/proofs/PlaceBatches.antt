-- The bytes of elements at places, read a batch of places at a time.
use Rattle.std.proofs.Common.{◌≡◌, ℕ, ◌+◌, ◌*◌, ◌<◌, ◌≤◌, ◌^◌, Bool, true, Option, Some, Ok, Err, List, [], ◌∷◌, ◌++◌, length, arith, ap, sym, ◌∙◌, inl, inr}
use Rattle.std.specs.Prelude.{is_some}
use Rattle.std.specs.List.{All}
use Rattle.std.proofs.Math.Nat.{mul-le-mul_right}
use Rattle.std.proofs.lemmas.Bool.{cases_lt}
use Rattle.std.proofs.lemmas.List.{nil_from_length}
use Rattle.std.proofs.lemmas.List.Elements.{All-cons, All-nil, All-tail}
use Rattle.zarrs_chunk.specs.Answer.{seen}
use Rattle.zarrs_chunk.specs.declared.codec_error.CodecError.{CodecError}
use Rattle.zarrs_codec.specs.StorageState.{are_sure}
use Rattle.zarrs_bytes.specs.PartialRead.{bytes_at, place_bytes}
use Rattle.zarrs_bytes.proofs.BytesAt.{grown, read_on, read_off, read_end, read_rest, read_refused, sure_parts}
use Rattle.zarrs_bytes.proofs.Ranges.{place_bytes-append}

-- ---- where runs of places end

-- a number above all of the places, up to which 64 bits count the bytes
pub record Limit (size : ℕ) (places : List ℕ) : Type 0 where
  pub limit : ℕ
  pub above : All (λ place. place < limit) places
  pub small : limit * size < 2 ^ 64

pub limit_of : (size : ℕ) (places : List ℕ) → All (λ place. (place + 1) * size < 2 ^ 64) places → Limit size places
limit_of size [] h = record { limit = 0; above = All-nil (λ place. place < 0); small = omega arith }
limit_of size (place ∷ places) h =
    let rest = limit_of size places (All-tail (λ p. (p + 1) * size < 2 ^ 64) place places h) in
    elim (cases_lt place rest.limit) [
      | inl less ↦ record { limit = rest.limit; above = All-cons (λ p. p < rest.limit) place places less rest.above; small = rest.small }
      | inr more ↦ record {
        limit = place + 1;
        above = All-cons (λ p. p < place + 1) place places (omega arith) (λ k d l. let below = rest.above k d l in omega (arith, below, more));
        small = h 0 0 (omega arith);
      }
    ]

-- runs of the places end where 64 bits count the bytes
pub runs_end : (size limit : ℕ) (runs : List (ℕ × ℕ)) → limit * size < 2 ^ 64 → All (λ run. run.0 + run.1 ≤ limit) runs → All (λ run. (run.0 + run.1) * size < 2 ^ 64) runs
runs_end size limit runs small within k d l =
    let below = within k d l in
    let more = mul-le-mul_right size below in
    omega (arith, more, small)

-- ---- batch by batch

-- where all bytes are sure, those of each part are
pub sure_places : (size : ℕ) (sure : Option (ℕ → Bool)) (all xs ys : List ℕ) → all ≡ xs ++ ys → are_sure sure (place_bytes size all) ≡ true → (are_sure sure (place_bytes size xs) ≡ true) × (are_sure sure (place_bytes size ys) ≡ true)
sure_places size sure all xs ys e h =
    sure_parts sure (place_bytes size xs) (place_bytes size ys)
    (ap (are_sure sure) (sym (ap (place_bytes size) e ∙ place_bytes-append size xs ys)) ∙ h)

-- what is left to be read, behind what was read so far, is all that is to be read, behind what was there first
module _ (size : ℕ) (stored : Option (List ℕ)) (first all : List ℕ) where
  abbrev pub left : List ℕ → List ℕ → Type 0
  left now rest = seen (grown now) (bytes_at size stored rest) ≡ seen (grown first) (bytes_at size stored all)

  parts : (now rest xs ys : List ℕ) → rest ≡ xs ++ ys → seen (grown now) (bytes_at size stored rest) ≡ seen (grown now) (bytes_at size stored (xs ++ ys))
  parts now rest xs ys e = ap (λ ps. seen (grown now) (bytes_at size stored ps)) e

  pub places_read : (here : Option (List ℕ)) (now next rest xs ys : List ℕ) → here ≡ stored → rest ≡ xs ++ ys → left now rest → seen (grown now) (bytes_at size here xs) ≡ Ok (Some next) → left next ys
  places_read here now next rest xs ys same e before h =
      read_on size stored now next xs ys (ap (λ (s : Option (List ℕ)). seen (grown now) (bytes_at size s xs)) (sym same) ∙ h)
      ∙ sym (parts now rest xs ys e)
      ∙ before

  pub places_refused : (here : Option (List ℕ)) (now rest xs ys : List ℕ) (cause : CodecError) → here ≡ stored → rest ≡ xs ++ ys → left now rest → seen (grown now) (bytes_at size here xs) ≡ Err cause → seen (grown first) (bytes_at size stored all) ≡ Err cause
  places_refused here now rest xs ys cause same e before h =
      sym before
      ∙ parts now rest xs ys e
      ∙ read_off size stored now xs ys cause (ap (λ (s : Option (List ℕ)). seen (grown now) (bytes_at size s xs)) (sym same) ∙ h)

  pub places_end : (now rest : List ℕ) → is_some stored ≡ true → length rest ≡ 0 → left now rest → seen (grown first) (bytes_at size stored all) ≡ Ok (Some now)
  places_end now rest h empty before =
      sym before
      ∙ ap (λ ps. seen (grown now) (bytes_at size stored ps)) (nil_from_length rest empty)
      ∙ read_end size stored now h

-- where the first batch fails, all fail so
pub first_refused : (size : ℕ) (stored : Option (List ℕ)) (all xs ys : List ℕ) (cause : CodecError) → all ≡ xs ++ ys → bytes_at size stored xs ≡ Err cause → bytes_at size stored all ≡ Err cause
first_refused size stored all xs ys cause e h =
    ap (bytes_at size stored) e ∙ read_refused size stored xs ys cause h

-- behind what the first batch read, the others are read
pub first_then_rest : (size : ℕ) (stored here : Option (List ℕ)) (now next all xs ys : List ℕ) → all ≡ xs ++ ys → bytes_at size stored xs ≡ Ok (Some now) → next ≡ now → here ≡ stored → seen (grown next) (bytes_at size here ys) ≡ bytes_at size stored all
first_then_rest size stored here now next all xs ys e h same state =
    ap (λ l. seen (grown l) (bytes_at size here ys)) same
    ∙ ap (λ (s : Option (List ℕ)). seen (grown now) (bytes_at size s ys)) state
    ∙ read_rest size stored now xs ys h
    ∙ ap (bytes_at size stored) (sym e)
