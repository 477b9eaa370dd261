-- Containers made of their parts.
use Rattle.std.proofs.Common.{◌≡◌, ◌∙◌, ℕ, true, false, Bool, List, [], ◌∷◌, length, Some, Result, Ok, Err, refl, ap, subst, ◌&&◌, nat_lt, ◌==◌, eq-eqb}
use Rattle.std.specs.List.{list_all}
use Rattle.zarrs_chunk.specs.Answer.{Answers, demand, ◌>>=◌}
use Rattle.zarrs_chunk.specs.declared.codec_error.CodecError.{CodecError}
use Rattle.zarrs_chunk.specs.declared.codec_error.CodecError.TheVariants.{InvalidOffsets, MaskValue}
use Rattle.zarrs_data_type.specs.Element.{Element, plain, absent, present, Chunk}
use Rattle.zarrs_data_type.specs.ElementType.{ElementType, fixed, text, bytes, optional, inner_of}
use Rattle.zarrs_array_bytes.specs.Held.{Held, owned_bytes, masked}
use Rattle.zarrs_array_bytes.specs.Offsets.{is_offsets, last_of}
use Rattle.zarrs_array_bytes.specs.Parts.{with_offsets, with_mask}
use Rattle.zarrs_array_bytes.specs.Pieces.{bytes_with_offsets, variable_of}
use Rattle.zarrs_array_bytes.specs.Present.{mask_of, presence}
use Rattle.zarrs_array_bytes.proofs.OffsetLemmas.{offsets_rise, offsets_end}
use Rattle.zarrs_json.specs.Containers.{bytes_or_zeros, variable_answer}
use Rattle.zarrs_json.specs.Refusal.{codec_answer, refusal_memory}
use Rattle.zarrs_json.specs.declared.refusal.Refusal.{Refusal}

passed : {A : Type 0} (b : Bool) (e : CodecError) (x : Result A CodecError) → b ≡ true → (demand b e >>= λ _. x) ≡ x
passed true e x h = refl
passed false e x h = absurd (cc)

-- the bytes and offsets of elements are those of a container
pub variable_made : (chunk : Chunk) (items offsets : List ℕ) → (items, offsets) ≡ bytes_with_offsets (bytes_or_zeros 0) chunk → variable_answer items offsets ≡ Ok (variable_of (bytes_with_offsets (bytes_or_zeros 0) chunk))
variable_made chunk items offsets parts =
    let both = bytes_with_offsets (bytes_or_zeros 0) chunk in
    ap (λ (p : List ℕ × List ℕ). variable_answer p.0 p.1) parts
    ∙ ap (λ (r : Result (List ℕ) CodecError). r >>= with_offsets (owned_bytes both.0)) (passed (is_offsets both.1) InvalidOffsets (Ok both.1) (offsets_rise (bytes_or_zeros 0) chunk))
    ∙ passed (last_of both.1 == length both.0) InvalidOffsets (Ok (variable_of both)) (eq-eqb _ _ (offsets_end (bytes_or_zeros 0) chunk))

-- so they aren't rejected
pub never_refused : (answer : Result Held CodecError) (held : Held) (e : CodecError) (P : Type 0) → Err e ≡ answer → answer ≡ Ok held → P
never_refused answer held e P h made = absurd (let wrong : Err e ≡ Ok held = h ∙ made in cc)

flag : (element : Element) (b : Bool) → b ≡ true → nat_lt (presence element) 2 && b ≡ true
flag (plain items) b h = h
flag absent b h = h
flag (present element) b h = h

mask_bytes : (chunk : Chunk) → list_all (λ byte. nat_lt byte 2) (mask_of chunk) ≡ true
mask_bytes [] = refl
mask_bytes (element ∷ chunk) = flag element (list_all (λ byte. nat_lt byte 2) (mask_of chunk)) (mask_bytes chunk)

-- masks of elements are masks
pub mask_made : (inner : Held) (chunk : Chunk) → with_mask inner (owned_bytes (mask_of chunk)) ≡ Ok (masked inner (owned_bytes (mask_of chunk)))
mask_made inner chunk =
    passed (list_all (λ byte. nat_lt byte 2) (mask_of chunk)) MaskValue (Ok (masked inner (owned_bytes (mask_of chunk)))) (mask_bytes chunk)

-- what is put under a mask of elements
pub mask_answers : (r : Result Held Refusal) (inner want : Held) (mask : List ℕ) (chunk : Chunk) → Answers refusal_memory (λ held. held) r (codec_answer (with_mask inner (owned_bytes mask))) → inner ≡ want → mask ≡ mask_of chunk
    → Answers refusal_memory (λ held. held) r (Ok (masked want (owned_bytes (mask_of chunk))))
mask_answers r inner want mask chunk h same masks =
    subst (λ (x : Result Held Refusal). Answers refusal_memory (λ held. held) r x)
    (ap (λ m. codec_answer (with_mask inner (owned_bytes m))) masks ∙ ap codec_answer (mask_made inner chunk) ∙ ap (λ i. Ok (masked i (owned_bytes (mask_of chunk)))) same) h

-- an optional type, by the type inside
pub optional_by_inner : (type inner : ElementType) → Some inner ≡ inner_of type → optional inner ≡ type
optional_by_inner (fixed width components sign) inner h = absurd (cc)
optional_by_inner text inner h = absurd (cc)
optional_by_inner bytes inner h = absurd (cc)
optional_by_inner (optional type) inner h = cc
