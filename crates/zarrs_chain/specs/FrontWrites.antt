-- Calls that write in front of a slice, where that has room.
use Rattle.std.specs.Prelude.{◌≡◌, ℕ, nat_le, if◌then◌else◌, List, length, Result, IfOk, OnErr}
use Rattle.zarrs_chunk.specs.Answer.{Gives, GivesBy, seen}
use Rattle.zarrs_chunk.specs.declared.codec_error.CodecError.{CodecError}
use Rattle.zarrs_data_type.specs.Form.{Form}
use Rattle.zarrs_array_bytes.specs.Held.{Held}
use Rattle.zarrs_array_bytes.specs.Pieces.{fixed_of}
use Rattle.zarrs_array_bytes.specs.Update.{with_items_at}
use Rattle.zarrs_array_bytes.specs.Validity.{Holds}
use Rattle.zarrs_codec.specs.BytesToBytesCodec.{BytesCodecs}
use Rattle.zarrs_chain_meaning.specs.Chain.{held_value}
use Rattle.zarrs_chain_meaning.specs.CodecMeaning.{PlainChain, chain_chunk}

-- these items in front of a slice, where it has room for them; else the slice as it is
abbrev pub in_front : List ℕ → List ℕ → List ℕ
in_front items old = if nat_le (length items) (length old) then with_items_at old 0 items else old

-- A call that returns Ok returns how many items it has, and has written them in front of the slice, where that has room; it might as well have returned them. One that returns an error has left what was there.
pub record PutsFront {E : Type 0} (old new : List ℕ) (result : Result ℕ E) (Answered : Result (List ℕ) E → Type 0) : Type 0 where
  pub items : List ℕ
  pub counted : IfOk result (λ count. count ≡ length items)
  pub there : IfOk result (λ _. new ≡ in_front items old)
  pub left : OnErr result (new ≡ old)
  pub answered : Answered (seen (λ _. items) result)

-- what is written is the value of the chunk that a container holds, or the first error is returned
abbrev pub PutsValue : {B : Type 0} → BytesCodecs B → PlainChain B → Form → Held → List ℕ → List ℕ → Result ℕ CodecError → Type 0
PutsValue f chain form held old new result =
    PutsFront old new result (λ answer. Gives (λ items. items) answer (held_value f chain form.sizes form.type form.fill held))

-- what is written are the elements, all of one size, of the chunk that a value stands for, or the first error is returned
abbrev pub PutsElements : {B : Type 0} → BytesCodecs B → PlainChain B → Form → List ℕ → List ℕ → List ℕ → Result ℕ CodecError → Type 0
PutsElements f chain form value old new result =
    PutsFront old new result (λ answer. GivesBy (λ items. Holds form.type (fixed_of items)) answer (chain_chunk f chain form.sizes form.type form.fill value))
