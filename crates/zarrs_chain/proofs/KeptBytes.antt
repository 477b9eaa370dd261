-- What chains hand on as it is.
use Rattle.std.proofs.Common.{◌≡◌, ◌∙◌, ℕ, true, Option, Some, None, Result, Ok, Err, IfOk, refl, sym, ap, Global}
use Rattle.std.specs.Prelude.{is_none}
use Rattle.std.proofs.lemmas.Bool.{false≢true}
use Rattle.std.specs.declared.borrow.CowSlice.{CowSlice}
use Rattle.zarrs_chunk.specs.Answer.{seen}
use Rattle.zarrs_chunk.specs.declared.codec_error.CodecError.{CodecError}
use Rattle.zarrs_data_type.specs.ElementType.{ElementType}
use Rattle.zarrs_data_type.specs.declared.endianness.Endianness.{Endianness}
use Rattle.zarrs_array_bytes.specs.Held.{Held, Raw, flen, raw_of}
use Rattle.zarrs_array_bytes.specs.Parts.{fixed_part}
use Rattle.zarrs_codec.specs.CountLaws.{same_value}
use Rattle.zarrs_bytes.specs.BytesCodec.{turn_size}
use Rattle.zarrs_bytes.specs.GivenBytes.{HoldsGiven, IsGiven}
use Rattle.zarrs_chain_meaning.specs.KeptBytes.{codec_keeps_bytes}
use Rattle.zarrs_chain.specs.ChainView.{plain_codec}
use Rattle.zarrs_chain.specs.declared.array_to_bytes_codec.ArrayToBytesCodec.{ArrayToBytesCodec}
use Rattle.zarrs_chain.specs.declared.array_to_bytes_codec.ArrayToBytesCodec.TheVariants.{Bytes}

pub none_is : {A : Type 0} (o : Option A) → is_none o ≡ true → o ≡ None
none_is None h = refl
none_is (Some x) h = absurd (false≢true h)

-- ---- `bytes` that turns nothing round, and no other codec

pub bytes_keeps : (B : Type 0) (order : Option Endianness) (type : ElementType) → codec_keeps_bytes {B = B} (plain_codec (Bytes order)) type ≡ true → turn_size order type ≡ None
unfolding plain_codec
bytes_keeps B order type h = none_is (turn_size order type) h

pub bytes_kept : {B : Type 0} (codec : ArrayToBytesCodec B) (order : Option Endianness) (type : ElementType) → codec ≡ Bytes order → codec_keeps_bytes (plain_codec codec) type ≡ true → turn_size order type ≡ None
bytes_kept {B} codec order type is h =
    bytes_keeps B order type (ap (λ (x : ArrayToBytesCodec B). codec_keeps_bytes (plain_codec x) type) (sym is) ∙ h)

-- ---- through a chain

pub raw_is : {a b : Raw} → (let r : Result Raw CodecError = Ok a in r ≡ Ok b) → a ≡ b
raw_is {a = a} {b = b} h = same_value a b h

-- what is answered of bytes that are those of the value
pub given_below : (value below : CowSlice ℕ Global) (result : Result Held CodecError) → raw_of below ≡ raw_of value → HoldsGiven below result → HoldsGiven value result
given_below value below (Ok elements) same h = h ∙ ap flen same
given_below value below (Err error) same h = tt

-- the container, what the array-to-array codecs make of it, and what is answered
pub given_through : (held chunk : Held) (below : Raw) (result : Result (CowSlice ℕ Global) CodecError) → chunk ≡ held → chunk ≡ flen below → seen raw_of result ≡ Ok below → IsGiven held result
given_through held chunk below (Ok value) h g e = sym h ∙ g ∙ ap flen (let same : raw_of value ≡ below = cc in sym same)
given_through held chunk below (Err error) h g e = tt

-- the value, what the codec makes of it, and what is answered
pub held_through : (value below : CowSlice ℕ Global) (chunk : Held) (result : Result Held CodecError) → raw_of below ≡ raw_of value → chunk ≡ flen (raw_of below) → IfOk result (λ moved. moved ≡ chunk) → HoldsGiven value result
held_through value below chunk (Ok elements) h g e = e ∙ g ∙ ap flen h
held_through value below chunk (Err error) h g e = tt

-- the value as `bytes` in little order hands it on, as it is moved and taken out, and what is answered
pub held_behind : (value raw : CowSlice ℕ Global) (stored moved : Held) (result : Result Held CodecError) → stored ≡ flen (raw_of value) → moved ≡ stored → Ok (raw_of raw) ≡ fixed_part moved → HoldsGiven raw result → HoldsGiven value result
held_behind value raw stored moved (Ok elements) s m e h = h ∙ ap flen (let taken : fixed_part moved ≡ Ok (raw_of value) = ap fixed_part (m ∙ s) in let same : raw_of raw ≡ raw_of value = cc in same)
held_behind value raw stored moved (Err error) s m e h = tt
