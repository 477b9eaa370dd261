-- Bits that are written one after another.
use Rattle.std.specs.Prelude.{◌≡◌, ℕ, ◌<◌, ◌^◌, List, ◌++◌, length, Result, IfOk, Vec}
use Rattle.std.proofs.Common.{Global}
use Rattle.std.specs.List.{flat_map, range_with_len}
use Rattle.zarrs_packbits.specs.Bits.{low_bits, bits_of, field}
use Rattle.zarrs_packbits.specs.BitStream.{components_in}
use Rattle.zarrs_packbits.specs.BlockBits.{stream_before}
use Rattle.zarrs_packbits.specs.KeptBits.{component_bits}
use Rattle.zarrs_packbits.specs.declared.layout.PackedLayout.{PackedLayout}

-- the bits of whole bytes, and then those of a word that is partly filled
abbrev pub written_bits : List ℕ → ℕ → ℕ → List ℕ
written_bits bytes word filled = bits_of bytes ++ low_bits filled word

-- one bit of each of these bytes, in order
abbrev pub flags_of : ℕ → List ℕ → List ℕ
flags_of bit bytes =
    flat_map (λ part. field bit 1 (component_bits 1 bytes part)) (range_with_len 0 (length bytes))

-- a word of 64 bits is filled up to one of them, with zeros above
pub record IsPartlyFilled (word filled : ℕ) : Type 0 where
  pub room : filled < 64
  pub fits : word < 2 ^ filled

-- ---- what calls that write bits answer

-- the bits that stand then in these bytes, and in the word that is answered as far as it is filled, are the expected ones
abbrev pub LeavesBits : {E : Type 0} → List ℕ → Result (ℕ × ℕ) E → List ℕ → Type 0
LeavesBits bytes result expected = IfOk result (λ left. written_bits bytes left.0 left.1 ≡ expected)

-- the bits that stand then in the new bytes, and in the word that is answered, are those that stood in the old ones and in the word that was given, and these behind them
abbrev pub LeavesMore : {E : Type 0} → Vec ℕ Global → ℕ → ℕ → Vec ℕ Global → Result (ℕ × ℕ) E → List ℕ → Type 0
LeavesMore old word filled new result more =
    LeavesBits new.items result (written_bits old.items word filled ++ more)

-- the same, where so many components stand behind them, made of the kept bits that stand in other bytes from bit `at` on
abbrev pub LeavesParts : {E : Type 0} → Vec ℕ Global → ℕ → ℕ → PackedLayout → ℕ → ℕ → List ℕ → Vec ℕ Global → Result (ℕ × ℕ) E → Type 0
LeavesParts old word filled l at parts kept new result =
    LeavesMore old word filled new result (components_in l at parts kept)

-- the same, where behind them stand the kept bits of the first components of a chunk whose elements' bytes are joined, of as many as is answered
abbrev pub LeavesFirst : {E : Type 0} → Vec ℕ Global → ℕ → ℕ → PackedLayout → List ℕ → Vec ℕ Global → Result (ℕ × ℕ × ℕ) E → Type 0
LeavesFirst old word filled l elements new result =
    IfOk result (λ left. written_bits new.items left.0 left.1 ≡ written_bits old.items word filled ++ stream_before l left.2 elements)

-- Where the kept bits of the first components up to one of them stood behind others, those up to another one stand there then, in the new bytes and in the word that is answered.
abbrev pub LeavesUpTo : {E : Type 0} → Vec ℕ Global → ℕ → ℕ → PackedLayout → List ℕ → ℕ → ℕ → Vec ℕ Global → Result (ℕ × ℕ) E → Type 0
LeavesUpTo old word filled l elements begin end new result =
    IfOk result (λ left. (front : List ℕ) → written_bits old.items word filled ≡ front ++ stream_before l begin elements → written_bits new.items left.0 left.1 ≡ front ++ stream_before l end elements)

-- what was there before has these bits behind it
abbrev pub Puts : {T E : Type 0} → List ℕ → List ℕ → Result T E → List ℕ → Type 0
Puts before after result more = IfOk result (λ _. after ≡ before ++ more)

-- so many components are behind it, made of the kept bits that stand in these bytes from bit `at` on
abbrev pub PutsComponents : {T E : Type 0} → PackedLayout → ℕ → ℕ → List ℕ → List ℕ → List ℕ → Result T E → Type 0
PutsComponents l at parts kept before after result = Puts before after result (components_in l at parts kept)

-- the bits of the new bytes are those of the old ones, and these behind them
abbrev pub AppendsBits : {T E : Type 0} → Vec ℕ Global → Vec ℕ Global → Result T E → List ℕ → Type 0
AppendsBits old new result more = Puts (bits_of old.items) (bits_of new.items) result more

-- ---- bits in words
