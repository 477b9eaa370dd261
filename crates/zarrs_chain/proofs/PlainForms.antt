-- Which chains are a lone codec `bytes`, and which codecs `vlen` are plain.
use Rattle.std.proofs.Common.{◌≡◌, ◌<◌, Option, Some, None, List, [], ◌∷◌, length, map, refl, ap, ◌∙◌, arith}
use Rattle.std.specs.Prelude.{is_some, option_map}
use Rattle.zarrs_data_type.specs.declared.endianness.Endianness.{Endianness}
use Rattle.zarrs_array_to_array.specs.Mapping.{mapping_of}
use Rattle.zarrs_array_to_array.specs.declared.array_to_array_codec.ArrayToArrayCodec.{ArrayToArrayCodec}
use Rattle.zarrs_chain_meaning.specs.Chain.{codec_reads, reads_all_if}
use Rattle.zarrs_chain_meaning.specs.CodecFacts.{if_alone}
use Rattle.zarrs_chain_meaning.specs.vlen.PlainVlen.{plain_form, plain_form_of, is_plain}
use Rattle.zarrs_chain_meaning.specs.declared.vlen.plain_vlen.PlainVlen.{PlainVlen}
use Rattle.zarrs_chain.specs.ChainView.{plain_vlen, plain_vlen_at}
use Rattle.zarrs_chain.specs.declared.vlen.vlen_codec.VlenCodec.{VlenCodec}

-- a chain with array-to-array codecs is no lone one
pub arrays_before : {B : Type 0} (arrays : List ArrayToArrayCodec) (known : Option (Option Endianness)) (outer : List B) → 0 < length arrays → if_alone (map mapping_of arrays) known outer ≡ None
arrays_before [] known outer l = absurd (omega arith)
arrays_before (a ∷ rest) known outer l = refl

-- nor is one with bytes-to-bytes codecs
pub bytes_behind : {B : Type 0} (arrays : List ArrayToArrayCodec) (known : Option (Option Endianness)) (outer : List B) → 0 < length outer → if_alone (map mapping_of arrays) known outer ≡ None
bytes_behind arrays known [] l = absurd (omega arith)
bytes_behind (a ∷ rest) known (b ∷ bs) l = refl
bytes_behind [] known (b ∷ bs) l = refl

-- a lone codec `bytes`
pub none_around : {B : Type 0} (arrays : List ArrayToArrayCodec) (order : Option Endianness) (outer : List B) → length arrays ≡ 0 → length outer ≡ 0 → if_alone (map mapping_of arrays) (Some order) outer ≡ Some order
none_around [] order [] k l = refl
none_around (a ∷ rest) order outer k l = absurd (omega arith)
none_around [] order (b ∷ bs) k l = absurd (omega arith)

-- any other codec
pub none_else : {B : Type 0} (arrays : List ArrayToArrayCodec) (outer : List B) → if_alone {A = Option Endianness} (map mapping_of arrays) None outer ≡ None
none_else [] [] = refl
none_else [] (b ∷ bs) = refl
none_else (a ∷ rest) outer = refl

is_some_mapped : {X Y : Type 0} (f : X → Y) (o : Option X) → is_some o ≡ is_some (option_map f o)
is_some_mapped f None = refl
is_some_mapped f (Some x) = refl

-- what a `vlen` reads in part, by whether it is plain
reads_if_plain : {B : Type 0} (codec : VlenCodec B) → reads_all_if (is_plain (plain_vlen codec)) ≡ codec_reads (plain_vlen codec)
reads_if_plain codec = rw (plain_vlen_at codec) refl

-- and by the form that it is found to have
pub reads_by_form : {B : Type 0} (codec : VlenCodec B) (form : Option PlainVlen) → option_map plain_form form ≡ plain_form_of (plain_vlen codec)
    → reads_all_if (is_some form) ≡ codec_reads (plain_vlen codec)
reads_by_form codec form e = ap (λ o. reads_all_if o) (is_some_mapped plain_form form ∙ ap is_some e) ∙ reads_if_plain codec
