-- Values that go from one chain to another.
use Rattle.std.proofs.Common.{◌≡◌, ℕ, true, List, Ok, Vec, Global, subst}
use Rattle.zarrs_codecs.specs.BytesToBytesCodec.{BytesCodecs}
use Rattle.zarrs_codecs.specs.ChainGrammar.{chain_grammar}
use Rattle.zarrs_codecs.specs.CodecMeaning.{PlainChain, normal_form, ChainStands}
use Rattle.zarrs_codecs.specs.Element.{Chunk}
use Rattle.zarrs_codecs.specs.EncodedAgain.{ReencodedStands}
use Rattle.zarrs_codecs.specs.Form.{Form}
use Rattle.zarrs_codecs.specs.Grammar.{Decodes}
use Rattle.zarrs_codecs.specs.Held.{Held}
use Rattle.zarrs_codecs.specs.SameBytes.{is_same_held}
use Rattle.zarrs_codecs.specs.Tight.{IsTight}
use Rattle.zarrs_codecs.specs.Validity.{Holds}

-- both values are decoded as the same chunk
pub decoded_same : {B C : Type 0} (f : BytesCodecs B) (from : PlainChain B) (g : BytesCodecs C) (to : PlainChain C) (form : Form) (value : List ℕ) (new : Vec ℕ Global) (before after : Held) (chunk : Chunk)
    → ReencodedStands f from g to form value (Ok new) → Decodes (chain_grammar f from) form value (Ok before) → Decodes (chain_grammar g to) form new.items (Ok after)
    → IsTight form.type before → IsTight form.type after → ((a b : Held) (c : Chunk) → IsTight form.type a → IsTight form.type b → Holds form.type a c → Holds form.type b c → is_same_held a b ≡ true)
    → ChainStands f from form.sizes form.type form.fill value chunk → normal_form to.array_to_bytes form.type chunk ≡ chunk → is_same_held before after ≡ true
decoded_same f from g to form value new before after chunk stands read again tight also law old keeps =
    law before after chunk tight also (read.only chunk old)
    (subst (Holds form.type after) keeps (again.only (normal_form to.array_to_bytes form.type chunk) (stands chunk old)))
