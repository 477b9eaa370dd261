-- Laws of re-encoding.
use Rattle.std.proofs.Common.{List, ℕ, sym, subst}
use Rattle.zarrs_data_type.specs.Element.{Chunk}
use Rattle.zarrs_codec.specs.BytesToBytesCodec.{BytesCodecs}
use Rattle.zarrs_chain_meaning.specs.CodecMeaning.{normal_form}
use Rattle.zarrs_chain_meaning.proofs.CodecLaws.{normal_as_written, chain_one, chain_once, chain_stands}
use Rattle.zarrs_chain.specs.ChainGrammar.{chain_grammar}
use Rattle.zarrs_chain.specs.Reencode.{Reencoded}
use Rattle.zarrs_chain.specs.ReencodeLaws.{WrittenIsCanonical, ReencodedIsWritten, ReencodedIsCanonical, ReencodedTwice, ReencodedBack}

pub written_is_canonical : {B : Type 0} (f : BytesCodecs B) → WrittenIsCanonical f
written_is_canonical f chain form value chunk lawful is each positive w = record {
  stands = chain_stands f chain lawful is form.sizes form.type form.fill value chunk positive each w;
  written = normal_as_written f chain form.sizes form.type form.fill value chunk w;
}

pub reencoded_is_written : {B C : Type 0} (f : BytesCodecs B) (g : BytesCodecs C) → ReencodedIsWritten f g
reencoded_is_written f g from to form value other chunk is positive s = (
  λ r. subst (λ (c : Chunk). (chain_grammar g to).Written form other c) (chain_one f from is form.sizes form.type form.fill value r.chunk chunk positive r.stands s) r.written,
  λ w. record { chunk = chunk; stands = s; written = w },
)

pub reencoded_is_canonical : {B : Type 0} (f : BytesCodecs B) → ReencodedIsCanonical f
reencoded_is_canonical f chain form value other chunk lawful is each positive s r =
    written_is_canonical f chain form other chunk lawful is each positive ((reencoded_is_written f f chain chain form value other chunk is positive s).0 r)

pub reencoded_twice : {B : Type 0} (f : BytesCodecs B) → ReencodedTwice f
reencoded_twice f chain form value other again chunk lawful is each positive s r =
    let normal = normal_form chain.array_to_bytes form.type chunk in
    let canonical = reencoded_is_canonical f chain form value other chunk lawful is each positive s r in (
      λ more. chain_once f chain form.sizes form.type form.fill again other normal ((reencoded_is_written f f chain chain form other again normal is positive canonical.stands).0 more) canonical.written,
      λ e. subst (λ (v : List ℕ). Reencoded (chain_grammar f chain) (chain_grammar f chain) form other v) (sym e) (record { chunk = normal; stands = canonical.stands; written = canonical.written }),
    )

pub reencoded_back : {B C : Type 0} (f : BytesCodecs B) (g : BytesCodecs C) → ReencodedBack f g
reencoded_back f g from to form value other back chunk lawful is also each positive canonical keeps r =
    let w = (reencoded_is_written f g from to form value other chunk is positive canonical.stands).0 r in
    let s = subst (λ (c : Chunk). (chain_grammar g to).Stands form other c) keeps (chain_stands g to lawful also form.sizes form.type form.fill other chunk positive each w) in (
      λ more. chain_once f from form.sizes form.type form.fill back value chunk ((reencoded_is_written g f to from form other back chunk also positive s).0 more) canonical.written,
      λ e. subst (λ (v : List ℕ). Reencoded (chain_grammar g to) (chain_grammar f from) form other v) (sym e) (record { chunk = chunk; stands = s; written = canonical.written }),
    )
