-- `vlen` keeps the laws where its two chains do.
use Rattle.std.proofs.Common.{Bool, refl, subst, sym, ◌∙◌}
use Rattle.zarrs_chunk.specs.Answer.{demand, checked_u64}
use Rattle.zarrs_chunk.specs.ChunkShape.{product}
use Rattle.zarrs_chunk.specs.declared.codec_error.CodecError.TheVariants.{UnsupportedDataType}
use Rattle.zarrs_data_type.specs.ElementType.{is_variable}
use Rattle.zarrs_array_bytes.specs.Elements.{select}
use Rattle.zarrs_codec.specs.BytesToBytesCodec.{KeepsTo, IsAtMost}
use Rattle.zarrs_codec.specs.declared.bytes_representation.BytesRepresentation.{BytesRepresentation}
use Rattle.zarrs_bytes.proofs.Coding.{demand_ok, bind_ok}
use Rattle.zarrs_chain_meaning.specs.Meaning.{Meaning}
use Rattle.zarrs_chain_meaning.specs.vlen.Vlen.{vlen_meaning}
use Rattle.zarrs_chain_meaning.proofs.NestedNormal.{vlen_is, vlen_twice, vlen_absent}
use Rattle.zarrs_chain_meaning.proofs.NestedStands as standing
use Rattle.zarrs_chain_meaning.proofs.NestedWritten as writing
use Rattle.zarrs_chain_meaning.proofs.NestedGrowth.{unbounded_most, vlen_unbounded}
use Rattle.zarrs_chain_meaning.proofs.NestedKept as keeping
use Rattle.zarrs_chain_meaning.proofs.NestedForNormal as normal
use Rattle.zarrs_chain_meaning.proofs.NestedWrittenStands.{vlen_stands}
use Rattle.zarrs_chain_meaning.proofs.NestedEncode as encoding
use Rattle.zarrs_chain_meaning.proofs.NestedFound as finding
use Rattle.zarrs_chain_meaning.proofs.NestedDecode as decoding
use Rattle.zarrs_chain_meaning.proofs.NestedRead as reading
use Rattle.zarrs_chain_meaning.proofs.LawfulCodec.{IsLawfulCodec, IsLawfulChain}
use Rattle.zarrs_chain_meaning.specs.declared.codec_name.TheConstants.{VLEN}
use Rattle.zarrs_chain_meaning.proofs.ArraySteps.{counted_so}
use Rattle.zarrs_chain_meaning.proofs.ChainSteps.{vlen_long}
use Rattle.zarrs_chain_meaning.proofs.NestedRoom.{vlen_fits, vlen_room}

pub vlen_laws : {B : Type 0} (wide at_end : Bool) (index content : Meaning B) → IsLawfulChain index → IsLawfulChain content → IsLawfulCodec (vlen_meaning wide at_end index content)
vlen_laws wide at_end index content i d = record {
  types = vlen_is content.normal;
  twice = vlen_twice content.normal d.types d.twice;
  absents = vlen_absent content.normal;
  flags = record { zero_kept = refl; one_kept = refl };
  stands_once = λ f has sizes type fill value chunk other positive a b. standing.vlen_once wide at_end (index.Stands f) (content.Stands f) (i.stands_once f has.0) (d.stands_once f has.1) (product sizes) value chunk other a b;
  writes_once = λ f sizes type fill value other chunk a b. writing.vlen_once wide at_end index.normal (index.Written f) (content.Written f) (i.writes_once f) (d.writes_once f) value other chunk a b;
  grows = λ f lawful has sizes others type fill r s p q h a b. subst (λ (x : BytesRepresentation). IsAtMost r x) (vlen_unbounded others type fill s b) (unbounded_most r);
  by_count = λ f has sizes others type fill r s p q h a b. sym (vlen_unbounded sizes type fill r a) ∙ vlen_unbounded others type fill s b;
  sized = λ f lawful has sizes type fill value chunk r positive long each w e. record {
    each = keeping.vlen_are wide at_end index.normal _ _ _ _ (i.measured f lawful has.0) (d.measured f lawful has.1) value chunk each w;
    keeps = subst (λ (s : BytesRepresentation). KeepsTo s value) (vlen_unbounded sizes type fill r e) (keeping.unbounded_keeps value);
  };
  stands = λ f lawful has sizes type fill value chunk r positive each h room e w. vlen_stands wide at_end index.normal content.normal _ _ _ _ (i.stands f lawful has.0) (d.stands f lawful has.1) d.types (vlen_is content.normal) sizes type fill value chunk r each h room e w;
  kept = λ f sizes type fill value chunk w. normal.vlen_kept wide at_end index.normal content.normal _ _ d.types (d.kept f) type value chunk w;
  kept_back = λ f sizes type fill value chunk places each w. normal.kept_vlen wide at_end index.normal content.normal _ _ d.types (d.kept_back f) type value (select chunk places) w;
  encodes = λ f sizes type fill value chunk w. encoding.vlen_only wide at_end index.normal _ _ _ _ (i.encodes f) (d.encodes f) value chunk w;
  founds = λ f has sizes type fill value chunk r positive is e h. finding.vlen_found wide at_end index.normal _ _ _ _ i.types (i.founds f has.0) (d.founds f has.1) value chunk h;
  decodes = λ f has sizes type fill value chunk positive s. decoding.vlen_only wide at_end _ _ _ _ (i.decodes f has.0) (d.decodes f has.1) (product sizes) value chunk s;
  reads = λ f has sizes type fill value chunk r positive t e.
      let v = bind_ok (demand (is_variable type) (UnsupportedDataType VLEN)) _ r t in
      reading.vlen_read wide at_end _ _ _ _ (i.reads f has.0) (d.reads f has.1) (product sizes) type value chunk (demand_ok (is_variable type) (UnsupportedDataType VLEN) v.0 v.1) e;
  counted = λ f sizes type fill r e.
      let a = bind_ok (demand (is_variable type) (UnsupportedDataType VLEN)) _ r e in
      let b = bind_ok (checked_u64 (product sizes)) _ r a.2 in
      counted_so (product sizes) b.0 b.1;
  room = λ f has. vlen_room;
  fits = λ f. vlen_fits;
  long = λ f sizes type fill value chunk e. vlen_long wide at_end (index.chunk f) (content.chunk f) (product sizes) value chunk e;
}
