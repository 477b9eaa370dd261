-- The codec `bytes` behind array-to-array codecs, as a chain says it.
use Rattle.zarrs_data_type.specs.Form.{form_of}
use Rattle.std.proofs.Common.{◌≡◌, ℕ, Option, List, Result, Ok, Err, IfOk, refl, ap, sym, ◌∙◌, subst}
use Rattle.std.specs.Prelude.{is_ok}
use Rattle.zarrs_chunk.specs.Answer.{◌>>=◌, GivesBy, seen}
use Rattle.zarrs_chunk.specs.ChunkShape.{product}
use Rattle.zarrs_chunk.specs.declared.codec_error.CodecError.{CodecError}
use Rattle.zarrs_data_type.specs.Element.{Chunk}
use Rattle.zarrs_data_type.specs.ElementType.{ElementType, fixed, text, bytes, optional}
use Rattle.zarrs_data_type.specs.declared.endianness.Endianness.{Endianness}
use Rattle.zarrs_array_bytes.specs.Held.{Held}
use Rattle.zarrs_array_bytes.specs.Validity.{Holds}
use Rattle.zarrs_codec.specs.BytesToBytesCodec.{BytesCodecs}
use Rattle.zarrs_codec.specs.CoordinateMap.{CoordinateMap, IsCoordinateMap, moved_chunk, inverse_map}
use Rattle.zarrs_codec.specs.declared.bytes_representation.BytesRepresentation.{BytesRepresentation}
use Rattle.zarrs_codec.specs.declared.bytes_representation.BytesRepresentation.TheVariants.{FixedSize}
use Rattle.zarrs_array_to_array.specs.ArrayToArrayCodec.{ArrayMapping}
use Rattle.zarrs_bytes.specs.BytesCodec.{bytes_length, bytes_chunk, BytesTakes}
use Rattle.zarrs_bytes.proofs.Coding.{ok}
use Rattle.zarrs_chain_meaning.specs.ArrayStages.{arrays_map, IsMapWhere}
use Rattle.zarrs_chain_meaning.specs.BytesStages.{outer_bytes}
use Rattle.zarrs_chain_meaning.specs.Chain.{taken_form}
use Rattle.zarrs_chain_meaning.specs.CodecMeaning.{bytes_codec, PlainChain, meaning, codec_chunk, chain_chunk}
use Rattle.zarrs_chain_meaning.proofs.ArraySteps.{at_ok, next_answer}
use Rattle.zarrs_chain_meaning.proofs.ChainSteps.{is_taken, seen_ok, chunk_through}
use Rattle.zarrs_chain.specs.ChainView.{plain_codec}
use Rattle.zarrs_chain.specs.declared.array_to_bytes_codec.ArrayToBytesCodec.{ArrayToBytesCodec}
use Rattle.zarrs_chain.specs.declared.array_to_bytes_codec.ArrayToBytesCodec.TheVariants.{Bytes}
use Rattle.zarrs_chain.proofs.CodecSteps.{bytes_chunk_at}

-- the codec asks how many elements there are, and not for the sizes
length_by_count : (order : Option Endianness) (sizes others : List ℕ) (type : ElementType) (fill : List ℕ) → product others ≡ product sizes
    → bytes_length order (form_of others type fill) ≡ bytes_length order (form_of sizes type fill)
length_by_count order sizes others (fixed width components sign) fill same = rw same refl
length_by_count order sizes others text fill same = refl
length_by_count order sizes others bytes fill same = refl
length_by_count order sizes others (optional type) fill same = refl

chunk_by_count : (order : Option Endianness) (sizes others : List ℕ) (type : ElementType) (fill value : List ℕ) → product others ≡ product sizes
    → bytes_chunk order (form_of others type fill) value ≡ bytes_chunk order (form_of sizes type fill) value
chunk_by_count order sizes others (fixed width components sign) fill value same = rw same refl
chunk_by_count order sizes others text fill value same = refl
chunk_by_count order sizes others bytes fill value same = refl
chunk_by_count order sizes others (optional type) fill value same = refl

bind_seen : {A C : Type 0} (view : A → C) (r : Result A CodecError) → r >>= (λ x. ok (view x)) ≡ seen view r
bind_seen view (Ok x) = refl
bind_seen view (Err error) = refl

abbrev pub bytes_chain : {B : Type 0} → List ArrayMapping → Option Endianness → List B → PlainChain B
bytes_chain arrays order outer =
    record { array_to_array = arrays; array_to_bytes = bytes_codec order; bytes_to_bytes = outer }

pub taken_behind : {B : Type 0} (f : BytesCodecs B) (arrays : List ArrayMapping) (order : Option Endianness) (outer : List B) (sizes : List ℕ) (type : ElementType) (fill : List ℕ) (form : List ℕ × BytesRepresentation)
    → IsMapWhere type arrays sizes → taken_form f (bytes_chain arrays order outer) sizes type fill ≡ Ok form → BytesTakes order (form_of sizes type fill)
unfolding meaning
taken_behind f arrays order outer sizes type fill form maps e =
    let t = is_taken f (bytes_chain arrays order outer) sizes type fill form e in
    let m = at_ok (arrays_map type arrays sizes) (λ (m : CoordinateMap). IsCoordinateMap sizes m) t.map_is t.mapped maps in
    let a = seen_ok FixedSize (bytes_length order (form_of t.map_is.encoded type fill)) form.1 t.measured in
    ap (λ (r : Result ℕ CodecError). is_ok r) (sym (length_by_count order sizes t.map_is.encoded type fill m.count) ∙ a.1)

pub chunk_behind : {B : Type 0} (f : BytesCodecs B) (arrays : List ArrayMapping) (order : Option Endianness) (outer : List B) (sizes : List ℕ) (type : ElementType) (fill : List ℕ) (form : List ℕ × BytesRepresentation) (value below : List ℕ) (r : Result Held CodecError)
    → IsMapWhere type arrays sizes → taken_form f (bytes_chain arrays order outer) sizes type fill ≡ Ok form
    → outer_bytes f outer form.1 value ≡ Ok below
    → IfOk (arrays_map type arrays sizes) (λ m. GivesBy (Holds type) r (seen (moved_chunk (inverse_map sizes m)) (bytes_chunk order (form_of sizes type fill) below)))
    → GivesBy (Holds type) r (chain_chunk f (bytes_chain arrays order outer) sizes type fill value)
chunk_behind f arrays order outer sizes type fill form value below r maps e opened found =
    let chain = bytes_chain arrays order outer in
    let t = is_taken f chain sizes type fill form e in
    let m = at_ok (arrays_map type arrays sizes) (λ (m : CoordinateMap). IsCoordinateMap sizes m) t.map_is t.mapped maps in
    let back = moved_chunk (inverse_map sizes t.map_is) in
    let got = at_ok (arrays_map type arrays sizes) (λ (m : CoordinateMap). GivesBy (Holds type) r (seen (moved_chunk (inverse_map sizes m)) (bytes_chunk order (form_of sizes type fill) below))) t.map_is t.mapped found in
    let count : product form.0 ≡ product sizes = ap product (sym t.encoded_is) ∙ m.count in
    let read : codec_chunk f (bytes_codec order) form.0 type fill below ≡ bytes_chunk order (form_of sizes type fill) below =
    bytes_chunk_at f order form.0 type fill below ∙ chunk_by_count order sizes form.0 type fill below count in
    let is : chain_chunk f chain sizes type fill value ≡ seen back (bytes_chunk order (form_of sizes type fill) below) =
    chunk_through f chain sizes type fill form value e
    ∙ next_answer (outer_bytes f outer form.1 value) below (λ b. codec_chunk f (bytes_codec order) form.0 type fill b >>= (λ chunk. ok (back chunk))) opened
    ∙ ap (λ (c : Result Chunk CodecError). c >>= (λ chunk. ok (back chunk))) read
    ∙ bind_seen back (bytes_chunk order (form_of sizes type fill) below) in
    subst (λ (x : Result Chunk CodecError). GivesBy (Holds type) r x) (sym is) got

-- ---- as the code returns the codecs apart

abbrev seen_chain : {B : Type 0} → List ArrayMapping → ArrayToBytesCodec B → List B → PlainChain B
seen_chain arrays codec outer =
    record { array_to_array = arrays; array_to_bytes = plain_codec codec; bytes_to_bytes = outer }

pub takes_behind : {B : Type 0} (f : BytesCodecs B) (arrays : List ArrayMapping) (codec : ArrayToBytesCodec B) (order : Option Endianness) (outer : List B) (sizes : List ℕ) (type : ElementType) (fill : List ℕ) (form : List ℕ × BytesRepresentation)
    → codec ≡ Bytes order → IsMapWhere type arrays sizes → taken_form f (seen_chain arrays codec outer) sizes type fill ≡ Ok form → BytesTakes order (form_of sizes type fill)
unfolding plain_codec
takes_behind f arrays codec order outer sizes type fill form is maps e =
    taken_behind f arrays order outer sizes type fill form maps (subst (λ x. taken_form f (seen_chain arrays x outer) sizes type fill ≡ Ok form) is e)

pub reads_behind : {B : Type 0} (f : BytesCodecs B) (arrays : List ArrayMapping) (codec : ArrayToBytesCodec B) (order : Option Endianness) (outer : List B) (sizes : List ℕ) (type : ElementType) (fill : List ℕ) (form : List ℕ × BytesRepresentation) (value below : List ℕ) (r : Result Held CodecError)
    → codec ≡ Bytes order → IsMapWhere type arrays sizes → taken_form f (seen_chain arrays codec outer) sizes type fill ≡ Ok form
    → outer_bytes f outer form.1 value ≡ Ok below
    → IfOk (arrays_map type arrays sizes) (λ m. GivesBy (Holds type) r (seen (moved_chunk (inverse_map sizes m)) (bytes_chunk order (form_of sizes type fill) below)))
    → GivesBy (Holds type) r (chain_chunk f (seen_chain arrays codec outer) sizes type fill value)
unfolding plain_codec
reads_behind f arrays codec order outer sizes type fill form value below r is maps e opened found =
    subst (λ x. GivesBy (Holds type) r (chain_chunk f (seen_chain arrays x outer) sizes type fill value)) (sym is)
    (chunk_behind f arrays order outer sizes type fill form value below r maps (subst (λ x. taken_form f (seen_chain arrays x outer) sizes type fill ≡ Ok form) is e) opened found)
