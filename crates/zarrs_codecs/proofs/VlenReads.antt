-- Reads in part of a chunk of `vlen`.
use Rattle.std.proofs.Common.{◌≡◌, ℕ, ◌<◌, ◌^◌, nat_lt, if◌then◌else◌, Bool, true, false, Option, Some, None, List, map, Result, Ok, Err, IfOk, refl, ap, sym, ◌∙◌, subst}
use Rattle.std.specs.Prelude.{is_ok, is_some, IsOkAnd}
use Rattle.std.specs.List.{All}
use Rattle.zarrs_chunk.specs.Answer.{◌>>=◌, checked_u64, demand, seen}
use Rattle.zarrs_chunk.specs.AnswerLaws.{demand_ok}
use Rattle.zarrs_chunk.specs.ChunkShape.{product}
use Rattle.zarrs_chunk.specs.Selection.{Selection, places_of}
use Rattle.zarrs_chunk.specs.declared.codec_error.CodecError.{CodecError}
use Rattle.zarrs_chunk.specs.declared.codec_error.CodecError.TheVariants.{Overflow, UnsupportedDataType}
use Rattle.zarrs_data_type.specs.Element.{Chunk, fill_element}
use Rattle.zarrs_data_type.specs.ElementType.{ElementType, is_variable}
use Rattle.zarrs_data_type.specs.FillValue.{fill_fits}
use Rattle.zarrs_array_bytes.specs.Chunks.{chunk_at}
use Rattle.zarrs_array_bytes.specs.Elements.{elements, select}
use Rattle.zarrs_array_bytes.specs.Held.{Held}
use Rattle.zarrs_array_bytes.specs.Validity.{Holds, validity}
use Rattle.zarrs_codec.specs.BytesToBytesCodec.{BytesCodecs}
use Rattle.zarrs_chain.specs.ChainView.{plain_vlen, plain_vlen_at}
use Rattle.zarrs_codecs.specs.CodecPart.{codec_read, codec_rests_on}
use Rattle.zarrs_codecs.specs.PartRead.{whole_read}
use Rattle.zarrs_chain_meaning.specs.Chain.{codec_reads}
use Rattle.zarrs_chain_meaning.specs.CodecMeaning.{PlainCodec, HasMappings, codec_representation, codec_chunk, CodecStands}
use Rattle.zarrs_chain_meaning.specs.vlen.Vlen.{vlen_representation}
use Rattle.zarrs_chain_meaning.specs.vlen.PlainVlen.{plain_form_of}
use Rattle.zarrs_chain_meaning.specs.vlen.PlainForm.{PlainForm}
use Rattle.zarrs_chunk.proofs.PlaceLaws.{places_below}
use Rattle.zarrs_codecs.specs.vlen.VlenPartialDecoder.{CodecForm, codec_stored_read, CodecWhereSure}
use Rattle.zarrs_codec.specs.StorageState.{are_sure, StorageState}
use Rattle.zarrs_chain.specs.declared.vlen.vlen_codec.VlenCodec.{VlenCodec}
use Rattle.zarrs_chain_meaning.proofs.Answered.{from_ok}
use Rattle.zarrs_bytes.proofs.Coding.{ok, bind_ok}
use Rattle.zarrs_chain_meaning.proofs.ArraySteps.{ok_is}
use Rattle.zarrs_chain_meaning.proofs.CodecLaws.{chunk_count, chunk_only}
use Rattle.zarrs_codecs.proofs.PartialCalls.{counted_is, held_of}
use Rattle.zarrs_codecs.proofs.LawfulPart.{codec_fills, codec_selects, part_laws}
use Rattle.zarrs_chain.proofs.TakenTight.{vlen_measured}
use Rattle.zarrs_chain_meaning.specs.declared.codec_name.TheConstants.{VLEN}
use Rattle.zarrs_chain_meaning.proofs.NestedRoom.{variable_fits}

-- ---- chunks that the codec takes

-- such a chunk's elements are of any length, its fill value fits, and 64 bits count the elements
pub record IsTakenByVlen (sizes : List ℕ) (type : ElementType) (fill : List ℕ) : Type 0 where
  pub variable : is_variable type ≡ true
  pub filled : fill_fits type fill ≡ true
  pub counted : product sizes < 2 ^ 64

taken_so : (sizes : List ℕ) (type : ElementType) (fill : List ℕ) → is_ok (vlen_representation sizes type fill) ≡ true → IsTakenByVlen sizes type fill
taken_so sizes type fill taken =
    let t = from_ok (vlen_representation sizes type fill) taken in
    let a = bind_ok (demand (is_variable type) (UnsupportedDataType VLEN)) _ t.0 t.1 in
    let b = bind_ok (checked_u64 (product sizes)) _ t.0 a.2 in
    let variable = demand_ok (is_variable type) (UnsupportedDataType VLEN) a.1 in
    record {
      variable = variable;
      filled = variable_fits type fill variable;
      counted = counted_is (product sizes) b.0 b.1;
    }

pub vlen_taken : {B : Type 0} (f : BytesCodecs B) (codec : VlenCodec B) (sizes : List ℕ) (type : ElementType) (fill : List ℕ) → is_ok (codec_representation f (plain_vlen codec) sizes type fill) ≡ true → IsTakenByVlen sizes type fill
vlen_taken f codec sizes type fill taken = taken_so sizes type fill (ap is_ok (sym (vlen_measured f codec sizes type fill)) ∙ taken)

-- ---- what is read

-- a `vlen` that has no plain form reads no part
no_part : {B : Type 0} (codec : VlenCodec B) → plain_form_of (plain_vlen codec) ≡ None → (codec_reads (plain_vlen codec)).partial_decode ≡ false
no_part {B} codec =
    subst (λ (p : PlainCodec B). plain_form_of p ≡ None → (codec_reads p).partial_decode ≡ false) (sym (plain_vlen_at codec)) (λ e. ap (λ (form : Option PlainForm). is_some form) e)

pub reads_no_part : {B : Type 0} (codec : VlenCodec B) → plain_form_of (plain_vlen codec) ≡ None → (codec_reads (plain_vlen codec)).partial_decode ≡ true → ⊥
reads_no_part codec none h = let e = no_part codec none in cc

-- and is read by the whole chunk
pub read_wholly : {B : Type 0} (f : BytesCodecs B) (codec : VlenCodec B) (sizes : List ℕ) (type : ElementType) (fill : List ℕ) (stored : Option (List ℕ)) (places : List ℕ) → plain_form_of (plain_vlen codec) ≡ None
    → codec_read f (plain_vlen codec) sizes type fill stored places ≡ whole_read (codec_chunk f (plain_vlen codec)) sizes type fill stored places
read_wholly f codec sizes type fill stored places none = (part_laws (plain_vlen codec)).wholly f sizes type fill stored places (no_part codec none)

-- the container of the chunk that a value stands for
pub vlen_held : {B : Type 0} (f : BytesCodecs B) (codec : VlenCodec B) (sizes : List ℕ) (type : ElementType) (fill value : List ℕ) (held : Held) → IsOkAnd (codec_chunk f (plain_vlen codec) sizes type fill value) (Holds type held)
    → (codec_chunk f (plain_vlen codec) sizes type fill value ≡ ok (elements type (product sizes) held)) × (validity type (product sizes) held ≡ Ok tt)
vlen_held f codec sizes type fill value held h =
    held_of type (product sizes) held (codec_chunk f (plain_vlen codec) sizes type fill value) (chunk_count f (plain_vlen codec) sizes type fill value) h

counted_same : (test : Bool) (n m : ℕ) → ok m ≡ (if test then ok n else Err Overflow) → m ≡ n
counted_same true n m e = ok_is m n e
counted_same false n m e = absurd cc

-- the count of elements that is answered is theirs
pub count_is : (n m : ℕ) → ok m ≡ checked_u64 n → m ≡ n
count_is n m e = counted_same (nat_lt n (2 ^ 64)) n m e

-- what is taken out of the container of the chunk is what is read of it
pub vlen_chosen : {B : Type 0} (f : BytesCodecs B) (codec : VlenCodec B) (sizes : List ℕ) (type : ElementType) (fill value places : List ℕ) (held : Held) (count : ℕ) → count ≡ product sizes
    → codec_chunk f (plain_vlen codec) sizes type fill value ≡ Ok (elements type (product sizes) held) → validity type (product sizes) held ≡ Ok tt
    → chunk_at type count places held ≡ whole_read (codec_chunk f (plain_vlen codec)) sizes type fill (Some value) places
vlen_chosen f codec sizes type fill value places held count is e valid =
    ap (λ (n : ℕ). chunk_at type n places held) is
    ∙ ap (λ (r : Result (Unit {0}) CodecError). r >>= λ _. ok (select (elements type (product sizes) held) places)) valid
    ∙ sym (ap (λ (r : Result Chunk CodecError). r >>= λ c. ok (select c places)) e)

each_place : (r : Result (List ℕ) CodecError) (P : List ℕ → Type 0) (g : List ℕ → Chunk) (h : List ℕ → Result Chunk CodecError) → IfOk r P → ((places : List ℕ) → P places → h places ≡ ok (g places)) → (r >>= h) ≡ seen g r
each_place (Ok places) P g h inside e = e places inside
each_place (Err x) P g h inside e = refl

-- of a value that stands for a chunk, the chunk's elements are read
pub vlen_selects : {B : Type 0} (f : BytesCodecs B) (codec : VlenCodec B) (sizes : List ℕ) (type : ElementType) (fill value : List ℕ) (chunk : Chunk) (selection : Selection) → HasMappings (plain_vlen codec) → All (λ size. 0 < size) sizes → is_ok (codec_representation f (plain_vlen codec) sizes type fill) ≡ true
    → CodecStands f (plain_vlen codec) sizes type fill value chunk
    → codec_stored_read f (record { codec = plain_vlen codec; sizes = sizes; type = type; fill = fill }) (Some value) selection ≡ seen (select chunk) (places_of selection sizes)
vlen_selects f codec sizes type fill value chunk selection has positive taken stands =
    let r = from_ok (codec_representation f (plain_vlen codec) sizes type fill) taken in
    each_place (places_of selection sizes) (All (λ place. place < product sizes)) (select chunk) _ (places_below selection sizes)
    (λ places inside. codec_selects f (plain_vlen codec) sizes type fill value r.0 chunk places has positive r.1 (chunk_only f (plain_vlen codec) has sizes type fill value chunk positive stands) inside)

-- and fill elements where nothing is stored
pub vlen_fills : {B : Type 0} (f : BytesCodecs B) (codec : VlenCodec B) (sizes : List ℕ) (type : ElementType) (fill : List ℕ) (selection : Selection) → is_ok (codec_representation f (plain_vlen codec) sizes type fill) ≡ true
    → codec_stored_read f (record { codec = plain_vlen codec; sizes = sizes; type = type; fill = fill }) None selection ≡ seen (map (λ _. fill_element type fill)) (places_of selection sizes)
vlen_fills f codec sizes type fill selection taken =
    let r = from_ok (codec_representation f (plain_vlen codec) sizes type fill) taken in
    each_place (places_of selection sizes) (All (λ place. place < product sizes)) (map (λ _. fill_element type fill)) _ (places_below selection sizes)
    (λ places inside. codec_fills f (plain_vlen codec) sizes type fill r.0 places r.1)

-- ---- sure bytes

both_refused : (b : Result (List ℕ) CodecError) (next : List ℕ → Result (List ℕ) CodecError) (P : List ℕ → Type 0) → IfOk b (λ places. IfOk (next places) P) → IfOk (b >>= next) P
both_refused (Ok places) next P h = h
both_refused (Err x) next P h = tt

places_so : (r : Result (List ℕ) CodecError) (places : List ℕ) (P : List ℕ → Type 0) → r ≡ Ok places → P places → IfOk r P
places_so r places P e h = rw e h

-- what holds of the bytes that the places of a selection rest on
pub where_sure : {B : Type 0} (f : BytesCodecs B) (form : CodecForm B) (before : StorageState) (selection : Selection) (P : Type 0) (places : List ℕ) → places_of selection form.sizes ≡ Ok places
    → ((codec_reads form.codec).partial_decode ≡ true → IfOk (codec_rests_on f form.codec form.sizes form.type form.fill before.value places) (λ numbers. are_sure before.sure numbers ≡ true → P)) → CodecWhereSure f form before selection P
where_sure f form before selection P places e h reads =
    both_refused (places_of selection form.sizes) (codec_rests_on f form.codec form.sizes form.type form.fill before.value) (λ numbers. are_sure before.sure numbers ≡ true → P)
    (places_so (places_of selection form.sizes) places (λ ps. IfOk (codec_rests_on f form.codec form.sizes form.type form.fill before.value ps) (λ numbers. are_sure before.sure numbers ≡ true → P)) e (h reads))
