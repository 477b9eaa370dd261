-- What a chain that hands on bytes writes of an inner chunk: the bytes of its elements.
use Rattle.std.proofs.Common.{◌≡◌, ℕ, ◌*◌, ◌<◌, ◌^◌, nat_eq, Bool, true, false, Option, Some, None, List, [], ◌∷◌, length, get_or, if◌then◌else◌, Result, Ok, Err, arith, refl, ap, sym, subst, ◌∙◌}
use Rattle.std.specs.Cmp.Lexicographic.{pointwise}
use Rattle.std.specs.List.{All, list_all}
use Rattle.std.specs.Prelude.{is_some}
use Rattle.std.proofs.lemmas.Bool.{eqb-true, false≢true}
use Rattle.std.proofs.lemmas.List.{ext_get_or, length-map}
use Rattle.std.proofs.lemmas.List.Folds.{list_all-map}
use Rattle.std.proofs.lemmas.Nat.{row_fits}
use Rattle.zarrs_chunk.specs.Answer.{◌>>=◌}
use Rattle.zarrs_chunk.specs.ChunkShape.{product}
use Rattle.zarrs_chunk.specs.declared.codec_error.CodecError.{CodecError}
use Rattle.zarrs_chunk.specs.declared.codec_error.CodecError.TheVariants.{ArrayBytesKind, InvalidBytesLength}
use Rattle.zarrs_chunk.proofs.Inside.{lt_test}
use Rattle.zarrs_data_type.specs.Element.{Chunk, absent}
use Rattle.zarrs_data_type.specs.ElementType.{ElementType, fixed, text, bytes, optional, element_size, fixed_size_of}
use Rattle.zarrs_data_type.specs.FillValue.{fill_fits}
use Rattle.zarrs_data_type.specs.Form.{form_of}
use Rattle.zarrs_data_type.specs.declared.endianness.Endianness.{Endianness}
use Rattle.zarrs_array_bytes.specs.Elements.{elements, piece, select}
use Rattle.zarrs_array_bytes.specs.Held.{Held, Raw, flen, vlen, masked, owned_bytes}
use Rattle.zarrs_array_bytes.specs.Parts.{fixed_items}
use Rattle.zarrs_array_bytes.specs.Pieces.{pieces, pieces_at}
use Rattle.zarrs_array_bytes.specs.Validity.{Holds, levels_fit, sizes_fit, validity}
use Rattle.zarrs_array_bytes.proofs.ExtractLemmas.{extracted_holds}
use Rattle.zarrs_array_bytes.proofs.ValidLemmas.{both_ok, fixed_fits}
use Rattle.zarrs_codec.specs.BytesToBytesCodec.{BytesCodecs}
use Rattle.zarrs_codec.specs.CoordinateMap.{CoordinateMap, IsCoordinateMap, composition, moved_chunk, same_places}
use Rattle.zarrs_codec.specs.declared.bytes_representation.BytesRepresentation.{BytesRepresentation}
use Rattle.zarrs_codec.specs.declared.bytes_representation.BytesRepresentation.TheVariants.{FixedSize}
use Rattle.zarrs_codec.proofs.Fences.{first_true, second_true}
use Rattle.zarrs_array_to_array.specs.ArrayToArrayCodec.{ArrayMapping, coordinates, keeps_places}
use Rattle.zarrs_array_to_array.specs.CodecAnswers.{type_taken}
use Rattle.zarrs_array_to_array.proofs.ArrayLaws.{array_laws}
use Rattle.zarrs_array_to_array.proofs.CoordinateMaps.{length-moved, moved_at}
use Rattle.zarrs_array_bytes.specs.Turned.{turned_bytes}
use Rattle.zarrs_bytes.specs.BytesCodec.{bytes_length, bytes_value, spelling, turn_size}
use Rattle.zarrs_bytes.specs.PartialRead.{place_size}
use Rattle.zarrs_bytes.proofs.Coding.{bind_ok, encoded_is, ok}
use Rattle.zarrs_bytes.proofs.Taken.{taken_fixed, taken_small}
use Rattle.zarrs_chain_meaning.specs.ArrayStages.{arrays_map, codec_map}
use Rattle.zarrs_chain_meaning.specs.BytesStages.{in_memory, outer_value}
use Rattle.zarrs_chain_meaning.specs.Chain.{taken_form}
use Rattle.zarrs_chain_meaning.specs.CodecMeaning.{PlainCodec, bytes_codec, meaning, codec_normal_element, codec_representation, codec_value, chain_value}
use Rattle.zarrs_chain_meaning.specs.KeptBytes.{codec_keeps_bytes}
use Rattle.zarrs_chain_meaning.specs.sharding.ShardSteps.{inner_value}
use Rattle.zarrs_chain_meaning.specs.sharding.Sharding.{is_left_out}
use Rattle.zarrs_chain_meaning.proofs.ArraySteps.{at_ok, next_answer, ok_is, ok_no_err}
use Rattle.zarrs_chain_meaning.proofs.ChainSteps.{is_ok_of, is_taken, seen_ok, validity_fits}
use Rattle.zarrs_chain.specs.ChainView.{plain_chain}
use Rattle.zarrs_chain.specs.declared.codec_chain.CodecChain.{CodecChain}
use Rattle.zarrs_chain.specs.sharding.ShardWalk.{KeepsInner, are_item, inner_part, kept_part}
use Rattle.zarrs_chain.specs.sharding.ShardingCalls.{KeepsAll}
use Rattle.zarrs_shard_bytes.proofs.FillTests.{fixed_so, fixed_tested, is_item}
use Rattle.zarrs_chain.proofs.KeptBytes.{none_is}
use Rattle.zarrs_chain.proofs.KeptInner.{EndsInside, gathered_long, gathered_pieces}
use Rattle.zarrs_chain.proofs.OptionalAt.{ok_of}
use Rattle.zarrs_chain.proofs.LeftOut.{same_left_out}

-- ---- no element moves

one_stays : (type : ElementType) (codec : ArrayMapping) (sizes : List ℕ) (m : CoordinateMap) (place : ℕ) → keeps_places codec ≡ true → codec_map type codec sizes ≡ Ok m → m.from place ≡ place
one_stays type codec sizes m place h e =
    let a = bind_ok (type_taken codec type) (λ x. coordinates codec sizes) m e in
    (array_laws codec).stays_from sizes m place h a.2

all_stay : (type : ElementType) (codecs : List ArrayMapping) (sizes : List ℕ) (m : CoordinateMap) (place : ℕ) → list_all keeps_places codecs ≡ true → arrays_map type codecs sizes ≡ Ok m → m.from place ≡ place
all_stay type [] sizes m place h e = ap (λ (x : CoordinateMap). x.from place) (sym (ok_is (same_places sizes) m e))
all_stay type (codec ∷ codecs) sizes m place h e =
    let a = bind_ok (codec_map type codec sizes) (λ (first : CoordinateMap). arrays_map type codecs first.encoded >>= (λ rest. ok (composition first rest))) m e in
    let b = bind_ok (arrays_map type codecs a.0.encoded) (λ (rest : CoordinateMap). ok (composition a.0 rest)) m a.2 in
    ap (λ (x : CoordinateMap). x.from place) (sym (ok_is (composition a.0 b.0) m b.2))
    ∙ ap a.0.from (all_stay type codecs a.0.encoded b.0 place (second_true (keeps_places codec) (list_all keeps_places codecs) h) b.1)
    ∙ one_stays type codec sizes a.0 place (first_true (keeps_places codec) (list_all keeps_places codecs) h) a.1

moved_nowhere : (sizes : List ℕ) (m : CoordinateMap) (chunk : Chunk) → IsCoordinateMap sizes m → length chunk ≡ product sizes → ((place : ℕ) → m.from place ≡ place) → moved_chunk m chunk ≡ chunk
moved_nowhere sizes m chunk is long stays =
    ext_get_or absent (moved_chunk m chunk) chunk (length-moved m chunk ∙ is.count ∙ sym long)
    (λ place below. moved_at m chunk place (omega (arith, below, length-moved m chunk)) ∙ ap (λ p. get_or chunk p absent) (stays place))

-- ---- `bytes` that turns nothing round

kept_codec : {B : Type 0} (codec : PlainCodec B) (type : ElementType) → codec_keeps_bytes codec type ≡ true → (order : Option Endianness) × (codec ≡ bytes_codec order) × (turn_size order type ≡ None)
kept_codec (bytes_codec order) type h = (order, refl, none_is (turn_size order type) h)
kept_codec _ type h = absurd cc

bytes_is : (B : Type 0) (order : Option Endianness) → KeepsAll {B = B} (bytes_codec order)
unfolding meaning
bytes_is B order = λ type element. refl

kept_all : {B : Type 0} (codec : PlainCodec B) (type : ElementType) → codec_keeps_bytes codec type ≡ true → KeepsAll codec
kept_all {B} codec type h = let o = kept_codec codec type h in subst KeepsAll (sym o.1) (bytes_is B o.0)

-- it takes elements of one size alone, of which 64 bits count the bytes
abbrev Takes : List ℕ → ElementType → Type 0
Takes sizes type = (is_some (fixed_size_of type) ≡ true) × (product sizes * place_size type < 2 ^ 64)

bytes_take : {B : Type 0} (f : BytesCodecs B) (order : Option Endianness) (sizes : List ℕ) (type : ElementType) (fill : List ℕ) (r : BytesRepresentation) → codec_representation f (bytes_codec order) sizes type fill ≡ Ok r → Takes sizes type
unfolding meaning
bytes_take f order sizes type fill r e =
    let len = seen_ok FixedSize (bytes_length order (form_of sizes type fill)) r e in
    let taken = is_ok_of (bytes_length order (form_of sizes type fill)) len.0 len.1 in
    (taken_fixed order sizes type fill taken, taken_small order sizes type fill taken)

codec_takes : {B : Type 0} (f : BytesCodecs B) (codec : PlainCodec B) (sizes : List ℕ) (type : ElementType) (fill : List ℕ) (r : BytesRepresentation) → codec_keeps_bytes codec type ≡ true → codec_representation f codec sizes type fill ≡ Ok r → Takes sizes type
codec_takes {B} f codec sizes type fill r h e =
    let o = kept_codec codec type h in
    bytes_take f o.0 sizes type fill r (ap (λ (x : PlainCodec B). codec_representation f x sizes type fill) (sym o.1) ∙ e)

-- it writes the bytes that a container holds
bytes_written : {B : Type 0} (f : BytesCodecs B) (order : Option Endianness) (sizes : List ℕ) (type : ElementType) (fill : List ℕ) (r : BytesRepresentation) (raw : Raw) (chunk : Chunk) → turn_size order type ≡ None → codec_representation f (bytes_codec order) sizes type fill ≡ Ok r → Holds type (flen raw) chunk → length chunk ≡ product sizes
    → codec_value f (bytes_codec order) sizes type fill chunk ≡ Ok raw.items
unfolding meaning
bytes_written f order sizes type fill r raw chunk n e holds long =
    let len = seen_ok FixedSize (bytes_length order (form_of sizes type fill)) r e in
    let valid : validity type (product sizes) (flen raw) ≡ Ok tt = subst (λ (n : ℕ). validity type n (flen raw) ≡ Ok tt) long holds.valid in
    let these : elements type (product sizes) (flen raw) ≡ chunk = ap (λ (n : ℕ). elements type n (flen raw)) (sym long) ∙ holds.elements_are in
    let value : bytes_value order (form_of sizes type fill) (flen raw) ≡ ok (spelling order type chunk) = rw (len.1, valid) (ap (λ (c : Chunk). ok (spelling order type c)) these) in
    sym value
    ∙ encoded_is order sizes type fill (flen raw) raw len.0 len.1 valid refl
    ∙ ap (λ (size : Option ℕ). ok (turned_bytes size raw.items)) n

codec_kept : {B : Type 0} (f : BytesCodecs B) (codec : PlainCodec B) (sizes : List ℕ) (type : ElementType) (fill : List ℕ) (r : BytesRepresentation) (raw : Raw) (chunk : Chunk) → codec_keeps_bytes codec type ≡ true → codec_representation f codec sizes type fill ≡ Ok r → Holds type (flen raw) chunk → length chunk ≡ product sizes
    → codec_value f codec sizes type fill chunk ≡ Ok raw.items
codec_kept {B} f codec sizes type fill r raw chunk h e holds long =
    let o = kept_codec codec type h in
    ap (λ (x : PlainCodec B). codec_value f x sizes type fill chunk) o.1
    ∙ bytes_written f o.0 sizes type fill r raw chunk o.2 (ap (λ (x : PlainCodec B). codec_representation f x sizes type fill) (sym o.1) ∙ e) holds long

-- ---- a chain that hands on bytes

-- what its array-to-array codecs do
map_there : {B : Type 0} (f : BytesCodecs B) (chain : CodecChain B) (sizes : List ℕ) (type : ElementType) (fill : List ℕ) (k : KeepsInner f chain sizes type fill) (m : CoordinateMap) → arrays_map type (plain_chain chain).array_to_array sizes ≡ Ok m → IsCoordinateMap sizes m
map_there f chain sizes type fill k m e = at_ok (arrays_map type (plain_chain chain).array_to_array sizes) (λ (x : CoordinateMap). IsCoordinateMap sizes x) m e k.maps

chain_takes : {B : Type 0} (f : BytesCodecs B) (chain : CodecChain B) (sizes : List ℕ) (type : ElementType) (fill : List ℕ) → KeepsInner f chain sizes type fill → Takes sizes type
chain_takes f chain sizes type fill k =
    let c = plain_chain chain in
    let form = ok_of (taken_form f c sizes type fill) k.taken in
    let t = is_taken f c sizes type fill form.0 form.1 in
    let takes = codec_takes f c.array_to_bytes t.map_is.encoded type fill form.0.1 k.keeps.codec t.measured in
    (takes.0, subst (λ (n : ℕ). n * place_size type < 2 ^ 64) (map_there f chain sizes type fill k t.map_is t.mapped).count takes.1)

chain_kept : {B : Type 0} (f : BytesCodecs B) (chain : CodecChain B) (sizes : List ℕ) (type : ElementType) (fill : List ℕ) (raw : Raw) (chunk : Chunk) → KeepsInner f chain sizes type fill → Holds type (flen raw) chunk → length chunk ≡ product sizes
    → chain_value f (plain_chain chain) sizes type fill chunk ≡ in_memory raw.items
chain_kept f chain sizes type fill raw chunk k holds long =
    let c = plain_chain chain in
    let form = ok_of (taken_form f c sizes type fill) k.taken in
    let t = is_taken f c sizes type fill form.0 form.1 in
    let is = map_there f chain sizes type fill k t.map_is t.mapped in
    let fits : sizes_fit type (product sizes) ≡ Ok tt = validity_fits type (product sizes) (flen raw) (subst (λ (n : ℕ). validity type n (flen raw) ≡ Ok tt) long holds.valid) in
    let whole = moved_nowhere sizes t.map_is chunk is long (λ place. all_stay type c.array_to_array sizes t.map_is place k.keeps.arrays t.mapped) in
    let value = codec_kept f c.array_to_bytes t.map_is.encoded type fill form.0.1 raw chunk k.keeps.codec t.measured holds (long ∙ sym is.count) in
    rw (t.mapped, t.measured, fits)
    (ap (λ (x : Chunk). codec_value f c.array_to_bytes t.map_is.encoded type fill x >>= (λ below. outer_value f c.bytes_to_bytes below)) whole
    ∙ next_answer (codec_value f c.array_to_bytes t.map_is.encoded type fill chunk) raw.items (λ below. outer_value f c.bytes_to_bytes below) value
    ∙ ap (λ outer. outer_value f outer raw.items) k.keeps.outer)

-- elements that it takes are of one size
pub never_other : {B : Type 0} (f : BytesCodecs B) (chain : CodecChain B) (sizes : List ℕ) (type : ElementType) (fill : List ℕ) (count : ℕ) (held : Held) (cause : CodecError) → KeepsInner f chain sizes type fill → validity type count held ≡ Ok tt → ◌≡◌ {A = Result (List ℕ) CodecError} (Err cause) (fixed_items held) → ⊥
never_other f chain sizes type fill count held cause k valid e = by type held (chain_takes f chain sizes type fill k).0 (both_ok _ _ valid).1 e
  where
    by : (t : ElementType) (held : Held) → is_some (fixed_size_of t) ≡ true → levels_fit InvalidBytesLength t count held ≡ Ok tt → ◌≡◌ {A = Result (List ℕ) CodecError} (Err cause) (fixed_items held) → ⊥
    by (fixed width components sign) (flen raw) h fit e = cc
    by (fixed width components sign) (vlen raw offsets) h fit e = ok_no_err tt ArrayBytesKind (sym fit)
    by (fixed width components sign) (masked inner mask) h fit e = ok_no_err tt ArrayBytesKind (sym fit)
    by text held h fit e = false≢true h
    by bytes held h fit e = false≢true h
    by (optional t) held h fit e = false≢true h

part_so : (left : Bool) (part : List ℕ) → inner_value left (ok part) ≡ ok (if left then None else Some part)
part_so true part = refl
part_so false part = refl

-- what it writes of the inner chunk at places
pub kept_written : {B : Type 0} (f : BytesCodecs B) (chain : CodecChain B) (shape sizes : List ℕ) (type : ElementType) (fill : List ℕ) (held : Held) (items places : List ℕ) → KeepsInner f chain shape type fill → fill_fits type fill ≡ true → ok items ≡ fixed_items held → validity type (product sizes) held ≡ Ok tt
    → All (λ place. place < product sizes) places → length places ≡ product shape
    → inner_part f chain shape type fill (select (elements type (product sizes) held) places) ≡ Ok (kept_part fill items places)
kept_written f chain shape sizes type fill held items places k fits parts valid inside long =
    let m = fixed_so held items parts in
    ap (λ (h : Held). inner_part f chain shape type fill (select (elements type (product sizes) h) places)) m.1
    ∙ by type k fits m.0 m.2 (subst (λ (h : Held). validity type (product sizes) h ≡ Ok tt) m.1 valid)
  where
    by : (t : ElementType) → KeepsInner f chain shape t fill → fill_fits t fill ≡ true → (raw : Raw) → items ≡ raw.items → validity t (product sizes) (flen raw) ≡ Ok tt → inner_part f chain shape t fill (select (elements t (product sizes) (flen raw)) places) ≡ Ok (kept_part fill items places)
    by (fixed width components sign) k fits raw e valid =
        let t : ElementType = fixed width components sign in
        let codec = (plain_chain chain).array_to_bytes in
        let size = element_size width components in
        let same : length fill ≡ size = eqb-true (length fill) size fits in
        let part = pieces_at size raw.items places in
        let chunk = select (elements t (product sizes) (flen raw)) places in
        let fit = (both_ok _ _ valid).1 in
        let small = (chain_takes f chain shape t fill k).1 in
        let counted : length places * size ≡ product shape * size = ap (λ n. n * size) long in
        let room : sizes_fit t (length places) ≡ Ok tt = rw (lt_test (length places * size) (2 ^ 64) (omega (arith, counted, small))) refl in
        let holds : Holds t (flen (owned_bytes part)) chunk = extracted_holds t (product sizes) (flen raw) places fit inside room in
        let count : length chunk ≡ length places = length-map places (λ place. get_or (elements t (product sizes) (flen raw)) place absent) in
        let bytes_long : length raw.items ≡ product sizes * size = fixed_fits InvalidBytesLength t (product sizes) raw size fit refl in
        let whole : All (EndsInside size (length raw.items)) places = λ i d l. let r = row_fits (get_or places i d) size (product sizes) size (inside i d l) (omega arith) in omega (arith, r, bytes_long) in
        let told : is_left_out (codec_normal_element codec) t fill chunk ≡ are_item fill items places =
        same_left_out codec t fill chunk (kept_all codec t k.keeps.codec)
        ∙ fixed_tested width components sign fill (owned_bytes part) chunk holds
        ∙ ap (λ n. list_all (is_item fill) (pieces size n part)) count
        ∙ ap (list_all (is_item fill)) (gathered_pieces size raw.items places whole)
        ∙ list_all-map (is_item fill) (piece size raw.items) places
        ∙ (λ i. list_all (λ place. pointwise nat_eq (piece (sym same i) (sym e i) place) fill) places) in
        let gathered = gathered_long size raw.items places whole in
        let value : chain_value f (plain_chain chain) shape t fill chunk ≡ ok (pieces_at (length fill) items places) =
        chain_kept f chain shape t fill (owned_bytes part) chunk k holds (count ∙ long)
        ∙ rw (lt_test (length part) (2 ^ 64) (omega (arith, gathered, counted, small))) refl
        ∙ (λ i. ok (pieces_at (sym same i) (sym e i) places)) in
        (λ i. inner_value (told i) (value i)) ∙ part_so (are_item fill items places) (pieces_at (length fill) items places)
    by text k fits raw e valid = absurd (ok_no_err tt ArrayBytesKind (sym (both_ok _ _ valid).1))
    by bytes k fits raw e valid = absurd (ok_no_err tt ArrayBytesKind (sym (both_ok _ _ valid).1))
    by (optional t) k fits raw e valid = absurd (ok_no_err tt ArrayBytesKind (sym (both_ok _ _ valid).1))

-- the elements' bytes are as many as those of so many fill elements
pub bytes_long : (type : ElementType) (fill : List ℕ) (count : ℕ) (held : Held) (items : List ℕ) → fill_fits type fill ≡ true → ok items ≡ fixed_items held → validity type count held ≡ Ok tt → length items ≡ count * length fill
bytes_long type fill count held items fits parts valid =
    let m = fixed_so held items parts in
    ap length m.2 ∙ by type fits m.0 (subst (λ (h : Held). validity type count h ≡ Ok tt) m.1 valid)
  where
    by : (t : ElementType) → fill_fits t fill ≡ true → (raw : Raw) → validity t count (flen raw) ≡ Ok tt → length raw.items ≡ count * length fill
    by (fixed width components sign) fits raw valid =
        let size = element_size width components in
        fixed_fits InvalidBytesLength (fixed width components sign) count raw size (both_ok _ _ valid).1 refl ∙ ap (λ n. count * n) (sym (eqb-true (length fill) size fits))
    by text fits raw valid = absurd (ok_no_err tt ArrayBytesKind (sym (both_ok _ _ valid).1))
    by bytes fits raw valid = absurd (ok_no_err tt ArrayBytesKind (sym (both_ok _ _ valid).1))
    by (optional t) fits raw valid = absurd (ok_no_err tt ArrayBytesKind (sym (both_ok _ _ valid).1))
