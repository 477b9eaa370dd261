-- Where all bits of whole bytes are kept, the answers are those of the codec `bytes` in little order.
use Rattle.zarrs_data_type.specs.Form.{form_of}
use Rattle.std.proofs.Common.{◌≡◌, ℕ, zero, suc, ◌+◌, ◌*◌, ◌<◌, ◌==◌, Bool, true, false, Some, Result, Ok, Err, List, [], ◌∷◌, ◌++◌, length, map, get_or, arith, refl, ap, sym, ◌∙◌, subst}
use Rattle.std.specs.List.{All, concat}
use Rattle.std.specs.Prelude.{IfOk, IsOkAnd}
use Rattle.std.proofs.lemmas.Bool.Decides.{nat_tests}
use Rattle.std.proofs.lemmas.List.Elements.{All-cons, All-nil}
use Rattle.std.proofs.lemmas.List.{get_or_append_left, get_or-append-add}
use Rattle.zarrs_chunk.specs.Answer.{◌>>=◌, demand, seen, Answers, AnswersBy, never}
use Rattle.zarrs_chunk.specs.ChunkShape.{product}
use Rattle.zarrs_chunk.specs.declared.codec_error.CodecError.{CodecError}
use Rattle.zarrs_chunk.specs.declared.codec_error.CodecError.TheVariants.{InvalidBytesLength, PaddingByte}
use Rattle.zarrs_data_type.specs.Element.{plain, Chunk}
use Rattle.zarrs_data_type.specs.ElementType.{ElementType, fixed, text, bytes, optional, element_size}
use Rattle.zarrs_data_type.specs.declared.endianness.Endianness.TheVariants.{Little}
use Rattle.zarrs_array_bytes.specs.Elements.{elements}
use Rattle.zarrs_array_bytes.specs.Held.{Held, Raw, flen, vlen, masked}
use Rattle.zarrs_array_bytes.specs.Validity.{Holds, validity}
use Rattle.zarrs_bytes.specs.BytesCodec.{bytes_length, bytes_value, bytes_chunk, needs_memory, spelling}
use Rattle.zarrs_bytes.proofs.Coding.{ok}
use Rattle.zarrs_bytes.proofs.Exact.{encoded_found, pieces_of}
use Rattle.zarrs_packbits.specs.BitStream.{chunk_stream}
use Rattle.zarrs_packbits.specs.declared.layout.PackedLayout.{PackedLayout}
use Rattle.zarrs_packbits.specs.Laws.{HasBytes}
use Rattle.zarrs_packbits.specs.PackBitsCodec.{packbits_value, packbits_chunk}
use Rattle.zarrs_packbits.specs.PackBitsSettings.{PackBitsSettings, packed_layout, keeps_all_bytes}
use Rattle.zarrs_packbits.specs.PackedLayout.{is_whole, layout_components, spare_of}
use Rattle.zarrs_packbits.specs.PaddingByte.{value_len, padding_holds, padding_is, value_with}
use Rattle.zarrs_packbits.proofs.AsBytes.{layout_kept, length_fits, spelling_is, written_as_bytes}
use Rattle.zarrs_packbits.proofs.Coding.{decoded_holds}
use Rattle.zarrs_packbits.proofs.Exact.{encoded_only, joined, joined_plain}
use Rattle.zarrs_packbits.proofs.LayoutLemmas.{whole_len, whole_unpacked}
use Rattle.zarrs_packbits.proofs.Taken.{taken}

-- little order turns no byte round
pub little_stays : (type : ElementType) (held : Held) → needs_memory (Some Little) type held ≡ false
little_stays type (flen raw) = refl
little_stays type (vlen raw offsets) = refl
little_stays type (masked inner mask) = refl

-- ---- encoding

small_first : (xs ys : List ℕ) → ((i : ℕ) → get_or (xs ++ ys) i 0 < 256) → All (λ byte. byte < 256) xs
small_first xs ys h k d l = rw (get_or_at xs k d l, ← get_or_append_left xs ys 0 k l) (h k)
  where
    get_or_at : (xs : List ℕ) (k d : ℕ) → k < length xs → get_or xs k d ≡ get_or xs k 0
    get_or_at [] k d h = absurd (omega arith)
    get_or_at (x ∷ xs) zero d h = refl
    get_or_at (x ∷ xs) (suc k) d h = get_or_at xs k d (omega arith)

small_second : (xs ys : List ℕ) → ((i : ℕ) → get_or (xs ++ ys) i 0 < 256) → (i : ℕ) → get_or ys i 0 < 256
small_second xs ys h i = rw (← get_or-append-add xs ys i 0) (h (length xs + i))

have_bytes : (parts : List (List ℕ)) → ((i : ℕ) → get_or (concat parts) i 0 < 256) → All HasBytes (map plain parts)
have_bytes [] h = All-nil HasBytes
have_bytes (part ∷ parts) h =
    All-cons HasBytes (plain part) (map plain parts) (small_first part (concat parts) h) (have_bytes parts (small_second part (concat parts) h))

-- what `bytes` writes of a container
pub whole_value : (settings : PackBitsSettings) (sizes : List ℕ) (type : ElementType) (fill value : List ℕ) (held : Held) → keeps_all_bytes (packed_layout settings (form_of sizes type fill)) ≡ true → bytes_value (Some Little) (form_of sizes type fill) held ≡ Ok value → ((i : ℕ) → get_or value i 0 < 256)
    → packbits_value settings (form_of sizes type fill) held ≡ Ok value
whole_value settings sizes (fixed width components sign) fill value held keeps e small =
    let type = fixed width components sign in
    let f = encoded_found (Some Little) sizes type fill value held e in
    let chunk = f.0 in
    let written = f.2 in
    let p = pieces_of width components sign chunk written.elements.each in
    let flat : value ≡ concat p.parts = written.value_is ∙ spelling_is width components sign chunk ∙ ap joined p.are ∙ joined_plain p.parts in
    let each : All HasBytes chunk = subst (λ (c : Chunk). All HasBytes c) (sym p.are) (have_bytes p.parts (subst (λ (b : List ℕ). (i : ℕ) → get_or b i 0 < 256) flat small)) in
    encoded_only settings sizes type fill value held chunk f.1 ((written_as_bytes settings sizes type fill value chunk keeps each).1 written)
whole_value settings sizes text fill value held keeps e small = absurd cc
whole_value settings sizes bytes fill value held keeps e small = absurd cc
whole_value settings sizes (optional type) fill value held keeps e small = absurd cc

second_refused : {A B C D : Type 0} (r : Result A CodecError) (q : Result B CodecError) (s : Result D CodecError) (f : A → C) (y : List ℕ) (x : A) (len : B) (cause : CodecError) → r ≡ Ok x → q ≡ Ok len → (q >>= λ _. s >>= λ _. ok y) ≡ Err cause → (r >>= λ a. s >>= λ _. Ok (f a)) ≡ Err cause
second_refused (Ok a) (Ok b) (Ok d) f y x len cause e g h = absurd cc
second_refused (Ok a) (Ok b) (Err d) f y x len cause e g h = cc
second_refused (Ok a) (Err b) s f y x len cause e g h = absurd cc
second_refused (Err d) q s f y x len cause e g h = absurd cc

-- what it fails to write
pub whole_refused : (settings : PackBitsSettings) (sizes : List ℕ) (type : ElementType) (fill : List ℕ) (held : Held) (cause : CodecError) → keeps_all_bytes (packed_layout settings (form_of sizes type fill)) ≡ true → bytes_value (Some Little) (form_of sizes type fill) held ≡ Err cause → packbits_value settings (form_of sizes type fill) held ≡ Err cause
whole_refused settings sizes (fixed width components sign) fill held cause keeps e =
    let type = fixed width components sign in
    let n = product sizes in
    let whole = layout_kept (packed_layout settings (form_of sizes type fill)) keeps in
    second_refused (packed_layout settings (form_of sizes type fill)) (bytes_length (Some Little) (form_of sizes type fill)) (validity type n held) (λ k. value_with k (chunk_stream k (elements type n held))) (spelling (Some Little) type (elements type n held)) whole.0 (n * element_size width components) cause whole.1
    (length_fits settings sizes width components sign fill whole.0 whole.1) e
whole_refused settings sizes text fill held cause keeps e = absurd cc
whole_refused settings sizes bytes fill held cause keeps e = absurd cc
whole_refused settings sizes (optional type) fill held cause keeps e = absurd cc

-- ---- decoding

-- how long a value is
whole_length : (settings : PackBitsSettings) (sizes : List ℕ) (width components : ℕ) (sign : Bool) (fill : List ℕ) (l : PackedLayout) → packed_layout settings (form_of sizes (fixed width components sign) fill) ≡ Ok l → is_whole l ≡ true → product sizes * element_size width components ≡ value_len l
whole_length settings sizes width components sign fill l e whole =
    let t = taken settings sizes width components sign fill l e in
    ap (λ k. product sizes * k) t.size ∙ ap (λ n. n * (l.group * l.size)) (sym t.elements)
    ∙ (let d : l.elements * (l.group * l.size) ≡ layout_components l * l.size = omega arith in d) ∙ sym (whole_len l t.sound whole)

by_length : {A : Type 0} (q : Result ℕ CodecError) (n : ℕ) (f : A) (len : ℕ) (P : A → Type 0) → q ≡ Ok len → IsOkAnd (q >>= λ m. demand (n == m) (InvalidBytesLength n m) >>= λ _. Ok f) P → n ≡ len
by_length q n f len P e h = from_test (n == len) refl (subst (λ (r : Result ℕ CodecError). IsOkAnd (r >>= λ m. demand (n == m) (InvalidBytesLength n m) >>= λ _. ok f) P) e h)
  where
    from_test : (b : Bool) → (n == len) ≡ b → IsOkAnd (demand (n == len) (InvalidBytesLength n len) >>= λ _. ok f) P → n ≡ len
    from_test true t g = grind (arith, nat_tests)
    from_test false t g = absurd (rw t at g)

-- what `bytes` reads of a value
pub whole_chunk : (settings : PackBitsSettings) (sizes : List ℕ) (type : ElementType) (fill value : List ℕ) (raw : Raw) → keeps_all_bytes (packed_layout settings (form_of sizes type fill)) ≡ true → IsOkAnd (bytes_chunk (Some Little) (form_of sizes type fill) value) (Holds type (flen raw)) → raw.items ≡ value → ((i : ℕ) → get_or value i 0 < 256)
    → IsOkAnd (packbits_chunk settings (form_of sizes type fill) value) (Holds type (flen raw))
whole_chunk settings sizes (fixed width components sign) fill value raw keeps h is small =
    let type = fixed width components sign in
    let whole = layout_kept (packed_layout settings (form_of sizes type fill)) keeps in
    let l = whole.0 in
    let t = taken settings sizes width components sign fill l whole.1 in
    let long : length value ≡ value_len l = by_length (bytes_length (Some Little) (form_of sizes type fill)) (length value) _ (product sizes * element_size width components) (Holds type (flen raw)) (length_fits settings sizes width components sign fill l whole.1) h ∙ whole_length settings sizes width components sign fill l whole.1 whole.2 in
    let pad : padding_holds l value ≡ true = ap (λ p. padding_is p (spare_of l) value) (t.sound.bare whole.2) in
    decoded_holds settings sizes type fill value raw l whole.1 long pad (is ∙ sym (whole_unpacked l value t.sound whole.2 long small))
whole_chunk settings sizes text fill value raw keeps h is small = absurd cc
whole_chunk settings sizes bytes fill value raw keeps h is small = absurd cc
whole_chunk settings sizes (optional type) fill value raw keeps h is small = absurd cc

length_refused : {A B : Type 0} (q : Result ℕ CodecError) (r : Result PackedLayout CodecError) (n len : ℕ) (x : A) (test : PackedLayout → Bool) (f : PackedLayout → B) (l : PackedLayout) (cause : CodecError) → q ≡ Ok len → r ≡ Ok l → len ≡ value_len l → (q >>= λ m. demand (n == m) (InvalidBytesLength n m) >>= λ _. ok x) ≡ Err cause
    → (r >>= λ k. demand (n == value_len k) (InvalidBytesLength n (value_len k)) >>= λ _. demand (test k) PaddingByte >>= λ _. Ok (f k)) ≡ Err cause
length_refused (Ok m) (Ok k) n len x test f l cause e g is h =
    let same : m ≡ value_len k = numbers m len e ∙ is ∙ ap value_len (sym (layouts k l g)) in
    at_length (value_len k) (n == value_len k) refl (subst (λ j. (demand (n == j) (InvalidBytesLength n j) >>= λ _. ok x) ≡ Err cause) same h)
  where
    numbers : (m len : ℕ) → ok m ≡ ok len → m ≡ len
    numbers m len e = cc

    layouts : (k l : PackedLayout) → ok k ≡ ok l → k ≡ l
    layouts k l e = cc

    at_length : (j : ℕ) (b : Bool) → (n == j) ≡ b → (demand (n == j) (InvalidBytesLength n j) >>= λ _. ok x) ≡ Err cause → (demand (n == j) (InvalidBytesLength n j) >>= λ _. demand (test k) PaddingByte >>= λ _. ok (f k)) ≡ Err cause
    at_length j true t h = absurd (let g = rw t at h in cc)
    at_length j false t h = let g = rw t at h in rw t cc
length_refused (Ok m) (Err d) n len x test f l cause e g is h = absurd cc
length_refused (Err d) r n len x test f l cause e g is h = absurd cc

-- what it fails to read
pub whole_refused_chunk : (settings : PackBitsSettings) (sizes : List ℕ) (type : ElementType) (fill value : List ℕ) (cause : CodecError) → keeps_all_bytes (packed_layout settings (form_of sizes type fill)) ≡ true → bytes_chunk (Some Little) (form_of sizes type fill) value ≡ Err cause → packbits_chunk settings (form_of sizes type fill) value ≡ Err cause
whole_refused_chunk settings sizes (fixed width components sign) fill value cause keeps e =
    let type = fixed width components sign in
    let whole = layout_kept (packed_layout settings (form_of sizes type fill)) keeps in
    let l = whole.0 in
    length_refused (bytes_length (Some Little) (form_of sizes type fill)) (packed_layout settings (form_of sizes type fill)) (length value) (product sizes * element_size width components) _ (λ k. padding_holds k value) _ l cause
    (length_fits settings sizes width components sign fill l whole.1) whole.1 (whole_length settings sizes width components sign fill l whole.1 whole.2) e
whole_refused_chunk settings sizes text fill value cause keeps e = absurd cc
whole_refused_chunk settings sizes bytes fill value cause keeps e = absurd cc
whole_refused_chunk settings sizes (optional type) fill value cause keeps e = absurd cc

-- what `bytes` answers of a value
pub whole_answer : (settings : PackBitsSettings) (sizes : List ℕ) (type : ElementType) (fill value : List ℕ) (raw : Raw) (r : Result Held CodecError) → keeps_all_bytes (packed_layout settings (form_of sizes type fill)) ≡ true → AnswersBy never (Holds type) r (bytes_chunk (Some Little) (form_of sizes type fill) value) → IfOk r (λ held. held ≡ flen raw) → raw.items ≡ value → ((i : ℕ) → get_or value i 0 < 256)
    → AnswersBy never (Holds type) r (packbits_chunk settings (form_of sizes type fill) value)
whole_answer settings sizes type fill value raw (Ok held) keeps h k is small =
    subst (λ (held : Held). IsOkAnd (packbits_chunk settings (form_of sizes type fill) value) (Holds type held)) (sym k)
    (whole_chunk settings sizes type fill value raw keeps (subst (λ (held : Held). IsOkAnd (bytes_chunk (Some Little) (form_of sizes type fill) value) (Holds type held)) k h) is small)
whole_answer settings sizes type fill value raw (Err cause) keeps h k is small = λ _. whole_refused_chunk settings sizes type fill value cause keeps (h refl)

-- what is never excused holds whatever is excused
pub answers_excused : {T V : Type 0} (excuse : CodecError → Bool) (R : T → V → Type 0) (r : Result T CodecError) (expected : Result V CodecError) → AnswersBy never R r expected → AnswersBy excuse R r expected
answers_excused excuse R (Ok x) expected h = h
answers_excused excuse R (Err cause) expected h = λ _. h refl

-- an answer that is just the expected one
pub answers_seen : {T V : Type 0} (excuse : CodecError → Bool) (view : T → V) (r : Result T CodecError) (expected : Result V CodecError) → seen view r ≡ expected → Answers excuse view r expected
answers_seen excuse view (Ok x) expected h = sym h
answers_seen excuse view (Err cause) expected h = λ _. sym h
