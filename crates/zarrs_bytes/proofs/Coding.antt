-- What the codec computes is what its definitions state.
use Rattle.zarrs_data_type.specs.Form.{form_of}
use Rattle.std.proofs.Common.{◌≡◌, ℕ, ◌*◌, ◌<◌, ◌^◌, ◌==◌, ◌&&◌, Bool, true, false, nat_lt, cond, not, Option, Some, None, Result, Ok, Err, List, length, map, arith, refl, ap, sym, ◌∙◌, subst}
use Rattle.std.specs.List.{range_with_len}
use Rattle.std.specs.Prelude.{IsOk, IsOkAnd, is_some}
use Rattle.std.proofs.lemmas.Bool.Decides.{nat_tests}
use Rattle.zarrs_chunk.specs.Answer.{◌>>=◌, demand, checked_u64, seen}
use Rattle.zarrs_chunk.specs.ChunkShape.{product}
use Rattle.zarrs_chunk.specs.declared.codec_error.CodecError.{CodecError}
use Rattle.zarrs_chunk.specs.declared.codec_error.CodecError.TheVariants.{InvalidFillValue, EndiannessMissing, InvalidBytesLength, Overflow}
use Rattle.zarrs_data_type.specs.Element.{plain}
use Rattle.zarrs_data_type.specs.ElementType.{ElementType, fixed, text, bytes, optional, element_size}
use Rattle.zarrs_data_type.specs.FillValue.{fill_fits}
use Rattle.zarrs_data_type.specs.declared.endianness.Endianness.{Endianness}
use Rattle.zarrs_array_bytes.specs.Elements.{elements}
use Rattle.zarrs_array_bytes.specs.Held.{Held, Raw, flen, vlen, masked}
use Rattle.zarrs_array_bytes.specs.Parts.{fixed_part}
use Rattle.zarrs_array_bytes.specs.Validity.{Holds, validity}
use Rattle.zarrs_array_bytes.specs.Pieces.{pieces}
use Rattle.zarrs_array_bytes.proofs.Pieces.{pieces_sized, elements-pieces, read_pieces}
use Rattle.zarrs_array_bytes.specs.Turned.{turned_bytes}
use Rattle.zarrs_bytes.specs.ByteOrder.{bytes_in_order, has_order, spelled_chunk}
use Rattle.zarrs_bytes.specs.BytesCodec.{bytes_length, bytes_value, bytes_chunk, bytes_element, turn_size, needs_memory}
use Rattle.zarrs_bytes.proofs.Spelled.{length-turned_bytes, turned_is, spelled_chunk-plain, Holds-pieces}

-- ---- steps

pub bind_ok : {A B : Type 0} (r : Result A CodecError) (f : A → Result B CodecError) (y : B) → (r >>= f) ≡ Ok y → (x : A) × (r ≡ Ok x) × (f x ≡ Ok y)
bind_ok (Ok x) f y e = (x, refl, e)
bind_ok (Err d) f y e = absurd cc

abbrev pub ok : {A : Type 0} → A → Result A CodecError
ok x = Ok x

pub demand_ok : (test : Bool) (cause : CodecError) (x : Unit {0}) → demand test cause ≡ Ok x → test ≡ true
demand_ok true cause x e = refl
demand_ok false cause x e = absurd cc

checked_test : (test : Bool) (n m : ℕ) → (cond test (ok n) (Err Overflow)) ≡ ok m → (test ≡ true) × (m ≡ n)
checked_test true n m e = (refl, cc)
checked_test false n m e = absurd cc

pub checked_ok : (n m : ℕ) → checked_u64 n ≡ Ok m → (n < 2 ^ 64) × (m ≡ n)
checked_ok n m e = let t = checked_test (nat_lt n (2 ^ 64)) n m e in (grind (arith, nat_tests, t.0), t.1)

-- ---- a chunk that the codec accepts

pub record IsTaken (order : Option Endianness) (sizes : List ℕ) (width components : ℕ) (sign : Bool) (fill : List ℕ) (len : ℕ) : Type 0 where
  pub len_is : len ≡ product sizes * element_size width components
  pub small : len < 2 ^ 64
  pub countable : product sizes < 2 ^ 64
  pub filled : fill_fits (fixed width components sign) fill ≡ true
  pub order_is : has_order order width ≡ true

pub number_is : (n m : ℕ) → ok n ≡ ok m → n ≡ m
number_is n m e = cc

pub taken : (order : Option Endianness) (sizes : List ℕ) (width components : ℕ) (sign : Bool) (fill : List ℕ) (len : ℕ) → bytes_length order (form_of sizes (fixed width components sign) fill) ≡ Ok len → IsTaken order sizes width components sign fill len
taken order sizes width components sign fill len e =
    let a = bind_ok (demand (fill_fits (fixed width components sign) fill) InvalidFillValue) _ len e in
    let b = bind_ok (checked_u64 (product sizes)) _ len a.2 in
    let c = bind_ok (checked_u64 (b.0 * element_size width components)) _ len b.2 in
    let d = bind_ok (demand (has_order order width) EndiannessMissing) _ len c.2 in
    let count = checked_ok (product sizes) b.0 b.1 in
    let long = checked_ok (b.0 * element_size width components) c.0 c.1 in
    let same : c.0 ≡ len = number_is c.0 len d.2 in
    record {
      len_is = omega (arith, same, long.1, ap (λ n. n * element_size width components) count.1);
      small = omega (arith, same, long.1, long.0);
      countable = count.0;
      filled = demand_ok (fill_fits (fixed width components sign) fill) InvalidFillValue a.0 a.1;
      order_is = demand_ok (has_order order width) EndiannessMissing d.0 d.1;
    }

-- ---- encoding

pub two_steps : {A B C : Type 0} (r : Result A CodecError) (s : Result B CodecError) (x : A) (y : B) (z : C) → r ≡ Ok x → s ≡ Ok y → (r >>= λ _. s >>= λ _. Ok z) ≡ ok z
two_steps (Ok a) (Ok b) x y z e f = refl
two_steps (Ok a) (Err d) x y z e f = absurd cc
two_steps (Err d) s x y z e f = absurd cc

pub part_is : (r s : Raw) → ok r ≡ ok s → r ≡ s
part_is r s e = cc

fixed_encoded : (order : Option Endianness) (sizes : List ℕ) (width components : ℕ) (sign : Bool) (fill : List ℕ) (raw : Raw) (len : ℕ) → bytes_length order (form_of sizes (fixed width components sign) fill) ≡ Ok len → validity (fixed width components sign) (product sizes) (flen raw) ≡ Ok tt
    → bytes_value order (form_of sizes (fixed width components sign) fill) (flen raw) ≡ Ok (turned_bytes (turn_size order (fixed width components sign)) raw.items)
fixed_encoded order sizes width components sign fill raw len e valid =
    let n = product sizes in
    let a = bind_ok (demand (nat_lt (n * element_size width components) (2 ^ 64)) Overflow) _ tt valid in
    let long = demand_ok (length raw.items == n * element_size width components) (InvalidBytesLength (length raw.items) (n * element_size width components)) tt a.2 in
    let is : length raw.items ≡ n * element_size width components = grind (arith, nat_tests) in
    let same : spelled_chunk order width components (elements (fixed width components sign) n (flen raw)) ≡ turned_bytes (turn_size order (fixed width components sign)) raw.items
    = ap (spelled_chunk order width components) (elements-pieces width components sign n raw)
    ∙ spelled_chunk-plain order width components (pieces (element_size width components) n raw.items)
    ∙ sym (turned_is order width components sign n raw.items is) in
    two_steps (bytes_length order (form_of sizes (fixed width components sign) fill)) (validity (fixed width components sign) n (flen raw)) len tt (spelled_chunk order width components (elements (fixed width components sign) n (flen raw))) e valid
    ∙ ap ok same

-- what is made of a container that fits is its chunk's value
pub encoded_is : (order : Option Endianness) (sizes : List ℕ) (type : ElementType) (fill : List ℕ) (held : Held) (raw : Raw) (len : ℕ) → bytes_length order (form_of sizes type fill) ≡ Ok len → validity type (product sizes) held ≡ Ok tt → fixed_part held ≡ Ok raw
    → bytes_value order (form_of sizes type fill) held ≡ Ok (turned_bytes (turn_size order type) raw.items)
encoded_is order sizes (fixed width components sign) fill (flen own) raw len e valid part =
    fixed_encoded order sizes width components sign fill own len e valid ∙ ap (λ (r : Raw). ok (turned_bytes (turn_size order (fixed width components sign)) r.items)) (part_is own raw part)
encoded_is order sizes (fixed width components sign) fill (vlen own offsets) raw len e valid part = absurd cc
encoded_is order sizes (fixed width components sign) fill (masked inner mask) raw len e valid part = absurd cc
encoded_is order sizes text fill held raw len e valid part = absurd cc
encoded_is order sizes bytes fill held raw len e valid part = absurd cc
encoded_is order sizes (optional type) fill held raw len e valid part = absurd cc

-- ---- decoding

found_chunk : {A : Type 0} (r : Result ℕ CodecError) (test : ℕ → Bool) (cause : ℕ → CodecError) (chunk : A) (P : A → Type 0) (len : ℕ) → r ≡ Ok len → test len ≡ true → P chunk → IsOkAnd (r >>= λ n. demand (test n) (cause n) >>= λ _. ok chunk) P
found_chunk (Ok n) test cause chunk P len e t p =
    let same : n ≡ len = number_is n len e in
    let passed : test n ≡ true = ap test same ∙ t in
    rw passed p
found_chunk (Err d) test cause chunk P len e t p = absurd cc

-- what is made of a value of the right length is its chunk
pub decoded_holds : (order : Option Endianness) (sizes : List ℕ) (type : ElementType) (fill value : List ℕ) (raw : Raw) (len : ℕ) → bytes_length order (form_of sizes type fill) ≡ Ok len → length value ≡ len → raw.items ≡ turned_bytes (turn_size order type) value
    → IsOkAnd (bytes_chunk order (form_of sizes type fill) value) (Holds type (flen raw))
decoded_holds order sizes (fixed width components sign) fill value raw len e long is =
    let t = taken order sizes width components sign fill len e in
    let n = product sizes in
    let size = element_size width components in
    let whole : length value ≡ n * size = long ∙ t.len_is in
    let parts = pieces size n value in
    let sized = pieces_sized size n value (omega (arith, whole)) in
    let turned_so = is ∙ turned_is order width components sign n value whole in
    let small : length raw.items < 2 ^ 64 = omega (arith, t.small, long, ap length is, length-turned_bytes (turn_size order (fixed width components sign)) value) in
    let holds = Holds-pieces order width components sign raw parts sized turned_so small in
    let read = read_pieces (λ piece. plain (bytes_in_order order width components piece)) size n value in
    let passed : (length value == len) ≡ true = grind (arith, nat_tests) in
    found_chunk (bytes_length order (form_of sizes (fixed width components sign) fill)) (λ l. length value == l) (λ l. InvalidBytesLength (length value) l) (map (bytes_element order (fixed width components sign) value) (range_with_len 0 n)) (Holds (fixed width components sign) (flen raw)) len e passed
    (subst (Holds (fixed width components sign) (flen raw)) (sym read) holds)
decoded_holds order sizes text fill value raw len e long is = absurd cc
decoded_holds order sizes bytes fill value raw len e long is = absurd cc
decoded_holds order sizes (optional type) fill value raw len e long is = absurd cc

-- ---- bytes that stay in their place

spared_by : (size : Option ℕ) (own : Bool) (P : Type 0) → (is_some size && not own) ≡ false → (size ≡ None → P) → (own ≡ true → P) → P
spared_by None own P h f g = f refl
spared_by (Some n) true P h f g = g refl
spared_by (Some n) false P h f g = absurd cc

-- no memory is needed where nothing is turned, or where the bytes are owned
pub spared : (order : Option Endianness) (type : ElementType) (held : Held) (raw : Raw) (P : Type 0) → needs_memory order type held ≡ false → fixed_part held ≡ Ok raw → (turn_size order type ≡ None → P) → (raw.is_owned ≡ true → P) → P
spared order type (flen own) raw P h part f g = spared_by (turn_size order type) own.is_owned P h f (λ e. g (ap (λ (r : Raw). r.is_owned) (sym (part_is own raw part)) ∙ e))
spared order type (vlen own offsets) raw P h part f g = absurd cc
spared order type (masked inner mask) raw P h part f g = absurd cc

pub ok_from_seen : {T V : Type 0} (view : T → V) (r : Result T CodecError) (v : V) → seen view r ≡ ok v → IsOk r
ok_from_seen view (Ok x) v h = refl
ok_from_seen view (Err e) v h = absurd cc
