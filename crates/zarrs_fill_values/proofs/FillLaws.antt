-- Fill values are shown and read again.
use Rattle.std.proofs.Common.{◌≡◌, ◌∙◌, ◌<◌, ℕ, zero, suc, ◌+◌, ◌-◌, ◌*◌, ◌/◌, Bool, true, false, cond, ◌&&◌, ◌||◌, ◌==◌, List, [], ◌∷◌, ◌++◌, Some, None, Option, length, take, drop, map, get_or, refl, ap, sym, subst, arith, eqb-true, eq-eqb, length-append, length-drop}
use Rattle.std.specs.Prelude.{nat_lt, option_map, option_and_then, slice_index, IsSome, Result, Ok, Err}
use Rattle.std.specs.Str.{bytes_eq, is_utf8}
use Rattle.std.proofs.lemmas.Bool.{and_parts, lt-ltb, ltb-true}
use Rattle.std.proofs.lemmas.List.{take-append-drop, take_more, take_all, take_at, get_or_at, append-nil, length-take-le, length_push}
use Rattle.std.proofs.lemmas.Slice.Eq.{bytes_eq-Decides}
use Rattle.base64.specs.Engines.{standard}
use Rattle.base64.specs.GeneralPurpose.{decoded_of, encode_of}
use Rattle.base64.proofs.RoundTrip.{decode-encode}
use Rattle.serde_json.specs.Data.{Data, unsigned, null, boolean, number, string, array, object, Items, no_items, item}
use Rattle.serde_json.specs.Find.{as_array, as_bool, as_number, as_str}
use Rattle.serde_json.specs.View.{items_of}
use native.Mathlib.Nat.{suc-mul, zero-mul, one-mul, mul-one}
use Rattle.zarrs_chunk.specs.Answer.{seen}
use Rattle.zarrs_data_type.specs.ElementType.{ElementType, fixed, text as text_type, bytes as bytes_type, optional}
use Rattle.zarrs_data_type.specs.FillValue.{is_null, ends_in_one, front_of, fill_fits}
use Rattle.zarrs_fill_values.specs.ElementName.{float_bits, integer_bits, is_signed, is_raw, plain_type, optional_round}
use Rattle.zarrs_fill_values.specs.FillValues.{truth_fill, json_bytes, bytes_fill, floats_in, item_count, complex_pair, text_fill, raw_fill, plain_fill, present, optional_fill, fill_in}
use Rattle.zarrs_fill_values.specs.Floats.{float_size, float_fill, float_shown}
use Rattle.zarrs_fill_values.specs.Integers.{integer_size, integer_fill}
use Rattle.zarrs_fill_values.specs.Laws.{ShownIsRead, ReadIsShown, ReadFits}
use Rattle.zarrs_fill_values.specs.Shown.{truth_shown, complex_shown, bytes_list, plain_shown, lone_list, optional_shown, shown_in}
use Rattle.zarrs_fill_values.specs.Words.{IsBytes, of_length}
use Rattle.zarrs_fill_values.specs.declared.element_error.ElementError.{ElementError}
use Rattle.zarrs_fill_values.specs.declared.element_error.ElementError.TheVariants.{UnsupportedDataType}
use Rattle.zarrs_fill_values.specs.declared.element_name.FloatName.{FloatName}
use Rattle.zarrs_fill_values.specs.declared.element_name.FloatName.TheVariants.{Float16, Bfloat16, Float32, Float64}
use Rattle.zarrs_fill_values.specs.declared.element_name.IntegerName.{IntegerName}
use Rattle.zarrs_fill_values.specs.declared.element_name.PlainName.{PlainName}
use Rattle.zarrs_fill_values.specs.declared.element_name.PlainName.TheVariants as plain
use Rattle.zarrs_fill_values.proofs.FloatLaws.{float-again, float-length}
use Rattle.zarrs_fill_values.proofs.IntegerLaws.{integer-again, integer-shown, integer-length}
use Rattle.zarrs_fill_values.proofs.Lengths.{of_length-found, of_length-is, of_length-mapped, IsBytes-take, IsBytes-drop}

-- ---- what is shown is read again

truth-again : (fill : List ℕ) (tree : Data) → truth_shown fill ≡ Some tree → option_map truth_fill (as_bool tree) ≡ Some fill
truth-again fill tree h = by_tests (bytes_eq fill (0 ∷ [])) (bytes_eq fill (1 ∷ [])) refl refl h
  where
    by_tests : (a b : Bool) → bytes_eq fill (0 ∷ []) ≡ a → bytes_eq fill (1 ∷ []) ≡ b → cond a (Some (boolean false)) (cond b (Some (boolean true)) None) ≡ Some tree
        → option_map truth_fill (as_bool tree) ≡ Some fill
    by_tests true b e f h =
        let is : fill ≡ 0 ∷ [] = (bytes_eq-Decides fill (0 ∷ [])).0 e in
        let shown : boolean false ≡ tree = cc in
        ap (λ t. option_map truth_fill (as_bool t)) (sym shown) ∙ ap Some (sym is)
    by_tests false true e f h =
        let is : fill ≡ 1 ∷ [] = (bytes_eq-Decides fill (1 ∷ [])).0 f in
        let shown : boolean true ≡ tree = cc in
        ap (λ t. option_map truth_fill (as_bool t)) (sym shown) ∙ ap Some (sym is)
    by_tests false false e f h = absurd (cc)

complex-again : (name : FloatName) (fill : List ℕ) → IsBytes fill → length fill ≡ 2 * float_size name → option_and_then (complex_pair name) (as_array (complex_shown name fill)) ≡ Some fill
complex-again name fill bytes is =
    let size = float_size name in
    let front = take size fill in
    let rest = drop size fill in
    let real : float_fill name (float_shown name front) ≡ Some front =
    float-again name front (IsBytes-take size fill bytes) (length-take-le size fill (omega (arith, is))) in
    let imaginary : float_fill name (float_shown name rest) ≡ Some rest =
    float-again name rest (IsBytes-drop size fill bytes) (omega (arith, length-drop size fill, is)) in
    let whole : front ++ (rest ++ []) ≡ fill = ap (λ r. front ++ r) (append-nil rest) ∙ take-append-drop size fill in
    ap (λ o. option_and_then (λ f. option_map (λ r. f ++ r) (option_and_then (λ g. option_map (λ r. g ++ r) (Some [])) (float_fill name (float_shown name rest)))) o) real
    ∙ ap (λ o. option_map (λ r. front ++ r) (option_and_then (λ g. option_map (λ r. g ++ r) (Some [])) o)) imaginary
    ∙ ap Some whole

bytes-again : (fill : List ℕ) → IsBytes fill → json_bytes (items_of (map (λ byte. number (unsigned byte)) fill)) ≡ Some fill
bytes-again [] h = refl
bytes-again (byte ∷ rest) h =
    let small : nat_lt byte 256 ≡ true = lt-ltb byte 256 (h zero) in
    ap (λ b. option_and_then (λ first. option_map (λ r. first ∷ r) (json_bytes (items_of (map (λ byte. number (unsigned byte)) rest)))) (cond b (Some byte) None)) small
    ∙ ap (λ o. option_map (λ r. byte ∷ r) o) (bytes-again rest (λ i. h (suc i)))

text-again : (fill : List ℕ) (tree : Data) → option_map string (text_fill fill) ≡ Some tree → option_and_then text_fill (as_str tree) ≡ Some fill
text-again fill tree h = by_test (is_utf8 fill) refl h
  where
    by_test : (b : Bool) → is_utf8 fill ≡ b → option_map string (cond b (Some fill) None) ≡ Some tree → option_and_then text_fill (as_str tree) ≡ Some fill
    by_test true e h = let shown : string fill ≡ tree = cc in ap (λ t. option_and_then text_fill (as_str t)) (sym shown) ∙ ap (λ b. cond b (Some fill) None) e
    by_test false e h = absurd (cc)

base64-again : (fill : List ℕ) → IsBytes fill → decoded_of standard (encode_of standard fill) ≡ Some fill
unfolding decoded_of
base64-again fill h =
    let again = decode-encode standard.encode_table standard.decode_table fill standard.padding.value false standard.config.decode_padding_mode true refl h refl in
    rw (again.0, again.1) refl

plain-again : (named : PlainName) (fill : List ℕ) (tree : Data) → IsBytes fill → plain_shown named fill ≡ Some tree → plain_fill named tree ≡ Some fill
plain-again plain.Bool fill tree h e = truth-again fill tree e
plain-again (plain.Integer integer) fill tree h e = integer-again integer fill tree h e
plain-again (plain.Float name) fill tree h e =
    let is = of_length-mapped (float_size name) fill (float_shown name) tree e in
    ap (float_fill name) (sym is.1) ∙ float-again name fill h is.0
plain-again (plain.Complex name) fill tree h e =
    let is = of_length-mapped (2 * float_size name) fill (complex_shown name) tree e in
    ap (λ t. option_and_then (complex_pair name) (as_array t)) (sym is.1) ∙ complex-again name fill h is.0
plain-again (plain.Raw bits) fill tree h e =
    let is = of_length-mapped (bits / 8) fill bytes_list tree e in
    ap (raw_fill bits) (sym is.1) ∙ ap (λ o. option_and_then (of_length (bits / 8)) o) (bytes-again fill h) ∙ of_length-found (bits / 8) fill is.0
plain-again plain.String fill tree h e = text-again fill tree e
plain-again plain.Bytes fill tree h e = let shown : string (encode_of standard fill) ≡ tree = cc in ap bytes_fill (sym shown) ∙ base64-again fill h

-- the byte 0 alone
null_is : (fill : List ℕ) → is_null fill ≡ true → fill ≡ 0 ∷ []
null_is [] h = absurd (cc)
null_is (byte ∷ []) h = ap (λ b. b ∷ []) (eqb-true byte 0 (and_parts (length (byte ∷ []) == 1) (byte == 0) h).1)
null_is (byte ∷ other ∷ rest) h =
    let e : length (byte ∷ other ∷ rest) ≡ 1 = eqb-true _ _ (and_parts (length (byte ∷ other ∷ rest) == 1) (byte == 0) h).0 in absurd (omega (arith, e))

-- all but the last byte, which is 1
one_is : (fill : List ℕ) → ends_in_one fill ≡ true → present (front_of fill) ≡ fill
one_is fill h =
    let parts = and_parts (nat_lt 0 (length fill)) (slice_index fill (length fill - 1) == 1) h in
    let some : 0 < length fill = ltb-true 0 (length fill) parts.0 in
    let last : get_or fill (length fill - 1) 0 ≡ 1 = eqb-true _ _ parts.1 in
    let back : length fill - 1 + 1 ≡ length fill = omega (arith, some) in
    ap (λ b. take (length fill - 1) fill ++ b ∷ []) (sym last)
    ∙ sym (take_more fill (length fill - 1) 0 (omega (arith, some)))
    ∙ ap (λ n. take n fill) back ∙ take_all (length fill) fill (omega arith)

optional-again : (inner_shown : List ℕ → Option Data) (inner : Data → Option (List ℕ)) → ((fill : List ℕ) (tree : Data) → IsBytes fill → inner_shown fill ≡ Some tree → inner tree ≡ Some fill)
    → (fill : List ℕ) (tree : Data) → IsBytes fill → optional_shown inner_shown fill ≡ Some tree → optional_fill inner tree ≡ Some fill
optional-again inner_shown inner again fill tree bytes h = by_tests (is_null fill) (ends_in_one fill) refl refl h
  where
    there : (o : Option Data) → inner_shown (front_of fill) ≡ o → option_map lone_list o ≡ Some tree → ends_in_one fill ≡ true → optional_fill inner tree ≡ Some fill
    there None e h one = absurd (cc)
    there (Some t) e h one =
        let shown : lone_list t ≡ tree = cc in
        ap (optional_fill inner) (sym shown)
        ∙ ap (option_map present) (again (front_of fill) t (IsBytes-take (length fill - 1) fill bytes) e)
        ∙ ap Some (one_is fill one)

    by_tests : (a b : Bool) → is_null fill ≡ a → ends_in_one fill ≡ b → cond a (Some null) (cond b (option_map lone_list (inner_shown (front_of fill))) None) ≡ Some tree
        → optional_fill inner tree ≡ Some fill
    by_tests true b e f h = let shown : null ≡ tree = cc in ap (optional_fill inner) (sym shown) ∙ ap Some (sym (null_is fill e))
    by_tests false true e f h = there (inner_shown (front_of fill)) refl h f
    by_tests false false e f h = absurd (cc)

fill-again : (levels : ℕ) (named : PlainName) (fill : List ℕ) (tree : Data) → IsBytes fill → shown_in levels named fill ≡ Some tree → fill_in levels named tree ≡ Some fill
fill-again zero named fill tree h e = plain-again named fill tree h e
fill-again (suc levels) named fill tree h e = optional-again (shown_in levels named) (fill_in levels named) (fill-again levels named) fill tree h e

pub shown_is_read : ShownIsRead
shown_is_read name fill tree h e = fill-again name.levels name.plain fill tree h e

-- ---- what is read is shown

some_of : {A B : Type 0} (f : A → B) (o : Option A) (x : A) → o ≡ Some x → IsSome (option_map f o)
some_of f o x h = rw h refl

sized_some : {B : Type 0} (size : ℕ) (fill : List ℕ) (f : List ℕ → B) → length fill ≡ size → IsSome (option_map f (of_length size fill))
sized_some size fill f h = some_of f (of_length size fill) fill (of_length-found size fill h)

read_with : {A B : Type 0} (f : A → Option B) (o : Option A) (y : B) → option_and_then f o ≡ Some y → (x : A) × (f x ≡ Some y)
read_with f None y h = absurd (cc)
read_with f (Some x) y h = (x, h)

truth-shown : (tree : Data) (fill : List ℕ) → option_map truth_fill (as_bool tree) ≡ Some fill → IsSome (truth_shown fill)
truth-shown tree fill h = by_truth (as_bool tree) h
  where
    by_truth : (o : Option Bool) → option_map truth_fill o ≡ Some fill → IsSome (truth_shown fill)
    by_truth None h = absurd (cc)
    by_truth (Some true) h = let e : truth_fill true ≡ fill = cc in subst (λ f. IsSome (truth_shown f)) e refl
    by_truth (Some false) h = let e : truth_fill false ≡ fill = cc in subst (λ f. IsSome (truth_shown f)) e refl

first_float : (name : FloatName) (count : ℕ) (first fill : List ℕ) (rest : Option (List ℕ)) → length first ≡ float_size name → ((more : List ℕ) → rest ≡ Some more → length more ≡ count * float_size name)
    → option_map (λ r. first ++ r) rest ≡ Some fill → length fill ≡ suc count * float_size name
first_float name count first fill None l each h = absurd (cc)
first_float name count first fill (Some rest) l each h =
    let whole : first ++ rest ≡ fill = cc in
    let more : length rest ≡ count * float_size name = each rest refl in
    let long : length (first ++ rest) ≡ length first + length rest = length-append first rest in
    let long_fill : length (first ++ rest) ≡ length fill = ap length whole in
    let product : suc count * float_size name ≡ count * float_size name + float_size name = suc-mul count (float_size name) in
    omega (arith, long, long_fill, l, more, product)

float_first : (name : FloatName) (count : ℕ) (tree : Data) (fill : List ℕ) (first rest : Option (List ℕ)) → ((it : List ℕ) → first ≡ Some it → length it ≡ float_size name) → ((more : List ℕ) → rest ≡ Some more → length more ≡ count * float_size name)
    → option_and_then (λ it. option_map (λ r. it ++ r) rest) first ≡ Some fill → length fill ≡ suc count * float_size name
float_first name count tree fill None rest one each h = absurd (cc)
float_first name count tree fill (Some it) rest one each h = first_float name count it fill rest (one it refl) each h

floats-length : (name : FloatName) (items : Items) (fill : List ℕ) → floats_in name items ≡ Some fill → length fill ≡ item_count items * float_size name
floats-length name no_items fill h = let e : [] ≡ fill = cc in ap length (sym e) ∙ sym (zero-mul (float_size name))
floats-length name (item tree items) fill h =
    float_first name (item_count items) tree fill (float_fill name tree) (floats_in name items) (λ it e. float-length name tree it e) (λ more e. floats-length name items more e) h

-- a complex number has two floats
complex-length : (name : FloatName) (tree : Data) (fill : List ℕ) → option_and_then (complex_pair name) (as_array tree) ≡ Some fill → length fill ≡ 2 * float_size name
complex-length name tree fill h =
    let found = read_with (complex_pair name) (as_array tree) fill h in
    by_test found.0 (item_count found.0 == 2) refl found.1
  where
    by_test : (items : Items) (b : Bool) → (item_count items == 2) ≡ b → cond b (floats_in name items) None ≡ Some fill → length fill ≡ 2 * float_size name
    by_test items true e h = floats-length name items fill h ∙ ap (λ n. n * float_size name) (eqb-true (item_count items) 2 e)
    by_test items false e h = absurd (cc)

raw-length : (bits : ℕ) (tree : Data) (fill : List ℕ) → raw_fill bits tree ≡ Some fill → length fill ≡ bits / 8
raw-length bits tree fill h =
    let found = read_with (of_length (bits / 8)) (bytes_fill tree) fill h in
    let is = of_length-is (bits / 8) found.0 (λ x. Some x) fill (again found.0 found.1) in
    let same : found.0 ≡ fill = cc in
    ap length (sym same) ∙ is.0
  where
    again : (found : List ℕ) → of_length (bits / 8) found ≡ Some fill → option_and_then (λ x. Some x) (of_length (bits / 8) found) ≡ Some fill
    again found e = ap (option_and_then (λ x. Some x)) e

text-shown : (tree : Data) (fill : List ℕ) → option_and_then text_fill (as_str tree) ≡ Some fill → IsSome (option_map string (text_fill fill))
text-shown tree fill h =
    let found = read_with text_fill (as_str tree) fill h in
    by_test found.0 (is_utf8 found.0) refl found.1
  where
    by_test : (t : List ℕ) (b : Bool) → is_utf8 t ≡ b → cond b (Some t) None ≡ Some fill → IsSome (option_map string (text_fill fill))
    by_test t true e h = let same : t ≡ fill = cc in subst (λ f. IsSome (option_map string (text_fill f))) same (rw e refl)
    by_test t false e h = absurd (cc)

plain-shown : (named : PlainName) (tree : Data) (fill : List ℕ) → plain_fill named tree ≡ Some fill → IsSome (plain_shown named fill)
plain-shown plain.Bool tree fill h = truth-shown tree fill h
plain-shown (plain.Integer integer) tree fill h = let found = read_with (integer_fill integer) (as_number tree) fill h in integer-shown integer found.0 fill found.1
plain-shown (plain.Float name) tree fill h = sized_some (float_size name) fill (float_shown name) (float-length name tree fill h)
plain-shown (plain.Complex name) tree fill h = sized_some (2 * float_size name) fill (complex_shown name) (complex-length name tree fill h)
plain-shown (plain.Raw bits) tree fill h = sized_some (bits / 8) fill bytes_list (raw-length bits tree fill h)
plain-shown plain.String tree fill h = text-shown tree fill h
plain-shown plain.Bytes tree fill h = refl

-- what stands in front of the last byte
front_present : (fill : List ℕ) → front_of (present fill) ≡ fill
front_present fill = let e : length (present fill) - 1 ≡ length fill = omega (arith, length_push fill 1) in ap (λ n. take n (present fill)) e ∙ take_at fill (1 ∷ []) (length fill) refl

one_present : (fill : List ℕ) → ends_in_one (present fill) ≡ true
one_present fill =
    let e : length (present fill) - 1 ≡ length fill = omega (arith, length_push fill 1) in
    let some : nat_lt 0 (length (present fill)) ≡ true = lt-ltb 0 (length (present fill)) (omega (arith, length_push fill 1)) in
    let last : slice_index (present fill) (length (present fill) - 1) ≡ 1 = ap (slice_index (present fill)) e ∙ get_or_at fill 1 [] 0 (length fill) refl in
    ap (λ b. b && (slice_index (present fill) (length (present fill) - 1) == 1)) some ∙ eq-eqb _ _ last

-- the two ways in which an optional fill value is read
read_optional : (P : List ℕ → Type 0) (inner : Data → Option (List ℕ)) (tree : Data) (fill : List ℕ) → P (0 ∷ []) → ((t : Data) (f : List ℕ) → inner t ≡ Some f → P (present f)) → optional_fill inner tree ≡ Some fill → P fill
read_optional P inner null fill absent there h = let e : 0 ∷ [] ≡ fill = cc in subst P e absent
read_optional P inner (boolean truth) fill absent there h = absurd (cc)
read_optional P inner (number n) fill absent there h = absurd (cc)
read_optional P inner (string s) fill absent there h = absurd (cc)
read_optional P inner (object entries) fill absent there h = absurd (cc)
read_optional P inner (array no_items) fill absent there h = absurd (cc)
read_optional P inner (array (item t (item other items))) fill absent there h = absurd (cc)
read_optional P inner (array (item t no_items)) fill absent there h = by_inner (inner t) refl h
  where
    by_inner : (o : Option (List ℕ)) → inner t ≡ o → option_map present o ≡ Some fill → P fill
    by_inner None e h = absurd (cc)
    by_inner (Some f) e h = let is : present f ≡ fill = cc in subst P is (there t f e)

optional-shown : (inner_shown : List ℕ → Option Data) (inner : Data → Option (List ℕ)) → ((tree : Data) (fill : List ℕ) → inner tree ≡ Some fill → IsSome (inner_shown fill))
    → (tree : Data) (fill : List ℕ) → optional_fill inner tree ≡ Some fill → IsSome (optional_shown inner_shown fill)
optional-shown inner_shown inner each tree fill h = read_optional (λ f. IsSome (optional_shown inner_shown f)) inner tree fill refl there h
  where
    there : (t : Data) (f : List ℕ) → inner t ≡ Some f → IsSome (optional_shown inner_shown (present f))
    there t f e = by_null (is_null (present f))
      where
        listed : (o : Option Data) → IsSome o → IsSome (option_map lone_list o)
        listed None s = s
        listed (Some x) s = refl

        by_null : (b : Bool) → IsSome (cond b (Some null) (cond (ends_in_one (present f)) (option_map lone_list (inner_shown (front_of (present f)))) None))
        by_null true = refl
        by_null false = rw (one_present f, front_present f) (listed (inner_shown f) (each t f e))

fill-shown : (levels : ℕ) (named : PlainName) (tree : Data) (fill : List ℕ) → fill_in levels named tree ≡ Some fill → IsSome (shown_in levels named fill)
fill-shown zero named tree fill h = plain-shown named tree fill h
fill-shown (suc levels) named tree fill h = optional-shown (shown_in levels named) (fill_in levels named) (fill-shown levels named) tree fill h

pub read_is_shown : ReadIsShown
read_is_shown name tree fill h = fill-shown name.levels name.plain tree fill h

-- ---- what is read fits the type

truth-length : (tree : Data) (fill : List ℕ) → option_map truth_fill (as_bool tree) ≡ Some fill → length fill ≡ 1
truth-length tree fill h = by_truth (as_bool tree) h
  where
    by_truth : (o : Option Bool) → option_map truth_fill o ≡ Some fill → length fill ≡ 1
    by_truth None h = absurd (cc)
    by_truth (Some truth) h = let e : truth_fill truth ≡ fill = cc in ap length (sym e)

-- the sizes of floats by the bits of their components
float_size-fits : (name : FloatName) (n : ℕ) → n ≡ float_size name → (n == 1 * ((float_bits name + 7) / 8)) ≡ true
float_size-fits Float16 n h = eq-eqb n 2 h
float_size-fits Bfloat16 n h = eq-eqb n 2 h
float_size-fits Float32 n h = eq-eqb n 4 h
float_size-fits Float64 n h = eq-eqb n 8 h

complex_size-fits : (name : FloatName) (n : ℕ) → n ≡ 2 * float_size name → (n == 2 * ((float_bits name + 7) / 8)) ≡ true
complex_size-fits Float16 n h = eq-eqb n 4 h
complex_size-fits Bfloat16 n h = eq-eqb n 4 h
complex_size-fits Float32 n h = eq-eqb n 8 h
complex_size-fits Float64 n h = eq-eqb n 16 h

integer_size-fits : (integer : IntegerName) (n : ℕ) → n ≡ integer_size integer → (n == 1 * integer_size integer) ≡ true
integer_size-fits integer n h = eq-eqb n (1 * integer_size integer) (h ∙ sym (one-mul (integer_size integer)))

plain-fits : (named : PlainName) (type : ElementType) (tree : Data) (fill : List ℕ) → plain_type named ≡ Ok type → plain_fill named tree ≡ Some fill → fill_fits type fill ≡ true
plain-fits plain.Bool type tree fill e h = let is : fixed 1 1 false ≡ type = cc in subst (λ t. fill_fits t fill ≡ true) is (eq-eqb (length fill) 1 (truth-length tree fill h))
plain-fits (plain.Integer integer) type tree fill e h =
    let is : fixed (integer_bits integer) 1 (is_signed integer) ≡ type = cc in
    let found = read_with (integer_fill integer) (as_number tree) fill h in
    subst (λ t. fill_fits t fill ≡ true) is (integer_size-fits integer (length fill) (integer-length integer found.0 fill found.1))
plain-fits (plain.Float name) type tree fill e h =
    let is : fixed (float_bits name) 1 false ≡ type = cc in
    subst (λ t. fill_fits t fill ≡ true) is (float_size-fits name (length fill) (float-length name tree fill h))
plain-fits (plain.Complex name) type tree fill e h =
    let is : fixed (float_bits name) 2 false ≡ type = cc in
    subst (λ t. fill_fits t fill ≡ true) is (complex_size-fits name (length fill) (complex-length name tree fill h))
plain-fits (plain.Raw bits) type tree fill e h = by_test (is_raw bits) e
  where
    by_test : (b : Bool) → cond b (Ok (fixed 8 (bits / 8) false)) (Err UnsupportedDataType) ≡ Ok type → fill_fits type fill ≡ true
    by_test true e =
        let is : fixed 8 (bits / 8) false ≡ type = cc in
        subst (λ t. fill_fits t fill ≡ true) is (eq-eqb (length fill) (bits / 8 * 1) (raw-length bits tree fill h ∙ sym (mul-one (bits / 8))))
    by_test false e = absurd (cc)
plain-fits plain.String type tree fill e h = let is : text_type ≡ type = cc in subst (λ t. fill_fits t fill ≡ true) is refl
plain-fits plain.Bytes type tree fill e h = let is : bytes_type ≡ type = cc in subst (λ t. fill_fits t fill ≡ true) is refl

or_true : (a : Bool) → a || true ≡ true
or_true true = refl
or_true false = refl

optional-fits : (levels : ℕ) (named : PlainName) (type : ElementType) (tree : Data) (fill : List ℕ) → ((t : Data) (f : List ℕ) → fill_in levels named t ≡ Some f → fill_fits (optional_round levels type) f ≡ true)
    → optional_fill (fill_in levels named) tree ≡ Some fill → fill_fits (optional (optional_round levels type)) fill ≡ true
optional-fits levels named type tree fill inner h =
    read_optional (λ f. fill_fits (optional (optional_round levels type)) f ≡ true) (fill_in levels named) tree fill refl there h
  where
    there : (t : Data) (f : List ℕ) → fill_in levels named t ≡ Some f → fill_fits (optional (optional_round levels type)) (present f) ≡ true
    there t f is = rw (one_present f, front_present f, inner t f is) (or_true (is_null (present f)))

fill-fits : (levels : ℕ) (named : PlainName) (type : ElementType) (tree : Data) (fill : List ℕ) → plain_type named ≡ Ok type → fill_in levels named tree ≡ Some fill → fill_fits (optional_round levels type) fill ≡ true
fill-fits zero named type tree fill e h = plain-fits named type tree fill e h
fill-fits (suc levels) named type tree fill e h = optional-fits levels named type tree fill (λ t f is. fill-fits levels named type t f e is) h

pub read_fits : ReadFits
read_fits name type tree fill e h = by_plain (plain_type name.plain) refl e
  where
    by_plain : (o : Result ElementType ElementError) → plain_type name.plain ≡ o → seen (optional_round name.levels) o ≡ Ok type → fill_fits type fill ≡ true
    by_plain (Ok inner) is e = let whole : optional_round name.levels inner ≡ type = cc in subst (λ t. fill_fits t fill ≡ true) whole (fill-fits name.levels name.plain inner tree fill is h)
    by_plain (Err error) is e = absurd (cc)
