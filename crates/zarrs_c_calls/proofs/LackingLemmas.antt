-- Reads of pieces, and where a byte is lacking to one.
use Rattle.std.proofs.Common.{◌≡◌, ℕ, ◌+◌, ◌<◌, ◌≤◌, ◌==◌, ◌&&◌, nat_lt, Bool, true, false, Option, Some, None, List, [], ◌∷◌, length, get_or, Result, Ok, Err, IfOk, IfErr, IfSome, refl, sym, ap, ◌∙◌, subst, arith}
use Rattle.std.specs.Prelude.{is_ok}
use Rattle.std.specs.List.{list_all, range_with_len}
use Rattle.std.proofs.lemmas.Bool.Decides.{nat_tests}
use Rattle.std.proofs.lemmas.List.{ext_get_or}
use Rattle.std.proofs.lemmas.List.FromFn.{get_or-map-range_with_len}
use Rattle.zarrs_chunk.specs.Answer.{AnswersBy, demand, fault, is_fault, memory, memory_or_fault, ◌>>=◌}
use Rattle.zarrs_chunk.specs.Selection.{Selection, subset, indices, bounds_of}
use Rattle.zarrs_chunk.specs.declared.codec_error.CodecError.{CodecError}
use Rattle.zarrs_chunk.specs.declared.codec_error.CodecError.TheVariants.{IncompatibleDimensionality, OutOfBounds}
use Rattle.zarrs_data_type.specs.Element.{Chunk}
use Rattle.zarrs_data_type.specs.ElementType.{ElementType}
use Rattle.zarrs_array_bytes.specs.Held.{Held}
use Rattle.zarrs_array_bytes.specs.Validity.{Holds}
use Rattle.zarrs_json.specs.Header.{HeaderForm}
use Rattle.zarrs_json.specs.KnownBytesCodec.{known_codecs}
use Rattle.zarrs_codec.specs.StorageState.{StorageState, are_sure}
use Rattle.zarrs_lent_handles.proofs.PieceLemmas.{passes, value_length}
use Rattle.zarrs_lent_handles.specs.Pieces.{PlainPiece, are_apart, are_at_hand, byte_around, is_at_hand, value_around}
use Rattle.zarrs_codecs.specs.ChunkRead.{ReadsStoredChunk, are_asked_sure, asks_in_part, read_rests_on}
use Rattle.zarrs_codecs.specs.PlannedReads.{ArePlanned}
use Rattle.zarrs_codecs.proofs.PlannedAlike.{planned_is_asked}
use Rattle.zarrs_c_calls.specs.Fetched.{AsksSurely}
use Rattle.zarrs_c_calls.specs.LackingByte.{LacksByte, apart_read, whole_value}
use Rattle.zarrs_c_calls.specs.Reads.{form_read}
use Rattle.zarrs_c_calls.proofs.CodeLemmas.{fault_wants}
use Rattle.zarrs_c_calls.proofs.FetchedLemmas.{IsMade}

-- ---- a read that asks for a part of the value

asked_quiet : (sure : Option (ℕ → Bool)) (r : Result (Option (List ℕ)) CodecError) (P : Type 0) → IfOk r (λ asked. IfSome asked (λ numbers. are_sure sure numbers ≡ true → P)) → are_asked_sure sure r ≡ true → P
asked_quiet sure (Ok (Some numbers)) P h e = h e
asked_quiet sure (Ok None) P h e = absurd (cc)
asked_quiet sure (Err error) P h e = absurd (cc)

abbrev refused : CodecError → Result (Unit {0}) CodecError
refused error = Err error

-- the errors of a selection are no failures
two_demands : (a b : Bool) (e : CodecError) → (demand a IncompatibleDimensionality >>= λ _. demand b OutOfBounds) ≡ Err e → fault e ≡ false
two_demands false b e h = cc
two_demands true false e h = cc
two_demands true true e h = absurd (cc)

bounds_quiet : (selection : Selection) (sizes : List ℕ) (e : CodecError) → bounds_of selection sizes ≡ Err e → fault e ≡ false
bounds_quiet (subset region) sizes e h = two_demands _ _ e h
bounds_quiet (indices tuples) sizes e h = two_demands _ _ e h

refused_first : (type : ElementType) (r : Result Held CodecError) (selection : Selection) (sizes : List ℕ) (b : Result (Unit {0}) CodecError) → bounds_of selection sizes ≡ b → IfErr b (λ cause. AnswersBy memory (Holds type) r (Err cause)) → is_ok b ≡ false → is_fault r ≡ false
refused_first type r selection sizes (Ok u) is h e = absurd (cc)
refused_first type (Ok held) selection sizes (Err cause) is h e = refl
refused_first type (Err error) selection sizes (Err cause) is h e = by (fault error) refl
  where
    by : (t : Bool) → fault error ≡ t → fault error ≡ false
    by false f = f
    by true f =
        let same : cause ≡ error = (let due = h (fault_wants error f) in cc) in
        bounds_quiet selection sizes error (is ∙ ap refused same)

pub surely_read : (chunk form : HeaderForm) (before state : StorageState) (selection : Selection) (r : Result Held CodecError) → form ≡ chunk → state ≡ before → ReadsStoredChunk known_codecs form state selection r → AsksSurely chunk before selection (is_fault r)
surely_read chunk form before state selection r same_form same_state reads =
    let own : AsksSurely form state selection (is_fault r) = record {
      refused = refused_first form.type r selection form.sizes (bounds_of selection form.sizes) refl reads.indexer_first;
      sure = asked_quiet state.sure (read_rests_on known_codecs form state.value selection) (is_fault r ≡ false) reads.sure;
    } in
    subst (λ (s : StorageState). AsksSurely chunk s selection (is_fault r)) same_state
    (subst (λ (f : HeaderForm). AsksSurely f state selection (is_fault r)) same_form own)

-- ---- the whole value

abbrev some : List ℕ → Option (List ℕ)
some value = Some value

pub first_is_whole : (elsewhere : ℕ → ℕ) (len : ℕ) (ps : List PlainPiece) (value : List ℕ) → whole_value len ps ≡ Some value → value_around elsewhere len ps ≡ value
first_is_whole elsewhere len [] value is = by (len == 0) refl
  where
    by : (t : Bool) → (len == 0) ≡ t → value_around elsewhere len [] ≡ value
    by true e =
        let none : len ≡ 0 = grind (arith, nat_tests) in
        let own : some [] ≡ Some value = (let i = rw e at is in i) in
        ap (λ (n : ℕ). value_around elsewhere n []) none ∙ (let h = own in cc)
    by false e = absurd (let i = rw e at is in cc)
first_is_whole elsewhere len (p ∷ ps) value is = by ((p.start == 0) && (length p.bytes == len)) refl
  where
    by : (t : Bool) → ((p.start == 0) && (length p.bytes == len)) ≡ t → value_around elsewhere len (p ∷ ps) ≡ value
    by false e = absurd (let i = rw e at is in cc)
    by true e =
        let first : p.start ≡ 0 = grind (arith, nat_tests) in
        let long : length p.bytes ≡ len = grind (arith, nat_tests) in
        let own : p.bytes ≡ value = (let i = rw e at is in cc) in
        let same : value_around elsewhere len (p ∷ ps) ≡ p.bytes = ext_get_or 0 (value_around elsewhere len (p ∷ ps)) p.bytes (omega (arith, value_length elsewhere len (p ∷ ps), long)) (λ i l.
        let below : i < len = omega (arith, l, value_length elsewhere len (p ∷ ps)) in
        get_or-map-range_with_len (byte_around elsewhere (p ∷ ps)) 0 len i i 0 below (omega arith) ∙ byte i first (omega (arith, below, long))) in
        same ∙ own
      where
        byte : (i : ℕ) → p.start ≡ 0 → i < length p.bytes → byte_around elsewhere (p ∷ ps) i ≡ get_or p.bytes i 0
        byte i first l = grind (arith, nat_tests)

-- a byte before the first piece isn't at hand
absent_below : (len free n : ℕ) (ps : List PlainPiece) → are_apart len free ps ≡ true → n < free → is_at_hand ps n ≡ false
absent_below len free n [] apart l = refl
absent_below len free n (p ∷ ps) apart l = grind (arith, nat_tests, absent_below len (p.start + length p.bytes + 1) n ps)

lacks_at : (test : ℕ → Bool) (n k : ℕ) → k < n → test k ≡ false → list_all test (range_with_len 0 n) ≡ false
lacks_at test n k l e = by (list_all test (range_with_len 0 n)) refl
  where
    by : (t : Bool) → list_all test (range_with_len 0 n) ≡ t → list_all test (range_with_len 0 n) ≡ false
    by false f = f
    by true f = absurd (let p = passes test 0 n k f (omega arith) (omega (arith, l)) in cc)

-- where the first piece isn't the whole value, a byte isn't at hand
pub not_whole : (len : ℕ) (ps : List PlainPiece) → are_apart len 0 ps ≡ true → whole_value len ps ≡ None → are_at_hand ps (range_with_len 0 len) ≡ false
not_whole len [] apart none = lacks_at (is_at_hand []) len 0 (grind (arith, nat_tests)) refl
not_whole len (p ∷ ps) apart none = by (nat_lt (p.start + length p.bytes) len) refl
  where
    inside : p.start + length p.bytes ≤ len
    inside = grind (arith, nat_tests)

    rest : are_apart len (p.start + length p.bytes + 1) ps ≡ true
    rest = grind (arith, nat_tests)

    by : (t : Bool) → nat_lt (p.start + length p.bytes) len ≡ t → are_at_hand (p ∷ ps) (range_with_len 0 len) ≡ false
    by true e =
        let l : p.start + length p.bytes < len = grind (arith, nat_tests) in
        let behind = absent_below len (p.start + length p.bytes + 1) (p.start + length p.bytes) ps rest (omega arith) in
        lacks_at (is_at_hand (p ∷ ps)) len (p.start + length p.bytes) l (grind (arith, nat_tests))
    by false e =
        let up : p.start + length p.bytes ≡ len = grind (arith, nat_tests, inside) in
        let later : 0 < p.start = grind (arith, nat_tests) in
        let behind = absent_below len (p.start + length p.bytes + 1) 0 ps rest (omega arith) in
        lacks_at (is_at_hand (p ∷ ps)) len 0 (omega (arith, up, later)) (grind (arith, nat_tests))

-- ---- pieces that stand apart

pub is_read : (elsewhere : ℕ → ℕ) (form : HeaderForm) (len : ℕ) (ps : List PlainPiece) (selection : Selection) → are_apart len 0 ps ≡ true → apart_read elsewhere form len ps selection ≡ form_read form (Some (value_around elsewhere len ps)) selection
is_read elsewhere form len ps selection apart = rw apart refl

less_excused : (type : ElementType) (r : Result Held CodecError) (expected : Result Chunk CodecError) → AnswersBy memory (Holds type) r expected → AnswersBy memory_or_fault (Holds type) r expected
less_excused type (Ok held) expected h = h
less_excused type (Err e) expected h = λ quiet. h (by (memory e) refl quiet)
  where
    by : (t : Bool) → memory e ≡ t → memory_or_fault e ≡ false → memory e ≡ false
    by false f q = f
    by true f q = absurd (let g = rw f at q in cc)

-- the value itself is read
pub whole_read : (elsewhere : ℕ → ℕ) (form : HeaderForm) (type : ElementType) (len : ℕ) (ps : List PlainPiece) (value : List ℕ) (stored : Option (List ℕ)) (selection : Selection) (r : Result Held CodecError) → are_apart len 0 ps ≡ true → whole_value len ps ≡ Some value → stored ≡ Some value
    → AnswersBy memory (Holds type) r (form_read form stored selection) → AnswersBy memory_or_fault (Holds type) r (apart_read elsewhere form len ps selection)
whole_read elsewhere form type len ps value stored selection r apart whole same h =
    let at : stored ≡ Some (value_around elsewhere len ps) = same ∙ ap some (sym (first_is_whole elsewhere len ps value whole)) in
    let due : form_read form stored selection ≡ apart_read elsewhere form len ps selection = ap (λ (v : Option (List ℕ)). form_read form v selection) at ∙ sym (is_read elsewhere form len ps selection apart) in
    less_excused type r (apart_read elsewhere form len ps selection) (subst (λ (x : Result Chunk CodecError). AnswersBy memory (Holds type) r x) due h)

never_both : {P : Type 0} (t : Bool) → t ≡ true → t ≡ false → P
never_both true e f = absurd (cc)
never_both false e f = absurd (cc)

if_false : (t : Bool) → (t ≡ true → t ≡ false) → t ≡ false
if_false true h = h refl
if_false false h = refl

unless : (t failed : Bool) → failed ≡ true → (t ≡ true → failed ≡ false) → t ≡ false
unless true failed e h = never_both failed e (h refl)
unless false failed e h = refl

ok_or_not : (t failed : Bool) → failed ≡ true → (t ≡ false → failed ≡ false) → t ≡ true
ok_or_not true failed e h = refl
ok_or_not false failed e h = never_both failed e (h refl)

-- where a read of pieces fails, a byte is lacking
pub made_lacks : (elsewhere : ℕ → ℕ) (form : HeaderForm) (len : ℕ) (ps : List PlainPiece) (state : StorageState) (selection : Selection) (failed : Bool) → IsMade elsewhere len ps state → whole_value len ps ≡ None
    → (asks_in_part form.chain.bytes_to_bytes form.chain.array_to_bytes ≡ true → AsksSurely form state selection failed) → failed ≡ true → LacksByte elsewhere form len ps selection
made_lacks elsewhere form len ps state selection failed is none surely e =
    record {
      stand_apart = is.stand_apart;
      not_all = not_whole len ps is.stand_apart none;
      in_part = λ asks.
          let s = surely asks in
          let asked : are_asked_sure state.sure (read_rests_on known_codecs form state.value selection) ≡ false = unless _ failed e s.sure in
          record {
            selected = ok_or_not _ failed e s.refused;
            not_asked =
                ap (λ (v : Option (List ℕ)). are_asked_sure (Some (is_at_hand ps)) (read_rests_on known_codecs form v selection)) (sym is.value_is)
                ∙ ap (λ (sure : Option (ℕ → Bool)). are_asked_sure sure (read_rests_on known_codecs form state.value selection)) (sym is.sure_is)
                ∙ asked;
          };
    }

-- where all planned bytes are at hand, none is lacking
pub not_lacking : (elsewhere : ℕ → ℕ) (form : HeaderForm) (len : ℕ) (ps : List PlainPiece) (selection : Selection) (planned : List ℕ) (failed : Bool) → ArePlanned known_codecs form selection planned → are_at_hand ps planned ≡ true
    → (failed ≡ true → LacksByte elsewhere form len ps selection) → failed ≡ false
not_lacking elsewhere form len ps selection planned failed are hand lacks = if_false failed (λ e.
    let asks = planned_is_asked known_codecs form (Some (value_around elsewhere len ps)) selection planned are in
    let not : are_asked_sure (Some (is_at_hand ps)) (read_rests_on known_codecs form (Some (value_around elsewhere len ps)) selection) ≡ false = ((lacks e).in_part asks.in_part).not_asked in
    let is : are_asked_sure (Some (is_at_hand ps)) (read_rests_on known_codecs form (Some (value_around elsewhere len ps)) selection) ≡ true = ap (are_asked_sure (Some (is_at_hand ps))) asks.asked ∙ hand in
    never_both _ is not)
