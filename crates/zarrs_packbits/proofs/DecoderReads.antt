-- What a partial decoder answers of runs of places.
use Rattle.zarrs_data_type.specs.Form.{Form, form_of}
use Rattle.std.proofs.Common.{◌≡◌, ℕ, ◌+◌, ◌*◌, ◌<◌, ◌≤◌, Bool, true, false, Option, Some, None, Result, Ok, Err, List, length, map, arith, refl, ap, sym, ◌∙◌, subst, if◌then◌else◌}
use Rattle.std.specs.List.{All}
use Rattle.std.specs.Prelude.{IfOk, is_ok}
use Rattle.std.proofs.Math.Nat.{mul-le-mul_left}
use Rattle.std.proofs.lemmas.Bool.Decides.{nat_tests}
use Rattle.zarrs_chunk.specs.Answer.{◌>>=◌, is_fault, seen}
use Rattle.zarrs_chunk.specs.ChunkShape.{product}
use Rattle.zarrs_chunk.specs.Runs.{joined_runs, AreApart, AreFilled}
use Rattle.zarrs_chunk.specs.Selection.{Selection, places_of}
use Rattle.zarrs_chunk.specs.declared.codec_error.CodecError.{CodecError}
use Rattle.zarrs_data_type.specs.Element.{Chunk, fill_element}
use Rattle.zarrs_data_type.specs.ElementType.{ElementType, fixed, text, bytes, optional, element_size}
use Rattle.zarrs_array_bytes.specs.Elements.{select}
use Rattle.zarrs_array_bytes.specs.Held.{Held}
use Rattle.zarrs_bytes.proofs.Coding.{ok}
use Rattle.zarrs_bytes.proofs.ConsecutiveRuns.{runs_are_consecutive}
use Rattle.zarrs_bytes.specs.PartialRead.{place_size}
use Rattle.zarrs_bytes.specs.AskedRanges.{asked_for_runs}
use Rattle.zarrs_bytes.specs.ReadingCalls.{calls_for_runs, consecutive_runs}
use Rattle.zarrs_codec.specs.ByteSpan.{ByteSpan}
use Rattle.zarrs_codec.specs.Calls.{AsksRanges, Calls, MakesReads}
use Rattle.zarrs_codec.specs.StorageState.{are_sure}
use Rattle.zarrs_packbits.specs.declared.layout.PackedLayout.{PackedLayout}
use Rattle.zarrs_packbits.specs.PackBitsCodec.{PackBitsStands}
use Rattle.zarrs_packbits.specs.PackBitsSettings.{PackBitsSettings, keeps_all_bytes, packed_layout}
use Rattle.zarrs_packbits.specs.PackedLayout.{is_whole}
use Rattle.zarrs_bytes.specs.BytesCodecPartial.{plan_is_sure}
use Rattle.zarrs_packbits.specs.PartialRead.{packbits_plan, packed_places_bytes, read_places_of, reading_calls_of}
use Rattle.zarrs_packbits.specs.ReadPlan.{asked_of, packed_asked, packed_ranges}
use Rattle.zarrs_packbits.proofs.CodecLaws.{read_selects}
use Rattle.zarrs_packbits.proofs.Taken.{taken}
use Rattle.zarrs_array_bytes.proofs.RunLemmas.{places_below}

-- a fill value of a taken chunk has a byte
pub taken_fill : (settings : PackBitsSettings) (sizes : List ℕ) (type : ElementType) (fill : List ℕ) (l : PackedLayout) → packed_layout settings (form_of sizes type fill) ≡ Ok l → 0 < length fill
taken_fill settings sizes (fixed width components sign) fill l e =
    let t = taken settings sizes width components sign fill l e in
    let s = t.sound in
    let size : 1 ≤ l.size = omega (arith, s.size, s.some) in
    let group : 1 ≤ l.group = omega (arith, s.group) in
    let more : l.group * 1 ≤ l.group * l.size = mul-le-mul_left l.group size in
    let long : length fill ≡ element_size width components = (let f = t.filled in grind (arith, nat_tests)) in
    omega (arith, t.size, long, more, group)
taken_fill settings sizes text fill l e = absurd cc
taken_fill settings sizes bytes fill l e = absurd cc
taken_fill settings sizes (optional type) fill l e = absurd cc

-- what is read of runs of a value that stands for a chunk is the chunk's selection
pub runs_select : (settings : PackBitsSettings) (sizes : List ℕ) (type : ElementType) (fill : List ℕ) (stored : Option (List ℕ)) (runs slice : List (ℕ × ℕ)) (places : Result (List ℕ) CodecError) → slice ≡ runs → All (λ run. run.0 + run.1 ≤ product sizes) runs → places ≡ Ok (joined_runs runs) → (value : List ℕ) (chunk : Chunk) → stored ≡ Some value → PackBitsStands settings (form_of sizes type fill) value chunk → read_places_of settings (form_of sizes type fill) stored (joined_runs slice) ≡ seen (select chunk) places
runs_select settings sizes type fill stored runs slice places view below is value chunk here stands =
    let count = stands.elements.count_is in
    let inside : All (λ place. place < length chunk) (joined_runs runs) = subst (λ k. All (λ place. place < k) (joined_runs runs)) (sym count) (places_below (product sizes) runs below) in
    rw view (rw here (rw is (read_selects settings sizes type fill value chunk (joined_runs runs) stands inside)))

filled_read : (r : Result PackedLayout CodecError) (c : Chunk) → is_ok r ≡ true → (r >>= λ (_ : PackedLayout). Ok c) ≡ Ok c
filled_read (Ok l) c h = refl
filled_read (Err e) c h = absurd cc

-- what is read of runs where nothing is stored is the fill element at each place
pub runs_filled : (settings : PackBitsSettings) (sizes : List ℕ) (type : ElementType) (fill : List ℕ) (stored : Option (List ℕ)) (runs slice : List (ℕ × ℕ)) (places : Result (List ℕ) CodecError) → is_ok (packed_layout settings (form_of sizes type fill)) ≡ true → slice ≡ runs → places ≡ Ok (joined_runs runs) → stored ≡ None → read_places_of settings (form_of sizes type fill) stored (joined_runs slice) ≡ seen (map (λ _. fill_element type fill)) places
runs_filled settings sizes type fill stored runs slice places taken view is here =
    rw view (rw here (rw is (filled_read (packed_layout settings (form_of sizes type fill)) (map (λ _. fill_element type fill) (joined_runs runs)) taken)))

sure_through : {L : Type 0} (places : Result (List ℕ) CodecError) (layout : Result L CodecError) (bytes_of : L → List ℕ → List ℕ) (sure : Option (ℕ → Bool)) (r : Result Held CodecError) → is_ok layout ≡ true → (is_ok places ≡ false → is_fault r ≡ false)
    → IfOk (places >>= λ ps. layout >>= λ l. ok (bytes_of l ps)) (λ numbers. are_sure sure numbers ≡ true → is_fault r ≡ false) → plan_is_sure sure (places >>= λ ps. layout >>= λ l. ok (bytes_of l ps)) ≡ true → is_fault r ≡ false
sure_through (Ok ps) (Ok l) bytes_of sure r taken before planned h = planned h
sure_through (Ok ps) (Err e) bytes_of sure r taken before planned h = absurd cc
sure_through (Err e) layout bytes_of sure r taken before planned h = before refl

-- a read whose plan is sure meets no failure of the handle
pub sure_by_plan : (settings : PackBitsSettings) (sizes : List ℕ) (type : ElementType) (fill : List ℕ) (selection : Selection) (sure : Option (ℕ → Bool)) (r : Result Held CodecError) → is_ok (packed_layout settings (form_of sizes type fill)) ≡ true → (is_ok (places_of selection sizes) ≡ false → is_fault r ≡ false)
    → IfOk (packbits_plan settings (form_of sizes type fill) selection) (λ numbers. are_sure sure numbers ≡ true → is_fault r ≡ false) → plan_is_sure sure (packbits_plan settings (form_of sizes type fill) selection) ≡ true → is_fault r ≡ false
sure_by_plan settings sizes type fill selection sure r taken before planned h =
    sure_through (places_of selection sizes) (packed_layout settings (form_of sizes type fill)) packed_places_bytes sure r taken before planned h

-- ---- how many reading calls a read makes

chosen_not : (b : Bool) (n m : ℕ) → b ≡ false → (if b then n else m) ≡ m
chosen_not true n m e = absurd cc
chosen_not false n m e = refl

-- one where not all bits of whole bytes are kept
pub one_call : (settings : PackBitsSettings) (form : Form) (stored : Option (List ℕ)) (runs : List (ℕ × ℕ)) (l : PackedLayout) → packed_layout settings form ≡ Ok l → is_whole l ≡ false → reading_calls_of settings form stored runs ≡ 1
one_call settings form stored runs l is part =
    chosen_not (keeps_all_bytes (packed_layout settings form)) (calls_for_runs (place_size form.type) stored runs) 1 (ap keeps_all_bytes is ∙ part)

-- so it is of the runs of the places that are read
pub counted_at : {C T : Type 0} (calls : C → Option Calls) (settings : PackBitsSettings) (form : Form) (stored : Option (List ℕ)) (places : Result (List ℕ) CodecError) (runs : List (ℕ × ℕ)) (before after : C) (r : Result T CodecError) → places ≡ Ok (joined_runs runs) → AreFilled runs → AreApart runs
    → MakesReads calls (reading_calls_of settings form stored runs) before after r → IfOk places (λ ps. MakesReads calls (reading_calls_of settings form stored (consecutive_runs ps)) before after r)
counted_at calls settings form stored places runs before after r is filled apart made =
    rw is (subst (λ (rs : List (ℕ × ℕ)). MakesReads calls (reading_calls_of settings form stored rs) before after r) (sym (runs_are_consecutive runs filled apart)) made)

-- ---- which ranges a read asks for

-- those of `bytes` where all bits of whole bytes are kept
pub asked_whole : (settings : PackBitsSettings) (form : Form) (stored : Option (List ℕ)) (runs : List (ℕ × ℕ)) (l : PackedLayout) → packed_layout settings form ≡ Ok l → is_whole l ≡ true → asked_for_runs (place_size form.type) stored runs ≡ asked_of settings form stored runs
asked_whole settings form stored runs l is whole =
    let size = place_size form.type in
    sym (ap (λ (r : Result PackedLayout CodecError). packed_asked r size stored runs) is ∙ rw whole refl)

-- and else those of the runs
pub asked_in_part : (settings : PackBitsSettings) (form : Form) (stored : Option (List ℕ)) (runs : List (ℕ × ℕ)) (l : PackedLayout) → packed_layout settings form ≡ Ok l → is_whole l ≡ false → packed_ranges l runs ≡ asked_of settings form stored runs
asked_in_part settings form stored runs l is part =
    let size = place_size form.type in
    sym (ap (λ (r : Result PackedLayout CodecError). packed_asked r size stored runs) is ∙ rw part refl)

-- so it is of the runs of the places that are read
pub asked_at : {C T : Type 0} (asked : C → Option (List ByteSpan)) (settings : PackBitsSettings) (form : Form) (stored : Option (List ℕ)) (places : Result (List ℕ) CodecError) (runs : List (ℕ × ℕ)) (before after : C) (r : Result T CodecError) → places ≡ Ok (joined_runs runs) → AreFilled runs → AreApart runs
    → AsksRanges asked (asked_of settings form stored runs) before after r → IfOk places (λ ps. AsksRanges asked (asked_of settings form stored (consecutive_runs ps)) before after r)
asked_at asked settings form stored places runs before after r is filled apart made =
    rw is (subst (λ (rs : List (ℕ × ℕ)). AsksRanges asked (asked_of settings form stored rs) before after r) (sym (runs_are_consecutive runs filled apart)) made)
