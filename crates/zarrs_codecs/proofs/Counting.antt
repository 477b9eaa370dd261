-- How often a handle is asked, and which bytes are replaced.
use Rattle.std.proofs.Common.{◌≡◌, ℕ, true, false, List, [], ◌∷◌, Option, Some, None, Result, Ok, Err, OnErr, OnOk, IfOk, refl, sym, ap, ◌∙◌}
use Rattle.std.specs.Prelude.{MatchOption}
use Rattle.zarrs_chunk.specs.Answer.{Answers, memory_or_fault}
use Rattle.zarrs_chunk.specs.declared.codec_error.CodecError.{CodecError}
use Rattle.zarrs_chunk.specs.Region.{Region}
use Rattle.zarrs_chunk.specs.Selection.{Selection}
use Rattle.zarrs_data_type.specs.Form.{Form}
use Rattle.zarrs_data_type.specs.declared.endianness.Endianness.{Endianness}
use Rattle.zarrs_array_bytes.specs.Held.{Held}
use Rattle.zarrs_array_regions.specs.KeptRegions.{kept_region}
use Rattle.zarrs_bytes.specs.PartialRead.{place_bytes, place_size}
use Rattle.zarrs_bytes.specs.PartialWrite.{bytes_left, bytes_replaced}
use Rattle.zarrs_codecs.specs.ChunkCalls.{ReplacesPlaces}
use Rattle.zarrs_codecs.specs.ChunkRead.{asks_in_part, form_in_place, planned_order, planned_region}
use Rattle.zarrs_chain_meaning.specs.ChunkForm.{ChunkForm}
use Rattle.zarrs_codecs.specs.CodecPart.{order_in_place, Part}
use Rattle.zarrs_chain_meaning.specs.CodecMeaning.{PlainCodec}
use Rattle.zarrs_codec.specs.Calls.{Calls, MakesWrite, after_reads, after_replacing, after_write}
use Rattle.zarrs_codec.specs.StorageState.{StorageState, value_indices}
use Rattle.zarrs_codecs.proofs.LawfulPart.{part_laws}
use Rattle.std.specs.Option.{option_map_or}

-- what holds anyway holds of an answer
pub anyway : {T E : Type 0} (r : Result T E) (P : Type 0) → P → OnOk r P
anyway (Ok x) P h = h
anyway (Err e) P h = tt

-- and what holds anyway of an error
pub refused_anyway : {T E : Type 0} (r : Result T E) (P : Type 0) → P → OnErr r P
refused_anyway (Ok x) P h = tt
refused_anyway (Err e) P h = h

accepted_is : {T : Type 0} (E : Type 0) (x : T) (numbers : List ℕ) (calls : Option Calls) → after_write {E = E} (Ok x) numbers calls ≡ after_replacing numbers calls
accepted_is E x numbers None = refl
accepted_is E x numbers (Some calls) = refl

-- a reading call, and then a writing one that replaces all of a new value
pub replaced_all : {T E : Type 0} (r : Result T E) (value : List ℕ) (after : Option (List ℕ)) (old mid new : Option Calls) → new ≡ after_write r (value_indices (Some value)) mid → mid ≡ after_reads 1 old → OnOk r (after ≡ Some value) → OnOk r (new ≡ after_replacing (value_indices after) (after_reads 1 old))
replaced_all {E = E} (Ok x) value after old mid new wrote read is =
    wrote ∙ accepted_is E x (value_indices (Some value)) mid ∙ ap (after_replacing (value_indices (Some value))) read ∙ ap (λ v. after_replacing (value_indices v) (after_reads 1 old)) (sym is)
replaced_all (Err e) value after old mid new wrote read is = tt

-- ---- in place

replaced_by : {T : Type 0} (r : Result T CodecError) (order : Option Endianness) (form : Form) (stored after : Option (List ℕ)) (places there : List ℕ) (new : Held) (mid now : Option Calls) → OnOk r (after ≡ Some (bytes_left order form stored places new)) → places ≡ there
    → OnOk r (now ≡ after_replacing (bytes_replaced order form stored places new) mid) → OnOk r (now ≡ after_replacing (option_map_or (λ _. place_bytes (place_size form.type) there) stored (value_indices after)) mid)
replaced_by (Ok x) order form None after places there new mid now left same counted = counted ∙ ap (λ v. after_replacing (value_indices v) mid) (sym left)
replaced_by (Ok x) order form (Some value) after places there new mid now left same counted = counted ∙ ap (λ ps. after_replacing (place_bytes (place_size form.type) ps) mid) same
replaced_by (Err e) order form stored after places there new mid now left same counted = tt

left_so : {V : Type 0} (r : Result (Unit {0}) CodecError) (after value : V) → Answers memory_or_fault (λ _. after) r (Ok value) → OnOk r (after ≡ value)
left_so {V} (Ok x) after value h = let is : ◌≡◌ {A = Result V CodecError} (Ok value) (Ok after) = h in cc
left_so (Err e) after value h = tt

-- what a write of `bytes` replaces, in the chain's words
pub replaced_so : (r : Result (Unit {0}) CodecError) (order : Option Endianness) (form : Form) (stored after : Option (List ℕ)) (places there : List ℕ) (new : Held) (mid now : Option Calls) → Answers memory_or_fault (λ _. after) r (Ok (Some (bytes_left order form stored places new))) → places ≡ there
    → OnOk r (now ≡ after_replacing (bytes_replaced order form stored places new) mid) → OnOk r (now ≡ after_replacing (option_map_or (λ _. place_bytes (place_size form.type) there) stored (value_indices after)) mid)
replaced_so r order form stored after places there new mid now answer same counted =
    replaced_by r order form stored after places there new mid now (left_so r after (Some (bytes_left order form stored places new)) answer) same counted

-- a call that answers nothing has counted nothing
refused_counts : {A E : Type 0} (r : Result A E) → IfOk r (λ _. Unit {0})
refused_counts (Ok x) = tt
refused_counts (Err e) = tt

pub refused_edit : {A E O : Type 0} (order : Option O) (r : Result A E) → MatchOption order (Unit {0}) (λ _. IfOk r (λ _. Unit {0}))
refused_edit None r = tt
refused_edit (Some order) r = refused_counts r

-- what an accepted edit asks the handle, by the byte order in which it writes in place
abbrev pub CountsByOrder : {H E T B : Type 0} → (H → Option Calls) → (H → StorageState) → ChunkForm B → Option (Option Endianness) → Selection → (before after : H) → Result T E → Type 0
CountsByOrder calls state form order selection before after result =
    MatchOption order (MakesWrite calls 1 (value_indices (state after).value) before after result)
    (λ _. IfOk (planned_order form selection) (λ places. ReplacesPlaces calls state form.type places before after result))

-- where the places are these, what holds of them holds of the answer
pub counted_at : {A E : Type 0} (r : Result A E) (x : A) (P : A → Type 0) → r ≡ Ok x → P x → IfOk r P
counted_at r x P e h = rw e h

-- places of a region that is kept, where the chain writes in place
pub in_place_region : {B : Type 0} (form : ChunkForm B) (selection : Selection) (found : Option Region) (order : Option Endianness) → form_in_place form ≡ Some order → kept_region form.chain.array_to_array form.sizes selection ≡ found → planned_region form selection ≡ found
in_place_region form selection found order e is = rw e is

-- ---- reads

-- where a chain writes in place, a read asks for a part of the value alone
pub asked_in_part : {B : Type 0} (outer : List B) (codec : PlainCodec B) (order : Option Endianness) → order_in_place outer codec ≡ Some order → asks_in_part outer codec ≡ false → ⊥
asked_in_part [] codec order e whole =
    let asks : asks_in_part [] codec ≡ true = (part_laws codec).plans_ask (ap (λ (p : Part _). p.plans) ((part_laws codec).in_place order e).does) in
    cc
asked_in_part (first ∷ rest) codec order e whole = cc
