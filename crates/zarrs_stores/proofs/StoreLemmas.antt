-- Values of one key, and calls for one key.
use Rattle.std.proofs.Common.{◌≡◌, ◌≢◌, ◌∙◌, ℕ, Bool, true, false, List, Option, option_map, if◌then◌else◌, String, BTreeMap, Global, string_bytes, string_cmp, nat_cmp, refl, sym, ap}
use Rattle.std.specs.Prelude.{Decides, Vec, bytes_eq}
use Rattle.std.specs.BTreeMap.{get_by_text, UpdatesBy}
use Rattle.std.specs.Cmp.Lexicographic.{slice_cmp}
use Rattle.std.proofs.lemmas.Map.{update_other, update_same}
use Rattle.std.proofs.lemmas.Map.Text.{btree_map_updates_text}
use Rattle.std.proofs.lemmas.Slice.Eq.{bytes_eq-Decides}
use Rattle.zarrs_codec.specs.StorageState.{count_if}
use Rattle.zarrs_stores.specs.StoreState.{AsksOnly, SetsValue}
use Rattle.zarrs_stores.specs.WatchedStore.{counted_for}

-- a test that decides a false fact is false
false_from_Decides : {P : Type 0} (r : Bool) → Decides r P → ¬ P → r ≡ false
false_from_Decides true d refutes = absurd (refutes (d.0 refl))
false_from_Decides false d refutes = refl

differ : (bs cs : List ℕ) → cs ≢ bs → bytes_eq bs cs ≡ false
differ bs cs apart = false_from_Decides (bytes_eq bs cs) (bytes_eq-Decides bs cs) (λ e. apart (sym e))

same : (bs cs : List ℕ) → bs ≡ cs → bytes_eq bs cs ≡ true
same bs cs e = (bytes_eq-Decides bs cs).1 e

abbrev Values : Type 0
Values = BTreeMap (String Global) (Vec ℕ Global)

-- the values of a map's keys
abbrev value_at : Values → List ℕ → Option (List ℕ)
value_at m key = option_map (λ value. value.items) (get_by_text m key)

-- a change at the key bs, which is `key`, sets its value
pub value_set : (bs key : List ℕ) (m n : Values) (w : Option (Vec ℕ Global)) → bs ≡ key → UpdatesBy string_cmp (λ k. slice_cmp nat_cmp bs (string_bytes k)) m n w
    → SetsValue key (option_map (λ value. value.items) w) (value_at m) (value_at n)
value_set bs key m n w is updates = record {
  there = ap (option_map (λ (value : Vec ℕ Global). value.items)) (btree_map_updates_text bs m n w updates key ∙ update_same bytes_eq (get_by_text m) bs w key (same bs key is));
  others = λ other apart.
      ap (option_map (λ (value : Vec ℕ Global). value.items))
      (btree_map_updates_text bs m n w updates other ∙ update_other bytes_eq (get_by_text m) bs w other (differ bs other (λ e. apart (e ∙ is))));
}

-- ---- calls for a key

-- a store that counts the calls for one key counts them for no other
pub asks_watched : (watched key : List ℕ) (n : ℕ) (after : List ℕ → ℕ) → after ≡ counted_for watched key (λ other. if bytes_eq watched other then n else 0)
    → AsksOnly key (λ other. if bytes_eq watched other then n else 0) after
asks_watched watched key n after e = λ other apart. ap (λ (asked : List ℕ → ℕ). asked other) e ∙ at other apart (bytes_eq watched other) refl
  where
    at : (other : List ℕ) → other ≢ key → (test : Bool) → bytes_eq watched other ≡ test
        → (if test then count_if (bytes_eq watched key) (if test then n else 0) else 0) ≡ (if test then n else 0)
    at other apart false is = refl
    at other apart true is =
        let here : watched ≡ other = (bytes_eq-Decides watched other).0 is in
        ap (λ (b : Bool). count_if b n) (differ watched key (λ e. apart (sym (e ∙ here))))
