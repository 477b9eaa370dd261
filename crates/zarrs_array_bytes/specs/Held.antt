-- What a container of elements is seen as.
-- Source: zarrs, `ArrayBytes`.
use Rattle.std.specs.Prelude.{◌≡◌, ℕ, ◌+◌, ◌*◌, Bool, true, false, not, List, [], ◌∷◌, length, cond}
use Rattle.std.proofs.Common.{refl, ap, Global}
use Rattle.std.specs.Coded.{Coded, code_by, coded×, coded_ℕ, coded_bool, coded_list}
use Rattle.std.specs.declared.borrow.CowSlice.{CowSlice}
use Rattle.std.specs.declared.borrow.CowSlice.TheVariants as cow

-- bytes, and whether the container owns them
pub record Raw : Type 0 where
  pub items : List ℕ
  pub is_owned : Bool

-- bytes, and whether they are owned or borrowed
abbrev pub raw_of : CowSlice ℕ Global → Raw
raw_of (cow.Borrowed r) = record { items = r.now; is_owned = false }
raw_of (cow.Owned v) = record { items = v.items; is_owned = true }

-- the bytes alone, whoever owns them
abbrev pub items_of : CowSlice ℕ Global → List ℕ
items_of value = (raw_of value).items

-- bytes that the container owns
abbrev pub owned_bytes : List ℕ → Raw
owned_bytes items = record { items = items; is_owned = true }

-- Elements of one size, one after another; elements of any length, one after another, with where each begins and the last one ends; or elements under a mask with one byte for each, 0 for absent and 1 for present.
pub data Held : Type 0 where
  flen : Raw → Held
  vlen : Raw → List ℕ → Held
  masked : Held → Raw → Held

-- elements of one size whose bytes are lent
abbrev pub is_lent : Held → Bool
is_lent (flen raw) = not raw.is_owned
is_lent _ = false

-- how many masks are one over another
abbrev pub mask_levels : Held → ℕ
mask_levels (flen raw) = 0
mask_levels (vlen raw offsets) = 0
mask_levels (masked inner mask) = mask_levels inner + 1

-- how many bytes a container has: those of its elements, 8 for each offset, one for each mask byte
abbrev pub byte_count : Held → ℕ
byte_count (flen raw) = length raw.items
byte_count (vlen raw offsets) = length raw.items + 8 * length offsets
byte_count (masked inner mask) = byte_count inner + length mask.items

-- bytes are stored as a pair
abbrev raw_code : Coded Raw
raw_code =
    code_by (List ℕ × Bool) (coded× (coded_list coded_ℕ) coded_bool) (λ raw. (raw.items, raw.is_owned)) (λ p. record { items = p.0; is_owned = p.1 }) (λ _. refl)

-- a container as plain parts: the masks, the outermost first, and then what is under them, with true for elements of one size
abbrev HeldParts : Type 0
HeldParts = List Raw × (Bool × (Raw × List ℕ))

-- a container by its parts: the masks, the outermost first; whether elements have one size; their bytes, and their offsets
abbrev pub parts_of : Held → HeldParts
parts_of (flen raw) = ([], (true, (raw, [])))
parts_of (vlen raw offsets) = ([], (false, (raw, offsets)))
parts_of (masked inner mask) = (mask ∷ (parts_of inner).0, (parts_of inner).1)

-- a container under masks
abbrev under_masks : List Raw → Held → Held
under_masks [] held = held
under_masks (mask ∷ masks) held = masked (under_masks masks held) mask

-- the container of its parts
abbrev pub held_of_parts : HeldParts → Held
held_of_parts p = under_masks p.0 (cond p.1.0 (flen p.1.1.0) (vlen p.1.1.0 p.1.1.1))

-- the parts give the container back
pub held_of_parts-parts_of : (held : Held) → held_of_parts (parts_of held) ≡ held
held_of_parts-parts_of (flen raw) = refl
held_of_parts-parts_of (vlen raw offsets) = refl
held_of_parts-parts_of (masked inner mask) = ap (λ x. masked x mask) (held_of_parts-parts_of inner)

-- a container is stored as its parts
abbrev pub held_code : Coded Held
held_code =
    code_by HeldParts (coded× (coded_list raw_code) (coded× coded_bool (coded× raw_code (coded_list coded_ℕ)))) parts_of held_of_parts held_of_parts-parts_of
