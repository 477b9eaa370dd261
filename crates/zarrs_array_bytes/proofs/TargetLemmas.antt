-- Decode targets: which chunks they accept, and what a container has for them.
use Rattle.std.proofs.Common.{◌≡◌, ℕ, ◌+◌, ◌*◌, ◌<◌, Bool, true, false, ◌==◌, ◌&&◌, List, [], ◌∷◌, ◌++◌, length, map, get_or, take, drop, set, IsOk, Ok, refl, sym, ap, ap₂, ◌∙◌, arith, eqb-true, eq-eqb}
use Rattle.std.proofs.lemmas.Bool.{false≢true, and_from}
use Rattle.std.proofs.lemmas.List.{length-drop, drop_more, drop-set-lt, take_more_set, get_or-map, length-map, map-set, append_assoc}
use Rattle.zarrs_chunk.specs.Answer.{demand}
use Rattle.zarrs_chunk.specs.declared.codec_error.CodecError.TheVariants.{InvalidBytesLength, UnsupportedTarget, TargetMismatch}
use Rattle.zarrs_data_type.specs.ElementType.{ElementType, fixed, text, bytes, optional, element_size}
use Rattle.zarrs_array_bytes.specs.DecodeTarget.{takes_elements, DecodeTarget, has_one_size, levels_taken, target_fit, has_masks, has_values, fills, under_views, written_masks}
use Rattle.zarrs_array_bytes.specs.FixedView.{FixedView, written_view}
use Rattle.zarrs_array_bytes.specs.Held.{Held, flen, vlen, masked}
use Rattle.zarrs_array_bytes.specs.Parts.{bytes_in, inner_in, optional_part}
use Rattle.zarrs_array_bytes.specs.Validity.{sizes_fit, levels_fit, validity}
use Rattle.zarrs_array_bytes.specs.SameBytesLaws.{both_true}
use Rattle.zarrs_array_bytes.proofs.ValidLemmas.{demand_ok, both_ok, length_found}

and_false : (a : Bool) (b : Bool) → b ≡ false → (a && b) ≡ false
and_false true b e = e
and_false false b e = refl

-- a target of another number of elements accepts no chunk
pub miscounted : (type : ElementType) (count : ℕ) (masks : List FixedView) (values : FixedView) → (length values.places == count) ≡ false → levels_taken type count masks values ≡ false
miscounted (fixed width components sign) count [] values e = and_false (values.element_size == element_size width components) (length values.places == count) e
miscounted (fixed width components sign) count (mask ∷ masks) values e = refl
miscounted text count masks values e = refl
miscounted bytes count masks values e = refl
miscounted (optional type) count [] values e = refl
miscounted (optional type) count (mask ∷ masks) values e = and_false (takes_elements mask 1 count) (levels_taken type count masks values) (miscounted type count masks values e)

-- ---- a container's masks

pub mask_kind : (views : List FixedView) (held : Held) → 0 < length views → has_masks views held ≡ true → IsOk (optional_part held)
mask_kind [] held l h = absurd (omega arith)
mask_kind (view ∷ views) (masked inner flags) l h = refl
mask_kind (view ∷ views) (flen raw) l h = absurd (false≢true h)
mask_kind (view ∷ views) (vlen raw offsets) l h = absurd (false≢true h)

mask_len : (view : FixedView) (views : List FixedView) (held : Held) → has_masks (view ∷ views) held ≡ true → length (bytes_in held) ≡ length view.places * view.element_size
mask_len view views (masked inner flags) h = eqb-true _ _ (both_true _ _ h).0
mask_len view views (flen raw) h = absurd (false≢true h)
mask_len view views (vlen raw offsets) h = absurd (false≢true h)

mask_rest : (view : FixedView) (views : List FixedView) (held : Held) → has_masks (view ∷ views) held ≡ true → has_masks views (inner_in held) ≡ true
mask_rest view views (masked inner flags) h = (both_true _ _ h).1
mask_rest view views (flen raw) h = absurd (false≢true h)
mask_rest view views (vlen raw offsets) h = absurd (false≢true h)

-- ---- the view of a level

pub left_views : {A : Type 0} (f : A → FixedView) (masks : List A) (level : ℕ) → level < length masks → 0 < length (drop level (map f masks))
left_views f masks level l = omega (arith, length-drop level (map f masks), length-map masks f)

first_view : {A : Type 0} (f : A → FixedView) (masks : List A) (level : ℕ) (d : A) → level < length masks → drop level (map f masks) ≡ f (get_or masks level d) ∷ drop (level + 1) (map f masks)
first_view f masks level d l =
    drop_more (map f masks) level (f d) (omega (arith, length-map masks f)) ∙ ap (λ v. v ∷ drop (level + 1) (map f masks)) (get_or-map f masks level d (f d) l)

other_views : {A : Type 0} (f : A → FixedView) (masks : List A) (level : ℕ) (w : A) → drop (level + 1) (map f (set masks level w)) ≡ drop (level + 1) (map f masks)
other_views f masks level w = ap (drop (level + 1)) (map-set f masks level w) ∙ drop-set-lt (level + 1) (map f masks) level (f w) (omega arith)

views_through : {A : Type 0} (f : A → FixedView) (masks : List A) (level : ℕ) (w : A) → level < length masks → take (level + 1) (map f (set masks level w)) ≡ take level (map f masks) ++ f w ∷ []
views_through f masks level w l = ap (take (level + 1)) (map-set f masks level w) ∙ take_more_set (map f masks) level (f w) (omega (arith, length-map masks f))

pub level_len : {A : Type 0} (f : A → FixedView) (masks : List A) (level : ℕ) (d : A) (held : Held) → level < length masks → has_masks (drop level (map f masks)) held ≡ true
    → length (bytes_in held) ≡ length (f (get_or masks level d)).places * (f (get_or masks level d)).element_size
level_len f masks level d held l h = mask_len (f (get_or masks level d)) (drop (level + 1) (map f masks)) held (ap (λ vs. has_masks vs held) (sym (first_view f masks level d l)) ∙ h)

pub levels_left : {A : Type 0} (f : A → FixedView) (masks : List A) (level : ℕ) (d w : A) (held : Held) → level < length masks → has_masks (drop level (map f masks)) held ≡ true
    → has_masks (drop (level + 1) (map f (set masks level w))) (inner_in held) ≡ true
levels_left f masks level d w held l h =
    ap (λ vs. has_masks vs (inner_in held)) (other_views f masks level w)
    ∙ mask_rest (f (get_or masks level d)) (drop (level + 1) (map f masks)) held (ap (λ vs. has_masks vs held) (sym (first_view f masks level d l)) ∙ h)

pub levels_under : {A : Type 0} (f : A → FixedView) (masks : List A) (level : ℕ) (d w : A) (held : Held) → level < length masks
    → under_views (drop (level + 1) (map f (set masks level w))) (inner_in held) ≡ under_views (drop level (map f masks)) held
levels_under f masks level d w held l =
    ap (λ vs. under_views vs (inner_in held)) (other_views f masks level w) ∙ ap (λ vs. under_views vs held) (sym (first_view f masks level d l))

pub levels_written : {A : Type 0} (f : A → FixedView) (masks : List A) (level : ℕ) (d w : A) (held : Held) → level < length masks → f w ≡ written_view (f (get_or masks level d)) (bytes_in held)
    → take (level + 1) (map f (set masks level w)) ++ written_masks (drop (level + 1) (map f (set masks level w))) (inner_in held) ≡ take level (map f masks) ++ written_masks (drop level (map f masks)) held
levels_written f masks level d w held l e =
    let before : List FixedView = take level (map f masks) in
    let behind : List FixedView = drop (level + 1) (map f masks) in
    ap (λ vs. vs ++ written_masks (drop (level + 1) (map f (set masks level w))) (inner_in held)) (views_through f masks level w l)
    ∙ ap (λ vs. (before ++ f w ∷ []) ++ written_masks vs (inner_in held)) (other_views f masks level w)
    ∙ append_assoc before (f w ∷ []) (written_masks behind (inner_in held))
    ∙ ap (λ v. before ++ (v ∷ written_masks behind (inner_in held))) e
    ∙ ap (λ vs. before ++ written_masks vs held) (sym (first_view f masks level d l))

-- ---- a container for a target that accepts its chunk

level_bytes : (view : FixedView) (size count n : ℕ) → takes_elements view size count ≡ true → n ≡ count * size → (n == length view.places * view.element_size) ≡ true
level_bytes view size count n t e =
    let sizes : view.element_size ≡ size = eqb-true _ _ (both_true _ _ t).0 in
    let counts : length view.places ≡ count = eqb-true _ _ (both_true _ _ t).1 in
    eq-eqb n _ (e ∙ ap₂ (λ a b. a * b) (sym counts) (sym sizes))

one_each : (n count : ℕ) → n ≡ count → n ≡ count * 1
one_each n count e = omega arith

abbrev pub LevelsFilled : List FixedView → FixedView → Held → Type 0
LevelsFilled masks values held = (has_masks masks held ≡ true) × (has_values values (under_views masks held) ≡ true)

levels_filled : (type : ElementType) (count : ℕ) (masks : List FixedView) (values : FixedView) (held : Held) → levels_taken type count masks values ≡ true → levels_fit InvalidBytesLength type count held ≡ Ok tt → LevelsFilled masks values held
levels_filled (fixed width components sign) count [] values (flen raw) t v = (refl, level_bytes values (element_size width components) count (length raw.items) t (length_found InvalidBytesLength _ _ v))
levels_filled (fixed width components sign) count [] values (vlen raw offsets) t v = cc
levels_filled (fixed width components sign) count [] values (masked inner flags) t v = cc
levels_filled (fixed width components sign) count (mask ∷ masks) values held t v = absurd (false≢true t)
levels_filled text count masks values held t v = absurd (false≢true t)
levels_filled bytes count masks values held t v = absurd (false≢true t)
levels_filled (optional type) count [] values held t v = absurd (false≢true t)
levels_filled (optional type) count (mask ∷ masks) values (flen raw) t v = cc
levels_filled (optional type) count (mask ∷ masks) values (vlen raw offsets) t v = cc
levels_filled (optional type) count (mask ∷ masks) values (masked inner flags) t v =
    let flagged : length flags.items ≡ count * 1 = one_each _ _ (length_found InvalidBytesLength _ _ (both_ok _ _ v).0) in
    let rest : LevelsFilled masks values inner = levels_filled type count masks values inner (both_true _ _ t).1 (both_ok _ _ v).1 in
    (and_from _ _ (level_bytes mask 1 count (length flags.items) (both_true _ _ t).0 flagged) rest.0, rest.1)

-- a container with so many elements of the type fills a target that accepts such a chunk
pub taken_filled : (type : ElementType) (count : ℕ) (target : DecodeTarget) (held : Held) → target_fit type count target ≡ Ok tt → validity type count held ≡ Ok tt → fills target held ≡ true
taken_filled type count target held t v =
    let taken : levels_taken type count target.masks target.values ≡ true = demand_ok _ TargetMismatch (both_ok (demand (has_one_size type) UnsupportedTarget) _ t).1 in
    let filled = levels_filled type count target.masks target.values held taken (both_ok (sizes_fit type count) _ v).1 in
    and_from _ _ filled.0 filled.1

-- the two parts of a container that fills a target
pub filled_parts : (target : DecodeTarget) (held : Held) → fills target held ≡ true → LevelsFilled target.masks target.values held
filled_parts target held f = both_true _ _ f
