-- What an update leaves holds the updated chunk.
use Rattle.std.proofs.Common.{◌≡◌, Bool, ℕ, zero, suc, ◌*◌, ◌<◌, List, [], ◌∷◌, length, map, set, get_or, Ok, refl, sym, ap, ap₂, ◌∙◌, arith, add-one}
use Rattle.std.specs.List.{concat, range_with_len}
use Rattle.std.proofs.lemmas.Simd.{map-map}
use Rattle.std.proofs.lemmas.List.{get_or-map, length-map}
use Rattle.std.proofs.lemmas.List.FromFn.{fill_by_all, get_or-map-range_with_len, length-map-range_with_len}
use Rattle.zarrs_chunk.specs.declared.codec_error.CodecError.TheVariants.{InvalidBytesLength}
use Rattle.zarrs_data_type.specs.ElementType.{ElementType, fixed, text, bytes, optional, element_size}
use Rattle.zarrs_data_type.specs.Element.{Element, absent, plain}
use Rattle.zarrs_array_bytes.specs.Held.{Raw, Held, flen, vlen, masked, owned_bytes}
use Rattle.zarrs_array_bytes.specs.Elements.{cut, under_flag, element_at, elements}
use Rattle.zarrs_array_bytes.specs.Validity.{LengthRefusal, sizes_fit, levels_fit, Holds}
use Rattle.zarrs_array_bytes.specs.Pieces.{pieces, bytes_with_offsets, variable_of}
use Rattle.zarrs_array_bytes.specs.Update.{update, cuts, container_update}
use Rattle.zarrs_array_bytes.proofs.ElementLemmas.{cut_at, length_ends}
use Rattle.zarrs_array_bytes.proofs.ValidLemmas.{both_ok, then_ok, length_found, length_due}
use Rattle.zarrs_array_bytes.proofs.Pieces.{AllSized, length-pieces, pieces_sized, length-concat, pieces-concat, elements-pieces}
use Rattle.zarrs_array_bytes.proofs.WriteLemmas.{length-update, map-update}

-- ---- parts of one size

pub set_sized : (size : ℕ) (parts : List (List ℕ)) (place : ℕ) (part : List ℕ) → AllSized size parts → length part ≡ size → AllSized size (set parts place part)
set_sized size [] place part h e = h
set_sized size (first ∷ parts) zero part h e = (e, h.1)
set_sized size (first ∷ parts) (suc place) part h e = (h.0, set_sized size parts place part h.1 e)

pub update_sized : (size : ℕ) (xs : List (List ℕ)) (ps : List ℕ) (ys : List (List ℕ)) → AllSized size xs → AllSized size ys → AllSized size (update xs ps ys)
update_sized size xs [] ys h e = h
update_sized size xs (p ∷ ps) [] h e = h
update_sized size xs (p ∷ ps) (y ∷ ys) h e = update_sized size (set xs p y) ps ys (set_sized size xs p y h e.0) e.1

-- ---- elements of any length

pub elements-cuts : (n : ℕ) (r : Raw) (os : List ℕ) → elements text n (vlen r os) ≡ map plain (cuts n os r.items)
elements-cuts n r os = sym (map-map plain (cut os r.items) (range_with_len 0 n))

elements-bytes_with_offsets : (parts : List (List ℕ)) (n : ℕ) → length parts ≡ n → elements text n (variable_of (bytes_with_offsets (λ part. part) parts)) ≡ map plain parts
elements-bytes_with_offsets parts n e =
    sym (fill_by_all (element_at text (variable_of (bytes_with_offsets (λ part. part) parts))) (map plain parts) n absent (length-map parts plain ∙ e) (λ k l.
    get_or-map plain parts k [] absent (omega arith) ∙ sym (ap plain (rw add-one (cut_at (λ (part : List ℕ). part) [] 0 parts k [] refl (omega arith))))))

length-cuts : (n : ℕ) (os xs : List ℕ) → length (cuts n os xs) ≡ n
length-cuts n os xs = length-map-range_with_len (cut os xs) 0 n

-- ---- elements under a mask

abbrev pub flags : List ℕ → List Element → List Element
flags [] es = []
flags (f ∷ fs) [] = []
flags (f ∷ fs) (e ∷ es) = under_flag f e ∷ flags fs es

length-flags : (fs : List ℕ) (es : List Element) → length fs ≡ length es → length (flags fs es) ≡ length fs
length-flags [] es e = refl
length-flags (f ∷ fs) [] e = absurd (omega arith)
length-flags (f ∷ fs) (x ∷ es) e = ap suc (length-flags fs es (omega arith))

get_or-flags : (fs : List ℕ) (es : List Element) (k : ℕ) → k < length fs → k < length es → get_or (flags fs es) k absent ≡ under_flag (get_or fs k 0) (get_or es k absent)
get_or-flags [] es k l m = absurd (omega arith)
get_or-flags (f ∷ fs) [] k l m = absurd (omega arith)
get_or-flags (f ∷ fs) (x ∷ es) zero l m = refl
get_or-flags (f ∷ fs) (x ∷ es) (suc k) l m = get_or-flags fs es k (omega arith) (omega arith)

flags-set : (fs : List ℕ) (es : List Element) (p f : ℕ) (e : Element) → flags (set fs p f) (set es p e) ≡ set (flags fs es) p (under_flag f e)
flags-set [] es p f e = refl
flags-set (g ∷ fs) [] zero f e = refl
flags-set (g ∷ fs) [] (suc p) f e = refl
flags-set (g ∷ fs) (x ∷ es) zero f e = refl
flags-set (g ∷ fs) (x ∷ es) (suc p) f e = ap (λ ys. under_flag g x ∷ ys) (flags-set fs es p f e)

flags-update : (fs : List ℕ) (es : List Element) (ps gs : List ℕ) (ds : List Element) → length gs ≡ length ds → flags (update fs ps gs) (update es ps ds) ≡ update (flags fs es) ps (flags gs ds)
flags-update fs es [] gs ds l = refl
flags-update fs es (p ∷ ps) [] [] l = refl
flags-update fs es (p ∷ ps) [] (d ∷ ds) l = absurd (omega arith)
flags-update fs es (p ∷ ps) (g ∷ gs) [] l = absurd (omega arith)
flags-update fs es (p ∷ ps) (g ∷ gs) (d ∷ ds) l =
    flags-update (set fs p g) (set es p d) ps gs ds (omega arith) ∙ ap (λ xs. update xs ps (flags gs ds)) (flags-set fs es p g d)

pub length-elements : (t : ElementType) (n : ℕ) (h : Held) → length (elements t n h) ≡ n
length-elements t n h = length-map-range_with_len (element_at t h) 0 n

pub elements-flags : (t : ElementType) (n : ℕ) (h : Held) (m : Raw) → length m.items ≡ n → elements (optional t) n (masked h m) ≡ flags m.items (elements t n h)
elements-flags t n h m e =
    let count : length m.items ≡ length (elements t n h) = e ∙ sym (length-elements t n h) in
    sym (fill_by_all (element_at (optional t) (masked h m)) (flags m.items (elements t n h)) n absent (length-flags m.items (elements t n h) count ∙ e) (λ k l.
    get_or-flags m.items (elements t n h) k (omega arith) (omega (arith, count)) ∙ ap (under_flag (get_or m.items k 0)) (get_or-map-range_with_len (element_at t h) 0 n k k absent l (omega arith))))

-- ---- the theorem

-- an updated container has the kind and the count, and its elements are the update
record IsUpdated (refusal : LengthRefusal) (t : ElementType) (n : ℕ) (old : List Element) (ps : List ℕ) (new : List Element) (h : Held) : Type 0 where
  fits : levels_fit refusal t n h ≡ Ok tt
  are : elements t n h ≡ update old ps new

module _ (refusal other : LengthRefusal) where
  updated_fixed : (w c : ℕ) (s : Bool) (n m : ℕ) (r q : Raw) (ps : List ℕ) → length r.items ≡ n * element_size w c → length q.items ≡ m * element_size w c
      → IsUpdated refusal (fixed w c s) n (elements (fixed w c s) n (flen r)) ps (elements (fixed w c s) m (flen q)) (container_update (fixed w c s) n (flen r) m (flen q) ps)
  updated_fixed w c s n m r q ps e f =
      let size : ℕ = element_size w c in
      let parts : List (List ℕ) = update (pieces size n r.items) ps (pieces size m q.items) in
      let count : length parts ≡ n = length-update (pieces size n r.items) ps (pieces size m q.items) ∙ length-pieces size n r.items in
      let sized : AllSized size parts = update_sized size (pieces size n r.items) ps (pieces size m q.items) (pieces_sized size n r.items (omega arith)) (pieces_sized size m q.items (omega arith)) in
      record {
        fits = length_due refusal _ _ (length-concat size parts sized ∙ ap (λ k. k * size) count);
        are = elements-pieces w c s n (owned_bytes (concat parts)) ∙ ap (map plain) (ap (λ k. pieces size k (concat parts)) (sym count) ∙ pieces-concat size parts sized)
            ∙ map-update plain (pieces size n r.items) ps (pieces size m q.items)
            ∙ ap₂ (λ xs ys. update xs ps ys) (sym (elements-pieces w c s n r)) (sym (elements-pieces w c s m q));
      }

  updated_text : (n m : ℕ) (r q : Raw) (os us ps : List ℕ) → IsUpdated refusal text n (elements text n (vlen r os)) ps (elements text m (vlen q us)) (container_update text n (vlen r os) m (vlen q us) ps)
  updated_text n m r q os us ps =
      let parts : List (List ℕ) = update (cuts n os r.items) ps (cuts m us q.items) in
      let count : length parts ≡ n = length-update (cuts n os r.items) ps (cuts m us q.items) ∙ length-cuts n os r.items in
      record {
        fits = length_due refusal _ _ (omega (arith, length_ends 0 (map (λ (part : List ℕ). part) parts), length-map parts (λ (part : List ℕ). part), count));
        are = elements-bytes_with_offsets parts n count ∙ map-update plain (cuts n os r.items) ps (cuts m us q.items)
            ∙ ap₂ (λ xs ys. update xs ps ys) (sym (elements-cuts n r os)) (sym (elements-cuts m q us));
      }

  updated_is : (t : ElementType) (n m : ℕ) (h g : Held) (ps : List ℕ) → levels_fit refusal t n h ≡ Ok tt → levels_fit other t m g ≡ Ok tt
      → IsUpdated refusal t n (elements t n h) ps (elements t m g) (container_update t n h m g ps)
  updated_is (fixed w c s) n m (flen r) (flen q) ps e f = updated_fixed w c s n m r q ps (length_found refusal _ _ e) (length_found other _ _ f)
  updated_is text n m (vlen r os) (vlen q us) ps e f = updated_text n m r q os us ps
  updated_is bytes n m (vlen r os) (vlen q us) ps e f =
      let same = updated_text n m r q os us ps in
      record { fits = same.fits; are = same.are }
  updated_is (optional t) n m (masked h a) (masked g b) ps e f =
      let inner = updated_is t n m h g ps (both_ok _ _ e).1 (both_ok _ _ f).1 in
      let old : length a.items ≡ n = length_found refusal _ _ (both_ok _ _ e).0 in
      let new : length b.items ≡ m = length_found other _ _ (both_ok _ _ f).0 in
      let count : length (update a.items ps b.items) ≡ n = length-update a.items ps b.items ∙ old in
      record {
        fits = then_ok _ _ (length_due refusal _ _ count) inner.fits;
        are = elements-flags t n (container_update t n h m g ps) (owned_bytes (update a.items ps b.items)) count ∙ ap (flags (update a.items ps b.items)) inner.are
            ∙ flags-update a.items (elements t n h) ps b.items (elements t m g) (new ∙ sym (length-elements t m g))
            ∙ ap₂ (λ xs ys. update xs ps ys) (sym (elements-flags t n h a old)) (sym (elements-flags t m g b new));
      }
  updated_is _ n m h g ps e f = cc

-- the elements of an updated container are the update of the elements
pub updated_are : (refusal other : LengthRefusal) (t : ElementType) (n m : ℕ) (h g : Held) (ps : List ℕ) → levels_fit refusal t n h ≡ Ok tt → levels_fit other t m g ≡ Ok tt
    → elements t n (container_update t n h m g ps) ≡ update (elements t n h) ps (elements t m g)
updated_are refusal other t n m h g ps e f = (updated_is refusal other t n m h g ps e f).are

-- what an update leaves holds the updated chunk
pub updated_holds : (t : ElementType) (n m : ℕ) (h g a : Held) (ps : List ℕ) (other : LengthRefusal) → levels_fit InvalidBytesLength t n h ≡ Ok tt → levels_fit other t m g ≡ Ok tt → sizes_fit t n ≡ Ok tt
    → container_update t n h m g ps ≡ a → Holds t a (update (elements t n h) ps (elements t m g))
updated_holds t n m h g a ps other e f sizes is =
    let both = updated_is InvalidBytesLength other t n m h g ps e f in
    let count : length (update (elements t n h) ps (elements t m g)) ≡ n = length-update (elements t n h) ps (elements t m g) ∙ length-elements t n h in
    rw (← is) (record {
      valid = rw count (then_ok _ _ sizes both.fits);
      elements_are = rw count both.are;
    })
