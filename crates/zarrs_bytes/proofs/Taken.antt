-- What is known of chunks that the codec accepts.
use Rattle.zarrs_data_type.specs.Form.{form_of}
use Rattle.std.proofs.Common.{◌≡◌, ℕ, ◌+◌, ◌-◌, ◌*◌, ◌<◌, ◌≤◌, ◌^◌, true, Option, Ok, List, arith, refl, ap, sym, ◌∙◌}
use Rattle.std.specs.Prelude.{is_ok, is_some}
use Rattle.zarrs_chunk.specs.ChunkShape.{product}
use Rattle.zarrs_data_type.specs.ElementType.{ElementType, fixed, text, bytes, optional, fixed_size_of}
use Rattle.zarrs_data_type.specs.FillValue.{fill_fits}
use Rattle.zarrs_data_type.specs.declared.endianness.Endianness.{Endianness}
use Rattle.zarrs_bytes.specs.BytesCodec.{bytes_length}
use Rattle.zarrs_bytes.specs.PartialRead.{place_size}
use Rattle.zarrs_bytes.proofs.Coding.{taken}
use Rattle.zarrs_bytes.proofs.PartWrites.{ok_length}
use Rattle.std.proofs.Math.Nat.{add-mul}

-- its type is fixed
pub taken_fixed : (order : Option Endianness) (sizes : List ℕ) (type : ElementType) (fill : List ℕ) → is_ok (bytes_length order (form_of sizes type fill)) ≡ true → is_some (fixed_size_of type) ≡ true
taken_fixed order sizes (fixed width components sign) fill h = refl
taken_fixed order sizes text fill h = absurd cc
taken_fixed order sizes bytes fill h = absurd cc
taken_fixed order sizes (optional type) fill h = absurd cc

-- its fill value fits the type
pub taken_fill : (order : Option Endianness) (sizes : List ℕ) (type : ElementType) (fill : List ℕ) → is_ok (bytes_length order (form_of sizes type fill)) ≡ true → fill_fits type fill ≡ true
taken_fill order sizes (fixed width components sign) fill h =
    let n = ok_length (bytes_length order (form_of sizes (fixed width components sign) fill)) h in
    (taken order sizes width components sign fill n.0 n.1).filled
taken_fill order sizes text fill h = absurd cc
taken_fill order sizes bytes fill h = absurd cc
taken_fill order sizes (optional type) fill h = absurd cc

-- 64 bits count its bytes
pub taken_small : (order : Option Endianness) (sizes : List ℕ) (type : ElementType) (fill : List ℕ) → is_ok (bytes_length order (form_of sizes type fill)) ≡ true → product sizes * place_size type < 2 ^ 64
taken_small order sizes (fixed width components sign) fill h =
    let n = ok_length (bytes_length order (form_of sizes (fixed width components sign) fill)) h in
    let t = taken order sizes width components sign fill n.0 n.1 in
    omega (arith, t.len_is, t.small)
taken_small order sizes text fill h = absurd cc
taken_small order sizes bytes fill h = absurd cc
taken_small order sizes (optional type) fill h = absurd cc

-- how long its value is
length_is : (order : Option Endianness) (sizes : List ℕ) (type : ElementType) (fill : List ℕ) (len : ℕ) → bytes_length order (form_of sizes type fill) ≡ Ok len → len ≡ product sizes * place_size type
length_is order sizes (fixed width components sign) fill len e = (taken order sizes width components sign fill len e).len_is
length_is order sizes text fill len e = absurd cc
length_is order sizes bytes fill len e = absurd cc
length_is order sizes (optional type) fill len e = absurd cc

up_to : (count other : ℕ) → count ≤ other → other ≡ count + (other - count)
up_to count other l = omega arith

-- the length rests on the count of elements
pub length_by_count : (order : Option Endianness) (sizes other_sizes : List ℕ) (type : ElementType) (fill : List ℕ) → product sizes ≡ product other_sizes → bytes_length order (form_of sizes type fill) ≡ bytes_length order (form_of other_sizes type fill)
length_by_count order sizes other_sizes (fixed width components sign) fill e = rw e refl
length_by_count order sizes other_sizes text fill e = refl
length_by_count order sizes other_sizes bytes fill e = refl
length_by_count order sizes other_sizes (optional type) fill e = refl

-- and grows with it
pub length_grows : (order : Option Endianness) (sizes other_sizes : List ℕ) (type : ElementType) (fill other_fill : List ℕ) (len other_len : ℕ)
    → bytes_length order (form_of sizes type fill) ≡ Ok len → bytes_length order (form_of other_sizes type other_fill) ≡ Ok other_len → product sizes ≤ product other_sizes
    → other_len ≡ len + (product other_sizes - product sizes) * place_size type
length_grows order sizes other_sizes type fill other_fill len other_len e f l =
    let size = place_size type in
    let more = product other_sizes - product sizes in
    length_is order other_sizes type other_fill other_len f
    ∙ ap (λ (count : ℕ). count * size) (up_to (product sizes) (product other_sizes) l)
    ∙ add-mul (product sizes) more size
    ∙ ap (λ (bytes : ℕ). bytes + more * size) (sym (length_is order sizes type fill len e))
