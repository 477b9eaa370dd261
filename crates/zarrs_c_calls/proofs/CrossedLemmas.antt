-- What containers cross as, by what their calls lend of them.
use Rattle.std.proofs.Common.{◌≡◌, ℕ, List, [], Ok, Err, refl}
use Rattle.zarrs_chunk.specs.declared.codec_error.CodecError.{CodecError}
use Rattle.zarrs_array_bytes.specs.Held.{Held, flen, vlen, masked}
use Rattle.zarrs_array_bytes.specs.Parts.{fixed_items}
use Rattle.zarrs_shard_bytes.proofs.FillTests.{optional_items, variable_items}
use Rattle.zarrs_c_calls.specs.Buffers.{buffers, crossed, masked_buffers}

-- under a mask: with the mask in front
pub crossed_masked : (held : Held) (parts : Held × List ℕ) → Ok parts ≡ optional_items held → crossed held ≡ masked_buffers parts.1 (crossed parts.0)
crossed_masked (flen raw) parts e = absurd (cc)
crossed_masked (vlen raw offsets) parts e = absurd (cc)
crossed_masked (masked inner mask) parts e =
    let inside : parts.0 ≡ inner = cc in
    let flags : parts.1 ≡ mask.items = cc in
    rw (inside, flags) refl

-- without a mask: no mask bytes
pub crossed_unmasked : (held : Held) (error : CodecError) → Err error ≡ optional_items held → (crossed held).masks ≡ []
crossed_unmasked (flen raw) error e = refl
crossed_unmasked (vlen raw offsets) error e = refl
crossed_unmasked (masked inner mask) error e = absurd (cc)

-- of any length: offsets and bytes
pub crossed_variable : (held : Held) (parts : List ℕ × List ℕ) → Ok parts ≡ variable_items held → crossed held ≡ buffers [] parts.1 parts.0
crossed_variable (flen raw) parts e = absurd (cc)
crossed_variable (vlen raw offsets) parts e =
    let items : parts.0 ≡ raw.items = cc in
    let starts : parts.1 ≡ offsets = cc in
    rw (items, starts) refl
crossed_variable (masked inner mask) parts e = absurd (cc)

-- of one size: bytes alone
pub crossed_fixed : (held : Held) (items : List ℕ) → Ok items ≡ fixed_items held → crossed held ≡ buffers [] [] items
crossed_fixed (flen raw) items e =
    let same : items ≡ raw.items = cc in
    rw same refl
crossed_fixed (vlen raw offsets) items e = absurd (cc)
crossed_fixed (masked inner mask) items e = absurd (cc)

-- neither under a mask nor of any length: no offsets
pub crossed_unvaried : (held : Held) (error other : CodecError) → Err error ≡ optional_items held → Err other ≡ variable_items held → (crossed held).offsets ≡ []
crossed_unvaried (flen raw) error other e f = refl
crossed_unvaried (vlen raw offsets) error other e f = absurd (cc)
crossed_unvaried (masked inner mask) error other e f = absurd (cc)

-- every container is of one of the three kinds
pub crossed_some : (held : Held) (error other third : CodecError) → Err error ≡ optional_items held → Err other ≡ variable_items held → Err third ≡ fixed_items held → (crossed held).bytes ≡ []
crossed_some (flen raw) error other third e f g = absurd (cc)
crossed_some (vlen raw offsets) error other third e f g = absurd (cc)
crossed_some (masked inner mask) error other third e f g = absurd (cc)
