-- That a chunk that is kept is tight.
use Rattle.std.specs.Prelude.{None, Some}
use Rattle.std.proofs.Props.{props}
use Rattle.zarrs_data_type.specs.ElementType.{ElementType, fixed, text, bytes, optional}
use Rattle.zarrs_array_bytes.specs.Blank.{AbsentAreBlank}
use Rattle.zarrs_array_bytes.specs.Held.{Held, flen, vlen, masked}
use Rattle.zarrs_array_bytes.specs.Tight.{IsTight}
use Rattle.zarrs_codecs.specs.ElementCode.{Element-set}
use Rattle.zarrs_codecs.specs.declared.partial_decoder.cache.Cache.{Cache}
use Rattle.zarrs_codecs.specs.declared.partial_decoder.cache.Cache.TheVariants as kept

-- a chunk that is kept is tight: its offsets begin at 0 and end at the length of its bytes, its mask bytes are 0 and 1, and blank elements stand under absent ones
abbrev pub CacheIsTight : ElementType → Cache → Type 0
CacheIsTight type (kept.Chunk (Some held)) = IsTight type held
CacheIsTight type _ = Unit {0}

-- ---- both are propositions

AbsentAreBlank-prop : (type : ElementType) (held : Held) → IsProp (AbsentAreBlank type held)
AbsentAreBlank-prop (fixed width components sign) held = hlevel props
AbsentAreBlank-prop text held = hlevel props
AbsentAreBlank-prop bytes held = hlevel props
AbsentAreBlank-prop (optional type) (flen raw) = hlevel props
AbsentAreBlank-prop (optional type) (vlen raw offsets) = hlevel props
AbsentAreBlank-prop (optional type) (masked inner mask) =
    let inside : IsProp (AbsentAreBlank type inner) = AbsentAreBlank-prop type inner in
    hlevel (props, Element-set, inside)

IsTight-prop : (type : ElementType) (held : Held) → IsProp (IsTight type held)
IsTight-prop type held =
    let blank : IsProp (AbsentAreBlank type held) = AbsentAreBlank-prop type held in
    hlevel (props, blank)

pub CacheIsTight-prop : (type : ElementType) (cache : Cache) → IsProp (CacheIsTight type cache)
CacheIsTight-prop type kept.Handle = hlevel props
CacheIsTight-prop type (kept.Index index) = hlevel props
CacheIsTight-prop type (kept.Bytes below value) = hlevel props
CacheIsTight-prop type (kept.Chunk None) = hlevel props
CacheIsTight-prop type (kept.Chunk (Some held)) = IsTight-prop type held
