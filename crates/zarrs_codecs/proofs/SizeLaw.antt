-- How many bytes a cache has of what answers rest on.
use Rattle.zarrs_data_type.specs.ElementType.{ElementType}
use Rattle.std.proofs.Common.{◌≡◌, ℕ, ◌+◌, ◌-◌, ◌*◌, ◌^◌, min, true, Some, None, length, ap, sym, ◌∙◌}
use Rattle.std.proofs.lemmas.Bool.{false≢true}
use Rattle.zarrs_array_bytes.specs.Held.{Held, flen, vlen, masked, byte_count}
use Rattle.zarrs_array_bytes.specs.SameBytes.{is_same_held}
use Rattle.zarrs_array_bytes.specs.SameBytesLaws.{both_true, same_numbers}
use Rattle.zarrs_array_bytes.proofs.CountLaw.{containers_are_counted}
use Rattle.zarrs_array_bytes.proofs.TightLaw.{tight_are_same}
use Rattle.zarrs_codecs.specs.ChunkSource.{Source, bytes_above, chunk_below, IsSizeOf}
use Rattle.zarrs_codecs.specs.SizeLaws.{ChunkSizesAreExact}

pub chunk_sizes_are_exact : ChunkSizesAreExact
chunk_sizes_are_exact type each size chunk e (held, holds, tight, is) =
    is ∙ ap (λ (count : ℕ). min count (2 ^ 64 - 1)) (containers_are_counted type (length chunk) each held e holds.valid)

-- containers of the same bytes, offsets and masks are as many bytes
same_count : (held other : Held) → is_same_held held other ≡ true → byte_count held ≡ byte_count other
same_count (flen r) (flen q) e = ap length (same_numbers r.items q.items e)
same_count (flen r) (vlen q us) e = absurd (false≢true e)
same_count (flen r) (masked g k) e = absurd (false≢true e)
same_count (vlen r os) (flen q) e = absurd (false≢true e)
same_count (vlen r os) (vlen q us) e =
    ap (λ items. length items + 8 * length os) (same_numbers r.items q.items (both_true _ _ e).0)
    ∙ ap (λ offsets. length q.items + 8 * length offsets) (same_numbers os us (both_true _ _ e).1)
same_count (vlen r os) (masked g k) e = absurd (false≢true e)
same_count (masked h m) (flen q) e = absurd (false≢true e)
same_count (masked h m) (vlen q us) e = absurd (false≢true e)
same_count (masked h m) (masked g k) e =
    ap (λ count. count + length m.items) (same_count h g (both_true _ _ e).0)
    ∙ ap (λ mask. byte_count g + length mask) (same_numbers m.items k.items (both_true _ _ e).1)

pub sizes_are_exact : (type : ElementType) (size other : ℕ) (source : Source) → IsSizeOf type source size → IsSizeOf type source other → size ≡ other
sizes_are_exact type size other (bytes_above below None) first second = first ∙ sym second
sizes_are_exact type size other (bytes_above below (Some value)) first second = first ∙ sym second
sizes_are_exact type size other (chunk_below None) first second = first ∙ sym second
sizes_are_exact type size other (chunk_below (Some chunk)) (held, holds, tight, is) (held', holds', tight', is') =
    is ∙ ap (λ (count : ℕ). min count (2 ^ 64 - 1)) (same_count held held' (tight_are_same type held held' chunk tight tight' holds holds')) ∙ sym is'
