use Rattle.std.proofs.Common.{◌∙◌, ap, drop, map, ◌+◌, ◌++◌, take, set, get_or, length}
use Rattle.std.proofs.Math.Seq.{map-set_same}
use Rattle.zarrs_array_bytes.specs.ArrayBytesDecodeIntoTarget.{view_name}
use Rattle.zarrs_array_bytes.specs.ArrayBytesFixedView.{view_of}
use Rattle.zarrs_array_bytes.specs.DecodeTarget.{written_masks, under_views, has_masks}
use Rattle.zarrs_array_bytes.specs.FixedView.{written_view}
use Rattle.zarrs_array_bytes.proofs.TargetLemmas.{left_views, mask_kind, level_len, levels_left, levels_under, levels_written}
use Rattle.zarrs_array_bytes.proofs.array_bytes_decode_into_target.write_mask.Goals as goal

pub optional_parts-requires : goal.optional_parts-requires
optional_parts-requires c =
    record { kind = mask_kind _ c.args.elements.now (left_views view_of c.args.masks.now c.args.level c.requires.level) c.requires.masks }

pub write-requires : goal.write-requires
write-requires c =
    record { enough = ap (λ bytes. length bytes) c.optional_parts.ensures.bytes ∙ level_len view_of c.args.masks.now c.args.level c.index-masks-level.result c.args.elements.now c.requires.level c.requires.masks }

pub returns-clause-masks : goal.returns-clause-masks
returns-clause-masks c =
    ap (λ held. has_masks (drop (c.args.level + 1) (map view_of (set c.args.masks.now c.args.level c.write.new.self))) held) c.optional_parts.ensures.inner
    ∙ levels_left view_of c.args.masks.now c.args.level c.index-masks-level.result c.write.new.self c.args.elements.now c.requires.level c.requires.masks

pub returns-clause-under : goal.returns-clause-under
returns-clause-under c =
    ap (λ held. under_views (drop (c.args.level + 1) (map view_of (set c.args.masks.now c.args.level c.write.new.self))) held) c.optional_parts.ensures.inner
    ∙ levels_under view_of c.args.masks.now c.args.level c.index-masks-level.result c.write.new.self c.args.elements.now c.requires.level

pub returns-clause-written : goal.returns-clause-written
returns-clause-written c =
    ap (λ held. take (c.args.level + 1) (map view_of (set c.args.masks.now c.args.level c.write.new.self)) ++ written_masks (drop (c.args.level + 1) (map view_of (set c.args.masks.now c.args.level c.write.new.self))) held) c.optional_parts.ensures.inner
    ∙ levels_written view_of c.args.masks.now c.args.level c.index-masks-level.result c.write.new.self c.args.elements.now c.requires.level
    (c.write.ensures.written ∙ ap (written_view (view_of (get_or c.args.masks.now c.args.level c.index-masks-level.result))) c.optional_parts.ensures.bytes)

pub returns-clause-mask_names : goal.returns-clause-mask_names
returns-clause-mask_names c = map-set_same view_name c.args.masks.now c.args.level c.write.new.self c.index-masks-level.result c.write.ensures.same_reference
