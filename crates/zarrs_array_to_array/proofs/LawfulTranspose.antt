-- What holds of `transpose`.
use Rattle.std.proofs.Common.{◌≡◌, ◌==◌, ℕ, not, true, false, Some, List, length, Ok, refl, ap, sym, ◌∙◌, inl, inr}
use Rattle.std.specs.Prelude.{is_ok, is_some}
use Rattle.std.proofs.lemmas.Bool.{cases_Bool, eq-eqb, eqb-true}
use Rattle.serde_json.specs.Written.{members_have_float}
use Rattle.zarrs_chunk.specs.Answer.{demand}
use Rattle.zarrs_chunk.specs.AnswerLaws.{demand_ok}
use Rattle.zarrs_chunk.specs.Region.{Region}
use Rattle.zarrs_chunk.specs.declared.codec_error.CodecError.TheVariants.{IncompatibleDimensionality, UnsupportedDataType}
use Rattle.zarrs_codec.specs.CoordinateMap.{CoordinateMap}
use Rattle.zarrs_data_type.specs.ElementType.{inner_of}
use Rattle.zarrs_metadata.specs.TransposeConfiguration.{read_transpose, write_transpose}
use Rattle.zarrs_metadata.proofs.Orders.{order_parts}
use Rattle.zarrs_metadata.proofs.ReadBack.{transpose-reads_back}
use Rattle.zarrs_array_to_array.specs.ArrayMeaning.{BoxMap}
use Rattle.zarrs_array_to_array.specs.Transpose.{transposition}
use Rattle.zarrs_array_to_array.specs.TransposeMeaning.{transpose_box, transpose_coordinates, transpose_meaning}
use Rattle.zarrs_array_to_array.specs.declared.transpose.transpose_codec.TheConstants.{TRANSPOSE}
use Rattle.zarrs_array_to_array.proofs.AnswerSteps.{some_is, step_ok}
use Rattle.zarrs_array_to_array.proofs.CleanMembers.{clean_members}
use Rattle.zarrs_array_to_array.proofs.Images.{transposed_image}
use Rattle.zarrs_array_to_array.proofs.LawfulArray.{IsLawfulArray}
use Rattle.zarrs_array_to_array.proofs.Orders.{eq_true}
use Rattle.zarrs_array_to_array.proofs.Refusals.{bind_no_fault, demand_no_fault}
use Rattle.zarrs_array_to_array.proofs.SameMaps.{same_map}
use Rattle.zarrs_array_to_array.proofs.TransposedBoxes.{transposed_box_kept}
use Rattle.zarrs_array_to_array.proofs.Transposition.{transposition_map}

-- where the sizes are accepted, the order has as many axes, and this is what it does to them
pub record IsTransposition (order sizes : List ℕ) (m : CoordinateMap) : Type 0 where
  pub axes : length order ≡ length sizes
  pub is : transposition order sizes ≡ m

pub taken_transposition : (order sizes : List ℕ) (m : CoordinateMap) → transpose_coordinates order sizes ≡ Ok m → IsTransposition order sizes m
taken_transposition order sizes m h =
    let step = step_ok (demand (length order == length sizes) IncompatibleDimensionality) (λ _. Ok (transposition order sizes)) m h in
    record { axes = eq_true _ _ (demand_ok (length order == length sizes) IncompatibleDimensionality step.1); is = same_map m (transposition order sizes) step.2 }

axes_taken : (order sizes : List ℕ) → is_ok (transpose_coordinates order sizes) ≡ true → length order ≡ length sizes
axes_taken order sizes h =
    elim (cases_Bool (length order == length sizes)) [
      | inl same ↦ eqb-true (length order) (length sizes) same
      | inr other ↦ absurd (let bad : false ≡ true = rw other at h in cc)
    ]

pub transpose_laws : (order : List ℕ) → IsLawfulArray (transpose_meaning order)
transpose_laws order = record {
  taken_no_fault = λ type. demand_no_fault (not (is_some (inner_of type))) (UnsupportedDataType TRANSPOSE) refl;
  map_no_fault = λ sizes. bind_no_fault (demand (length order == length sizes) IncompatibleDimensionality) (λ _. Ok (transposition order sizes)) (demand_no_fault (length order == length sizes) IncompatibleDimensionality refl) (λ _. refl);
  map_is = λ sizes m sound positive h. let t = taken_transposition order sizes m h in rw (← t.is) (transposition_map order sizes (order_parts order sound) t.axes);
  image_is = λ sizes m selection sound h inside. let t = taken_transposition order sizes m h in rw (← t.is) (transposed_image order sizes selection (order_parts order sound) t.axes inside);
  stays_to = λ sizes m place keeps h. absurd (cc);
  stays_from = λ sizes m place keeps h. absurd (cc);
  box_sizes = λ sizes m boxes region h e. let t = taken_transposition order sizes m h in ap (λ (x : CoordinateMap). x.encoded) (sym t.is) ∙ boxes_at sizes region boxes e;
  box_kept = λ sizes m boxes region sound h e inside. let t = taken_transposition order sizes m h in rw (← t.is, ← some_is (transpose_box order) boxes e) (transposed_box_kept order sizes region (order_parts order sound) t.axes inside);
  boxes_or_places = λ e. absurd (cc);
  part_fits = λ sizes lengths e h keeps. rw (eq-eqb (length order) (length lengths) (axes_taken order sizes h ∙ sym e)) refl;
  clean = λ sound. clean_members (members_have_float (write_transpose order)) (read_transpose (write_transpose order)) order (λ h. rw h refl) (transpose-reads_back order sound);
}
  where
    boxes_at : (sizes : List ℕ) (region : Region) (boxes : BoxMap) → (transpose_meaning order).boxes ≡ Some boxes → (transposition order sizes).encoded ≡ (boxes sizes region).0
    boxes_at sizes region boxes e = ap (λ (box : BoxMap). (box sizes region).0) (some_is (transpose_box order) boxes e)
