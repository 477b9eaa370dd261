-- What holds of `reshape`.
use Rattle.std.proofs.Common.{◌≡◌, ℕ, List, Ok, refl, ap, sym}
use Rattle.zarrs_codec.specs.CoordinateMap.{CoordinateMap, same_places}
use Rattle.serde_json.specs.Written.{members_have_float}
use Rattle.zarrs_metadata.specs.Dims.{Dim}
use Rattle.zarrs_metadata.specs.ReshapeConfiguration.{read_reshape, write_reshape}
use Rattle.zarrs_metadata.proofs.ReadBack.{reshape-reads_back}
use Rattle.zarrs_array_to_array.specs.Reshape.{reshaped}
use Rattle.zarrs_array_to_array.specs.ReshapeMeaning.{reshape_coordinates, reshape_meaning}
use Rattle.zarrs_array_to_array.proofs.AnswerSteps.{step_ok}
use Rattle.zarrs_array_to_array.proofs.CleanMembers.{clean_members}
use Rattle.zarrs_array_to_array.proofs.CoordinateMaps.{same_places_map}
use Rattle.zarrs_array_to_array.proofs.Images.{reshaped_image}
use Rattle.zarrs_array_to_array.proofs.LawfulArray.{IsLawfulArray}
use Rattle.zarrs_array_to_array.proofs.Refusals.{bind_no_fault, reshaped_no_fault}
use Rattle.zarrs_array_to_array.proofs.Reshaping.{reshaped_product, reshaped_positive}
use Rattle.zarrs_array_to_array.proofs.SameMaps.{same_map}

-- where the sizes are accepted, places stay under these others
pub record IsReshaping (dims : List Dim) (sizes : List ℕ) (m : CoordinateMap) : Type 0 where
  pub encoded : List ℕ
  pub found : reshaped dims sizes ≡ Ok encoded
  pub is : same_places encoded ≡ m

pub taken_reshaping : (dims : List Dim) (sizes : List ℕ) (m : CoordinateMap) → reshape_coordinates dims sizes ≡ Ok m → IsReshaping dims sizes m
taken_reshaping dims sizes m h =
    let step = step_ok (reshaped dims sizes) (λ encoded. Ok (same_places encoded)) m h in
    record { encoded = step.0; found = step.1; is = same_map m (same_places step.0) step.2 }

pub reshape_laws : (dims : List Dim) → IsLawfulArray (reshape_meaning dims)
reshape_laws dims = record {
  taken_no_fault = λ type. refl;
  map_no_fault = λ sizes. bind_no_fault (reshaped dims sizes) (λ encoded. Ok (same_places encoded)) (reshaped_no_fault dims sizes) (λ _. refl);
  map_is = λ sizes m sound positive h. let t = taken_reshaping dims sizes m h in rw (← t.is) (same_places_map sizes t.encoded (reshaped_product dims sizes t.encoded sound t.found) (λ p. reshaped_positive dims sizes t.encoded sound t.found p));
  image_is = λ sizes m selection sound h inside. let t = taken_reshaping dims sizes m h in rw (← t.is) (reshaped_image sizes t.encoded selection (reshaped_product dims sizes t.encoded sound t.found) inside);
  stays_to = λ sizes m place keeps h. ap (λ (x : CoordinateMap). x.to place) (sym (taken_reshaping dims sizes m h).is);
  stays_from = λ sizes m place keeps h. ap (λ (x : CoordinateMap). x.from place) (sym (taken_reshaping dims sizes m h).is);
  box_sizes = λ sizes m boxes region h e. absurd (cc);
  box_kept = λ sizes m boxes region sound h e inside. absurd (cc);
  boxes_or_places = λ e. refl;
  part_fits = λ sizes lengths e h keeps. absurd (cc);
  clean = λ sound. clean_members (members_have_float (write_reshape dims)) (read_reshape (write_reshape dims)) dims (λ h. rw h refl) (reshape-reads_back dims sound);
}
