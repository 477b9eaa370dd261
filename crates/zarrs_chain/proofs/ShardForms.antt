-- What is known of a chunk that `sharding_indexed` takes.
use Rattle.std.proofs.Common.{◌≡◌, ℕ, ◌<◌, ◌≤◌, ◌^◌, ◌==◌, true, List, length, Ok, IsOk, arith, refl, sym, subst, ◌∙◌}
use Rattle.std.specs.List.{All}
use Rattle.zarrs_chunk.specs.Answer.{checked_u64, demand}
use Rattle.zarrs_chunk.specs.ChunkShape.{product}
use Rattle.zarrs_chunk.specs.declared.codec_error.CodecError.{CodecError}
use Rattle.zarrs_chunk.specs.declared.codec_error.CodecError.TheVariants.{IncompatibleDimensionality, IndivisibleShape}
use Rattle.zarrs_chunk.proofs.Inside.{lt_test}
use Rattle.zarrs_data_type.specs.ElementType.{ElementType}
use Rattle.zarrs_data_type.specs.FillValue.{fill_fits}
use Rattle.zarrs_array_bytes.specs.Validity.{sizes_fit}
use Rattle.zarrs_codec.specs.BytesToBytesCodec.{BytesCodecs}
use Rattle.zarrs_codec.specs.declared.bytes_representation.BytesRepresentation.{BytesRepresentation}
use Rattle.zarrs_chain_meaning.specs.CodecMeaning.{PlainChain, codec_normal_element, chain_representation}
use Rattle.zarrs_chain_meaning.specs.sharding.InnerChunks.{grid, inner_chunk_count, is_divided}
use Rattle.zarrs_chain_meaning.specs.sharding.ShardSteps.{divided_grid}
use Rattle.zarrs_bytes.proofs.Coding.{bind_ok, demand_ok, ok}
use Rattle.zarrs_chain_meaning.proofs.Answered.{from_ok}
use Rattle.zarrs_chain_meaning.proofs.ArraySteps.{counted_so, err, ok_is, ok_no_err}
use Rattle.zarrs_chain_meaning.proofs.CodecLaws.{chain_laws}
use Rattle.zarrs_chain_meaning.proofs.InnerChunks.{positive_product}
use Rattle.zarrs_chain_meaning.proofs.NestedStages.{is_positive}
use Rattle.zarrs_chain_meaning.proofs.ShardNormal.{shard_taken}
use Rattle.zarrs_chain_meaning.proofs.OptionalSteps.{counted_small}
use Rattle.zarrs_chain_meaning.proofs.ShardSizes.{cut_count}
use Rattle.zarrs_array_to_array.proofs.PlaneRows.{places_are_bytes}
use Rattle.zarrs_chain.specs.ChainView.{plain_chain}
use Rattle.zarrs_chain.specs.declared.codec_chain.CodecChain.{CodecChain}
use Rattle.zarrs_chain.specs.sharding.ShardingCalls.{IsNormalFill, IsShardForm, shard_represented}
use Rattle.zarrs_shard_bytes.proofs.Sizes.{fewer_fit, inner_smaller}

pub small_counted : (n : ℕ) → n < 2 ^ 64 → checked_u64 n ≡ Ok n
small_counted n l = rw (lt_test n (2 ^ 64) l) refl

pub count_smaller : (shape sizes : List ℕ) → All is_positive shape → is_divided shape sizes ≡ true → inner_chunk_count shape sizes ≤ product sizes
count_smaller shape sizes p d =
    let more = places_are_bytes (inner_chunk_count shape sizes) (product shape) (positive_product shape p) in
    omega (arith, more, cut_count shape sizes d)

pub fill_of_chain : {B : Type 0} (f : BytesCodecs B) (chain : PlainChain B) (sizes : List ℕ) (type : ElementType) (fill : List ℕ) (r : BytesRepresentation) → chain_representation f chain sizes type fill ≡ Ok r → fill_fits type fill ≡ true
fill_of_chain f chain sizes type fill r e = (chain_laws chain).fits f sizes type fill r e

pub taken_form_is : {B : Type 0} (f : BytesCodecs B) (inner index : CodecChain B) (shape sizes : List ℕ) (type : ElementType) (fill : List ℕ) → All is_positive shape → All is_positive sizes
    → IsOk (shard_represented f inner index shape sizes type fill) → IsShardForm shape sizes type fill
taken_form_is f inner index shape sizes type fill p positive h =
    let known = from_ok (shard_represented f inner index shape sizes type fill) h in
    let t = shard_taken shape (codec_normal_element (plain_chain inner).array_to_bytes) (chain_representation f (plain_chain inner)) (chain_representation f (plain_chain index)) sizes type fill known.0 known.1 in
    let small = counted_small (product sizes) t.counted in
    let less = inner_smaller shape sizes p positive t.divided in
    record {
      divided = t.divided;
      counted = t.counted;
      small = small;
      room = t.fitting;
      inner_counted = small_counted (product shape) (omega (arith, small, less));
      filling = fill_of_chain f (plain_chain inner) shape type fill t.inner_size t.inner_is;
    }

pub taken_normal : {B : Type 0} (f : BytesCodecs B) (inner index : CodecChain B) (shape sizes : List ℕ) (type : ElementType) (fill : List ℕ) → IsOk (shard_represented f inner index shape sizes type fill) → IsNormalFill inner.array_to_bytes type fill
taken_normal f inner index shape sizes type fill h =
    let known = from_ok (shard_represented f inner index shape sizes type fill) h in
    (shard_taken shape (codec_normal_element (plain_chain inner).array_to_bytes) (chain_representation f (plain_chain inner)) (chain_representation f (plain_chain index)) sizes type fill known.0 known.1).filled

-- ---- one element

pub one_room : (type : ElementType) (sizes : List ℕ) → All is_positive sizes → sizes_fit type (product sizes) ≡ Ok tt → sizes_fit type 1 ≡ Ok tt
one_room type sizes positive h = let one : 1 ≤ product sizes = omega (arith, positive_product sizes positive) in fewer_fit type 1 (product sizes) one h

-- ---- how many inner chunks there are

pub divided_so : (shape sizes counts : List ℕ) → divided_grid shape sizes ≡ Ok counts → (is_divided shape sizes ≡ true) × (grid shape sizes ≡ counts)
divided_so shape sizes counts e =
    let a = bind_ok (demand (length shape == length sizes) IncompatibleDimensionality) _ counts e in
    let b = bind_ok (demand (is_divided shape sizes) IndivisibleShape) _ counts a.2 in
    (demand_ok (is_divided shape sizes) IndivisibleShape b.0 b.1, ok_is (grid shape sizes) counts b.2)

-- 64 bits count the inner chunks of a chunk whose elements they count
pub grid_counted : (shape sizes counts : List ℕ) (n : ℕ) (cause : CodecError) → All is_positive shape → divided_grid shape sizes ≡ Ok counts → ok n ≡ checked_u64 (product sizes) → err cause ≡ checked_u64 (product counts) → ⊥
grid_counted shape sizes counts n cause p e count refused =
    let d = divided_so shape sizes counts e in
    let small = counted_small (product sizes) (counted_so (product sizes) n (sym count)) in
    let less = count_smaller shape sizes p d.0 in
    let is : checked_u64 (product counts) ≡ Ok (product counts) = subst (λ (ns : List ℕ). checked_u64 (product ns) ≡ Ok (product ns)) d.1 (small_counted (product (grid shape sizes)) (omega (arith, small, less))) in
    ok_no_err (product counts) cause (sym is ∙ sym refused)
