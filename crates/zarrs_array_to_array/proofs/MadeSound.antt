-- What is made of metadata holds to what its type does.
use Rattle.std.proofs.Common.{◌≡◌, ℕ, nat_le, Bool, true, false, List, Result, Ok, refl, subst}
use Rattle.std.specs.Prelude.{codes}
use Rattle.std.proofs.lemmas.Bool.{and_from}
use Rattle.serde_json.specs.Data.{Members}
use Rattle.serde_json.specs.Find.{as_array, get_member}
use Rattle.zarrs_chunk.specs.Answer.{demand}
use Rattle.zarrs_metadata.specs.CodecMetadata.{members_of, is_transpose_name, transpose_made, is_reshape_name, reshape_made}
use Rattle.zarrs_metadata.specs.Dims.{Dim, autos, has_no_zero, is_reshape}
use Rattle.zarrs_metadata.specs.Metadata.{Metadata}
use Rattle.zarrs_metadata.specs.Orders.{is_order}
use Rattle.zarrs_metadata.specs.ReshapeConfiguration.{dims_in, read_reshape}
use Rattle.zarrs_metadata.specs.ReshapeShape.{reshape_shape_of}
use Rattle.zarrs_metadata.specs.TransposeConfiguration.{read_transpose}
use Rattle.zarrs_metadata.specs.TransposeOrder.{transpose_order_of}
use Rattle.zarrs_metadata.specs.Trees.{needed, without_floats, number_list}
use Rattle.zarrs_metadata.specs.declared.plugin_create_error.PluginCreateError.TheVariants.{UnknownName, NotAPermutation, MultipleAuto, ZeroSize}
use Rattle.zarrs_array_to_array.proofs.AnswerSteps.{step_ok}

pub same_value : {E A : Type 0} (x y : A) → ◌≡◌ {A = Result A E} (Ok x) (Ok y) → x ≡ y
same_value x y e = cc

demand_ok : {E : Type 0} (test : Bool) (cause : E) (u : Unit {0}) → demand test cause ≡ Ok u → test ≡ true
demand_ok true cause u e = refl
demand_ok false cause u e = absurd (cc)

order_read : (members : Members) (order : List ℕ) → read_transpose members ≡ Ok order → is_order order ≡ true
order_read members order e =
    let a = step_ok (without_floats members) _ order e in
    let b = step_ok (needed (get_member (codes "order") members)) _ order a.2 in
    let c = step_ok (number_list b.0) transpose_order_of order b.2 in
    let d = step_ok (demand (is_order c.0) NotAPermutation) (λ _. Ok c.0) order c.2 in
    subst (λ (o : List ℕ). is_order o ≡ true) (same_value c.0 order d.2) (demand_ok (is_order c.0) NotAPermutation d.0 d.1)

dims_read : (members : Members) (dims : List Dim) → read_reshape members ≡ Ok dims → is_reshape dims ≡ true
dims_read members dims e =
    let a = step_ok (without_floats members) _ dims e in
    let b = step_ok (needed (get_member (codes "shape") members)) _ dims a.2 in
    let c = step_ok (needed (as_array b.0)) _ dims b.2 in
    let d = step_ok (dims_in c.0) reshape_shape_of dims c.2 in
    let f = step_ok (demand (has_no_zero d.0) ZeroSize) _ dims d.2 in
    let g = step_ok (demand (nat_le (autos d.0) 1) MultipleAuto) (λ _. Ok d.0) dims f.2 in
    subst (λ (ds : List Dim). is_reshape ds ≡ true) (same_value d.0 dims g.2)
    (and_from (nat_le (autos d.0) 1) (has_no_zero d.0) (demand_ok (nat_le (autos d.0) 1) MultipleAuto g.0 g.1) (demand_ok (has_no_zero d.0) ZeroSize f.0 f.1))

pub order_is : (metadata : Metadata) (order : List ℕ) → transpose_made metadata ≡ Ok order → is_order order ≡ true
order_is metadata order e =
    let members = members_of metadata.configuration in
    order_read members order (step_ok (demand (is_transpose_name metadata.name) UnknownName) (λ _. read_transpose members) order e).2

pub dims_are : (metadata : Metadata) (dims : List Dim) → reshape_made metadata ≡ Ok dims → is_reshape dims ≡ true
dims_are metadata dims e =
    let members = members_of metadata.configuration in
    dims_read members dims (step_ok (demand (is_reshape_name metadata.name) UnknownName) (λ _. read_reshape members) dims e).2
