use Rattle.std.proofs.Common.{◌≡◌, ◌++◌, ◌<◌, ℕ, List, Ok, ap, subst, sym, ◌∙◌}
use Rattle.std.specs.List.{All}
use Rattle.zarrs_array_bytes.specs.Elements.{elements}
use Rattle.zarrs_array_bytes.specs.Held.{Held}
use Rattle.zarrs_array_bytes.specs.Validity.{Holds, validity}
use Rattle.zarrs_bytes.proofs.Coding.{ok}
use Rattle.zarrs_chunk.specs.Answer.{GivesBy}
use Rattle.zarrs_chunk.specs.ChunkShape.{product}
use Rattle.zarrs_chain_meaning.specs.sharding.InnerChunks.{is_divided}
use Rattle.zarrs_shard_bytes.specs.Bands.{chunks_of, part_elements}
use Rattle.zarrs_shard_bytes.proofs.Bands.{band_divided, behind_same, valid_same}
use Rattle.zarrs_shard_bytes.proofs.Sizes.{count_is}
use Rattle.zarrs_chain.proofs.sharding.shard_bands.join_band.Goals as goal

pub append_band-requires-clause-divided : goal.append_band-requires-clause-divided
append_band-requires-clause-divided c =
    let inner : List ℕ = c.args.inner.now in
    let positive : All (λ part. 0 < part) inner = subst (All (λ part. 0 < part)) c.as_slice.ensures.value c.as_slice.ensures.positive in
    ap (is_divided inner) c.requires.form.band_is ∙ band_divided inner c.args.shape.now positive c.requires.form.divided

pub append_band-requires-clause-joinable : goal.append_band-requires-clause-joinable
append_band-requires-clause-joinable c =
    let type = c.args.data_type.now in
    let contents : List Held = c.args.contents.now in
    let whole = count_is (product c.args.inner.now) c.in_ok-whole.whole c.requires.form.inner_counted c.in_ok-whole.ensures.answer in
    record {
      valid = valid_same type c.args.done c.args.elements c.in_ok-elements.elements c.in_ok-elements.ensures.kept.is;
      tight = c.in_ok-elements.ensures.tight;
      contents_valid = subst (λ n. All (λ content. validity type n content ≡ Ok tt) contents) (sym whole) c.requires.joinable.contents_valid;
      contents_tight = c.requires.joinable.contents_tight;
    }

pub returns-clause-answer : goal.returns-clause-answer
returns-clause-answer c =
    let type = c.args.data_type.now in
    let contents : List Held = c.args.contents.now in
    let whole = count_is (product c.args.inner.now) c.in_ok-whole.whole c.requires.form.inner_counted c.in_ok-whole.ensures.answer in
    let given = subst (λ n. GivesBy (Holds type) c.append_band.result (ok (elements type c.args.done c.in_ok-elements.elements ++ part_elements (chunks_of type n contents) 0 0 c.args.inner.now c.args.band.now))) whole c.append_band.ensures.answer in
    behind_same type c.args.done c.args.elements c.in_ok-elements.elements (part_elements (chunks_of type (product c.args.inner.now) contents) 0 0 c.args.inner.now c.args.band.now) c.append_band.result c.in_ok-elements.ensures.kept.is given
