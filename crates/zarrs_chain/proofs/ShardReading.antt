-- The answers of the calls that read a shard.
use Rattle.std.proofs.Common.{◌≡◌, ℕ, ◌+◌, ◌*◌, ◌<◌, nat_eq, Bool, true, false, List, [], ◌∷◌, ◌++◌, length, drop, get_or, replicate, Result, Ok, refl, ap, sym, subst, ◌∙◌}
use Rattle.std.proofs.lemmas.Bool.{eq-eqb}
use Rattle.std.proofs.lemmas.List.{length-replicate}
use Rattle.zarrs_chunk.specs.Answer.{◌>>=◌, AnswersBy, GivesBy, memory, seen}
use Rattle.zarrs_chunk.specs.ChunkShape.{product}
use Rattle.zarrs_chunk.specs.declared.codec_error.CodecError.{CodecError}
use Rattle.zarrs_data_type.specs.Element.{Chunk, fill_element}
use Rattle.zarrs_data_type.specs.ElementType.{ElementType}
use Rattle.zarrs_data_type.specs.FillValue.{fill_fits}
use Rattle.zarrs_array_bytes.specs.Chunks.{fill_chunk, update_at_places}
use Rattle.zarrs_array_bytes.specs.Elements.{elements}
use Rattle.zarrs_array_bytes.specs.Held.{Held}
use Rattle.zarrs_array_bytes.specs.Update.{update}
use Rattle.zarrs_array_bytes.specs.Validity.{Holds, sizes_fit, validity}
use Rattle.zarrs_array_bytes.proofs.UpdatedLemmas.{length-elements}
use Rattle.zarrs_array_bytes.proofs.WriteLemmas.{length-update}
use Rattle.zarrs_array_to_array.proofs.MappedChunks.{holds_elements}
use Rattle.zarrs_bytes.proofs.Coding.{ok, bind_ok}
use Rattle.zarrs_codec.specs.BytesToBytesCodec.{BytesCodecs}
use Rattle.zarrs_chain_meaning.specs.CodecMeaning.{chain_chunk, chain_representation}
use Rattle.zarrs_chain_meaning.specs.Meaning.{Decoder}
use Rattle.zarrs_chain_meaning.specs.sharding.InnerChunks.{grid, inner_chunk_places, is_divided, joined_inner_chunks}
use Rattle.zarrs_chain_meaning.specs.sharding.Sharding.{Span, index_shape, index_size, inner_chunk_at, is_stored, spans_of}
use Rattle.zarrs_chain_meaning.specs.sharding.ShardSteps.{divided_grid, index_bytes, inner_chunks_at}
use Rattle.zarrs_chain_meaning.specs.vlen.Vlen.{offset_bytes, offset_type, offsets_in_chunk}
use Rattle.zarrs_chain_meaning.proofs.ArraySteps.{ok_is}
use Rattle.zarrs_chain_meaning.proofs.ChainSteps.{held_chunk}
use Rattle.zarrs_chain.specs.ChainView.{plain_chain}
use Rattle.zarrs_chain.specs.declared.codec_chain.CodecChain.{CodecChain}
use Rattle.zarrs_chain.specs.sharding.ShardingCalls.{ReadsShard, index_size_of}
use Rattle.zarrs_chain.specs.sharding.ShardWalk.{ReplacesInner, chunk_behind, chunk_with}
use Rattle.zarrs_chain.proofs.ShardDecode.{one_read}
use Rattle.zarrs_chain.proofs.ShardRead.{chunk_replaced, inner_updated, shard_read}
use Rattle.zarrs_shard_bytes.proofs.Sizes.{same_long}

-- ---- an inner chunk is replaced

pub inner_replaced : (type : ElementType) (shape sizes places : List ℕ) (number count : ℕ) (held content : Held) (result : Result Held CodecError) → count ≡ product sizes → places ≡ inner_chunk_places shape sizes number → validity type (product sizes) held ≡ Ok tt → validity type (product shape) content ≡ Ok tt
    → GivesBy (Holds type) result (update_at_places type count places held content) → ReplacesInner shape sizes type number held content result
inner_replaced type shape sizes places number count held content result n p valid new given =
    subst (λ (r : Result Chunk CodecError). GivesBy (Holds type) result r) (inner_updated type shape sizes places number count held content n p valid new) given

-- ---- one inner chunk

pub one_replaced : (decode : Decoder) (shape sizes : List ℕ) (type : ElementType) (fill value : List ℕ) (number : ℕ) (span : Span) (held content : Held) (result : Result Held CodecError) → inner_chunk_at true decode shape type fill value span ≡ Ok (elements type (product shape) content)
    → ReplacesInner shape sizes type number held content result → GivesBy (Holds type) result (chunk_with decode shape sizes type fill value number true span (elements type (product sizes) held))
one_replaced decode shape sizes type fill value number span held content result e given =
    subst (λ (r : Result Chunk CodecError). GivesBy (Holds type) result r) (sym (chunk_replaced decode shape sizes type fill value number span (elements type (product sizes) held) (elements type (product shape) content) e)) given

-- the container of a chunk that an inner chunk isn't stored of
pub not_stored : (decode : Decoder) (shape sizes : List ℕ) (type : ElementType) (fill value : List ℕ) (number : ℕ) (span : Span) (stored : Bool) (held : Held) → validity type (product sizes) held ≡ Ok tt → stored ≡ false
    → AnswersBy memory (Holds type) (Ok held) (chunk_with decode shape sizes type fill value number stored span (elements type (product sizes) held))
not_stored decode shape sizes type fill value number span stored held valid e =
    subst (λ (b : Bool). AnswersBy memory (Holds type) (Ok held) (chunk_with decode shape sizes type fill value number b span (elements type (product sizes) held))) (sym e) (holds_elements type (product sizes) held valid)

-- ---- all of them

with_long : (decode : Decoder) (shape sizes : List ℕ) (type : ElementType) (fill value : List ℕ) (number : ℕ) (stored : Bool) (span : Span) (chunk more : Chunk) → chunk_with decode shape sizes type fill value number stored span chunk ≡ Ok more → length more ≡ length chunk
with_long decode shape sizes type fill value number false span chunk more e = ap (λ (c : Chunk). length c) (sym (ok_is chunk more e))
with_long decode shape sizes type fill value number true span chunk more e =
    let one = bind_ok (inner_chunk_at true decode shape type fill value span) _ more e in
    ap (λ (c : Chunk). length c) (sym (ok_is (update chunk (inner_chunk_places shape sizes number) one.0) more one.2)) ∙ length-update chunk (inner_chunk_places shape sizes number) one.0

-- what is read of a chunk, in a container of so many elements, and what is left to read
pub record WalksTo (decode : Decoder) (shape sizes : List ℕ) (type : ElementType) (fill value numbers : List ℕ) (number : ℕ) (held : Held) (all : Result Chunk CodecError) : Type 0 where
  pub valid : validity type (product sizes) held ≡ Ok tt
  pub rest : chunk_behind decode shape sizes type fill value number (spans_of (drop (number * 2) numbers)) (elements type (product sizes) held) ≡ all

-- fill elements are answered where they fit
pub filled_is : (type : ElementType) (fill : List ℕ) (n count : ℕ) → count ≡ n → fill_fits type fill ≡ true → sizes_fit type n ≡ Ok tt → fill_chunk type count fill ≡ Ok (replicate n (fill_element type fill))
filled_is type fill n count same fits room = ap (λ k. fill_chunk type k fill) same ∙ here
  where
    here : fill_chunk type n fill ≡ Ok (replicate n (fill_element type fill))
    here = rw (fits, room) refl

pub walk_begins : (decode : Decoder) (shape sizes : List ℕ) (type : ElementType) (fill value numbers : List ℕ) (count : ℕ) (held : Held) (all : Result Chunk CodecError) → count ≡ product sizes → fill_fits type fill ≡ true → sizes_fit type (product sizes) ≡ Ok tt
    → AnswersBy memory (Holds type) (Ok held) (fill_chunk type count fill)
    → chunk_behind decode shape sizes type fill value 0 (spans_of numbers) (replicate (product sizes) (fill_element type fill)) ≡ all
    → WalksTo decode shape sizes type fill value numbers 0 held all
walk_begins decode shape sizes type fill value numbers count held all same fits room h e =
    let filled = replicate (product sizes) (fill_element type fill) in
    let holds : Holds type held filled = subst (λ (r : Result Chunk CodecError). AnswersBy memory (Holds type) (Ok held) r) (filled_is type fill (product sizes) count same fits room) h in
    let long : length filled ≡ product sizes = length-replicate (product sizes) (fill_element type fill) in
    let items : filled ≡ elements type (product sizes) held = sym holds.elements_are ∙ ap (λ n. elements type n held) long in
    record {
      valid = ap (λ n. validity type n held) (sym long) ∙ holds.valid;
      rest = ap (chunk_behind decode shape sizes type fill value 0 (spans_of numbers)) (sym items) ∙ e;
    }

pub walk_goes_on : (decode : Decoder) (shape sizes : List ℕ) (type : ElementType) (fill value numbers : List ℕ) (number : ℕ) (span : Span) (held more : Held) (all : Result Chunk CodecError)
    → WalksTo decode shape sizes type fill value numbers number held all → number * 2 + 1 < length numbers → span ≡ (get_or numbers (number * 2) 0, get_or numbers (number * 2 + 1) 0)
    → AnswersBy {E = CodecError} memory (Holds type) (Ok more) (chunk_with decode shape sizes type fill value number (is_stored span) span (elements type (product sizes) held))
    → WalksTo decode shape sizes type fill value numbers (number + 1) more all
walk_goes_on decode shape sizes type fill value numbers number span held more all w l is h =
    let c = held_chunk type more (chunk_with decode shape sizes type fill value number (is_stored span) span (elements type (product sizes) held)) h in
    let long : length c.0 ≡ product sizes = with_long decode shape sizes type fill value number (is_stored span) span (elements type (product sizes) held) c.0 c.1 ∙ length-elements type (product sizes) held in
    let items : c.0 ≡ elements type (product sizes) more = sym c.2.elements_are ∙ ap (λ n. elements type n more) long in
    record {
      valid = ap (λ n. validity type n more) (sym long) ∙ c.2.valid;
      rest =
          ap (chunk_behind decode shape sizes type fill value (number + 1) (spans_of (drop ((number + 1) * 2) numbers))) (sym items)
          ∙ sym (one_read decode shape sizes type fill value numbers number (elements type (product sizes) held) c.0 span l is c.1)
          ∙ w.rest;
    }

-- ---- the index

pub grid_given : (shape sizes : List ℕ) → is_divided shape sizes ≡ true → divided_grid shape sizes ≡ Ok (grid shape sizes)
grid_given shape sizes d =
    let long : nat_eq (length shape) (length sizes) ≡ true = eq-eqb (length shape) (length sizes) (same_long shape sizes d) in
    rw (long, d) refl

pub grid_is : (shape sizes counts : List ℕ) → is_divided shape sizes ≡ true → divided_grid shape sizes ≡ Ok counts → counts ≡ grid shape sizes
grid_is shape sizes counts d e = ok_is counts (grid shape sizes) (sym e ∙ grid_given shape sizes d)

-- the index's size, by the grid that the code has
pub index_sized : {B : Type 0} (f : BytesCodecs B) (index : CodecChain B) (shape sizes counts : List ℕ) → counts ≡ grid shape sizes → index_size_of f index counts ≡ index_size (chain_representation f (plain_chain index)) shape sizes
index_sized f index shape sizes counts g = ap (index_size_of f index) g

-- ---- all of a shard

-- the answer, by the parts that the code found
pub shard_answered : {B : Type 0} (f : BytesCodecs B) (inner index reads sizes_by numbers_by : CodecChain B) (shape sizes counts : List ℕ) (at_end last : Bool) (type : ElementType) (fill value part items numbers : List ℕ) (size : ℕ) (result : Result Held CodecError) → reads ≡ inner → sizes_by ≡ index → numbers_by ≡ index
    → is_divided shape sizes ≡ true → divided_grid shape sizes ≡ Ok counts → index_size_of f sizes_by counts ≡ Ok size → last ≡ at_end → ok part ≡ index_bytes value size last
    → seen (offsets_in_chunk true) (chain_chunk f (plain_chain numbers_by) (counts ++ 2 ∷ []) (offset_type true) (offset_bytes true 0) part) ≡ Ok items → numbers ≡ items
    → GivesBy (Holds type) result (inner_chunks_at (chain_chunk f (plain_chain reads)) shape type fill value (spans_of numbers) >>= (λ inner_chunks. ok (joined_inner_chunks shape sizes inner_chunks)))
    → ReadsShard f inner index shape at_end sizes type fill value result
shard_answered {B} f inner index reads sizes_by numbers_by shape sizes counts at_end last type fill value part items numbers size result inner_is sized_is numbered_is d g s place there found same read =
    let is = grid_is shape sizes counts d g in
    let sized : index_size (chain_representation f (plain_chain index)) shape sizes ≡ Ok size = sym (index_sized f index shape sizes counts is) ∙ ap (λ (x : CodecChain B). index_size_of f x counts) (sym sized_is) ∙ s in
    let bytes_are : index_bytes value size at_end ≡ Ok part = ap (index_bytes value size) (sym place) ∙ sym there in
    let numbers_are : seen (offsets_in_chunk true) (chain_chunk f (plain_chain index) (index_shape shape sizes) (offset_type true) (offset_bytes true 0) part) ≡ Ok numbers =
    ap (λ (cs : List ℕ). seen (offsets_in_chunk true) (chain_chunk f (plain_chain index) (cs ++ 2 ∷ []) (offset_type true) (offset_bytes true 0) part)) (sym is)
    ∙ ap (λ (x : CodecChain B). seen (offsets_in_chunk true) (chain_chunk f (plain_chain x) (counts ++ 2 ∷ []) (offset_type true) (offset_bytes true 0) part)) (sym numbered_is)
    ∙ found ∙ ap ok (sym same) in
    let whole = shard_read f (plain_chain inner) (plain_chain index) shape at_end sizes type fill value part numbers size sized bytes_are numbers_are in
    let inside : GivesBy (Holds type) result (inner_chunks_at (chain_chunk f (plain_chain inner)) shape type fill value (spans_of numbers) >>= (λ inner_chunks. ok (joined_inner_chunks shape sizes inner_chunks))) =
    subst (λ (x : CodecChain B). GivesBy (Holds type) result (inner_chunks_at (chain_chunk f (plain_chain x)) shape type fill value (spans_of numbers) >>= (λ inner_chunks. ok (joined_inner_chunks shape sizes inner_chunks)))) inner_is read in
    subst (λ (r : Result Chunk CodecError). GivesBy (Holds type) result r) (sym whole) inside
