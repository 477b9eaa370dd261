-- A list of metadata, codec by codec.
use Rattle.std.proofs.Common.{◌≡◌, ◌∙◌, ℕ, zero, suc, ◌+◌, ◌<◌, ◌≤◌, length, List, [], ◌∷◌, Ok, Err, Bool, Option, map, drop, get_or, ap, sym, arith}
use Rattle.std.specs.Prelude.{Result}
use Rattle.std.proofs.lemmas.List.{at_drop_more, at_drop_all}
use Rattle.zarrs_chunk.specs.Answer.{◌>>=◌, Answers, Excused, seen}
use Rattle.zarrs_metadata.specs.Metadata.{Metadata}
use Rattle.zarrs_metadata.specs.MetadataV3.{metadata_seen}
use Rattle.zarrs_metadata.specs.PluginCreateError.{plugin_memory}
use Rattle.zarrs_metadata.specs.declared.metadata_v3.MetadataV3.{MetadataV3}
use Rattle.zarrs_metadata.specs.declared.plugin_create_error.PluginCreateError.{PluginCreateError}
use Rattle.zarrs_chain.specs.ChainView.{plain_chain}
use Rattle.zarrs_chain_meaning.specs.MadeChain.{Gathered, codec_made, joined, gathered, finished, nothing_gathered, chain_made, depth_of, depth_all}
use Rattle.zarrs_chain.specs.declared.codec_chain.CodecChain.{CodecChain}
use Rattle.zarrs_chain_meaning.proofs.MadeAlike.{chain_made_at}

-- ---- a list

-- a metadata of a list is no deeper than the list
pub depth_at : (ms : List MetadataV3) (i : ℕ) (m : MetadataV3) → i < length ms → m ≡ get_or ms i m → depth_of (metadata_seen m) ≤ depth_all (map metadata_seen ms)
depth_at [] i m h is = absurd (omega (arith, h))
depth_at (x ∷ xs) zero m h is = omega (arith, ap (λ y. depth_of (metadata_seen y)) is)
depth_at (x ∷ xs) (suc i) m h is = omega (arith, depth_at xs i m (omega (arith, h)) is)

-- what was gathered goes on as the whole list does
abbrev pub GoesOn : {B : Type 0} → (Metadata → Result (Option B) PluginCreateError) → List MetadataV3 → ℕ → Gathered B → Type 0
GoesOn makes ms i so_far =
    gathered (chain_made makes) makes (map metadata_seen (drop i ms)) so_far ≡ gathered (chain_made makes) makes (map metadata_seen ms) nothing_gathered

turn : {B : Type 0} (makes : Metadata → Result (Option B) PluginCreateError) (ms : List MetadataV3) (i : ℕ) (m : MetadataV3) (so_far : Gathered B) → i < length ms → m ≡ get_or ms i m
    → gathered (chain_made makes) makes (map metadata_seen (drop i ms)) so_far
    ≡ (joined (codec_made (chain_made makes) makes (metadata_seen m)) (metadata_seen m).must_understand so_far >>= gathered (chain_made makes) makes (map metadata_seen (drop (i + 1) ms)))
turn makes ms i m so_far within is =
    at_drop_more (λ xs. gathered (chain_made makes) makes (map metadata_seen xs) so_far) ms i m within
    ∙ ap (λ x. joined (codec_made (chain_made makes) makes (metadata_seen x)) (metadata_seen x).must_understand so_far >>= gathered (chain_made makes) makes (map metadata_seen (drop (i + 1) ms))) (sym is)

pub ends_refused : {B : Type 0} (makes : Metadata → Result (Option B) PluginCreateError) (ms : List MetadataV3) (i : ℕ) (m : MetadataV3) (so_far : Gathered B) (refusal : PluginCreateError) → i < length ms → m ≡ get_or ms i m
    → GoesOn makes ms i so_far → Excused (plugin_memory refusal) (joined (codec_made (chain_made makes) makes (metadata_seen m)) (metadata_seen m).must_understand so_far ≡ Err refusal)
    → Excused (plugin_memory refusal) (chain_made makes (map metadata_seen ms) ≡ Err refusal)
ends_refused makes ms i m so_far refusal within is before step = λ none.
    chain_made_at makes (map metadata_seen ms)
    ∙ ap (λ r. r >>= finished) (sym before ∙ turn makes ms i m so_far within is ∙ ap (λ r. r >>= gathered (chain_made makes) makes (map metadata_seen (drop (i + 1) ms))) (step none))

as_answer : {E T V : Type 0} (excuse : E → Bool) (view : T → V) (result : Result T E) (expected : Result V E) → seen view result ≡ expected → Answers excuse view result expected
as_answer excuse view (Ok x) expected h = sym h
as_answer excuse view (Err e) expected h = λ _. sym h

pub ends : {B : Type 0} (makes : Metadata → Result (Option B) PluginCreateError) (ms : List MetadataV3) (i : ℕ) (so_far : Gathered B) (result : Result (CodecChain B) PluginCreateError) → length ms ≤ i
    → GoesOn makes ms i so_far → seen plain_chain result ≡ finished so_far → Answers plugin_memory plain_chain result (chain_made makes (map metadata_seen ms))
ends makes ms i so_far result over before h =
    as_answer plugin_memory plain_chain result (chain_made makes (map metadata_seen ms))
    (h ∙ ap (λ r. r >>= finished) (sym (at_drop_all (λ xs. gathered (chain_made makes) makes (map metadata_seen xs) so_far) ms i over) ∙ before) ∙ sym (chain_made_at makes (map metadata_seen ms)))
