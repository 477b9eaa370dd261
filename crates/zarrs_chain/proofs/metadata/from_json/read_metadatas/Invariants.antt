use Rattle.std.proofs.Common.{◌≡◌, ◌++◌, drop, map}
use Rattle.serde_json.specs.View.{items_view}
use Rattle.zarrs_chunk.specs.Answer.{seen}
use Rattle.zarrs_metadata.specs.MetadataV3.{metadata_seen}
use Rattle.zarrs_chain.specs.ChainJson.{metadatas_shown}
use Rattle.zarrs_chain.proofs.metadata.from_json.read_metadatas.Given as goal

-- the metadata so far and those to come are all
abbrev pub invariant-loop-item : goal.invariant-loop-item
invariant-loop-item l = seen (λ others. map metadata_seen l.metadatas.items ++ others) (metadatas_shown (items_view (drop l.item-index l.item-items))) ≡ metadatas_shown (items_view l.item-items)
