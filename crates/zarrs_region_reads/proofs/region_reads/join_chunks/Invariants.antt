use Rattle.std.proofs.Common.{◌≡◌, ℕ, List, [], map}
use Rattle.std.specs.Prelude.{string_bytes}
use Rattle.std.specs.List.{All}
use Rattle.zarrs_data_type.specs.Element.{Element}
use Rattle.zarrs_array_plan.specs.Joined.{HoldsChunks, IsRegionPart}
use Rattle.zarrs_region_reads.specs.JoinedRead.{IsReadAs, planned_read}
use Rattle.zarrs_region_reads.specs.RegionRead.{AsksAmong}
use Rattle.zarrs_region_reads.proofs.RegionSteps.{JoinedSoFar}
use Rattle.zarrs_region_reads.proofs.region_reads.join_chunks.Given as goal

-- the chunks so far are joined, and the store is as it was
abbrev pub invariant-loop-it : goal.invariant-loop-it
invariant-loop-it g l =
    let read = planned_read (g.R.ChunkPartReader.reads l.reader) (g.S.ReadableStore.state l.initial.store).values in
    record {
      state : g.S.ReadableStore.state l.store ≡ g.S.ReadableStore.state l.initial.store;
      asked : AsksAmong (map (λ it. string_bytes it.key) l.planned) (g.S.ReadableStore.asked l.initial.store) (g.S.ReadableStore.asked l.store);
      joined : (element : List ℕ → Element) (chunk_shape : List ℕ) → All (λ it. IsRegionPart chunk_shape l.region it.part) l.planned
          → HoldsChunks l.data_type element chunk_shape l.region [] l.fn.begun → All (IsReadAs element chunk_shape l.region read) l.planned
          → JoinedSoFar read l.data_type element chunk_shape l.region l.planned l.it-index l.answer;
    }
